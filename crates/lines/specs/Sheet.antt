-- The sheet: its limits, its lines by number, and what a line is. Assumes nothing.
use Rattle.std.specs.Prelude.{ℕ, zero, suc, ◌+◌, ◌-◌, ◌≤◌, ◌≡◌, List, [], ◌∷◌, Bool, true, ◌&&◌, ◌||◌, cond, Option, None, Some, length, get_or, take, drop, ltb, leb, eqb}
use Rattle.laws.specs.Tests.{bit}
use Rattle.tokens.specs.Text.{byte, bytes, tab, lf}
use Rattle.tokens.specs.Bytes.{between, same_bytes, all}
use Rattle.lines.specs.declared.Line.{Line}

-- ---- lines end in LF

-- how many bytes stand before the first LF, or before the end
unfoldable pub upto : List ℕ → ℕ
upto [] = 0
upto (x ∷ l) = cond (eqb x lf) 0 (suc (upto l))

-- the first line, without its LF
unfoldable pub text_of : List ℕ → List ℕ
text_of l = take (upto l) l

-- whether an LF ends the first line: bytes after the last LF are a line that has none
unfoldable pub ended_of : List ℕ → Bool
ended_of l = ltb (upto l) (length l)

-- what follows the first line
unfoldable pub rest : List ℕ → List ℕ
rest l = drop (suc (upto l)) l

-- what is left after k lines: the line numbered k + 1 is the first line of it
unfoldable pub after : ℕ → List ℕ → List ℕ
after zero l = l
after (suc k) l = after k (rest l)

-- how many lines: one for each byte at which a line begins, the first and each one after an LF
unfoldable pub count_from : Bool → List ℕ → ℕ
count_from begins [] = 0
count_from begins (x ∷ l) = bit begins + count_from (eqb x lf) l

unfoldable pub line_count : List ℕ → ℕ
line_count l = count_from true l

-- how many LFs
unfoldable pub lfs : List ℕ → ℕ
lfs [] = 0
lfs (x ∷ l) = bit (eqb x lf) + lfs l

-- ---- line 1

-- sheet, tab, 1, tab, sm_100a
abbrev pub header : List ℕ
header = bytes "sheet\t1\tsm_100a"

-- where line 2 starts: after the header and its LF
abbrev pub body_at : ℕ
body_at = suc (length header)

-- line 1 is exactly the header
unfoldable pub headed : List ℕ → Bool
headed s = ended_of s && same_bytes (text_of s) header

-- ---- every other line: a warp byte, a tab, a statement

-- 0 to 3, or *
unfoldable pub warp_byte : ℕ → Bool
warp_byte x = between (byte "0") (byte "3") x || eqb x (byte "*")

-- * is warp 0
unfoldable pub warp_of : ℕ → ℕ
warp_of x = cond (eqb x (byte "*")) 0 (x - byte "0")

-- a byte of a statement: 32 to 126, a space and all that print
unfoldable pub plain : ℕ → Bool
plain x = between (byte " ") (byte "~") x

-- the layout of a line after the first: a warp byte, a tab, bytes of a statement alone, an LF, and at most 2,048 bytes before that
unfoldable pub laid_out : List ℕ → Bool
laid_out l =
    warp_byte (get_or (text_of l) 0 0)
    && eqb (get_or (text_of l) 1 0) tab
    && all plain (drop 2 (text_of l))
    && ended_of l
    && leb (length (text_of l)) 2048

-- what a line after the first is: a layout fault, or a warp and the bytes of a statement
pub data Content : Type 0 where
  fault : Content
  laid : (warp : ℕ) → (statement : List ℕ) → Content

unfoldable pub content_of : List ℕ → Content
content_of l = cond (laid_out l) (laid (warp_of (get_or (text_of l) 0 0)) (drop 2 (text_of l))) fault

-- the line numbered k + 1 of a sheet
abbrev pub content_after : ℕ → List ℕ → Content
content_after k s = content_of (after k s)

-- ---- limits

-- the most bytes and the most lines of a sheet
abbrev pub most_bytes : ℕ
most_bytes = 65536

abbrev pub most_lines : ℕ
most_lines = 4096

-- reason 1, asked of all bytes: more bytes or more lines
unfoldable pub oversize : List ℕ → Bool
oversize s = ltb most_bytes (length s) || ltb most_lines (line_count s)

-- ---- places

-- the line that starts at a place, by the places of its statement and of the next line; a layout fault has none
unfoldable pub line_at : List ℕ → ℕ → Option Line
line_at s at =
    let l = drop at s in
    cond (laid_out l) (Some (record { warp = warp_of (get_or l 0 0); start = at + 2; end = at + upto l; next = at + upto l + 1 })) None

-- where the next line starts; a layout fault has no next line, and 0 stands for it
abbrev pub next_of : Option Line → ℕ
next_of None = 0
next_of (Some r) = r.next

-- where a reader stands after k lines from a place on: each line says where the next one starts
unfoldable pub place_after : List ℕ → ℕ → ℕ → ℕ
place_after s at zero = at
place_after s at (suc k) = next_of (line_at s (place_after s at k))

-- what a line found by places is
abbrev pub content_seen : List ℕ → Option Line → Content
content_seen s None = fault
content_seen s (Some r) = laid r.warp (take (r.end - r.start) (drop r.start s))

-- a place stands after k lines of a sheet
pub record After (s : List ℕ) (k at : ℕ) : Type 0 where
  pub inside : at ≤ length s
  pub here : drop at s ≡ after k s
  pub counted : k + line_count (drop at s) ≡ line_count s
