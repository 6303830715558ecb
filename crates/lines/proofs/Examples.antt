-- Lines, worked out: what each is. Assumes nothing.
use Prim.Native.Nat.{ℕ}
use mathlib.Core.Path.{refl}
use mathlib.Core.List.{[], ◌∷◌, ◌++◌}
use mathlib.Core.Bool.{true, false}
use Rattle.laws.specs.Worked.{Gives}
use Rattle.tokens.specs.Text.{bytes}
use Rattle.lines.specs.Sheet.{upto, text_of, ended_of, count_from, line_count, headed, warp_byte, warp_of, plain, laid_out, fault, laid, content_of}

-- line 1: the header; without its LF; with a CR; the empty sheet
pub headers : Gives headed (
    (bytes "sheet\t1\tsm_100a\n", true)
    ∷ (bytes "sheet\t1\tsm_100a", false)
    ∷ (bytes "sheet\t1\tsm_100a\r\n", false)
    ∷ ([], false)
    ∷ [])
unfolding headed ended_of text_of upto
headers = refl

-- * is warp 0; warp 3, and a line after it; an empty statement is laid out
pub lines_laid : Gives content_of (
    (bytes "*\texit;\n", laid 0 (bytes "exit;"))
    ∷ (bytes "3\texit;\n0\t", laid 3 (bytes "exit;"))
    ∷ (bytes "0\t\n", laid 0 [])
    ∷ [])
unfolding content_of laid_out warp_byte warp_of plain ended_of text_of upto
lines_laid = refl

-- there is no warp 4; bytes after the last LF; an empty line; a warp byte alone; a tab in the statement; a byte 127
pub lines_at-fault : Gives content_of (
    (bytes "4\texit;\n", fault)
    ∷ (bytes "0\texit;", fault)
    ∷ (bytes "\n", fault)
    ∷ (bytes "0\n", fault)
    ∷ (bytes "0\texit;\t\n", fault)
    ∷ (bytes "0\texit" ++ 127 ∷ bytes ";\n", fault)
    ∷ [])
unfolding content_of laid_out warp_byte warp_of plain ended_of text_of upto
lines_at-fault = refl

-- no byte, no line; one LF is a line; bytes after the last LF count
pub counts : Gives {B = ℕ} line_count (([], 0) ∷ (bytes "\n", 1) ∷ (bytes "a\nb", 2) ∷ [])
unfolding line_count count_from
counts = refl
