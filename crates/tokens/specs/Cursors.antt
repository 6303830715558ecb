-- Tokens by a cursor that stops at the first token that does not fit, and stays there. Assumes nothing.
use Rattle.tokens.specs.Text.{byte}
use Rattle.std.specs.Prelude.{ℕ, List, [], ◌∷◌, Bool, true, false, ◌&&◌, cond, length, drop, leb, eqb}
use Rattle.tokens.specs.declared.Name.{Name}
use Rattle.tokens.specs.declared.Cursor.{Cursor}
use Rattle.tokens.specs.declared.Read.{Read}
use Rattle.tokens.specs.Bytes.{after_blanks, token_of, after_token}
use Rattle.tokens.specs.Names.{is_name, packed, no_name}
use Rattle.tokens.specs.Numbers.{is_number, value_of}

-- the bytes from which reading goes on, or, not ok, from the token at which it stopped; whether a number or an expression was out of range, and the bytes from the first such on
pub record Rest : Type 0 where
  pub rest : List ℕ
  pub ok : Bool
  pub over : Bool
  pub far : List ℕ

abbrev pub seen : List ℕ → Cursor → Rest
seen s k = record { rest = drop k.at s; ok = k.ok; over = k.over; far = drop k.far s }

-- reading goes on at l
abbrev pub on : Rest → List ℕ → Rest
on r l = record { rest = l; ok = true; over = r.over; far = r.far }

-- reading stops at l
abbrev pub off : Rest → List ℕ → Rest
off r l = record { rest = l; ok = false; over = r.over; far = r.far }

-- a number that starts at l was too large: reading goes on after it
abbrev pub large : Rest → List ℕ → Rest
large r l = record { rest = after_token l; ok = true; over = true; far = cond r.over r.far l }

-- a value, and what follows it
pub record Took (A : Type 0) : Type 0 where
  pub value : A
  pub next : Rest

abbrev pub mark_here : ℕ → Rest → List ℕ → Rest
mark_here m r [] = off r []
mark_here m r (x ∷ l) = cond (eqb x m) (on r l) (off r (x ∷ l))

-- past the byte m, which blanks may precede
unfoldable pub mark_c : ℕ → Rest → Rest
mark_c m r = cond r.ok (mark_here m r (after_blanks r.rest)) r

-- past the semicolon, and nothing after it
unfoldable pub end_c : Rest → Rest
end_c r =
    let d = mark_c (byte ";") r in
    record { rest = d.rest; ok = d.ok && eqb (length d.rest) 0; over = d.over; far = d.far }

abbrev pub name_here : Rest → List ℕ → Took Name
name_here r l = cond (is_name (token_of l)) (record { value = packed (token_of l); next = on r (after_token l) }) (record { value = no_name; next = off r l })

-- past a name, which blanks may precede
unfoldable pub name_c : Rest → Took Name
name_c r = cond r.ok (name_here r (after_blanks r.rest)) (record { value = no_name; next = r })

abbrev pub number_is : ℕ → Rest → List ℕ → ℕ → Took ℕ
number_is limit r l v = cond (leb v limit) (record { value = v; next = on r (after_token l) }) (record { value = 0; next = large r l })

abbrev pub number_here : ℕ → Rest → List ℕ → Took ℕ
number_here limit r l = cond (is_number (token_of l)) (number_is limit r l (value_of (token_of l))) (record { value = 0; next = off r l })

-- past a number, which blanks may precede; 0 stands for one over the limit
unfoldable pub number_c : ℕ → Rest → Took ℕ
number_c limit r = cond r.ok (number_here limit r (after_blanks r.rest)) (record { value = 0; next = r })

abbrev pub read_seen : {A : Type 0} → List ℕ → Read A → Took A
read_seen s r = record { value = r.value; next = seen s r.next }
