-- What a number is, declared: its row of the table, and the parts of its token in order. Assumes nothing.
use Rattle.std.specs.Prelude.{ℕ, ◌≤◌, ◌≡◌, List, ◌++◌, true, length, ltb}
use Rattle.tokens.specs.Bytes.{all}
use Rattle.tokens.specs.Numbers.{digit_of, positional, among, Notation, begins, row_of, ending, is_number, value_of}

-- w is the number v by a row: its prefix, digits, enough of them, and nothing or a U where the row has it
pub record Literal (r : Notation) (w : List ℕ) (v : ℕ) : Type 0 where
  pub lead : List ℕ
  pub digits : List ℕ
  pub tail : List ℕ
  pub parts : w ≡ lead ++ (digits ++ tail)
  pub leads : (begins r.prefix lead ≡ true) × (length lead ≡ length r.prefix)
  pub all_digits : all (among r.digits) digits ≡ true
  pub enough : r.fewest ≤ length digits
  pub ends : ending r.unsigned tail ≡ true
  pub value : positional r.base 0 digits ≡ v

pub record NumbersExact : Type 0 where
  -- a token is a number, with its value, exactly if it is one by its row
  pub sound : (w : List ℕ) → is_number w ≡ true → Literal (row_of w) w (value_of w)
  pub complete : (w : List ℕ) (v : ℕ) → Literal (row_of w) w v → (is_number w ≡ true) × (value_of w ≡ v)
  -- the digits of a row are the bytes whose value is below its base
  pub digits_below : (w : List ℕ) (x : ℕ) → among (row_of w).digits x ≡ ltb (digit_of x) (row_of w).base
