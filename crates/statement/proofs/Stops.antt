-- Where reading stops: each answer is a case of three tests, and in each the place is within the text, or its end. Assumes nothing.
use Prim.Native.Nat.{ℕ, ◌≤◌}
use native.Mathlib.Omega.{arith}
use mathlib.Core.Path.{◌≡◌, refl}
use mathlib.Core.Bool.{Bool, true, false}
use mathlib.Core.List.{List}
use lib.ListN.{length}
use lib.Dec.{leb}
use borrow.Author.Tests.{leb-false}
use Rattle.statement.specs.Reading.{answer_of, longest_text, read_of, whole_c}
use Rattle.statement.specs.Positions.{stop_in}

stop_by_lem : (text : List ℕ) (short ok over : Bool) → leb (length text) longest_text ≡ short → (whole_c text).next.ok ≡ ok → (whole_c text).next.over ≡ over → stop_in (read_of text) ≤ length text
unfolding read_of answer_of
stop_by_lem text true true true e p q = simp (e, p, q) (omega arith)
stop_by_lem text true true false e p q = simp (e, p, q) (omega arith)
stop_by_lem text true false over e p q = simp (e, p) (omega arith)
stop_by_lem text false true true e p q = simp (e, p, q) (omega (arith, leb-false (length text) longest_text e))
stop_by_lem text false true false e p q = simp (e, p, q) (omega (arith, leb-false (length text) longest_text e))
stop_by_lem text false false over e p q = simp (e, p) (omega (arith, leb-false (length text) longest_text e))

-- reading stops within the text, or at its end
pub stop_le : (text : List ℕ) → stop_in (read_of text) ≤ length text
stop_le text = stop_by_lem text (leb (length text) longest_text) (whole_c text).next.ok (whole_c text).next.over refl refl refl
