-- A token is a number exactly if it is a prefix, digits and what may follow them, by its row of the table. Assumes nothing.
use Prim.Native.Nat.{ℕ}
use native.Mathlib.Omega.{arith}
use mathlib.Core.Path.{◌≡◌, refl, sym, ap, ◌∙◌}
use mathlib.Core.List.{List, [], ◌∷◌, ◌++◌}
use mathlib.Core.Logic.{⊎_elim}
use mathlib.Core.Bool.{Bool, true, false, not}
use lib.ListN.{length, take, drop, take-append-drop}
use lib.Seq.{take-append_seam, drop-append_seam, length-take-le}
use lib.Dec.{leb}
use borrow.Author.Tests.{le-leb, leb-true, not-true}
use Rattle.laws.proofs.BoolLaws.{and_split}
use Rattle.tokens.specs.Bytes.{run_len}
use Rattle.tokens.specs.Numbers.{digit_of, among, Notation, begins, row_of, body, digits_len, ending, spells, worth, is_number, value_of}
use Rattle.tokens.specs.Claims.{Literal, NumbersExact}
use Rattle.tokens.proofs.Runs.{run_le, run_all, all_run}
use Rattle.tokens.proofs.Notations.{digits_below_lem, digits_below, row-of, ending-is, begins-length}

-- ---- a row's parts
take_begins : (p : List (List ℕ)) (w : List ℕ) → begins p w ≡ true → begins p (take (length p) w) ≡ true
take_begins [] w h = refl
take_begins (c ∷ p) [] h = h
take_begins (c ∷ p) (x ∷ w) h = let q = and_split (among c x) (begins p w) h in rw q.0 (take_begins p w q.1)

row_parts_lem : (r : Notation) (w : List ℕ) → begins r.prefix w ≡ true → spells r (body r w) ≡ true → Literal r w (worth r (body r w))
unfolding spells worth
row_parts_lem r w b k =
    let d = body r w in
    let n = digits_len r d in
    let t = and_split (leb r.fewest n) (ending r.unsigned (drop n d)) k in
    let m = length-take-le n d (run_le (among r.digits) d) in
    record {
      lead = take (length r.prefix) w;
      digits = take n d;
      tail = drop n d;
      parts = sym (ap (λ (l : List ℕ). take (length r.prefix) w ++ l) (take-append-drop n d) ∙ take-append-drop (length r.prefix) w);
      leads = (take_begins r.prefix w b, length-take-le (length r.prefix) w (omega (arith, begins-length r.prefix w b)));
      all_digits = all_run (among r.digits) d;
      enough = omega (arith, leb-true r.fewest n t.0, m);
      ends = t.1;
      value = refl;
    }

-- U is no digit
abbrev no_u : Notation → Bool
no_u r = not (among r.digits 85)

tail_run : (f : ℕ → Bool) → f 85 ≡ false → (u : Bool) (tail : List ℕ) → ending u tail ≡ true → run_len f tail ≡ 0
tail_run f z u tail h = ⊎_elim (λ e. rw e) (λ e. rw e (rw z)) (ending-is u tail h)

row-whole : (r : Notation) (w : List ℕ) (v : ℕ) → no_u r ≡ true → Literal r w v → (spells r (body r w) ≡ true) × (worth r (body r w) ≡ v)
unfolding spells worth
row-whole r w v u k =
    let f = among r.digits in
    let d : body r w ≡ k.digits ++ k.tail = rw (k.parts, ← k.leads.1) (drop-append_seam k.lead (k.digits ++ k.tail)) in
    let n : digits_len r (k.digits ++ k.tail) ≡ length k.digits = run_all f k.digits k.tail k.all_digits (tail_run f (not-true (f 85) u) r.unsigned k.tail k.ends) in
    rw (d, n, drop-append_seam k.digits k.tail, take-append_seam k.digits k.tail, le-leb r.fewest (length k.digits) k.enough) (k.ends, k.value)

-- ---- the theorem
sound : (w : List ℕ) → is_number w ≡ true → Literal (row_of w) w (value_of w)
unfolding is_number value_of
sound w k = row_parts_lem (row_of w) w (row-of no_u refl w).0 k

complete : (w : List ℕ) (v : ℕ) → Literal (row_of w) w v → (is_number w ≡ true) × (value_of w ≡ v)
unfolding is_number value_of
complete w v k = row-whole (row_of w) w v (row-of no_u refl w).1 k

pub numbers_exact : NumbersExact
unfolding digit_of
numbers_exact = record { sound = sound; complete = complete; digits_below = λ w. digits_below (row_of w) (row-of digits_below_lem refl w).1 }
