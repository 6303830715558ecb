-- Laws of parts added to a text, one after another. Assumes nothing.
use Rattle.std.proofs.Common.{◌≡◌, ℕ, ◌+◌, ◌-◌, ◌<◌, ◌≤◌, List, [], ◌++◌, Bool, true, false, ◌&&◌, cond, leb, Option, Some, None, Result, Ok, Err, ◌↔◌, length, refl, sym, arith, length-append, append_assoc}
use Rattle.std.proofs.lemmas.List.Edits.{sets, sets-eq}
use borrow.Rule.Slice.PartMut.{put_mid}
use lib.Seq.{drop-drop}
use mathlib.Core.Bool.{and-false}
use mathlib.Core.List.{append-nil}
use borrow.Author.Tests.{le-leb, lt-leb, leb-true, leb-false}
use Rattle.std.specs.Result.{IsOk, OnOk, OnErr, is_err}
use Rattle.laws.proofs.BoolLaws.{never, same_test}
use Rattle.pieces.specs.Texts.{added}

-- what is refused stays so
pub added_refused : (n : ℕ) (w : List ℕ) (b : Bool) → added n w b None ≡ None
unfolding added
added_refused n w b = refl

-- what is not given is refused
pub added_none : (n : ℕ) (w : List ℕ) (t : Option (List ℕ)) → None ≡ added n w false t
unfolding added
added_none n w None = refl
added_none n w (Some l) = refl

pub added_fits : (n : ℕ) (w l : List ℕ) → length l + length w ≤ n → added n w true (Some l) ≡ Some (l ++ w)
unfolding added
added_fits n w l h = rw (le-leb (length w) (n - length l) (omega arith))

added_full : (n : ℕ) (w l : List ℕ) (b : Bool) → n - length l < length w → added n w b (Some l) ≡ None
unfolding added
added_full n w l b h = rw (lt-leb _ _ h, and-false b)

-- no bytes have room
pub added_nothing : (n : ℕ) (t : Option (List ℕ)) → t ≡ added n [] true t
unfolding added
added_nothing n None = refl
added_nothing n (Some l) = rw (append-nil, le-leb 0 (n - length l) (omega arith))

-- ---- `put`: r is what the buffer answers
module _ {A E : Type 0} (n : ℕ) (w l : List ℕ) (refused : Bool) (fits : length l ≤ n) where
  pub put_none : (r : Result A E) → (IsOk r ↔ (length l + length w ≤ n)) → is_err r ≡ true → None ≡ added n w true (cond refused None (Some l))
  put_none (Ok x) h e = never e
  put_none (Err x) h e = by refused
    where
      by : (b : Bool) → None ≡ added n w true (cond b None (Some l))
      by true = sym (added_refused n w true)
      by false = let k : length l + length w ≤ n → ⊥ = λ f. never (h.1 f) in sym (added_full n w l true (omega (arith, k)))

  pub put_some : (r : Result A E) (items : List ℕ) → (IsOk r ↔ (length l + length w ≤ n)) → OnOk r (items ≡ l ++ w) → is_err r ≡ false → cond refused None (Some items) ≡ added n w true (cond refused None (Some l))
  put_some (Ok x) items h k e = by refused
    where
      by : (b : Bool) → cond b None (Some items) ≡ added n w true (cond b None (Some l))
      by true = sym (added_refused n w true)
      by false = rw k (sym (added_fits n w l (h.0 refl)))
  put_some (Err x) items h k e = never (sym e)

-- the buffer keeps its bound
pub put_fits : {A E B : Type 0} (n : ℕ) (w : List ℕ) (items : B → List ℕ) (was now : B) (r : Result A E) → length (items was) ≤ n
    → (IsOk r ↔ (length (items was) + length w ≤ n)) → OnOk r (items now ≡ items was ++ w) → OnErr r (now ≡ was) → length (items now) ≤ n
put_fits n w items was now (Ok x) fits h k e = rw k (omega (arith, length-append (items was) w, h.0 refl))
put_fits n w items was now (Err x) fits h k e = rw e fits

-- ---- one addition after another is one
room_after : (n a u w : ℕ) → u ≤ n - a → leb w (n - (a + u)) ≡ leb (u + w) (n - a)
room_after n a u w h = same_test _ _ (λ e. le-leb _ _ (omega (arith, leb-true w (n - (a + u)) e))) (λ e. le-leb _ _ (omega (arith, leb-true (u + w) (n - a) e)))

join_by : (n : ℕ) (u w l : List ℕ) (c t : Bool) → leb (length u) (n - length l) ≡ t → added n w c (added n u true (Some l)) ≡ added n (u ++ w) c (Some l)
unfolding added
join_by n u w l c true e =
    rw (e, length-append l u, length-append u w, room_after n (length l) (length u) (length w) (leb-true _ _ e), append_assoc l u w)
join_by n u w l c false e =
    let p : n - length l < length (u ++ w) = omega (arith, length-append u w, leb-false _ _ e) in
    rw (e, lt-leb _ _ p, and-false c)

pub join : (n : ℕ) (u w : List ℕ) (b c : Bool) (t : Option (List ℕ)) → added n w c (added n u b t) ≡ added n (u ++ w) (b && c) t
join n u w b c None = rw (added_refused n u b, added_refused n w c, added_refused n (u ++ w) (b && c))
join n u w true c (Some l) = join_by n u w l c (leb (length u) (n - length l)) refl
join n u w false c (Some l) = rw (← added_none n u (Some l), added_refused n w c, ← added_none n (u ++ w) (Some l))

-- ---- bytes copied into a part of a room
pub copied : (room w part : List ℕ) (at k : ℕ) → part ≡ w → k ≡ length w → at + length w ≤ length room → put_mid at k room part ≡ sets room at w
copied room w part at k e f h = rw (e, f, sets-eq w room at h, drop-drop (length w) at room, append_assoc)
