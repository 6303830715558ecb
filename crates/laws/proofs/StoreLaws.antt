-- Laws of stores into a list: one after another from a place on, or one before another from the back. Assumes nothing.
use Prim.Native.Nat.{ℕ, suc, ◌+◌, ◌-◌, ◌<◌}
use native.Mathlib.Omega.{arith}
use native.Mathlib.Numerals.{add-one}
use native.Mathlib.Nat.{add-suc, add-zero, suc-add}
use mathlib.Core.Path.{◌≡◌}
use mathlib.Core.List.{List, [], ◌∷◌, ◌++◌}
use lib.ListN.{length, get_or, take, drop, set, length-set, length-drop}
use lib.Seq.{sets, take_all, drop-cons, get_or-set_same, drop-set-lt}

-- a turn of a loop that stores w from a place on
pub put_step : (b : List ℕ) (at : ℕ) (w : List ℕ) (i : ℕ) → i < length w → sets b (at + i) (drop i w) ≡ sets (set b (at + i) (get_or w i 0)) (at + (i + 1)) (drop (i + 1) w)
put_step b at w i h = rw (add-one i, add-suc at i, drop-cons w i 0 h)

-- two lists stored one after the other are stored at once
pub sets-append : (l : List ℕ) (i : ℕ) (vs ws : List ℕ) → sets (sets l i vs) (i + length vs) ws ≡ sets l i (vs ++ ws)
sets-append l i [] ws = rw (add-zero i)
sets-append l i (a ∷ vs) ws = rw (add-suc i (length vs), ← suc-add i (length vs)) (sets-append (set l i a) (suc i) vs ws)

-- what stands from a place on, once it is stored to
pub drop-set : (l : List ℕ) (i x : ℕ) → i < length l → drop i (set l i x) ≡ x ∷ drop (suc i) l
drop-set l i x h =
    let g : i < length (set l i x) = rw (length-set l i x) h in
    let e : i < suc i = omega arith in
    rw (drop-cons (set l i x) i 0 g, get_or-set_same l i x 0 h, drop-set-lt (suc i) l i x e)

-- a slice from a place on, in a list of known length
pub tail_is : (l : List ℕ) (n i : ℕ) → length l ≡ n → take (n - i) (drop i l) ≡ drop i l
tail_is l n i h = take_all (n - i) (drop i l) (omega (arith, length-drop i l))
