-- Laws of Bool: a test has two outcomes; tests joined by 'and' and 'or', taken apart and put together; a choice between two values. The kit has
-- the others: and-true, and-false, or-true, or-false, and-assoc, and-comm in mathlib.Core.Bool, not-true and not-false in borrow.Author.Tests.
-- Assumes nothing.
use mathlib.Core.Path.{◌≡◌, refl, sym, ◌∙◌}
use mathlib.Core.Bool.{Bool, true, false, not, ◌&&◌, ◌||◌, cond, and-false, true≢false, beq}
use mathlib.Core.Logic.{◌⊎◌, inl, inr}

-- ---- one test
pub never : {A : Type 0} → false ≡ true → A
never e = absurd (true≢false (sym e))

pub clash : {b : Bool} → b ≡ true → b ≡ false → ⊥
clash p q = true≢false (sym p ∙ q)

pub bool : (b : Bool) → (b ≡ true) ⊎ (b ≡ false)
bool true = inl refl
bool false = inr refl

-- tests that follow from each other are the same
pub same_test : (a b : Bool) → (a ≡ true → b ≡ true) → (b ≡ true → a ≡ true) → a ≡ b
same_test true b f g = sym (f refl)
same_test false true f g = g refl
same_test false false f g = refl

-- and so are tests that are found equal
pub beq_is : (a b : Bool) → beq a b ≡ true → a ≡ b
beq_is true true h = refl
beq_is true false h = never h
beq_is false true h = never h
beq_is false false h = refl

-- ---- and: taken apart
pub and_l : (a b : Bool) → a && b ≡ true → a ≡ true
and_l true b e = refl
and_l false b e = e

pub and_r : (a b : Bool) → a && b ≡ true → b ≡ true
and_r true b e = e
and_r false b e = never e

pub and_split : (a b : Bool) → a && b ≡ true → (a ≡ true) × (b ≡ true)
and_split a b e = (and_l a b e, and_r a b e)

pub and_cases : (a b : Bool) → a && b ≡ false → (a ≡ false) ⊎ (b ≡ false)
and_cases true b e = inr e
and_cases false b e = inl refl

-- put together
pub and-join : (a b : Bool) → a ≡ true → b ≡ true → a && b ≡ true
and-join a b p q = simp (p, q)

pub and_left_false : (a b : Bool) → a ≡ false → a && b ≡ false
and_left_false a b e = rw e

pub and_right_false : (a b : Bool) → b ≡ false → a && b ≡ false
and_right_false true b e = e
and_right_false false b e = refl

-- in another order
pub and_swap : (a b c : Bool) → a && (b && c) ≡ b && (a && c)
and_swap true b c = refl
and_swap false b c = sym (and-false b)

-- ---- or: taken apart
pub or_cases : (a b : Bool) → a || b ≡ true → (a ≡ true) ⊎ (b ≡ true)
or_cases true b e = inl refl
or_cases false b e = inr e

pub or_neither : (a b : Bool) → a || b ≡ false → (a ≡ false) × (b ≡ false)
or_neither true b e = absurd (true≢false e)
or_neither false b e = (refl, e)

-- put together
pub or_left : (a b : Bool) → a ≡ true → a || b ≡ true
or_left a b e = rw e

pub or_right : (a b : Bool) → b ≡ true → a || b ≡ true
or_right true b e = refl
or_right false b e = e

-- under 'not'
pub not-or : (a b : Bool) → not (a || b) ≡ not a && not b
not-or true b = refl
not-or false b = refl

-- ---- choices: one choice after another by two tests is one choice by both
pub cond-and : {A : Type 0} (a b : Bool) (x y : A) → cond (a && b) x y ≡ cond a (cond b x y) y
cond-and true b x y = refl
cond-and false b x y = refl

pub cond_same : {A : Type 0} (b : Bool) (x : A) → cond b x x ≡ x
cond_same true x = refl
cond_same false x = refl

-- an answer with a property that the second choice has not is the first choice
pub chosen : {A : Type 0} (P : A → Type 0) (b : Bool) (x y : A) → (P y → ⊥) → P (cond b x y) → b ≡ true
chosen P true x y n h = refl
chosen P false x y n h = absurd (n h)
