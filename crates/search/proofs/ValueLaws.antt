-- What a list of values tells of a name once a value is bound: of the name itself what was bound, of any other what it told before. One law for the
-- width, the number and being bound at all. Assumes nothing.
use Prim.Native.Nat.{suc, ◌+◌}
use mathlib.Core.Path.{◌≡◌, refl, sym, ap, ◌∙◌}
use mathlib.Core.Bool.{Bool, true, false, ◌||◌, cond}
use mathlib.Core.List.{List, [], ◌∷◌}
use native.Mathlib.Omega.{arith}
use lib.ListN.{length}
use Rattle.tokens.specs.declared.Name.{Name}
use Rattle.tokens.specs.Names.{same_name}
use Rattle.rules.specs.State.{Binding, is_bound, width_of, number_of, bind}
use Rattle.tokens.proofs.Names.{same_true, same_name_lem, other_name}

-- ---- f of the value of a name; d where it has none
unfoldable told : {A : Type 0} → (Binding → A) → A → Name → List Binding → A
told f d n [] = d
told f d n (b ∷ l) = cond (same_name b.name n) (f b) (told f d n l)

module _ {A : Type 0} (f : Binding → A) (d : A) (b : Binding) where
  told_own : (l : List Binding) → told f d b.name (bind b l) ≡ f b
  unfolding told bind
  told_own [] = rw (same_name_lem b.name b.name refl)
  told_own (c ∷ l) = at (same_name c.name b.name) refl (told_own l)
    where
      at : (t : Bool) → same_name c.name b.name ≡ t → told f d b.name (bind b l) ≡ f b → told f d b.name (cond t (b ∷ l) (c ∷ bind b l)) ≡ f b
      at true e ih = rw (same_name_lem b.name b.name refl)
      at false e ih = rw e ih

  told_other : (m : Name) → (m ≡ b.name → ⊥) → (l : List Binding) → told f d m (bind b l) ≡ told f d m l
  unfolding told bind
  told_other m o [] = rw (other_name b.name m (λ e. o (sym e)))
  told_other m o (c ∷ l) = at (same_name c.name b.name) refl (told_other m o l)
    where
      at : (t : Bool) → same_name c.name b.name ≡ t → told f d m (bind b l) ≡ told f d m l
          → told f d m (cond t (b ∷ l) (c ∷ bind b l)) ≡ cond (same_name c.name m) (f c) (told f d m l)
      at true e ih = rw (other_name b.name m (λ z. o (sym z)), other_name c.name m (λ z. o (sym z ∙ same_true c.name b.name e)))
      at false e ih = rw ih

-- ---- the three that the rules have
width-told : (n : Name) (l : List Binding) → width_of n l ≡ told (λ b. b.width) 0 n l
unfolding width_of told
width-told n [] = refl
width-told n (b ∷ l) = ap (cond (same_name b.name n) b.width) (width-told n l)

number-told : (n : Name) (l : List Binding) → number_of n l ≡ told (λ b. b.number) 0 n l
unfolding number_of told
number-told n [] = refl
number-told n (b ∷ l) = ap (cond (same_name b.name n) b.number) (number-told n l)

or-cond : (a b : Bool) → a || b ≡ cond a true b
or-cond true b = refl
or-cond false b = refl

bound_told : (n : Name) (l : List Binding) → is_bound n l ≡ told (λ b. true) false n l
unfolding is_bound told
bound_told n [] = refl
bound_told n (b ∷ l) = or-cond (same_name b.name n) (is_bound n l) ∙ ap (cond (same_name b.name n) true) (bound_told n l)

-- ---- a value bound: its own name, and any other
module _ (b : Binding) (l : List Binding) where
  pub own_width : width_of b.name (bind b l) ≡ b.width
  own_width = width-told b.name (bind b l) ∙ told_own (λ x. x.width) 0 b l

  pub own_number : number_of b.name (bind b l) ≡ b.number
  own_number = number-told b.name (bind b l) ∙ told_own (λ x. x.number) 0 b l

  pub own_bound : is_bound b.name (bind b l) ≡ true
  own_bound = bound_told b.name (bind b l) ∙ told_own (λ x. true) false b l

  module _ (m : Name) (o : m ≡ b.name → ⊥) where
    pub other_width : width_of m (bind b l) ≡ width_of m l
    other_width = width-told m (bind b l) ∙ told_other (λ x. x.width) 0 b m o l ∙ sym (width-told m l)

    pub other_number : number_of m (bind b l) ≡ number_of m l
    other_number = number-told m (bind b l) ∙ told_other (λ x. x.number) 0 b m o l ∙ sym (number-told m l)

    pub other_bound : is_bound m (bind b l) ≡ is_bound m l
    other_bound = bound_told m (bind b l) ∙ told_other (λ x. true) false b m o l ∙ sym (bound_told m l)

-- as many values as before, and one more for a new name
pub bound_length : (b : Binding) (l : List Binding) → length (bind b l) ≡ cond (is_bound b.name l) 0 1 + length l
unfolding is_bound bind
bound_length b [] = refl
bound_length b (c ∷ l) = at (same_name c.name b.name) (bound_length b l)
  where
    at : (t : Bool) → length (bind b l) ≡ cond (is_bound b.name l) 0 1 + length l
        → length (cond t (b ∷ l) (c ∷ bind b l)) ≡ cond (t || is_bound b.name l) 0 1 + suc (length l)
    at true ih = omega arith
    at false ih = omega arith
