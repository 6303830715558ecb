-- What the arm of a `match` knows of a value that is one of several variants: a claim that holds at each of them holds of it. With `search` for the
-- claims that hold by computation, a law says no more than which variants are left out. Assumes nothing.
use Prim.Native.Nat.{ℕ, suc}
use mathlib.Core.Path.{◌≡◌, sym, subst}
use mathlib.Core.Bool.{cond}
use mathlib.Core.List.{List, [], ◌∷◌}
use mathlib.Core.Logic.{⊎_elim}
use types.Run.{OneOf}
use denote.Struct.Field.{Field}
use denote.Enum.Declared.{Record, declared, tag_of}
use borrow.Enum.Known.{ValuesAt, at, lives_at}
use Rattle.laws.specs.Tests.{among}

-- the places in a declaration, but for some
abbrev places_from : ℕ → List (List Field) → List ℕ → List ℕ
places_from k [] ks = []
places_from k (v ∷ vs) ks = cond (among k ks) (places_from (suc k) vs ks) (k ∷ places_from (suc k) vs ks)

abbrev pub all_but : Record → List ℕ → List ℕ
all_but N ks = places_from 0 N.parts ks

module _ (N : Record) (Claim : N.D → Type 0) where
  -- at these places, whatever the values of the variant
  abbrev pub AtEach : List ℕ → Type 0
  AtEach [] = Unit {0}
  AtEach (k ∷ ks) = ((v : ValuesAt N.parts k) → Claim (at N k v)) × AtEach ks

  at_one : (k : ℕ) (x : N.D) → ((v : ValuesAt N.parts k) → Claim (at N k v)) → tag_of (declared N) x ≡ k → Claim x
  at_one k x h e =
      let p = lives_at N x k e in
      subst Claim (sym p.1) (h p.0)

  pub at_each : (ks : List ℕ) (x : N.D) → OneOf ks (tag_of (declared N) x) → AtEach ks → Claim x
  at_each [] x e h = absurd e
  at_each (k ∷ []) x e h = at_one k x h.0 e
  at_each (k ∷ k' ∷ ks) x e h = ⊎_elim (at_one k x h.0) (λ l. at_each (k' ∷ ks) x l h.1) e
