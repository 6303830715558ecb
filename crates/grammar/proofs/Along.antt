-- What holds along each token of an expression, and goes on from token to token, holds along the whole of it. Assumes nothing.
use Prim.Native.Nat.{ℕ, zero, suc}
use mathlib.Core.Path.{◌≡◌, refl}
use mathlib.Core.List.{List}
use mathlib.Core.Bool.{false}
use lib.Dec.{eqb}
use Rattle.tokens.specs.Text.{byte}
use Rattle.expression.specs.declared.Operator.{Operator}
use Rattle.expression.specs.declared.Operator.TheVariants as o
use Rattle.expression.specs.Integers.{Result}
use Rattle.grammar.specs.Spells.{Mark, NumberText, ResultText, OperatorText, SumOperator, added, taken, ProductOperator, times, More, stops, next, Chain, TermOf, ExprOf, group, minus, plain, FactorText, QuantityText, alone, composed}

-- from l, which starts with a token, to r behind it; no token of an expression is a comma or a brace
pub record Along (R : List ℕ → List ℕ → Type 0) : Type 0 where
  pub here : {l : List ℕ} → R l l
  pub then : {l m r : List ℕ} → R l m → R m r → R l r
  pub mark : (m : ℕ) {l r : List ℕ} → eqb m (byte ",") ≡ false → eqb m (byte "{") ≡ false → eqb m (byte "}") ≡ false → Mark m l r → R l r
  pub number : {v : ℕ} {l r : List ℕ} → NumberText v l r → R l r

module _ (R : List ℕ → List ℕ → Type 0) (a : Along R) where
  abbrev Holds : ResultText → Type 0
  Holds F = (u : Result) (l r : List ℕ) → F u l r → R l r

  abbrev OperatorHolds : OperatorText → Type 0
  OperatorHolds S = (x : Operator) (l r : List ℕ) → S x l r → R l r

  sum-along : OperatorHolds SumOperator
  sum-along o.Plus l r (added m) = a.mark (byte "+") refl refl refl m
  sum-along o.Minus l r (taken m) = a.mark (byte "-") refl refl refl m
  sum-along o.Times l r z = elim z [ ]

  product-along : OperatorHolds ProductOperator
  product-along o.Plus l r z = elim z [ ]
  product-along o.Minus l r z = elim z [ ]
  product-along o.Times l r (times m) = a.mark (byte "*") refl refl refl m

  module _ (S : OperatorText) (F : ResultText) (s : OperatorHolds S) (f : Holds F) where
    more_along : {v u : Result} {l r : List ℕ} → More S F v u l r → R l r
    more_along (stops z) = a.here
    more_along (next {x = x} {w = w} {l = l} {l₁ = l₁} {l₂ = l₂} m t i) = a.then (s x l l₁ m) (a.then (f w l₁ l₂ t) (more_along i))

    chain-along : Holds (Chain S F)
    chain-along u l r t = a.then (f t.v l t.l₁ t.head) (more_along t.tail)

  expr_along : (F : ResultText) → Holds F → Holds (ExprOf F)
  expr_along F f = chain-along SumOperator (TermOf F) sum-along (chain-along ProductOperator F product-along f)

  factor-along : (d : ℕ) → Holds (FactorText d)
  factor-along zero u l r t = a.number t.spelled
  factor-along (suc d) u l r (group {l₁ = l₁} {l₂ = l₂} m e c) =
      a.then (a.mark (byte "(") refl refl refl m) (a.then (expr_along (FactorText d) (factor-along d) u l₁ l₂ e) (a.mark (byte ")") refl refl refl c))
  factor-along (suc d) u l r (minus {u = v} {l₁ = l₁} m t) = a.then (a.mark (byte "-") refl refl refl m) (factor-along d v l₁ r t)
  factor-along (suc d) u l r (plain t) = a.number t.spelled

  pub quantity_along : {limit v : ℕ} {l r : List ℕ} → QuantityText limit v l r → R l r
  quantity_along (alone t n m) = a.number t
  quantity_along {l = l} {r = r} (composed {u = u} t h) = expr_along (FactorText 16) (factor-along 16) u l r t
