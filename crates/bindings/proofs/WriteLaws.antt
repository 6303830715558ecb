-- Writing the entry at which the search for a name ends leaves every other name where it was: its search passes the entry as before, or would have ended
-- there unbound, and then ends at an entry that is unbound too. Assumes nothing.
use Prim.Native.Nat.{ℕ, ◌+◌, ◌*◌, ◌-◌, ◌/◌, ◌%◌, ◌≤◌, ◌<◌}
use mathlib.Core.Path.{◌≡◌, refl, sym, ap, ◌∙◌}
use mathlib.Core.Bool.{true, false}
use mathlib.Core.Logic.{◌⊎◌, inl, inr}
use native.Mathlib.Nat.{div-add-mod'}
use native.Mathlib.Omega.{arith}
use lib.ListN.{length}
use lib.Seq.{get_or-set_same, get_or-set_other}
use Rattle.std.proofs.lemmas.Bool.{cases_lt, cases_eq}
use Rattle.std.specs.Prelude.{Option, Some, None}
use Rattle.tokens.specs.declared.Name.{Name}
use Rattle.rules.specs.Counting.{least}
use Rattle.laws.proofs.BoolLaws.{clash}
use Rattle.rules.proofs.CountingLaws.{least_hit, least-below}
use Rattle.tokens.proofs.Names.{same_true, same_name_lem, other_name}
use Rattle.search.proofs.SearchLaws.{least-is, least-none}
use Rattle.bindings.specs.declared.Value.{Value}
use Rattle.bindings.specs.declared.Binding.{Binding}
use Rattle.bindings.specs.declared.Bindings.{Bindings}
use Rattle.bindings.specs.Table.{home_of, entry, entry_at, stops, stops_at, steps_of, entry_of, written}
use Rattle.bindings.proofs.EntryLaws.{ends_at, ends_nowhere}

-- ---- one entry
-- what ends a search is unbound or has the name
pub stop_cases : (e : Option Binding) (m : Name) → stops e m ≡ true → (e ≡ None) ⊎ ((b : Binding) × (e ≡ Some b) × (b.name ≡ m))
stop_cases None m s = inl refl
stop_cases (Some b) m s = inr (b, refl, same_true b.name m s)

-- what does not is bound
pub stop_not : (e : Option Binding) (m : Name) → stops e m ≡ false → (b : Binding) × (e ≡ Some b)
stop_not None m s = absurd (clash refl s)
stop_not (Some b) m s = (b, refl)

-- ---- where the search ends
-- at the q-th entry, or nowhere
abbrev pub EndsAt : Bindings → Name → ℕ → Type 0
EndsAt t m q = (q < 128) × (stops_at t m q ≡ true) × ((i : ℕ) → i < q → stops_at t m i ≡ false)

abbrev pub Nowhere : Bindings → Name → Type 0
Nowhere t m = (i : ℕ) → i < 128 → stops_at t m i ≡ false

pub at_entry : (t : Bindings) (m : Name) (q : ℕ) → EndsAt t m q → entry_of t m ≡ Some (entry_at m q)
unfolding steps_of
at_entry t m q e = ends_at t m q e.0 (least-is (stops_at t m) 128 q e.0 e.1 e.2)

pub nowhere : (t : Bindings) (m : Name) → Nowhere t m → entry_of t m ≡ None
unfolding steps_of
nowhere t m e = ends_nowhere t m (least-none (stops_at t m) 128 e)

pub search_ends : (t : Bindings) (m : Name) → ((q : ℕ) × EndsAt t m q) ⊎ Nowhere t m
search_ends t m = at (cases_lt q 128)
  where
    q : ℕ
    q = least (stops_at t m) 128

    at : (q < 128) ⊎ (128 ≤ q) → ((q : ℕ) × EndsAt t m q) ⊎ Nowhere t m
    at (inl b) = inl (q, (b, least_hit (stops_at t m) 128 b, least-below (stops_at t m) 128))
    at (inr b) = inr (λ i h. least-below (stops_at t m) 128 i (omega arith))

pub entry_below : (m : Name) (i : ℕ) → entry_at m i < 128
unfolding entry_at
entry_below m i = omega arith

-- each entry comes up: 11 * 35 is 1 more than 3 * 128
few : (d k x : ℕ) → d ≤ 383 → k * 128 + x ≡ d * 35 → 11 * k ≤ 3 * d + 2
few d k x p e = omega arith

turns : (h j d k x m : ℕ) → h + d ≡ j + 256 → k * 128 + x ≡ d * 35 → m + 11 * k ≡ 2 + 3 * d → h + x * 11 ≡ j + m * 128
turns h j d k x m p e f = omega arith

rest : (j m : ℕ) → j < 128 → (j + m * 128) % 128 ≡ j
rest j m h = omega arith

around : (h j d : ℕ) → j < 128 → h + d ≡ j + 256 → d ≤ 383 → (h + d * 35 % 128 * 11) % 128 ≡ j
around h j d q p b =
    let e : d * 35 / 128 * 128 + d * 35 % 128 ≡ d * 35 = div-add-mod' (d * 35) 128 in
    let f : 11 * (d * 35 / 128) ≤ 3 * d + 2 = few d (d * 35 / 128) (d * 35 % 128) b e in
    let g : 3 * d + 2 - 11 * (d * 35 / 128) + 11 * (d * 35 / 128) ≡ 2 + 3 * d = omega arith in
    ap (λ (n : ℕ). n % 128) (turns h j d (d * 35 / 128) (d * 35 % 128) (3 * d + 2 - 11 * (d * 35 / 128)) p e g)
    ∙ rest j (3 * d + 2 - 11 * (d * 35 / 128)) q

home_below : (m : Name) → home_of m ≤ 240
unfolding home_of
home_below m = omega arith

pub comes_up : (m : Name) (j : ℕ) → j < 128 → (i : ℕ) × (i < 128) × (entry_at m i ≡ j)
unfolding entry_at
comes_up m j h =
    let b : home_of m ≤ 240 = home_below m in
    ((j + 256 - home_of m) * 35 % 128, omega arith, around (home_of m) j (j + 256 - home_of m) h (omega arith) (omega arith))

-- ---- an entry written
module _ (t : Bindings) (n : Name) (v : Value) (p : ℕ) (size : length t.entries ≡ 128) (below : p < 128) where
  abbrev new : Bindings
  new = written t n v p

  pub entry_new : entry new p ≡ Some (record { name = n; value = v })
  entry_new = get_or-set_same t.entries p _ None (omega arith)

  -- other entries are as they were
  pub entry_old : (j : ℕ) → (j ≡ p → ⊥) → entry new j ≡ entry t j
  entry_old j o = get_or-set_other t.entries p j _ None o

  stop_other : (m : Name) → (m ≡ n → ⊥) → stops (entry new p) m ≡ false
  stop_other m o = rw entry_new (other_name n m (λ e. o (sym e)))

  stop_own : stops (entry new p) n ≡ true
  stop_own = rw entry_new (same_name_lem n n refl)

  stop_old : (m : Name) (j : ℕ) → (j ≡ p → ⊥) → stops (entry new j) m ≡ stops (entry t j) m
  stop_old m j o = ap (λ e. stops e m) (entry_old j o)

  -- what a search of another name passes, it passes still
  pass_other : (m : Name) (i : ℕ) → (m ≡ n → ⊥) → stops_at t m i ≡ false → stops_at new m i ≡ false
  pass_other m i o e = at (cases_eq (entry_at m i) p)
    where
      at : (entry_at m i ≡ p) ⊎ (entry_at m i ≡ p → ⊥) → stops_at new m i ≡ false
      at (inl z) = ap (λ j. stops (entry new j) m) z ∙ stop_other m o
      at (inr z) = stop_old m (entry_at m i) z ∙ e

  -- the name itself, whose search ended here
  pub own_ends : (q : ℕ) → EndsAt t n q → entry_at n q ≡ p → EndsAt new n q
  own_ends q e f = (e.0, ap (λ j. stops (entry new j) n) f ∙ stop_own, passed)
    where
      passed : (i : ℕ) → i < q → stops_at new n i ≡ false
      passed i h =
          stop_old n (entry_at n i) (λ z. clash (ap (λ j. stops (entry t j) n) (z ∙ sym f) ∙ e.1) (e.2 i h)) ∙ e.2 i h

  -- another name, whose search ended elsewhere, or nowhere
  pub other_ends : (m : Name) (q : ℕ) → (m ≡ n → ⊥) → EndsAt t m q → (entry_at m q ≡ p → ⊥) → EndsAt new m q
  other_ends m q o e f = (e.0, stop_old m (entry_at m q) f ∙ e.1, λ i h. pass_other m i o (e.2 i h))

  pub other_nowhere : (m : Name) → (m ≡ n → ⊥) → Nowhere t m → Nowhere new m
  other_nowhere m o e i h = pass_other m i o (e i h)

  -- a search of another name that ends now ends elsewhere than at the entry written
  pub new_elsewhere : (m : Name) (q : ℕ) → (m ≡ n → ⊥) → EndsAt new m q → entry_at m q ≡ p → ⊥
  new_elsewhere m q o e z = clash e.1 (ap (λ j. stops (entry new j) m) z ∙ stop_other m o)
