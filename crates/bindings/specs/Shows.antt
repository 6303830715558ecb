-- A table shows the values of a state of the rules: each name is bound to the same in both. proofs/ShowLaws.antt shows that it
-- then finds a name, and room for one, where the rules do, and goes on as they do. Assumes nothing.
use Rattle.std.specs.Prelude.{ℕ, ◌≡◌, true, List, Some, length, is_some, count_by}
use Rattle.tokens.specs.declared.Name.{Name}
use Rattle.rules.specs.State as rules
use Rattle.rules.specs.Reasons.{room_for}
use Rattle.bindings.specs.declared.Value.{Value}
use Rattle.bindings.specs.declared.Binding.{Binding}
use Rattle.bindings.specs.declared.Bindings.{Bindings}
use Rattle.bindings.specs.Table.{entry, entry_of, found, has_room, after_bind, width, number, width_in, number_in}

-- a name and its value, as the rules have them
abbrev pub binding_of : Name → Value → rules.Binding
binding_of n v = record { name = n; width = width v; number = number v }

pub record Shows (t : Bindings) (values : List rules.Binding) : Type 0 where
  pub entries_128 : length t.entries ≡ 128
  -- the search for the name of a bound entry ends there
  pub placed : (j : ℕ) (b : Binding) → entry t j ≡ Some b → entry_of t b.name ≡ Some j
  -- each name is bound to the same
  pub bound : (n : Name) → is_some (found t n) ≡ rules.is_bound n values
  pub width : (n : Name) → width_in (found t n) ≡ rules.width_of n values
  pub number : (n : Name) → number_in (found t n) ≡ rules.number_of n values
  -- and as many are bound
  pub size : count_by is_some t.entries ≡ length values

-- ---- the claim: what a table that shows the values of a state tells of it
pub record Tells (t : Bindings) (s : rules.State) : Type 0 where
  -- whether a name is bound
  pub bound : (n : Name) → is_some (found t n) ≡ rules.is_bound n s.values
  -- there is room for a name where the search for it ends (reason 7)
  pub room : (n : Name) → room_for s n ≡ has_room t n
  -- the table with that entry written shows the values with the name bound, anew or again
  pub binds : (n : Name) (v : Value) → has_room t n ≡ true → Shows (after_bind t n v) (rules.bind (binding_of n v) s.values)
