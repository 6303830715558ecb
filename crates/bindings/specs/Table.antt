-- The table of value names (docs/FORMAT.md, 'Booking'): 128 entries, each unbound or with a name and its value. Assumes nothing.
use Rattle.std.specs.Prelude.{ℕ, ◌+◌, ◌*◌, ◌%◌, Bool, true, cond, Option, None, Some, Result, Ok, Err, ltb, get_or, set, replicate, is_some, option_map, option_and_then, unwrap_or}
use Rattle.reasons.specs.declared.Reason.{Reason}
use Rattle.reasons.specs.declared.Reason.TheVariants as reason
use Rattle.tokens.specs.declared.Name.{Name}
use Rattle.tokens.specs.Names.{same_name}
use Rattle.rules.specs.Counting.{least}
use Rattle.bindings.specs.declared.Value.{Value}
use Rattle.bindings.specs.declared.Value.TheVariants.{B32, B64}
use Rattle.bindings.specs.declared.Binding.{Binding}
use Rattle.bindings.specs.declared.Bindings.{Bindings}

-- no name is bound
abbrev pub empty : Bindings
empty = record { entries = replicate 128 None }

-- what entry j holds
abbrev pub entry : Bindings → ℕ → Option Binding
entry t j = get_or t.entries j None

-- ---- the entry of a name
-- where the search for a name starts, and the entries in its order: any numbers would do that lead to every entry; with these the names of kernels seldom meet
unfoldable pub home_of : Name → ℕ
home_of name = name.hi % 121 + name.lo % 121

unfoldable pub entry_at : Name → ℕ → ℕ
entry_at name i = (home_of name + i * 11) % 128

-- an entry ends the search: it is unbound, or it has the name
abbrev pub stops : Option Binding → Name → Bool
stops None name = true
stops (Some b) name = same_name b.name name

-- the i-th entry of the search ends it
abbrev pub stops_at : Bindings → Name → ℕ → Bool
stops_at t name i = stops (entry t (entry_at name i)) name

-- how many entries the search passes; 128 where all are bound to other names
unfoldable pub steps_of : Bindings → Name → ℕ
steps_of t name = least (stops_at t name) 128

-- the entry at which it ends; none where all are bound to other names
unfoldable pub entry_of : Bindings → Name → Option ℕ
entry_of t name = cond (ltb (steps_of t name) 128) (Some (entry_at name (steps_of t name))) None

-- ---- what is found
-- what a name is bound to
abbrev pub found : Bindings → Name → Option Value
found t name = option_and_then (λ j. option_map (λ b. b.value) (entry t j)) (entry_of t name)

-- ---- what is bound
-- the table with one entry written
abbrev pub written : Bindings → Name → Value → ℕ → Bindings
written t name value j = record { entries = set t.entries j (Some (record { name = name; value = value })) }

-- there is room for a name where the search for it ends (reason 7)
abbrev pub has_room : Bindings → Name → Bool
has_room t name = is_some (entry_of t name)

-- the table with the name bound, anew or again; the same table where there is no room
abbrev pub after_bind : Bindings → Name → Value → Bindings
after_bind t name value = unwrap_or (option_map (written t name value) (entry_of t name)) t

-- the answer to a name that is to be bound
abbrev pub bind_answer : Bindings → Name → Result (Unit {0}) Reason
bind_answer t name = cond (has_room t name) (Ok tt) (Err reason.Values)

-- ---- a value as the rules have it
abbrev pub width : Value → ℕ
width (B32 v) = 32
width (B64 v) = 64

abbrev pub number : Value → ℕ
number (B32 v) = v
number (B64 v) = v

-- the width and the number of what is found; 0 where it is nothing
abbrev pub width_in : Option Value → ℕ
width_in r = unwrap_or (option_map width r) 0

abbrev pub number_in : Option Value → ℕ
number_in r = unwrap_or (option_map number r) 0
