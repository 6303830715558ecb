-- The search for a name's entry ends at the first entry for it that is unbound or has it. Assumes nothing.
use Rattle.std.proofs.Common.{ℕ, ◌+◌, ◌*◌, ◌%◌, ◌<◌, ◌≡◌, true, false, None, Some, refl, sym, ap, ◌∙◌, subst, lt-ltb}
use Rattle.tokens.specs.declared.Name.{Name}
use Rattle.rules.specs.Counting.{least}
use Rattle.search.proofs.SearchLaws.{least_more, least-here}
use Rattle.bindings.specs.declared.Bindings.{Bindings}
use Rattle.bindings.specs.Table.{home_of, entry, entry_at, stops, stops_at, steps_of, entry_of}

module _ (t : Bindings) (name : Name) where
  -- so many entries have been passed
  abbrev pub Passed : ℕ → Type 0
  Passed i = least (stops_at t name) i ≡ i

  pub entry_start : Passed 0
  unfolding least
  entry_start = refl

  pub ends_at : (i : ℕ) → i < 128 → steps_of t name ≡ i → entry_of t name ≡ Some (entry_at name i)
  unfolding entry_of
  ends_at i h e = rw (e, lt-ltb i 128 h)

  pub ends_nowhere : steps_of t name ≡ 128 → entry_of t name ≡ None
  unfolding entry_of
  ends_nowhere e = rw e

  -- the next entry is looked at
  module _ (i j : ℕ) (p : Passed i) (h : i < 128) (e : j ≡ (home_of name + i * 11) % 128) where
    entry_is : j ≡ entry_at name i
    unfolding entry_at
    entry_is = e

    pub entry_here : true ≡ stops (entry t j) name → Some j ≡ entry_of t name
    unfolding steps_of
    entry_here q =
        ap (λ n. Some n) entry_is
        ∙ sym (ends_at i h (least-here (stops_at t name) i 128 p (q ∙ ap (λ n. stops (entry t n) name) entry_is) refl h))

    pub entry_more : false ≡ stops (entry t j) name → Passed (i + 1)
    entry_more q = least_more (stops_at t name) i p (q ∙ ap (λ n. stops (entry t n) name) entry_is) refl

  pub entry_end : (i : ℕ) → Passed i → i ≡ 128 → None ≡ entry_of t name
  unfolding steps_of
  entry_end i p e = sym (ends_nowhere (subst (λ n. least (stops_at t name) n ≡ n) e p))
