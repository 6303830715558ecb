-- A table that shows the values of a state answers as the rules say, and its next table shows what the line does to them. The search for a name ends at an
-- unbound entry exactly where the rules have no value, and nowhere exactly where all 128 entries have other names. Assumes nothing.
use Prim.Native.Nat.{ℕ, zero, suc, ◌+◌, ◌<◌}
use mathlib.Core.Path.{◌≡◌, refl, sym, ap, ◌∙◌, subst}
use mathlib.Core.Bool.{Bool, true, false, cond}
use mathlib.Core.List.{List, [], ◌∷◌}
use mathlib.Core.Logic.{◌⊎◌, inl, inr}
use native.Mathlib.Omega.{arith}
use lib.Dec.{ltb}
use lib.ListN.{length, replicate, get_or, length-set, length-replicate}
use borrow.Author.Tests.{lt-ltb, le-ltb}
use Rattle.std.specs.Prelude.{Option, Some, None, Ok, Err, is_some, option_map, count_by}
use Rattle.reasons.specs.declared.Reason.{Reason}
use Rattle.reasons.specs.declared.Reason.TheVariants as reason
use Rattle.std.proofs.lemmas.Bool.{cases_Bool, cases_eq}
use Rattle.std.proofs.lemmas.List.Sums.{sum_by-cons, sum_by-set, count_by-le-length}
use Rattle.tokens.specs.declared.Name.{Name}
use Rattle.tokens.specs.Names.{same_name}
use Rattle.rules.specs.State as rules
use Rattle.rules.specs.Reasons.{room_for}
use Rattle.laws.proofs.BoolLaws.{clash}
use Rattle.tokens.proofs.Names.{same_true, same_name_lem}
use Rattle.search.proofs.ValueLaws.{own_width, own_number, own_bound, other_width, other_number, other_bound, bound_length}
use Rattle.bindings.specs.declared.Value.{Value}
use Rattle.bindings.specs.declared.Value.TheVariants.{B64}
use Rattle.bindings.specs.declared.Binding.{Binding}
use Rattle.bindings.specs.declared.Bindings.{Bindings}
use Rattle.bindings.specs.Table.{empty, entry, entry_at, entry_of, stops, found, has_room, written, after_bind, bind_answer, width_in, number_in}
use Rattle.bindings.specs.Shows.{binding_of, Shows, Tells}
use Rattle.bindings.proofs.WriteLaws.{EndsAt, Nowhere, at_entry, nowhere, search_ends, stop_cases, stop_not, entry_below, comes_up, entry_new, entry_old, own_ends, other_ends, other_nowhere, new_elsewhere}

-- ---- what is found
-- the value of an entry
abbrev value_of : Option Binding → Option Value
value_of e = option_map (λ b. b.value) e

found_at : (t : Bindings) (m : Name) (j : ℕ) → entry_of t m ≡ Some j → found t m ≡ value_of (entry t j)
found_at t m j e = rw e

found_none : (t : Bindings) (m : Name) → entry_of t m ≡ None → found t m ≡ None
found_none t m e = rw e

-- of a table that shows values: what was found, by width and number
pub found_is : {t : Bindings} {values : List rules.Binding} → Shows t values → (n : Name) (r : Option Value) → r ≡ found t n
    → (is_some r ≡ rules.is_bound n values) × (width_in r ≡ rules.width_of n values) × (number_in r ≡ rules.number_of n values)
found_is h n r e = (ap is_some e ∙ h.bound n, ap width_in e ∙ h.width n, ap number_in e ∙ h.number n)

-- ---- nothing is bound
nones : (n j : ℕ) → ◌≡◌ {A = Option Binding} (get_or (replicate n None) j None) None
nones zero j = refl
nones (suc n) zero = refl
nones (suc n) (suc j) = nones n j

empty_found : (n : Name) → found empty n ≡ None
empty_found n = at (search_ends empty n)
  where
    at : ((q : ℕ) × EndsAt empty n q) ⊎ Nowhere empty n → found empty n ≡ None
    at (inl q) = found_at empty n (entry_at n q.0) (at_entry empty n q.0 q.1) ∙ ap value_of (nones 128 (entry_at n q.0))
    at (inr q) = found_none empty n (nowhere empty n q)

pub shows_empty : Shows empty []
unfolding rules.width_of rules.number_of rules.is_bound
shows_empty = record {
  entries_128 = length-replicate {A = Option Binding} 128 None;
  placed = λ j b e. let z : Some b ≡ None = sym e ∙ nones 128 j in absurd (cc);
  bound = λ n. ap is_some (empty_found n);
  width = λ n. ap width_in (empty_found n);
  number = λ n. ap number_in (empty_found n);
  size = refl;
}

-- ---- a name bound
module _ (t : Bindings) (values : List rules.Binding) (h : Shows t values) (n : Name) (v : Value) (q : ℕ) (e : EndsAt t n q) where
  -- the entry written, what is bound, and the next table
  abbrev p : ℕ
  p = entry_at n q

  abbrev b : Binding
  b = record { name = n; value = v }

  abbrev new : Bindings
  new = written t n v (entry_at n q)

  abbrev after : List rules.Binding
  after = rules.bind (binding_of n v) values

  below : p < 128
  below = entry_below n q

  here : entry new p ≡ Some b
  here = entry_new t n v p h.entries_128 below

  there : (j : ℕ) → (j ≡ p → ⊥) → entry new j ≡ entry t j
  there = entry_old t n v p h.entries_128 below

  -- at another name the entry was unbound
  was_unbound : (m : Name) → (m ≡ n → ⊥) → entry_of t m ≡ Some p → entry t p ≡ None
  was_unbound m o s = at (search_ends t m)
    where
      both : (entry t p ≡ None) ⊎ ((b : Binding) × (entry t p ≡ Some b) × (b.name ≡ m)) → (entry t p ≡ None) ⊎ ((b : Binding) × (entry t p ≡ Some b) × (b.name ≡ n))
          → entry t p ≡ None
      both (inl z) y = z
      both (inr z) (inl y) = y
      both (inr z) (inr y) = let u : z.0 ≡ y.0 = let w = sym z.1 ∙ y.1 in cc in absurd (o (sym z.2 ∙ ap (λ (b : Binding). b.name) u ∙ y.2))

      at : ((r : ℕ) × EndsAt t m r) ⊎ Nowhere t m → entry t p ≡ None
      at (inr r) = let u : None ≡ Some p = sym (nowhere t m r) ∙ s in absurd (cc)
      at (inl r) =
          let u : entry_at m r.0 ≡ p = let w = sym (at_entry t m r.0 r.1) ∙ s in cc in
          both (stop_cases (entry t p) m (ap (λ j. stops (entry t j) m) (sym u) ∙ r.1.1)) (stop_cases (entry t p) n e.1)

  -- the search for another name that now ends elsewhere than it did ends at an unbound entry
  moved_on : (m : Name) → (m ≡ n → ⊥) → entry_of t m ≡ Some p → found new m ≡ None
  moved_on m o s = at (search_ends new m)
    where
      at : ((r : ℕ) × EndsAt new m r) ⊎ Nowhere new m → found new m ≡ None
      at (inr r) = found_none new m (nowhere new m r)
      at (inl r) = found_at new m j (at_entry new m r.0 r.1) ∙ bare (stop_cases (entry new j) m r.1.1)
        where
          j : ℕ
          j = entry_at m r.0

          apart : j ≡ p → ⊥
          apart = new_elsewhere t n v p h.entries_128 below m r.0 o r.1

          bare : (entry new j ≡ None) ⊎ ((b : Binding) × (entry new j ≡ Some b) × (b.name ≡ m)) → value_of (entry new j) ≡ None
          bare (inl z) = rw z
          bare (inr z) =
              let u : Some j ≡ Some p = sym (h.placed j z.0 (sym (there j apart) ∙ z.1)) ∙ ap (entry_of t) z.2 ∙ s in
              let w : j ≡ p = cc in
              absurd (apart w)

  -- another name is bound to what it was
  other_found : (m : Name) → (m ≡ n → ⊥) → found new m ≡ found t m
  other_found m o = at (search_ends t m)
    where
      at : ((r : ℕ) × EndsAt t m r) ⊎ Nowhere t m → found new m ≡ found t m
      at (inr r) = found_none new m (nowhere new m (other_nowhere t n v p h.entries_128 below m o r)) ∙ sym (found_none t m (nowhere t m r))
      at (inl r) = by (cases_eq (entry_at m r.0) p)
        where
          was : entry_of t m ≡ Some (entry_at m r.0)
          was = at_entry t m r.0 r.1

          by : (entry_at m r.0 ≡ p) ⊎ (entry_at m r.0 ≡ p → ⊥) → found new m ≡ found t m
          by (inl z) =
              let s : entry_of t m ≡ Some p = was ∙ ap (λ j. Some j) z in
              moved_on m o s ∙ sym (found_at t m p s ∙ ap value_of (was_unbound m o s))
          by (inr z) =
              found_at new m (entry_at m r.0) (at_entry new m r.0 (other_ends t n v p h.entries_128 below m r.0 o r.1 z))
              ∙ ap value_of (there (entry_at m r.0) z)
              ∙ sym (found_at t m (entry_at m r.0) was)

  -- the name itself is bound at its entry
  own_entry : entry_of new n ≡ Some p
  own_entry = at_entry new n q (own_ends t n v p h.entries_128 below q e refl)

  own_found : found new n ≡ Some v
  own_found = found_at new n p own_entry ∙ ap value_of here

  -- what is so of the name and of every other name is so of each
  by_name : (P : Name → Type 0) → P n → ((m : Name) → (m ≡ n → ⊥) → P m) → (m : Name) → P m
  by_name P own other m = at (cases_Bool (same_name m n))
    where
      at : (same_name m n ≡ true) ⊎ (same_name m n ≡ false) → P m
      at (inl z) = subst P (sym (same_true m n z)) own
      at (inr z) = other m (λ y. clash (same_name_lem m n y) z)

  placed_new : (j : ℕ) (d : Binding) → entry new j ≡ Some d → entry_of new d.name ≡ Some j
  placed_new j d y = at (cases_eq j p)
    where
      at : (j ≡ p) ⊎ (j ≡ p → ⊥) → entry_of new d.name ≡ Some j
      at (inl u) =
          let w : d ≡ b = let x = sym y ∙ ap (entry new) u ∙ here in cc in
          ap (λ (x : Binding). entry_of new x.name) w ∙ own_entry ∙ ap (λ i. Some i) (sym u)
      at (inr o) = ends (search_ends t d.name)
        where
          was : entry_of t d.name ≡ Some j
          was = h.placed j d (sym (there j o) ∙ y)

          another : d.name ≡ n → ⊥
          another x = let u : Some j ≡ Some p = sym was ∙ ap (entry_of t) x ∙ at_entry t n q e in let w : j ≡ p = cc in o w

          ends : ((r : ℕ) × EndsAt t d.name r) ⊎ Nowhere t d.name → entry_of new d.name ≡ Some j
          ends (inr r) = let u : None ≡ Some j = sym (nowhere t d.name r) ∙ was in absurd (cc)
          ends (inl r) =
              let x : entry_at d.name r.0 ≡ j = let u = sym (at_entry t d.name r.0 r.1) ∙ was in cc in
              at_entry new d.name r.0 (other_ends t n v p h.entries_128 below d.name r.0 another r.1 (λ u. o (sym x ∙ u)))
              ∙ ap (λ i. Some i) x

  -- the name was bound where its entry was
  was_bound : is_some (entry t p) ≡ rules.is_bound n values
  was_bound = same (entry t p) ∙ ap is_some (sym (found_at t n p (at_entry t n q e))) ∙ h.bound n
    where
      same : (x : Option Binding) → is_some x ≡ is_some (value_of x)
      same None = refl
      same (Some b) = refl

  one_more : (u : Bool) (x y : ℕ) → x + cond u 1 0 ≡ y + 1 → x ≡ cond u 0 1 + y
  one_more true x y z = omega arith
  one_more false x y z = omega arith

  counted : count_by is_some new.entries + cond (is_some (entry t p)) 1 0 ≡ count_by is_some t.entries + 1
  counted = sum_by-set (λ x. cond (is_some x) 1 0) t.entries p (Some b) None (omega (arith, h.entries_128, below))

  size_new : count_by is_some new.entries ≡ length after
  size_new =
      one_more (rules.is_bound n values) (count_by is_some new.entries) (length values)
      (ap (λ u. count_by is_some new.entries + cond u 1 0) (sym was_bound) ∙ counted ∙ ap (λ x. x + 1) h.size)
      ∙ sym (bound_length (binding_of n v) values)

  pub bound_shows : Shows new after
  bound_shows = record {
    entries_128 = length-set t.entries p (Some b) ∙ h.entries_128;
    placed = placed_new;
    bound = by_name (λ m. is_some (found new m) ≡ rules.is_bound m after) (ap is_some own_found ∙ sym (own_bound (binding_of n v) values))
        (λ m o. ap is_some (other_found m o) ∙ h.bound m ∙ sym (other_bound (binding_of n v) values m o));
    width = by_name (λ m. width_in (found new m) ≡ rules.width_of m after) (ap width_in own_found ∙ sym (own_width (binding_of n v) values))
        (λ m o. ap width_in (other_found m o) ∙ h.width m ∙ sym (other_width (binding_of n v) values m o));
    number = by_name (λ m. number_in (found new m) ≡ rules.number_of m after) (ap number_in own_found ∙ sym (own_number (binding_of n v) values))
        (λ m o. ap number_in (other_found m o) ∙ h.number m ∙ sym (other_number (binding_of n v) values m o));
    size = size_new;
  }

  -- where the name was unbound its entry was one more than those bound
  pub more : rules.is_bound n values ≡ false → length values < 128
  more z =
      let c : count_by is_some new.entries + 0 ≡ count_by is_some t.entries + 1 =
      ap (λ x. count_by is_some new.entries + cond x 1 0) (sym (was_bound ∙ z)) ∙ counted in
      omega (arith, c, h.size, count_by-le-length is_some new.entries, length-set t.entries p (Some b), h.entries_128)

-- ---- reason 7
-- all entries are bound
all_bound : (l : List (Option Binding)) → ((j : ℕ) → j < length l → is_some (get_or l j None) ≡ true) → count_by is_some l ≡ length l
all_bound [] h = refl
all_bound (x ∷ l) h =
    sum_by-cons (λ x. cond (is_some x) 1 0) x l ∙ rw (h 0 (omega arith)) (omega (arith, all_bound l (λ j q. h (suc j) (omega arith))))

module _ (t : Bindings) (s : rules.State) (h : Shows t s.values) where
  -- room for a name is where its search ends
  room : (n : Name) → room_for s n ≡ has_room t n
  room n = at (search_ends t n)
    where
      at : ((q : ℕ) × EndsAt t n q) ⊎ Nowhere t n → room_for s n ≡ has_room t n
      at (inl q) = by (cases_Bool (rules.is_bound n s.values)) ∙ sym (ap is_some (at_entry t n q.0 q.1))
        where
          by : (rules.is_bound n s.values ≡ true) ⊎ (rules.is_bound n s.values ≡ false) → room_for s n ≡ true
          by (inl z) = rw z
          by (inr z) = rw (z, lt-ltb (length s.values) 128 (more t s.values h n (B64 0) q.0 q.1 z))
      at (inr q) = rw (none, full) (sym (ap is_some (nowhere t n q)))
        where
          none : rules.is_bound n s.values ≡ false
          none = sym (h.bound n) ∙ ap is_some (found_none t n (nowhere t n q))

          bound : (j : ℕ) → j < 128 → is_some (entry t j) ≡ true
          bound j c =
              let i = comes_up n j c in
              let b = stop_not (entry t (entry_at n i.0)) n (q i.0 i.1) in
              ap (λ k. is_some (entry t k)) (sym i.2) ∙ ap is_some b.1

          full : ltb (length s.values) 128 ≡ false
          full = le-ltb (length s.values) 128 (omega (arith, h.size, h.entries_128, all_bound t.entries (λ j c. bound j (omega arith))))

  -- the entry at which the search ends, written
  binds : (n : Name) (v : Value) → has_room t n ≡ true → Shows (after_bind t n v) (rules.bind (binding_of n v) s.values)
  binds n v f = at (search_ends t n)
    where
      at : ((q : ℕ) × EndsAt t n q) ⊎ Nowhere t n → Shows (after_bind t n v) (rules.bind (binding_of n v) s.values)
      at (inl q) = rw (at_entry t n q.0 q.1) (bound_shows t s.values h n v q.0 q.1)
      at (inr q) = absurd (clash f (ap is_some (nowhere t n q)))

  -- THE CLAIM
  pub tells : Tells t s
  tells = record { bound = h.bound; room = room; binds = binds }

-- ---- what `bind` answers, by that answer
module _ (t : Bindings) (s : rules.State) (h : Shows t s.values) (n : Name) (v : Value) where
  -- bound: there was room, and the next table shows the next values
  pub bind_ok : bind_answer t n ≡ Ok tt → (room_for s n ≡ true) × Shows (after_bind t n v) (rules.bind (binding_of n v) s.values)
  bind_ok e = at (cases_Bool (has_room t n))
    where
      at : (has_room t n ≡ true) ⊎ (has_room t n ≡ false) → (room_for s n ≡ true) × Shows (after_bind t n v) (rules.bind (binding_of n v) s.values)
      at (inl z) = (room t s h n ∙ z, binds t s h n v z)
      at (inr z) = let u = sym e ∙ ap (λ b. cond b (Ok tt) (Err reason.Values)) z in absurd (cc)

  -- refused: reason 7, and the table is as it was
  pub bind_err : (r : Reason) → bind_answer t n ≡ Err r → (room_for s n ≡ false) × (r ≡ reason.Values) × (after_bind t n v ≡ t)
  bind_err r e = at (search_ends t n)
    where
      at : ((q : ℕ) × EndsAt t n q) ⊎ Nowhere t n → (room_for s n ≡ false) × (r ≡ reason.Values) × (after_bind t n v ≡ t)
      at (inl q) = let u = sym e ∙ ap (λ x. cond (is_some x) (Ok tt) (Err reason.Values)) (at_entry t n q.0 q.1) in absurd (cc)
      at (inr q) =
          let x : entry_of t n ≡ None = nowhere t n q in
          (room t s h n ∙ ap is_some x, (let u = sym e ∙ ap (λ x. cond (is_some x) (Ok tt) (Err reason.Values)) x in cc), rw x)
