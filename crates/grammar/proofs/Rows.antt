-- A row of operands is read to its end exactly where a text spells it, and a text spells one row of values at most: one induction each, with one law for each operand. Assumes nothing.
use Prim.Native.Nat.{ℕ}
use mathlib.Core.Path.{◌≡◌, refl}
use mathlib.Core.List.{List, [], ◌∷◌}
use mathlib.Core.Bool.{Bool, true}
use Rattle.tokens.specs.Text.{byte}
use Rattle.tokens.specs.Bytes.{blank}
use Rattle.tokens.specs.Cursors.{Rest, mark_c}
use Rattle.statement.specs.Forms.{Slot, Values}
use Rattle.statement.specs.Reading.{slot_c, more_row_c, row_c}
use Rattle.grammar.specs.Spells.{MoreRow, RowText, sized_slot}
use Rattle.grammar.proofs.Lexing.{at, Reads, over_by, mark_sound, mark_complete, mark-one, end_sound, end_complete}
use Rattle.grammar.proofs.Slots.{cut_slot, slot_sound, slot_complete, slot-one}

-- ---- what is read to the end spells values
more_sound : (ks : List Slot) (r : Rest) → (more_row_c ks r).next.ok ≡ true → (r.ok ≡ true) × (vs : Values ks) × MoreRow ks vs r.rest
unfolding more_row_c
more_sound [] r h = let e = end_sound r h in (e.0, tt, e.1)
more_sound (k ∷ ks) r h =
    let a = mark_c (byte ",") r in
    let i = more_sound ks (slot_c k a).next h in
    let p = slot_sound k a i.0 in
    let q = mark_sound (byte ",") r p.0 in
    (q.0, (p.1, i.1), (a.rest, (slot_c k a).next.rest, q.1, p.2, i.2))

pub row_sound : (ks : List Slot) (r : Rest) → (row_c ks r).next.ok ≡ true → (r.ok ≡ true) × (vs : Values ks) × RowText ks vs r.rest
unfolding row_c
row_sound [] r h = let e = end_sound r h in (e.0, tt, e.1)
row_sound (k ∷ ks) r h =
    let i = more_sound ks (slot_c k r).next h in
    let p = slot_sound k r i.0 in
    (p.0, (p.1, i.1), ((slot_c k r).next.rest, p.2, i.2))

-- ---- what spells values is read to the end
-- the values as they are read, each number over its limit as 0
abbrev pub cut_row : (ks : List Slot) → Values ks → Values ks
cut_row [] v = tt
cut_row (k ∷ ks) v = (cut_slot k v.0, cut_row ks v.1)

-- whether a number of the row, or one before it, was too large
abbrev pub over_row : (ks : List Slot) → Values ks → Bool → Bool
over_row [] v o = o
over_row (k ∷ ks) v o = over_row ks v.1 (over_by (sized_slot k v.0) o)

more_complete : (ks : List Slot) (vs : Values ks) (l : List ℕ) (o : Bool) (f : List ℕ) → MoreRow ks vs l → Reads (more_row_c ks (at l o f)) (cut_row ks vs) [] (over_row ks vs o)
unfolding more_row_c blank
more_complete [] vs l o f t = record { far = f; is = rw (end_complete l o f t) }
more_complete (k ∷ ks) vs l o f t =
    let p = slot_complete k vs.0 t.0 t.1 o f t.3 in
    let i = more_complete ks vs.1 t.1 (over_by (sized_slot k vs.0) o) p.far t.4 in
    record { far = i.far; is = rw (mark_complete (byte ",") l t.0 o f refl t.2, p.is, i.is) }

pub row_complete : (ks : List Slot) (vs : Values ks) (l : List ℕ) (o : Bool) (f : List ℕ) → RowText ks vs l → Reads (row_c ks (at l o f)) (cut_row ks vs) [] (over_row ks vs o)
unfolding row_c
row_complete [] vs l o f t = record { far = f; is = rw (end_complete l o f t) }
row_complete (k ∷ ks) vs l o f t =
    let p = slot_complete k vs.0 l t.0 o f t.1 in
    let i = more_complete ks vs.1 t.0 (over_by (sized_slot k vs.0) o) p.far t.2 in
    record { far = i.far; is = rw (p.is, i.is) }

-- ---- one reading
pair_by : (k : Slot) (ks : List Slot) (v u : Values (k ∷ ks)) → v.0 ≡ u.0 → v.1 ≡ u.1 → v ≡ u
pair_by k ks v u p q = let a : ◌≡◌ {A = Values (k ∷ ks)} (v.0, v.1) (u.0, u.1) = rw (p, q) in a

more_one : (ks : List Slot) (vs us : Values ks) (l : List ℕ) → MoreRow ks vs l → MoreRow ks us l → vs ≡ us
unfolding blank
more_one [] vs us l a b = refl
more_one (k ∷ ks) vs us l a b =
    let p = mark-one (byte ",") l a.0 b.0 refl a.2 b.2 in
    let q = slot-one k vs.0 us.0 a.0 a.1 b.1 a.3 (rw p b.3) in
    pair_by k ks vs us q.0 (more_one ks vs.1 us.1 a.1 a.4 (rw q.1 b.4))

pub row_one : (ks : List Slot) (vs us : Values ks) (l : List ℕ) → RowText ks vs l → RowText ks us l → vs ≡ us
row_one [] vs us l a b = refl
row_one (k ∷ ks) vs us l a b =
    let q = slot-one k vs.0 us.0 l a.0 b.0 a.1 b.1 in
    pair_by k ks vs us q.0 (more_one ks vs.1 us.1 a.0 a.2 (rw q.1 b.2))
