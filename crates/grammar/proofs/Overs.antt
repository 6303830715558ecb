-- The place of reason 4 is where the first number or expression that is out of range starts: the reader of quantities marks it there, and what is read after it, and marks
-- and names, keep it. Assumes nothing.
use Rattle.std.specs.Prelude.{Ok, Err}
use Prim.Native.Nat.{ℕ, ◌-◌}
use native.Mathlib.Omega.{arith}
use mathlib.Core.Path.{◌≡◌, refl, sym, ap, ◌∙◌}
use mathlib.Core.List.{List, [], ◌∷◌, ◌++◌, append_assoc}
use mathlib.Core.Bool.{Bool, true, false, not, cond}
use mathlib.Core.Option.{Option, none, some, some-injective, none-ne-some}
use lib.ListN.{length, drop, take, take-append-drop}
use lib.Dec.{leb}
use Rattle.tokens.specs.Text.{byte}
use Rattle.tokens.specs.declared.Name.{Name}
use Rattle.tokens.specs.Bytes.{run_len, blank, after_blanks, token_of, after_token}
use Rattle.tokens.specs.Cursors.{Rest, Took, on, large, mark_c, name_c, number_c}
use Rattle.expression.specs.declared.Amount.{Amount}
use Rattle.expression.specs.Expressions.{expr_by, factor_c, settled, expression_c, goes_on, quantity_c}
use Rattle.statement.specs.declared.Address.{Address}
use Rattle.statement.specs.declared.Operand.TheVariants as operand
use Rattle.statement.specs.declared.Statement.{Statement}
use Rattle.statement.specs.declared.Opcode.{Opcode}
use Rattle.statement.specs.declared.Misread.TheVariants.{NoForm, TooLarge}
use Rattle.statement.specs.Forms.{word, Slot, name, number, in_brackets, address, operand, names, Value, Values, max_offset, row, Whole}
use Rattle.statement.specs.Reading.{in_brackets_c, offset_c, inside_c, address_c, operand_c, slot_c, more_row_c, row_c, operands_c, start, whole_c, answer_of, read_of}
use Rattle.expression.specs.Integers.{Result}
use Rattle.expression.specs.Claims.{amount_of}
use Rattle.grammar.proofs.Along.{Along, quantity_along}
use Rattle.grammar.proofs.Operands.{First, quantity_opens, in_text}
use Rattle.grammar.specs.Spells.{spaces, Mark, Word, MoreNames, closes, comma, opens, NumberText, QuantityText, alone, composed, number_for, OffsetText, bare, plus, AddressText, by_name, by_address, SlotText, MoreRow, RowText, Spells, sized_slot, sized}
use Rattle.grammar.specs.Operands.{Part, more_parts, row_parts, parts_of, offset_from, number_from, first_over}
use Rattle.grammar.specs.Claims.{Over}
use Rattle.laws.proofs.BoolLaws.{never, clash}
use Rattle.grammar.proofs.Lexing.{at, over_by, word_at, token_is, number-whole, mark_complete, name_complete, number_complete, end_complete}
use Rattle.grammar.proofs.Quantities.{alone_at, quantity_is, not-alone, goes_on_lem, followed_by, exprs_complete, fits-worth}
use Rattle.grammar.proofs.Readers.{mark-kept, name-kept}
use Rattle.grammar.proofs.Slots.{mark_other, name_first, names_complete, slot_complete}
use Rattle.grammar.proofs.Rows.{over_row}
use Rattle.grammar.proofs.Exact.{whole-at, over_sized, read_spells, spells_met}
use Rattle.grammar.proofs.Places.{place-drop}

-- where what is too large starts: what was so before, else the number here
abbrev start_of : Option (List ℕ) → List ℕ
start_of none = []
start_of (some l) = after_blanks l

abbrev far_by : Bool → Bool → List ℕ → Option (List ℕ) → List ℕ
far_by fits o f n = cond fits f (cond o f (start_of n))

-- ---- a number or an expression
number_far : (limit v : ℕ) (l r : List ℕ) (o : Bool) (f : List ℕ) → NumberText v l r → (number_c limit (at l o f)).next.far ≡ far_by (leb v limit) o f (some l)
unfolding number_c
number_far limit v l r o f t =
    let g = number-whole t.bytes t.good in
    let p : after_blanks l ≡ t.bytes ++ r = word_at t.bytes l r g t.spelled in
    let q : token_of (after_blanks l) ≡ t.bytes = ap token_of p ∙ token_is t.bytes r g t.spelled.ends in
    rw (q, t.good, t.value) (go (leb v limit))
  where
    go : (b : Bool) → (cond {A = Took ℕ} b (record { value = v; next = on (at l o f) (after_token (after_blanks l)) }) (record { value = 0; next = large (at l o f) (after_blanks l) })).next.far ≡ far_by b o f (some l)
    go true = refl
    go false = refl

settled_far : (limit : ℕ) (u : Result) (l r : List ℕ) (o : Bool) (f : List ℕ)
    → (settled limit (at l o f) (after_blanks l) (record { value = amount_of u; next = at r false [] })).next.far ≡ far_by (leb (number_for limit u) limit) o f (some l)
settled_far limit u l r o f = rw (fits-worth limit u) (go (leb (number_for limit u) limit))
  where
    go : (b : Bool) → (cond {A = Took ℕ} b (record { value = (amount_of u).size; next = at r o f }) (record { value = 0; next = record { rest = r; ok = true; over = true; far = cond o f (after_blanks l) } })).next.far ≡ far_by b o f (some l)
    go true = refl
    go false = refl

expression_far : (limit : ℕ) (u : Result) (l r : List ℕ) (o : Bool) (f : List ℕ) → expr_by (factor_c 16) (at l false []) ≡ record { value = amount_of u; next = at r false [] }
    → (expression_c limit (at l o f)).next.far ≡ far_by (leb (number_for limit u) limit) o f (some l)
unfolding expression_c
expression_far limit u l r o f e = ap (λ (t : Took Amount). (settled limit (at l o f) (after_blanks l) t).next.far) e ∙ settled_far limit u l r o f

alone-here : (limit v : ℕ) (l r : List ℕ) (o : Bool) (f : List ℕ) → NumberText v l r → goes_on r ≡ false → alone_at limit (at l o f) ≡ true
alone-here limit v l r o f t h = let p = number_complete limit v l r o f t in rw (p.is, h)

quantity_far : (limit v : ℕ) (l r : List ℕ) (o : Bool) (f : List ℕ) → QuantityText limit v l r → (quantity_c limit (at l o f)).next.far ≡ far_by (leb v limit) o f (some l)
quantity_far limit v l r o f (alone t n m) = ap (λ (x : Took ℕ). x.next.far) (quantity_is limit (at l o f) true (alone-here limit v l r o f t (goes_on_lem r n m))) ∙ number_far limit v l r o f t
quantity_far limit v l r o f (composed {u = u} t h) =
    ap (λ (x : Took ℕ). x.next.far) (quantity_is limit (at l o f) false (not-alone limit l o f (followed_by u l r t h))) ∙ expression_far limit u l r o f (exprs_complete u l r t)

-- ---- operands
offset_far : (v : ℕ) (l r : List ℕ) (o : Bool) (f : List ℕ) (t : OffsetText v l r) → (mark_c (byte "+") (at r o f)).ok ≡ false → (offset_c (at l o f)).next.far ≡ far_by (leb v max_offset) o f (offset_from t)
unfolding offset_c blank
offset_far v l r o f bare z = rw z
offset_far v l r o f (plus {l₁ = l₁} m n) z = rw (mark_complete (byte "+") l l₁ o f refl m) (quantity_far max_offset v l₁ r o f n)

mark_far : (m : ℕ) (r : Rest) → (mark_c m r).far ≡ r.far
mark_far m r = (mark-kept m r).far

inside_far : (v : Address) (l r : List ℕ) (o : Bool) (f : List ℕ) (k : AddressText v l r) → (inside_c (at k.l₁ o f)).next.far ≡ far_by (leb v.offset max_offset) o f (offset_from k.offset)
unfolding inside_c blank
inside_far v l r o f k =
    mark_far (byte "]") (offset_c (name_c (at k.l₁ o f)).next).next
    ∙ rw (name_complete v.base k.l₁ k.l₂ o f k.base) (offset_far v.offset k.l₂ k.l₃ o f k.offset (mark_other (byte "+") (byte "]") k.l₃ r o f refl k.closes refl))

slot_far : (k : Slot) (v : Value k) (l r : List ℕ) (o : Bool) (f : List ℕ) (t : SlotText k v l r) → (slot_c k (at l o f)).next.far ≡ far_by (sized_slot k v) o f (number_from k v l r t)
unfolding address_c operand_c blank
slot_far name v l r o f t = (name-kept (at l o f)).far
slot_far (number limit) v l r o f t = quantity_far limit v l r o f t
slot_far in_brackets v l r o f t = unfold in_brackets_c in (mark_far (byte "]") (name_c (mark_c (byte "[") (at l o f))).next ∙ (name-kept (mark_c (byte "[") (at l o f))).far ∙ mark_far (byte "[") (at l o f))
slot_far address v l r o f t = rw (mark_complete (byte "[") l t.l₁ o f refl t.opens) (inside_far v l r o f t)
slot_far operand (operand.Descriptor n) l r o f (by_name t) = rw (name_first n l r o f t) (name-kept (at l o f)).far
slot_far operand (operand.Address a) l r o f (by_address t) = rw (mark_complete (byte "[") l t.l₁ o f refl t.opens) (inside_far a l r o f t)
slot_far names v l r o f t = ap (λ (x : Took (List Name)). x.next.far) (names_complete v l r o f t)

-- ---- rows
abbrev far_parts : List Part → Bool → List ℕ → List ℕ
far_parts [] o f = f
far_parts (p ∷ ps) o f =
    far_parts ps (over_by (sized_slot p.slot p.value) o) (far_by (sized_slot p.slot p.value) o f (number_from p.slot p.value p.from p.rest p.spelled))

more_far : (ks : List Slot) (vs : Values ks) (l : List ℕ) (o : Bool) (f : List ℕ) (t : MoreRow ks vs l) → (more_row_c ks (at l o f)).next.far ≡ far_parts (more_parts ks vs l t) o f
unfolding more_row_c blank
more_far [] vs l o f t = ap (λ (r : Rest). r.far) (end_complete l o f t)
more_far (k ∷ ks) vs l o f t =
    let p = slot_complete k vs.0 t.0 t.1 o f t.3 in
    let q = sym (ap (λ (x : Took (Value k)). x.next.far) p.is) ∙ slot_far k vs.0 t.0 t.1 o f t.3 in
    ap (λ (x : Took (Value k)). (more_row_c ks x.next).next.far) (ap (slot_c k) (mark_complete (byte ",") l t.0 o f refl t.2) ∙ p.is)
    ∙ more_far ks vs.1 t.1 (over_by (sized_slot k vs.0) o) p.far t.4
    ∙ ap (far_parts (more_parts ks vs.1 t.1 t.4) (over_by (sized_slot k vs.0) o)) q

row_far : (ks : List Slot) (vs : Values ks) (l : List ℕ) (o : Bool) (f : List ℕ) (t : RowText ks vs l) → (row_c ks (at l o f)).next.far ≡ far_parts (row_parts ks vs l t) o f
unfolding row_c
row_far [] vs l o f t = ap (λ (r : Rest). r.far) (end_complete l o f t)
row_far (k ∷ ks) vs l o f t =
    let p = slot_complete k vs.0 l t.0 o f t.1 in
    let q = sym (ap (λ (x : Took (Value k)). x.next.far) p.is) ∙ slot_far k vs.0 l t.0 o f t.1 in
    rw p.is
    (more_far ks vs.1 t.0 (over_by (sized_slot k vs.0) o) p.far t.2 ∙ ap (far_parts (more_parts ks vs.1 t.0 t.2) (over_by (sized_slot k vs.0) o)) q)

-- ---- the first that is out of range
-- one of the parts is
abbrev over_parts : List Part → Bool → Bool
over_parts [] o = o
over_parts (p ∷ ps) o = over_parts ps (over_by (sized_slot p.slot p.value) o)

more_over : (ks : List Slot) (vs : Values ks) (l : List ℕ) (o : Bool) (t : MoreRow ks vs l) → over_parts (more_parts ks vs l t) o ≡ over_row ks vs o
more_over [] vs l o t = refl
more_over (k ∷ ks) vs l o t = more_over ks vs.1 t.1 (over_by (sized_slot k vs.0) o) t.4

row-over : (ks : List Slot) (vs : Values ks) (l : List ℕ) (o : Bool) (t : RowText ks vs l) → over_parts (row_parts ks vs l t) o ≡ over_row ks vs o
row-over [] vs l o t = refl
row-over (k ∷ ks) vs l o t = more_over ks vs.1 t.0 (over_by (sized_slot k vs.0) o) t.2

-- an operand that is out of range has a number
offset_some : (v : ℕ) (l r : List ℕ) (t : OffsetText v l r) → leb v max_offset ≡ false → (m : List ℕ) × (offset_from t ≡ some m)
offset_some v l r bare h = absurd (clash refl h)
offset_some v l r (plus {l₁ = l₁} m t) h = (l₁, refl)

slot-some : (k : Slot) (v : Value k) (l r : List ℕ) (t : SlotText k v l r) → sized_slot k v ≡ false → (m : List ℕ) × (number_from k v l r t ≡ some m)
slot-some name v l r t h = absurd (clash refl h)
slot-some (number limit) v l r t h = (l, refl)
slot-some in_brackets v l r t h = absurd (clash refl h)
slot-some address v l r t h = offset_some v.offset t.l₂ t.l₃ t.offset h
slot-some operand (operand.Descriptor n) l r (by_name t) h = absurd (clash refl h)
slot-some operand (operand.Address a) l r (by_address t) h = offset_some a.offset t.l₂ t.l₃ t.offset h
slot-some names v l r t h = absurd (clash refl h)

-- once one was, it stays
far_stays : (ps : List Part) (f : List ℕ) → far_parts ps true f ≡ f
far_stays [] f = refl
far_stays (p ∷ ps) f = go (sized_slot p.slot p.value) (far_stays ps f)
  where
    go : (b : Bool) → far_parts ps true f ≡ f → far_parts ps (over_by b true) (far_by b true f (number_from p.slot p.value p.from p.rest p.spelled)) ≡ f
    go true i = i
    go false i = i

far_first : (ps : List Part) (f : List ℕ) → over_parts ps false ≡ true → (l : List ℕ) × (first_over ps ≡ some l) × (far_parts ps false f ≡ after_blanks l)
far_first [] f h = never h
far_first (p ∷ ps) f h = go (sized_slot p.slot p.value) refl h (far_first ps f)
  where
    n : Option (List ℕ)
    n = number_from p.slot p.value p.from p.rest p.spelled

    go : (b : Bool) → sized_slot p.slot p.value ≡ b → over_parts ps (over_by b false) ≡ true → (over_parts ps false ≡ true → (l : List ℕ) × (first_over ps ≡ some l) × (far_parts ps false f ≡ after_blanks l))
        → (l : List ℕ) × (cond b (first_over ps) n ≡ some l) × (far_parts ps (over_by b false) (far_by b false f n) ≡ after_blanks l)
    go true e k i = i k
    go false e k i =
        let s = slot-some p.slot p.value p.from p.rest p.spelled e in
        (s.0, s.1, far_stays ps (start_of n) ∙ ap start_of s.1)

-- ---- the answer
four_by : (a b o : Bool) (k n q p : ℕ) (t : Statement) → cond b (cond a (cond o (Err (TooLarge k)) (Ok t)) (Err (NoForm n))) (Err (NoForm q)) ≡ Err (TooLarge p) → (b ≡ true) × (o ≡ true) × (p ≡ k)
four_by true true true k n q p t h = (refl, refl, cc)
four_by true true false k n q p t h = absurd (let z : ◌≡◌ {A = ℕ} 0 1 = cc in omega arith)
four_by false true o k n q p t h = absurd (let z : ◌≡◌ {A = ℕ} 0 1 = cc in omega arith)
four_by a false o k n q p t h = absurd (let z : ◌≡◌ {A = ℕ} 0 1 = cc in omega arith)

over-at : (text : List ℕ) (p : ℕ) → read_of text ≡ Err (TooLarge p) → ((whole_c text).next.ok ≡ true) × ((whole_c text).next.over ≡ true) × (p ≡ length text - length (whole_c text).next.far)
unfolding read_of answer_of
over-at text p h =
    let r = (whole_c text).next in
    four_by (leb (length text) 4096) r.ok r.over (length text - length r.far) (length text) (length text - length r.rest) p (whole_c text).value.statement h

operands_far : (o : Opcode) (vs : Values (row o)) (l : List ℕ) (t : RowText (row o) vs l) → (operands_c o (start l)).next.far ≡ far_parts (row_parts (row o) vs l t) false l
unfolding operands_c
operands_far o vs l t = row_far (row o) vs l false l t

-- ---- the text from there on is an end of the text
abbrev Ends : List ℕ → List ℕ → Type 0
Ends s l = (front : List ℕ) × (s ≡ front ++ l)

ends_trans : (s l m : List ℕ) → Ends s l → Ends l m → Ends s m
ends_trans s l m a b = (a.0 ++ b.0, a.1 ∙ (ap (λ (w : List ℕ). a.0 ++ w) b.1 ∙ sym (append_assoc a.0 b.0 m)))

ends_blanks : (s : List ℕ) → Ends s (after_blanks s)
unfolding after_blanks
ends_blanks s = (take (run_len blank s) s, sym (take-append-drop (run_len blank s) s))

mark-ends : {m : ℕ} {l r : List ℕ} → Mark m l r → Ends l r
mark-ends {m} {l} {r} k = (spaces k.blanks ++ (m ∷ []), k.parts ∙ sym (append_assoc (spaces k.blanks) (m ∷ []) r))

word-ends : {w l r : List ℕ} → Word w l r → Ends l r
word-ends {w} {l} {r} k = (spaces k.blanks ++ w, k.parts ∙ sym (append_assoc (spaces k.blanks) w r))

leads : Along Ends
leads = record {
  here = ([], refl);
  then = λ {l} {m} {r} p q. ends_trans l m r p q;
  mark = λ m c o e k. mark-ends k;
  number = λ k. word-ends k.spelled;
}

quantity_ends : {limit v : ℕ} {l r : List ℕ} → QuantityText limit v l r → Ends l r
quantity_ends = quantity_along Ends leads

-- operands
offset_ends : {v : ℕ} {l r : List ℕ} → OffsetText v l r → Ends l r
offset_ends bare = ([], refl)
offset_ends {l = l} {r = r} (plus {l₁ = l₁} m t) = ends_trans l l₁ r (mark-ends m) (quantity_ends t)

address-ends : {a : Address} {l r : List ℕ} → AddressText a l r → Ends l r
address-ends {l = l} {r = r} k =
    ends_trans l k.l₁ r (mark-ends k.opens) (ends_trans k.l₁ k.l₂ r (word-ends k.base.spelled) (ends_trans k.l₂ k.l₃ r (offset_ends k.offset) (mark-ends k.closes)))

names-ends : {ns : List Name} {l r : List ℕ} → MoreNames ns l r → Ends l r
names-ends (closes m) = mark-ends m
names-ends {l = l} {r = r} (comma {l₁ = l₁} {l₂ = l₂} m t i) = ends_trans l l₁ r (mark-ends m) (ends_trans l₁ l₂ r (word-ends t.spelled) (names-ends i))

slot-ends : (k : Slot) (v : Value k) (l r : List ℕ) → SlotText k v l r → Ends l r
slot-ends name v l r t = word-ends t.spelled
slot-ends (number limit) v l r t = quantity_ends t
slot-ends in_brackets v l r t = ends_trans l t.l₁ r (mark-ends t.opens) (ends_trans t.l₁ t.l₂ r (word-ends t.inner.spelled) (mark-ends t.closes))
slot-ends address v l r t = address-ends t
slot-ends operand (operand.Descriptor n) l r (by_name t) = word-ends t.spelled
slot-ends operand (operand.Address a) l r (by_address t) = address-ends t
slot-ends names v l r (opens {l₁ = l₁} {l₂ = l₂} h m t i) = ends_trans l l₁ r (mark-ends m) (ends_trans l₁ l₂ r (word-ends t.spelled) (names-ends i))

-- up to its number
some_is : (a b : List ℕ) → some a ≡ some b → a ≡ b
some_is a b e = some-injective a b e

to_offset : {v : ℕ} {l r : List ℕ} (t : OffsetText v l r) (m : List ℕ) → offset_from t ≡ some m → Ends l m
to_offset bare m e = absurd (none-ne-some m e)
to_offset (plus {l₁ = l₁} k t) m e = rw (← some_is l₁ m e) (mark-ends k)

to_address : {a : Address} {l r : List ℕ} (t : AddressText a l r) (m : List ℕ) → offset_from t.offset ≡ some m → Ends l m
to_address {l = l} k m e = ends_trans l k.l₁ m (mark-ends k.opens) (ends_trans k.l₁ k.l₂ m (word-ends k.base.spelled) (to_offset k.offset m e))

to_number : (k : Slot) (v : Value k) (l r : List ℕ) (t : SlotText k v l r) (m : List ℕ) → number_from k v l r t ≡ some m → Ends l m
to_number name v l r t m e = absurd (none-ne-some m e)
to_number (number limit) v l r t m e = ([], some_is l m e)
to_number in_brackets v l r t m e = absurd (none-ne-some m e)
to_number address v l r t m e = to_address t m e
to_number operand (operand.Descriptor n) l r (by_name t) m e = absurd (none-ne-some m e)
to_number operand (operand.Address a) l r (by_address t) m e = to_address t m e
to_number names v l r t m e = absurd (none-ne-some m e)

-- at its number stands a byte
offset_first : {v : ℕ} {l r : List ℕ} (t : OffsetText v l r) (m : List ℕ) → offset_from t ≡ some m → First m
offset_first bare m e = absurd (none-ne-some m e)
offset_first {v = v} {r = r} (plus {l₁ = l₁} k t) m e = rw (← some_is l₁ m e) (quantity_opens max_offset v l₁ r t)

slot_first : (k : Slot) (v : Value k) (l r : List ℕ) (t : SlotText k v l r) (m : List ℕ) → number_from k v l r t ≡ some m → First m
slot_first name v l r t m e = absurd (none-ne-some m e)
slot_first (number limit) v l r t m e = rw (← some_is l m e) (quantity_opens limit v l r t)
slot_first in_brackets v l r t m e = absurd (none-ne-some m e)
slot_first address v l r t m e = offset_first t.offset m e
slot_first operand (operand.Descriptor n) l r (by_name t) m e = absurd (none-ne-some m e)
slot_first operand (operand.Address a) l r (by_address t) m e = offset_first t.offset m e
slot_first names v l r t m e = absurd (none-ne-some m e)

part_first : (ps : List Part) (m : List ℕ) → first_over ps ≡ some m → First m
part_first [] m e = absurd (none-ne-some m e)
part_first (p ∷ ps) m e = go (sized_slot p.slot p.value) e (part_first ps m)
  where
    go : (b : Bool) → cond b (first_over ps) (number_from p.slot p.value p.from p.rest p.spelled) ≡ some m → (first_over ps ≡ some m → First m) → First m
    go true h i = i h
    go false h i = slot_first p.slot p.value p.from p.rest p.spelled m h

more_row-ends : (ks : List Slot) (vs : Values ks) (l : List ℕ) (t : MoreRow ks vs l) (m : List ℕ) → first_over (more_parts ks vs l t) ≡ some m → Ends l m
more_row-ends [] vs l t m e = absurd (none-ne-some m e)
more_row-ends (k ∷ ks) vs l t m e =
    ends_trans l t.0 m (mark-ends t.2) (go (sized_slot k vs.0) e (more_row-ends ks vs.1 t.1 t.4 m))
  where
    go : (b : Bool) → cond b (first_over (more_parts ks vs.1 t.1 t.4)) (number_from k vs.0 t.0 t.1 t.3) ≡ some m → (first_over (more_parts ks vs.1 t.1 t.4) ≡ some m → Ends t.1 m) → Ends t.0 m
    go true h i = ends_trans t.0 t.1 m (slot-ends k vs.0 t.0 t.1 t.3) (i h)
    go false h i = to_number k vs.0 t.0 t.1 t.3 m h

row_ends : (ks : List Slot) (vs : Values ks) (l : List ℕ) (t : RowText ks vs l) (m : List ℕ) → first_over (row_parts ks vs l t) ≡ some m → Ends l m
row_ends [] vs l t m e = absurd (none-ne-some m e)
row_ends (k ∷ ks) vs l t m e = go (sized_slot k vs.0) e (more_row-ends ks vs.1 t.0 t.2 m)
  where
    go : (b : Bool) → cond b (first_over (more_parts ks vs.1 t.0 t.2)) (number_from k vs.0 l t.0 t.1) ≡ some m → (first_over (more_parts ks vs.1 t.0 t.2) ≡ some m → Ends t.0 m) → Ends l m
    go true h i = ends_trans l t.0 m (slot-ends k vs.0 l t.0 t.1) (i h)
    go false h i = to_number k vs.0 l t.0 t.1 m h

pub overs : (text : List ℕ) (p : ℕ) → read_of text ≡ Err (TooLarge p) → Over text p
overs text p h =
    let s = read_spells text (over-at text p h).0 in
    let x = starts-at s.1 in
    let f = (part_first (parts_of s.1) x.0 x.1).some in
    record { whole = s.0; spelled = s.1; inside = in_text p f.0 text f.1 (x.2 ∙ f.2); starts = λ w t. starts-at t }
  where
    over-is : {w : Whole} (t : Spells w text) → over_row (row t.opcode) t.values false ≡ (whole_c text).next.over
    over-is {w} t = over_sized t.opcode t.values ∙ ap (λ (y : Whole). not (sized y.statement)) t.made ∙ sym (ap (λ (r : Rest). r.over) (spells_met w text t).next)

    suffix : {w : Whole} (t : Spells w text) (l : List ℕ) → first_over (parts_of t) ≡ some l → (front : List ℕ) × (text ≡ front ++ after_blanks l)
    suffix t l e =
        ends_trans text t.rest (after_blanks l) (word t.opcode, t.parts)
        (ends_trans t.rest l (after_blanks l) (row_ends (row t.opcode) t.values t.rest t.operands l e) (ends_blanks l))

    starts-at : {w : Whole} (t : Spells w text) → (from : List ℕ) × (first_over (parts_of t) ≡ some from) × (drop p text ≡ after_blanks from)
    starts-at t =
        let z = over-at text p h in
        let x : whole_c text ≡ operands_c t.opcode (start t.rest) = ap whole_c t.parts ∙ whole-at t.opcode t.rest t.ends in
        let o : over_parts (parts_of t) false ≡ true = row-over (row t.opcode) t.values t.rest false t.operands ∙ over-is t ∙ z.1 in
        let f = far_first (parts_of t) t.rest o in
        let far : (whole_c text).next.far ≡ after_blanks f.0 = ap (λ (y : Took Whole). y.next.far) x ∙ operands_far t.opcode t.values t.rest t.operands ∙ f.2 in
        let n = suffix t f.0 f.1 in
        let e : p ≡ length text - length (after_blanks f.0) = z.2 ∙ ap (λ (y : List ℕ). length text - length y) far in
        (f.0, f.1, ap (λ (k : ℕ). drop k text) e ∙ place-drop text n.0 (after_blanks f.0) n.1)
