-- Each kind of operand is read exactly where a text spells it: its marks, names and numbers are, and the first byte tells which way it goes on. Assumes nothing.
use Prim.Native.Nat.{ℕ, zero, suc, ◌≤◌}
use native.Mathlib.Omega.{arith}
use mathlib.Core.Path.{◌≡◌, refl, sym, ap, ◌∙◌}
use mathlib.Core.List.{List, [], ◌∷◌, ◌++◌}
use mathlib.Core.Bool.{Bool, true, false, cond}
use lib.ListN.{length}
use lib.Dec.{leb, eqb}
use borrow.Author.Tests.{eqb-false}
use Rattle.tokens.specs.Text.{byte}
use Rattle.tokens.specs.declared.Name.{Name}
use Rattle.tokens.specs.Bytes.{letter, word_byte, blank, after_blanks}
use Rattle.tokens.specs.Cursors.{Rest, Took, mark_c, name_c}
use Rattle.expression.specs.Expressions.{quantity_c}
use Rattle.statement.specs.declared.Address.{Address}
use Rattle.statement.specs.declared.Operand.{Operand}
use Rattle.statement.specs.declared.Operand.TheVariants as operand
use Rattle.statement.specs.Forms.{Slot, name, number, in_brackets, address, operand, names, Value, max_offset}
use Rattle.statement.specs.Reading.{in_brackets_c, offset_c, inside_c, address_c, operand_c, more_c, names_c, slot_c}
use Rattle.grammar.specs.Spells.{Mark, NameText, BracketText, OffsetText, bare, plus, AddressText, OperandText, by_name, by_address, MoreNames, closes, comma, NamesText, opens, SlotText, sized_operand, sized_slot}
use Rattle.grammar.proofs.Lexing.{at, Reads, cut, over_by, whole_head, other, word_at, name-whole, mark-at, mark-none, mark_sound, mark_complete, name_sound, name_complete, took_one, mark-one, mark_two, name-one}
use Rattle.grammar.proofs.Quantities.{quantity_sound, quantity_complete, quantity_one}

-- ---- what is read spells an operand
bracket_sound : (r : Rest) → (in_brackets_c r).next.ok ≡ true → (r.ok ≡ true) × (v : Name) × BracketText v r.rest (in_brackets_c r).next.rest
unfolding in_brackets_c
bracket_sound r h =
    let a = mark_c (byte "[") r in
    let n = name_c a in
    let z = mark_sound (byte "]") n.next h in
    let y = name_sound a z.0 in
    let x = mark_sound (byte "[") r y.0 in
    (x.0, n.value, record { l₁ = a.rest; l₂ = n.next.rest; opens = x.1; inner = y.1; closes = z.1 })

offset_sound : (r : Rest) → (offset_c r).next.ok ≡ true → (r.ok ≡ true) × (v : ℕ) × OffsetText v r.rest (offset_c r).next.rest
unfolding offset_c
offset_sound r h = go (mark_c (byte "+") r).ok refl h
  where
    took : Bool → Took ℕ
    took b = cond b (quantity_c max_offset (mark_c (byte "+") r)) (record { value = 0; next = r })

    go : (b : Bool) → (mark_c (byte "+") r).ok ≡ b → (took b).next.ok ≡ true → (r.ok ≡ true) × (v : ℕ) × OffsetText v r.rest (took b).next.rest
    go true e k =
        let n = quantity_sound max_offset (mark_c (byte "+") r) k in
        let m = mark_sound (byte "+") r e in
        (m.0, n.1, plus m.1 n.2)
    go false e k = (k, 0, bare)

-- an address, from the bracket's other side on
record Inside (a : Address) (l r : List ℕ) : Type 0 where
  l₁ : List ℕ
  l₂ : List ℕ
  base : NameText a.base l l₁
  offset : OffsetText a.offset l₁ l₂
  closing : Mark (byte "]") l₂ r

inside_sound : (r : Rest) → (inside_c r).next.ok ≡ true → (r.ok ≡ true) × (v : Address) × Inside v r.rest (inside_c r).next.rest
unfolding inside_c
inside_sound r h =
    let n = name_c r in
    let v = offset_c n.next in
    let z = mark_sound (byte "]") v.next h in
    let y = offset_sound n.next z.0 in
    let x = name_sound r y.0 in
    (x.0, record { base = n.value; offset = y.1 }, record { l₁ = n.next.rest; l₂ = v.next.rest; base = x.1; offset = y.2; closing = z.1 })

whole-address : (v : Address) (l l₁ r : List ℕ) → Mark (byte "[") l l₁ → Inside v l₁ r → AddressText v l r
whole-address v l l₁ r m i = record { l₁ = l₁; l₂ = i.l₁; l₃ = i.l₂; opens = m; base = i.base; offset = i.offset; closes = i.closing }

address_sound : (r : Rest) → (address_c r).next.ok ≡ true → (r.ok ≡ true) × (v : Address) × AddressText v r.rest (address_c r).next.rest
unfolding address_c
address_sound r h =
    let i = inside_sound (mark_c (byte "[") r) h in
    let m = mark_sound (byte "[") r i.0 in
    (m.0, i.1, whole-address i.1 r.rest (mark_c (byte "[") r).rest (inside_c (mark_c (byte "[") r)).next.rest m.1 i.2)

operand_sound : (r : Rest) → (operand_c r).next.ok ≡ true → (r.ok ≡ true) × (v : Operand) × OperandText v r.rest (operand_c r).next.rest
unfolding operand_c
operand_sound r h = go (mark_c (byte "[") r).ok refl h
  where
    took : Bool → Took Operand
    took b = cond b (record { value = operand.Address (inside_c (mark_c (byte "[") r)).value; next = (inside_c (mark_c (byte "[") r)).next }) (record { value = operand.Descriptor (name_c r).value; next = (name_c r).next })

    go : (b : Bool) → (mark_c (byte "[") r).ok ≡ b → (took b).next.ok ≡ true → (r.ok ≡ true) × (v : Operand) × OperandText v r.rest (took b).next.rest
    go true e k =
        let i = inside_sound (mark_c (byte "[") r) k in
        let m = mark_sound (byte "[") r i.0 in
        (m.0, operand.Address i.1, by_address (whole-address i.1 r.rest (mark_c (byte "[") r).rest (inside_c (mark_c (byte "[") r)).next.rest m.1 i.2))
    go false e k = let n = name_sound r k in (n.0, operand.Descriptor (name_c r).value, by_name n.1)

record Names (k : ℕ) (l r : List ℕ) : Type 0 where
  value : List Name
  few : length value ≤ k
  text : MoreNames value l r

more_sound : (k : ℕ) (r : Rest) → (more_c k r).next.ok ≡ true → (r.ok ≡ true) × Names k r.rest (more_c k r).next.rest
unfolding more_c
more_sound zero r h = let z = mark_sound (byte "}") r h in (z.0, record { value = []; few = omega arith; text = closes z.1 })
more_sound (suc k) r h = go (mark_c (byte ",") r).ok refl h (more_sound k (name_c (mark_c (byte ",") r)).next)
  where
    m : Took (List Name)
    m = more_c k (name_c (mark_c (byte ",") r)).next

    took : Bool → Took (List Name)
    took b = cond b (record { value = (name_c (mark_c (byte ",") r)).value ∷ m.value; next = m.next }) (record { value = []; next = mark_c (byte "}") r })

    go : (b : Bool) → (mark_c (byte ",") r).ok ≡ b → (took b).next.ok ≡ true
        → (m.next.ok ≡ true → ((name_c (mark_c (byte ",") r)).next.ok ≡ true) × Names k (name_c (mark_c (byte ",") r)).next.rest m.next.rest)
        → (r.ok ≡ true) × Names (suc k) r.rest (took b).next.rest
    go true e j i =
        let z = i j in
        let y = name_sound (mark_c (byte ",") r) z.0 in
        let x = mark_sound (byte ",") r e in
        (x.0, record { value = (name_c (mark_c (byte ",") r)).value ∷ z.1.value; few = omega (arith, z.1.few); text = comma x.1 y.1 z.1.text })
    go false e j i = let z = mark_sound (byte "}") r j in (z.0, record { value = []; few = omega arith; text = closes z.1 })

names_sound : (r : Rest) → (names_c r).next.ok ≡ true → (r.ok ≡ true) × (v : List Name) × NamesText v r.rest (names_c r).next.rest
unfolding names_c
names_sound r h =
    let a = mark_c (byte "{") r in
    let n = name_c a in
    let z = more_sound 127 n.next h in
    let y = name_sound a z.0 in
    let x = mark_sound (byte "{") r y.0 in
    (x.0, n.value ∷ z.1.value, opens z.1.few x.1 y.1 z.1.text)

pub slot_sound : (k : Slot) (r : Rest) → (slot_c k r).next.ok ≡ true → (r.ok ≡ true) × (v : Value k) × SlotText k v r.rest (slot_c k r).next.rest
slot_sound name r h = let n = name_sound r h in (n.0, (name_c r).value, n.1)
slot_sound (number limit) r h = quantity_sound limit r h
slot_sound in_brackets r h = bracket_sound r h
slot_sound address r h = address_sound r h
slot_sound operand r h = operand_sound r h
slot_sound names r h = names_sound r h

-- ---- what spells an operand is read
-- the operand as it is read, a number over its limit as 0
abbrev pub cut_address : Address → Address
cut_address a = record { base = a.base; offset = cut max_offset a.offset }

abbrev pub cut_operand : Operand → Operand
cut_operand (operand.Descriptor n) = operand.Descriptor n
cut_operand (operand.Address a) = operand.Address (cut_address a)

abbrev pub cut_slot : (k : Slot) → Value k → Value k
cut_slot name v = v
cut_slot (number limit) v = cut limit v
cut_slot in_brackets v = v
cut_slot address v = cut_address v
cut_slot operand v = cut_operand v
cut_slot names v = v

-- where the mark x comes, no other mark is read
pub mark_other : (m x : ℕ) (l r : List ℕ) (o : Bool) (f : List ℕ) → blank x ≡ false → Mark x l r → eqb x m ≡ false → (mark_c m (at l o f)).ok ≡ false
mark_other m x l r o f d k e = mark-none m x l r o f (mark-at x d k) e

-- where a name comes, no bracket is read
name_head : (n : Name) (l r : List ℕ) → NameText n l r → (x : ℕ) × (u : List ℕ) × (after_blanks l ≡ x ∷ u) × (eqb x (byte "[") ≡ false)
unfolding word_byte letter
name_head n l r k =
    let g = name-whole k.bytes k.good in
    let h = whole_head k.bytes g in
    (h.0, h.1 ++ r, word_at k.bytes l r g k.spelled ∙ ap (λ (w : List ℕ). w ++ r) h.2, other h.0 (byte "[") h.3 refl)

pub name_first : (n : Name) (l r : List ℕ) (o : Bool) (f : List ℕ) → NameText n l r → (mark_c (byte "[") (at l o f)).ok ≡ false
name_first n l r o f k = let h = name_head n l r k in mark-none (byte "[") h.0 l h.1 o f h.2 h.3

name_bracket : (n : Name) (l r s : List ℕ) → NameText n l r → Mark (byte "[") l s → ⊥
unfolding blank
name_bracket n l r s k m =
    let h = name_head n l r k in
    let p = sym h.2 ∙ mark-at (byte "[") refl m in
    let q : h.0 ≡ (byte "[") = cc in
    eqb-false h.0 (byte "[") h.3 q

bracket_complete : (v : Name) (l r : List ℕ) (o : Bool) (f : List ℕ) → BracketText v l r → in_brackets_c (at l o f) ≡ record { value = v; next = at r o f }
unfolding in_brackets_c blank
bracket_complete v l r o f k =
    rw (mark_complete (byte "[") l k.l₁ o f refl k.opens, name_complete v k.l₁ k.l₂ o f k.inner, mark_complete (byte "]") k.l₂ r o f refl k.closes)

offset_complete : (v : ℕ) (l r : List ℕ) (o : Bool) (f : List ℕ) → OffsetText v l r → (mark_c (byte "+") (at r o f)).ok ≡ false → Reads (offset_c (at l o f)) (cut max_offset v) r (over_by (leb v max_offset) o)
unfolding offset_c blank
offset_complete v l r o f bare z = record { far = f; is = rw z }
offset_complete v l r o f (plus {l₁ = l₁} m n) z = rw (mark_complete (byte "+") l l₁ o f refl m) (quantity_complete max_offset v l₁ r o f n)

inside_complete : (v : Address) (l r : List ℕ) (o : Bool) (f : List ℕ) → Inside v l r → Reads (inside_c (at l o f)) (cut_address v) r (over_by (leb v.offset max_offset) o)
unfolding inside_c blank
inside_complete v l r o f k =
    let p = offset_complete v.offset k.l₁ k.l₂ o f k.offset (mark_other (byte "+") (byte "]") k.l₂ r o f refl k.closing refl) in
    let o₁ = over_by (leb v.offset max_offset) o in
    record { far = p.far; is = rw (name_complete v.base l k.l₁ o f k.base, p.is, mark_complete (byte "]") k.l₂ r o₁ p.far refl k.closing) }

inner_part : (v : Address) (l r : List ℕ) (k : AddressText v l r) → Inside v k.l₁ r
inner_part v l r k = record { l₁ = k.l₂; l₂ = k.l₃; base = k.base; offset = k.offset; closing = k.closes }

address_complete : (v : Address) (l r : List ℕ) (o : Bool) (f : List ℕ) → AddressText v l r → Reads (address_c (at l o f)) (cut_address v) r (over_by (leb v.offset max_offset) o)
unfolding address_c blank
address_complete v l r o f k = rw (mark_complete (byte "[") l k.l₁ o f refl k.opens) (inside_complete v k.l₁ r o f (inner_part v l r k))

operand_complete : (v : Operand) (l r : List ℕ) (o : Bool) (f : List ℕ) → OperandText v l r → Reads (operand_c (at l o f)) (cut_operand v) r (over_by (sized_operand v) o)
unfolding operand_c blank
operand_complete (operand.Descriptor n) l r o f (by_name k) = record { far = f; is = rw (name_first n l r o f k, name_complete n l r o f k) }
operand_complete (operand.Address a) l r o f (by_address k) =
    let p = inside_complete a k.l₁ r o f (inner_part a l r k) in
    record { far = p.far; is = rw (mark_complete (byte "[") l k.l₁ o f refl k.opens, p.is) }

more_complete : (k : ℕ) (ns : List Name) (l r : List ℕ) (o : Bool) (f : List ℕ) → length ns ≤ k → MoreNames ns l r → more_c k (at l o f) ≡ record { value = ns; next = at r o f }
unfolding more_c blank
more_complete zero [] l r o f h (closes m) = rw (mark_complete (byte "}") l r o f refl m)
more_complete zero (n ∷ ns) l r o f h (comma m t i) = absurd (omega arith)
more_complete (suc k) [] l r o f h (closes m) = rw (mark_other (byte ",") (byte "}") l r o f refl m refl, mark_complete (byte "}") l r o f refl m)
more_complete (suc k) (n ∷ ns) l r o f h (comma {l₁ = l₁} {l₂ = l₂} m t i) =
    rw (mark_complete (byte ",") l l₁ o f refl m, name_complete n l₁ l₂ o f t, more_complete k ns l₂ r o f (omega arith) i)

pub names_complete : (v : List Name) (l r : List ℕ) (o : Bool) (f : List ℕ) → NamesText v l r → names_c (at l o f) ≡ record { value = v; next = at r o f }
unfolding names_c blank
names_complete [] l r o f z = elim z [ ]
names_complete (n ∷ ns) l r o f (opens {l₁ = l₁} {l₂ = l₂} h m t i) =
    rw (mark_complete (byte "{") l l₁ o f refl m, name_complete n l₁ l₂ o f t, more_complete 127 ns l₂ r o f h i)

pub slot_complete : (k : Slot) (v : Value k) (l r : List ℕ) (o : Bool) (f : List ℕ) → SlotText k v l r → Reads (slot_c k (at l o f)) (cut_slot k v) r (over_by (sized_slot k v) o)
slot_complete name v l r o f t = record { far = f; is = name_complete v l r o f t }
slot_complete (number limit) v l r o f t = quantity_complete limit v l r o f t
slot_complete in_brackets v l r o f t = record { far = f; is = bracket_complete v l r o f t }
slot_complete address v l r o f t = address_complete v l r o f t
slot_complete operand v l r o f t = operand_complete v l r o f t
slot_complete names v l r o f t = record { far = f; is = names_complete v l r o f t }

-- ---- one reading
bracket_one : (v u : Name) (l r s : List ℕ) → BracketText v l r → BracketText u l s → (v ≡ u) × (r ≡ s)
bracket_one v u l r s a b = took_one (bracket_complete v l r false [] a) (bracket_complete u l s false [] b)

offset_one : (v u : ℕ) (l r s r₁ s₁ : List ℕ) → OffsetText v l r → OffsetText u l s → Mark (byte "]") r r₁ → Mark (byte "]") s s₁ → (v ≡ u) × (r ≡ s)
unfolding blank
offset_one v u l r s r₁ s₁ bare bare a b = (refl, refl)
offset_one v u l r s r₁ s₁ bare (plus {l₁ = l₁} m n) a b = absurd (mark_two (byte "]") (byte "+") l r₁ l₁ refl refl refl a m)
offset_one v u l r s r₁ s₁ (plus {l₁ = l₁} m n) bare a b = absurd (mark_two (byte "]") (byte "+") l s₁ l₁ refl refl refl b m)
offset_one v u l r s r₁ s₁ (plus {l₁ = l₁} m n) (plus {l₁ = l₂} x y) a b =
    let p = mark-one (byte "+") l l₁ l₂ refl m x in
    quantity_one max_offset v u l₁ r s n (rw p y)

address-one : (v u : Address) (l r s : List ℕ) → AddressText v l r → AddressText u l s → (v ≡ u) × (r ≡ s)
unfolding blank
address-one v u l r s a b =
    let p = mark-one (byte "[") l a.l₁ b.l₁ refl a.opens b.opens in
    let q = name-one v.base u.base a.l₁ a.l₂ b.l₂ a.base (rw p b.base) in
    let t = offset_one v.offset u.offset a.l₂ a.l₃ b.l₃ r s a.offset (rw q.1 b.offset) a.closes b.closes in
    (address_by v u q.0 t.0, mark-one (byte "]") a.l₃ r s refl a.closes (rw t.1 b.closes))
  where
    address_by : (x y : Address) → x.base ≡ y.base → x.offset ≡ y.offset → x ≡ y
    address_by x y c d = ap (λ (n : Name). record { base = n; offset = x.offset }) c ∙ ap (λ (n : ℕ). record { base = y.base; offset = n }) d

operand-one : (v u : Operand) (l r s : List ℕ) → OperandText v l r → OperandText u l s → (v ≡ u) × (r ≡ s)
unfolding blank word_byte letter
operand-one (operand.Descriptor n) (operand.Descriptor m) l r s (by_name a) (by_name b) = let p = name-one n m l r s a b in (ap operand.Descriptor p.0, p.1)
operand-one (operand.Descriptor n) (operand.Address b) l r s (by_name a) (by_address k) = absurd (name_bracket n l r k.l₁ a k.opens)
operand-one (operand.Address a) (operand.Descriptor m) l r s (by_address k) (by_name b) = absurd (name_bracket m l s k.l₁ b k.opens)
operand-one (operand.Address a) (operand.Address b) l r s (by_address j) (by_address k) = let p = address-one a b l r s j k in (ap operand.Address p.0, p.1)

names-one : (ns ms : List Name) (l r s : List ℕ) → NamesText ns l r → NamesText ms l s → (ns ≡ ms) × (r ≡ s)
names-one ns ms l r s a b = took_one (names_complete ns l r false [] a) (names_complete ms l s false [] b)

pub slot-one : (k : Slot) (v u : Value k) (l r s : List ℕ) → SlotText k v l r → SlotText k u l s → (v ≡ u) × (r ≡ s)
slot-one name v u l r s a b = name-one v u l r s a b
slot-one (number limit) v u l r s a b = quantity_one limit v u l r s a b
slot-one in_brackets v u l r s a b = bracket_one v u l r s a b
slot-one address v u l r s a b = address-one v u l r s a b
slot-one operand v u l r s a b = operand-one v u l r s a b
slot-one names v u l r s a b = names-one v u l r s a b
