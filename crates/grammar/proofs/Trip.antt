-- The canonical text of a statement spells it, so it reads back as it was; and what reads can be written. One induction over the row of operands each way, with one law for each operand. Assumes nothing.
use Rattle.std.specs.Prelude.{Ok, Some, None}
use Prim.Native.Nat.{ℕ, suc, ◌^◌, ◌<◌, ◌≤◌}
use native.Mathlib.Omega.{arith}
use mathlib.Core.Path.{◌≡◌, refl, sym, ap, ◌∙◌}
use mathlib.Core.List.{List, [], ◌∷◌, ◌++◌, append_assoc}
use mathlib.Core.Bool.{Bool, true, false, ◌&&◌, not, cond}
use lib.ListN.{length}
use lib.Dec.{ltb, leb, eqb}
use borrow.Author.Tests.{eq-eqb, eqb-true, leb-true, le-leb, lt-ltb, not-false, ltb-true}
use Rattle.tokens.specs.Text.{byte}
use Rattle.tokens.specs.declared.Name.{Name}
use Rattle.tokens.specs.Bytes.{letter, word_byte, opcode_byte, run_len, blank, after_blanks}
use Rattle.expression.specs.Expressions.{goes_on}
use Rattle.tokens.specs.Names.{is_name, packed, name_bytes, same_name, name_given}
use Rattle.tokens.specs.Numbers.{decimal}
use Rattle.statement.specs.declared.Address.{Address}
use Rattle.statement.specs.declared.Operand.{Operand}
use Rattle.statement.specs.declared.Operand.TheVariants as operand
use Rattle.statement.specs.declared.Mma.{Mma}
use Rattle.statement.specs.declared.Access.{Access}
use Rattle.statement.specs.declared.Statement.{Statement}
use Rattle.statement.specs.declared.Statement.TheVariants as s
use Rattle.statement.specs.declared.Opcode.{Opcode}
use Rattle.statement.specs.declared.Opcode.TheVariants.{Multiply}
use Rattle.statement.specs.Forms.{Metadata, Slot, name, number, in_brackets, address, operand, names, Value, Values, max_offset, row, Whole, plain, access, make}
use Rattle.statement.specs.Reading.{read_of, registers_of}
use Rattle.grammar.proofs.Quantities.{ended_by}
use Rattle.grammar.specs.Spells.{spaces, Mark, NameText, NumberText, QuantityText, alone, BracketText, OffsetText, bare, plus, AddressText, OperandText, by_name, by_address, MoreNames, closes, comma, NamesText, opens, SlotText, MoreRow, RowText, Spells, sized_operand, sized_slot, sized}
use Rattle.statement.specs.Canonical.{sparse, opcode_of, mma_values, values_of, offset_text, address_text, operand_text, more_names_text, names_text, slot_text, more_row_text, row_text, text_of, all_names, address_given, operand_given, slot_given, row_given, count_of, given}
use Rattle.grammar.specs.Claims.{Reads, Trip, Writable, Canonical}
use Rattle.tokens.proofs.Names.{same_true}
use Rattle.laws.proofs.BoolLaws.{and_split, and-join, never}
use Rattle.grammar.proofs.Rows.{over_row}
use Rattle.grammar.proofs.Exact.{got_same, over_none, over_sized, exact}
use Rattle.grammar.proofs.Back.{packed-given, decimal-number, decimal_value}
use Rattle.statement.specs.Opcodes.{opcodes}
use Rattle.statement.proofs.Every.{every}
use Rattle.statement.proofs.Each.{each_opcode, each-statement}
use Rattle.statement.proofs.Bound.{names_few, text_short}

-- ---- limits of numbers that a decimal of 20 digits can write
abbrev small : Slot → Bool
small name = true
small (number limit) = ltb limit (10 ^ 20)
small in_brackets = true
small address = true
small operand = true
small names = true

abbrev small_row : List Slot → Bool
small_row [] = true
small_row (k ∷ ks) = small k && small_row ks

row_small : (o : Opcode) → small_row (row o) ≡ true
row_small = every (λ o. small_row (row o)) (λ o. true) (unfold opcodes in refl)

-- ---- canonical texts of operands spell them, after n spaces and before what ends a word
name-spelled : (n : ℕ) (v : Name) (r : List ℕ) → name_given v ≡ true → run_len word_byte r ≡ 0 → NameText v (spaces n ++ (name_bytes v ++ r)) r
unfolding name_given
name-spelled n v r h e =
    let p = and_split (is_name (name_bytes v)) (same_name (packed (name_bytes v)) v) h in
    record { bytes = name_bytes v; spelled = record { blanks = n; parts = refl; ends = e }; good = p.0; value = same_true (packed (name_bytes v)) v p.1 }

number_spelled : (n v : ℕ) (r : List ℕ) → v < 10 ^ 20 → run_len word_byte r ≡ 0 → NumberText v (spaces n ++ (decimal v ++ r)) r
number_spelled n v r h e = record { bytes = decimal v; spelled = record { blanks = n; parts = refl; ends = e }; good = decimal-number v; value = decimal_value v h }

mark-spelled : (n m : ℕ) (r : List ℕ) → Mark m (spaces n ++ (m ∷ r)) r
mark-spelled n m r = record { blanks = n; parts = refl }

bracket_spelled : (n : ℕ) (v : Name) (r : List ℕ) → name_given v ≡ true → BracketText v (spaces n ++ (byte "[" ∷ ((name_bytes v ++ byte "]" ∷ []) ++ r))) r
unfolding word_byte letter
bracket_spelled n v r h =
    record {
      l₁ = (name_bytes v ++ byte "]" ∷ []) ++ r;
      l₂ = byte "]" ∷ r;
      opens = mark-spelled n (byte "[") ((name_bytes v ++ byte "]" ∷ []) ++ r);
      inner = rw append_assoc (name-spelled 0 v (byte "]" ∷ r) h refl);
      closes = mark-spelled 0 (byte "]") r;
    }

-- a number with no operator behind it is alone
alone-spelled : {limit v : ℕ} {l r : List ℕ} → NumberText v l r → goes_on r ≡ false → QuantityText limit v l r
alone-spelled {r = r} t h = let n = ended_by r h in alone t n.0 n.1

closing-next : (r : List ℕ) → goes_on (byte "]" ∷ r) ≡ false
unfolding goes_on after_blanks blank
closing-next r = refl

offset_spelled : (v : ℕ) (r : List ℕ) → v ≤ max_offset → OffsetText v (offset_text v ++ (byte "]" ∷ r)) (byte "]" ∷ r)
unfolding word_byte letter
offset_spelled v r h = go (eqb v 0) refl
  where
    go : (b : Bool) → eqb v 0 ≡ b → OffsetText v (cond b [] (byte "+" ∷ decimal v) ++ (byte "]" ∷ r)) (byte "]" ∷ r)
    go true e = rw (eqb-true v 0 e) bare
    go false e = plus (mark-spelled 0 (byte "+") (decimal v ++ (byte "]" ∷ r))) (alone-spelled (number_spelled 0 v (byte "]" ∷ r) (omega arith) refl) (closing-next r))

offset_ends : (v : ℕ) (r : List ℕ) → run_len word_byte (offset_text v ++ (byte "]" ∷ r)) ≡ 0
unfolding word_byte letter
offset_ends v r = go (eqb v 0)
  where
    go : (b : Bool) → run_len word_byte (cond b [] (byte "+" ∷ decimal v) ++ (byte "]" ∷ r)) ≡ 0
    go true = refl
    go false = refl

address-spelled : (n : ℕ) (v : Address) (r : List ℕ) → address_given v ≡ true → AddressText v (spaces n ++ (address_text v ++ r)) r
unfolding address_text
address-spelled n v r h =
    let p = and_split (name_given v.base) (leb v.offset max_offset) h in
    let rest : List ℕ = (name_bytes v.base ++ (offset_text v.offset ++ byte "]" ∷ [])) ++ r in
    record {
      l₁ = rest;
      l₂ = offset_text v.offset ++ (byte "]" ∷ r);
      l₃ = byte "]" ∷ r;
      opens = mark-spelled n (byte "[") rest;
      base = simp append_assoc (name-spelled 0 v.base (offset_text v.offset ++ (byte "]" ∷ r)) p.0 (offset_ends v.offset r));
      offset = offset_spelled v.offset r (leb-true v.offset max_offset p.1);
      closes = mark-spelled 0 (byte "]") r;
    }

operand-spelled : (n : ℕ) (v : Operand) (r : List ℕ) → operand_given v ≡ true → run_len word_byte r ≡ 0 → OperandText v (spaces n ++ (operand_text v ++ r)) r
unfolding operand_text
operand-spelled n (operand.Descriptor v) r h e = by_name (name-spelled n v r h e)
operand-spelled n (operand.Address a) r h e = by_address (address-spelled n a r h)

more_ends : (ns : List Name) (r : List ℕ) → run_len word_byte (more_names_text ns ++ r) ≡ 0
unfolding more_names_text word_byte letter
more_ends [] r = refl
more_ends (n ∷ ns) r = refl

more_spelled : (ns : List Name) (r : List ℕ) → all_names ns ≡ true → MoreNames ns (more_names_text ns ++ r) r
unfolding more_names_text
more_spelled [] r h = closes (mark-spelled 0 (byte "}") r)
more_spelled (n ∷ ns) r h =
    let p = and_split (name_given n) (all_names ns) h in
    let t : NameText n (byte " " ∷ ((name_bytes n ++ more_names_text ns) ++ r)) (more_names_text ns ++ r) = rw append_assoc (name-spelled 1 n (more_names_text ns ++ r) p.0 (more_ends ns r)) in
    comma (mark-spelled 0 (byte ",") (byte " " ∷ ((name_bytes n ++ more_names_text ns) ++ r))) t (more_spelled ns r p.1)

names-spelled : (n : ℕ) (v : List Name) (r : List ℕ) → slot_given names v ≡ true → NamesText v (spaces n ++ (names_text v ++ r)) r
unfolding names_text
names-spelled n [] r h = never h
names-spelled n (v ∷ ns) r h =
    let p = and_split (ltb 0 (suc (length ns)) && leb (suc (length ns)) 128) (name_given v && all_names ns) h in
    let q = and_split (name_given v) (all_names ns) p.1 in
    let t : NameText v ((name_bytes v ++ more_names_text ns) ++ r) (more_names_text ns ++ r) = rw append_assoc (name-spelled 0 v (more_names_text ns ++ r) q.0 (more_ends ns r)) in
    let few : length ns ≤ 127 = omega (arith, names_few (v ∷ ns) h) in
    opens few (mark-spelled n (byte "{") ((name_bytes v ++ more_names_text ns) ++ r)) t (more_spelled ns r q.1)

slot-spelled : (k : Slot) (n : ℕ) (v : Value k) (r : List ℕ) → small k ≡ true → slot_given k v ≡ true → run_len word_byte r ≡ 0 → goes_on r ≡ false → SlotText k v (spaces n ++ (slot_text k v ++ r)) r
slot-spelled name n v r b h e z = name-spelled n v r h e
slot-spelled (number limit) n v r b h e z = alone-spelled (number_spelled n v r (omega (arith, leb-true v limit h, ltb-true limit (10 ^ 20) b)) e) z
slot-spelled in_brackets n v r b h e z = bracket_spelled n v r h
slot-spelled address n v r b h e z = address-spelled n v r h
slot-spelled operand n v r b h e z = operand-spelled n v r h e
slot-spelled names n v r b h e z = names-spelled n v r h

-- ---- rows
row_ends : (ks : List Slot) (vs : Values ks) → run_len word_byte (more_row_text ks vs) ≡ 0
unfolding more_row_text word_byte letter
row_ends [] vs = refl
row_ends (k ∷ ks) vs = refl

-- no operator follows an operand
row_next : (ks : List Slot) (vs : Values ks) → goes_on (more_row_text ks vs) ≡ false
unfolding more_row_text goes_on after_blanks blank
row_next [] vs = refl
row_next (k ∷ ks) vs = refl

more_row-spelled : (ks : List Slot) (vs : Values ks) → small_row ks ≡ true → row_given ks vs ≡ true → MoreRow ks vs (more_row_text ks vs)
unfolding more_row_text row_given
more_row-spelled [] vs b h = mark-spelled 0 (byte ";") []
more_row-spelled (k ∷ ks) vs b h =
    let p = and_split (slot_given k vs.0) (row_given ks vs.1) h in
    let q = and_split (small k) (small_row ks) b in
    let rest : List ℕ = more_row_text ks vs.1 in
    (byte " " ∷ (slot_text k vs.0 ++ rest), rest, mark-spelled 0 (byte ",") (byte " " ∷ (slot_text k vs.0 ++ rest)), slot-spelled k 1 vs.0 rest q.0 p.0 (row_ends ks vs.1) (row_next ks vs.1), more_row-spelled ks vs.1 q.1 p.1)

row-spelled : (ks : List Slot) (vs : Values ks) → small_row ks ≡ true → row_given ks vs ≡ true → RowText ks vs (row_text ks vs)
unfolding row_text row_given
row-spelled [] vs b h = mark-spelled 0 (byte ";") []
row-spelled (k ∷ ks) vs b h =
    let p = and_split (slot_given k vs.0) (row_given ks vs.1) h in
    let q = and_split (small k) (small_row ks) b in
    let rest : List ℕ = more_row_text ks vs.1 in
    (rest, slot-spelled k 1 vs.0 rest q.0 p.0 (row_ends ks vs.1) (row_next ks vs.1), more_row-spelled ks vs.1 q.1 p.1)

opcode_ends : (ks : List Slot) (vs : Values ks) → run_len opcode_byte (row_text ks vs) ≡ 0
unfolding row_text opcode_byte letter
opcode_ends [] vs = refl
opcode_ends (k ∷ ks) vs = refl

-- ---- a statement's opcode and operands make it again
no_names : (t : Statement) (regs : List Name) → eqb 0 (length regs) ≡ true → plain t ≡ record { statement = t; registers = regs }
no_names t [] h = refl
no_names t (n ∷ ns) h = absurd (let z = eqb-true 0 (suc (length ns)) h in omega arith)

operands_made : (m : Mma) (e : Metadata) → make (Multiply m.ws (sparse e) m.kind) (mma_values m e) ≡ plain (s.Multiply (record { ws = m.ws; kind = m.kind; d = m.d; a = m.a; b = m.b; metadata = e; idesc = m.idesc; predicate = m.predicate }))
operands_made m None = refl
operands_made m (Some e) = refl

-- a statement is what its opcode makes of its operands
abbrev Made : Statement → Type 0
Made t = (regs : List Name) → eqb (count_of t) (length regs) ≡ true → make (opcode_of t) (values_of t regs) ≡ record { statement = t; registers = regs }

access-made : (a : Access) (regs : List Name) → eqb a.registers (length regs) ≡ true → access a.shape a.num regs a.address ≡ a
access-made a regs h = ap (λ (k : ℕ). record { shape = a.shape; num = a.num; registers = k; address = a.address }) (sym (eqb-true a.registers (length regs) h))

mma-made : (m : Mma) → Made (s.Multiply m)
mma-made m regs h = operands_made m m.metadata ∙ no_names (s.Multiply m) regs h

made : (t : Statement) → Made t
made t = each-statement Made t (search (access-made, mma-made, no_names))

pub text_spells : (t : Statement) (regs : List Name) → given t regs ≡ true → Spells (record { statement = t; registers = regs }) (text_of t regs)
unfolding given text_of
text_spells t regs h =
    let p = and_split (eqb (count_of t) (length regs)) (row_given (row (opcode_of t)) (values_of t regs)) h in
    record {
      opcode = opcode_of t;
      values = values_of t regs;
      rest = row_text (row (opcode_of t)) (values_of t regs);
      parts = refl;
      ends = opcode_ends (row (opcode_of t)) (values_of t regs);
      operands = row-spelled (row (opcode_of t)) (values_of t regs) (row_small (opcode_of t)) p.1;
      made = made t regs p.0;
    }

-- ---- what a text spells can be written
name-given : (v : Name) (l r : List ℕ) → NameText v l r → name_given v ≡ true
name-given v l r t = rw (← t.value) (packed-given t.bytes t.good)

address-given : (v : Address) (l r : List ℕ) → AddressText v l r → leb v.offset max_offset ≡ true → address_given v ≡ true
address-given v l r t h = rw (name-given v.base t.l₁ t.l₂ t.base, h)

operand-given : (v : Operand) (l r : List ℕ) → OperandText v l r → sized_operand v ≡ true → operand_given v ≡ true
operand-given (operand.Descriptor n) l r (by_name t) h = name-given n l r t
operand-given (operand.Address a) l r (by_address t) h = address-given a l r t h

more_given : (ns : List Name) (l r : List ℕ) → MoreNames ns l r → all_names ns ≡ true
more_given [] l r (closes m) = refl
more_given (n ∷ ns) l r (comma {l₁ = l₁} {l₂ = l₂} m t i) = rw (name-given n l₁ l₂ t) (more_given ns l₂ r i)

names-given : (v : List Name) (l r : List ℕ) → NamesText v l r → slot_given names v ≡ true
names-given [] l r z = elim z [ ]
names-given (n ∷ ns) l r (opens {l₁ = l₁} {l₂ = l₂} h m t i) =
    let a : 0 < suc (length ns) = omega arith in
    let b : suc (length ns) ≤ 128 = omega arith in
    rw (lt-ltb 0 (suc (length ns)) a, le-leb (suc (length ns)) 128 b, name-given n l₁ l₂ t) (more_given ns l₂ r i)

slot-given : (k : Slot) (v : Value k) (l r : List ℕ) → SlotText k v l r → sized_slot k v ≡ true → slot_given k v ≡ true
slot-given name v l r t h = name-given v l r t
slot-given (number limit) v l r t h = h
slot-given in_brackets v l r t h = name-given v t.l₁ t.l₂ t.inner
slot-given address v l r t h = address-given v l r t h
slot-given operand v l r t h = operand-given v l r t h
slot-given names v l r t h = names-given v l r t

more_row-given : (ks : List Slot) (vs : Values ks) (l : List ℕ) (o : Bool) → MoreRow ks vs l → over_row ks vs o ≡ false → row_given ks vs ≡ true
unfolding row_given
more_row-given [] vs l o t h = refl
more_row-given (k ∷ ks) vs l o t h =
    let p = over_none k ks vs o h in
    rw (slot-given k vs.0 t.0 t.1 t.3 p.0) (more_row-given ks vs.1 t.1 o t.4 p.1)

row-given : (ks : List Slot) (vs : Values ks) (l : List ℕ) (o : Bool) → RowText ks vs l → over_row ks vs o ≡ false → row_given ks vs ≡ true
unfolding row_given
row-given [] vs l o t h = refl
row-given (k ∷ ks) vs l o t h =
    let p = over_none k ks vs o h in
    rw (slot-given k vs.0 l t.0 t.1 p.0) (more_row-given ks vs.1 t.0 o t.2 p.1)

-- a statement that an opcode makes of operands has them again
abbrev Again : Opcode → Type 0
Again o = (vs : Values (row o)) → row_given (row o) vs ≡ true → given (make o vs).statement (make o vs).registers ≡ true

made-given : (o : Opcode) → Again o
unfolding given
made-given o = each_opcode Again o (search (and-join, eq-eqb))

pub spells-given : (w : Whole) (text : List ℕ) → Spells w text → sized w.statement ≡ true → given w.statement w.registers ≡ true
spells-given w text t h =
    let e : over_row (row t.opcode) t.values false ≡ false = over_sized t.opcode t.values ∙ ap (λ (v : Whole). not (sized v.statement)) t.made ∙ ap not h in
    rw (← t.made) (made-given t.opcode t.values (row-given (row t.opcode) t.values t.rest false t.operands e))

-- ---- the numbers of a statement that can be written are in range
slot-fits : (k : Slot) (v : Value k) → slot_given k v ≡ true → sized_slot k v ≡ true
slot-fits name v h = refl
slot-fits (number limit) v h = h
slot-fits in_brackets v h = refl
slot-fits address v h = (and_split (name_given v.base) (leb v.offset max_offset) h).1
slot-fits operand (operand.Descriptor n) h = refl
slot-fits operand (operand.Address a) h = (and_split (name_given a.base) (leb a.offset max_offset) h).1
slot-fits names v h = refl

row_fits : (ks : List Slot) (vs : Values ks) → row_given ks vs ≡ true → over_row ks vs false ≡ false
unfolding row_given
row_fits [] vs h = refl
row_fits (k ∷ ks) vs h = let p = and_split (slot_given k vs.0) (row_given ks vs.1) h in rw (slot-fits k vs.0 p.0) (row_fits ks vs.1 p.1)

pub given-sized : (t : Statement) (regs : List Name) → given t regs ≡ true → sized t ≡ true
unfolding given
given-sized t regs h =
    let p = and_split (eqb (count_of t) (length regs)) (row_given (row (opcode_of t)) (values_of t regs)) h in
    let e = sym (over_sized (opcode_of t) (values_of t regs)) ∙ row_fits (row (opcode_of t)) (values_of t regs) p.1 in
    not-false (sized t) (ap (λ (w : Whole). not (sized w.statement)) (sym (made t regs p.0)) ∙ e)

-- ---- the theorems
text_back : (t : Statement) (regs : List Name) → given t regs ≡ true → Reads (text_of t regs) t regs
text_back t regs h =
    let n : length (text_of t regs) ≤ 4096 = omega (arith, text_short t regs h) in
    ((exact (text_of t regs)).got (record { statement = t; registers = regs })).1 (text_spells t regs h, given-sized t regs h, n)

-- one text reads as one statement, with one list of registers
reads-one : (text : List ℕ) (t u : Statement) (regs rest : List Name) → Reads text t regs → Reads text u rest → (u ≡ t) × (rest ≡ regs)
reads-one text t u regs rest a b = (got_same u t (sym b.0 ∙ a.0), sym b.1 ∙ a.1)

pub trip : (t : Statement) (regs : List Name) → given t regs ≡ true → Trip t regs
trip t regs h =
    record {
      spells = text_spells t regs h;
      short = text_short t regs h;
      back = text_back t regs h;
      apart = λ u rest k e. reads-one (text_of t regs) t u regs rest (text_back t regs h) (rw (← e) (text_back u rest k));
    }

reads-given : (text : List ℕ) (t : Statement) (regs : List Name) → Reads text t regs → given t regs ≡ true
reads-given text t regs h =
    let w : Whole = record { statement = t; registers = regs } in
    let g = ((exact text).got w).0 h in
    spells-given w text g.0 g.1

pub writable : (t : Statement) (regs : List Name) → Writable t regs
writable t regs = record { exactly = (λ h. (text_of t regs, text_back t regs h), λ h. reads-given h.0 t regs h.1) }

pub canonical : (text : List ℕ) (t : Statement) → read_of text ≡ Ok t → Canonical text t
canonical text t h =
    let regs = registers_of text in
    let b = text_back t regs (reads-given text t regs (h, refl)) in
    record {
      same = b;
      again = λ u e. let p = reads-one (text_of t regs) t u regs (registers_of (text_of t regs)) b (e, refl) in rw (p.0, p.1);
    }
