-- A text reads as a statement exactly where it spells it: its opcode's word is recognised, and its row of operands is read to its end. Assumes nothing.
use Rattle.std.specs.Prelude.{Option, Some, None, Ok, Err}
use Prim.Native.Nat.{ℕ, ◌-◌, ◌≤◌, ◌<◌}
use native.Mathlib.Omega.{arith}
use mathlib.Core.Path.{◌≡◌, refl, sym, ap, ◌∙◌, path_j}
use mathlib.Core.List.{List, [], ◌∷◌, ◌++◌}
use mathlib.Core.Bool.{Bool, true, false, ◌&&◌, not, cond}
use lib.ListN.{length, take, drop, take-append-drop}
use lib.Seq.{take-append_seam, drop-append_seam}
use lib.Dec.{leb}
use borrow.Author.Tests.{le-leb, lt-leb, leb-true}
use Rattle.tokens.specs.declared.Name.{Name}
use Rattle.tokens.specs.Bytes.{opcode_byte, run_len}
use Rattle.tokens.specs.Cursors.{Rest, Took}
use Rattle.statement.specs.declared.Operand.TheVariants as operand
use Rattle.statement.specs.declared.Statement.{Statement}
use Rattle.statement.specs.declared.Opcode.{Opcode}
use Rattle.statement.specs.declared.Misread.TheVariants.{NoForm}
use Rattle.statement.specs.Forms.{word, Slot, name, number, in_brackets, address, operand, names, Value, Values, max_offset, row, Whole, make}
use Rattle.statement.specs.Opcodes.{recognise}
use Rattle.statement.specs.Reading.{Reading, operands_c, start, whole_by, opcode_len, whole_c, answer_of, read_of, reason_of, registers_of}
use Rattle.grammar.specs.Spells.{RowText, Spells, sized_slot, sized_row, sized}
use Rattle.grammar.specs.Claims.{Exact}
use Rattle.statement.proofs.Words.{recognised, recognises, clean}
use Rattle.statement.proofs.Each.{each_opcode}
use Rattle.laws.proofs.BoolLaws.{never}
use Rattle.tokens.proofs.Runs.{run_all, run_ends}
use Rattle.grammar.proofs.Lexing.{at, cut}
use Rattle.grammar.proofs.Slots.{cut_slot}
use Rattle.grammar.proofs.Rows.{cut_row, over_row, row_sound, row_complete, row_one}

-- ---- numbers in range are read as they are
cut_same : (limit v : ℕ) → leb v limit ≡ true → cut limit v ≡ v
cut_same limit v h = rw h

cut_slot_lem : (k : Slot) (v : Value k) → sized_slot k v ≡ true → cut_slot k v ≡ v
cut_slot_lem name v h = refl
cut_slot_lem (number limit) v h = cut_same limit v h
cut_slot_lem in_brackets v h = refl
cut_slot_lem address v h = ap (λ (n : ℕ). record { base = v.base; offset = n }) (cut_same max_offset v.offset h)
cut_slot_lem operand (operand.Descriptor n) h = refl
cut_slot_lem operand (operand.Address a) h = ap (λ (n : ℕ). operand.Address (record { base = a.base; offset = n })) (cut_same max_offset a.offset h)
cut_slot_lem names v h = refl

over_stays : (ks : List Slot) (vs : Values ks) → over_row ks vs true ≡ true
over_stays [] vs = refl
over_stays (k ∷ ks) vs = go (sized_slot k vs.0) (over_stays ks vs.1)
  where
    go : (b : Bool) → over_row ks vs.1 true ≡ true → over_row ks vs.1 (cond b true true) ≡ true
    go true h = h
    go false h = h

-- where none is too large, the first is in range, and so are the others
pub over_none : (k : Slot) (ks : List Slot) (vs : Values (k ∷ ks)) (o : Bool) → over_row (k ∷ ks) vs o ≡ false → (sized_slot k vs.0 ≡ true) × (over_row ks vs.1 o ≡ false)
over_none k ks vs o h = go (sized_slot k vs.0) h
  where
    go : (b : Bool) → over_row ks vs.1 (cond b o true) ≡ false → (b ≡ true) × (over_row ks vs.1 o ≡ false)
    go true g = (refl, g)
    go false g = never (sym g ∙ over_stays ks vs.1)

cut_row_lem : (ks : List Slot) (vs : Values ks) (o : Bool) → over_row ks vs o ≡ false → cut_row ks vs ≡ vs
cut_row_lem [] vs o h = refl
cut_row_lem (k ∷ ks) vs o h =
    let p = over_none k ks vs o h in
    let e : ◌≡◌ {A = Values (k ∷ ks)} (cut_slot k vs.0, cut_row ks vs.1) (vs.0, vs.1) = rw (cut_slot_lem k vs.0 p.0, cut_row_lem ks vs.1 o p.1) in
    e

-- ---- a number is too large exactly where the statement is not sized
over-not : (ks : List Slot) (vs : Values ks) → over_row ks vs false ≡ not (sized_row ks vs)
over-not [] vs = refl
over-not (k ∷ ks) vs = go (sized_slot k vs.0) (over-not ks vs.1)
  where
    go : (b : Bool) → over_row ks vs.1 false ≡ not (sized_row ks vs.1) → over_row ks vs.1 (cond b false true) ≡ not (b && sized_row ks vs.1)
    go true h = h
    go false h = over_stays ks vs.1

made-sized : (o : Opcode) (vs : Values (row o)) → sized (make o vs).statement ≡ sized_row (row o) vs
unfolding sized
made-sized o = each_opcode (λ o. (vs : Values (row o)) → sized (make o vs).statement ≡ sized_row (row o) vs) o search

pub over_sized : (o : Opcode) (vs : Values (row o)) → over_row (row o) vs false ≡ not (sized (make o vs).statement)
over_sized o vs = over-not (row o) vs ∙ ap not (sym (made-sized o vs))

-- ---- the opcode
module _ (o : Opcode) (rest : List ℕ) (ends : run_len opcode_byte rest ≡ 0) where
  opcode_len_lem : opcode_len (word o ++ rest) ≡ length (word o)
  opcode_len_lem = run_all opcode_byte (word o) rest (clean o) ends

  opcode_found : recognise (take (opcode_len (word o ++ rest)) (word o ++ rest)) ≡ Some o
  opcode_found = rw (opcode_len_lem, take-append_seam (word o) rest) (recognised o)

  pub opcode_rest : drop (opcode_len (word o ++ rest)) (word o ++ rest) ≡ rest
  opcode_rest = rw opcode_len_lem (drop-append_seam (word o) rest)

  pub whole-at : whole_c (word o ++ rest) ≡ operands_c o (start rest)
  unfolding whole_c
  whole-at = rw (opcode_found, opcode_rest)

-- ---- what spells a statement is read to its end
pub record Met (w : Whole) (t : Took Whole) : Type 0 where
  pub far : List ℕ
  pub next : t.next ≡ at [] (not (sized w.statement)) far
  pub value : sized w.statement ≡ true → t.value ≡ w

operands_met : (o : Opcode) (vs : Values (row o)) (rest : List ℕ) → RowText (row o) vs rest → Met (make o vs) (operands_c o (start rest))
unfolding operands_c
operands_met o vs rest t =
    let p = row_complete (row o) vs rest false rest t in
    record {
      far = p.far;
      next = rw (p.is, over_sized o vs);
      value = λ h. rw p.is (ap (make o) (cut_row_lem (row o) vs false (over_sized o vs ∙ ap not h)));
    }

pub spells_met : (w : Whole) (text : List ℕ) → Spells w text → Met w (whole_c text)
spells_met w text s = rw (s.parts, whole-at s.opcode s.rest s.ends, ← s.made) (operands_met s.opcode s.values s.rest s.operands)

-- ---- what is read to its end spells a statement
read_by : (text : List ℕ) (found : Option Opcode) → recognise (take (opcode_len text) text) ≡ found → (whole_by text (drop (opcode_len text) text) found).next.ok ≡ true → (w : Whole) × Spells w text
unfolding operands_c
read_by text (Some o) e h =
    let rest = drop (opcode_len text) text in
    let p = row_sound (row o) (start rest) h in
    let q : take (opcode_len text) text ≡ word o = recognises (take (opcode_len text) text) o e in (
      make o p.1,
      record {
        opcode = o;
        values = p.1;
        rest = rest;
        parts = sym (take-append-drop (opcode_len text) text) ∙ ap (λ (w : List ℕ). w ++ rest) q;
        ends = run_ends opcode_byte text;
        operands = p.2;
        made = refl;
      },
    )
read_by text None e h = never h

pub read_spells : (text : List ℕ) → (whole_c text).next.ok ≡ true → (w : Whole) × Spells w text
unfolding whole_c
read_spells text h = read_by text (recognise (take (opcode_len text) text)) refl h

-- ---- the three answers
abbrev Fits : Whole → List ℕ → Type 0
Fits w text = Spells w text × (sized w.statement ≡ true) × (length text ≤ 4096)

abbrev Over : Whole → List ℕ → Type 0
Over w text = Spells w text × (sized w.statement ≡ false) × (length text ≤ 4096)

abbrev NoStatement : List ℕ → Type 0
NoStatement text = length text ≤ 4096 → (w : Whole) → Spells w text → ⊥

fits_got : (w : Whole) (text : List ℕ) → Fits w text → (read_of text ≡ Ok w.statement) × (registers_of text ≡ w.registers)
unfolding read_of answer_of registers_of
fits_got w text h =
    let m = spells_met w text h.0 in
    let b = le-leb (length text) 4096 h.2 in
    (rw (b, m.next, h.1, m.value h.1), rw (b, m.next, h.1, m.value h.1))

over_four : (w : Whole) (text : List ℕ) → Over w text → reason_of (read_of text) ≡ 4
unfolding read_of answer_of
over_four w text h =
    let m = spells_met w text h.0 in
    rw (le-leb (length text) 4096 h.2, m.next, h.1)

-- reason 3, where reading stopped, and past the end of a longer text
pub stopped_three : (text : List ℕ) → (whole_c text).next.ok ≡ false → read_of text ≡ Err (NoForm (length text - length (whole_c text).next.rest))
unfolding read_of answer_of
stopped_three text e = rw e

long_three : (text : List ℕ) → (whole_c text).next.ok ≡ true → leb (length text) 4096 ≡ false → read_of text ≡ Err (NoForm (length text))
unfolding read_of answer_of
long_three text e n = rw (e, n)

none_three : (text : List ℕ) → NoStatement text → reason_of (read_of text) ≡ 3
none_three text h = go (leb (length text) 4096) (whole_c text).next.ok refl refl
  where
    go : (b c : Bool) → leb (length text) 4096 ≡ b → (whole_c text).next.ok ≡ c → reason_of (read_of text) ≡ 3
    go true true p q = let s = read_spells text q in absurd (h (leb-true (length text) 4096 p) s.0 s.1)
    go false true p q = ap reason_of (long_three text q p)
    go b false p q = ap reason_of (stopped_three text q)

pub long : (text : List ℕ) (w : Whole) → Spells w text → 4096 < length text → read_of text ≡ Err (NoForm (length text))
long text w s h = long_three text (ap (λ (r : Rest). r.ok) (spells_met w text s).next) (lt-leb (length text) 4096 h)

-- every text has one of them
data Verdict (text : List ℕ) : Type 0 where
  fits : (w : Whole) → Fits w text → Verdict text
  over : (w : Whole) → Over w text → Verdict text
  none : NoStatement text → Verdict text

long_none : (text : List ℕ) → leb (length text) 4096 ≡ false → NoStatement text
long_none text e h = never (sym e ∙ le-leb (length text) 4096 h)

stopped_none : (text : List ℕ) → (whole_c text).next.ok ≡ false → NoStatement text
stopped_none text e h w s = let m = spells_met w text s in never (sym e ∙ ap (λ (r : Rest). r.ok) m.next)

verdict : (text : List ℕ) → Verdict text
verdict text = go (leb (length text) 4096) (whole_c text).next.ok refl refl
  where
    sort : (w : Whole) → Spells w text → length text ≤ 4096 → (b : Bool) → sized w.statement ≡ b → Verdict text
    sort w s l true e = fits w (s, e, l)
    sort w s l false e = over w (s, e, l)

    go : (b c : Bool) → leb (length text) 4096 ≡ b → (whole_c text).next.ok ≡ c → Verdict text
    go true true p q = let s = read_spells text q in sort s.0 s.1 (leb-true (length text) 4096 p) (sized s.0.statement) refl
    go true false p q = none (stopped_none text q)
    go false c p q = none (long_none text p)

-- ---- the theorems
reason_got : (text : List ℕ) (w : Whole) (n : ℕ) → read_of text ≡ Ok w.statement → reason_of (read_of text) ≡ n → 0 ≡ n
reason_got text w n h e = sym (ap reason_of h) ∙ e

pub got_same : (a b : Statement) → ◌≡◌ {A = Reading} (Ok a) (Ok b) → a ≡ b
got_same a b h = cc

got_fits : (text : List ℕ) (w : Whole) → Verdict text → (read_of text ≡ Ok w.statement) × (registers_of text ≡ w.registers) → Fits w text
got_fits text w (fits v h) g =
    let k = fits_got v text h in
    let p : v.statement ≡ w.statement = got_same v.statement w.statement (sym k.0 ∙ g.0) in
    let q : v.registers ≡ w.registers = sym k.1 ∙ g.1 in
    let e : v ≡ w = ap (λ (t : Statement). record { statement = t; registers = v.registers }) p ∙ ap (λ (r : List Name). record { statement = w.statement; registers = r }) q in
    rw e at h
got_fits text w (over v h) g = absurd (let z = reason_got text w 4 g.0 (over_four v text h) in omega arith)
got_fits text w (none h) g = absurd (let z = reason_got text w 3 g.0 (none_three text h) in omega arith)

four_over : (text : List ℕ) → Verdict text → reason_of (read_of text) ≡ 4 → (w : Whole) × Over w text
four_over text (fits w h) e = absurd (let z = reason_got text w 4 (fits_got w text h).0 e in omega arith)
four_over text (over w h) e = (w, h)
four_over text (none h) e = absurd (let z : ◌≡◌ {A = ℕ} 3 4 = sym (none_three text h) ∙ e in omega arith)

three_none : (text : List ℕ) → Verdict text → reason_of (read_of text) ≡ 3 → NoStatement text
three_none text (fits w h) e = absurd (let z = reason_got text w 3 (fits_got w text h).0 e in omega arith)
three_none text (over w h) e = absurd (let z : ◌≡◌ {A = ℕ} 4 3 = sym (over_four w text h) ∙ e in omega arith)
three_none text (none h) e = h

no_other : (text : List ℕ) → Verdict text → (reason_of (read_of text) ≡ 0 → ⊥) → (reason_of (read_of text) ≡ 4 → ⊥) → reason_of (read_of text) ≡ 3
no_other text (fits w h) a b = absurd (a (ap reason_of (fits_got w text h).0))
no_other text (over w h) a b = absurd (b (over_four w text h))
no_other text (none h) a b = none_three text h

-- ---- one reading
values_one : (o : Opcode) (vs : Values (row o)) (l : List ℕ) → RowText (row o) vs l → (q : Opcode) → o ≡ q → (us : Values (row q)) → RowText (row q) us l → make o vs ≡ make q us
values_one o vs l a q e =
    path_j (λ (p : Opcode) (z : o ≡ p). (us : Values (row p)) → RowText (row p) us l → make o vs ≡ make p us) (λ us b. ap (make o) (row_one (row o) vs us l a b)) e

pub one-reading : (text : List ℕ) (v w : Whole) → Spells v text → Spells w text → v ≡ w
one-reading text v w a b =
    let p : recognise (take (opcode_len text) text) ≡ Some a.opcode = rw a.parts (opcode_found a.opcode a.rest a.ends) in
    let q : recognise (take (opcode_len text) text) ≡ Some b.opcode = rw b.parts (opcode_found b.opcode b.rest b.ends) in
    let x : drop (opcode_len text) text ≡ a.rest = rw a.parts (opcode_rest a.opcode a.rest a.ends) in
    let y : drop (opcode_len text) text ≡ b.rest = rw b.parts (opcode_rest b.opcode b.rest b.ends) in
    let r : a.rest ≡ b.rest = sym x ∙ y in
    let o : a.opcode ≡ b.opcode = is_same a.opcode b.opcode (sym p ∙ q) in
    sym a.made ∙ (values_one a.opcode a.values a.rest a.operands b.opcode o b.values (rw r b.operands) ∙ b.made)
  where
    is_same : (c d : Opcode) → Some c ≡ Some d → c ≡ d
    is_same c d h = cc

pub exact : (text : List ℕ) → Exact text
exact text =
    let z = verdict text in
    record {
      got = λ w. (got_fits text w z, fits_got w text);
      four = (λ e. let h = four_over text z e in (h.0, h.1.0, h.1.1, h.1.2), λ h. over_four h.0 text (h.1, h.2, h.3));
      three = (three_none text z, none_three text);
      else = no_other text z;
      one = one-reading text;
    }
