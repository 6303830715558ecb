-- Operands stand where their spelling has them: no byte of a token is a comma or a brace, but for those marks themselves, and the commas of a list of registers
-- are inside its braces. So after one operand the next comma outside of braces is that of the row. Assumes nothing.
use Prim.Native.Nat.{ℕ, zero, suc, ◌+◌, ◌<◌, ◌≤◌}
use native.Mathlib.Omega.{arith}
use mathlib.Core.Path.{◌≡◌, refl, sym, ap, ◌∙◌}
use mathlib.Core.List.{List, [], ◌∷◌, ◌++◌, append_assoc}
use mathlib.Core.Bool.{Bool, true, false, ◌&&◌, not, cond}
use mathlib.Core.Option.{none, some, some-injective, none-ne-some}
use lib.ListN.{length, take, drop, get_or, length-append, length-drop, take-append-drop}
use lib.Dec.{eqb, ltb}
use borrow.Author.Tests.{ltb-true, ltb-false, eqb-true}
use Rattle.tokens.specs.Text.{byte}
use Rattle.tokens.specs.declared.Name.{Name}
use Rattle.tokens.specs.Bytes.{letter, word_byte, blank, run_len, all, after_blanks, token_len, token_of}
use Rattle.statement.specs.declared.Address.{Address}
use Rattle.statement.specs.declared.Operand.{Operand}
use Rattle.statement.specs.declared.Operand.TheVariants as operand
use Rattle.statement.specs.declared.Opcode.{Opcode}
use Rattle.statement.specs.declared.Statement.{Statement}
use Rattle.statement.specs.Forms.{Slot, name, number, in_brackets, address, operand, names, Value, Values, row, Whole, make}
use Rattle.statement.specs.Canonical.{opcode_of, values_of}
use Rattle.statement.specs.Reading.{opcode_len}
use Rattle.statement.specs.Positions.{within, after_comma, after_commas, operand_from, after_bracket, name_from, operand_place, name_place, slot_name, row_names, names_of}
use Rattle.expression.specs.Integers.{Result}
use Rattle.grammar.proofs.Along.{Along, quantity_along}
use Rattle.grammar.specs.Spells.{spaces, Mark, Word, NameText, NumberText, group, minus, plain, FactorText, QuantityText, alone, composed, BracketText, OffsetText, bare, plus, AddressText, OperandText, by_name, by_address, MoreNames, closes, comma, NamesText, opens, SlotText, MoreRow, RowText, Spells}
use Rattle.grammar.specs.Operands.{Part, more_parts, row_parts, parts_of, name_in, NameAt, NumberAt, MarkAt, Shows, Placed, AllPlaced, AllShown, OperandsPlaced}
use Rattle.statement.proofs.Each.{each_opcode, each-statement}
use Rattle.laws.proofs.BoolLaws.{never, and_split}
use Rattle.grammar.proofs.Lexing.{blanks_parts, starts, whole, whole_head, other, word_at, token_is, name-whole, number-whole, mark-at}
use Rattle.grammar.proofs.Exact.{opcode_rest}
use Rattle.grammar.proofs.Places.{place-drop}

-- ---- commas outside of braces, from token to token
-- a byte that is none of the three marks is passed
pass : (b : Bool) (x : ℕ) (l : List ℕ) → eqb x (byte ",") ≡ false → eqb x (byte "{") ≡ false → eqb x (byte "}") ≡ false → after_comma b (x ∷ l) ≡ after_comma b l
unfolding after_comma
pass true x l c o e = rw (c, o, e)
pass false x l c o e = rw (c, o)

pass_start : (b : Bool) (x : ℕ) (l : List ℕ) → starts x ≡ true → after_comma b (x ∷ l) ≡ after_comma b l
unfolding word_byte letter
pass_start b x l h = pass b x l (other x (byte ",") h refl) (other x (byte "{") h refl) (other x (byte "}") h refl)

pass_spaces : (b : Bool) (n : ℕ) (l : List ℕ) → after_comma b (spaces n ++ l) ≡ after_comma b l
pass_spaces b zero l = refl
pass_spaces b (suc n) l = pass b (byte " ") (spaces n ++ l) refl refl refl ∙ pass_spaces b n l

pass_run : (b : Bool) (u r : List ℕ) → all word_byte u ≡ true → after_comma b (u ++ r) ≡ after_comma b r
pass_run b [] r h = refl
pass_run b (x ∷ u) r h = let p = and_split (word_byte x) (all word_byte u) h in pass_start b x (u ++ r) (rw p.0) ∙ pass_run b u r p.1

pass_bytes : (b : Bool) (w r : List ℕ) → whole w ≡ true → after_comma b (w ++ r) ≡ after_comma b r
unfolding whole
pass_bytes b [] r h = never h
pass_bytes b (x ∷ u) r h = let p = and_split (starts x) (all word_byte u) h in pass_start b x (u ++ r) p.0 ∙ pass_run b u r p.1

pass_word : (b : Bool) {w l r : List ℕ} → whole w ≡ true → Word w l r → after_comma b l ≡ after_comma b r
pass_word b {w} {l} {r} h k = ap (after_comma b) k.parts ∙ (pass_spaces b k.blanks (w ++ r) ∙ pass_bytes b w r h)

pass_name : (b : Bool) {n : Name} {l r : List ℕ} → NameText n l r → after_comma b l ≡ after_comma b r
pass_name b k = pass_word b (name-whole k.bytes k.good) k.spelled

pass_number : (b : Bool) {v : ℕ} {l r : List ℕ} → NumberText v l r → after_comma b l ≡ after_comma b r
pass_number b k = pass_word b (number-whole k.bytes k.good) k.spelled

-- up to a mark
to_mark : (b : Bool) {m : ℕ} {l r : List ℕ} → Mark m l r → after_comma b l ≡ after_comma b (m ∷ r)
to_mark b {m} {l} {r} k = ap (after_comma b) k.parts ∙ pass_spaces b k.blanks (m ∷ r)

at-comma : {l r : List ℕ} → Mark (byte ",") l r → after_comma false l ≡ r
unfolding after_comma
at-comma k = to_mark false k

-- an expression has none of the three marks
pass_mark : (b : Bool) (m : ℕ) {l r : List ℕ} → eqb m (byte ",") ≡ false → eqb m (byte "{") ≡ false → eqb m (byte "}") ≡ false → Mark m l r → after_comma b l ≡ after_comma b r
pass_mark b m {l} {r} c o e k = to_mark b k ∙ pass b m r c o e

passes : Along (λ l r. (b : Bool) → after_comma b l ≡ after_comma b r)
passes = record {
  here = λ b. refl;
  then = λ p q b. p b ∙ q b;
  mark = λ m c o e k b. pass_mark b m c o e k;
  number = λ k b. pass_number b k;
}

pass_quantity : (b : Bool) {limit v : ℕ} {l r : List ℕ} → QuantityText limit v l r → after_comma b l ≡ after_comma b r
pass_quantity b t = quantity_along (λ l r. (b : Bool) → after_comma b l ≡ after_comma b r) passes t b

-- ---- an operand has no comma of the row
pass_offset : {v : ℕ} {l r : List ℕ} → OffsetText v l r → after_comma false l ≡ after_comma false r
pass_offset bare = refl
pass_offset (plus {l₁ = l₁} m n) = to_mark false m ∙ (pass false (byte "+") l₁ refl refl refl ∙ pass_quantity false n)

pass_bracket : {n : Name} {l r : List ℕ} → BracketText n l r → after_comma false l ≡ after_comma false r
pass_bracket {n} {l} {r} k =
    to_mark false k.opens ∙ (pass false (byte "[") k.l₁ refl refl refl ∙ (pass_name false k.inner ∙ (to_mark false k.closes ∙ pass false (byte "]") r refl refl refl)))

pass_address : {a : Address} {l r : List ℕ} → AddressText a l r → after_comma false l ≡ after_comma false r
pass_address {a} {l} {r} k =
    to_mark false k.opens ∙ (pass false (byte "[") k.l₁ refl refl refl ∙ (pass_name false k.base ∙ (pass_offset k.offset ∙ (to_mark false k.closes ∙ pass false (byte "]") r refl refl refl))))

pass_operand : {v : Operand} {l r : List ℕ} → OperandText v l r → after_comma false l ≡ after_comma false r
pass_operand (by_name t) = pass_name false t
pass_operand (by_address t) = pass_address t

-- inside braces commas are passed, up to the brace that closes them
pass_more : {ns : List Name} {l r : List ℕ} → MoreNames ns l r → after_comma true l ≡ after_comma false r
unfolding after_comma
pass_more (closes m) = to_mark true m
pass_more (comma m n i) = to_mark true m ∙ (pass_name true n ∙ pass_more i)

pass_names : {ns : List Name} {l r : List ℕ} → NamesText ns l r → after_comma false l ≡ after_comma false r
unfolding after_comma
pass_names (opens h m n i) = to_mark false m ∙ (pass_name true n ∙ pass_more i)

pass_slot : (k : Slot) (v : Value k) (l r : List ℕ) → SlotText k v l r → after_comma false l ≡ after_comma false r
pass_slot name v l r t = pass_name false t
pass_slot (number limit) v l r t = pass_quantity false t
pass_slot in_brackets v l r t = pass_bracket t
pass_slot address v l r t = pass_address t
pass_slot operand v l r t = pass_operand t
pass_slot names v l r t = pass_names t

-- ---- places
-- s ends with l
abbrev Ends : List ℕ → List ℕ → Type 0
Ends s l = (front : List ℕ) × (s ≡ front ++ l)

ends_trans : (s l m : List ℕ) → Ends s l → Ends l m → Ends s m
ends_trans s l m a b = (a.0 ++ b.0, a.1 ∙ (ap (λ (w : List ℕ). a.0 ++ w) b.1 ∙ sym (append_assoc a.0 b.0 m)))

ends-drop : (n : ℕ) (s : List ℕ) → Ends s (drop n s)
ends-drop n s = (take n s, sym (take-append-drop n s))

ends_blanks : (s : List ℕ) → Ends s (after_blanks s)
unfolding after_blanks
ends_blanks s = ends-drop (run_len blank s) s

ends-comma : (b : Bool) (s : List ℕ) → Ends s (after_comma b s)
unfolding after_comma
ends-comma b [] = ([], refl)
ends-comma b (x ∷ s) = go (eqb x (byte ",") && not b) (ends-comma (within b x) s)
  where
    go : (c : Bool) → Ends s (after_comma (within b x) s) → Ends (x ∷ s) (cond c s (after_comma (within b x) s))
    go true i = (x ∷ [], refl)
    go false i = (x ∷ i.0, ap (λ (w : List ℕ). x ∷ w) i.1)

ends_commas : (i : ℕ) (s : List ℕ) → Ends s (after_commas i s)
unfolding after_commas
ends_commas zero s = ([], refl)
ends_commas (suc i) s = ends_trans s (after_comma false s) (after_commas i (after_comma false s)) (ends-comma false s) (ends_commas i (after_comma false s))

ends-operand : (text : List ℕ) (i : ℕ) → Ends text (operand_from text i)
unfolding operand_from
ends-operand text i =
    let rest = drop (opcode_len text) text in
    let p = ends_trans text rest (after_commas i rest) (ends-drop (opcode_len text) text) (ends_commas i rest) in
    ends_trans text (after_commas i rest) (after_blanks (after_commas i rest)) p (ends_blanks (after_commas i rest))

ends_bracket : (l : List ℕ) → Ends l (after_bracket l)
ends_bracket [] = ([], refl)
ends_bracket (x ∷ l) = go (eqb x (byte "["))
  where
    go : (c : Bool) → Ends (x ∷ l) (cond c (after_blanks l) (x ∷ l))
    go true = let p = ends_blanks l in (x ∷ p.0, ap (λ (w : List ℕ). x ∷ w) p.1)
    go false = ([], refl)

ends-name : (text : List ℕ) (i : ℕ) → Ends text (name_from text i)
unfolding name_from
ends-name text i = ends_trans text (operand_from text i) (name_from text i) (ends-operand text i) (ends_bracket (operand_from text i))

-- from its place on a text is as it is from the operand on, or from its name on
pub operand-drop : (text : List ℕ) (i : ℕ) → drop (operand_place text i) text ≡ operand_from text i
unfolding operand_place
operand-drop text i = let p = ends-operand text i in place-drop text p.0 (operand_from text i) p.1

pub name-drop : (text : List ℕ) (i : ℕ) → drop (name_place text i) text ≡ name_from text i
unfolding name_place
name-drop text i = let p = ends-name text i in place-drop text p.0 (name_from text i) p.1

-- a place where a byte stands is in the text
pub in_text : (n x : ℕ) (s l : List ℕ) → drop n s ≡ x ∷ l → n < length s
in_text n x s l h = omega (arith, length-drop n s, ap length h)

-- ---- one operand
-- something stands there
abbrev pub Some : List ℕ → Type 0
Some l = (x : ℕ) × (u : List ℕ) × (l ≡ x ∷ u)

-- what an operand from l on shows, at its first byte and at its name's
record Seen (k : Slot) (v : Value k) (l r : List ℕ) (t : SlotText k v l r) : Type 0 where
  some : Some (after_blanks l)
  some_name : Some (after_blanks (name_in k v l r t))
  inner : after_bracket (after_blanks l) ≡ after_blanks (name_in k v l r t)
  shows : Shows k v (after_blanks l) (after_blanks (name_in k v l r t))

word_some : {w l r : List ℕ} → whole w ≡ true → Word w l r → Some (after_blanks l)
word_some {w} {l} {r} g k = let h = whole_head w g in (h.0, h.1 ++ r, word_at w l r g k ∙ ap (λ (u : List ℕ). u ++ r) h.2)

-- a word is no bracket
word-bare : {w l r : List ℕ} → whole w ≡ true → Word w l r → after_bracket (after_blanks l) ≡ after_blanks l
unfolding word_byte letter
word-bare {w} {l} {r} g k = let h = whole_head w g in rw (word_at w l r g k, h.2, other h.0 (byte "[") h.3 refl)

word_token : {w l r : List ℕ} → whole w ≡ true → Word w l r → token_of (after_blanks l) ≡ w
word_token {w} {l} {r} g k = ap token_of (word_at w l r g k) ∙ token_is w r g k.ends

name-at : {n : Name} {l r : List ℕ} → NameText n l r → NameAt n (after_blanks l)
name-at k = let e = word_token (name-whole k.bytes k.good) k.spelled in (rw e k.good, rw e k.value)

number_at : {v : ℕ} {l r : List ℕ} → NumberText v l r → NumberAt v (after_blanks l)
number_at k = let e = word_token (number-whole k.bytes k.good) k.spelled in (rw e k.good, rw e k.value)

name-some : {n : Name} {l r : List ℕ} → NameText n l r → Some (after_blanks l)
name-some k = word_some (name-whole k.bytes k.good) k.spelled

mark-some : {m : ℕ} {l r : List ℕ} → blank m ≡ false → Mark m l r → Some (after_blanks l)
mark-some {m} {l} {r} d k = (m, r, mark-at m d k)

-- ---- the first byte of an expression is no bracket, and spaces before it may be left out
pub record First (l : List ℕ) : Type 0 where
  pub some : Some (after_blanks l)
  pub bare : after_bracket (after_blanks l) ≡ after_blanks l

mark-opens : (m : ℕ) {l r : List ℕ} → blank m ≡ false → eqb m (byte "[") ≡ false → Mark m l r → First l
mark-opens m {l} {r} d e k = record { some = mark-some d k; bare = rw (mark-at m d k, e) }

number-opens : {v : ℕ} {l r : List ℕ} → NumberText v l r → First l
number-opens t = let g = number-whole t.bytes t.good in record { some = word_some g t.spelled; bare = word-bare g t.spelled }

factor-opens : (d : ℕ) (u : Result) (l r : List ℕ) → FactorText d u l r → First l
unfolding blank
factor-opens zero a l r t = number-opens t.spelled
factor-opens (suc d) a l r (group m e c) = mark-opens (byte "(") refl refl m
factor-opens (suc d) a l r (minus m t) = mark-opens (byte "-") refl refl m
factor-opens (suc d) a l r (plain t) = number-opens t.spelled

pub quantity_opens : (limit v : ℕ) (l r : List ℕ) → QuantityText limit v l r → First l
quantity_opens limit v l r (alone t n m) = number-opens t
quantity_opens limit v l r (composed t h) = factor-opens 16 t.head.v l t.head.l₁ t.head.head

-- a bracket, and what is inside it
open_at : {l r : List ℕ} → Mark (byte "[") l r → MarkAt (byte "[") (after_blanks l)
unfolding blank token_of token_len word_byte letter
open_at k = rw (mark-at (byte "[") refl k)

open_inner : {l r : List ℕ} → Mark (byte "[") l r → after_bracket (after_blanks l) ≡ after_blanks r
unfolding blank
open_inner k = rw (mark-at (byte "[") refl k)

brace-at : {l r : List ℕ} → Mark (byte "{") l r → MarkAt (byte "{") (after_blanks l)
unfolding blank token_of token_len word_byte letter
brace-at k = rw (mark-at (byte "{") refl k)

brace-bare : {l r : List ℕ} → Mark (byte "{") l r → after_bracket (after_blanks l) ≡ after_blanks l
unfolding blank
brace-bare k = rw (mark-at (byte "{") refl k)

seen-slot : (k : Slot) (v : Value k) (l r : List ℕ) (t : SlotText k v l r) → Seen k v l r t
unfolding blank
seen-slot name v l r t = record { some = name-some t; some_name = name-some t; inner = word-bare (name-whole t.bytes t.good) t.spelled; shows = (refl, name-at t) }
seen-slot (number limit) v l r t =
    let q = quantity_opens limit v l r t in
    record { some = q.some; some_name = q.some; inner = q.bare; shows = (l, r, t, refl) }
seen-slot in_brackets v l r t = record { some = mark-some refl t.opens; some_name = name-some t.inner; inner = open_inner t.opens; shows = (open_at t.opens, name-at t.inner) }
seen-slot address v l r t = record { some = mark-some refl t.opens; some_name = name-some t.base; inner = open_inner t.opens; shows = (open_at t.opens, name-at t.base) }
seen-slot operand (operand.Descriptor n) l r (by_name t) =
    record { some = name-some t; some_name = name-some t; inner = word-bare (name-whole t.bytes t.good) t.spelled; shows = (refl, name-at t) }
seen-slot operand (operand.Address a) l r (by_address t) =
    record { some = mark-some refl t.opens; some_name = name-some t.base; inner = open_inner t.opens; shows = (open_at t.opens, name-at t.base) }
seen-slot names v l r (opens h m n i) = record { some = mark-some refl m; some_name = mark-some refl m; inner = brace-bare m; shows = brace-at m }

-- ---- a row of them
-- after one comma more
commas_next : (i : ℕ) (l : List ℕ) → after_commas (suc i) l ≡ after_comma false (after_commas i l)
unfolding after_commas
commas_next zero l = refl
commas_next (suc i) l = commas_next i (after_comma false l)

module _ (text rest : List ℕ) (parts : drop (opcode_len text) text ≡ rest) where
  -- the operand after i commas
  placed : (i : ℕ) (p : Part) → after_commas i rest ≡ p.from → Placed text i p
  unfolding operand_from name_from
  placed i p h =
      let s = seen-slot p.slot p.value p.from p.rest p.spelled in
      let from : drop (operand_place text i) text ≡ after_blanks p.from = operand-drop text i ∙ rw (parts, h) in
      let named : drop (name_place text i) text ≡ after_blanks (name_in p.slot p.value p.from p.rest p.spelled) = name-drop text i ∙ (rw (parts, h) s.inner) in
      record {
        inside = in_text (operand_place text i) s.some.0 text s.some.1 (from ∙ s.some.2);
        from = from;
        name_inside = in_text (name_place text i) s.some_name.0 text s.some_name.1 (named ∙ s.some_name.2);
        named = named;
        shows = rw (from, named) s.shows;
        numeral = λ n t. rw from (number_at t);
      }

  next : (i : ℕ) (p : Part) → after_commas i rest ≡ p.from → after_commas (suc i) rest ≡ after_comma false p.rest
  next i p h = commas_next i rest ∙ (ap (after_comma false) h ∙ pass_slot p.slot p.value p.from p.rest p.spelled)

  more_placed : (i : ℕ) (ks : List Slot) (v : Values ks) (l : List ℕ) (t : MoreRow ks v l) → after_commas i rest ≡ after_comma false l → AllPlaced text i (more_parts ks v l t)
  more_placed i [] v l t h = tt
  more_placed i (k ∷ ks) v l t h =
      let p : Part = record { slot = k; value = v.0; from = t.0; rest = t.1; spelled = t.3 } in
      let e : after_commas i rest ≡ t.0 = h ∙ at-comma t.2 in
      (placed i p e, more_placed (suc i) ks v.1 t.1 t.4 (next i p e))

  row-placed : (ks : List Slot) (v : Values ks) (t : RowText ks v rest) → AllPlaced text 0 (row_parts ks v rest t)
  unfolding after_commas
  row-placed [] v t = tt
  row-placed (k ∷ ks) v t =
      let p : Part = record { slot = k; value = v.0; from = rest; rest = t.0; spelled = t.1 } in
      (placed 0 p refl, more_placed 1 ks v.1 t.0 t.2 (next 0 p refl))

-- what is placed is shown
more_shown : (text : List ℕ) (i : ℕ) (ks : List Slot) (v : Values ks) (l : List ℕ) (t : MoreRow ks v l) → AllPlaced text i (more_parts ks v l t) → AllShown text i ks v
more_shown text i [] v l t h = tt
more_shown text i (k ∷ ks) v l t h = (h.0.shows, more_shown text (suc i) ks v.1 t.1 t.4 h.1)

row_shown : (text : List ℕ) (ks : List Slot) (v : Values ks) (l : List ℕ) (t : RowText ks v l) → AllPlaced text 0 (row_parts ks v l t) → AllShown text 0 ks v
row_shown text [] v l t h = tt
row_shown text (k ∷ ks) v l t h = (h.0.shows, more_shown text 1 ks v.1 t.0 t.2 h.1)

-- the operands that a statement was made of are the operands that it has
abbrev Kept : List ℕ → Opcode → Type 0
Kept text o = (v : Values (row o)) → AllShown text 0 (row o) v → AllShown text 0 (row (opcode_of (make o v).statement)) (values_of (make o v).statement (make o v).registers)

kept : (text : List ℕ) (o : Opcode) → Kept text o
kept text o = each_opcode (Kept text) o search

-- ---- names
slot-named : (k : Slot) (v : Value k) (n : Name) (here inner : List ℕ) → Shows k v here inner → slot_name k v ≡ some n → NameAt n inner
slot-named name v n here inner h e = rw (← some-injective v n e) h.1
slot-named (number limit) v n here inner h e = absurd (none-ne-some n e)
slot-named in_brackets v n here inner h e = rw (← some-injective v n e) h.1
slot-named address v n here inner h e = rw (← some-injective v.base n e) h.1
slot-named operand (operand.Descriptor m) n here inner h e = rw (← some-injective m n e) h.1
slot-named operand (operand.Address a) n here inner h e = rw (← some-injective a.base n e) h.1
slot-named names v n here inner h e = absurd (none-ne-some n e)

-- of the operands from operand i on
row_named : (text : List ℕ) (i : ℕ) (ks : List Slot) (v : Values ks) → AllShown text i ks v → (j : ℕ) (n : Name) → get_or (row_names ks v) j none ≡ some n → NameAt n (drop (name_place text (j + i)) text)
row_named text i [] v h j n e = absurd (none-ne-some n e)
row_named text i (k ∷ ks) v h zero n e =
    let same : 0 + i ≡ i = omega arith in
    rw same (slot-named k v.0 n (drop (operand_place text i) text) (drop (name_place text i) text) h.0 e)
row_named text i (k ∷ ks) v h (suc j) n e =
    let same : suc j + i ≡ j + suc i = omega arith in
    rw same (row_named text (suc i) ks v.1 h.1 j n e)

-- whatever its registers are
same_names : (t : Statement) (regs : List Name) → row_names (row (opcode_of t)) (values_of t regs) ≡ names_of t
same_names t = each-statement (λ t. (regs : List Name) → row_names (row (opcode_of t)) (values_of t regs) ≡ names_of t) t search

-- ---- places rise
ends-length : (s l : List ℕ) → Ends s l → length l ≤ length s
ends-length s l e = omega (arith, ap length e.1, length-append e.0 l)

-- after a comma fewer bytes are left
comma-length : (b : Bool) (s : List ℕ) → 0 < length s → length (after_comma b s) < length s
unfolding after_comma
comma-length b [] h = absurd (omega arith)
comma-length b (x ∷ s) h = go (eqb x (byte ",") && not b)
  where
    go : (c : Bool) → length (cond c s (after_comma (within b x) s)) < suc (length s)
    go true = omega arith
    go false = omega (arith, ends-length s (after_comma (within b x) s) (ends-comma (within b x) s))

pass_blanks : (b : Bool) (l : List ℕ) → after_comma b l ≡ after_comma b (after_blanks l)
pass_blanks b l = ap (after_comma b) (blanks_parts l) ∙ pass_spaces b (run_len blank l) (after_blanks l)

-- a bracket is none, nor are the spaces after it
pass_opening : (l : List ℕ) → after_comma false l ≡ after_comma false (after_bracket l)
pass_opening [] = refl
pass_opening (x ∷ l) = go (eqb x (byte "[")) refl
  where
    go : (c : Bool) → eqb x (byte "[") ≡ c → after_comma false (x ∷ l) ≡ after_comma false (cond c (after_blanks l) (x ∷ l))
    go true e = ap (λ (y : ℕ). after_comma false (y ∷ l)) (eqb-true x (byte "[") e) ∙ (pass false (byte "[") l refl refl refl ∙ pass_blanks false l)
    go false e = refl

module _ (text : List ℕ) where
  -- so there are fewer from the next operand on
  next-length : (i : ℕ) → 0 < length (operand_from text i) → length (operand_from text (suc i)) < length (operand_from text i)
  unfolding operand_from
  next-length i h =
      let l = after_commas i (drop (opcode_len text) text) in
      let m = after_commas (suc i) (drop (opcode_len text) text) in
      let e : m ≡ after_comma false (after_blanks l) = commas_next i (drop (opcode_len text) text) ∙ pass_blanks false l in
      omega (arith, ends-length m (after_blanks m) (ends_blanks m), ap length e, comma-length false (after_blanks l) h)

  -- and fewer than from this one's name on
  after-name : (i : ℕ) → 0 < length (name_from text i) → length (operand_from text (suc i)) < length (name_from text i)
  unfolding operand_from name_from
  after-name i h =
      let l = after_commas i (drop (opcode_len text) text) in
      let m = after_commas (suc i) (drop (opcode_len text) text) in
      let e : m ≡ after_comma false (after_bracket (after_blanks l)) = commas_next i (drop (opcode_len text) text) ∙ (pass_blanks false l ∙ pass_opening (after_blanks l)) in
      omega (arith, ends-length m (after_blanks m) (ends_blanks m), ap length e, comma-length false (after_bracket (after_blanks l)) h)

  name-within : (i : ℕ) → operand_place text i ≤ name_place text i
  unfolding operand_place name_place name_from
  name-within i = omega (arith, ends-length (operand_from text i) (after_bracket (operand_from text i)) (ends_bracket (operand_from text i)))

  name_before : (i : ℕ) → name_place text i < length text → name_place text i < operand_place text (suc i)
  unfolding operand_place name_place
  name_before i h =
      let some : 0 < length (name_from text i) = omega (arith, h) in
      omega (arith, after-name i some, ends-length text (name_from text i) (ends-name text i))

  next-rises : (i : ℕ) → operand_place text i < length text → operand_place text i < operand_place text (suc i)
  unfolding operand_place
  next-rises i h =
      let some : 0 < length (operand_from text i) = omega (arith, h) in
      omega (arith, next-length i some, ends-length text (operand_from text i) (ends-operand text i))

  -- up to operand j, if all before it are in the text
  rises : (i j : ℕ) → ((k : ℕ) → k < j → operand_place text k < length text) → i < j → operand_place text i < operand_place text j
  rises i zero h l = absurd (omega (arith, l))
  rises i (suc j) h l = go (ltb i j) refl (rises i j (λ k m. h k (omega (arith, m))))
    where
      last : operand_place text j < operand_place text (suc j)
      last = next-rises j (h j (omega arith))

      go : (b : Bool) → ltb i j ≡ b → (i < j → operand_place text i < operand_place text j) → operand_place text i < operand_place text (suc j)
      go true e before = omega (arith, before (ltb-true i j e), last)
      go false e before =
          let same : i ≡ j = omega (arith, l, ltb-false i j e) in
          rw same last

  -- what is placed is in the text
  placed-inside : (i : ℕ) (ps : List Part) → AllPlaced text i ps → (k : ℕ) → k < length ps → operand_place text (k + i) < length text
  placed-inside i [] h k l = absurd (omega (arith, l))
  placed-inside i (p ∷ ps) h zero l =
      let same : 0 + i ≡ i = omega arith in
      rw same h.0.inside
  placed-inside i (p ∷ ps) h (suc k) l =
      let same : suc k + i ≡ k + suc i = omega arith in
      rw same (placed-inside (suc i) ps h.1 k (omega (arith, l)))

  name-inside : (i : ℕ) (ps : List Part) → AllPlaced text i ps → (k : ℕ) → k < length ps → name_place text (k + i) < length text
  name-inside i [] h k l = absurd (omega (arith, l))
  name-inside i (p ∷ ps) h zero l =
      let same : 0 + i ≡ i = omega arith in
      rw same h.0.name_inside
  name-inside i (p ∷ ps) h (suc k) l =
      let same : suc k + i ≡ k + suc i = omega arith in
      rw same (name-inside (suc i) ps h.1 k (omega (arith, l)))

-- ---- every text
module _ (text : List ℕ) (w : Whole) (s : Spells w text) where
  all_placed : AllPlaced text 0 (parts_of s)
  all_placed = row-placed text s.rest (rw s.parts (opcode_rest s.opcode s.rest s.ends)) (row s.opcode) s.values s.operands

  all_shown : AllShown text 0 (row (opcode_of w.statement)) (values_of w.statement w.registers)
  all_shown = rw (← s.made) (kept text s.opcode s.values (row_shown text (row s.opcode) s.values s.rest s.operands all_placed))

  all_named : (i : ℕ) (n : Name) → get_or (names_of w.statement) i none ≡ some n → NameAt n (drop (name_place text i) text)
  all_named i n e =
      let t = w.statement in
      let shown = row_named text 0 (row (opcode_of t)) (values_of t w.registers) all_shown i n (rw (same_names t w.registers) e) in
      let same : i + 0 ≡ i = omega arith in
      rw same at shown

  all_rising : (i j : ℕ) → i < j → j < length (parts_of s) → (operand_place text i ≤ name_place text i) × (name_place text i < operand_place text j)
  all_rising i j l m =
      let same : (k : ℕ) → k + 0 ≡ k = λ k. omega arith in
      let here : name_place text i < operand_place text (suc i) = name_before text i (rw (same i) at (name-inside text 0 (parts_of s) all_placed i (omega (arith, l, m)))) in
      (name-within text i, go (ltb (suc i) j) refl here)
    where
      inside : (k : ℕ) → k < j → operand_place text k < length text
      inside k h = let same : k + 0 ≡ k = omega arith in rw same at (placed-inside text 0 (parts_of s) all_placed k (omega (arith, h, m)))

      go : (b : Bool) → ltb (suc i) j ≡ b → name_place text i < operand_place text (suc i) → name_place text i < operand_place text j
      go true e before = omega (arith, before, rises text (suc i) j inside (ltb-true (suc i) j e))
      go false e before =
          let same : suc i ≡ j = omega (arith, l, ltb-false (suc i) j e) in
          rw (← same) before

pub operands : (text : List ℕ) → OperandsPlaced text
operands text = record { each = all_placed text; shown = all_shown text; named = all_named text; rising = all_rising text }
