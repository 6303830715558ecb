-- Laws of numbers, lists of names and answers, in the words of the code. Assumes nothing.
use Rattle.std.specs.Prelude.{Option, Some, None, Ok, Err}
use Prim.Native.Nat.{ℕ, zero, suc, ◌+◌, ◌-◌, ◌<◌, ◌≤◌}
use native.Mathlib.Numerals.{add-one}
use native.Mathlib.Nat.{sub_self}
use native.Mathlib.Omega.{arith}
use mathlib.Core.Path.{◌≡◌, refl, sym, ap, ◌∙◌}
use mathlib.Core.List.{List, [], ◌∷◌}
use mathlib.Core.Bool.{Bool, true, false, not, ◌&&◌, cond, and-false}
use lib.ListN.{length, set, take, drop}
use lib.Seq.{sets}
use lib.Dec.{leb, eqb}
use types.Run.{OneOf}
use denote.Enum.Declared.{tag_of}
use borrow.Author.Tests.{leb-true}
use Rattle.laws.proofs.BoolLaws.{clash, and_split}
use Rattle.expression.proofs.QuantityLaws.{alone-marked}
use Rattle.tokens.specs.declared.Name.{Name}
use Rattle.tokens.specs.declared.Cursor.{Cursor}
use Rattle.tokens.specs.Text.{byte}
use Rattle.tokens.specs.Bytes.{after_blanks, token_of}
use Rattle.tokens.specs.Numbers.{is_number, value_of}
use Rattle.tokens.specs.declared.Read.{Read}
use Rattle.tokens.specs.Cursors.{Rest, seen, off, Took, mark_c, end_c, name_c, number_c, read_seen}
use Rattle.expression.specs.declared.Amount.{Amount}
use Rattle.expression.specs.Expressions.{clean, expr_by, factor_c, fits_in, settled, expression_c, goes_on, quantity_c}
use Rattle.instruction.specs.declared.Kind.{Kind}
use Rattle.statement.specs.declared.Statement.{Statement}
use Rattle.statement.specs.declared.Statement.TheVariants.{Exit, Multiply as Multiplied}
use Rattle.statement.specs.declared.Opcode.{Opcode}
use Rattle.statement.specs.declared.Opcode.TheVariants.{Multiply}
use Rattle.statement.specs.declared.Misread.TheVariants.{NoForm}
use Rattle.statement.specs.Forms.{name, number, Values, max_offset, row, Whole, plain, make}
use Rattle.statement.specs.Opcodes.{recognise}
use Rattle.statement.specs.Reading.{Reading, offset_c, address_c, operand_c, more_c, tally, answer_of, more_row_c, row_c, operands_c, start, opcode_len, whole_by, whole_c, longest_text, read_of, fine, registers_of, told}
use Rattle.opcode.specs.declared.Head.{Head}
use Rattle.opcode.specs.Heads.{head_seen, head_by, head_of}
use Rattle.statement.specs.contracts.Opcode.{enum, the_type}
use Rattle.statement.proofs.Variants.{all_but, at_each}
use Rattle.reader.specs.Lists.{list_c}
use Rattle.reader.specs.Rows.{named_c, pair_c, plain_offset_c, metadata_c}

-- ---- numbers
under_cond : (limit : ℕ) (b : Bool) (x y : Took ℕ) → (b ≡ true → x.value ≤ limit) → y.value ≤ limit → (cond b x y).value ≤ limit
under_cond limit true x y f h = f refl
under_cond limit false x y f h = h

-- a number that was read is in range
pub number_under : (limit : ℕ) (r : Rest) → (number_c limit r).value ≤ limit
unfolding number_c
number_under limit r =
    let l = after_blanks r.rest in
    let v = value_of (token_of l) in
    under_cond limit r.ok _ _ (λ _. under_cond limit (is_number (token_of l)) _ _ (λ _. under_cond limit (leb v limit) _ _ (λ e. leb-true v limit e) (omega arith)) (omega arith))
    (omega arith)

-- an expression that was read is in range, and so is what stands where a number may
settled_under : (limit : ℕ) (r : Rest) (l : List ℕ) (t : Took Amount) → (settled limit r l t).value ≤ limit
settled_under limit r l t =
    under_cond limit t.next.ok _ _ (λ _. under_cond limit (fits_in limit t.value) _ _ (λ e. leb-true t.value.size limit (fits-leb t.value.over t.value.minus (leb t.value.size limit) e)) (omega arith)) (omega arith)
  where
    fits-leb : (o m b : Bool) → (not o && (not m && b)) ≡ true → b ≡ true
    fits-leb true m b h = absurd (let z : false ≡ true = h in clash z refl)
    fits-leb false true b h = absurd (let z : false ≡ true = h in clash z refl)
    fits-leb false false b h = h

pub quantity_under : (limit : ℕ) (r : Rest) → (quantity_c limit r).value ≤ limit
unfolding quantity_c expression_c
quantity_under limit r =
    under_cond limit ((number_c limit r).next.ok && not (goes_on (number_c limit r).next.rest)) _ _ (λ _. number_under limit r) (settled_under limit r (after_blanks r.rest) (expr_by (factor_c 16) (clean r)))

-- an offset with the bracket behind it, and a number with the end behind it, are numbers alone
pub plain-offset : (r : Rest) → (mark_c (byte "]") (plain_offset_c r).next).ok ≡ true → offset_c r ≡ plain_offset_c r
unfolding offset_c plain_offset_c
plain-offset r h = go (mark_c (byte "+") r).ok h
  where
    res : Bool → Took ℕ
    res b = cond b (number_c max_offset (mark_c (byte "+") r)) (record { value = 0; next = r })

    go : (b : Bool) → (mark_c (byte "]") (res b).next).ok ≡ true → cond b (quantity_c max_offset (mark_c (byte "+") r)) (record { value = 0; next = r }) ≡ res b
    go true k = alone-marked max_offset (mark_c (byte "+") r) (byte "]") refl k
    go false k = refl

pub plain-number : (limit : ℕ) (r : Rest) → (end_c (number_c limit r).next).ok ≡ true → quantity_c limit r ≡ number_c limit r
unfolding end_c
plain-number limit r h =
    alone-marked limit r (byte ";") refl (and_split (mark_c (byte ";") (number_c limit r).next).ok (eqb (length (mark_c (byte ";") (number_c limit r).next).rest) 0) h).0

-- in the words of the code
pub offset_ended : (r : Rest) (v : Took ℕ) (e : Rest) → v ≡ plain_offset_c r → e ≡ mark_c (byte "]") v.next → e.ok ≡ true → v ≡ offset_c r
offset_ended r v e p q h =
    p ∙ sym (plain-offset r (sym (ap (λ (x : Rest). x.ok) (q ∙ ap (λ (t : Took ℕ). mark_c (byte "]") t.next) p)) ∙ h))

pub number-ended : (limit : ℕ) (r : Rest) (v : Took ℕ) (e : Rest) → v ≡ number_c limit r → e ≡ end_c v.next → e.ok ≡ true → v ≡ quantity_c limit r
number-ended limit r v e p q h =
    p ∙ sym (plain-number limit r (sym (ap (λ (x : Rest). x.ok) (q ∙ ap (λ (t : Took ℕ). end_c t.next) p)) ∙ h))

-- ---- lists of names
-- no comma: no name is left
pub more_done : (s : List ℕ) (at d : Cursor) (k : ℕ) → seen s d ≡ mark_c (byte ",") (seen s at) → d.ok ≡ false
    → more_c k (seen s at) ≡ record { value = []; next = mark_c (byte "}") (seen s at) }
unfolding more_c
more_done s at d zero h e = refl
more_done s at d (suc k) h e = rw (← h, e)

-- a comma: one name, and what is left after it
pub more_took : (s : List ℕ) (at d : Cursor) (m : Read Name) (count : ℕ) → count < 128 → seen s d ≡ mark_c (byte ",") (seen s at) → read_seen s m ≡ name_c (seen s d) → d.ok ≡ true
    → more_c (128 - count) (seen s at) ≡ record { value = m.value ∷ (more_c (128 - (count + 1)) (seen s m.next)).value; next = (more_c (128 - (count + 1)) (seen s m.next)).next }
unfolding more_c
more_took s at d m count b h n e =
    let q : 128 - count ≡ suc (128 - (count + 1)) = omega arith in
    rw (q, ← h, ← n, e)

-- 128 names: no more are read
pub more_full : (r : Rest) (count : ℕ) → 128 ≤ count → more_c (128 - count) r ≡ record { value = []; next = mark_c (byte "}") r }
unfolding more_c
more_full r count h =
    let q : 128 - count ≡ 0 = omega arith in
    rw q

-- how many names, the list that they are stored in, and where reading goes on
pub record Stores : Type 0 where
  pub count : ℕ
  pub names : List Name
  pub next : Rest

-- after count names, those that are left
abbrev pub stored : List Name → ℕ → Took (List Name) → Stores
stored names count m = record { count = count + length m.value; names = sets names count m.value; next = m.next }

pub stored_more : (names : List Name) (count : ℕ) (v : Name) (m : Took (List Name)) → stored (set names count v) (count + 1) m ≡ stored names count (record { value = v ∷ m.value; next = m.next })
stored_more names count v m =
    let q : count + 1 + length m.value ≡ count + suc (length m.value) = omega arith in
    rw (q, add-one)

-- the list ends: what is counted and stored is all of it
pub stored-end : (names names₀ : List Name) (count : ℕ) (x : Rest) (v : Name) (m : Took (List Name)) → stored names count (record { value = []; next = x }) ≡ stored (set names₀ 0 v) 1 m
    → (◌≡◌ {A = Took ℕ} (record { value = count; next = x }) (tally (record { value = v ∷ m.value; next = m.next }))) × (names ≡ sets names₀ 0 (v ∷ m.value))
stored-end names names₀ count x v m h =
    let p : count + 0 ≡ 1 + length m.value = ap (λ t. t.count) h in
    let q : count ≡ suc (length m.value) = omega arith in
    let n : x ≡ m.next = ap (λ t. t.next) h in
    (rw (q, n), ap (λ t. t.names) h)

-- no name: nothing is stored
pub none-stored : (names ns : List Name) → ns ≡ [] → (0 ≡ length ns) × (names ≡ sets names 0 ns)
none-stored names ns h = rw h (refl, refl)

-- ---- a statement, by the opcode at its head
head_whole : (s : List ℕ) → whole_c s ≡ whole_by s (head_of s).rest (head_of s).found
unfolding whole_c head_of
head_whole s = by (recognise (take (opcode_len s) s)) refl
  where
    by : (f : Option Opcode) → recognise (take (opcode_len s) s) ≡ f
        → whole_by s (drop (opcode_len s) s) (recognise (take (opcode_len s) s)) ≡ whole_by s (head_by s (recognise (take (opcode_len s) s))).rest (head_by s (recognise (take (opcode_len s) s))).found
    by (Some o) e = rw e
    by None e = rw e

-- in the words of the code
module _ (s : List ℕ) where
  pub whole_is : (h : Head) → head_seen s (Some h) ≡ head_of s → whole_c s ≡ operands_c h.opcode (start (drop h.end s))
  whole_is h is = head_whole s ∙ rw (← is)

  pub whole-none : head_seen s None ≡ head_of s → whole_c s ≡ record { value = plain Exit; next = off (start s) s }
  whole-none is = head_whole s ∙ rw (← is)

-- ---- the answer
pub read_none : (s : List ℕ) → whole_c s ≡ record { value = plain Exit; next = off (start s) s } → Err (NoForm 0) ≡ read_of s
unfolding read_of answer_of
read_none s w = rw (w, sub_self (length s))

pub read_told : (s : List ℕ) (t : Took Whole) → whole_c s ≡ t → told s t ≡ read_of s
unfolding read_of
read_told s t w = rw w

-- a text reads if it is short enough and its reading ended well
abbrev good : List ℕ → Rest → Bool
good text r = leb (length text) longest_text && fine r

good_by : (text : List ℕ) (r : Rest) (t u : Statement) (short ok over : Bool) → leb (length text) 4096 ≡ short → r.ok ≡ ok → r.over ≡ over → answer_of text r t ≡ Ok u → good text r ≡ true
unfolding answer_of
good_by text r t u true true false n p q h = rw (n, p, q)
good_by text r t u true true true n p q h = absurd (let g = rw (n, p, q) at h in let z : ◌≡◌ {A = ℕ} 0 1 = cc in omega arith)
good_by text r t u false true over n p q h = absurd (let g = rw (n, p) at h in let z : ◌≡◌ {A = ℕ} 0 1 = cc in omega arith)
good_by text r t u short false over n p q h = absurd (let g = rw p at h in let z : ◌≡◌ {A = ℕ} 0 1 = cc in omega arith)

-- what is known in the `else` of a `let Ok(..)`
abbrev Unread : Reading → Type 0
Unread r = (t : Statement) → r ≡ Ok t → ⊥

not-good_by : (text : List ℕ) (r : Rest) (t : Statement) (short ok over : Bool) → leb (length text) 4096 ≡ short → r.ok ≡ ok → r.over ≡ over → Unread (answer_of text r t) → good text r ≡ false
unfolding answer_of
not-good_by text r t true true false n p q h = absurd (h t (rw (n, p, q)))
not-good_by text r t true true true n p q h = rw (n, p, q)
not-good_by text r t true false over n p q h = rw (n, p)
not-good_by text r t false ok over n p q h = rw n

-- ---- the registers
pub registers_none : (s : List ℕ) → whole_c s ≡ record { value = plain Exit; next = off (start s) s } → registers_of s ≡ []
unfolding registers_of
registers_none s w = rw (w, and-false (leb (length s) 4096))

module _ (s : List ℕ) (t : Took Whole) (answer : Reading) (whole : whole_c s ≡ t) (told_is : answer ≡ told s t) where
  pub registers_got : (u : Statement) → answer ≡ Ok u → registers_of s ≡ t.value.registers
  unfolding registers_of
  registers_got u g =
      rw (whole, good_by s t.next t.value.statement u (leb (length s) 4096) t.next.ok t.next.over refl refl refl (sym told_is ∙ g))

  pub registers_unread : Unread answer → registers_of s ≡ []
  unfolding registers_of
  registers_unread h =
      rw (whole, not-good_by s t.next t.value.statement (leb (length s) 4096) t.next.ok t.next.over refl refl refl (λ u g. h u (told_is ∙ g)))

-- every opcode but Load (5) and Store (6), by its place in the declaration
abbrev others : List ℕ
others = all_but enum (5 ∷ 6 ∷ [])

list_mma : (ws sp : Bool) (kind : Kind) (r : Rest) → list_c (Multiply ws sp kind) r ≡ []
unfolding list_c operands_c
list_mma ws false kind r = refl
list_mma ws true kind r = refl

-- what is neither a ld nor a st names no registers
pub list_other : (o : Opcode) (r : Rest) → OneOf others (tag_of the_type o) → list_c o r ≡ []
unfolding list_c operands_c
list_other o r h = at_each enum (λ o. list_c o r ≡ []) others o h (search list_mma depth 32)

-- ---- rows
-- a name, a comma, a number and the end are the row
pub pair_row : (b : Bool) (limit : ℕ) (r m e : Rest) (n : Took Name) (v : Took ℕ) → n ≡ named_c b r → m ≡ mark_c (byte ",") n.next → v ≡ quantity_c limit m → e ≡ end_c v.next
    → ◌≡◌ {A = Took (Values (name ∷ number limit ∷ []))} (record { value = (n.value, (v.value, tt)); next = e }) (pair_c b limit r)
unfolding row_c more_row_c
pair_row true limit r m e n v p q t u = rw (u, t, q, p)
pair_row false limit r m e n v p q t u = rw (u, t, q, p)

-- what was read as the row of an opcode is told as its statement
pub row_told : (s : List ℕ) (r : Rest) (o : Opcode) (t : Took (Values (row o))) → t ≡ row_c (row o) r → answer_of s t.next (make o t.value).statement ≡ told s (operands_c o r)
unfolding operands_c
row_told s r o t h = rw h

-- an mma, dense or sparse
unfoldable pub mma_c : Bool → Bool → Kind → Rest → Took Whole
mma_c ws sp kind r =
    let d = address_c r in
    let a = operand_c (mark_c (byte ",") d.next) in
    let b = name_c (mark_c (byte ",") a.next) in
    let m = metadata_c sp b.next in
    let i = name_c (mark_c (byte ",") m.next) in
    let p = name_c (mark_c (byte ",") i.next) in
    record {
      value = plain (Multiplied (record { ws = ws; kind = kind; d = d.value; a = a.value; b = b.value; metadata = m.value; idesc = i.value; predicate = p.value }));
      next = end_c p.next;
    }

-- the two rows of an mma are one
pub mma-row : (ws sp : Bool) (kind : Kind) (r : Rest) → operands_c (Multiply ws sp kind) r ≡ mma_c ws sp kind r
unfolding operands_c row_c more_row_c metadata_c mma_c
mma-row ws true kind r = refl
mma-row ws false kind r = refl
