-- Operands and rows of operands, added piece by piece, are their texts. Assumes nothing.
use Rattle.std.proofs.Common.{◌≡◌, ℕ, ◌+◌, ◌<◌, ◌≤◌, List, [], ◌∷◌, ◌++◌, Bool, true, false, ◌&&◌, Option, ◌⊎◌, inl, inr, leb, eqb, length, get_or, take, drop, refl, append_assoc, arith, add-one, drop-cons}
use mathlib.Core.Bool.{and-true, and-false, and_assoc}
use lib.ListN.{length-take, drop_of_length-le}
use lib.Seq.{length-take-le}
use lib.Dec.{ltb}
use borrow.Author.Tests.{lt-ltb, le-leb, lt-leb, eq-eqb, ne_eqb, eqb-true}
use Rattle.tokens.specs.declared.Name.{Name}
use Rattle.tokens.specs.Text.{bytes}
use Rattle.tokens.specs.Names.{name_bytes, name_given}
use Rattle.tokens.specs.Numbers.{decimal}
use Rattle.statement.specs.Forms.{Slot, Values, names, max32}
use Rattle.statement.specs.Canonical.{slot_text, slot_given, more_row_text, row_text, row_given, offset_text, more_names_text, names_text, all_names}
use Rattle.writer.specs.Outputs.{capacity, add_c, names_given, pair_text, more_c}
use Rattle.laws.proofs.BoolLaws.{and_swap}
use Rattle.pieces.proofs.Texts.{join, added_nothing}

-- commas, operands and the semicolon
more_law : (ks : List Slot) (v : Values ks) (o : Option (List ℕ)) → add_c (bytes ";") true (more_c ks v o) ≡ add_c (more_row_text ks v) (row_given ks v) o
unfolding more_row_text row_given
more_law [] v o = refl
more_law (k ∷ ks) v o = rw (more_law ks v.1 (add_c (slot_text k v.0) (slot_given k v.0) (add_c (bytes ", ") true o)), join, join)

-- after a word and a space
pub row_law : (w : List ℕ) (k : Slot) (ks : List Slot) (v : Values (k ∷ ks)) (o : Option (List ℕ))
    → add_c (bytes ";") true (more_c ks v.1 (add_c (slot_text k v.0) (slot_given k v.0) (add_c (w ++ bytes " ") true o))) ≡ add_c (w ++ row_text (k ∷ ks) v) (row_given (k ∷ ks) v) o
unfolding row_text row_given
row_law w k ks v o = rw (more_law ks v.1 (add_c (slot_text k v.0) (slot_given k v.0) (add_c (w ++ bytes " ") true o)), join, join, append_assoc)

-- ---- operands
-- between a bracket and a bracket
pub brackets_law : (x : List ℕ) (b : Bool) (o : Option (List ℕ)) → add_c (bytes "]") true (add_c x b (add_c (bytes "[") true o)) ≡ add_c (bytes "[" ++ (x ++ bytes "]")) b o
brackets_law x b o = rw (join, join, and-true b)

pub address_law : (x y : List ℕ) (b d : Bool) (o : Option (List ℕ)) → add_c (bytes "]") true (add_c y d (add_c x b (add_c (bytes "[") true o))) ≡ add_c (bytes "[" ++ (x ++ (y ++ bytes "]"))) (b && d) o
address_law x y b d o = rw (join, join, join, and-true d)

-- +number, or nothing for 0
pub offset_none : (v : ℕ) (o : Option (List ℕ)) → v ≡ 0 → o ≡ add_c (offset_text v) (leb v max32) o
offset_none v o e = rw e (added_nothing capacity o)

pub offset_some : (v : ℕ) (o : Option (List ℕ)) → (v ≡ 0 → ⊥) → add_c (decimal v) (leb v max32) (add_c (bytes "+") true o) ≡ add_c (offset_text v) (leb v max32) o
offset_some v o h = rw (ne_eqb v 0 h, join)

-- ---- names
-- none of them
pub names_empty : (n : ℕ) (ns : List Name) → length ns < 1 → names_given n ns ≡ false
names_empty n [] h = and-false (eqb n 0)
names_empty n (x ∷ ns) h = absurd (omega arith)

module _ (ns : List Name) (n : ℕ) where
  -- too many, or fewer than asked for
  pub names_none : (128 < n) ⊎ ((n ≤ 128) × (length ns < n)) → names_given n (take n ns) ≡ false
  names_none h = by (eqb n (length (take n ns))) refl h
    where
      by : (t : Bool) → eqb n (length (take n ns)) ≡ t → (128 < n) ⊎ ((n ≤ 128) × (length ns < n)) → (t && slot_given names (take n ns)) ≡ false
      by false e h = refl
      by true e (inl k) =
          let f : 128 < length (take n ns) = omega (arith, eqb-true n (length (take n ns)) e) in
          rw (lt-leb (length (take n ns)) 128 f, and-false (ltb 0 (length (take n ns))))
      by true e (inr k) = absurd (omega (arith, k.1, length-take n ns, eqb-true n (length (take n ns)) e))

  pub names_all : n ≤ 128 → n ≤ length ns → 1 ≤ length (take n ns) → names_given n (take n ns) ≡ all_names (take n ns)
  names_all h k some =
      let l : length (take n ns) ≡ n = length-take-le n ns k in
      let z : 0 < n = omega (arith, l) in
      rw (l, eq-eqb n n refl, lt-ltb 0 n z, le-leb n 128 h)

-- the first, and the others after it
pub names_start : (n : Name) (ns : List Name) (o : Option (List ℕ)) → add_c (more_names_text ns) (all_names ns) (add_c (name_bytes n) (name_given n) (add_c (bytes "{") true o)) ≡ add_c (names_text (n ∷ ns)) (all_names (n ∷ ns)) o
unfolding names_text
names_start n ns o = rw (join, join)

-- after one more
pub names_step : (ns : List Name) (d : Name) (i : ℕ) (o : Option (List ℕ)) → i < length ns
    → add_c (more_names_text (drop (i + 1) ns)) (all_names (drop (i + 1) ns)) (add_c (name_bytes (get_or ns i d)) (name_given (get_or ns i d)) (add_c (bytes ", ") true o)) ≡ add_c (more_names_text (drop i ns)) (all_names (drop i ns)) o
unfolding more_names_text
names_step ns d i o h = rw (add-one i, drop-cons ns i d h, join, join)

-- after the last
pub names_end : (ns : List Name) (i : ℕ) (o : Option (List ℕ)) → length ns ≤ i → add_c (bytes "}") true o ≡ add_c (more_names_text (drop i ns)) (all_names (drop i ns)) o
unfolding more_names_text
names_end ns i o h = rw (drop_of_length-le ns h)

-- ---- words and forms
-- the word of a ld or st, and a space
pub access_law : (w s n : List ℕ) (o : Option (List ℕ)) → add_c (bytes ".b32 ") true (add_c n true (add_c s true (add_c w true o))) ≡ add_c ((w ++ (s ++ (n ++ bytes ".b32"))) ++ bytes " ") true o
access_law w s n o = rw (join, join, join, append_assoc, append_assoc, append_assoc)

-- the word of an mma, and a space
pub mma_law : (a b d e f : List ℕ) (o : Option (List ℕ)) → add_c (bytes " ") true (add_c f true (add_c e true (add_c d true (add_c b true (add_c a true o))))) ≡ add_c ((a ++ (b ++ (d ++ (e ++ f)))) ++ bytes " ") true o
mma_law a b d e f o = rw (join, join, join, join, join, append_assoc, append_assoc, append_assoc, append_assoc)

-- two operands after a word
pub pair_law : (w x y : List ℕ) (b d : Bool) (o : Option (List ℕ))
    → add_c (bytes ";") true (add_c y d (add_c (bytes ", ") true (add_c x b (add_c w true o)))) ≡ add_c (w ++ pair_text x y) (b && (d && true)) o
pair_law w x y b d o = rw (join, join, join, join)

-- the names come first in a ld
pub load_law : (w x y : List ℕ) (e b d : Bool) (o : Option (List ℕ))
    → add_c (bytes ";") true (add_c y d (add_c (bytes ", ") true (add_c x (e && b) (add_c (w ++ bytes " ") true o)))) ≡ add_c (w ++ (bytes " " ++ pair_text x y)) (e && (b && (d && true))) o
load_law w x y e b d o = rw (pair_law (w ++ bytes " ") x y (e && b) d o, append_assoc, and_assoc e b (d && true))

-- and second in a st
pub store_law : (w x y : List ℕ) (e b d : Bool) (o : Option (List ℕ))
    → add_c (bytes ";") true (add_c y (e && d) (add_c (bytes ", ") true (add_c x b (add_c (w ++ bytes " ") true o)))) ≡ add_c (w ++ (bytes " " ++ pair_text x y)) (e && (b && (d && true))) o
store_law w x y e b d o = rw (pair_law (w ++ bytes " ") x y b (e && d) o, append_assoc, and_assoc e d true, and_swap b e (d && true))
