-- Texts put one after another. Assumes nothing.
use Prim.Native.Nat.{ℕ, ◌+◌, ◌<◌, ◌≤◌}
use native.Mathlib.Omega.{arith}
use mathlib.Core.Path.{◌≡◌, sym, ap, ◌∙◌}
use mathlib.Core.List.{List, [], ◌∷◌, ◌++◌, append_assoc}
use Rattle.std.proofs.Common.{Some}
use mathlib.Core.Bool.{true, false}
use lib.ListN.{length, take, drop, length-append}
use lib.Seq.{sets, sets-eq, take_at}
use lib.Dec.{leb}
use borrow.Author.Tests.{le-leb, lt-leb}
use Rattle.tokens.specs.declared.Name.{Name}
use Rattle.tokens.specs.Names.{name_bytes}
use Rattle.tokens.specs.Numbers.{decimal}
use Rattle.tokens.specs.Text.{tab, lf}
use Rattle.tokens.proofs.Lengths.{decimal_short, name_short}
use Rattle.pieces.specs.Texts.{added}
use Rattle.pieces.proofs.Texts.{join, added_fits}
use Rattle.report.specs.Report.{numbers_text, head_text, row_text, put_text, put_end}
use Rattle.report.specs.Fields.{field_room, line_room, field_text}

-- ---- a text put where there is room for it

module _ (room : List ℕ) (at : ℕ) (w : List ℕ) where
  pub put_no : length room < at + length w → (at ≡ put_end (length room) at w) × (room ≡ put_text room at w)
  unfolding put_end put_text
  put_no h = let e : leb (at + length w) (length room) ≡ false = lt-leb _ _ h in (rw e, rw e)

  pub put_fits : at + length w ≤ length room → (put_end (length room) at w ≡ at + length w) × (put_text room at w ≡ sets room at w)
  unfolding put_end put_text
  put_fits h = let e : leb (at + length w) (length room) ≡ true = le-leb _ _ h in (rw e, rw e)

  pub put_yes : at + length w ≤ length room → (e : ℕ) (t : List ℕ) → (e ≡ at + length w) × (t ≡ sets room at w) → (e ≡ put_end (length room) at w) × (t ≡ put_text room at w)
  put_yes h e t k = (k.0 ∙ sym (put_fits h).0, k.1 ∙ sym (put_fits h).1)

-- ---- whole lines

-- what was put from 0 on stands in the first places
pub put_whole : (z t w : List ℕ) (n : ℕ) → t ≡ sets z 0 w → n ≡ length w → n ≤ length z → take n t ≡ w
put_whole z t w n e h k =
    let g : 0 + length w ≤ length z = omega arith in
    ap (take n) (e ∙ sets-eq w z 0 g) ∙ take_at w (drop (0 + length w) z) n (sym h)

pub head_is : (r l k h p : ℕ) → head_text r l k h p ≡ (((field_text r tab ++ field_text l tab) ++ field_text k tab) ++ field_text h tab) ++ field_text p lf
unfolding head_text numbers_text field_text
head_is r l k h p = simp append_assoc

pub row_is : (n : Name) (s c : ℕ) → row_text n s c ≡ ((name_bytes n ++ tab ∷ []) ++ field_text s tab) ++ field_text c lf
unfolding row_text numbers_text field_text
row_is n s c = simp append_assoc

-- the fields of a line have room in it
field_short : (v mark : ℕ) → length (field_text v mark) ≤ field_room
unfolding field_text
field_short v mark = omega (arith, length-append (decimal v) (mark ∷ []), decimal_short v)

-- a line that has room is there whole
line_whole : (w : List ℕ) → length w ≤ line_room → added line_room w true (Some []) ≡ Some w
line_whole w h = added_fits line_room w [] (omega arith)

pub head_whole : (r l k h p : ℕ) → added line_room (field_text p lf) true (added line_room (field_text h tab) true (added line_room (field_text k tab) true (added line_room (field_text l tab) true (added line_room (field_text r tab) true (Some []))))) ≡ Some (head_text r l k h p)
head_whole r l k h p =
    let a = field_text r tab in
    let b = field_text l tab in
    let c = field_text k tab in
    let d = field_text h tab in
    let e = field_text p lf in
    let n : length (a ++ (b ++ (c ++ (d ++ e)))) ≤ line_room =
    omega (arith, length-append a (b ++ (c ++ (d ++ e))), length-append b (c ++ (d ++ e)), length-append c (d ++ e), length-append d e, field_short r tab, field_short l tab, field_short k tab, field_short h tab, field_short p lf)
    in
    rw (join, join, join, join) (line_whole (a ++ (b ++ (c ++ (d ++ e)))) n ∙ ap (λ w. Some w) (sym (head_is r l k h p ∙ simp append_assoc)))

pub row_whole : (n : Name) (s c : ℕ) → added line_room (field_text c lf) true (added line_room (field_text s tab) true (added line_room (tab ∷ []) true (added line_room (name_bytes n) true (Some [])))) ≡ Some (row_text n s c)
row_whole n s c =
    let a = name_bytes n in
    let b = field_text s tab in
    let d = field_text c lf in
    let m : length (a ++ tab ∷ (b ++ d)) ≤ line_room = omega (arith, length-append a (tab ∷ (b ++ d)), length-append b d, name_short n, field_short s tab, field_short c lf) in
    rw (join, join, join) (line_whole (a ++ tab ∷ (b ++ d)) m ∙ ap (λ w. Some w) (sym (row_is n s c ∙ simp append_assoc)))
