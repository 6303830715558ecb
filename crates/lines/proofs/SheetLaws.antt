-- The line at a place: how it is found, and what a caller knows of it. Assumes nothing.
use Prim.Native.Nat.{ℕ, suc, ◌+◌, ◌-◌, ◌<◌, ◌≤◌}
use native.Mathlib.Omega.{arith}
use mathlib.Core.Path.{◌≡◌, refl, sym, ap, ◌∙◌}
use mathlib.Core.List.{List, [], ◌∷◌}
use mathlib.Core.Bool.{Bool, true, false, ◌&&◌}
use lib.ListN.{length, get_or, drop, drop_of_length-le, length-drop}
use lib.Seq.{drop-drop, get_or-take}
use Rattle.laws.proofs.ListLaws.{drop-take}
use Rattle.std.specs.Prelude.{Option, None, Some}
use Rattle.std.proofs.lemmas.Option.{none-some, cond_some}
use lib.Dec.{leb, eqb}
use Rattle.tokens.specs.Text.{tab, lf}
use Rattle.tokens.specs.Bytes.{run_len}
use Rattle.lines.specs.declared.Line.{Line}
use Rattle.lines.specs.Sheet.{upto, text_of, rest, after, line_count, warp_byte, warp_of, plain, laid_out, content_of, line_at, content_seen}
use Rattle.lines.proofs.LineLaws.{after-suc, count_line}
use Rattle.lines.proofs.LayoutLaws.{laid-ended, laid_two, laid_tests, laid_end, unlaid_warp, unlaid_one}

-- ---- the line at a place

module _ (s : List ℕ) (at : ℕ) where
  none_by : laid_out (drop at s) ≡ false → None ≡ line_at s at
  unfolding line_at
  none_by e = rw e

  -- nothing is left at the place
  pub none_left : length s ≤ at → None ≡ line_at s at
  unfolding line_at laid_out text_of upto warp_byte
  none_left h = rw (drop_of_length-le s h)

  module _ (x : ℕ) (m : List ℕ) (d : drop at s ≡ x ∷ m) where
    pub none_warp : warp_byte x ≡ false → None ≡ line_at s at
    none_warp e = none_by (ap laid_out d ∙ unlaid_warp x m e)

    pub none_one : length m ≡ 0 → None ≡ line_at s at
    none_one z = none_by (ap laid_out d ∙ ap (λ (l : List ℕ). laid_out (x ∷ l)) (empty m z) ∙ unlaid_one x)
      where
        empty : (l : List ℕ) → length l ≡ 0 → l ≡ []
        empty [] h = refl
        empty (y ∷ l) h = absurd (omega arith)

    module _ (y : ℕ) (t : List ℕ) (e : m ≡ y ∷ t) (k : warp_byte x ≡ true) (n : ℕ) (f : n ≡ run_len plain t) (b : Bool)
        (g : (eqb y tab && eqb (get_or t n 0) lf && leb n 2046) ≡ b) where
      here : drop at s ≡ x ∷ (y ∷ t)
      here = d ∙ ap (λ (l : List ℕ). x ∷ l) e

      laid_is : laid_out (drop at s) ≡ b
      laid_is = ap laid_out here ∙ laid_tests x y t k ∙ rw f at g

      pub none_tests : b ≡ false → None ≡ line_at s at
      none_tests h = none_by (laid_is ∙ h)

      pub some_line : b ≡ true → Some (record { warp = warp_of x; start = at + 2; end = at + 2 + n; next = at + 2 + n + 1 }) ≡ line_at s at
      unfolding line_at
      some_line h =
          let u : upto (drop at s) ≡ 2 + n = rw here (omega (arith, laid_end x y t (sym (ap laid_out here) ∙ laid_is ∙ h), f)) in
          let z : at + upto (drop at s) ≡ at + 2 + n = omega arith in
          rw (laid_is, h, z, here)

-- ---- what a caller of `line_at` knows

-- no line is found exactly where the layout is wrong, and a line has the places that its layout gives
module _ (s : List ℕ) (at : ℕ) where
  pub none_fault : None ≡ line_at s at → laid_out (drop at s) ≡ false
  unfolding line_at
  none_fault h = by (laid_out (drop at s)) refl
    where
      by : (b : Bool) → laid_out (drop at s) ≡ b → b ≡ false
      by true e = absurd (none-some _ (rw e at h))
      by false e = refl

  module _ (r : Line) (f : Some r ≡ line_at s at) where
    both : (laid_out (drop at s) ≡ true) × (record { warp = warp_of (get_or (drop at s) 0 0); start = at + 2; end = at + upto (drop at s); next = at + upto (drop at s) + 1 } ≡ r)
    unfolding line_at
    both = cond_some (laid_out (drop at s)) _ r (sym f)

    pub laid-here : laid_out (drop at s) ≡ true
    laid-here = both.0

    pub line_start : r.start ≡ at + 2
    line_start = ap (λ (r : Line). r.start) (sym both.1)

    pub line_end : r.end ≡ at + upto (drop at s)
    line_end = ap (λ (r : Line). r.end) (sym both.1)

    pub line_next : r.next ≡ r.end + 1
    line_next = rw (← both.1) refl

    -- the statement lies inside the sheet and has at most 2,046 bytes; the next line starts further on
    pub line_inside : (r.start ≤ r.end) × (r.end ≤ r.start + 2046) × (r.next ≤ length s) × (at < r.next)
    line_inside =
        let a = laid-ended (drop at s) laid-here in
        let b = laid_two (drop at s) laid-here in
        let e = length-drop at s in
        (omega (arith, line_start, line_end), omega (arith, line_start, line_end), omega (arith, line_end, line_next), omega (arith, line_end, line_next))

    -- what follows the line
    pub line_rest : drop r.next s ≡ rest (drop at s)
    unfolding rest
    line_rest = let z : r.next ≡ at + suc (upto (drop at s)) = omega (arith, line_end, line_next) in rw (drop-drop, z)

    -- after k lines, the next line starts after k + 1
    pub line_after : (k : ℕ) → drop at s ≡ after k s → drop r.next s ≡ after (suc k) s
    line_after k e = line_rest ∙ (ap rest e ∙ sym (after-suc k s))

    -- one line more is counted
    pub line_counted : line_count (drop at s) ≡ suc (line_count (drop r.next s))
    line_counted = count_line (drop at s) (omega (arith, (laid-ended (drop at s) laid-here).0)) ∙ ap (λ (l : List ℕ). suc (line_count l)) (sym line_rest)

    seen-laid : content_seen s (Some r) ≡ content_of (drop at s)
    unfolding content_of text_of
    seen-laid =
        let l = drop at s in
        let p : 0 < upto l = omega (arith, laid_two l laid-here) in
        let z : at + upto l - (at + 2) ≡ upto l - 2 = omega arith in
        rw (← both.1, laid-here, get_or-take (upto l) l 0 0 p, z, drop-take 2 (upto l) l, drop-drop)

  seen_by : (o : Option Line) → o ≡ line_at s at → content_seen s o ≡ content_of (drop at s)
  unfolding content_of
  seen_by None h = rw (none_fault h) refl
  seen_by (Some r) h = seen-laid r h

  -- the line by its places is the line by its bytes
  pub line_seen_lem : content_seen s (line_at s at) ≡ content_of (drop at s)
  line_seen_lem = seen_by (line_at s at) refl
