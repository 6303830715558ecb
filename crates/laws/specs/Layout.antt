-- A packed word: a layout names each part by its first and its last bit; what a word says by a layout; the word of a list of numbers.
-- Two laws hold of every layout that tiles the word (proofs/LayoutLaws.antt): the word of numbers in range says those numbers, and a word whose
-- fixed parts stand is the word of what it says. Assumes nothing.
use Rattle.std.specs.Prelude.{ℕ, suc, ◌+◌, ◌-◌, ◌*◌, ◌/◌, ◌%◌, ◌^◌, Bool, false, ◌&&◌, List, [], ◌∷◌, eqb, leb, ltb}

-- a part, from its first to its last bit: a number; a number that is stored divided by a unit; bits that always hold one value
pub data Part : Type 0 where
  plain : (first last : ℕ) → Part
  scaled : (first last unit : ℕ) → Part
  fixed : (first last value : ℕ) → Part

-- how many bits there are from a first to a last
abbrev pub width : ℕ → ℕ → ℕ
width first last = suc last - first

-- the number in these bits of a word
abbrev pub bits : ℕ → ℕ → ℕ → ℕ
bits first last word = word / 2 ^ first % 2 ^ width first last

-- what a word says: a number for each part that is not fixed
abbrev pub says : List Part → ℕ → List ℕ
says [] word = []
says (plain a b ∷ ps) word = bits a b word ∷ says ps word
says (scaled a b unit ∷ ps) word = bits a b word * unit ∷ says ps word
says (fixed a b value ∷ ps) word = says ps word

-- the tests that the fixed parts of a word hold their values
abbrev pub stands : List Part → ℕ → List Bool
stands [] word = []
stands (plain a b ∷ ps) word = stands ps word
stands (scaled a b unit ∷ ps) word = stands ps word
stands (fixed a b value ∷ ps) word = eqb (bits a b word) value ∷ stands ps word

-- the tests that numbers are in range, one for each part that is not fixed: it has room for the number, or for the quotient of a multiple of the unit
abbrev pub ranges : List Part → List ℕ → List Bool
ranges [] [] = []
ranges [] (x ∷ xs) = false ∷ []
ranges (plain a b ∷ ps) [] = false ∷ []
ranges (plain a b ∷ ps) (x ∷ xs) = leb x (2 ^ width a b - 1) ∷ ranges ps xs
ranges (scaled a b unit ∷ ps) [] = false ∷ []
ranges (scaled a b unit ∷ ps) (x ∷ xs) = eqb (x % unit) 0 ∷ leb x ((2 ^ width a b - 1) * unit) ∷ ranges ps xs
ranges (fixed a b value ∷ ps) xs = ranges ps xs

-- the word of a list of numbers: each from the first bit of its part on
abbrev pub pack : List Part → List ℕ → ℕ
pack [] xs = 0
pack (plain a b ∷ ps) [] = 0
pack (plain a b ∷ ps) (x ∷ xs) = x * 2 ^ a + pack ps xs
pack (scaled a b unit ∷ ps) [] = 0
pack (scaled a b unit ∷ ps) (x ∷ xs) = x / unit * 2 ^ a + pack ps xs
pack (fixed a b value ∷ ps) xs = value * 2 ^ a + pack ps xs

-- the parts tile the bits from one bit up to a size, with no gap and no overlap; no unit is 0, and each fixed value has room
abbrev pub tiles : ℕ → ℕ → List Part → Bool
tiles from size [] = eqb from size
tiles from size (plain a b ∷ ps) = eqb from a && (leb a b && tiles (suc b) size ps)
tiles from size (scaled a b unit ∷ ps) = eqb from a && (leb a b && (ltb 0 unit && tiles (suc b) size ps))
tiles from size (fixed a b value ∷ ps) = eqb from a && (leb a b && (ltb value (2 ^ width a b) && tiles (suc b) size ps))
