-- Worked expressions, from bytes to numbers: what each text reads as in the place of a number. Assumes nothing.
use Rattle.std.specs.Prelude.{ℕ, zero, suc, ◌+◌, List, [], ◌∷◌, ◌++◌, Ok, Err}
use Prim.Native.String.{String}
use Rattle.laws.specs.Worked.{Gives}
use Rattle.tokens.specs.Text.{bytes}
use Rattle.statement.specs.declared.Misread.TheVariants.{NoForm, TooLarge}
use Rattle.statement.specs.declared.Statement.TheVariants.{Mov64}
use Rattle.statement.specs.Reading.{Reading, read_of}
use Rattle.grammar.specs.Examples.{named, canonical, reading}

-- ---- what is moved
-- the reading of `mov.b64 x, `, which is 11 bytes, a text and `;`
abbrev pub moved_bytes : List ℕ → Reading
moved_bytes text = read_of (bytes "mov.b64 x, " ++ (text ++ bytes ";"))

abbrev pub moved : String → Reading
moved text = moved_bytes (bytes text)

-- it moves this number
abbrev pub is : ℕ → Reading
is v = Ok (Mov64 (named "x") v)

-- the place of a reason, counted from the text's first byte
abbrev pub no_form : ℕ → Reading
no_form i = Err (NoForm (11 + i))

-- reason 4, which is at the text's first byte
abbrev pub out_of_range : Reading
out_of_range = Err (TooLarge 11)

-- * is closer than + and -, a minus in front closer than *; from left to right.
abbrev pub precedence : List (String × Reading)
precedence =
    ("2+3*4", is 14) ∷
    ("2*3+4", is 10) ∷
    ("(2+3)*4", is 20) ∷
    ("20-2*3-4", is 10) ∷
    ("10-4-3", is 3) ∷
    ("10-(4-3)", is 9) ∷
    ("2*3*4", is 24) ∷
    ("7-2+3", is 8) ∷
    ("-2*3+7", is 1) ∷
    ("-(2+3)*4+21", is 1) ∷
    ("-4611686018427387904*2+9223372036854775807+1", is 0) ∷
    []

-- Signs may stand in a row, but no plus in front; no other operator and no name is taken.
abbrev pub signs : List (String × Reading)
signs =
    ("--5", is 5) ∷
    ("1--2", is 3) ∷
    ("5+-2", is 3) ∷
    ("7+2*-3", is 1) ∷
    ("-0", is 0) ∷
    ("-(0)", is 0) ∷
    ("-0*5", is 0) ∷
    ("+1", no_form 0) ∷
    ("1++2", no_form 2) ∷
    ("-+1", no_form 1) ∷
    ("1*+2", no_form 2) ∷
    ("6/2", no_form 1) ∷
    ("6%2", no_form 1) ∷
    ("6<<2", no_form 1) ∷
    ("6==2", no_form 1) ∷
    ("2*x", no_form 2) ∷
    ("(x)", no_form 1) ∷
    []

-- Numbers of each base, and spaces between tokens. A `U` says nothing of the sign.
abbrev pub spelled : List (String × Reading)
spelled =
    ("0x10*2", is 32) ∷
    ("010+0b11", is 11) ∷
    ("0U-1+2U", is 1) ∷
    ("0U-1", out_of_range) ∷
    (" ( 32 * 65536 ) + 4 ", is 2097156) ∷
    ("- ( 3 ) + 5", is 2) ∷
    ("5-3", is 2) ∷
    ("08+1", no_form 0) ∷
    ("1+08", no_form 2) ∷
    ("1+0x", no_form 2) ∷
    []

-- A broken expression stops at the first token at which none can go on; reason 3 comes before 4.
abbrev pub broken : List (String × Reading)
broken =
    ("", no_form 0) ∷
    ("()", no_form 1) ∷
    ("(1", no_form 2) ∷
    ("-1,", no_form 2) ∷
    ("1-2 3", no_form 4) ∷
    ("1)", no_form 1) ∷
    ("1 2", no_form 2) ∷
    ("(1)(2)", no_form 3) ∷
    ("(1)2", no_form 3) ∷
    ("1+", no_form 2) ∷
    ("1+ *2", no_form 3) ∷
    ("-", no_form 1) ∷
    ("1,", no_form 1) ∷
    ("(1,2)", no_form 2) ∷
    ("4294967296*4294967296*4294967296+", no_form 33) ∷
    ("(9223372036854775807+1", no_form 22) ∷
    []

-- Every partial result, the numbers included, lies from -2^63 to 2^63 - 1; a number alone has its own range.
abbrev pub ranges : List (String × Reading)
ranges =
    ("18446744073709551615", is 18446744073709551615) ∷
    ("  18446744073709551615 ", is 18446744073709551615) ∷
    ("(18446744073709551615)", out_of_range) ∷
    ("18446744073709551615-18446744073709551615", out_of_range) ∷
    ("9223372036854775808", is 9223372036854775808) ∷
    ("(9223372036854775808)", out_of_range) ∷
    ("(9223372036854775807)", is 9223372036854775807) ∷
    ("9223372036854775808-1", out_of_range) ∷
    ("1+9223372036854775808", out_of_range) ∷
    ("9-9223372036854775808", out_of_range) ∷
    ("9-(9223372036854775807+1)", out_of_range) ∷
    ("9+0*99999999999999999999999", out_of_range) ∷
    ("9223372036854775806+1", is 9223372036854775807) ∷
    ("9223372036854775807+1", out_of_range) ∷
    ("9223372036854775807-1+1", is 9223372036854775807) ∷
    ("9223372036854775807+1-1", out_of_range) ∷
    ("-9223372036854775807-1+9223372036854775807+1", is 0) ∷
    ("-9223372036854775807-2+9223372036854775807+2", out_of_range) ∷
    ("-9223372036854775808+9223372036854775807+1", out_of_range) ∷
    ("0-1-(-9223372036854775807-1)", is 9223372036854775807) ∷
    ("0-(-9223372036854775807-1)", out_of_range) ∷
    ("-(-9223372036854775807-1)", out_of_range) ∷
    ("-1", out_of_range) ∷
    ("1-2", out_of_range) ∷
    ("-9223372036854775807-1", out_of_range) ∷
    []

-- Products: exact, and 0 excuses nothing.
abbrev pub products : List (String × Reading)
products =
    ("3037000499*3037000499", is 9223372030926249001) ∷
    ("3037000500*3037000500", out_of_range) ∷
    ("2147483648*4294967295", is 9223372034707292160) ∷
    ("4294967295*2147483648", is 9223372034707292160) ∷
    ("2147483648*4294967296", out_of_range) ∷
    ("-2147483648*4294967296+9223372036854775807+1", is 0) ∷
    ("2147483648*-4294967296+9223372036854775807+1", is 0) ∷
    ("-2147483648*-4294967295", is 9223372034707292160) ∷
    ("4294967295*4294967297", out_of_range) ∷
    ("4294967296*4294967296", out_of_range) ∷
    ("1*9223372036854775807", is 9223372036854775807) ∷
    ("9223372036854775807*1", is 9223372036854775807) ∷
    ("-1*-9223372036854775807", is 9223372036854775807) ∷
    ("0*9223372036854775807", is 0) ∷
    ("0*9223372036854775808", out_of_range) ∷
    ("4294967296*4294967296*0", out_of_range) ∷
    ("0*4294967296*4294967296", is 0) ∷
    ("0*(4294967296*4294967296)", out_of_range) ∷
    []

-- ---- levels
abbrev pub repeated : ℕ → String → List ℕ
repeated zero text = []
repeated (suc n) text = bytes text ++ repeated n text

-- n pairs of parentheses, n minuses, and n of both in turn, around 1; and n times (1) added
abbrev pub levels : ℕ → List Reading
levels n =
    moved_bytes (repeated n "(" ++ (bytes "1" ++ repeated n ")")) ∷
    moved_bytes (repeated n "-" ++ bytes "1") ∷
    moved_bytes (repeated n "-(" ++ (bytes "1" ++ repeated n ")")) ∷
    moved_bytes (repeated n "(1)+" ++ bytes "0") ∷
    []

-- 16 levels are taken, and the 17th fails where it opens: a parenthesis and a minus are a level each. Each operand counts its levels anew.
abbrev pub depths : List (ℕ × List Reading)
depths =
    (7, is 1 ∷ out_of_range ∷ out_of_range ∷ is 7 ∷ []) ∷
    (8, is 1 ∷ is 1 ∷ is 1 ∷ is 8 ∷ []) ∷
    (9, is 1 ∷ out_of_range ∷ no_form 16 ∷ is 9 ∷ []) ∷
    (15, is 1 ∷ out_of_range ∷ no_form 16 ∷ is 15 ∷ []) ∷
    (16, is 1 ∷ is 1 ∷ no_form 16 ∷ is 16 ∷ []) ∷
    (17, no_form 16 ∷ no_form 16 ∷ no_form 16 ∷ is 17 ∷ []) ∷
    (20, no_form 16 ∷ no_form 16 ∷ no_form 16 ∷ is 20 ∷ []) ∷
    []

-- A minus counts for its operand alone, one between two operands not at all.
abbrev pub nested : List (String × Reading)
nested =
    ("-1+((((((((((((((((2))))))))))))))))", is 1) ∷
    ("3-((((((((((((((((2))))))))))))))))", is 1) ∷
    ("3--((((((((((((((((2))))))))))))))))", no_form 18) ∷
    ("2*((((((((((((((((2))))))))))))))))*2", is 8) ∷
    ("((((((((((((((((2))))))))))))))))*((((((((((((((((3))))))))))))))))", is 6) ∷
    ("(((((((((((((((( ( 1 )))))))))))))))))", no_form 17) ∷
    ("(((((((((((((((1+(1+1)+1)))))))))))))))", is 4) ∷
    ("((((((((((((((((1+(1+1)+1))))))))))))))))", no_form 18) ∷
    []

-- ---- in every place, and written again
abbrev pub in_places : List (String × Reading)
in_places =
    ("mov.b32 x, 2 * (4294967296);", Err (TooLarge 11)) ∷
    ("mov.b32 x, 65535*65537+1;", Err (TooLarge 11)) ∷
    ("mov.b32 x, (1", Err (NoForm 13)) ∷
    ("mov.b32 x, (1 ", Err (NoForm 14)) ∷
    ("mov.b32 x, 1+", Err (NoForm 13)) ∷
    ("mov.b32 x, -", Err (NoForm 12)) ∷
    ("mov.b32 x, 1-2", Err (NoForm 14)) ∷
    ("tcgen05.alloc.cta_group::1.sync.aligned.b32 [t], -32;", Err (TooLarge 49)) ∷
    ("tcgen05.dealloc.cta_group::1.sync.aligned.b32 t, 32-64;", Err (TooLarge 49)) ∷
    ("tcgen05.ld.sync.aligned.32x32b.x1.b32 {r}, [t+(65536)*65536];", Err (TooLarge 46)) ∷
    ("tcgen05.ld.sync.aligned.32x32b.x1.b32 {r}, [t+ -1];", Err (TooLarge 47)) ∷
    ("tcgen05.ld.sync.aligned.32x32b.x1.b32 {r}, [t-4];", Err (NoForm 45)) ∷
    ("tcgen05.ld.sync.aligned.32x32b.x1.b32 {r}, [t++4];", Err (NoForm 46)) ∷
    ("tcgen05.ld.sync.aligned.32x32b.x1.b32 {r}, [t+(4];", Err (NoForm 48)) ∷
    ("tcgen05.mma.sp.cta_group::1.kind::f16 [d+1-2], [a+(1)], b, [m+1+1], i, p;", Err (TooLarge 41)) ∷
    ("tcgen05.mma.sp.cta_group::1.kind::f16 [d+4294967296], [a+(1)], b, [m+1-2], i, p;", Err (TooLarge 41)) ∷
    ("tcgen05.mma.sp.cta_group::1.kind::f16 [d+2-1], [a+1-2], b, [m+1-2], i, p;", Err (TooLarge 50)) ∷
    ("tcgen05.mma.sp.cta_group::1.kind::f16 [d+2-1], [a+2-1], b, [m+1-2], i, p;", Err (TooLarge 62)) ∷
    []

abbrev pub rewritten : List (String × List ℕ)
rewritten =
    ("mov.b32 x, 4294967296-1;", bytes "mov.b32 x, 4294967295;") ∷
    ("tcgen05.st.sync.aligned.32x32b.x1.b32 [t+4294967296-4294967295], {r};", bytes "tcgen05.st.sync.aligned.32x32b.x1.b32 [t+1], {r};") ∷
    ("mov.b32 x, 65535*65537;", bytes "mov.b32 x, 4294967295;") ∷
    ("tcgen05.alloc.cta_group::1.sync.aligned.b32 [t], 2*(16+16);", bytes "tcgen05.alloc.cta_group::1.sync.aligned.b32 [t], 64;") ∷
    ("tcgen05.dealloc.cta_group::1.sync.aligned.b32 t, 128-64;", bytes "tcgen05.dealloc.cta_group::1.sync.aligned.b32 t, 64;") ∷
    ("tcgen05.ld.sync.aligned.32x32b.x1.b32 {r}, [t0+(32*65536)+4];", bytes "tcgen05.ld.sync.aligned.32x32b.x1.b32 {r}, [t0+2097156];") ∷
    ("tcgen05.ld.sync.aligned.32x32b.x1.b32 {r}, [t0+4+4];", bytes "tcgen05.ld.sync.aligned.32x32b.x1.b32 {r}, [t0+8];") ∷
    ("tcgen05.st.sync.aligned.32x32b.x1.b32 [t+2*2], {r};", bytes "tcgen05.st.sync.aligned.32x32b.x1.b32 [t+4], {r};") ∷
    ("tcgen05.st.sync.aligned.32x32b.x1.b32 [t+2-2], {r};", bytes "tcgen05.st.sync.aligned.32x32b.x1.b32 [t], {r};") ∷
    ("tcgen05.mma.sp.cta_group::1.kind::f16 [d+((((((((((((((((1))))))))))))))))], [a+((((((((((((((((2))))))))))))))))], b, [m+----------------3], i, p;", bytes "tcgen05.mma.sp.cta_group::1.kind::f16 [d+1], [a+2], b, [m+3], i, p;") ∷
    []

-- ---- the claim: each text of each table has what stands beside it
pub record WorkedExpressions : Type 0 where
  pub moved_are : Gives moved (precedence ++ (signs ++ (spelled ++ (broken ++ (ranges ++ (products ++ nested))))))
  pub depths_are : Gives levels depths
  pub places_are : Gives reading in_places
  pub rewritten_are : Gives canonical rewritten
