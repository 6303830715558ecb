-- Reports worked out (docs/FORMAT.md, 'A sheet and its report'). Assumes nothing.
use mathlib.Core.Path.{◌≡◌, refl}
use mathlib.Core.List.{List, [], ◌∷◌}
use Rattle.tokens.specs.Text.{bytes}
use Rattle.tokens.specs.Names.{packed, low_bytes, strip, name_bytes}
use Rattle.tokens.specs.Numbers.{low_digits, trimmed, decimal}
use Rattle.report.specs.Report.{Reported, numbers_text, head_text, row_text, rows_text, report_text}

abbrev rows : List Reported
rows = record { name = packed (bytes "t0"); start = 0; columns = 64 } ∷ record { name = packed (bytes "t1"); start = 64; columns = 32 } ∷ record { name = packed (bytes "t2"); start = 0; columns = 32 } ∷ []

-- a pass, with its three rows
pub passed : report_text 0 9 0 0 96 rows ≡ bytes "0\t9\t0\t0\t96\nt0\t0\t64\nt1\t64\t32\nt2\t0\t32\n"
unfolding packed name_bytes low_bytes strip decimal trimmed low_digits numbers_text head_text row_text rows_text report_text
passed = refl

-- a refusal has the first line alone
pub refused : report_text 11 4096 3 512 512 rows ≡ bytes "11\t4096\t3\t512\t512\n"
unfolding packed name_bytes low_bytes strip decimal trimmed low_digits numbers_text head_text row_text rows_text report_text
refused = refl

-- a name of 16 bytes, start 480 and 512 columns: 25 bytes
pub longest : row_text (packed (bytes "abcdefghijklmnop")) 480 512 ≡ bytes "abcdefghijklmnop\t480\t512\n"
unfolding packed name_bytes low_bytes strip decimal trimmed low_digits numbers_text head_text row_text rows_text report_text
longest = refl
