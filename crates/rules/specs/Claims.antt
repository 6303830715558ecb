-- What the answer of a sheet means: it names the first broken rule of the first line that breaks one, and where it is broken in the line; its figures are those of
-- the allocations live there. proofs/RulesProved.antt and proofs/FiguresProved.antt have the proofs. Assumes nothing.
use Rattle.std.specs.Prelude.{ℕ, zero, suc, ◌+◌, ◌%◌, ◌≤◌, ◌<◌, ◌≡◌, Bool, true, false, ◌&&◌, ◌||◌, cond, List, [], ◌∷◌, ◌++◌, ◌⊎◌, ◌↔◌, leb, eqb, length, Some, None}
use Rattle.std.proofs.Math.Option.{none, some}
use Rattle.laws.specs.Rules.{Rule, rule}
use Rattle.tokens.specs.declared.Name.{Name}
use Rattle.statement.specs.declared.Address.{Address}
use Rattle.statement.specs.declared.Access.{Access}
use Rattle.statement.specs.declared.Mma.{Mma}
use Rattle.statement.specs.declared.Statement.{Statement}
use Rattle.statement.specs.declared.Statement.TheVariants.{Mov32, Mov64, Alloc, Dealloc, Load, Store, Multiply}
use Rattle.statement.specs.Positions.{names_of, operand_name, address_at, idesc_at}
use Rattle.statement.specs.declared.Position.{Position}
use Rattle.rules.specs.State.{State, Placer, Allocation, is_live, is_bound, is_free, lowest, total}
use Rattle.statement.specs.Views.{exit_in}
use Rattle.rules.specs.Rows.{Sort, at_start, at_token, at_opcode, at_name, at_operand, pointed, Test, test, kept, whole, Row, row, rules_of}
use Rattle.rules.specs.Sheet.{Line, statement, act_in, line_rows, Sheet, Placing, state_by, starts_by, rows_by, rules_by, stop_by, held_after, peak_up_to, answer_by}

-- ---- lists of rules
-- every rule is kept
abbrev pub AllKept : List Rule → Type 0
AllKept [] = Unit {0}
AllKept (rule number kept ∷ rs) = (kept ≡ true) × AllKept rs

-- ---- lists of tests
-- a test of that operand is broken, and every test left of it is kept
pub record LeftmostIs (operand : ℕ) (tests : List Test) : Type 0 where
  pub left : List Test
  pub right : List Test
  pub parts : tests ≡ left ++ (test operand false ∷ right)
  pub kept : kept left ≡ true

-- ---- lists of rows
-- a row of that number is broken, and points at that position by its leftmost broken test; and every row before it is kept
pub record FirstIs (number : ℕ) (position : Position) (rs : List Row) : Type 0 where
  pub before : List Row
  pub sort : Sort
  pub tests : List Test
  pub after : List Row
  pub parts : rs ≡ before ++ (row number sort tests ∷ after)
  pub kept : AllKept (rules_of before)
  pub operand : ℕ
  pub broken : LeftmostIs operand tests
  pub points : pointed sort operand ≡ position

-- the numbers of rows, and what they point at
abbrev pub heads : List Row → List (ℕ × Sort)
heads [] = []
heads (row number sort tests ∷ rs) = (number, sort) ∷ heads rs

-- the published order of a line that reads, before exit and after it: each reason with what its column points at
pub record InOrder (place : Placer) (s : State) (held w : ℕ) (t : Statement) : Type 0 where
  pub before : s.exited ≡ false
      → heads (line_rows place s held (statement w t))
      ≡ (2, at_start)
      ∷ (5, at_opcode)
      ∷ (6, at_name)
      ∷ (7, at_name)
      -- the address of a ld or st; else the warp
      ∷ (8, at_operand)
      ∷ (8, at_start)
      -- the number
      ∷ (9, at_operand)
      ∷ (10, at_opcode)
      ∷ (11, at_opcode)
      ∷ (12, at_name)
      ∷ (13, at_name)
      ∷ (20, at_name)
      ∷ (21, at_name)
      -- the address
      ∷ (14, at_operand)
      ∷ (15, at_start)
      ∷ (18, at_opcode)
      ∷ []
  pub after : s.exited ≡ true → heads (line_rows place s held (statement w t)) ≡ (2, at_start) ∷ (5, at_opcode) ∷ (15, at_start) ∷ []

-- ---- what a column points at
-- each reason of a sheet with it, by the published sentence; 1 and 0 have none
abbrev pub pointing : List (ℕ × Sort)
pointing =
    -- the line's first byte
    (2, at_start)
    ∷ (15, at_start)
    ∷ (16, at_start)
    -- the token at which no form can go on; the number that is out of range
    ∷ (3, at_token)
    ∷ (4, at_token)
    -- the number
    ∷ (9, at_operand)
    -- the name
    ∷ (6, at_name)
    ∷ (7, at_name)
    -- the descriptor's name
    ∷ (12, at_name)
    ∷ (13, at_name)
    ∷ (20, at_name)
    ∷ (21, at_name)
    -- the address
    ∷ (14, at_operand)
    -- the address of a ld or st, else the warp
    ∷ (8, at_operand)
    ∷ (8, at_start)
    -- any other the opcode
    ∷ (5, at_opcode)
    ∷ (10, at_opcode)
    ∷ (11, at_opcode)
    ∷ (18, at_opcode)
    ∷ []

-- sorts told apart by numbers
abbrev pub rank : Sort → ℕ
rank at_start = 0
rank at_token = 1
rank at_opcode = 2
rank at_name = 3
rank at_operand = 4

-- a number with a sort is in a list
abbrev pub has : ℕ → Sort → List (ℕ × Sort) → Bool
has n sort [] = false
has n sort ((m, other) ∷ l) = (eqb n m && eqb (rank sort) (rank other)) || has n sort l

-- every row has its number and its sort in the table
abbrev pub published : List Row → Bool
published [] = true
published (row n sort tests ∷ rs) = has n sort pointing && published rs

-- the operands of tests do not fall, so that the first test that is broken is the leftmost in the text (`rising` of crate grammar)
abbrev pub rises : List Test → Bool
rises [] = true
rises (test i b ∷ []) = true
rises (test i b ∷ (test j c ∷ l)) = leb i j && rises (test j c ∷ l)

abbrev pub all_rise : List Row → Bool
all_rise [] = true
all_rise (row n sort tests ∷ rs) = rises tests && all_rise rs

-- ---- the operands that tests name: of each form, the names of its operands in the order of the text
pub record OperandsNamed : Type 0 where
  pub mov32 : (n : Name) (v : ℕ) → names_of (Mov32 n v) ≡ some n ∷ none ∷ []
  pub mov64 : (n : Name) (v : ℕ) → names_of (Mov64 n v) ≡ some n ∷ none ∷ []
  pub alloc : (n : Name) (v : ℕ) → names_of (Alloc n v) ≡ some n ∷ none ∷ []
  pub dealloc : (n : Name) (v : ℕ) → names_of (Dealloc n v) ≡ some n ∷ none ∷ []
  -- the address of a ld comes second, that of a st first
  pub load : (a : Access) → (names_of (Load a) ≡ none ∷ some a.address.base ∷ []) × (address_at (Load a) ≡ 1)
  pub store : (a : Access) → (names_of (Store a) ≡ some a.address.base ∷ none ∷ []) × (address_at (Store a) ≡ 0)
  -- d, a, b, the metadata with `.sp`, idesc and the predicate
  pub dense : (m : Mma) → m.metadata ≡ None
      → (names_of (Multiply m) ≡ some m.d.base ∷ some (operand_name m.a) ∷ some m.b ∷ some m.idesc ∷ some m.predicate ∷ []) × (idesc_at m ≡ 3)
  pub sparse : (m : Mma) (e : Address) → m.metadata ≡ Some e
      → (names_of (Multiply m) ≡ some m.d.base ∷ some (operand_name m.a) ∷ some m.b ∷ some e.base ∷ some m.idesc ∷ some m.predicate ∷ []) × (idesc_at m ≡ 4)

-- ---- the placing
-- each of that many columns from a start on is below 512 and in no live allocation
abbrev pub Free : List Allocation → ℕ → ℕ → Type 0
Free l columns start = (c : ℕ) → start ≤ c → c < start + columns → (c < 512) × (is_free l c ≡ true)

-- our placing of some columns
pub record LowestExact (l : List Allocation) (columns : ℕ) : Type 0 where
  -- the start is a multiple of 32, and the columns from there on are free
  pub aligned : (start : ℕ) → lowest l columns ≡ some start → start % 32 ≡ 0
  pub free : (start : ℕ) → lowest l columns ≡ some start → Free l columns start
  -- no lower multiple of 32 has them free, and where there is no start none at all
  pub least : (start other : ℕ) → lowest l columns ≡ some start → other % 32 ≡ 0 → Free l columns other → start ≤ other
  pub none : lowest l columns ≡ none → (other : ℕ) → other % 32 ≡ 0 → Free l columns other → ⊥

-- ---- the state
-- each name once
abbrev pub Unique : List Allocation → Type 0
Unique [] = Unit {0}
Unique (a ∷ l) = (is_live a.name l ≡ false) × Unique l

-- after accepted lines no name has two live allocations, there are at most 128 value names, and no name is both a value and a live allocation
pub record Orderly (s : State) : Type 0 where
  pub once : Unique s.live
  pub few : length s.values ≤ 128
  pub apart : (n : Name) → is_live n s.live ≡ true → is_bound n s.values ≡ true → ⊥

-- ---- the passed sheet
abbrev pub exits : Line → Bool
exits x = exit_in (act_in x)

-- a passed sheet is one that the rules give 0 or 16
abbrev pub Passing : ℕ → Type 0
Passing reason = (reason ≡ 0) ⊎ (reason ≡ 16)

-- line 1 is right, no rule is broken at any line, the sheet ends in exit, and no line follows an exit
pub record Passed (placing : Placing) (sheet : Sheet) : Type 0 where
  pub header : sheet.header ≡ true
  pub kept : (k : ℕ) → k < sheet.count → AllKept (rules_by placing sheet.line k)
  pub last : ℕ
  pub is_last : suc last ≡ sheet.count
  pub ends : exits (sheet.line last) ≡ true
  pub sole : (k : ℕ) → k < last → exits (sheet.line k) ≡ false

-- ---- the rules of a sheet, by line
module _ (placing : Placing) (sheet : Sheet) (room : ℕ) where
  -- after the last line: exit is there (15), and the lent list has a place for each request (16)
  abbrev pub end_rows : List Row
  end_rows =
      row 15 at_start (whole (state_by placing sheet.line sheet.count).exited)
      ∷ row 16 at_start (whole (leb (length (starts_by placing sheet.line sheet.count)) room))
      ∷ []

  -- line 1 has its layout; any other line its rules (line l + 1 of the sheet stands under l)
  abbrev pub own_rows : ℕ → List Row
  own_rows zero = row 2 at_start (whole sheet.header) ∷ []
  own_rows (suc k) = rows_by placing sheet.line k

  abbrev pub rows_at : ℕ → List Row
  rows_at l = own_rows l ++ cond (eqb l sheet.count) end_rows []

  abbrev pub rules_at : ℕ → List Rule
  rules_at l = rules_of (rows_at l)

  -- the first broken rule of the sheet has that number, and is broken under l in that column
  pub record Refused (number l column : ℕ) : Type 0 where
    pub there : l ≤ sheet.count
    pub earlier : (j : ℕ) → j < l → AllKept (rules_at j)
    pub position : Position
    pub here : FirstIs number position (rows_at l)
    pub stands : sheet.column l position ≡ column

  -- every rule of the sheet points as published, and has its tests in the order of the text
  pub record Pointing : Type 0 where
    pub as_published : (l : ℕ) → published (rows_at l) ≡ true
    pub in_text_order : (l : ℕ) → all_rise (rows_at l) ≡ true

  -- the claim
  pub record RulesExact : Type 0 where
    -- the answer names a reason, a line and a column exactly when that rule is broken there, and no earlier one of that line nor any of an earlier line
    pub refuses : (number l column : ℕ) → 0 < number
        → (((answer_by placing sheet room).reason ≡ number) × ((answer_by placing sheet room).line ≡ suc l) × ((answer_by placing sheet room).column ≡ column)) ↔ Refused number l column
    -- the answer is 0 exactly when no rule is broken at any line; it names the last line and column 0
    pub passes : ((answer_by placing sheet room).reason ≡ 0) ↔ ((l : ℕ) → l ≤ sheet.count → AllKept (rules_at l))
    pub last : (answer_by placing sheet room).reason ≡ 0 → ((answer_by placing sheet room).line ≡ suc sheet.count) × ((answer_by placing sheet room).column ≡ 0)
    -- the sheet is a passed one exactly when no rule is broken at any line, it ends in exit, and no line follows
    pub passed : Passing (answer_by placing sheet room).reason ↔ Passed placing sheet

  -- ---- the figures
  -- how many lines after line 1 are accepted
  abbrev pub accepted_lines : ℕ
  accepted_lines = cond sheet.header (stop_by placing sheet.line sheet.count) 0

  -- the columns of the allocations that are live after k of them
  abbrev pub live_after : ℕ → ℕ
  live_after k = total (state_by placing sheet.line k).live

  -- the most that is live after any of the first n
  pub record MostLive (n peak : ℕ) : Type 0 where
    pub most : (k : ℕ) → k ≤ n → live_after k ≤ peak
    pub once : (k : ℕ) × ((k ≤ n) × (live_after k ≡ peak))

  pub record FiguresExact : Type 0 where
    -- after each accepted line the columns held, by which exit is decided, are those that are live, and the peak is the most that were
    pub held_each : (k : ℕ) → k ≤ accepted_lines → held_after sheet.line k ≡ live_after k
    pub peak_each : (k : ℕ) → k ≤ accepted_lines → MostLive k (peak_up_to sheet.line k)
    -- the answer has those after the accepted lines; on a pass and 16 nothing is held
    pub held : (answer_by placing sheet room).held ≡ live_after accepted_lines
    pub nothing : Passing (answer_by placing sheet room).reason → live_after accepted_lines ≡ 0
    pub peak : MostLive accepted_lines (answer_by placing sheet room).peak
    -- on a pass the lent list has room for every start
    pub roomy : (answer_by placing sheet room).reason ≡ 0 → length (starts_by placing sheet.line sheet.count) ≤ room
