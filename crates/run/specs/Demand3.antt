-- Demand 3: one claim about a sheet, a field for each sentence. proofs/Demand3Proved.antt proves it of every passed sheet. Assumes nothing.
use Rattle.std.specs.Prelude.{ℕ, suc, ◌+◌, ◌≤◌, ◌<◌, ◌≡◌, Bool, true, false, List, [], ◌∷◌, ◌++◌, length, drop, ◌↔◌}
use Rattle.std.proofs.Math.Option.{none, some}
use Rattle.laws.specs.Lists.{Among}
use Rattle.tokens.specs.declared.Name.{Name}
use Rattle.statement.specs.declared.Transfer.{Transfer}
use Rattle.statement.specs.Views.{Act, Turn, request_in, release_in, of}
use Rattle.rules.specs.Outstanding.{Outstanding}
use Rattle.rules.specs.Sheet.{Sheet, turn_of, answer_of, starts_of, places_after}
use Rattle.run.specs.Run.{Holding, Region, Run, Phase, going, stopped_at, exited, within, held, held_columns, usable, start_at, may_use, booked_by, known, after, outcome, peak_of}

-- ---- the sheet's statements
abbrev pub turns_of : Sheet → ℕ → Turn
turns_of sheet k = turn_of (sheet.line k)

-- ---- holdings and accesses
-- no column of a holding is held by another
abbrev pub NoOverlap : List Holding → Type 0
NoOverlap [] = Unit {0}
NoOverlap (h ∷ l) = ((c : ℕ) → within h c ≡ true → held l c ≡ true → ⊥) × NoOverlap l

-- the access lies below lane 128, and each of its columns in the live holding of its name
pub record Inside (r : Region) (l : List Holding) : Type 0 where
  pub holding : Holding
  pub live : Among holding l
  pub its_name : holding.name ≡ r.name
  pub lanes : r.lane + r.lanes ≤ 128
  pub each : (d : ℕ) → d < r.columns → within holding (holding.start + r.column + d) ≡ true

abbrev pub AllInside : List Region → List Holding → Type 0
AllInside [] l = Unit {0}
AllInside (r ∷ rs) l = Inside r l × AllInside rs l

-- that many columns are asked for
abbrev pub Requests : Act → ℕ → Type 0
Requests t columns = of (request_in t) (λ r. some r.columns) none ≡ some columns

-- the holding of that name is given back
abbrev pub Releases : Act → Name → Type 0
Releases t n = of (release_in t) (λ r. some r.name) none ≡ some n

-- ---- what is noted of loads and stores, by any statements under any list of starts
pub record NotesExact (starts : List ℕ) (turns : ℕ → Turn) : Type 0 where
  -- as long as the run goes on: what it has as not waited for is what the lines before leave outstanding
  pub noted : (k : ℕ) → (after starts turns k).phase ≡ going → (n : Name) (w : ℕ) (x : Transfer) → ((after starts turns k).pending n w x ≡ true) ↔ Outstanding turns k n w x

-- ---- a run of a sheet under a list of starts
module _ (sheet : Sheet) (starts : List ℕ) where
  -- before turn k, which is line k + 2
  abbrev pub at : ℕ → Run
  at k = after starts (turns_of sheet) k

  abbrev pub act_at : ℕ → Act
  act_at k = (turns_of sheet k).act

  -- the run comes to turn k
  abbrev pub Reached : ℕ → Type 0
  Reached k = (k < sheet.count) × ((at k).phase ≡ going)

  -- turn k is reached, and asks for that many columns
  abbrev pub Asks : ℕ → ℕ → Type 0
  Asks k columns = Reached k × Requests (act_at k) columns

  -- the start that the list has for the request at turn k may be used there
  abbrev pub met : ℕ → ℕ → Bool
  met k columns = may_use (at k).live columns (start_at starts (at k).requests)

  -- turn k is reached, and is a request whose start may not be used there
  pub record Fails (k : ℕ) : Type 0 where
    pub columns : ℕ
    pub asks : Asks k columns
    pub unmet : met k columns ≡ false

  abbrev pub Outcome : Phase → Type 0
  Outcome p = outcome starts (turns_of sheet) sheet.count ≡ p

  -- each request reached is given a start that may be used, whenever there is one
  abbrev pub Willing : Type 0
  Willing = (k columns start : ℕ) → Asks k columns → usable (at k).live columns start ≡ true → met k columns ≡ true

  -- the accesses of turn k fall inside the holdings that they name, and the number that they need was moved
  pub record Fallen (k : ℕ) : Type 0 where
    pub number : known (at k).notes (act_at k) ≡ true
    pub inside : AllInside (booked_by (at k).notes (act_at k)) (at k).live

  -- ---- demand 3, for any list of starts
  pub record Whichever : Type 0 where
    -- the run stops at a request whose start may not be used there; requests reached are in order, so at the first
    pub stops : (k : ℕ) → Fails k → Outcome (stopped_at (k + 2))
    -- and it stops at no other line
    pub only : (l : ℕ) → Outcome (stopped_at l) → (k : ℕ) × (Fails k × (l ≡ k + 2))
    -- if there is no such request, it reaches its exit
    pub otherwise : ((k : ℕ) → Fails k → ⊥) → Outcome exited
    -- if each request reached is given a free run whenever one exists, the run stops only where none does
    pub full : Willing → (k columns start : ℕ) → Asks k columns → Outcome (stopped_at (k + 2)) → usable (at k).live columns start ≡ false
    -- after every line no two holdings overlap
    pub apart : (k : ℕ) → NoOverlap (at k).live
    -- every booked access of a line that was done has fallen inside the holding that it names
    pub inside : (k : ℕ) → Reached k → ((at (suc k)).phase ≡ stopped_at (k + 2) → ⊥) → Fallen k
    -- the columns held, counted one by one, are those asked for less those given back
    pub counted : (k : ℕ) → held_columns (at k).live + (at k).returned ≡ (at k).asked
    -- at the exit that is nothing
    pub nothing : Outcome exited → held_columns (at sheet.count).live ≡ 0
    -- at each dealloc that is reached nothing is outstanding on that holding, no load and no store of any warp (what is noted: `NotesExact`)
    pub waited : (k : ℕ) → Reached k → (n : Name) → Releases (act_at k) n → (w : ℕ) (x : Transfer) → (at k).pending n w x ≡ false

  -- ---- demand 3, for the list that we answer
  pub record Placed : Type 0 where
    -- every request is met, and the run reaches its exit
    pub meets : (k columns : ℕ) → Asks k columns → met k columns ≡ true
    pub exits : Outcome exited
    -- it comes to every line
    pub reached : (k : ℕ) → k < sheet.count → Reached k
    -- the placing is ours: each request has the lowest start that may be used there
    pub lowest : (k columns start : ℕ) → Asks k columns → usable (at k).live columns start ≡ true → (s : ℕ) × ((start_at starts (at k).requests ≡ some s) × (s ≤ start))
    -- the starts are those of this run, one for each of its requests
    pub all : length starts ≡ (at sheet.count).requests
    -- and they are what we write on a pass, over the first places of the lent list
    pub written : (old : List ℕ) → (answer_of sheet (length old)).reason ≡ 0 → places_after sheet old ≡ starts ++ drop (length starts) old
    -- the peak that we answer is that of this run
    pub peak : (room : ℕ) → (answer_of sheet room).peak ≡ peak_of starts (turns_of sheet) sheet.count

-- the claim
pub record Demand3 (sheet : Sheet) : Type 0 where
  pub placed : Placed sheet (starts_of sheet)
  pub whichever : (starts : List ℕ) → Whichever sheet starts
