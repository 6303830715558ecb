-- What holds of the whole table holds of each opcode: every opcode stands in it, so two functions that give the table the same list agree. antt
-- computes both lists, and no proof goes through the opcodes one by one. Assumes nothing.
use mathlib.Core.Path.{◌≡◌, refl}
use mathlib.Core.List.{List, [], ◌∷◌, ◌++◌, map}
use mathlib.Core.Bool.{Bool, true, false}
use mathlib.Core.Logic.{inl, inr}
use Prim.Native.Nat.{ℕ, zero, suc}
use Rattle.laws.specs.Lists.{Among}
use Rattle.instruction.specs.declared.Kind.{Kind}
use Rattle.instruction.specs.declared.Kind.TheVariants.{F16, Tf32, F8f6f4, I8}
use Rattle.statement.specs.declared.Shape.{Shape}
use Rattle.statement.specs.declared.Shape.TheVariants.{S32x32, S16x64, S16x128, S16x256}
use Rattle.statement.specs.declared.Num.{Num}
use Rattle.statement.specs.declared.Num.TheVariants.{X1, X2, X4, X8, X16, X32, X64, X128}
use Rattle.statement.specs.declared.Opcode.{Opcode}
use Rattle.statement.specs.declared.Opcode.TheVariants.{Mov32, Mov64, Alloc, Dealloc, Relinquish, Load, Store, WaitLoad, WaitStore, FenceBefore, FenceAfter, Multiply, Exit}
use Rattle.statement.specs.Opcodes.{each, shapes, nums, kinds, flags, singles, load_stores, mmas, opcodes}

-- ---- lists
-- x stands in a list at place k
abbrev At : {A : Type 0} → A → List A → ℕ → Type 0
At x [] k = ⊥
At x (y ∷ l) zero = x ≡ y
At x (y ∷ l) (suc k) = At x l k

at : {A : Type 0} (x : A) (l : List A) (k : ℕ) → At x l k → Among x l
at x [] k h = h
at x (y ∷ l) zero h = inl h
at x (y ∷ l) (suc k) h = inr (at x l k h)

in_left : {A : Type 0} (x : A) (l m : List A) → Among x l → Among x (l ++ m)
in_left x [] m h = absurd h
in_left x (y ∷ l) m (inl e) = inl e
in_left x (y ∷ l) m (inr h) = inr (in_left x l m h)

in_right : {A : Type 0} (x : A) (l m : List A) → Among x m → Among x (l ++ m)
in_right x [] m h = h
in_right x (y ∷ l) m h = inr (in_right x l m h)

in_each : {A : Type 0} (o : Opcode) (x : A) (l : List A) (f : A → List Opcode) → Among x l → Among o (f x) → Among o (each l f)
in_each o x [] f h k = h
in_each o x (y ∷ l) f (inl e) k = in_left o (f y) (each l f) (rw (← e) k)
in_each o x (y ∷ l) f (inr h) k = in_right o (f y) (each l f) (in_each o x l f h k)

agree : {A B : Type 0} (f g : A → B) (l : List A) → map f l ≡ map g l → (x : A) → Among x l → f x ≡ g x
agree f g [] e x h = absurd h
agree f g (y ∷ l) e x (inl p) = let q : f y ≡ g y = cc in rw p q
agree f g (y ∷ l) e x (inr h) = let q : map f l ≡ map g l = cc in agree f g l q x h

-- ---- the table
shape_listed : (s : Shape) → Among s shapes
shape_listed S32x32 = at S32x32 shapes 0 refl
shape_listed S16x64 = at S16x64 shapes 1 refl
shape_listed S16x128 = at S16x128 shapes 2 refl
shape_listed S16x256 = at S16x256 shapes 3 refl

num_listed : (n : Num) → Among n nums
num_listed X1 = at X1 nums 0 refl
num_listed X2 = at X2 nums 1 refl
num_listed X4 = at X4 nums 2 refl
num_listed X8 = at X8 nums 3 refl
num_listed X16 = at X16 nums 4 refl
num_listed X32 = at X32 nums 5 refl
num_listed X64 = at X64 nums 6 refl
num_listed X128 = at X128 nums 7 refl

kind_listed : (k : Kind) → Among k kinds
kind_listed F16 = at F16 kinds 0 refl
kind_listed Tf32 = at Tf32 kinds 1 refl
kind_listed F8f6f4 = at F8f6f4 kinds 2 refl
kind_listed I8 = at I8 kinds 3 refl

flag_listed : (b : Bool) → Among b flags
flag_listed false = at false flags 0 refl
flag_listed true = at true flags 1 refl

single : (o : Opcode) (k : ℕ) → At o singles k → Among o opcodes
unfolding opcodes
single o k h = in_left o singles (load_stores ++ mmas) (at o singles k h)

access : (o : Opcode) (shape : Shape) (num : Num) → Among o (Load shape num ∷ Store shape num ∷ []) → Among o opcodes
unfolding opcodes
access o shape num h =
    in_right o singles (load_stores ++ mmas) (in_left o load_stores mmas
    (in_each o shape shapes (λ s. each nums (λ n. Load s n ∷ Store s n ∷ [])) (shape_listed shape)
    (in_each o num nums (λ n. Load shape n ∷ Store shape n ∷ []) (num_listed num) h)))

multiply : (o : Opcode) (ws sp : Bool) (kind : Kind) → Among o (Multiply ws sp kind ∷ []) → Among o opcodes
unfolding opcodes
multiply o ws sp kind h =
    in_right o singles (load_stores ++ mmas) (in_right o load_stores mmas
    (in_each o ws flags (λ w. each flags (λ s. each kinds (λ k. Multiply w s k ∷ []))) (flag_listed ws)
    (in_each o sp flags (λ s. each kinds (λ k. Multiply ws s k ∷ [])) (flag_listed sp)
    (in_each o kind kinds (λ k. Multiply ws sp k ∷ []) (kind_listed kind) h))))

listed : (o : Opcode) → Among o opcodes
listed Mov32 = single Mov32 0 refl
listed Mov64 = single Mov64 1 refl
listed (Alloc false) = single (Alloc false) 2 refl
listed (Alloc true) = single (Alloc true) 3 refl
listed Dealloc = single Dealloc 4 refl
listed Relinquish = single Relinquish 5 refl
listed WaitLoad = single WaitLoad 6 refl
listed WaitStore = single WaitStore 7 refl
listed FenceBefore = single FenceBefore 8 refl
listed FenceAfter = single FenceAfter 9 refl
listed Exit = single Exit 10 refl
listed (Load shape num) = access (Load shape num) shape num (inl refl)
listed (Store shape num) = access (Store shape num) shape num (inr (inl refl))
listed (Multiply ws sp kind) = multiply (Multiply ws sp kind) ws sp kind (inl refl)

-- two functions that give the table the same list agree on each opcode
pub every : {A : Type 0} (f g : Opcode → A) → map f opcodes ≡ map g opcodes → (o : Opcode) → f o ≡ g o
every f g e o = agree f g opcodes e o (listed o)
