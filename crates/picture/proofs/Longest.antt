-- Longest runs from the left: where the first one begins and ends.
use Rattle.std.proofs.Common.{◌≡◌, ℕ, zero, suc, ◌+◌, ◌<◌, ◌≤◌, Bool, true, false, List, [], ◌∷◌, map}
use Rattle.std.proofs.Common.{refl, ap, ◌∙◌, arith}
use Rattle.std.specs.Prelude.{⊤}
use Rattle.std.specs.List.{list_any}
use Rattle.std.proofs.lemmas.Bool.{eq-eqb, or_parts}
use Rattle.std.proofs.lemmas.Bool.Decides.{nat_tests}
use Rattle.picture.specs.Runs.{Run, with_cell, runs_from}

-- so many marked cells before the others
abbrev pub marked : ℕ → List Bool → List Bool
marked zero marks = marks
marked (suc n) marks = true ∷ marked n marks

pub marked_more : (n : ℕ) (marks : List Bool) → marked n (true ∷ marks) ≡ marked (suc n) marks
marked_more zero marks = refl
marked_more (suc n) marks = ap (λ (rest : List Bool). true ∷ rest) (marked_more n marks)

-- the first run begins no earlier
abbrev pub Begins : ℕ → List Run → Type 0
Begins x [] = ⊤
Begins x (run ∷ runs) = x ≤ run.from

begins_earlier : (x y : ℕ) (runs : List Run) → x ≤ y → Begins y runs → Begins x runs
begins_earlier x y runs h i = grind (arith, nat_tests)

begins_with_cell : (x : ℕ) (runs : List Run) → Begins x (with_cell x runs)
begins_with_cell x runs = grind (arith, nat_tests)

pub begins_from : (x : ℕ) (marks : List Bool) → Begins x (runs_from x marks)
begins_from x [] = tt
begins_from x (true ∷ marks) = begins_with_cell x (runs_from (x + 1) marks)
begins_from x (false ∷ marks) =
    begins_earlier x (x + 1) (runs_from (x + 1) marks) (omega arith) (begins_from (x + 1) marks)

-- a cell before a gap is a run of its own
pub cell_apart : (x y : ℕ) (runs : List Run) → x + 1 < y → Begins y runs
    → with_cell x runs ≡ record { from = x; long = 1 } ∷ runs
cell_apart x y runs h i = grind (arith, nat_tests)

-- a cell before a run that begins in the next column joins it
pub cell_joined : (x n : ℕ) (runs : List Run) → with_cell x (record { from = x + 1; long = n } ∷ runs)
    ≡ record { from = x; long = n + 1 } ∷ runs
cell_joined x n runs = rw (eq-eqb (x + 1) (x + 1) refl) refl

-- no marked cell comes first
abbrev pub Halts : List Bool → Type 0
Halts [] = ⊤
Halts (true ∷ marks) = ⊥
Halts (false ∷ marks) = ⊤

begins_after : (x : ℕ) (marks : List Bool) → Halts marks → Begins (x + 1) (runs_from x marks)
begins_after x marks h = grind (arith, nat_tests, begins_from)

same_run : (x n m : ℕ) (runs more : List Run) → n ≡ m → runs ≡ more
    → let one : Run = record { from = x; long = n } in
    let other : Run = record { from = x; long = m } in
    one ∷ runs ≡ other ∷ more
same_run x n m runs more e f = grind (arith, nat_tests)

-- the first run ends where its marked cells do
pub run_then : (x n : ℕ) (marks : List Bool) → Halts marks → runs_from x (marked (suc n) marks)
    ≡ record { from = x; long = suc n } ∷ runs_from (x + suc n) marks
run_then x zero marks halts = cell_apart x (x + 1 + 1) (runs_from (x + 1) marks) (omega arith)
    (begins_after (x + 1) marks halts)
run_then x (suc n) marks halts =
    ap (with_cell x) (run_then (x + 1) n marks halts)
    ∙ cell_joined x (suc n) (runs_from (x + 1 + suc n) marks)
    ∙ same_run x (suc n + 1) (suc (suc n)) (runs_from (x + 1 + suc n) marks)
    (runs_from (x + suc (suc n)) marks) (omega arith)
    (ap (λ (k : ℕ). runs_from k marks) (let e : x + 1 + suc n ≡ x + suc (suc n) = omega arith in e))

-- where nothing is marked no run is
pub no_run : (p : ℕ → Bool) (row : List ℕ) (x : ℕ) → list_any p row ≡ false → runs_from x (map p row) ≡ []
no_run p [] x none = refl
no_run p (byte ∷ row) x none =
    let parts = or_parts (p byte) (list_any p row) none in
    rw parts.0 (no_run p row (x + 1) parts.1)
