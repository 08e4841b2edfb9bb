-- The runs of a row have its marked cells, are apart, and are the only ones.
use Rattle.std.proofs.Common.{◌≡◌, ℕ, zero, suc, ◌+◌, ◌<◌, ◌≤◌, Bool, true, false, ltb, List, []}
use Rattle.std.proofs.Common.{◌∷◌, get_or, refl, sym, ap, subst, ◌∙◌, inl, inr, arith}
use Rattle.std.specs.List.{list_any}
use Rattle.std.proofs.lemmas.Bool.{cases_Bool}
use Rattle.std.proofs.lemmas.Bool.Decides.{nat_tests}
use Rattle.picture.specs.Runs.{Run, with_cell, runs_from, has_cell, AreApart, AreRunsOf}

-- a run has no cell before its first one, and none behind its last one
before_run : (k : ℕ) (run : Run) → k < run.from → has_cell k run ≡ false
before_run k run lt = grind (arith, nat_tests)

behind_run : (k : ℕ) (run : Run) → run.from + run.long ≤ k → has_cell k run ≡ false
behind_run k run le = grind (arith, nat_tests)

in_run : (k : ℕ) (run : Run) → run.from ≤ k → k < run.from + run.long → has_cell k run ≡ true
in_run k run le lt = grind (arith, nat_tests)

apart_earlier : (x y : ℕ) (runs : List Run) → x ≤ y → AreApart y runs → AreApart x runs
apart_earlier x y [] le apart = tt
apart_earlier x y (run ∷ runs) le apart = (omega (arith, apart.0), apart.1, apart.2)

-- no run has a cell before where they begin
none_before : (x k : ℕ) (runs : List Run) → AreApart x runs → k < x → list_any (has_cell k) runs ≡ false
none_before x k [] apart lt = refl
none_before x k (run ∷ runs) apart lt =
    rw (before_run k run (omega (arith, apart.0)))
    (none_before (run.from + run.long + 1) k runs apart.2 (omega (arith, apart.0)))

with_cell_apart : (x : ℕ) (runs : List Run) → AreApart (x + 1) runs → AreApart x (with_cell x runs)
with_cell_apart x runs h = grind (arith, nat_tests)

pub apart_from : (x : ℕ) (marks : List Bool) → AreApart x (runs_from x marks)
apart_from x [] = tt
apart_from x (true ∷ marks) = with_cell_apart x (runs_from (x + 1) marks) (apart_from (x + 1) marks)
apart_from x (false ∷ marks) =
    apart_earlier x (x + 1) (runs_from (x + 1) marks) (omega arith) (apart_from (x + 1) marks)

-- a cell more is had where it lies, and no other is
with_cell_here : (x : ℕ) (runs : List Run) → list_any (has_cell x) (with_cell x runs) ≡ true
with_cell_here x runs = grind (arith, nat_tests)

with_cell_later : (x k : ℕ) (runs : List Run) → x < k
    → list_any (has_cell k) (with_cell x runs) ≡ list_any (has_cell k) runs
with_cell_later x k runs h = grind (arith, nat_tests)

-- the cells of the runs are the marked ones
pub cells_from : (x k : ℕ) (marks : List Bool)
    → list_any (has_cell (x + k)) (runs_from x marks) ≡ get_or marks k false
cells_from x k [] = refl
cells_from x zero (false ∷ marks) =
    none_before (x + 1) (x + 0) (runs_from (x + 1) marks) (apart_from (x + 1) marks) (omega arith)
cells_from x zero (true ∷ marks) =
    let here : x ≡ x + 0 = omega arith in
    subst (λ (n : ℕ). list_any (has_cell n) (with_cell x (runs_from (x + 1) marks)) ≡ true) here
    (with_cell_here x (runs_from (x + 1) marks))
cells_from x (suc k) (false ∷ marks) =
    let next : x + 1 + k ≡ x + suc k = omega arith in
    subst (λ (n : ℕ). list_any (has_cell n) (runs_from (x + 1) marks) ≡ get_or marks k false) next
    (cells_from (x + 1) k marks)
cells_from x (suc k) (true ∷ marks) =
    let next : x + 1 + k ≡ x + suc k = omega arith in
    with_cell_later x (x + suc k) (runs_from (x + 1) marks) (omega arith)
    ∙ subst (λ (n : ℕ). list_any (has_cell n) (runs_from (x + 1) marks) ≡ get_or marks k false) next
    (cells_from (x + 1) k marks)

pub cells_of : (k : ℕ) (marks : List Bool) → list_any (has_cell k) (runs_from 0 marks) ≡ get_or marks k false
cells_of k marks =
    let here : 0 + k ≡ k = omega arith in
    subst (λ (n : ℕ). list_any (has_cell n) (runs_from 0 marks) ≡ get_or marks k false) here
    (cells_from 0 k marks)

-- runs that are apart and have the same cells are the same
abbrev HaveSame : List Run → List Run → Type 0
HaveSame runs others = (k : ℕ) → list_any (has_cell k) runs ≡ list_any (has_cell k) others

first_cell : (x : ℕ) (run : Run) (runs : List Run) → AreApart x (run ∷ runs)
    → list_any (has_cell run.from) (run ∷ runs) ≡ true
first_cell x run runs apart = grind (arith, nat_tests)

-- the first run of one begins no earlier than that of the other
begins_no_earlier : (x y : ℕ) (run other : Run) (runs others : List Run) → AreApart x (run ∷ runs)
    → AreApart y (other ∷ others) → HaveSame (run ∷ runs) (other ∷ others) → other.from ≤ run.from
begins_no_earlier x y run other runs others apart apart_other same =
    elim (cases_Bool (ltb run.from other.from)) [
      | inl before ↦
          let lt : run.from < other.from = grind (arith, nat_tests) in
          let none = none_before other.from run.from (other ∷ others)
          (omega arith, apart_other.1, apart_other.2) lt in
          absurd (cc (first_cell x run runs apart, same run.from, none))
      | inr not ↦ grind (arith, nat_tests)
    ]

-- the cell behind the first run is in none
cell_behind : (x : ℕ) (run : Run) (runs : List Run) → AreApart x (run ∷ runs)
    → list_any (has_cell (run.from + run.long)) (run ∷ runs) ≡ false
cell_behind x run runs apart = grind (arith, nat_tests, behind_run, none_before)

ends_no_later : (x y : ℕ) (run other : Run) (runs others : List Run) → run.from ≡ other.from
    → AreApart x (run ∷ runs) → AreApart y (other ∷ others) → HaveSame (run ∷ runs) (other ∷ others)
    → other.long ≤ run.long
ends_no_later x y run other runs others begin apart apart_other same =
    elim (cases_Bool (ltb run.long other.long)) [
      | inl longer ↦
          let lt : run.long < other.long = grind (arith, nat_tests) in
          let has = in_run (run.from + run.long) other (omega arith) (omega arith) in
          let one : list_any (has_cell (run.from + run.long)) (other ∷ others) ≡ true = rw has refl in
          absurd (cc (cell_behind x run runs apart, same (run.from + run.long), one))
      | inr not ↦ grind (arith, nat_tests)
    ]

same_run : (run other : Run) → run.from ≡ other.from → run.long ≡ other.long → run ≡ other
same_run run other begin long = grind (arith, nat_tests)

-- behind the first run they have the same cells too
same_behind : (x y : ℕ) (run other : Run) (runs others : List Run) → run.from ≡ other.from
    → run.long ≡ other.long → AreApart x (run ∷ runs) → AreApart y (other ∷ others)
    → HaveSame (run ∷ runs) (other ∷ others) → HaveSame runs others
same_behind x y run other runs others begin long apart apart_other same k =
    grind (arith, nat_tests, cases_Bool, none_before, behind_run)

same_runs : (x y : ℕ) (runs others : List Run) → AreApart x runs → AreApart y others → HaveSame runs others
    → runs ≡ others
same_runs x y [] [] apart apart_other same = refl
same_runs x y [] (other ∷ others) apart apart_other same =
    absurd (cc (same other.from, first_cell y other others apart_other))
same_runs x y (run ∷ runs) [] apart apart_other same =
    absurd (cc (same run.from, first_cell x run runs apart))
same_runs x y (run ∷ runs) (other ∷ others) apart apart_other same =
    let back : HaveSame (other ∷ others) (run ∷ runs) = λ k. sym (same k) in
    let low = begins_no_earlier x y run other runs others apart apart_other same in
    let high = begins_no_earlier y x other run others runs apart_other apart back in
    let begin : run.from ≡ other.from = omega (arith, low, high) in
    let short = ends_no_later x y run other runs others begin apart apart_other same in
    let long = ends_no_later y x other run others runs (sym begin) apart_other apart back in
    let whole : run.long ≡ other.long = omega (arith, short, long) in
    let rest = same_runs (run.from + run.long + 1) (other.from + other.long + 1) runs others apart.2
    apart_other.2 (same_behind x y run other runs others begin whole apart apart_other same) in
    ap (λ (first : Run). first ∷ runs) (same_run run other begin whole)
    ∙ ap (λ (later : List Run). other ∷ later) rest

pub are_runs : (marks : List Bool) → AreRunsOf marks (runs_from 0 marks)
are_runs marks = record {
  are = record { cells = λ x. cells_of x marks; apart = apart_from 0 marks };
  only = λ others longest. same_runs 0 0 others (runs_from 0 marks) longest.apart (apart_from 0 marks)
      (λ k. longest.cells k ∙ sym (cells_of k marks));
}
