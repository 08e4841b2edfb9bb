-- What a line of a list comes to.
use Rattle.std.proofs.lemmas.Bool.Decides.{nat_tests}
use Rattle.std.proofs.Common.{◌≡◌, ℕ, ◌+◌, ◌≤◌, arith, refl, ap, sym, ◌∙◌, Bool, true, false, List, [], ◌∷◌}
use Rattle.std.proofs.Common.{◌++◌, Option, Some, None, Result, Ok, Err}
use Rattle.std.specs.Prelude.{◌&&◌, not, codes}
use Rattle.std.specs.List.{list_all}
use Rattle.std.specs.Str.{bytes_eq}
use Rattle.root2_cost.specs.declared.Cost.{Cost}
use Rattle.grid_moves.specs.declared.Cell.{Cell}
use Rattle.grid_moves.specs.Grid.{cell_number}
use Rattle.potential_check.specs.declared.certificate.Claim.TheVariants.{Least}
use Rattle.potential_check.specs.declared.fault.CertFault.{CertFault}
use Rattle.potential_check.specs.declared.fault.CertFault.TheVariants.{Line, Order, NoMemory}
use Rattle.potential_check.specs.declared.reading.Head.{Head}
use Rattle.potential_check.specs.Certificate.{are_listed, are_points, cells_of, is_small, lies_inside}
use Rattle.potential_check.specs.Text.{Places, Plain, State, Step, Tells, at_size, at_version, ended, goes}
use Rattle.potential_check.specs.Text.{in_values, is_end, listed, next, spelled, step_fault}
use Rattle.std.proofs.lemmas.List.{map-append}
use Rattle.std.proofs.lemmas.Bool.{le-leb}
use Rattle.potential_check.proofs.LinesLeft.{ascend_to, ascend_to-ascend}

-- the bytes of the last line
pub end_is : (line word : List ℕ) (test : Bool) → word ≡ 101 ∷ 110 ∷ 100 ∷ [] → (b : Bool)
    → test ≡ bytes_eq line word → test ≡ b → is_end line ≡ b
end_is line word test w b e f = ap (λ (l : List ℕ). bytes_eq line l) (sym w) ∙ sym e ∙ f

-- a listed cell that may follow
pub listed_goes : (head : Head) (least number at : ℕ) (c : Cell) (state : State)
    → Places head least number c (Ok at) → listed head least c state ≡ goes state
listed_goes head least number at c state places =
    let most : least ≤ cell_number head.width c = omega (arith, places.1, places.2) in
    rw (places.0, le-leb least (cell_number head.width c) most) refl

pub values_end : (head : Head) (cost : Cost) (points : List Cell) (least : ℕ) (values : List (Cell × Cost))
    (line : List ℕ) → is_end line ≡ true → next (in_values head cost points least values) line
    ≡ goes (ended (record { head = head; claim = Least cost points values }))
values_end head cost points least values line e = rw e refl

-- what stands on a line that is not the last one is listed
module _ {E : Type 0} (form : List ℕ → Option E) (cell : E → Cell) (head : Head) (make : ℕ → List E → State)
    (least : ℕ) (items : List E) (line : List ℕ) where
  abbrev then_listed : E → Step
  then_listed e = listed head least (cell e) (make (cell_number head.width (cell e) + 1) (items ++ e ∷ []))

  module _ (on : next (make least items) line ≡ spelled (form line) then_listed) where
    read_as : (o : Option E) → form line ≡ o → next (make least items) line ≡ spelled o then_listed
    read_as o is = on ∙ ap (λ (o : Option E). spelled o then_listed) is

    pub list_none : (number : ℕ) → form line ≡ None
        → step_fault (next (make least items) line) number ≡ Some (Line number)
    list_none number is = ap (λ (s : Step). step_fault s number) (read_as None is)

    pub list_goes : (e : E) (number at : ℕ) (more : List E) → form line ≡ Some e
        → Places head least number (cell e) (Ok at) → more ≡ items ++ e ∷ []
        → next (make least items) line ≡ goes (make (at + 1) more)
    list_goes e number at more h1 h2 h3 = grind (arith, nat_tests, read_as, listed_goes)

    pub list_fault : (e : E) (number : ℕ) (fault : CertFault) → form line ≡ Some e
        → Places head least number (cell e) (Err fault)
        → step_fault (next (make least items) line) number ≡ Some fault
    list_fault e number fault is places =
        ap (λ (s : Step). step_fault s number) (read_as (Some e) is)
        ∙ places (make (cell_number head.width (cell e) + 1) (items ++ e ∷ []))

-- a fault that is read is the answer
pub err_tells : (fault : CertFault) (read : Result Plain CertFault) → read ≡ Err fault
    → Tells (Err fault) read
err_tells (Line line) read e = e
err_tells (Order line) read e = e
err_tells NoMemory read e = tt

-- the cells of entries and one more
pub cells_of-pushed : (values : List (Cell × Cost)) (entry : Cell × Cost)
    → cells_of (values ++ entry ∷ []) ≡ cells_of values ++ entry.0 ∷ []
cells_of-pushed values entry = map-append (λ (e : Cell × Cost). e.0) values (entry ∷ [])

pub listed_is : (width height least : ℕ) (cells : List Cell) → list_all (lies_inside width height) cells
    ≡ true
    → ascend_to width 0 cells least ≡ true → are_listed width height cells ≡ true
listed_is width height least cells inside ascend =
    rw (inside, ascend_to-ascend width 0 least cells ascend) refl

pub claim_is : (width height least : ℕ) (cost : Cost) (points : List Cell) (values : List (Cell × Cost))
    → is_small cost ≡ true → are_points points ≡ true → list_all (λ entry. is_small entry.1) values ≡ true
    → list_all (lies_inside width height) (cells_of values) ≡ true
    → ascend_to width 0 (cells_of values) least ≡ true
    → (is_small cost && are_points points && list_all (λ entry. is_small entry.1) values
    && are_listed width height (cells_of values)) ≡ true
claim_is width height least cost points values small may low inside ascend =
    rw (small, may, low, listed_is width height least (cells_of values) inside ascend) refl

pub line_number : (m n : ℕ) → m ≡ n → Some (Line m) ≡ Some (Line n)
line_number m n e = ap (λ (k : ℕ). let o : Option CertFault = Some (Line k) in o) e

-- the first line
pub version_test : (line word : List ℕ) (test : Bool) → word ≡ codes "jps-cert 1" → (b : Bool)
    → test ≡ not (bytes_eq line word) → test ≡ b → bytes_eq line (codes "jps-cert 1") ≡ not b
version_test line word test w b e f =
    ap (λ (l : List ℕ). bytes_eq line l) (sym w) ∙ grind arith

pub version_goes : (line : List ℕ) → bytes_eq line (codes "jps-cert 1") ≡ true → next at_version line
    ≡ goes at_size
version_goes line e = rw e refl

pub version_fault : (line : List ℕ) (number : ℕ) → bytes_eq line (codes "jps-cert 1") ≡ false
    → step_fault (next at_version line) number ≡ Some (Line number)
version_fault line number e = rw e refl
