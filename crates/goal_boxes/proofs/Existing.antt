-- Each free cell has its boxes, apart from the code that finds them, and a function tells them.
use Rattle.std.proofs.lemmas.Bool.Decides.{nat_tests}
use Rattle.std.proofs.Common.{◌≡◌, ◌≤◌, ◌<◌, ◌+◌, inl, ℕ, zero, suc, Bool, true, false, refl, subst, arith}
use Rattle.std.specs.Prelude.{Option, Some, IfOk, Ok, Err, IsTrue, ◌↔◌, if◌then◌else◌}
use Rattle.std.specs.declared.result.Result.{Result}
use Rattle.grid_moves.specs.declared.Cell.{Cell}
use Rattle.grid_moves.specs.declared.Dir.{Dir}
use Rattle.grid_moves.specs.Grid.{GridData, is_free}
use Rattle.grid_moves.proofs.Legal.{free_inside}
use Rattle.cost_waves.specs.Begin.{Begins}
use Rattle.plain_search.specs.Costs.{begins}
use Rattle.plain_search.proofs.LeastCosts.{begins_is}
use Rattle.goal_boxes.specs.declared.area.Area.{Area}
use Rattle.goal_boxes.specs.declared.around.CellBoxes.{CellBoxes}
use Rattle.best_first.specs.declared.found.Found.{Found}
use Rattle.goal_boxes.specs.Answer.{IsRunBy, IsBoxedRunOn}
use Rattle.goal_boxes.specs.Box.{AreBoxes, BoxTeller, IsAreaOf, IsBox, IsWithin, TellsBoxes, box_in, widened}
use Rattle.goal_boxes.specs.Made.{BoxesAre, box_of, over_columns, over_rows}
use Rattle.goal_boxes.specs.Offers.{Agree}
use Rattle.goal_boxes.specs.Wide.{Scanned}
use Rattle.goal_boxes.proofs.Growing.{cell, one_of_kind, one_of_other, row_scanned, none_scanned, same_area}
use Rattle.goal_boxes.proofs.Growing.{end_of_walk}

-- of the cells of a kind that a test tells, the scan by it makes the least rectangle
module _ (width : ℕ) (P : Cell → Type 0) (has : Cell → Bool) (iff : (c : Cell) → IsTrue (has c) ↔ P c) where
  one_more : (y x : ℕ) → x < width → (box : Option Area) → IsAreaOf (Scanned width P y x) box → (b : Bool)
      → has (cell width P y x) ≡ b
      → IsAreaOf (Scanned width P y (x + 1)) (if b then Some (widened box (cell width P y x)) else box)
  one_more y x low box is true h = one_of_kind width P y x low ((iff (cell width P y x)).0 h) box is
  one_more y x low box is false h =
      one_of_other width P y x (λ p. let met = (iff (cell width P y x)).1 p in cc) box is

  along : (y x : ℕ) → x ≤ width → (box : Option Area) → IsAreaOf (Scanned width P y 0) box
      → IsAreaOf (Scanned width P y x) (over_columns has y x box)
  along y zero l box is = is
  along y (suc x) l box is =
      let next : x + 1 ≡ suc x = omega arith in
      subst (λ (n : ℕ). IsAreaOf (Scanned width P y n) (over_columns has y (suc x) box)) next
      (one_more y x (omega arith) (over_columns has y x box) (along y x (omega arith) box is)
      (has (cell width P y x)) refl)

  all_rows : (y : ℕ) → IsAreaOf (Scanned width P y 0) (over_rows has width y)
  all_rows zero = none_scanned width P
  all_rows (suc y) =
      let next : y + 1 ≡ suc y = omega arith in
      let row : Option Area = over_columns has y width (over_rows has width y) in
      subst (λ (n : ℕ). IsAreaOf (Scanned width P n 0) row) next
      (row_scanned width P y row (along y width (omega arith) (over_rows has width y) (all_rows y)))

-- so it does of the cells to which least walks begin so
box_is : (g : GridData) (u : Cell) (d : Dir) → is_free g u ≡ true → IsBox g u d (box_of g u d)
unfolding box_of
box_is g u d free =
    same_area (Scanned g.width (λ t. Begins g u t d) g.height 0) (λ t. Begins g u t d) (λ c s. s.kind)
    (λ c b. let i = free_inside g c (end_of_walk g u c d b) in
    record { column = i.0; kind = b; before = inl i.1 })
    (over_rows (λ (t : Cell). begins g u t d) g.width g.height)
    (all_rows g.width (λ t. Begins g u t d) (λ t. begins g u t d) (λ t. begins_is g u t d free) g.height)

-- there is one box
one_area : (a b : Area) → IsWithin a b → IsWithin b a → a ≡ b
one_area a b h1 h2 = grind (arith, nat_tests)

pub one_box : (P : Cell → Type 0) (a b : Option Area) → IsAreaOf P a → IsAreaOf P b → a ≡ b
one_box P a b h1 h2 = grind (arith, nat_tests, one_area)

pub boxes_are : BoxesAre box_of
boxes_are g u d free = record {
  is = box_is g u d free;
  only = λ other is. one_box (λ t. Begins g u t d) other (box_of g u d) is (box_is g u d free);
}

-- these are the boxes of a grid
pub tells_boxes : (g : GridData) → TellsBoxes g (box_of g)
tells_boxes g = record { boxes = λ u free d. box_is g u d free }

-- so right boxes of a free cell are those that all right boxes of the grid have there
pub agree : (g : GridData) (box : BoxTeller) → TellsBoxes g box → (u : Cell) → is_free g u ≡ true
    → (boxes : CellBoxes) → AreBoxes g u boxes → Agree boxes box u
agree g box tells u free boxes are =
    λ d. one_box (λ t. Begins g u t d) (box_in boxes d) (box u d) (are d) (tells.boxes u free d)

-- and a run by such boxes is the grid's
pub ran_on_grid : {E : Type 0} (g : GridData) (box : BoxTeller) (s t : Cell) (r : Result Found E)
    → TellsBoxes g box → IfOk r (IsRunBy g box s t) → IfOk r (IsBoxedRunOn g s t)
ran_on_grid g box s t (Ok found) tells run = record { box = box; tells = tells; run = run }
ran_on_grid g box s t (Err fault) tells run = tt
