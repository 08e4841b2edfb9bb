-- What is printed of one cell.
use Rattle.std.proofs.Common.{◌≡◌, ◌≤◌, ◌*◌, ◌∙◌, refl, ap, sym, subst, ℕ, List, [], ◌∷◌, ◌++◌, Bool, true}
use Rattle.std.proofs.Common.{false, ◌||◌}
use Rattle.std.specs.Prelude.{if◌then◌else◌, IfOk, Result, Ok, Err, Option, Some, None, codes}
use Rattle.std.specs.Option.{option_map_or}
use Rattle.std.specs.Global.{Vec}
use Rattle.first_moves.specs.declared.row.Run.{Run}
use Rattle.first_moves.specs.Row.{IsRow, row_of}
use Rattle.first_moves.proofs.Rowed.{row_only}
use Rattle.goal_boxes.specs.declared.area.Area.{Area}
use Rattle.goal_boxes.specs.declared.around.CellBoxes.{CellBoxes}
use Rattle.goal_boxes.specs.Box.{AreBoxes, box_in}
use Rattle.goal_boxes.specs.Made.{box_of}
use Rattle.goal_boxes.proofs.Existing.{boxes_are}
use Rattle.grid_moves.specs.declared.Cell.{Cell}
use Rattle.grid_moves.specs.Grid.{GridData, is_free}
use Rattle.grid_moves.specs.Layers.{Layers, is_free_ground, query_grid}
use Rattle.grid_moves.specs.Move.{all_dirs}
use Rattle.cell_lines.specs.Cells.{dir_text, texts_of}
use Rattle.grid_answers.specs.BoxLines.{area_text, boxes_answer, box_line, boxes_text}
use Rattle.grid_answers.specs.OfCell.{of_cell, why_untold}
use Rattle.grid_answers.specs.RunLines.{moves_answer, runs_text}

-- what is this is that
pub if_is : {A E Y : Type 0} (part : A → Y) (result : Result A E) {this that : Y}
    → IfOk result (λ a. part a ≡ this) → this ≡ that → IfOk result (λ a. part a ≡ that)
if_is part (Ok a) e f = e ∙ f
if_is part (Err e) a f = tt

pub if_text : {E : Type 0} (result : Result (Vec ℕ) E) {this that : List ℕ}
    → IfOk result (λ t. t.items ≡ this) → this ≡ that → IfOk result (λ t. t.items ≡ that)
if_text = if_is (λ t. t.items)

-- what is told of a cell, and the line that says why nothing is, are what is printed of it
module _ {X : Type 0} (ls : Layers) (s : Cell) (alone : List ℕ → X) (told : GridData → X) where
  pub is-told : why_untold ls s ≡ None → told (query_grid ls s) ≡ of_cell ls s alone told
  is-told none =
      ap (λ (o : Option (List ℕ)). option_map_or alone o (told (query_grid ls s))) (sym none)

  pub is-line : (line : List ℕ) → why_untold ls s ≡ Some line → alone line ≡ of_cell ls s alone told
  is-line line why = ap (λ (o : Option (List ℕ)). option_map_or alone o (told (query_grid ls s))) (sym why)

-- a free cell is free on the grid of its queries
pub free-on : (ls : Layers) (s : Cell) (g : GridData) → g ≡ query_grid ls s → is_free_ground ls s ≡ true
    → is_free g s ≡ true
free-on ls s g same free =
    subst (λ (k : GridData). is_free k s ≡ true) (sym same) (by_water (is_free ls.water s) refl free)
  where
    by_water : (b : Bool) → is_free ls.water s ≡ b → (is_free ls.land s || b) ≡ true
        → is_free (if b then ls.water else ls.land) s ≡ true
    by_water true water some = water
    by_water false other some = by_land (is_free ls.land s) refl some
      where
        by_land : (b : Bool) → is_free ls.land s ≡ b → (b || false) ≡ true → is_free ls.land s ≡ true
        by_land true land some = land
        by_land false other some = absurd (cc)

-- texts of each member are those of the list
texts-same : {X : Type 0} (p q : X → List ℕ) (xs : List X) → ((x : X) → p x ≡ q x)
    → texts_of p xs ≡ texts_of q xs
texts-same p q [] same = refl
texts-same p q (x ∷ xs) same =
    ap (λ (l : List ℕ). l ++ texts_of p xs) (same x) ∙ ap (λ (l : List ℕ). q x ++ l) (texts-same p q xs same)

-- the lines of the boxes and of the runs of a free cell
pub boxes-told : (ls : Layers) (s : Cell) (g : GridData) (b : CellBoxes) → g ≡ query_grid ls s
    → is_free_ground ls s ≡ true → why_untold ls s ≡ None → AreBoxes g s b
    → boxes_text (box_in b) ≡ boxes_answer ls s
unfolding boxes_answer
boxes-told ls s g b same free none are =
    texts-same (box_line (box_in b)) (box_line (box_of g s)) all_dirs (λ d.
    ap (λ (a : Option Area). codes "box " ++ dir_text d ++ codes " " ++ area_text a ++ codes "\n")
    ((boxes_are g s d (free-on ls s g same free)).only (box_in b d) (are d)))
    ∙ ap (λ (k : GridData). boxes_text (box_of k s)) same
    ∙ is-told ls s (λ line. line) (λ k. boxes_text (box_of k s)) none

pub runs-told : (ls : Layers) (s : Cell) (g : GridData) (row : List Run) (width : ℕ) → g ≡ query_grid ls s
    → is_free_ground ls s ≡ true → why_untold ls s ≡ None → IsRow g s row → width ≡ g.width
    → runs_text width row ≡ moves_answer ls s
unfolding moves_answer
runs-told ls s g row width same free none is w =
    ap (λ (n : ℕ). runs_text n row) w
    ∙ ap (λ (r : List Run). runs_text g.width r) (row_only g s row (free-on ls s g same free) is)
    ∙ ap (λ (k : GridData). runs_text k.width (row_of k s)) same
    ∙ is-told ls s (λ line. line) (λ k. runs_text k.width (row_of k s)) none

-- the grid of a cell is small where both grids are
pub few-cells : (ls : Layers) (s : Cell) (g : GridData) → g ≡ query_grid ls s
    → ls.land.height * ls.land.width ≤ 16384 → ls.water.height * ls.water.width ≤ 16384
    → g.height * g.width ≤ 16384
few-cells ls s g same land water = subst (λ (k : GridData). k.height * k.width ≤ 16384) (sym same)
    (by_test (is_free ls.water s))
  where
    by_test : (b : Bool) → let k : GridData = if b then ls.water else ls.land in k.height * k.width ≤ 16384
    by_test true = water
    by_test false = land
