use Rattle.std.proofs.Common.{◌≡◌, ◌∙◌, ◌+◌, ◌*◌, ◌<◌, refl, sym, subst, ℕ, List, arith}
use Rattle.grid_moves.specs.declared.Cell.{Cell}
use Rattle.goal_boxes.specs.declared.around.CellBoxes.{CellBoxes}
use Rattle.goal_boxes.specs.Stored.{AreBefore}
use Rattle.goal_boxes.proofs.Storing.{one_before}
use Rattle.goal_boxes.proofs.boxes.add_row.Goals as goal

pub loop-x-preserved : goal.loop-x-preserved
loop-x-preserved g c =
    let grid = g.T.Terrain.grid c.args.t.now in
    let n : ℕ = c.args.y * grid.width + c.loop-x.x in
    let u : Cell = record { x = c.loop-x.x; y = c.args.y } in
    let on : c.loop-x.x < grid.width =
    subst (λ (m : ℕ). c.loop-x.x < m) c.width-x-end.ensures.is c.loop-x-test.true in
    let more : AreBefore grid c.push_item.new.items.items (n + 1) =
    subst (λ (bs : List CellBoxes). AreBefore grid bs (n + 1)) (sym c.in_ok-push_item.ensures.pushed)
    (one_before grid c.loop-x.cells.items n u c.in_ok-boxes.boxes on refl c.in_ok-boxes.ensures.boxes
    c.loop-x.invariant.before) in
    record {
      width = c.in_ok-boxes.ensures.width ∙ c.loop-x.invariant.width;
      height = c.in_ok-boxes.ensures.height ∙ c.loop-x.invariant.height;
      before = subst (λ (m : ℕ). AreBefore grid c.push_item.new.items.items m) (omega arith) more;
    }

pub returns-clause-before : goal.returns-clause-before
returns-clause-before g c =
    let grid = g.T.Terrain.grid c.args.t.now in
    let w = c.width-x-end.ensures.is in
    let done : c.args.y * grid.width + c.loop-x.x ≡ (c.args.y + 1) * grid.width = omega arith in
    subst (λ (m : ℕ). AreBefore grid c.loop-x.cells.items m) done c.loop-x.invariant.before
