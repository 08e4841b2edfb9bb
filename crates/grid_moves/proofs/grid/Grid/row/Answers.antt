use Rattle.std.proofs.Common.{◌<◌, ap, subst, sym, ◌∙◌, ◌+◌, ◌-◌, false, Bool, List, take, drop, get_or}
use Rattle.std.proofs.Common.{arith}
use Rattle.grid_moves.specs.declared.Cell.{Cell}
use Rattle.grid_moves.specs.Grid.{GridData, is_free}
use Rattle.grid_moves.specs.Padded.{grid_in}
use Rattle.grid_moves.proofs.Padding.{row_read}
use Rattle.grid_moves.proofs.grid.Grid.row.Goals as goal

pub returns-clause-flags : goal.returns-clause-flags
returns-clause-flags c = λ x h.
    let fields = c.self.inside in
    let grid : GridData = grid_in fields.width fields.height fields.corner fields.cells.items in
    let cell : Cell = record { x = x; y = c.args.y } in
    let row = subst (λ (g : GridData). c.args.y < g.height) (sym c.self.view_is) c.requires.inside in
    let column = subst (λ (g : GridData). x < g.width) (sym c.self.view_is) h in
    ap (λ (cells : List Bool). get_or (take (c.place_of-start.result + fields.width - c.place_of-start.result)
    (drop c.place_of-start.result cells)) x false) c.deref.ensures.value
    ∙ row_read grid fields.cells.items c.self.invariant c.args.y row c.place_of-start.result
    c.place_of-start.ensures _ (omega arith) x column
    ∙ ap (λ (g : GridData). is_free g cell) c.self.view_is
