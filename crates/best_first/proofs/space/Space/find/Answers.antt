use Rattle.std.proofs.Common.{◌≡◌, ◌∙◌, ap, length, ℕ, arith}
use Rattle.grid_moves.specs.Grid.{cell_number}
use Rattle.best_first.specs.Index.{entry_for, entry_in}
use Rattle.best_first.specs.Space.{SpaceData, IsPlaced}
use Rattle.best_first.specs.State.{state_in, arrival_number}
use Rattle.best_first.specs.Table.{lookup}
use Rattle.best_first.proofs.Parts.{parts_found}
use Rattle.best_first.proofs.space.Space.find.Goals as goal

pub returns : goal.returns
returns g c =
    let i = c.self.inside in
    let placed : IsPlaced i.width (length i.index.heads.items) c.args.state.cell = grind arith in
    let number : c.args.number ≡ cell_number i.width c.args.state.cell = grind arith in
    c.entry.ensures
    ∙ ap (λ (n : ℕ). entry_in i.index.layout i.index.heads.items i.index.records.items n
    (arrival_number (state_in i.index.layout c.args.state).arrival)) number
    ∙ parts_found c.self.invariant.parts c.args.state placed
    ∙ ap (λ (s : SpaceData). entry_for (lookup s.layout s.table.nodes (state_in s.layout c.args.state)))
    c.self.view_is
