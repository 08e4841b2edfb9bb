use Rattle.std.proofs.Common.{ℕ, ◌<◌, sym, ◌∙◌, subst, length, get_or}
use Rattle.std.specs.Prelude.{Option, None}
use Rattle.grid_moves.specs.declared.Dir.{Dir}
use Rattle.grid_moves.specs.Grid.{cell_number}
use Rattle.grid_moves.proofs.Places.{inside_below}
use Rattle.first_moves.specs.First.{IsFirstMove}
use Rattle.first_moves.proofs.row.Row.find.Goals as goal

pub returns-clause-first : goal.returns-clause-first
returns-clause-first c = λ g s t row inside number.
    let within : c.args.number < length row.members =
    subst (λ (n : ℕ). n < length row.members) (sym number)
    (subst (λ (n : ℕ). cell_number g.width t < n) (sym row.whole) (inside_below g t inside)) in
    let is = c.search.ensures.first row.members (c.as_slice.ensures.value ∙ c.self.view_is ∙ row.cut)
    within in
    subst (λ (o : Option Dir). IsFirstMove g s t o) (sym is)
    (subst (λ (n : ℕ). IsFirstMove g s t (get_or row.members n None)) (sym number) (row.moves t inside))
