use Rattle.std.proofs.Common.{◌<◌, ℕ, ap, length, subst, sym, ◌∙◌}
use Rattle.grid_moves.specs.Grid.{cell_number}
use Rattle.move_field.proofs.Priced.{ahead-place}
use Rattle.move_field.proofs.letter.leads.Goals as goal

pub number_of-requires-clause-column : goal.number_of-requires-clause-column
number_of-requires-clause-column g c =
    subst (λ (n : ℕ). c.in-Some.v.x < n) (sym c.width.ensures.is)
    (ahead-place (g.T.Terrain.grid c.args.t.now) c.args.costs.now c.args.c c.in-Some.v c.args.d
    c.width.ensures.whole c.requires.whole
    (sym (c.requires.around c.args.d) ∙ sym c.end_in.ensures ∙ c.in-Some.is)).column

pub number_of-requires-clause-row : goal.number_of-requires-clause-row
number_of-requires-clause-row g c =
    (ahead-place (g.T.Terrain.grid c.args.t.now) c.args.costs.now c.args.c c.in-Some.v c.args.d
    c.width.ensures.whole c.requires.whole
    (sym (c.requires.around c.args.d) ∙ sym c.end_in.ensures ∙ c.in-Some.is)).row

pub bounds-costs-number_of : goal.bounds-costs-number_of
bounds-costs-number_of g c =
    subst (λ (n : ℕ). n < length c.args.costs.now)
    (sym (c.number_of.ensures ∙ ap (λ (n : ℕ). cell_number n c.in-Some.v) c.width.ensures.is))
    (ahead-place (g.T.Terrain.grid c.args.t.now) c.args.costs.now c.args.c c.in-Some.v c.args.d
    c.width.ensures.whole c.requires.whole
    (sym (c.requires.around c.args.d) ∙ sym c.end_in.ensures ∙ c.in-Some.is)).entry
