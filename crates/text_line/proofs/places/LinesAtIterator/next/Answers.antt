use Rattle.std.proofs.Common.{sym, ◌∙◌}
use Rattle.text_line.proofs.Placing.{line_given}
use Rattle.text_line.proofs.places.LinesAtIterator.next.Goals as goal

pub returns-clause-steps : goal.returns-clause-steps
returns-clause-steps c =
    let given = line_given c.self.inside.pieces c.next.new.self c.in_ok-number.field-0 c.self.inside.place
    c.without_cr.result.now c.in_ok-number.ensures.steps c.without_cr.ensures c.self.invariant in
    (sym c.self.view_is ∙ given.0, given.1)
