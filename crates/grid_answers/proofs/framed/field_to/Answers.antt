use Rattle.std.proofs.Common.{◌∙◌, ◌++◌, ap, List, ℕ}
use Rattle.std.specs.Prelude.{codes}
use Rattle.grid_answers.specs.Framed.{frame_line}
use Rattle.grid_answers.proofs.Cells.{free-on}
use Rattle.grid_answers.proofs.Waved.{framed-letters}
use Rattle.grid_answers.proofs.framed.field_to.Goals as goal

pub put_field-requires-clause-free : goal.put_field-requires-clause-free
put_field-requires-clause-free c =
    free-on c.args.layers.now c.args.to c.query_grid-grid.result.now c.query_grid-grid.ensures c.requires.free

pub returns : goal.returns
returns c =
    framed-letters c.args.layers.now c.args.to c.query_grid-grid.result.now c.put_frame.new.out.items
    c.put_field.new.out.items c.query_grid-grid.ensures c.requires.told
    (c.in_ok-put_frame.ensures ∙ ap (λ (l : List ℕ). l ++ frame_line (codes "field") c.query_grid-grid.result.now)
    c.new-text.ensures.items)
    c.in_ok-put_field.ensures.ok
