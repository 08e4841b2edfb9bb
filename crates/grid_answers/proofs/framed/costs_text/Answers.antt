use Rattle.std.proofs.Common.{◌∙◌, ◌++◌, ap, List, ℕ}
use Rattle.std.specs.Prelude.{codes}
use Rattle.grid_answers.specs.Framed.{frame_line}
use Rattle.grid_answers.proofs.Waved.{framed-rows}
use Rattle.grid_answers.proofs.framed.costs_text.Goals as goal

pub returns : goal.returns
returns c =
    let found = c.in_ok-pass.ensures in
    let made = c.in_ok-waves.ensures in
    framed-rows c.args.layers.now c.args.from c.pass.new.self c.query_grid-grid.result.now c.height-2.result
    c.put_frame.new.out.items c.put_rows.new.out.items c.query_grid-grid.ensures
    c.requires.free c.requires.told
    found.tells (found.width ∙ made.width ∙ c.width.ensures.is)
    (found.height ∙ made.height ∙ c.height.ensures.is)
    c.height-2.ensures.is
    (c.in_ok-put_frame.ensures ∙ ap (λ (l : List ℕ). l ++ frame_line (codes "costs") c.query_grid-grid.result.now)
    c.new-text.ensures.items)
    c.in_ok-put_rows.ensures
