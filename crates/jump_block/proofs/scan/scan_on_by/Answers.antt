use Rattle.std.proofs.Common.{ℕ, sym, ◌∙◌, subst}
use Rattle.grid_moves.specs.declared.Corner.{Corner}
use Rattle.jump_block.specs.declared.word.Way.{Way}
use Rattle.jump_block.specs.Scan.{FindsFrom, PassedFrom}
use Rattle.jump_block.proofs.Scans.{on_same}
use Rattle.jump_block.proofs.scan.scan_on_by.Goals as goal

pub scan_on-requires-clause-passed : goal.scan_on-requires-clause-passed
scan_on-requires-clause-passed g c =
    on_same (λ (w : Way) (r : Corner). PassedFrom c.args.lines.now r w c.args.line c.args.place c.args.last)
    (sym c.way_of.ensures) (c.requires.rule ∙ sym c.rule_of_number-rule.ensures) c.requires.passed

pub returns-clause-finds : goal.returns-clause-finds
returns-clause-finds g c =
    on_same (λ (w : Way) (r : Corner). FindsFrom c.args.lines.now r w c.args.to_goal c.args.line c.args.place
    c.scan_on.result)
    c.way_of.ensures (c.rule_of_number-rule.ensures ∙ sym c.requires.rule)
    (subst (λ (n : ℕ). FindsFrom c.args.lines.now c.rule_of_number-rule.result c.way_of.result n c.args.line
    c.args.place c.scan_on.result) c.moves_to_goal-to_goal.ensures c.scan_on.ensures.finds)
