use Rattle.std.proofs.Common.{ℕ, ◌*◌, ◌/◌, sym}
use Rattle.std.specs.Prelude.{Some}
use Rattle.grid_moves.specs.declared.Corner.{Corner}
use Rattle.jump_block.specs.declared.word.Way.{Way}
use Rattle.jump_block.specs.Trail.{IsClear, begun, trail_on}
use Rattle.jump_block.specs.Scan.{Finds}
use Rattle.jump_block.specs.Seek.{HasPassed}
use Rattle.jump_block.specs.Word.{IsBlockOf, edge_before, far, moves_before}
use Rattle.jump_block.proofs.Scans.{on_same}
use Rattle.jump_block.proofs.scan.scan_rest.Goals as goal

pub returns-in-Halted-clause-finds : goal.returns-in-Halted-clause-finds
returns-in-Halted-clause-finds g c = λ free start.
    let line : ℕ = c.args.line in
    let place : ℕ = c.args.place in
    on_same (λ (w : Way) (r : Corner). Finds r (begun r (trail_on free w line place)) 0
    (Some c.in-Halted.halt))
    c.way_of.ensures c.rule_of_number-rule.ensures
    (c.in-Halted.ensures (trail_on free c.way_of.result line place)
    (on_same (λ (w : Way) (r : Corner). IsBlockOf (trail_on free w line place) w place (place / 512 * 512) 0
    c.args.block) (sym c.way_of.ensures) (sym c.rule_of_number-rule.ensures) (c.requires.block free start))
    (on_same (λ (w : Way) (r : Corner). IsClear (begun r (trail_on free w line place))
    (moves_before w place (far w (place / 64 * 64))))
    (sym c.way_of.ensures) (sym c.rule_of_number-rule.ensures) (c.requires.clear free start)))

pub scan_on_by-requires-clause-passed : goal.scan_on_by-requires-clause-passed
scan_on_by-requires-clause-passed g c = λ free start.
    let line : ℕ = c.args.line in
    let place : ℕ = c.args.place in
    on_same (λ (w : Way) (r : Corner). HasPassed
    (begun c.rule_of_number-rule.result (trail_on free w line place)) w place
    (edge_before w (place / 512 * 512) 8) c.in-Passed.words)
    c.way_of.ensures c.rule_of_number-rule.ensures
    (c.in-Passed.ensures (trail_on free c.way_of.result line place)
    (on_same (λ (w : Way) (r : Corner). IsBlockOf (trail_on free w line place) w place (place / 512 * 512) 0
    c.args.block) (sym c.way_of.ensures) (sym c.rule_of_number-rule.ensures) (c.requires.block free start))
    (on_same (λ (w : Way) (r : Corner). IsClear (begun r (trail_on free w line place))
    (moves_before w place (far w (place / 64 * 64))))
    (sym c.way_of.ensures) (sym c.rule_of_number-rule.ensures) (c.requires.clear free start)))

pub returns-in-Passed-clause-finds : goal.returns-in-Passed-clause-finds
returns-in-Passed-clause-finds g c = λ free start.
    rw c.rule_of_number-rule.ensures at (c.scan_on_by.ensures.finds free start)
