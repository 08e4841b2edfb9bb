use Rattle.std.proofs.Common.{◌≡◌, ◌+◌, ◌-◌, arith, ap, ◌∙◌}
use Rattle.bit_grid.specs.Bits.{LineData}
use Rattle.bit_grid.proofs.Showing.{lane_shown, block_before}
use Rattle.bit_grid.proofs.lines.Lines.three_lanes.Goals as goal

pub returns-clause-middle : goal.returns-clause-middle
returns-clause-middle g c = λ lines positions free shows.
    let last = c.requires.last in
    let blocks : c.self.inside.blocks ≡ c.args.self.now.blocks =
    ap (λ (l : LineData). l.blocks) c.self.view_is in
    let words : c.self.inside.words.items ≡ c.args.self.now.words =
    ap (λ (l : LineData). l.words) c.self.view_is in
    lane_shown c.args.self.now c.args.line c.args.index lines positions free shows (omega (arith, last))
    c.requires.index _ _ _ (rw blocks (omega arith)) (c.deref.ensures.value ∙ words) c.eight_from.ensures.same

pub returns-clause-before : goal.returns-clause-before
returns-clause-before g c = λ lines positions free shows.
    let last = c.requires.last in
    let blocks : c.self.inside.blocks ≡ c.args.self.now.blocks =
    ap (λ (l : LineData). l.blocks) c.self.view_is in
    let words : c.self.inside.words.items ≡ c.args.self.now.words =
    ap (λ (l : LineData). l.words) c.self.view_is in
    lane_shown c.args.self.now (c.args.line - 1) c.args.index lines positions free shows (omega (arith, last))
    c.requires.index _ _ _ (rw blocks (block_before c.args.line _ c.args.index c.requires.first))
    (c.deref-2.ensures.value ∙ words) c.eight_from-2.ensures.same

pub returns-clause-after : goal.returns-clause-after
returns-clause-after g c = λ lines positions free shows.
    let last = c.requires.last in
    let blocks : c.self.inside.blocks ≡ c.args.self.now.blocks =
    ap (λ (l : LineData). l.blocks) c.self.view_is in
    let words : c.self.inside.words.items ≡ c.args.self.now.words =
    ap (λ (l : LineData). l.words) c.self.view_is in
    lane_shown c.args.self.now (c.args.line + 1) c.args.index lines positions free shows (omega (arith, last))
    c.requires.index _ _ _ (rw blocks (omega arith)) (c.deref-3.ensures.value ∙ words)
    c.eight_from-3.ensures.same
