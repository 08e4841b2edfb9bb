use Rattle.std.proofs.Common.{◌≡◌, refl, ap, ◌∙◌}
use Rattle.bit_grid.specs.Bits.{LineData}
use Rattle.bit_grid.proofs.Showing.{lane_shown}
use Rattle.bit_grid.proofs.lines.Lines.lane.Goals as goal

pub returns-clause-shown : goal.returns-clause-shown
returns-clause-shown g c = λ lines positions free shows.
    let blocks : c.self.inside.blocks ≡ c.args.self.now.blocks =
    ap (λ (l : LineData). l.blocks) c.self.view_is in
    let words : c.self.inside.words.items ≡ c.args.self.now.words =
    ap (λ (l : LineData). l.words) c.self.view_is in
    lane_shown c.args.self.now c.args.line c.args.index lines positions free shows c.requires.line
    c.requires.index _ _ _ (rw blocks refl) (c.deref.ensures.value ∙ words) c.eight_from.ensures.same
