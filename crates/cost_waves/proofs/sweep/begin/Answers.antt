use Rattle.std.proofs.Common.{ℕ, ◌∙◌, ap}
use Rattle.grid_moves.specs.Grid.{cell_number}
use Rattle.cost_waves.specs.Shape.{front_of}
use Rattle.cost_waves.proofs.Beginning.{begun_by}
use Rattle.cost_waves.proofs.sweep.begin.Goals as goal

pub returns-clause-ready : goal.returns-clause-ready
returns-clause-ready g c =
    begun_by (g.T.Terrain.grid c.args.t.now) c.args.from c.width.ensures.whole c.requires.from
    c.args.ranks.now
    c.args.firsts.now c.requires.ranked c.requires.bytes c.requires.far c.requires.none
    (front_of c.spread.new.ranks c.spread.new.firsts c.spread.new.ahead) c.number_of-at.result
    c.clear.new.self.ahead.next.items c.clear.new.self.ahead.after.items
    (c.number_of-at.ensures ∙ ap (λ (n : ℕ). cell_number n c.args.from) c.width.ensures.is)
    c.clear.ensures.next c.clear.ensures.after c.in_ok-spread.ensures _ _ _
    c.turn.ensures.wave c.turn.ensures.next c.turn.ensures.after
