use Rattle.std.proofs.Common.{◌≡◌, ℕ, ◌+◌, sym, subst, arith, length}
use Rattle.std.proofs.lemmas.Option.{slice_get-get_or}
use Rattle.cost_waves.specs.Front.{Front}
use Rattle.cost_waves.specs.Shape.{front_of}
use Rattle.cost_waves.specs.Wave.{IsMidway}
use Rattle.cost_waves.proofs.Waving.{midway_more}
use Rattle.cost_waves.proofs.sweep.wave.Goals as goal

pub loop-c-preserved : goal.loop-c-preserved
loop-c-preserved g c = λ s r.
    subst (λ (f : Front). IsMidway (g.T.Terrain.grid c.args.t.now) s c.args.floor c.args.now.now
    (c.loop-c.c-index + 1) f)
    (sym c.in_ok-settle.ensures)
    (midway_more (g.T.Terrain.grid c.args.t.now) s c.requires.whole c.args.floor c.args.now.now
    c.requires.above
    (front_of c.loop-c.ranks c.loop-c.firsts c.loop-c.ahead) c.loop-c.c-index _ (c.loop-c.invariant s r)
    (slice_get-get_or c.args.now.now c.loop-c.c-index (record { x = 0; y = 0 }) c.loop-c-test.true))

pub returns : goal.returns
returns g c = λ s r.
    let done : c.loop-c.c-index ≡ length c.args.now.now = omega arith in
    subst (λ (n : ℕ). IsMidway (g.T.Terrain.grid c.args.t.now) s c.args.floor c.args.now.now n
    (front_of c.loop-c.ranks c.loop-c.firsts c.loop-c.ahead)) done (c.loop-c.invariant s r)

pub settle-requires-clause-floor : goal.settle-requires-clause-floor
settle-requires-clause-floor g c = c.requires.below
