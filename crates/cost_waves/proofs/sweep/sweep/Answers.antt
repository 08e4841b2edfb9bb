use Rattle.std.proofs.Common.{◌<◌, sym, ◌∙◌, arith}
use Rattle.cost_waves.specs.Shape.{front_of}
use Rattle.cost_waves.proofs.Waving.{floor_small, wave_turned}
use Rattle.cost_waves.proofs.sweep.sweep.Goals as goal

pub wave-requires-clause-below : goal.wave-requires-clause-below
wave-requires-clause-below g c =
    let b = floor_small (g.T.Terrain.grid c.args.t.now) c.requires.ready.start c.requires.whole
    c.loop-lists.floor
    c.loop-lists.lists.wave.items (front_of c.loop-lists.ranks c.loop-lists.firsts c.loop-lists.lists.ahead)
    (c.loop-lists.invariant.1 c.requires.ready.start c.requires.ready.ready) (sym c.are_empty.ensures
    ∙ c.loop-lists-test.true) in
    omega (arith, b.0)

pub overflow_add-floor : goal.overflow_add-floor
overflow_add-floor g c =
    let b = floor_small (g.T.Terrain.grid c.args.t.now) c.requires.ready.start c.requires.whole
    c.loop-lists.floor
    c.loop-lists.lists.wave.items (front_of c.loop-lists.ranks c.loop-lists.firsts c.loop-lists.lists.ahead)
    (c.loop-lists.invariant.1 c.requires.ready.start c.requires.ready.ready) (sym c.are_empty.ensures
    ∙ c.loop-lists-test.true) in
    omega (arith, b.0)

pub loop-lists-smaller : goal.loop-lists-smaller
loop-lists-smaller g c =
    let b = floor_small (g.T.Terrain.grid c.args.t.now) c.requires.ready.start c.requires.whole
    c.loop-lists.floor
    c.loop-lists.lists.wave.items (front_of c.loop-lists.ranks c.loop-lists.firsts c.loop-lists.lists.ahead)
    (c.loop-lists.invariant.1 c.requires.ready.start c.requires.ready.ready) (sym c.are_empty.ensures
    ∙ c.loop-lists-test.true) in
    omega (arith, b.1, c.wave.auto.ranks)

pub loop-lists-preserved : goal.loop-lists-preserved
loop-lists-preserved g c =
    let b = floor_small (g.T.Terrain.grid c.args.t.now) c.requires.ready.start c.requires.whole
    c.loop-lists.floor
    c.loop-lists.lists.wave.items (front_of c.loop-lists.ranks c.loop-lists.firsts c.loop-lists.lists.ahead)
    (c.loop-lists.invariant.1 c.requires.ready.start c.requires.ready.ready) (sym c.are_empty.ensures
    ∙ c.loop-lists-test.true) in
    let small : c.loop-lists.floor < 2305843009213693952 = omega (arith, b.0) in (
      omega arith,
      λ s r. wave_turned (g.T.Terrain.grid c.args.t.now) s c.loop-lists.floor c.loop-lists.lists.wave.items
          c.as_slice.result.now (front_of c.loop-lists.ranks c.loop-lists.firsts c.loop-lists.lists.ahead)
          (front_of c.wave.new.ranks c.wave.new.firsts c.wave.new.ahead) small c.as_slice.ensures.value
          (c.loop-lists.invariant.1 s r) (c.in_ok-wave.ensures s) _ _ _ c.turn.ensures.wave
          c.turn.ensures.next c.turn.ensures.after,
    )
