use Rattle.std.proofs.lemmas.Bool.Decides.{nat_tests}
use Rattle.std.proofs.Common.{◌<◌, arith, ap, refl}
use Rattle.grid_moves.specs.declared.Dir.TheVariants.{E, W}
use Rattle.grid_moves.specs.Grid.{GridData}
use Rattle.plus_tables.specs.declared.heading.Heading.{Heading}
use Rattle.plus_tables.specs.Sweep.{is_swept}
use Rattle.plus_tables.proofs.Lining.{seen_as, taken}
use Rattle.plus_tables.proofs.Alike.{alike_along}
use Rattle.plus_tables.proofs.lines.bring_along.Goals as goal

pub returns-then-are_alike : goal.returns-then-are_alike
returns-then-are_alike g c =
    let grid : GridData = g.T.Terrain.grid c.args.t.now in
    let last = c.args.last.now in
    let ready = c.requires.ready.0 in
    let below = c.has_ahead.ensures c.if-has_ahead.true ready.rows.ahead ready.rows.ahead_is in
    let high : ready.rows.ahead < grid.height = omega (arith, below, c.height.ensures.is) in
    let along = alike_along grid c.requires.whole c.args.y c.args.band.now last
    (c.are_alike.ensures c.if-are_alike.true) c.args.heading ready c.requires.ready.1 high in
    grind (arith, nat_tests)

pub returns-in-Upwards : goal.returns-in-Upwards
returns-in-Upwards g c =
    let band = c.args.band.now in
    let around = seen_as (g.T.Terrain.grid c.args.t.now) c.args.heading c.args.y band.next.items
    band.here.items band.back.items _ _ _ c.deref.ensures.value c.deref-in-Upwards.ensures.value
    c.deref-in-Upwards-2.ensures.value c.requires.ready.1 in (
      c.make_one_along.ensures c.args.heading c.args.y around,
      c.make_one_along-in-Upwards.ensures c.args.heading c.args.y around,
    )

pub returns-in-Downwards : goal.returns-in-Downwards
returns-in-Downwards g c =
    let grid : GridData = g.T.Terrain.grid c.args.t.now in
    let h = c.args.heading in (
      taken grid h c.args.y c.args.row.now c.take_along.new.east E refl
          (ap (λ (h : Heading). is_swept h E) c.in-Downwards.is) c.requires.right
          (λ x below. c.take_along.ensures.east x (omega (arith, c.requires.east, below))),
      taken grid h c.args.y c.args.row.now c.take_along.new.west W refl
          (ap (λ (h : Heading). is_swept h W) c.in-Downwards.is) c.requires.right
          (λ x below. c.take_along.ensures.west x (omega (arith, c.requires.east, below))),
    )
