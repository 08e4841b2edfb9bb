use Rattle.std.proofs.Common.{◌≡◌, ◌+◌, ℕ, Bool, List, length, arith, ap, sym, ◌∙◌, subst}
use Rattle.std.specs.Vec.{with_items}
use Rattle.std.proofs.lemmas.List.{with_items_is}
use Rattle.grid_moves.specs.declared.Dir.TheVariants.{N}
use Rattle.grid_moves.specs.Grid.{GridData}
use Rattle.grid_moves.specs.Move.{row_ahead}
use Rattle.plus_tables.specs.Rows.{IsRowAt, dir_seen}
use Rattle.plus_tables.specs.Lines.{IsKept}
use Rattle.plus_tables.proofs.Lining.{lines_made, read_behind, row_next, kept_on, with_along}
use Rattle.plus_tables.proofs.Laying.{row_swept}
use Rattle.plus_tables.proofs.build.sweep_row.Goals as goal

pub make_all_ahead-requires-clause-ready : goal.make_all_ahead-requires-clause-ready
make_all_ahead-requires-clause-ready g c =
    let behind = read_behind c.requires.kept.ready c.read_row.ensures (omega arith) c.behind.ensures.lies in
    (c.args.heading, c.args.y, behind.0, behind.1)

pub bring_along-requires-clause-ready : goal.bring_along-requires-clause-ready
bring_along-requires-clause-ready g c =
    read_behind c.requires.kept.ready c.read_row.ensures (omega arith) c.behind.ensures.lies

pub returns-clause-swept : goal.returns-clause-swept
returns-clause-swept g c =
    let grid : GridData = g.T.Terrain.grid c.args.t.now in
    let h = c.args.heading in
    let y = c.args.y in
    let behind = read_behind c.requires.kept.ready c.read_row.ensures (omega arith) c.behind.ensures.lies in
    let ahead_right = c.make_all_ahead.ensures.ahead_right h y behind.0 behind.1 in
    let line = lines_made grid h y c.make_all_ahead.new.this c.bring_along.new.east c.bring_along.new.west
    ahead_right c.bring_along.ensures.0 c.bring_along.ensures.1 (omega arith) (omega arith) in
    row_swept grid c.requires.whole h y
    (with_along c.make_all_ahead.new.this c.bring_along.new.east c.bring_along.new.west)
    c.args.row.now c.lay.new.row line.0 line.1 c.requires.inside c.lay.ensures

pub returns-clause-kept : goal.returns-clause-kept
returns-clause-kept g c = λ m next.
    let grid : GridData = g.T.Terrain.grid c.args.t.now in
    let h = c.args.heading in
    let y = c.args.y in
    let behind = read_behind c.requires.kept.ready c.read_row.ensures (omega arith) c.behind.ensures.lies in
    let ahead_right = c.make_all_ahead.ensures.ahead_right h y behind.0 behind.1 in
    let inner = with_items c.args.rows.now.forced c.make_all_ahead.new.forced in
    let same = with_items_is inner c.bring_along.new.forced (omega arith) in
    let room : length c.bring_along.new.forced ≡ grid.width + 2 = omega (arith, c.requires.kept.forced) in
    let is = c.behind.ensures.next m next in
    subst (λ (k : ℕ). IsKept grid h k c.go_on.new.self) is
    (kept_on c.requires.kept.ready c.read_row.ensures (omega arith) c.behind.ensures.lies
    c.make_all_ahead.new.this c.bring_along.new.east c.bring_along.new.west c.go_on.new.self
    (subst (λ (k : ℕ). IsRowAt (row_ahead (dir_seen h N) k) y) (sym is) (row_next h y m next)) ahead_right
    c.bring_along.ensures.0 c.bring_along.ensures.1 c.make_all_ahead.ensures.long (omega arith) (omega arith)
    c.go_on.ensures.far c.go_on.ensures.next c.go_on.ensures.here c.go_on.ensures.back c.go_on.ensures.last
    c.go_on.ensures.this (ap (λ (r : List Bool). length r) (c.go_on.ensures.forced ∙ same) ∙ room))
