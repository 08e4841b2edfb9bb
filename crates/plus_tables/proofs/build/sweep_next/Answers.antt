use Rattle.std.proofs.Common.{◌≡◌, ℕ, ◌+◌, ◌*◌, ◌-◌, ◌<◌, List, length, arith, ap, sym, ◌∙◌, subst}
use Rattle.std.specs.Prelude.{ℤ}
use Rattle.std.proofs.lemmas.List.{with_items_is}
use Rattle.grid_moves.specs.Grid.{GridData}
use Rattle.plus_tables.specs.Rows.{number}
use Rattle.plus_tables.specs.Sweep.{nth_row}
use Rattle.plus_tables.specs.Laid.{AreSwept}
use Rattle.plus_tables.proofs.Lining.{next_row}
use Rattle.plus_tables.proofs.Laying.{row_begins, swept_on}
use Rattle.plus_tables.proofs.build.sweep_next.Goals as goal
use borrow.Rule.Slice.PartMut.{put_mid}

pub returns-clause-swept : goal.returns-clause-swept
returns-clause-swept g c =
    let grid : GridData = g.T.Terrain.grid c.args.t.now in
    let h = c.args.heading in
    let n = c.args.n in
    let y = c.nth_row-y.result in
    let wide = c.width.result * 8 in
    let start = y * wide in
    let old = c.args.entries.now.items in
    let all = c.deref_mut.result.now in
    let at : y ≡ nth_row h grid.height n =
    c.nth_row-y.ensures ∙ ap (λ (m : ℕ). nth_row h m n) c.height.ensures.is in
    let begins : start ≡ y * grid.width * 8 = row_begins y c.width.result grid.width c.width.ensures.is in
    let same = λ (i : ℕ) (l : i < length old). ap (λ (es : List ℤ). number es i) c.deref_mut.ensures.value
    ∙ c.in_ok-make_room.ensures.kept i l in
    let long = c.deref_mut.ensures.len in
    let room = c.in_ok-make_room.ensures.room in
    let now = put_mid start (start + wide - start) all c.sweep_row.new.row in
    subst (λ (es : List ℤ). AreSwept grid h (n + 1) es)
    (sym (with_items_is c.make_room.new.entries now (omega arith)))
    (swept_on grid h n y start (start + wide - start) old all c.sweep_row.new.row c.requires.inside at
    c.requires.swept same
    (λ l. let e = c.in_ok-make_room.ensures.grown (omega (arith, l)) in omega (arith, e, long))
    (λ l. let e = c.in_ok-make_room.ensures.stays (omega (arith, l)) in omega (arith, e, long))
    begins (omega (arith, c.width.ensures.is)) (omega (arith, room, long)) c.sweep_row.ensures.swept)

pub returns-clause-kept : goal.returns-clause-kept
returns-clause-kept g c = λ more.
    let grid : GridData = g.T.Terrain.grid c.args.t.now in
    let h = c.args.heading in
    c.sweep_row.ensures.kept (nth_row h grid.height (c.args.n + 1))
    (next_row h grid.height c.args.n c.nth_row-y.result more
    (c.nth_row-y.ensures ∙ ap (λ (m : ℕ). nth_row h m c.args.n) c.height.ensures.is))
