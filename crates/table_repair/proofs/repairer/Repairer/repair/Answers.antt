-- The straight pass, then the diagonal one.
use Rattle.std.proofs.Common.{ap}
use Rattle.table_repair.specs.Repaired.{MapSides}
use Rattle.table_repair.proofs.Ending.{all_straight, beside_is, straight_starts, diagonal_starts, all_right}
use Rattle.table_repair.proofs.Ending.{all_counted, all_steps, three_beside, some_beside, length_is}
use Rattle.table_repair.proofs.repairer.Repairer.repair.Goals as goal

pub sweep_straight-straight-requires-clause-waits : goal.sweep_straight-straight-requires-clause-waits
sweep_straight-straight-requires-clause-waits g c =
    let a = c.args in
    let rows = beside_is a.c.y c.beside-rows.ensures (ap (λ (s : MapSides). s.height) c.self.view_is)
    c.requires.height in
    let columns = beside_is a.c.x c.beside-columns.ensures (ap (λ (s : MapSides). s.width) c.self.view_is)
    c.requires.width in
    λ d k. straight_starts c.requires.but rows columns d k

pub sweep_diagonals-requires-clause-beside : goal.sweep_diagonals-requires-clause-beside
sweep_diagonals-requires-clause-beside g c = λ d k u i.
    c.sweep_straight-straight.ensures.right d (all_straight d k) u i

pub sweep_diagonals-requires-clause-waits : goal.sweep_diagonals-requires-clause-waits
sweep_diagonals-requires-clause-waits g c =
    let a = c.args in
    let rows = beside_is a.c.y c.beside-rows.ensures (ap (λ (s : MapSides). s.height) c.self.view_is)
    c.requires.height in
    let columns = beside_is a.c.x c.beside-columns.ensures (ap (λ (s : MapSides). s.width) c.self.view_is)
    c.requires.width in
    λ d k. diagonal_starts c.requires.but rows columns c.width-width.ensures.whole c.min-by.ensures
    c.sweep_straight-straight.ensures.mends c.sweep_straight-straight.ensures.right d k

pub returns-clause-tables : goal.returns-clause-tables
returns-clause-tables g c =
    all_right c.sweep_straight-straight.ensures.mends c.sweep_diagonals.ensures.mends
    c.sweep_straight-straight.ensures.right c.sweep_diagonals.ensures.right

pub returns-clause-changed : goal.returns-clause-changed
returns-clause-changed g c =
    all_counted c.sweep_straight-straight.ensures.mends c.sweep_diagonals.ensures.mends
    c.sweep_straight-straight.ensures.right c.sweep_diagonals.ensures.right

pub returns-clause-steps : goal.returns-clause-steps
returns-clause-steps g c =
    let a = c.args in
    let rows = beside_is a.c.y c.beside-rows.ensures (ap (λ (s : MapSides). s.height) c.self.view_is)
    c.requires.height in
    let columns = beside_is a.c.x c.beside-columns.ensures (ap (λ (s : MapSides). s.width) c.self.view_is)
    c.requires.width in
    let y = a.c.y in
    let x = a.c.x in
    let h = a.grid.now.height in
    let w = a.grid.now.width in
    all_steps a.steps.now c.sweep_straight-straight.new.steps c.sweep_diagonals.new.steps
    c.sweep_straight-straight.result c.sweep_diagonals.result w h _ _
    (length_is c.beside-rows.result y h 3 rows (three_beside y h))
    (length_is c.beside-columns.result x w 3 columns (three_beside x w))
    (length_is c.beside-rows.result y h h rows (some_beside y h))
    (length_is c.beside-columns.result x w w columns (some_beside x w))
    c.sweep_straight-straight.ensures.steps c.sweep_diagonals.ensures.steps
