-- First the block's rows, and then what lies behind it in its columns.
use Rattle.table_repair.proofs.Mends.{ready_stays}
use Rattle.table_repair.proofs.Diagonals.{first_waits, second_waits, both_right, both_mend, wide_within}
use Rattle.table_repair.proofs.Diagonals.{rear_within, cells_few, steps_both}
use Rattle.table_repair.proofs.repair.sweep_diagonal.Goals as goal

pub sweep-changed-requires-clause-columns : goal.sweep-changed-requires-clause-columns
sweep-changed-requires-clause-columns g c =
    let a = c.args in
    wide_within a.grid.now a.rows a.columns a.by a.d
    c.requires.diagonal c.columns_in_reach-wide.ensures c.rows_behind-rear.ensures c.requires.block

pub sweep-changed-requires-clause-waits : goal.sweep-changed-requires-clause-waits
sweep-changed-requires-clause-waits g c =
    let a = c.args in
    first_waits a.grid.now a.rows a.columns a.by a.d c.requires.diagonal c.columns_in_reach-wide.ensures
    c.rows_behind-rear.ensures c.requires.waits

pub sweep-requires-clause-ready : goal.sweep-requires-clause-ready
sweep-requires-clause-ready g c = ready_stays c.sweep-changed.ensures.mends c.requires.ready

pub sweep-requires-clause-rows : goal.sweep-requires-clause-rows
sweep-requires-clause-rows g c =
    let a = c.args in
    rear_within a.grid.now a.rows a.columns a.by a.d
    c.requires.diagonal c.columns_in_reach-wide.ensures c.rows_behind-rear.ensures c.requires.block

pub sweep-requires-clause-waits : goal.sweep-requires-clause-waits
sweep-requires-clause-waits g c =
    let a = c.args in
    second_waits a.grid.now a.rows a.columns a.by a.d c.requires.diagonal
    c.columns_in_reach-wide.ensures c.rows_behind-rear.ensures c.requires.waits
    c.sweep-changed.ensures.sweeps

pub returns-clause-mends : goal.returns-clause-mends
returns-clause-mends g c =
    let a = c.args in
    both_mend a.grid.now a.rows a.columns a.by a.d c.requires.diagonal c.columns_in_reach-wide.ensures
    c.rows_behind-rear.ensures c.sweep-changed.ensures.mends c.sweep.ensures.mends

pub returns-clause-right : goal.returns-clause-right
returns-clause-right g c =
    let a = c.args in
    both_right a.grid.now a.rows a.columns a.by a.d c.requires.diagonal c.columns_in_reach-wide.ensures
    c.rows_behind-rear.ensures c.requires.waits c.sweep-changed.ensures.sweeps c.sweep.ensures.sweeps

pub returns-clause-steps : goal.returns-clause-steps
returns-clause-steps g c =
    let a = c.args in
    steps_both a.steps.now c.sweep-changed.new.steps c.sweep.new.steps c.sweep-changed.result
    c.sweep.result
    _ _ _ c.sweep-changed.ensures.steps c.sweep.ensures.steps
    (cells_few a.grid.now a.rows a.columns a.by a.d c.requires.diagonal c.columns_in_reach-wide.ensures
    c.rows_behind-rear.ensures c.requires.block)
