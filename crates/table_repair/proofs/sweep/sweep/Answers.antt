-- The block, line by line.
use Rattle.std.proofs.Common.{sym, ◌∙◌}
use Rattle.table_repair.proofs.Across.{across_can, across_mends, across_sweeps, across_rows, across_columns}
use Rattle.table_repair.proofs.sweep.sweep.Goals as goal

pub sweep_lines-requires-clause-waits : goal.sweep_lines-requires-clause-waits
sweep_lines-requires-clause-waits g c =
    let a = c.args in
    across_can a.d a.columns a.rows a.rows a.columns
    (across_columns a.d a.rows a.columns (sym c.is_sideways.ensures ∙ c.if-is_sideways.true)) c.requires.waits

pub returns-then-is_sideways-clause-mends : goal.returns-then-is_sideways-clause-mends
returns-then-is_sideways-clause-mends g c =
    let a = c.args in
    across_mends a.d a.columns a.rows a.rows a.columns
    (across_columns a.d a.rows a.columns (sym c.is_sideways.ensures ∙ c.if-is_sideways.true))
    c.sweep_lines.ensures.mends

pub returns-then-is_sideways-clause-sweeps : goal.returns-then-is_sideways-clause-sweeps
returns-then-is_sideways-clause-sweeps g c =
    let a = c.args in
    across_sweeps a.d a.columns a.rows a.rows a.columns
    (across_columns a.d a.rows a.columns (sym c.is_sideways.ensures ∙ c.if-is_sideways.true))
    c.sweep_lines.ensures.sweeps

pub returns-else-is_sideways-clause-mends : goal.returns-else-is_sideways-clause-mends
returns-else-is_sideways-clause-mends g c =
    let a = c.args in
    across_mends a.d a.rows a.columns a.rows a.columns
    (across_rows a.d a.rows a.columns (sym c.is_sideways.ensures ∙ c.if-is_sideways.false))
    c.sweep_lines-else-is_sideways.ensures.mends

pub returns-else-is_sideways-clause-sweeps : goal.returns-else-is_sideways-clause-sweeps
returns-else-is_sideways-clause-sweeps g c =
    let a = c.args in
    across_sweeps a.d a.rows a.columns a.rows a.columns
    (across_rows a.d a.rows a.columns (sym c.is_sideways.ensures ∙ c.if-is_sideways.false))
    c.sweep_lines-else-is_sideways.ensures.sweeps
