use Rattle.std.proofs.Common.{◌∙◌, sym, subst, List, ℕ}
use Rattle.std.proofs.lemmas.Result.{IfOk-from_err}
use Rattle.table_file.proofs.Putting.{cell_left, put_all, put_begun, put_on, on_err}
use Rattle.text_line.specs.Writing.{Begins}
use Rattle.table_file.proofs.writing.put_entries.Goals as goal

pub loop-done-init : goal.loop-done-init
loop-done-init c = put_begun c.args.out.now.items c.args.cells c.args.entries.now c.requires

pub split_at-requires : goal.split_at-requires
split_at-requires c =
    cell_left c.args.cells c.loop-done._done c.loop-done.left.now c.loop-done.invariant.long
    c.loop-done-test.true

pub cell_bytes-bytes-requires : goal.cell_bytes-bytes-requires
cell_bytes-bytes-requires c = c.split_at.ensures.front_len

pub loop-done-preserved : goal.loop-done-preserved
loop-done-preserved c =
    put_on c.split_at.result.0.now c.split_at.result.1.now c.as_slice.result.now
    c.extend_from_slice.new.self.items
    c.loop-done.invariant c.loop-done-test.true c.split_at.ensures.front c.split_at.ensures.back
    (c.as_slice.ensures ∙ c.cell_bytes-bytes.ensures) c.in_ok-extend_from_slice.ensures.items

pub returns-in_err-extend_from_slice-clause-ok : goal.returns-in_err-extend_from_slice-clause-ok
returns-in_err-extend_from_slice-clause-ok c = IfOk-from_err c.from_residual.result _
    c.from_residual.ensures.0

pub returns-in_err-extend_from_slice-clause-err : goal.returns-in_err-extend_from_slice-clause-err
returns-in_err-extend_from_slice-clause-err c =
    on_err c.from_residual.result
    (subst (λ (l : List ℕ). Begins c.args.out.now.items l) (sym c.in_err-extend_from_slice.ensures.items)
    c.loop-done.invariant.kept)

pub returns-clause-ok : goal.returns-clause-ok
returns-clause-ok c = put_all c.loop-done.invariant c.loop-done-test.false
