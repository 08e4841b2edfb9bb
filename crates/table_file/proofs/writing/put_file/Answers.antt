use Rattle.std.proofs.Common.{◌≡◌, ◌∙◌, ◌++◌, Result, refl, flat_map}
use Rattle.std.specs.Prelude.{OnErr, OnOk, Ok, Err}
use Rattle.std.proofs.lemmas.Result.{IfOk-from_err}
use Rattle.table_file.specs.Encoding.{entry_bytes, head_bytes}
use Rattle.text_line.proofs.Begun.{begins_same, begins_then}
use Rattle.table_file.proofs.Putting.{file_put, on_err}
use Rattle.table_file.proofs.writing.put_file.Goals as goal

on_err_then : {T E P Q : Type 0} (answer : Result T E) → (P → Q) → OnErr answer P → OnErr answer Q
on_err_then (Ok v) h p = tt
on_err_then (Err e) h p = h p

on_ok : {T E P Q : Type 0} (answer : Result T E) → (P → Q) → OnOk answer P → OnOk answer Q
on_ok (Ok v) h p = h p
on_ok (Err e) h p = tt

pub returns-clause-ok : goal.returns-clause-ok
returns-clause-ok c =
    let head : c.put_head.new.out.items
    ≡ c.args.out.now.items ++ head_bytes c.args.corner c.args.land.now.width c.args.land.now.height =
    rw (c.in_ok-put_head.ensures.ok, c.in_ok-reserve.ensures.items, c.width.ensures.is, c.height.ensures)
    refl in
    let first : c.put_entries.new.out.items
    ≡ c.put_head.new.out.items ++ flat_map entry_bytes c.args.land.now.entries =
    rw (c.in_ok-put_entries.ensures.ok, c.entries-first.ensures.entries) refl in
    on_ok c.put_entries-2.result (λ last. file_put c.args.out.now.items _ _ _ _ _ _ head first
    (rw (last, c.entries-second.ensures.entries) refl)) c.put_entries-2.ensures.ok

pub returns-in_err-reserve-clause-ok : goal.returns-in_err-reserve-clause-ok
returns-in_err-reserve-clause-ok c =
    IfOk-from_err c.from_residual.result _ c.from_residual.ensures.0

pub returns-in_err-reserve-clause-err : goal.returns-in_err-reserve-clause-err
returns-in_err-reserve-clause-err c =
    on_err c.from_residual.result
    (begins_same c.args.out.now.items c.reserve.new.self.items c.reserve.ensures.items)

pub returns-in_err-put_head-clause-ok : goal.returns-in_err-put_head-clause-ok
returns-in_err-put_head-clause-ok c =
    IfOk-from_err c.from_residual-in_err-put_head.result _ c.from_residual-in_err-put_head.ensures.0

pub returns-in_err-put_head-clause-err : goal.returns-in_err-put_head-clause-err
returns-in_err-put_head-clause-err c =
    on_err c.from_residual-in_err-put_head.result
    (begins_same c.args.out.now.items c.put_head.new.out.items
    (c.in_err-put_head.ensures.err ∙ c.reserve.ensures.items))

pub returns-in_err-put_entries-clause-ok : goal.returns-in_err-put_entries-clause-ok
returns-in_err-put_entries-clause-ok c =
    IfOk-from_err c.from_residual-in_err-put_entries.result _ c.from_residual-in_err-put_entries.ensures.0

pub returns-in_err-put_entries-clause-err : goal.returns-in_err-put_entries-clause-err
returns-in_err-put_entries-clause-err c =
    on_err c.from_residual-in_err-put_entries.result
    (begins_then c.args.out.now.items c.put_head.new.out.items c.put_entries.new.out.items
    (begins_then c.args.out.now.items c.reserve.new.self.items c.put_head.new.out.items
    (begins_same c.args.out.now.items c.reserve.new.self.items c.reserve.ensures.items)
    (_, c.in_ok-put_head.ensures.ok))
    c.in_err-put_entries.ensures.err)

pub returns-clause-err : goal.returns-clause-err
returns-clause-err c =
    on_err_then c.put_entries-2.result
    (begins_then c.args.out.now.items c.put_entries.new.out.items c.put_entries-2.new.out.items
    (begins_then c.args.out.now.items c.put_head.new.out.items c.put_entries.new.out.items
    (begins_then c.args.out.now.items c.reserve.new.self.items c.put_head.new.out.items
    (begins_same c.args.out.now.items c.reserve.new.self.items c.reserve.ensures.items)
    (_, c.in_ok-put_head.ensures.ok))
    (_, c.in_ok-put_entries.ensures.ok))) c.put_entries-2.ensures.err
