use Rattle.std.proofs.Common.{◌∙◌, ◌++◌, sym, subst, [], List, ℕ}
use Rattle.std.proofs.lemmas.Bool.{cond-true}
use Rattle.std.proofs.lemmas.Result.{err_from_is_err_and}
use Rattle.line_work.specs.Sending.{Wrote, WroteSome}
use Rattle.line_work.proofs.Pieces.{nothing, part-more}
use Rattle.line_server.proofs.Serving.{puts-both, waits-on}
use Rattle.line_server.proofs.server.put_text.Goals as goal

pub returns-then-hold-clause-put : goal.returns-then-hold-clause-put
returns-then-hold-clause-put g c =
    let held = c.args.held.now.items in (
      [],
      nothing (g.O.Sink.outflow c.args.out.now).written,
      sym (c.hold.ensures ∙ cond-true c.hold.result (held ++ c.args.text.now) held c.if-hold.true),
    )

pub returns-in_err-write_text-clause-put : goal.returns-in_err-write_text-clause-put
returns-in_err-write_text-clause-put g c =
    let held = c.args.held.now.items in
    let at = g.O.Sink.outflow c.args.out.now in
    let now = g.O.Sink.outflow c.write_text.new.out in
    let p = err_from_is_err_and c.from_residual.result c.from_residual.ensures.1 in
    let same = waits-on c.hold.result c.as_slice.result.now c.hold.new.held.items held c.args.text.now
    c.as_slice.ensures.value c.hold.ensures c.if-hold.false in
    let some = subst (λ (l : List ℕ). WroteSome at now l) same c.in_err-write_text.ensures.wrote in
    rw p.1 (some.0, part-more at.written now.written held c.args.text.now some.1)

pub returns-clause-put : goal.returns-clause-put
returns-clause-put g c =
    let held = c.args.held.now.items in
    let at = g.O.Sink.outflow c.args.out.now in
    let mid = g.O.Sink.outflow c.write_text.new.out in
    let same = waits-on c.hold.result c.as_slice.result.now c.hold.new.held.items held c.args.text.now
    c.as_slice.ensures.value c.hold.ensures c.if-hold.false in
    puts-both c.args.text.now at mid (g.O.Sink.outflow c.write_text-2.new.out) held c.clear.new.self.items
    c.write_text-2.result (subst (λ (l : List ℕ). Wrote at mid l) same c.in_ok-write_text.ensures.wrote)
    c.in_ok-write_text.ensures.later c.clear.ensures.items c.write_text-2.ensures.wrote
