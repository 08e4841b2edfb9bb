use Rattle.std.proofs.Common.{◌≡◌, Option, Some, None, arith}
use Rattle.std.specs.Prelude.{MatchOption}
use Rattle.jps_run.proofs.Incomings.{starved-first, hearing-begun}
use Rattle.jps_run.proofs.HeardCounts.{rising-begun}
use Rattle.line_work.proofs.Stopping.{follow-same, passed}
use Rattle.jps_run.specs.Hearing.{AllIsHeard, hear_stops}
use Rattle.jps_run.proofs.replies.hearing.hear.Goals as goal

pub returns-in_err-buffer-clause-heard : goal.returns-in_err-buffer-clause-heard
returns-in_err-buffer-clause-heard g c = grind (arith, starved-first)

pub turns-init : goal.turns-init
turns-init g c = grind (arith, hearing-begun, rising-begun)

pub returns-in_err-status-clause-heard : goal.returns-in_err-status-clause-heard
returns-in_err-status-clause-heard g c =
    let job = c.args.job.now in
    let input = g.I.Source.inflow c.args.input.now in
    let before = g.O.Sink.outflow c.args.out.now in
    let stops = hear_stops job input (g.I.Source.inflow c.turn.new.input) before
    (g.O.Sink.outflow c.turn.new.out) in
    passed (AllIsHeard job input before (g.O.Sink.outflow c.turn.new.out)) stops stops
    c.from_residual-in_err-status.result c.in_err-status.field-0.0 c.from_residual-in_err-status.ensures.1
    (c.in_err-status.ensures.heard job input before c.turns.invariant.hearing) (follow-same stops)

some_matched : {T : Type 0} (P : Type 0) (Q : T → Type 0) (o : Option T) (x : T) → o ≡ Some x
    → MatchOption o P Q
    → Q x
some_matched P Q (Some y) x is m = grind arith
some_matched P Q None x is m = absurd (cc)

pub returns-in-Some-clause-heard : goal.returns-in-Some-clause-heard
returns-in-Some-clause-heard g c = some_matched _ _ c.in_ok-status.field-0 c.in-Some.status c.in-Some.is
    (c.in_ok-status.ensures.heard c.args.job.now (g.I.Source.inflow c.args.input.now)
    (g.O.Sink.outflow c.args.out.now) c.turns.invariant.hearing)

pub returns-in-Some-clause-rose : goal.returns-in-Some-clause-rose
returns-in-Some-clause-rose g c = some_matched _ _ c.in_ok-status.field-0 c.in-Some.status c.in-Some.is
    (c.in_ok-status.ensures.rose c.args.job.now (g.I.Source.inflow c.args.input.now).left c.args.steps.now
    c.turns.invariant.rising)
