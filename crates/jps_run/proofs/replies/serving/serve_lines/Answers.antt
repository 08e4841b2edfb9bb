use Rattle.std.proofs.Common.{◌≡◌, ◌≤◌, refl, length, Bool, true, false, inr, arith}
use Rattle.std.specs.Prelude.{MatchBool}
use Rattle.jps_run.specs.ServeLoop.{serve_stops}
use Rattle.line_work.proofs.Stopping.{follow-same, passed}
use Rattle.jps_run.proofs.Serving.{serving-begun, too-many}
use Rattle.jps_run.proofs.replies.serving.serve_lines.Goals as goal

pub turns-init : goal.turns-init
turns-init g c =
    serving-begun c.args.server.now (g.I.Source.inflow c.args.input.now) c.in_ok-buffer.buffer.items
    (g.O.Sink.outflow c.args.out.now) c.requires.fresh
    (let e : length c.in_ok-buffer.buffer.items ≡ 65536 = c.in_ok-buffer.ensures in omega arith)

pub returns-in_err-serve_more : goal.returns-in_err-serve_more
returns-in_err-serve_more g c =
    let stops = serve_stops c.args.server.now (g.I.Source.inflow c.args.input.now)
    (g.I.Source.inflow c.serve_more.new.input) (g.O.Sink.outflow c.args.out.now)
    (g.O.Sink.outflow c.serve_more.new.out) in
    record {
      served = passed _ stops stops c.from_residual-in_err-serve_more.result c.in_err-serve_more.field-0.0
          c.from_residual-in_err-serve_more.ensures.1
          (c.in_err-serve_more.ensures.served c.args.server.now
          (g.I.Source.inflow c.args.input.now) c.turns.turn
          (g.O.Sink.outflow c.args.out.now) c.turns.invariant) (follow-same stops);
    }

-- no more comes, so the other holds
no-more : (P Q : Type 0) (more : Bool) → more ≡ false → MatchBool more P Q → Q
no-more P Q true none h = absurd (cc)
no-more P Q false none h = h

pub returns-then-not-branch : goal.returns-then-not-branch
returns-then-not-branch g c = record {
  served = (
    refl,
    no-more _ _ c.in_ok-serve_more.field-0 c.if-not-branch.true
        (c.in_ok-serve_more.ensures.served c.args.server.now (g.I.Source.inflow c.args.input.now) c.turns.turn
        (g.O.Sink.outflow c.args.out.now) c.turns.invariant),
  );
}

pub returns : goal.returns
returns g c = record {
  served = inr (too-many c.args.server.now c.turns.server (g.I.Source.inflow c.args.input.now)
      (g.I.Source.inflow c.turns.input) c.turns.buffer.items c.turns.turn (g.O.Sink.outflow c.args.out.now)
      (g.O.Sink.outflow c.turns.out) c.turns.invariant
      (let all : 18446744073709551615 ≤ c.turns.turn = c.turns-test.false in omega arith));
}
