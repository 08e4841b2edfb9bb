use Rattle.std.proofs.Common.{◌<◌, ◌∙◌, arith, sym, length}
use Rattle.problem_maker.specs.Tries.{most_tries}
use Rattle.problem_maker.proofs.Drawn.{drawn_kept, drawn_dropped, drawn_enough, drawn_all}
use Rattle.problem_maker.proofs.tries.draw_kept.Goals as goal
use Rattle.problem_maker.proofs.tries.draw_kept.Goals.{then-is_kept+in_ok-push, else-is_kept}

pub loop-tried-preserved : goal.loop-tried-preserved
loop-tried-preserved c =
    let more : c.loop-tried._tried < most_tries c.args.count = omega arith in
    let room : length c.loop-tried.kept.items < c.args.count = omega arith in
    elim c.if-is_kept.branch [
      | then-is_kept+in_ok-push w ↦
          rw (w.kept-is, w.in_ok-push.ensures.items)
          (drawn_kept _ _ _ _ _ _ _ _ c.loop-tried.invariant c.draw_ends-ends.result
          c.draw_ends-ends.new.generator c.draw_ends-ends.ensures more room
          (sym c.is_kept.ensures ∙ w.if-is_kept.true))
      | else-is_kept w ↦
          rw w.kept-is (drawn_dropped _ _ _ _ _ _ _ _ c.loop-tried.invariant c.draw_ends-ends.result
          c.draw_ends-ends.new.generator c.draw_ends-ends.ensures more
          (sym c.is_kept.ensures ∙ w.if-is_kept.false))
    ]

pub returns : goal.returns
returns c = drawn_all _ _ _ _ _ _ _ _ c.loop-tried.invariant (omega arith)

pub returns-then-len-count : goal.returns-then-len-count
returns-then-len-count c = drawn_enough _ _ _ _ _ _ _ _ c.loop-tried.invariant (omega arith)
