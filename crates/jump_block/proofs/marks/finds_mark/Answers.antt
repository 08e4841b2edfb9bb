use Rattle.std.proofs.Common.{◌+◌, arith, sym, ◌∙◌, subst}
use Rattle.jump_block.specs.declared.word.Way.{Way}
use Rattle.jump_block.specs.Trail.{begun, trail_on}
use Rattle.jump_block.specs.Scan.{MeetsMark, looked}
use Rattle.jump_block.proofs.Around.{found_some, words_trail}
use Rattle.jump_block.proofs.marks.finds_mark.Goals as goal

pub returns-then-is_some-clause-finds : goal.returns-then-is_some-clause-finds
returns-then-is_some-clause-finds g c = λ free start. (
  looked 0 c.halt_near-found.result,
  c.is_mark.ensures _ _ (found_some _ _ c.halt_near-found.result (sym c.is_some.ensures ∙ c.if-is_some.true)
      (c.halt_near-found.ensures.halts _ (words_trail free c.args.way c.args.line c.args.place c.args.place _
      (c.requires.near free start)))),
  omega arith,
)

pub finds_next-requires-clause-clear : goal.finds_next-requires-clause-clear
finds_next-requires-clause-clear g c = λ free start.
    rw c.in-Forward.is at (c.halt_near-found.ensures.clear (sym c.is_some.ensures ∙ c.if-is_some.false) _
    (words_trail free c.args.way c.args.line c.args.place c.args.place _ (c.requires.near free start)))

pub finds_next-requires-in-Back-clause-clear : goal.finds_next-requires-in-Back-clause-clear
finds_next-requires-in-Back-clause-clear g c = λ free start.
    rw c.in-Back.is at (c.halt_near-found.ensures.clear (sym c.is_some.ensures ∙ c.if-is_some.false) _
    (words_trail free c.args.way c.args.line c.args.place c.args.place _ (c.requires.near free start)))

pub returns-in-Forward-clause-finds : goal.returns-in-Forward-clause-finds
returns-in-Forward-clause-finds g c = λ free start.
    subst (λ (w : Way). MeetsMark c.args.rule (begun c.args.rule (trail_on free w c.args.line c.args.place))
    (c.args.steps.now + 3) c.finds_next.new.steps c.finds_next.result)
    (sym c.in-Forward.is) (c.finds_next.ensures.finds free start)

pub returns-in-Back-clause-finds : goal.returns-in-Back-clause-finds
returns-in-Back-clause-finds g c = λ free start.
    subst (λ (w : Way). MeetsMark c.args.rule (begun c.args.rule (trail_on free w c.args.line c.args.place))
    (c.args.steps.now + 3) c.finds_next-in-Back.new.steps c.finds_next-in-Back.result)
    (sym c.in-Back.is) (c.finds_next-in-Back.ensures.finds free start)
