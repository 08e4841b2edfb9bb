use Rattle.std.proofs.Common.{rules}
use Rattle.line_feed.proofs.Cuts.{cut-nil}
use Rattle.line_feed.proofs.Kept.{none-left, one-left, kept-nothing, not-begun, long-begun, short-begun}
use Rattle.line_feed.proofs.feed.LineFeed.end.Goals as goal
use Rattle.line_feed.proofs.feed.LineFeed.end.Goals.{else-not-self-via-then-not-self+else-is_empty}
use Rattle.line_feed.proofs.feed.LineFeed.end.Goals.{else-not-self-via-else-not-self}

pub returns-then-is_empty-clause-last : goal.returns-then-is_empty-clause-last
returns-then-is_empty-clause-last c = λ text kept.
    none-left text (not-begun c.args.self.now _ kept (search rules) (search rules))

pub returns-then-is_empty-clause-anew : goal.returns-then-is_empty-clause-anew
returns-then-is_empty-clause-anew c =
    rw cut-nil (kept-nothing c.args.self.now (search rules) (search rules))

pub returns-clause-last : goal.returns-clause-last
returns-clause-last c = λ text kept.
    one-left text _ (elim c.else-not-self.branch [
      | else-not-self-via-then-not-self+else-is_empty w ↦
          short-begun c.args.self.now _ kept (search rules) (search rules)
      | else-not-self-via-else-not-self w ↦ long-begun c.args.self.now _ kept (search rules)
    ]) (c.hand_over.ensures.line _ kept)

pub returns-clause-anew : goal.returns-clause-anew
returns-clause-anew c = rw cut-nil c.hand_over.ensures.anew
