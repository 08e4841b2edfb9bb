use Rattle.std.proofs.Common.{arith}
use Rattle.line_feed.proofs.Kept.{without_cr-first}
use Rattle.line_feed.proofs.feed.LineFeed.hand_over.Goals as goal

pub returns-clause-line : goal.returns-clause-line
returns-clause-line c = λ begun kept. grind (arith, without_cr-first)
