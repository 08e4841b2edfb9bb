use Rattle.std.proofs.Common.{rules}
use Rattle.line_feed.proofs.Cuts.{cut-nil}
use Rattle.line_feed.proofs.feed.LineFeed.new.Goals as goal

pub returns : goal.returns
returns c = rw cut-nil (search rules)
