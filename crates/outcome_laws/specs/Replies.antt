-- What is settled of the reply to a query, however queries are answered.
use Rattle.std.specs.Prelude.{◌≡◌}
use Rattle.grid_moves.specs.declared.Cell.{Cell}
use Rattle.grid_moves.specs.Layers.{Layers}
use Rattle.jps_run.specs.Drill.{finding_of}
use Rattle.jps_run.specs.Replies.{AreRight, By}
use Rattle.jps_run.specs.Who.{replies_by}
use Rattle.outcome_laws.specs.Alike.{way_of}

-- it is right
abbrev pub RepliesAreRight : Type 0
RepliesAreRight = AreRight replies_by

-- two that answer in one way have one reply: the same points, cost and taken states
abbrev pub AlikeReplyTheSame : Type 0
AlikeReplyTheSame = (by other : By) (ls : Layers) (s t : Cell) → way_of by ≡ way_of other
    → replies_by by ls s t ≡ replies_by other ls s t

-- replies come to the same, whoever answers: an end lies outside, an end is blocked, no walk leads there, or
-- what a walk costs
abbrev pub RepliesCostTheSame : Type 0
RepliesCostTheSame = (by other : By) (ls : Layers) (s t : Cell)
    → finding_of (replies_by by ls s t) ≡ finding_of (replies_by other ls s t)
