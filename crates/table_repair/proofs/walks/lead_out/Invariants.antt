-- The walks that are left, and what all rounds so far changed and counted.
use Rattle.std.proofs.Common.{length}
use Rattle.table_repair.specs.Abreast.{is_at_one, room_of}
use Rattle.table_repair.proofs.Rounds.{Queued}
use Rattle.table_repair.proofs.walks.lead_out.Given as goal

abbrev pub invariant-round : goal.invariant-round
invariant-round g l = Queued l.grid l.d (is_at_one l.fn.walks.items) l.fn.tables l.tables l.fn.steps l.steps
    (length l.fn.walks.items) (room_of l.grid l.d l.fn.walks.items) l.walks.items l.changed

abbrev pub decreases-round : goal.decreases-round
decreases-round g l = room_of l.grid l.d l.walks.items
