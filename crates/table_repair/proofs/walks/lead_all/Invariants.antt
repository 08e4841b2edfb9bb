-- The walks that are left of the round stand where they stood, and those that went on before them.
use Rattle.table_repair.proofs.InPlace.{InPlace}
use Rattle.table_repair.proofs.walks.lead_all.Given as goal

abbrev pub invariant-loop-i : goal.invariant-loop-i
invariant-loop-i g l = InPlace l.grid l.d l.fn.tables l.tables l.fn.steps l.steps l.fn.walks.items
    l.walks.items l.onward l.i
