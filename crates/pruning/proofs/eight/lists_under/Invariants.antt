use Rattle.pruning.specs.Numbered.{AreAllowed}
use Rattle.pruning.proofs.eight.lists_under.Given as goal

-- so many lists are made
abbrev pub invariant-loop-place : goal.invariant-loop-place
invariant-loop-place l = AreAllowed l.corner l.place l.lists.items
