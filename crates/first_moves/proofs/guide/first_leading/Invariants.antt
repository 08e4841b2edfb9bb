use Rattle.std.proofs.Common.{◌≡◌, drop}
use Rattle.std.specs.List.{find}
use Rattle.first_moves.specs.Inward.{leads}
use Rattle.first_moves.proofs.guide.first_leading.Given as goal

-- none of the directions before leads on
abbrev pub invariant-loop-d : goal.invariant-loop-d
invariant-loop-d g l =
    find (leads (g.T.Terrain.grid l.t) l.waves l.c) l.dirs
    ≡ find (leads (g.T.Terrain.grid l.t) l.waves l.c) (drop l.d-index l.dirs)
