use Rattle.std.proofs.Common.{◌≡◌, ◌-◌, length}
use Rattle.search_core.specs.Counting.{IsCountedSoFar}
use Rattle.search_core.specs.Jumping.{HasReached}
use Rattle.search_core.specs.Serving.{OnEach}
use Rattle.search_core.proofs.searching.run.Given as goal

-- the states so far were taken, and the counter rose as all but the last ask
abbrev pub invariant-taking : goal.invariant-taking
invariant-taking g l = record {
  reached : OnEach (g.J.JumpSource.StandsFor l.j) l.query.from l.query.to
      (λ x. HasReached l.query.layout x l.query.from l.query.to l.at l.space l.taken);
  counted : IsCountedSoFar (g.J.JumpSource.most l.j) (g.J.JumpSource.fewest l.j).allowed l.taken
      l.initial.steps l.steps;
  places : l.space.places ≡ l.initial.space.places;
}

abbrev pub decreases-taking : goal.decreases-taking
decreases-taking g l = 150994944 - length l.taken
