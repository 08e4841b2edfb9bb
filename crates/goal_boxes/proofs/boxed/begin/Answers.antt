use Rattle.std.proofs.Common.{◌∙◌, ap, List, ℕ, [], ◌∷◌, ◌++◌}
use Rattle.plain_search.proofs.Concluding.{on_ok, begins}
use Rattle.goal_boxes.proofs.Moves.{boxed_asked}
use Rattle.goal_boxes.proofs.boxed.begin.Goals as goal

pub returns-clause-taken : goal.returns-clause-taken
returns-clause-taken g c =
    let grid = g.T.Terrain.grid c.args.t.now in
    on_ok c.push.result c.push.ensures.pushed (λ p.
    begins (boxed_asked grid g.K.Meant.boxes c.args.ends.from c.args.ends.to c.width.ensures.whole
    c.requires.from
    c.requires.to) c.in_ok-begin.ensures.begun
    (p ∙ ap (λ (ns : List ℕ). ns ++ c.state_at.result ∷ []) c.requires.none
    ∙ ap (λ (n : ℕ). n ∷ []) c.state_at.ensures))
