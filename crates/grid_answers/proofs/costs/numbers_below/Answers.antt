use Rattle.std.proofs.Common.{ap, sym, ◌∙◌, ◌++◌, List, [], ◌∷◌, ℕ}
use Rattle.grid_answers.proofs.Waved.{number-next}
use Rattle.grid_answers.proofs.costs.numbers_below.Goals as goal

pub loop-y-preserved : goal.loop-y-preserved
loop-y-preserved c =
    c.in_ok-push.ensures.items ∙ ap (λ (l : List ℕ). l ++ c.loop-y.y ∷ []) c.loop-y.invariant
    ∙ sym (number-next c.loop-y.y)
