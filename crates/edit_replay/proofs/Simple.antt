-- What a right answer stands for has fewer than 2^24 steps.
use Rattle.std.proofs.Common.{◌≡◌, ◌+◌, ◌^◌, ◌<◌, arith, length, ◌∷◌, List, Bool, true, false, subst}
use Rattle.std.specs.Prelude.{if◌then◌else◌, IfOk, Ok, Err}
use Rattle.std.specs.declared.result.Result.{Result}
use Rattle.root2_cost.specs.declared.Cost.{Cost}
use Rattle.grid_moves.specs.declared.Cell.{Cell}
use Rattle.grid_moves.specs.Grid.{GridData, IsGrid, is_free}
use Rattle.grid_moves.specs.Layers.{AreLayers, Layers, query_grid}
use Rattle.grid_moves.specs.Reply.{Answer, outside, blocked, none, walk, IsRight, StandsForLeast}
use Rattle.grid_moves.specs.Walk.{cost_of}
use Rattle.grid_moves.proofs.Short.{steps-cost_of, least_is_short}
use Rattle.edit_replay.specs.Replies.{IsShort, answer_of}
use Rattle.edit_replay.specs.declared.reply.Reply.{Reply}

-- whichever search found what stands for a least walk, it has fewer than 2^24 steps
pub stands_for_short : (g : GridData) (s t : Cell) (points : List Cell) (cost : Cost) → IsGrid g
    → StandsForLeast g s t points cost → cost.a + cost.b < 2 ^ 24
stands_for_short g s t points cost grid stands =
    subst (λ (c : Cost). c.a + c.b < 2 ^ 24) stands.priced (
    let steps : (cost_of (s ∷ stands.cells)).a + (cost_of (s ∷ stands.cells)).b ≡ length stands.cells
    = steps-cost_of s stands.cells in
    let fewer : length stands.cells < 2 ^ 24 = least_is_short g s t stands.cells grid stands.least in
    omega arith)

-- the grid of a query is a grid
is_grid-query : (ls : Layers) (s : Cell) → AreLayers ls → IsGrid (query_grid ls s)
is_grid-query ls s are = by_test (is_free ls.water s)
  where
    by_test : (b : Bool) → IsGrid (if b then ls.water else ls.land)
    by_test true = are.water
    by_test false = are.land

-- and so has the walk of a right answer
pub right_is_short : (ls : Layers) (s t : Cell) (answer : Answer) → AreLayers ls → IsRight ls s t answer
    → IsShort answer
right_is_short ls s t outside are right = tt
right_is_short ls s t blocked are right = tt
right_is_short ls s t none are right = tt
right_is_short ls s t (walk points cost) are right =
    stands_for_short (query_grid ls s) s t points cost (is_grid-query ls s are) right.1

pub reply_is_short : {E : Type 0} (ls : Layers) (s t : Cell) (result : Result Reply E) → AreLayers ls
    → IfOk result (λ reply. IsRight ls s t (answer_of reply))
    → IfOk result (λ reply. IsShort (answer_of reply))
reply_is_short ls s t (Ok reply) are right = right_is_short ls s t (answer_of reply) are right
reply_is_short ls s t (Err fault) are right = tt
