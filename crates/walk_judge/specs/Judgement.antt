-- How a claimed walk is judged.
use Rattle.std.specs.Prelude.{◌≡◌, ◌≢◌, ◌↔◌, ℕ, [], ◌∷◌, Option, Some, None, Result, Ok, Err, refl}
use Rattle.std.specs.Prelude.{if◌then◌else◌}
use Rattle.root2_cost.specs.declared.Cost.{Cost}
use Rattle.root2_cost.specs.Sums.{is_same_cost}
use Rattle.grid_moves.specs.declared.Cell.{Cell}
use Rattle.grid_moves.specs.declared.Corner.TheVariants.{Never}
use Rattle.grid_moves.specs.Examples.{pillar}
use Rattle.grid_moves.specs.Grid.{GridData}
use Rattle.grid_moves.specs.Walk.{NoWalk}
use Rattle.plain_search.specs.Costs.{IsCostTo}
use Rattle.plain_search.specs.Lists.{IsLeastCost}
use Rattle.potential_check.specs.Walks.{IsBadPoint, IsRightWalk, walk_answer}
use Rattle.walk_judge.specs.declared.judging.Judged.{Judged}
use Rattle.walk_judge.specs.declared.judging.Judged.TheVariants as judged
use Rattle.walk_judge.specs.declared.claims.Claimed.{Claimed}
use Rattle.walk_judge.specs.declared.claims.Claimed.TheVariants as claimed

-- what is claimed of the walks from s to t is judged so
abbrev pub IsJudgement : GridData → Cell → Cell → Claimed → Judged → Type 0
IsJudgement g s t claimed.None judged.NoWalk = NoWalk g s t
IsJudgement g s t claimed.None (judged.Exists least) = IsLeastCost g s t least
IsJudgement g s t (claimed.Walk points) (judged.BadWalk i) = IsBadPoint g s t points i
IsJudgement g s t (claimed.Walk points) (judged.Longer paid least) =
    IsRightWalk g s t paid points × IsLeastCost g s t least × (paid ≢ least)
IsJudgement g s t (claimed.Walk points) (judged.Least cost) =
    IsRightWalk g s t cost points × IsLeastCost g s t cost
IsJudgement g s t _ _ = ⊥

-- how points are judged, by what they come to and the least cost; without one they stand for no walk
abbrev pub judged_by : Result Cost ℕ → Option Cost → Judged
judged_by (Err i) least = judged.BadWalk i
judged_by (Ok paid) None = judged.Least paid
judged_by (Ok paid) (Some least) = if is_same_cost least paid then judged.Least paid
    else judged.Longer paid least

-- how what is claimed of the walks from s to t is judged, by the least cost, none where no walk exists
abbrev pub judgement_of : GridData → Cell → Cell → Claimed → Option Cost → Judged
judgement_of g s t claimed.None None = judged.NoWalk
judgement_of g s t claimed.None (Some least) = judged.Exists least
judgement_of g s t (claimed.Walk points) least = judged_by (walk_answer g s t points) least

-- where the least cost is this, it is judged so, and in no other way
abbrev pub JudgementsAreMade : Type 0
JudgementsAreMade = (g : GridData) (s t : Cell) (what : Claimed) (least : Option Cost) → IsCostTo g s t least
    → (how : Judged) → IsJudgement g s t what how ↔ (how ≡ judgement_of g s t what least)

-- on the map `.../.@./...`: round the pillar; along the upper row after a step to and fro; through the pillar
pub round_the_pillar : judgement_of (pillar Never) (record { x = 0; y = 0 }) (record { x = 2; y = 2 })
    (claimed.Walk (record { x = 0; y = 0 } ∷ record { x = 0; y = 2 } ∷ record { x = 2; y = 2 } ∷ []))
    (Some (record { a = 4; b = 0 })) ≡ judged.Least (record { a = 4; b = 0 })
round_the_pillar = refl

pub there_and_back : judgement_of (pillar Never) (record { x = 0; y = 0 }) (record { x = 2; y = 0 })
    (claimed.Walk (record { x = 0; y = 0 } ∷ record { x = 0; y = 1 } ∷ record { x = 0; y = 0 }
    ∷ record { x = 2; y = 0 } ∷ [])) (Some (record { a = 2; b = 0 }))
    ≡ judged.Longer (record { a = 4; b = 0 }) (record { a = 2; b = 0 })
there_and_back = refl

pub through_the_pillar : judgement_of (pillar Never) (record { x = 0; y = 0 }) (record { x = 2; y = 2 })
    (claimed.Walk (record { x = 0; y = 0 } ∷ record { x = 2; y = 2 } ∷ []))
    (Some (record { a = 4; b = 0 })) ≡ judged.BadWalk 1
through_the_pillar = refl
