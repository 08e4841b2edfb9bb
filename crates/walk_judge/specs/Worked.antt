-- Worked rows of the form, by computing.
use Rattle.std.specs.Prelude.{◌≡◌, [], ◌∷◌, codes, refl, Ok, Err}
use Rattle.walk_judge.specs.declared.fault.WalkFault.TheVariants.{Line, Count}
use Rattle.walk_judge.specs.declared.claims.Claimed.TheVariants as claimed
use Rattle.cell_lines.specs.Parts.{point_of}
use Rattle.walk_judge.specs.Walks.{walks_of}

-- a walk and none, with a blank line, a carriage return, blanks before and behind, and no last line feed
pub two_claimed : walks_of (codes " 0,0\t2,0\r\n \nnone ") 2 ≡ Ok
    (claimed.Walk (record { x = 0; y = 0 } ∷ record { x = 2; y = 0 } ∷ []) ∷ claimed.None ∷ [])
unfolding walks_of point_of
two_claimed = refl

-- no entry and no line
pub nothing_claimed : walks_of (codes "\n\n") 0 ≡ Ok []
unfolding walks_of point_of
nothing_claimed = refl

-- a line is missing: the one behind the last is named, and blank lines count
pub too_few : walks_of (codes "none\n\nnone\n") 3 ≡ Err (Count 4)
unfolding walks_of point_of
too_few = refl

-- one is too many, also where it is misspelt
pub too_many : walks_of (codes "none\n\nnobody\n") 1 ≡ Err (Count 3)
unfolding walks_of point_of
too_many = refl

-- a misspelt line before the end goes before a missing one
pub misspelt : walks_of (codes "0,0 2,0\n0,0 1;1\n") 6 ≡ Err (Line 2)
unfolding walks_of point_of
misspelt = refl

pub none_and_more : walks_of (codes "none 0,0\n") 1 ≡ Err (Line 1)
unfolding walks_of point_of
none_and_more = refl
