-- What a line of the walks claims.
use Rattle.std.specs.Prelude.{◌≡◌, ℕ, ◌^◌, ◌<◌, Bool, false, if◌then◌else◌, List, [], ◌∷◌, length, map, codes}
use Rattle.std.specs.Prelude.{Option, Some}
use Rattle.std.specs.Option.{option_map}
use Rattle.std.specs.Str.{bytes_eq}
use Rattle.grid_moves.specs.declared.Cell.{Cell}
use Rattle.cell_lines.specs.Parts.{point_of, points_in}
use Rattle.walk_judge.specs.declared.claims.Claimed.{Claimed}
use Rattle.walk_judge.specs.declared.claims.Claimed.TheVariants as claimed

-- the one field `none`
abbrev pub is_none : List (List ℕ) → Bool
is_none (word ∷ []) = bytes_eq word (codes "none")
is_none _ = false

-- a walk of these points
abbrev pub walk_of : List Cell → Claimed
walk_of points = claimed.Walk points

-- what fields claim that are one or more, where they are of a form
abbrev pub claimed_in : List (List ℕ) → Option Claimed
claimed_in fields = if is_none fields then Some claimed.None else option_map walk_of (points_in fields)

-- the fields claim this: the one field `none` claims that no walk exists; one or more fields claim a walk,
-- each of them the point at its place
abbrev pub AreFieldsOf : List (List ℕ) → Claimed → Type 0
AreFieldsOf fields claimed.None = fields ≡ codes "none" ∷ []
AreFieldsOf fields (claimed.Walk points) =
    (0 < length points) × (map point_of fields ≡ map (λ p. Some p) points)

-- a walk has one point or more, and fewer than 2^30
abbrev pub IsFit : Claimed → Type 0
IsFit claimed.None = Unit {0}
IsFit (claimed.Walk points) = (0 < length points) × (length points < 2 ^ 30)
