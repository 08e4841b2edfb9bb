-- Heights are ranks of potentials: a move climbs where it raises the potential by more than its cost.
use Rattle.std.proofs.lemmas.Grind.{common_steps}
use Rattle.std.proofs.Common.{◌≡◌, ℕ, ◌^◌, ◌<◌, ◌≤◌, inl, inr, arith, refl, ap, sym, ◌∙◌, true, List, [], ◌∷◌}
use Rattle.std.specs.Prelude.{ℤ, pos, ◌-ℤ◌, if◌then◌else◌, map}
use Rattle.std.specs.List.{list_all}
use Rattle.std.specs.Int.Signed.{lt_z}
use Rattle.std.specs.Int.RustNames.{unsigned_abs}
use Rattle.std.proofs.lemmas.Int.{ints}
use Rattle.std.proofs.lemmas.Bool.{and_parts, cases_Bool, ltb-true}
use Rattle.std.proofs.lemmas.Bool.Decides.{nat_tests, same_from_decides}
use Rattle.root2_cost.specs.declared.Cost.{Cost}
use Rattle.root2_cost.specs.declared.Signed.{Signed}
use Rattle.root2_cost.specs.Laws.{HasShortSides}
use Rattle.root2_cost.specs.Rank.{rank_of, signed_rank}
use Rattle.root2_cost.specs.Signed.{signed_of, add_signed, cost_difference, is_signed_less}
use Rattle.root2_cost.proofs.Differences.{signed_rank-more, signed_ranks, signed_ranks_less}
use Rattle.grid_moves.specs.declared.Cell.{Cell}
use Rattle.grid_moves.specs.Move.{is_same, move_cost}
use Rattle.grid_moves.specs.Points.{apart, estimate}
use Rattle.grid_moves.proofs.Walks.{move_counts}
use Rattle.potential_check.specs.Certificate.{cells_of, is_small, is_short}
use Rattle.potential_check.specs.Potential.{is_listed, potential_of, rises}
use Rattle.potential_check.specs.Accepted.{leaves}
use Rattle.potential_check.specs.Rising.{cells_in, climbs, height_of, is_steep}

-- the heights of listed values, and of those that are not listed
abbrev pub ranked : List (Cell × Cost) → List (Cell × ℤ)
ranked values = map (λ entry. (entry.0, signed_rank (signed_of entry.1))) values

abbrev pub rank_below : Cost → Cell → Cell → ℤ
rank_below cost goal c = signed_rank (cost_difference cost (estimate c goal))

-- are the ranks of the potential
pub height-potential : (cost : Cost) (goal c : Cell) (values : List (Cell × Cost))
    → height_of (rank_below cost goal) (ranked values) c ≡ signed_rank (potential_of cost goal values c)
height-potential cost goal c [] = refl
height-potential cost goal c (e ∷ values) = elim (cases_Bool (is_same e.0 c)) [
  | inl same ↦ rw same refl
  | inr other ↦ rw other (height-potential cost goal c values)
]

pub cells-ranked : (values : List (Cell × Cost)) → cells_in (ranked values) ≡ cells_of values
cells-ranked [] = refl
cells-ranked (e ∷ values) = ap (λ cells. e.0 ∷ cells) (cells-ranked values)

-- the parts of a difference are no longer than those of the costs
short_difference : (m n k : ℕ) → m < k → n < k → unsigned_abs (pos m -ℤ pos n) < k
short_difference m n k h1 h2 = grind (arith, nat_tests, ints)

-- a potential's parts are below 10^9 in amount, and so are those with a move's cost more
record HasLowParts (s : Signed) : Type 0 where
  a : unsigned_abs s.a < 10 ^ 9
  b : unsigned_abs s.b < 10 ^ 9

low_difference : (p q : Cost) → is_small p ≡ true → q.a < 10 ^ 9 → q.b < 10 ^ 9
    → HasLowParts (cost_difference p q)
low_difference p q h1 h2 h3 = grind (arith, common_steps, short_difference)

low_cost : (p : Cost) → is_small p ≡ true → HasLowParts (signed_of p)
low_cost p small = record { a = grind (arith, nat_tests); b = grind (arith, nat_tests) }

-- the estimate between cells of a map and a goal of at most four digits
near : (m n : ℕ) → m < 4096 → n < 10000 → apart m n < 10000
near m n g h = omega arith

short_estimate : (c goal : Cell) → c.x < 4096 → c.y < 4096 → is_short goal ≡ true
    → ((estimate c goal).a < 10 ^ 9) × ((estimate c goal).b < 10 ^ 9)
short_estimate c goal h1 h2 h3 = grind (arith, nat_tests, and_parts, near, ltb-true)

low_potential : (cost : Cost) (goal c : Cell) (values : List (Cell × Cost)) → is_small cost ≡ true
    → is_short goal ≡ true → list_all (λ entry. is_small entry.1) values ≡ true → c.x < 4096 → c.y < 4096
    → HasLowParts (potential_of cost goal values c)
low_potential cost goal c [] small short all x y =
    let e = short_estimate c goal x y short in low_difference cost (estimate c goal) small e.0 e.1
low_potential cost goal c (e ∷ values) small short all x y =
    let parts = and_parts (is_small e.1) (list_all (λ entry. is_small entry.1) values) all in
    elim (cases_Bool (is_same e.0 c)) [
      | inl same ↦ rw same (low_cost e.1 parts.0)
      | inr other ↦ rw other (low_potential cost goal c values small short parts.1 x y)
    ]

-- the cost of a move is a move
one_move : (u v : Cell) → ((move_cost u v).a ≤ 1) × ((move_cost u v).b ≤ 1)
one_move u v = let one = move_counts u v in (omega arith, omega arith)

low_short : (s : Signed) → HasLowParts s → HasShortSides s
low_short s h1 = grind (arith, common_steps)

low_more : (s : Signed) (c : Cost) → HasLowParts s → (c.a ≤ 1) × (c.b ≤ 1)
    → HasShortSides (add_signed s (signed_of c))
low_more s c h1 h2 = grind (arith, common_steps, ints)

-- the order of differences is that of the ranks
less_ranked : (p q : Signed) → HasShortSides p → HasShortSides q
    → lt_z (signed_rank p) (signed_rank q) ≡ is_signed_less p q
less_ranked p q h1 h2 = grind (arith, nat_tests, same_from_decides, signed_ranks, signed_ranks_less, ints)

-- so a move between cells of a map climbs exactly where it raises the potential by more than its cost
pub climbs-rises : (cost : Cost) (goal : Cell) (values : List (Cell × Cost)) (u v : Cell) → is_small cost
    ≡ true
    → is_short goal ≡ true → list_all (λ entry. is_small entry.1) values ≡ true → u.x < 4096 → u.y < 4096
    → v.x < 4096 → v.y < 4096
    → climbs (height_of (rank_below cost goal) (ranked values)) u v
    ≡ rises (potential_of cost goal values) u v
climbs-rises cost goal values u v small short all a b c d =
    let p = potential_of cost goal values u in
    let q = potential_of cost goal values v in
    let move = move_cost u v in
    let from = height-potential cost goal u values in
    let to = height-potential cost goal v values in
    ap (λ (z : ℤ). is_steep z (rank_of move) (height_of (rank_below cost goal) (ranked values) v)) from
    ∙ ap (λ (z : ℤ). is_steep (signed_rank p) (rank_of move) z) to
    ∙ ap (λ (z : ℤ). lt_z z (signed_rank q)) (sym (signed_rank-more p move))
    ∙ less_ranked (add_signed p (signed_of move)) q
    (low_more p move (low_potential cost goal u values small short all a b) (one_move u v))
    (low_short q (low_potential cost goal v values small short all c d))

-- listed cells have the height 0, and others are out of reach
abbrev pub members : List Cell → List (Cell × ℤ)
members cells = map (λ cell. (cell, pos 0)) cells

abbrev pub out_of_reach : Cell → ℤ
out_of_reach c = pos (2 ^ 62)

pub cells-members : (cells : List Cell) → cells_in (members cells) ≡ cells
cells-members [] = refl
cells-members (c ∷ cells) = ap (λ more. c ∷ more) (cells-members cells)

height-members : (cells : List Cell) (c : Cell)
    → height_of out_of_reach (members cells) c ≡ (if is_listed cells c then pos 0 else pos (2 ^ 62))
height-members [] c = refl
height-members (d ∷ cells) c = elim (cases_Bool (is_same d c)) [
  | inl same ↦ rw same refl
  | inr other ↦ rw other (height-members cells c)
]

-- so a move climbs exactly where it leaves the listed cells
pub climbs-leaves : (cells : List Cell) (u v : Cell)
    → climbs (height_of out_of_reach (members cells)) u v ≡ leaves cells u v
climbs-leaves cells u v = grind (arith, nat_tests, height-members, one_move)
