-- How long the text of a certificate is.
use Rattle.std.proofs.lemmas.Bool.Decides.{nat_tests}
use Rattle.std.proofs.Common.{◌≡◌, ℕ, ◌+◌, ◌*◌, ◌^◌, ◌≤◌, Bool}
use Rattle.std.proofs.Common.{true, List, [], ◌∷◌, length, mul-le-mul, arith}
use Rattle.std.specs.Prelude.{codes, nat_le, nat_lt}
use Rattle.std.specs.List.{list_all}
use Rattle.std.proofs.lemmas.Bool.{and_parts, ltb-true, leb-true, cases_Bool}
use Rattle.std.proofs.lemmas.List.{length-append, length-map}
use Rattle.root2_cost.specs.declared.Cost.{Cost}
use Rattle.grid_moves.specs.declared.Cell.{Cell}
use Rattle.grid_moves.specs.Grid.{cell_number}
use Rattle.grid_moves.proofs.Places.{number_below}
use Rattle.path_points.specs.Corners.{turns_after}
use Rattle.potential_check.specs.declared.certificate.Claim.{Claim}
use Rattle.potential_check.specs.declared.certificate.Claim.TheVariants.{Least, NoWalk}
use Rattle.potential_check.specs.Certificate.{are_listed, ascend_from, cells_of, is_short, is_small}
use Rattle.potential_check.specs.Certificate.{lies_inside}
use Rattle.potential_make.specs.Written.{certificate_text, claim_text, head_text, least_text, member_text}
use Rattle.potential_make.specs.Written.{point_text, texts_of, value_text}
use Rattle.potential_make.proofs.Spelled.{Fits, coordinates, cost_digits, fits_line}
use Rattle.text_line.proofs.Written.{four_digits}

-- pieces of a text
point_length : (c : Cell) → is_short c ≡ true → length (point_text c) ≤ 10
point_length c p = let d = coordinates c p in simp length-append (omega (arith, d.0.few, d.1.few))

value_length : (e : Cell × Cost) → fits_line e ≡ true → length (value_text e) ≤ 36
value_length e h1 = grind (arith, nat_tests, and_parts, coordinates, cost_digits, length-append)

member_length : (c : Cell) → is_short c ≡ true → length (member_text c) ≤ 13
member_length c p = let d = coordinates c p in simp length-append (omega (arith, d.0.few, d.1.few))

-- pieces of what passes a test, one after the other
module _ {X : Type 0} (p : X → Bool) (text : X → List ℕ) (most : ℕ)
    (short : (x : X) → p x ≡ true → length (text x) ≤ most) where
  texts_length : (xs : List X) → list_all p xs ≡ true → length (texts_of text xs) ≤ length xs * most
  texts_length [] all = omega arith
  texts_length (x ∷ xs) all =
      let parts = and_parts (p x) (list_all p xs) all in
      let first = short x parts.0 in
      let rest = texts_length xs parts.1 in
      omega (arith, length-append (text x) (texts_of text xs))

-- cells whose numbers ascend are no more than the map has
ascending_few : (width height n : ℕ) (cells : List Cell) → list_all (lies_inside width height) cells ≡ true
    → ascend_from width n cells ≡ true → n ≤ height * width → n + length cells ≤ height * width
ascending_few width height n [] inside up low = omega arith
ascending_few width height n (c ∷ cells) inside up low =
    let in_parts = and_parts (lies_inside width height c)
    (list_all (lies_inside width height) cells) inside in
    let up_parts = and_parts (nat_le n (cell_number width c))
    (ascend_from width (cell_number width c + 1) cells) up in
    let place = and_parts (nat_lt c.x width) (nat_lt c.y height) in_parts.0 in
    let below = number_below width height c (ltb-true c.x width place.0) (ltb-true c.y height place.1) in
    let first = leb-true n (cell_number width c) up_parts.0 in
    let more = ascending_few width height (cell_number width c + 1) cells in_parts.1 up_parts.1
    (omega arith) in
    omega arith

listed_few : (width height : ℕ) (cells : List Cell) → width ≤ 4096 → height ≤ 4096
    → are_listed width height cells ≡ true → length cells ≤ 16777216
listed_few width height cells w h listed =
    let parts = and_parts (list_all (lies_inside width height) cells) (ascend_from width 0 cells) listed in
    let few = ascending_few width height 0 cells parts.0 parts.1 (omega arith) in
    let most : height * width ≤ 4096 * 4096 = mul-le-mul h w in
    omega arith

-- a way turns at no more cells than it has
pub turns_few : (u : Cell) (cells : List Cell) → length (turns_after u cells) ≤ length cells
turns_few u [] = omega arith
turns_few u (v ∷ []) = omega arith
turns_few u (v ∷ w ∷ cells) = grind (arith, cases_Bool, turns_few v (w ∷ cells))

-- a claim's points are at most those of a walk of 2^24 moves
abbrev pub HasFewPoints : Claim → Type 0
HasFewPoints (Least cost points values) = length points ≤ 16777217
HasFewPoints (NoWalk cells) = Unit {0}

least_length : (cost : Cost) (points : List Cell) → is_small cost ≡ true → list_all is_short points ≡ true
    → length (least_text cost points) ≤ 10 * length points + 34
least_length cost points p q =
    let d = cost_digits cost p in
    let few = texts_length is_short point_text 10 point_length points q in
    simp length-append (omega (arith, d.0.few, d.1.few, few))

claim_length : (width height : ℕ) (claim : Claim) → width ≤ 4096 → height ≤ 4096 → Fits width height claim
    → HasFewPoints claim → length (claim_text claim) ≤ 800000000
claim_length width height (Least cost points values) w h f few =
    let first = least_length cost points f.cost_small f.points_short in
    let list = texts_length fits_line value_text 36 value_length values f.values_fit in
    let count = listed_few width height (cells_of values) w h f.listed in
    omega (
      arith,
      length-append (least_text cost points) (texts_of value_text values),
      length-map values (λ (e : Cell × Cost). e.0),
    )
claim_length width height (NoWalk cells) w h f few =
    let list = texts_length is_short member_text 13 member_length cells f.cells_short in
    let count = listed_few width height cells w h f.listed in
    omega (arith, length-append (codes "none\n") (texts_of member_text cells))

head_length : (width height : ℕ) (s t : Cell) → width ≤ 4096 → height ≤ 4096 → is_short s ≡ true
    → is_short t ≡ true → length (head_text width height s t) ≤ 60
head_length width height s t h1 h2 h3 h4 = grind (arith, nat_tests, four_digits, coordinates, length-append)

-- the whole text
pub text_length : (width height : ℕ) (s t : Cell) (claim : Claim) → width ≤ 4096 → height ≤ 4096
    → is_short s ≡ true → is_short t ≡ true → Fits width height claim → HasFewPoints claim
    → length (certificate_text width height s t claim) ≤ 2 ^ 30
text_length width height s t claim h1 h2 h3 h4 h5 h6 =
    grind (arith, nat_tests, head_length, claim_length, length-append)
