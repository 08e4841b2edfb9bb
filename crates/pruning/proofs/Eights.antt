-- Lists of allowed directions, one for each place.
use Rattle.std.proofs.Common.{◌≡◌, ℕ, ◌+◌, ◌*◌, ◌/◌, ◌%◌, ◌<◌, ◌≤◌, ◌⊎◌, inl, inr, arith, ap, ◌∙◌}
use Rattle.std.proofs.Common.{List, [], ◌∷◌, ◌++◌, length-append, get_or}
use Rattle.std.proofs.lemmas.Bool.{cases_lt}
use Rattle.std.proofs.lemmas.List.{get_or_append_left, get_or_default, get_or_push}
use Rattle.grid_moves.specs.declared.Corner.{Corner}
use Rattle.grid_moves.specs.declared.Dir.{Dir}
use Rattle.pruning.specs.declared.Arrival.{Arrival}
use Rattle.pruning.specs.Eight.{ring_of}
use Rattle.pruning.specs.Numbered.{AreAllowed, allowed_at, arrival_of}
use Rattle.pruning.specs.Ring.{allowed_on}

-- one list more
pub one_more : (corner : Corner) (n : ℕ) (lists : List (List Dir)) (next : List Dir)
    → next ≡ allowed_at corner n → AreAllowed corner n lists → AreAllowed corner (n + 1) (lists ++ next ∷ [])
one_more corner n lists next is so_far = record {
  as_many = length-append lists (next ∷ []) ∙ ap (λ (m : ℕ). m + 1) so_far.as_many;
  each = λ place below. by_place place below (cases_lt place n);
}
  where
    by_place : (place : ℕ) → place < n + 1 → (place < n) ⊎ (n ≤ place)
        → get_or (lists ++ next ∷ []) place [] ≡ allowed_at corner place
    by_place place below (inl l) =
        get_or_append_left lists (next ∷ []) [] place (rw so_far.as_many l) ∙ so_far.each place l
    by_place place below (inr l) =
        let last : n ≡ place = omega (arith, below, l) in
        get_or_push lists next [] place (so_far.as_many ∙ last) ∙ is
        ∙ ap (λ (m : ℕ). allowed_at corner m) last

-- the list of eight bits and an arrival
pub at_eight : (corner : Corner) (lists : List (List Dir)) (number eight : ℕ) (by : Arrival)
    (other : List Dir) → AreAllowed corner 2304 lists → number < 9 → eight < 256 → arrival_of number ≡ by
    → get_or lists (number * 256 + eight) other ≡ allowed_on corner (ring_of eight) by
at_eight corner lists number eight by other all few small is =
    let within : (number * 256 + eight) % 256 ≡ eight = omega (arith, few, small) in
    let which : (number * 256 + eight) / 256 ≡ number = omega (arith, few, small) in
    let below : number * 256 + eight < 2304 = omega (arith, few, small) in
    get_or_default lists (number * 256 + eight) other [] (rw all.as_many below)
    ∙ all.each (number * 256 + eight) below
    ∙ ap (λ (n : ℕ). allowed_on corner (ring_of n) (arrival_of ((number * 256 + eight) / 256))) within
    ∙ ap (λ (n : ℕ). allowed_on corner (ring_of eight) (arrival_of n)) which
    ∙ ap (λ (a : Arrival). allowed_on corner (ring_of eight) a) is
