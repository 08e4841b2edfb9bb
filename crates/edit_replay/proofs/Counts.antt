-- The steps of a search, counted by the states of its reply.
use Rattle.std.proofs.Common.{◌≡◌, ℕ, zero, suc, ◌+◌, ◌-◌, ◌*◌, ◌<◌, ◌≤◌, List, ◌∷◌, length, map, reverse, ap}
use Rattle.std.proofs.Common.{◌∙◌, arith, refl, true}
use Rattle.std.specs.Prelude.{Option, Some, None, MatchOption}
use Rattle.std.proofs.lemmas.List.{length-map, length-reverse}
use Rattle.root2_cost.specs.declared.Cost.{Cost}
use Rattle.grid_moves.specs.declared.Cell.{Cell}
use Rattle.grid_moves.specs.declared.ends.Unsearched.{Unsearched}
use Rattle.grid_moves.specs.declared.ends.Unsearched.TheVariants as why
use Rattle.grid_moves.specs.Grid.{GridData, is_free}
use Rattle.path_points.specs.declared.points.Walk.{Walk}
use Rattle.best_first.specs.declared.state.Layout.{Layout}
use Rattle.best_first.specs.State.{state_number, arrived_in}
use Rattle.best_first.specs.Space.{SpaceData}
use Rattle.plain_search.specs.Answer as plain
use Rattle.search_core.specs.Answer.{IsFound, IsExhausted}
use Rattle.search_core.specs.Room.{HasPlaces}
use Rattle.edit_replay.specs.Counting.{RoseByStates, RoseWithin, states_taken}
use Rattle.edit_replay.specs.Found.{reply_with, reply_without}
use Rattle.edit_replay.specs.Replies.{IsJumpReply, IsRunOn}
use Rattle.edit_replay.specs.declared.engine.Engine.TheVariants.{Plain}

numbered : {A : Type 0} (number : A → ℕ) (x : A) (xs : List A)
    → length (reverse (map number (x ∷ xs))) ≡ suc (length xs)
numbered number x xs = length-reverse (map number (x ∷ xs)) ∙ length-map (x ∷ xs) number

-- a search that found a walk took a state, the last one
some_taken : (l : Layout) (g : GridData) (s t : Cell) (points : List Cell) (cost : Cost) (taken : List ℕ)
    → IsFound l g s t points cost taken → 0 < length taken
some_taken l g s t points cost taken found =
    let all : length taken ≡ suc (length found.earlier) =
    ap length found.numbered ∙ numbered (λ u. state_number g.width (arrived_in l u.parent u.state)) found.last
    found.earlier in
    omega arith

-- the last one is the goal's
but_the_last : (fewest old new n : ℕ) → 0 < n → old + n * fewest ≤ new + fewest
    → old + (n - 1) * fewest ≤ new
but_the_last fewest old new zero some rose = absurd (omega arith)
but_the_last fewest old new (suc n) some rose =
    let one : suc n * fewest ≡ n * fewest + fewest = grind arith in
    let less : suc n - 1 ≡ n = omega arith in
    rw less (omega arith)

pub rose_away : (l : Layout) (g : GridData) (s t : Cell) (walk : Option Walk) (taken : List ℕ)
    (fewest old new : ℕ)
    → MatchOption walk (IsExhausted l g s t taken) (λ v. IsFound l g s t v.points v.cost taken)
    → MatchOption walk (old + length taken * fewest ≤ new) (λ _. old + length taken * fewest ≤ new + fewest)
    → RoseByStates fewest old new (reply_with walk taken)
rose_away l g s t (Some w) taken fewest old new run rose =
    but_the_last fewest old new (length taken) (some_taken l g s t w.points w.cost taken run) rose
rose_away l g s t None taken fewest old new run rose = rose

-- all states were taken
pub all_taken : (walk : Option Walk) (taken : List ℕ) → states_taken (reply_with walk taken) ≡ length taken
all_taken (Some w) taken = refl
all_taken None taken = refl

-- the reply tells what was found by jumps
pub found_by_jumps : (l : Layout) (g : GridData) (s t : Cell) (walk : Option Walk) (taken : List ℕ)
    → MatchOption walk (IsExhausted l g s t taken) (λ v. IsFound l g s t v.points v.cost taken)
    → IsJumpReply l g s t (reply_with walk taken)
found_by_jumps l g s t (Some w) taken run = run
found_by_jumps l g s t None taken run = run

-- or by the plain engine
pub found_plainly : (g : GridData) (s t : Cell) (walk : Option Walk) (taken : List ℕ)
    → is_free g s ≡ true → is_free g t ≡ true
    → MatchOption walk (plain.IsExhausted g s t taken) (λ v. plain.IsFound g s t v.points v.cost taken)
    → IsRunOn Plain g s t (reply_with walk taken)
found_plainly g s t (Some w) taken from to run = run
found_plainly g s t None taken from to run = rw (from, to) run

-- where nothing is searched, nothing is counted
pub none_within : (most : Option ℕ) (old : ℕ) (reason : Unsearched)
    → RoseWithin most old old (reply_without reason)
none_within None old reason = tt
none_within (Some known) old why.Outside = omega arith
none_within (Some known) old why.Blocked = omega arith
none_within (Some known) old (why.Apart ends) = omega arith

pub none_away : (fewest old : ℕ) (reason : Unsearched) → RoseByStates fewest old old (reply_without reason)
none_away fewest old why.Outside = omega arith
none_away fewest old why.Blocked = omega arith
none_away fewest old (why.Apart ends) = omega arith

-- memory for a grid serves each other one of its sides
pub has_places : (g h : GridData) (width height : ℕ) (space : SpaceData) → width ≡ g.width → width ≡ h.width
    → height ≡ g.height → height ≡ h.height → HasPlaces g space → HasPlaces h space
has_places g h width height space wide wide_too high high_too places =
    record { enough = rw (← wide_too, ← high_too, wide, high) places.enough }
