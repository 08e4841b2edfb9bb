-- States, their numbers, and the places that stand for them.
use Rattle.std.proofs.Common.{◌≡◌, ℕ, min, ◌+◌, ◌*◌, ◌/◌, ◌%◌, ◌<◌, ◌≤◌, ◌⊎◌, inl, inr, ap}
use Rattle.std.proofs.Common.{sym, ◌∙◌, Bool, true, false, arith}
use Rattle.std.specs.Prelude.{Option}
use Rattle.std.proofs.lemmas.Bool.Decides.{nat_tests}
use Rattle.std.proofs.Math.Nat.{mul-le-mul}
use Rattle.grid_moves.specs.declared.Dir.{Dir}
use Rattle.grid_moves.specs.Move.{dir_of_number}
use Rattle.grid_moves.proofs.Legal.{same_cell, is_same-cell, is_same-itself, and_both}
use Rattle.best_first.specs.declared.state.State.{State}
use Rattle.best_first.specs.declared.state.Layout.{Layout}
use Rattle.best_first.specs.declared.state.Layout.TheVariants.{ByCell, ByArrival}
use Rattle.best_first.specs.declared.place.Place.{Place}
use Rattle.best_first.specs.State.{arrival_number, state_number, is_same_state, state_in, place_of}
use Rattle.best_first.specs.State.{state_of_place}

arrival_again : (a : Option Dir) → dir_of_number (arrival_number a) ≡ a
arrival_again a = grind (arith, nat_tests)

pub arrival_small : (a : Option Dir) → arrival_number a < 9
arrival_small a = grind (arith, nat_tests)

-- arrivals of one number are one
pub one_arrival : (a b : Option Dir) → arrival_number a ≡ arrival_number b → a ≡ b
one_arrival a b e = sym (arrival_again a) ∙ ap (λ (n : ℕ). dir_of_number n) e ∙ arrival_again b

pub same_state : (s t : State) → s.cell ≡ t.cell → s.arrival ≡ t.arrival → s ≡ t
same_state s t e f = grind (arith, nat_tests)

pub is_same_state-state : (s t : State) → is_same_state s t ≡ true → s ≡ t
is_same_state-state s t h = grind (arith, nat_tests, and_both, same_state, is_same-cell, one_arrival)

pub is_same_state-itself : (s : State) → is_same_state s s ≡ true
is_same_state-itself s = grind (arith, nat_tests, is_same-itself)

pub same_or_not : (b : Bool) → (b ≡ true) ⊎ (b ≡ false)
same_or_not b = grind (arith, nat_tests)

-- a place tells its state
pub place-again : (s : State) → s.cell.x < 4096 → state_of_place (place_of s) ≡ s
unfolding place_of state_of_place
place-again s h = grind (arith, nat_tests, arrival_small, same_state, same_cell, arrival_again)

-- the number of the arrival that a number stands for, where 8 and more stand for the start
arrival_kept : (n : ℕ) → arrival_number (dir_of_number n) ≡ min n 8
arrival_kept n = grind (arith, nat_tests)

-- rows first, then columns, then arrivals
numbers_rise : (w x y a z t b : ℕ) → x < w → z < w → a ≤ 8 → b ≤ 8
    → (y < t) ⊎ ((y ≡ t) × (x < z)) ⊎ ((y ≡ t) × (x ≡ z) × (a ≤ b))
    → (y * w + x) * 9 + a ≤ (t * w + z) * 9 + b
numbers_rise w x y a z t b h k p q (inl l) =
    let m : (y + 1) * w ≤ t * w = mul-le-mul (omega arith) (omega arith) in
    omega arith
numbers_rise w x y a z t b h k p q (inr (inl l)) = grind (arith, nat_tests)
numbers_rise w x y a z t b h k p q (inr (inr l)) = grind (arith, nat_tests)

-- the parts of the lesser place
parts_rise : (m n : ℕ) → m ≤ n
    → (m / 65536 < n / 65536)
    ⊎ ((m / 65536 ≡ n / 65536) × (m / 16 % 4096 < n / 16 % 4096))
    ⊎ ((m / 65536 ≡ n / 65536) × (m / 16 % 4096 ≡ n / 16 % 4096) × (m % 16 ≤ n % 16))
parts_rise m n l = grind (arith, nat_tests)

-- a state of no greater place has no greater number
pub places_order : (layout : Layout) (width : ℕ) (p q : Place) → (state_of_place p).cell.x < width
    → (state_of_place q).cell.x < width → p.bits ≤ q.bits
    → state_number width (state_in layout (state_of_place p))
    ≤ state_number width (state_in layout (state_of_place q))
unfolding state_of_place
places_order ByCell width p q h k l =
    numbers_rise width (p.bits / 16 % 4096) (p.bits / 65536) 8 (q.bits / 16 % 4096) (q.bits / 65536) 8 h k
    (omega arith) (omega arith) (whole (parts_rise p.bits q.bits l))
  where
    whole : {A B C D : Type 0} {a b : ℕ} → A ⊎ B ⊎ (C × D × (a ≤ b)) → A ⊎ B ⊎ (C × D × (8 ≤ 8))
    whole h1 = grind (arith, nat_tests)
places_order ByArrival width p q h k l =
    rw (arrival_kept (p.bits % 16), arrival_kept (q.bits % 16))
    (numbers_rise width (p.bits / 16 % 4096) (p.bits / 65536) (min (p.bits % 16) 8) (q.bits / 16 % 4096)
    (q.bits / 65536) (min (q.bits % 16) 8) h k (omega arith) (omega arith)
    (least (p.bits % 16) (q.bits % 16) (parts_rise p.bits q.bits l)))
  where
    least : {A B C D : Type 0} (a b : ℕ) → A ⊎ B ⊎ (C × D × (a ≤ b)) → A ⊎ B ⊎ (C × D × (min a 8 ≤ min b 8))
    least a b h1 = grind (arith, nat_tests)
