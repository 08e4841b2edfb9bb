-- Scans over several blocks.
use Rattle.std.proofs.lemmas.Grind.{common_steps}
use Rattle.std.proofs.Common.{◌≡◌, ℕ, suc, ◌+◌, ◌*◌, ◌-◌, ◌/◌, ◌<◌, ◌≤◌, ◌⊎◌, arith, Bool}
use Rattle.std.proofs.Common.{true, false, ◌&&◌, inl, inr, ap, sym, ◌∙◌, subst}
use Rattle.std.specs.Prelude.{nat_lt, nat_le, Option, Some, None, is_some}
use Rattle.std.proofs.lemmas.Bool.{cases_lt}
use Rattle.std.proofs.lemmas.Bool.Decides.{nat_tests}
use Rattle.grid_moves.specs.declared.Corner.{Corner}
use Rattle.bit_grid.specs.Bits.{LineData}
use Rattle.jump_block.specs.declared.word.Way.{Way}
use Rattle.jump_block.specs.declared.word.Way.TheVariants.{Forward, Back}
use Rattle.bit_grid.specs.declared.lines.ThreeWords.{ThreeWords}
use Rattle.jump_block.specs.declared.block.Block.{Block}
use Rattle.jump_block.specs.Trail.{Trail, IsClear, Halts, begun, along, trail_on}
use Rattle.jump_block.specs.Word.{Meets, IsBlockOf, IsAhead, moves_before, nth_word, edge_before}
use Rattle.jump_block.specs.Word.{HasNext, next_block}
use Rattle.jump_block.specs.Seek.{HasPassed}
use Rattle.jump_block.specs.declared.block.Halt.{Halt}
use Rattle.jump_block.specs.Scan.{Finds, IsStart, MeetsMark, looked, most_lanes, nearer}
use Rattle.jump_block.specs.Source.{HasFew, StopsAt, stop_of}
use Rattle.jump_block.proofs.Blocks.{own_later}

-- how many blocks past the first, and how many are left
abbrev pub distance : Way → ℕ → ℕ → ℕ
distance Forward from index = index - from / 512
distance Back from index = from / 512 - index

abbrev pub blocks_left : Way → ℕ → ℕ → ℕ
blocks_left Forward blocks index = blocks - index
blocks_left Back blocks index = index

-- the block is the first or one past it
abbrev pub IsOnWay : Way → ℕ → ℕ → Type 0
IsOnWay Forward from index = from / 512 ≤ index
IsOnWay Back from index = index ≤ from / 512

-- a halt comes after all that is clear
pub clear_halts : (rule : Corner) (t : Trail) (n passed : ℕ) (marked : Bool) → IsClear t n
    → Halts rule t passed marked → n ≤ passed
clear_halts rule t n passed marked clear here = grind (arith, nat_tests, common_steps)

-- what a scan has passed is free
last_free : (t : Trail) (n : ℕ) → t.free 0 ≡ true → IsClear t n → t.free n ≡ true
last_free t n h1 h2 = grind (arith, nat_tests, common_steps)

along_start : (way : Way) (from : ℕ) → along way from 0 ≡ from
along_start way from = grind (arith, nat_tests, common_steps)

module _ {l : LineData} {free : ℕ → ℕ → Bool} {line from : ℕ} (start : IsStart l free line from) where
  -- the start lies in a block of the line
  pub start_inside : from / 512 < l.blocks
  start_inside = by_place (cases_lt start.positions from)
    where
      by_place : (start.positions < from) ⊎ (from ≤ start.positions) → from / 512 < l.blocks
      by_place h1 = grind (arith, nat_tests, common_steps)

  -- a further block
  module _ (way : Way) (rule : Corner) (index : ℕ) (below : index < l.blocks)
      (on_way : IsOnWay way from index)
      (clear : IsClear (begun rule (trail_on free way line from))
      (moves_before way from (edge_before way (index * 512) 8))) where
    free_there : free line (along way from (moves_before way from (edge_before way (index * 512) 8))) ≡ true
    free_there = last_free (begun rule (trail_on free way line from)) _
        (ap (λ (p : ℕ). free line p) (along_start way from) ∙ start.starts) clear

    last_place : (p : ℕ) → along way from (moves_before way from (edge_before way (index * 512) 8)) ≡ p
        → free line p ≡ true
    last_place p e = ap (λ (q : ℕ). free line q) (sym e) ∙ free_there

  forward_next : (index p : ℕ) → p ≡ index * 512 + 511 → free line p ≡ true → index + 1 < l.blocks
  forward_next index p e there = grind (arith, nat_tests, common_steps)

  back_next : (index : ℕ) → free line (index * 512) ≡ true → 0 < index
  back_next index h1 = grind (arith, nat_tests, common_steps)

  pub goes_on : (way : Way) (rule : Corner) (index : ℕ) → index < l.blocks
      → IsOnWay way from index
      → IsClear (begun rule (trail_on free way line from))
      (moves_before way from (edge_before way (index * 512) 8))
      → HasNext way index × (next_block way index < l.blocks) × IsOnWay way from (next_block way index)
  goes_on Forward rule index below on_way clear =
      let few = start.short in
      let there : from + (index * 512 + 8 * 64 - (from + 1)) ≡ index * 512 + 511 = omega arith in
      let next = forward_next index _ there (free_there Forward rule index below on_way clear) in
      (omega arith, next, omega arith)
  goes_on Back rule index below on_way clear =
      let there : from - (from - (index * 512 + (8 - 8) * 64)) ≡ index * 512 = omega arith in
      let next = back_next index (last_place Back rule index below on_way clear (index * 512) there) in
      (next, omega arith, omega arith)

  -- a scan makes few moves
  few_passed : (way : Way) (rule : Corner) (passed : ℕ)
      → IsClear (begun rule (trail_on free way line from)) passed → passed < 65535
  few_passed way rule passed clear =
      by_way way (last_free (begun rule (trail_on free way line from)) passed
      (ap (λ (p : ℕ). free line p) (along_start way from) ∙ start.starts) clear)
    where
      below : (p : ℕ) → free line p ≡ true → p ≤ start.positions
      below p there = grind (arith, nat_tests, common_steps)

      by_way : (way : Way) → free line (along way from passed) ≡ true → passed < 65535
      by_way Forward there =
          let ample = start.shows.ample in
          let few = start.short in
          let inside = below (from + passed) there in
          omega arith
      by_way Back there = by_place (cases_lt passed from)
        where
          by_place : (passed < from) ⊎ (from ≤ passed) → passed < 65535
          by_place (inl h) =
              let ample = start.shows.ample in
              let few = start.short in
              let inside = below from start.starts in
              omega arith
          by_place (inr h) =
              let none : from - passed ≡ 0 = omega arith in
              grind (arith, nat_tests, common_steps)

  pub few_found : (way : Way) (rule : Corner) (to_goal : ℕ) (found : Option Halt)
      → Finds rule (begun rule (trail_on free way line from)) to_goal found → HasFew found
  few_found way rule to_goal (Some h) is = few_passed way rule h.passed is.clear
  few_found way rule to_goal None is = tt

-- where the goal is not ahead, a stop is a mark
pub shown : (rule : Corner) (passed : ℕ) (b : Bool)
    → b ≡ is_some (stop_of rule (Some (record { passed = passed; marked = b })) 0)
shown rule passed b = grind (arith, nat_tests, common_steps)

pub stop_met : (rule : Corner) (t : Trail) (old new : ℕ) (stop : Option ℕ) → StopsAt rule t 0 old new stop
    → MeetsMark rule t old new (is_some stop)
stop_met rule t old new stop its = by_found its.0 its.1 its.2 its.3
  where
    by_found : (found : Option Halt) → Finds rule t 0 found → stop ≡ stop_of rule found 0
        → new ≤ old + most_lanes (looked 0 found) → MeetsMark rule t old new (is_some stop)
    by_found (Some h) halts is most =
        (h.passed, rw (is, sym (shown rule h.passed h.marked)) halts, most)
    by_found None passes is most = absurd (let none = passes.0 in omega (arith, none))

-- blocks meet at their edges
pub edges_meet : (way : Way) (index : ℕ) → HasNext way index
    → edge_before way (next_block way index * 512) 0 ≡ edge_before way (index * 512) 8
edges_meet way index h1 = grind (arith, nat_tests, common_steps)

pub edge_ahead : (way : Way) (from index : ℕ) → IsOnWay way from index
    → IsAhead way from (edge_before way (index * 512) 8)
edge_ahead way from index h1 = grind (arith, nat_tests, common_steps)

-- a block ahead is what the begun trail has there
later_words : (way : Way) (from start n : ℕ) → IsAhead way from (edge_before way start 0) → n < 8
    → (j k : ℕ) → j < 64 → Meets way from (start + nth_word way n * 64 + j) k → (m : ℕ) × (k ≡ suc m)
later_words Forward from start n a c j k h m = (k - 1, omega arith)
later_words Back from start n a c j k h m = (k - 1, omega arith)

pub block_ahead : (t : Trail) (rule : Corner) (way : Way) (from start : ℕ) (b : Block)
    → IsAhead way from (edge_before way start 0) → IsBlockOf t way from start 0 b
    → IsBlockOf (begun rule t) way from start 0 b
block_ahead t rule way from start b ahead block n a c =
    let there = block n a c in
    record {
      middle = there.middle;
      before = own_later way rule t.before from (start + nth_word way n * 64) _
          (later_words way from start n ahead c) there.before;
      after = own_later way rule t.after from (start + nth_word way n * 64) _
          (later_words way from start n ahead c) there.after;
    }

-- how many blocks are read
pub first_distance : (way : Way) (from : ℕ) → distance way from (from / 512) ≡ 0
first_distance way from = grind (arith, nat_tests, common_steps)

pub next_distance : (way : Way) (from index : ℕ) → IsOnWay way from index → HasNext way index
    → distance way from (next_block way index) ≡ distance way from index + 1
next_distance way from index h1 h2 = grind (arith, nat_tests, common_steps)

pub passed_blocks : (way : Way) (from index : ℕ) → IsOnWay way from index
    → distance way from index * 512 ≤ moves_before way from (edge_before way (index * 512) 8)
passed_blocks way from index h1 = grind (arith, nat_tests, common_steps)

pub fewer_left : (way : Way) (blocks index : ℕ) → index < blocks → HasNext way index
    → blocks_left way blocks (next_block way index) < blocks_left way blocks index
fewer_left way blocks index h1 h2 = grind (arith, nat_tests, common_steps)

-- so many reads are within the bound
pub within_most : (to_goal passed blocks : ℕ) → blocks * 512 ≤ passed + 512
    → (0 < to_goal → blocks * 512 ≤ to_goal + 512)
    → 3 * (blocks + 1) ≤ most_lanes (nearer to_goal passed)
within_most to_goal passed blocks a b = grind (arith, nat_tests, common_steps)

-- what the test of the goal says
pub met : (to_goal n : ℕ) → (nat_lt 0 to_goal && nat_le to_goal n) ≡ true → (0 < to_goal) × (to_goal ≤ n)
met to_goal n h = (grind (arith, nat_tests), grind (arith, nat_tests))

pub not_met : (to_goal n : ℕ) → (nat_lt 0 to_goal && nat_le to_goal n) ≡ false → 0 < to_goal → n < to_goal
not_met to_goal n h k = grind (arith, nat_tests)

-- the same way, under the same rule
pub on_same : (P : Way → Corner → Type 0) {v w : Way} {r s : Corner} → v ≡ w → r ≡ s → P v r → P w s
on_same P {v} {w} {r} {s} e f p = subst (λ (c : Corner). P w c) f (subst (λ (u : Way). P u r) e p)

pub first_on_way : (way : Way) (from : ℕ) → IsOnWay way from (from / 512)
first_on_way way from = grind (arith, nat_tests, common_steps)

-- on to the next block
module _ (way : Way) (from index next : ℕ) (is : next ≡ next_block way index) (has : HasNext way index)
    (on_way : IsOnWay way from index) where
  edges_next : edge_before way (next * 512) 0 ≡ edge_before way (index * 512) 8
  edges_next = rw is (edges_meet way index has)

  pub ahead_next : IsAhead way from (edge_before way (next * 512) 0)
  ahead_next = rw edges_next (edge_ahead way from index on_way)

  pub passed_next : (t : Trail) (last : ThreeWords)
      → HasPassed t way from (edge_before way (index * 512) 8) last
      → HasPassed t way from (edge_before way (next * 512) 0) last
  passed_next t last passed = rw edges_next passed

  pub distance_next : distance way from next ≡ distance way from index + 1
  distance_next = rw is (next_distance way from index on_way has)

  -- the number of lanes that are read, and how far the goal is
  pub read_next : (steps read old : ℕ) → read ≡ steps + 3 → steps ≡ old + 3 * (distance way from index + 1)
      → read ≡ old + 3 * (distance way from next + 1)
  read_next steps read old a b = let more = distance_next in omega arith

  pub goal_next : (to_goal : ℕ) → moves_before way from (edge_before way (index * 512) 8) < to_goal
      → distance way from next * 512 ≤ to_goal + 512
  goal_next to_goal h = grind (arith, nat_tests, common_steps, distance_next, passed_blocks)

  pub most_next : (rule : Corner) (t : Trail) (to_goal passed : ℕ) (marked : Bool)
      → IsClear t (moves_before way from (edge_before way (index * 512) 8)) → Halts rule t passed marked
      → (nat_lt 0 to_goal && nat_le to_goal (moves_before way from (edge_before way (index * 512) 8))) ≡ false
      → 3 * (distance way from next + 1) ≤ most_lanes (nearer to_goal passed)
  most_next rule t to_goal passed marked clear halt unmet =
      let more = distance_next in
      let all = passed_blocks way from index on_way in
      let after = clear_halts rule t _ passed marked clear halt in
      grind (arith, nat_tests, common_steps, within_most, goal_next, not_met, more, all, after)
