use Rattle.std.proofs.lemmas.Bool.Decides.{nat_tests}
use Rattle.std.proofs.lemmas.Grind.{common_steps}
use Rattle.std.proofs.Common.{◌≡◌, ℕ, ◌*◌, ◌+◌, arith, ap, sym, ◌∙◌, false, true, ◌&&◌}
use Rattle.std.specs.Prelude.{nat_lt, nat_le}
use Rattle.jump_block.specs.Trail.{Trail, begun, trail_on}
use Rattle.jump_block.specs.Word.{moves_before, edge_before}
use Rattle.jump_block.proofs.Scans.{goes_on, block_ahead, first_distance, first_on_way, fewer_left}
use Rattle.jump_block.proofs.Scans.{ahead_next, passed_next, read_next, goal_next, most_next, met, not_met}
use Rattle.jump_block.proofs.Scans.{start_inside}
use Rattle.jump_block.proofs.scan.scan_on.Goals as goal

pub blocks-2-init : goal.blocks-2-init
blocks-2-init g c =
    let first = first_distance c.args.way c.args.place in
    grind (arith, nat_tests, common_steps, start_inside, first_on_way)

pub next_block-index-requires : goal.next_block-index-requires
next_block-index-requires g c =
    record {
      more = (goes_on c.requires.starts.1 c.args.way c.args.rule c.blocks-2.index
          c.blocks-2.invariant.below
          c.blocks-2.invariant.on_way
          (c.blocks-2.invariant.passed c.requires.starts.0 c.requires.starts.1).clear).0;
    }

pub read-block-requires-clause-index : goal.read-block-requires-clause-index
read-block-requires-clause-index g c =
    rw c.next_block-index.ensures (goes_on c.requires.starts.1 c.args.way c.args.rule
    c.blocks-2.index c.blocks-2.invariant.below
    c.blocks-2.invariant.on_way (c.blocks-2.invariant.passed c.requires.starts.0 c.requires.starts.1).clear).1

pub seek_whole-requires-clause-small : goal.seek_whole-requires-clause-small
seek_whole-requires-clause-small g c =
    let below = rw (← c.next_block-index.ensures) at (goes_on c.requires.starts.1 c.args.way
    c.args.rule c.blocks-2.index c.blocks-2.invariant.below
    c.blocks-2.invariant.on_way
    (c.blocks-2.invariant.passed c.requires.starts.0 c.requires.starts.1).clear).1 in
    let few = c.requires.starts.1.short in
    omega (arith, below, few)

pub seek_whole-requires-clause-ahead : goal.seek_whole-requires-clause-ahead
seek_whole-requires-clause-ahead g c =
    let on = goes_on c.requires.starts.1 c.args.way c.args.rule c.blocks-2.index
    c.blocks-2.invariant.below
    c.blocks-2.invariant.on_way (c.blocks-2.invariant.passed c.requires.starts.0 c.requires.starts.1).clear in
    grind (arith, nat_tests, common_steps, ahead_next)

pub returns-in-Halted-clause-finds : goal.returns-in-Halted-clause-finds
returns-in-Halted-clause-finds g c = λ free start.
    let t : Trail = trail_on free c.args.way c.args.line c.args.place in
    let on = goes_on start c.args.way c.args.rule c.blocks-2.index c.blocks-2.invariant.below
    c.blocks-2.invariant.on_way (c.blocks-2.invariant.passed free start).clear in
    let passed = passed_next c.args.way c.args.place c.blocks-2.index c.next_block-index.result
    c.next_block-index.ensures on.0 c.blocks-2.invariant.on_way (begun c.args.rule t) c.blocks-2.last
    (c.blocks-2.invariant.passed free start) in
    let ahead = ahead_next c.args.way c.args.place c.blocks-2.index c.next_block-index.result
    c.next_block-index.ensures on.0 c.blocks-2.invariant.on_way in
    c.in-Halted.ensures (begun c.args.rule t)
    (block_ahead t c.args.rule c.args.way c.args.place (c.next_block-index.result * 512)
    c.read-block.result ahead
    (c.read-block.ensures.shown start.count start.positions free start.shows c.args.way
    c.args.place))
    passed.edges passed.clear

pub returns-in-Halted-clause-most : goal.returns-in-Halted-clause-most
returns-in-Halted-clause-most g c =
    let free = c.requires.starts.0 in
    let start = c.requires.starts.1 in
    let t : Trail = trail_on free c.args.way c.args.line c.args.place in
    let halt = returns-in-Halted-clause-finds g c free start in
    let on = goes_on start c.args.way c.args.rule c.blocks-2.index c.blocks-2.invariant.below
    c.blocks-2.invariant.on_way (c.blocks-2.invariant.passed free start).clear in
    let unmet : (nat_lt 0 c.args.to_goal && nat_le c.args.to_goal
    (moves_before c.args.way c.args.place (edge_before c.args.way (c.blocks-2.index * 512) 8))) ≡ false =
    ap (λ (n : ℕ). nat_lt 0 c.args.to_goal && nat_le c.args.to_goal n)
    (sym c.moves_through.ensures) ∙ sym c.is_met.ensures ∙ c.blocks-2-test.true in
    let read = read_next c.args.way c.args.place c.blocks-2.index c.next_block-index.result
    c.next_block-index.ensures on.0 c.blocks-2.invariant.on_way (c.blocks-2.steps + 3) _ _
    (ap (λ (n : ℕ). n + 3) c.read-block.ensures.three_steps) c.blocks-2.invariant.read in
    let most = most_next c.args.way c.args.place c.blocks-2.index c.next_block-index.result
    c.next_block-index.ensures on.0 c.blocks-2.invariant.on_way c.args.rule (begun c.args.rule t)
    c.args.to_goal c.in-Halted.halt.passed c.in-Halted.halt.marked
    (c.blocks-2.invariant.passed free start).clear halt unmet in
    omega (arith, read, most)

pub blocks-2-smaller : goal.blocks-2-smaller
blocks-2-smaller g c =
    let on = goes_on c.requires.starts.1 c.args.way c.args.rule c.blocks-2.index
    c.blocks-2.invariant.below
    c.blocks-2.invariant.on_way (c.blocks-2.invariant.passed c.requires.starts.0 c.requires.starts.1).clear in
    grind (arith, nat_tests, common_steps, fewer_left)

pub blocks-2-preserved : goal.blocks-2-preserved
blocks-2-preserved g c =
    let unmet : (nat_lt 0 c.args.to_goal && nat_le c.args.to_goal
    (moves_before c.args.way c.args.place (edge_before c.args.way (c.blocks-2.index * 512) 8))) ≡ false =
    ap (λ (n : ℕ). nat_lt 0 c.args.to_goal && nat_le c.args.to_goal n)
    (sym c.moves_through.ensures) ∙ sym c.is_met.ensures ∙ c.blocks-2-test.true in
    let on = goes_on c.requires.starts.1 c.args.way c.args.rule c.blocks-2.index
    c.blocks-2.invariant.below
    c.blocks-2.invariant.on_way (c.blocks-2.invariant.passed c.requires.starts.0 c.requires.starts.1).clear in
    record {
      below = rw c.next_block-index.ensures on.1;
      on_way = rw c.next_block-index.ensures on.2;
      passed = λ free start.
          let t : Trail = trail_on free c.args.way c.args.line c.args.place in
          let passed = passed_next c.args.way c.args.place c.blocks-2.index
          c.next_block-index.result c.next_block-index.ensures on.0 c.blocks-2.invariant.on_way
          (begun c.args.rule t) c.blocks-2.last (c.blocks-2.invariant.passed free start) in
          let ahead = ahead_next c.args.way c.args.place c.blocks-2.index
          c.next_block-index.result c.next_block-index.ensures on.0 c.blocks-2.invariant.on_way in
          c.in-Passed.ensures (begun c.args.rule t)
          (block_ahead t c.args.rule c.args.way c.args.place (c.next_block-index.result * 512)
          c.read-block.result ahead
          (c.read-block.ensures.shown start.count start.positions free start.shows
          c.args.way c.args.place))
          passed.edges passed.clear;
      read = grind (arith, nat_tests, common_steps, read_next);
      goal = λ h. grind (arith, nat_tests, common_steps, goal_next, not_met);
    }

pub returns-clause-finds : goal.returns-clause-finds
returns-clause-finds g c = λ free start.
    let passed = (c.blocks-2.invariant.passed free start).clear in
    let is : (nat_lt 0 c.args.to_goal && nat_le c.args.to_goal
    (moves_before c.args.way c.args.place (edge_before c.args.way (c.blocks-2.index * 512) 8))) ≡ true =
    ap (λ (n : ℕ). nat_lt 0 c.args.to_goal && nat_le c.args.to_goal n)
    (sym c.moves_through.ensures) ∙ sym c.is_met.ensures ∙ c.blocks-2-test.false in
    let both = met c.args.to_goal _ is in
    (both.0, λ k h. passed k (omega (arith, h, both.1)))
