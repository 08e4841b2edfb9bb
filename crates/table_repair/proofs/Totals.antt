-- How changes and steps add up over a sweep.
use Rattle.std.proofs.Common.{◌≡◌, ℕ, ◌+◌, ◌-◌, ◌*◌, ◌<◌, ◌≤◌, arith}

-- a counter that never fell
pub later_on : {old mid new : ℕ} → old ≤ mid → mid ≤ new → old ≤ new
later_on first more = omega arith

-- place by place, where one adds to what had changed
pub few_begun : (changed one place end all : ℕ) → place < end → changed + 1048577 * (end - place) ≤ all
    → one ≤ changed + 1048577 → one + 1048577 * (end - (place + 1)) ≤ all
few_begun changed one place end all l h k = omega arith

pub counted_begun : (steps now first changed one walks onward place end all : ℕ) → place < end
    → steps + walks + (end - place) ≤ first + changed + all → now + onward + changed ≤ steps + one + walks + 1
    → now + onward + (end - (place + 1)) ≤ first + one + all
counted_begun steps now first changed one walks onward place end all l counted h = omega arith

pub more_begun : {changed one : ℕ} → changed ≤ one → changed + (one - changed) ≡ one
more_begun l = omega arith

pub added : (changed n : ℕ) → changed + n - changed ≡ n
added changed n = omega arith

pub none_added : (changed : ℕ) → changed - changed ≡ 0
none_added changed = omega arith

-- line by line
pub few_entered : (changed one left rest all : ℕ) → left ≡ rest + 1
    → changed + 4294971648 * left ≤ 4294971648 * all → one ≤ 4294971648
    → changed + one + 4294971648 * rest ≤ 4294971648 * all
few_entered changed one left rest all e few h = omega arith

pub counted_entered : (steps now first changed one walks onward left rest all wide : ℕ) → left ≡ rest + 1
    → steps + walks + left * wide ≤ first + changed + all * wide → now + onward ≤ steps + one + walks + wide
    → now + onward + rest * wide ≤ first + (changed + one) + all * wide
counted_entered steps now first changed one walks onward left rest all wide e counted h = grind arith
