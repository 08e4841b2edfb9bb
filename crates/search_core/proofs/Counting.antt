-- Bounds on what is counted add up.
use Rattle.std.proofs.lemmas.Bool.Decides.{nat_tests}
use Rattle.std.proofs.lemmas.Grind.{common_steps}
use Rattle.std.proofs.Common.{◌≡◌, ℕ, suc, ◌+◌, ◌≤◌, arith, List, length}
use Rattle.std.specs.Prelude.{Option, Some, None}
use Rattle.pruning.specs.Source.{StepsByCall, IsWithin}
use Rattle.search_core.specs.Counting.{IsCounted, IsCountedSoFar, IsWithinTaken}
use Rattle.best_first.specs.declared.found.Found.{Found}

-- nothing counted
pub within_none : (m : Option StepsByCall) (f : StepsByCall → ℕ) (old : ℕ) → IsWithin m f old old
within_none m f old = grind (arith, nat_tests, common_steps)

-- one bound after the other
pub within_then : (m : Option StepsByCall) (f h q : StepsByCall → ℕ) (old mid new : ℕ) → IsWithin m f old mid
    → IsWithin m h mid new → ((known : StepsByCall) → f known + h known ≤ q known) → IsWithin m q old new
within_then m f h q old mid new h1 h2 h3 = grind (arith, nat_tests, common_steps)

-- a state more
counted_more : (most : Option StepsByCall) (fewest n a b c : ℕ) → IsCounted most fewest n a b
    → IsCounted most fewest 1 b c → IsCounted most fewest (suc n) a c
counted_more most fewest n a b c h one = grind (arith, nat_tests, common_steps, within_then)

pub counted_further : {most : Option StepsByCall} {fewest : ℕ} {taken after : List ℕ} {a b c : ℕ}
    → IsCountedSoFar most fewest taken a b → length after ≡ length taken + 1 → IsCounted most fewest 1 b c
    → IsCountedSoFar most fewest after a c
counted_further {most} {fewest} {taken} {after} {a} {b} {c} h e one = record {
  gone_on = suc h.gone_on;
  one_more = (let f = h.one_more in omega arith);
  counted = counted_more most fewest h.gone_on a b c h.counted one;
}

-- what all states but the last ask is within what all ask
pub within_taken : (most : Option StepsByCall) (fewest : ℕ) (taken : List ℕ) (a b : ℕ) (f : Found)
    → IsCountedSoFar most fewest taken a b → f.taken ≡ taken → IsWithinTaken most f a b
within_taken None fewest taken a b f h e = tt
within_taken (Some known) fewest taken a b f h e = grind (arith, nat_tests, common_steps)
