-- What files are known to hold, and what a read tells of it.
use Rattle.std.specs.Prelude.{◌≡◌, ℕ, ◌≤◌, List, length, take, drop, ⊤, MatchResult}
use Rattle.std.specs.declared.option.Option.{Option}
use Rattle.std.specs.declared.result.Result.{Result}

-- what stands under a name: not known, no file, or a file of these bytes
pub data Held : Type 0 where
  unknown : Held
  absent : Held
  holding : List ℕ → Held

-- what is known of files: what stands under each name, and how many reads of it failed
pub record Disk : Type 0 where
  pub holds : List ℕ → Held
  pub faults : List ℕ → ℕ

-- what is known of a stream that is read from: the bytes that are left, where that is known, and how many
-- reads failed
pub record Inflow : Type 0 where
  pub left : Option (List ℕ)
  pub faults : ℕ

-- what is known of a stream that is written to: the bytes that were taken, where that is known, and how many
-- writes failed
pub record Outflow : Type 0 where
  pub written : Option (List ℕ)
  pub faults : ℕ

-- the first n bytes of buf are those from `place` on, and there are none only at or past the end
pub record IsPart (bytes : List ℕ) (place n : ℕ) (buf : List ℕ) : Type 0 where
  pub same : take n buf ≡ take n (drop place bytes)
  pub within : n ≤ length (drop place bytes)
  pub ended : n ≡ 0 → length bytes ≤ place

-- `Ok(n)` gave n of the bytes held from `place` on, and an absent file fails
abbrev pub ReadsAt : {E : Type 0} → Held → ℕ → Result ℕ E → List ℕ → Type 0
ReadsAt unknown place result buf = ⊤
ReadsAt absent place result buf = MatchResult result (λ _. ⊥) (λ _. ⊤)
ReadsAt (holding bytes) place result buf = MatchResult result (λ n. IsPart bytes place n buf) (λ _. ⊤)
