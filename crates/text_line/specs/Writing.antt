-- Texts that are written piece by piece.
use Rattle.std.specs.Prelude.{◌≡◌, ℕ, List, ◌++◌}

-- the second text begins with the first
abbrev pub Begins : List ℕ → List ℕ → Type 0
Begins old new = (added : List ℕ) × (new ≡ old ++ added)
