-- Texts that stand for the lines of an output: the lines themselves, but that `memory` may stand for one for
-- which memory may be wanted.
use Rattle.std.specs.Prelude.{◌≡◌, ◌⊎◌, ℕ, Bool, true, false, List, [], ◌∷◌, codes, refl}
use Rattle.std.proofs.Common.{inl, inr}

-- the text stands for a line, for which memory may be wanted or not
abbrev pub StandsFor : Bool → List ℕ → List ℕ → Type 0
StandsFor wanted line text = (text ≡ line) ⊎ ((wanted ≡ true) × (text ≡ codes "memory\n"))

-- the texts stand for lines, each for one: memory may be wanted for those that have a `true` here, and where
-- nothing more is said for none
abbrev pub StandFor : List Bool → List (List ℕ) → List (List ℕ) → Type 0
StandFor [] lines texts = texts ≡ lines
StandFor (wanted ∷ more) [] texts = texts ≡ []
StandFor (wanted ∷ more) (line ∷ lines) [] = ⊥
StandFor (wanted ∷ more) (line ∷ lines) (text ∷ texts) = StandsFor wanted line text
    × StandFor more lines texts

-- worked rows: memory may be wanted for the second of three lines
pub none_stands_in : StandFor (false ∷ true ∷ []) (codes "ok\n" ∷ codes "none\n" ∷ codes "same\n" ∷ [])
    (codes "ok\n" ∷ codes "none\n" ∷ codes "same\n" ∷ [])
none_stands_in = (inl refl, (inl refl, refl))

pub memory_stands_in : StandFor (false ∷ true ∷ []) (codes "ok\n" ∷ codes "none\n" ∷ codes "same\n" ∷ [])
    (codes "ok\n" ∷ codes "memory\n" ∷ codes "same\n" ∷ [])
memory_stands_in = (inl refl, (inr (refl, refl), refl))
