-- How a cell comes to have the class of the neighbours that it is linked with.
-- No public clause cites this module.
use Rattle.std.specs.Prelude.{◌≡◌, ◌≢◌, ℕ, ◌⊎◌, Bool, true, false, ◌||◌, List, [], ◌∷◌, nat_eq, if◌then◌else◌}
use Rattle.grid_moves.specs.declared.Cell.{Cell}
use Rattle.grid_moves.specs.declared.Dir.{Dir}
use Rattle.grid_moves.specs.declared.Dir.TheVariants.{N, NE, E, SE, S, SW, W, NW}
use Rattle.grid_moves.specs.Move.{beyond, is_dir}
use Rattle.components.specs.Classes.{AreMerged}
use Rattle.components.specs.Links.{IsLink}

-- the directions to the neighbours that a cell may be linked with, the last one first
abbrev pub linked_dirs : Bool → List Dir
linked_dirs false = W ∷ S ∷ E ∷ N ∷ []
linked_dirs true = NW ∷ SW ∷ SE ∷ NE ∷ W ∷ S ∷ E ∷ N ∷ []

abbrev pub is_among : Dir → List Dir → Bool
is_among d [] = false
is_among d (e ∷ dirs) = is_dir d e || is_among d dirs

-- a label meets that of a neighbour, 0 for none: it becomes the other's where it was none,
-- else their classes are made one
pub record HaveMet (now later : ℕ → ℕ) (label other result : ℕ) : Type 0 where
  pub is : result ≡ (if nat_eq label 0 then other else label)
  pub merged : AreMerged now later result (if nat_eq other 0 then result else other)

-- the label of a neighbour is of the class of this one
pub record Borders (eight : Bool) (c : Cell) (at : Cell → ℕ) (class : ℕ → ℕ) (l : ℕ) : Type 0 where
  pub beside : Cell
  pub link : IsLink eight c beside
  pub some : at beside ≢ 0
  pub same : class (at beside) ≡ class l

-- the neighbours in these directions have met
pub record Gathers (eight : Bool) (c : Cell) (at : Cell → ℕ) (dirs : List Dir) (before now : ℕ → ℕ)
    (label : ℕ) : Type 0 where
  pub kept : (l m : ℕ) → before l ≡ before m → now l ≡ now m
  pub only : (l m : ℕ) → now l ≡ now m → (before l ≡ before m) ⊎ ((label ≢ 0) × (now l ≡ now label))
  pub from : (l : ℕ) → now l ≡ now label → label ≢ 0 → Borders eight c at before l
  pub met : (d : Dir) → is_among d dirs ≡ true → at (beyond d c) ≢ 0 → (label ≢ 0)
      × (now (at (beyond d c)) ≡ now label)
