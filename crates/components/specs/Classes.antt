-- Labels that were made one with others: a forest of labels, in which each leads to a lesser one, or stands
-- for its class. No public clause cites this module but for `root_of`.
use Rattle.std.specs.Prelude.{◌≡◌, ◌≢◌, ℕ, zero, suc, ◌<◌, ◌≤◌, ◌⊎◌, List, [], ◌∷◌, length, slice_index, refl}

-- the label after so many steps
abbrev pub climbed : ℕ → List ℕ → ℕ → ℕ
climbed zero classes l = l
climbed (suc n) classes l = climbed n classes (slice_index classes l)

-- the label that stands for the class of this one
abbrev pub root_of : List ℕ → ℕ → ℕ
root_of classes l = climbed l classes l

-- each label leads to a lesser one, or to itself; none but 0 leads to 0
pub record IsForest (classes : List ℕ) : Type 0 where
  pub down : (l : ℕ) → slice_index classes l ≤ l
  pub some : (l : ℕ) → l ≢ 0 → l < length classes → slice_index classes l ≢ 0

-- all labels have the roots that they had
abbrev pub SameRoots : List ℕ → List ℕ → Type 0
SameRoots classes later = (l : ℕ) → root_of later l ≡ root_of classes l

-- a label has the class of one of the two
abbrev pub IsOfEither : (ℕ → ℕ) → ℕ → ℕ → ℕ → Type 0
IsOfEither class a b l = (class l ≡ class a) ⊎ (class l ≡ class b)

-- the classes of a and b have come to be one, and no others
pub record AreMerged (before later : ℕ → ℕ) (a b : ℕ) : Type 0 where
  pub one : later a ≡ later b
  pub kept : (l m : ℕ) → before l ≡ before m → later l ≡ later m
  pub only : (l m : ℕ) → later l ≡ later m
      → (before l ≡ before m) ⊎ (IsOfEither before a b l × IsOfEither before a b m)

-- a worked row: 3 leads to 2, and 2 to 1; 4 stands for itself
pub two_steps : root_of (0 ∷ 1 ∷ 1 ∷ 2 ∷ 4 ∷ []) 3 ≡ 1
two_steps = refl

pub no_step : root_of (0 ∷ 1 ∷ 1 ∷ 2 ∷ 4 ∷ []) 4 ≡ 4
no_step = refl
