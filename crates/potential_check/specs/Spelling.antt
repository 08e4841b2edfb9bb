-- What the text of a certificate looks like.
use Rattle.std.specs.Prelude.{◌≡◌, ℕ, true, List, [], ◌∷◌, ◌++◌, codes, Option, Some}
use Rattle.std.specs.List.{AllByRecursion}
use Rattle.root2_cost.specs.declared.Cost.{Cost}
use Rattle.grid_moves.specs.declared.Cell.{Cell}
use Rattle.text_line.specs.Lines.{lines_of}
use Rattle.potential_check.specs.declared.certificate.Claim.{Claim}
use Rattle.potential_check.specs.declared.certificate.Claim.TheVariants.{Least, NoWalk}
use Rattle.potential_check.specs.declared.reading.Head.{Head}
use Rattle.potential_check.specs.Certificate.{are_listed, cells_of}
use Rattle.potential_check.specs.Forms.{ends_on, least_on, member_on, points_on, size_on, value_on}
use Rattle.potential_check.specs.Text.{Plain}

-- each line spells what stands at its place, in order
abbrev pub SpellInOrder : {E : Type 0} → (List ℕ → Option E) → List (List ℕ) → List E → Type 0
SpellInOrder form [] [] = Unit {0}
SpellInOrder form (line ∷ lines) (e ∷ items) = (form line ≡ Some e) × SpellInOrder form lines items
SpellInOrder form _ _ = ⊥

-- the line `least A B`, the line of the points, and a line for each value; listed cells lie inside and ascend
pub record SpellsLeast (head : Head) (cost : Cost) (points : List Cell) (values : List (Cell × Cost))
    (first : List ℕ) (body : List (List ℕ)) : Type 0 where
  pub second : List ℕ
  pub list : List (List ℕ)
  pub body_is : body ≡ second ∷ list
  pub cost_is : least_on first ≡ Some cost
  pub points_is : points_on second ≡ Some points
  pub values_are : SpellInOrder value_on list values
  pub listed : are_listed head.width head.height (cells_of values) ≡ true

-- the line `none`, and a line for each cell, which lie inside and ascend
pub record SpellsNone (head : Head) (cells : List Cell) (first : List ℕ) (body : List (List ℕ)) : Type 0 where
  pub none_is : first ≡ codes "none"
  pub cells_are : SpellInOrder member_on body cells
  pub listed : are_listed head.width head.height cells ≡ true

abbrev pub SpellsClaim : Head → Claim → List ℕ → List (List ℕ) → Type 0
SpellsClaim head (Least cost points values) first body = SpellsLeast head cost points values first body
SpellsClaim head (NoWalk cells) first body = SpellsNone head cells first body

-- `jps-cert 1`, the sides, the ends, the claim, `end`, and empty lines only after it
pub record Spells (text : List ℕ) (plain : Plain) : Type 0 where
  pub version : List ℕ
  pub size : List ℕ
  pub ends : List ℕ
  pub claim : List ℕ
  pub body : List (List ℕ)
  pub others : List (List ℕ)
  pub lines : lines_of text ≡ version ∷ size ∷ ends ∷ claim ∷ (body ++ codes "end" ∷ others)
  pub version_is : version ≡ codes "jps-cert 1"
  pub size_is : size_on size ≡ Some (plain.head.width, plain.head.height)
  pub ends_is : ends_on ends ≡ Some (plain.head.start, plain.head.goal)
  pub claim_is : SpellsClaim plain.head plain.claim claim body
  pub nothing : AllByRecursion (λ line. line ≡ []) others
