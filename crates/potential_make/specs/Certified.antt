-- What is known of the certificate between two free cells.
use Rattle.std.specs.Prelude.{◌≡◌, ◌≤◌, ◌^◌, true, false, List, length, Ok}
use Rattle.root2_cost.specs.declared.Cost.{Cost}
use Rattle.root2_cost.specs.Order.{is_less}
use Rattle.root2_cost.specs.Signed.{cost_difference, signed_of}
use Rattle.root2_cost.specs.Sums.{add_costs}
use Rattle.grid_moves.specs.declared.Cell.{Cell}
use Rattle.grid_moves.specs.Grid.{GridData, IsGrid, is_free}
use Rattle.grid_moves.specs.Points.{estimate}
use Rattle.grid_moves.specs.Walk.{NoWalk}
use Rattle.plain_search.specs.Lists.{AreClosed, AreReached, IsBelow, IsLeastCost}
use Rattle.potential_check.specs.declared.certificate.Claim.{Claim}
use Rattle.potential_check.specs.declared.certificate.Claim.TheVariants as claim
use Rattle.potential_check.specs.Accepted.{AcceptsClaim}
use Rattle.potential_check.specs.Potential.{potential_of}
use Rattle.potential_check.specs.Spelling.{Spells}
use Rattle.potential_check.specs.Text.{Plain, certificate_of}
use Rattle.potential_make.specs.Made.{made_certificate, made_claim}

-- the potential of a cell is the lesser of its least cost from s and of the least cost from s to t less its
-- estimate; it is the second where no walk leads to the cell
pub record HasPotential (g : GridData) (s t : Cell) (cost : Cost) (values : List (Cell × Cost)) : Type 0 where
  pub near : (c : Cell) (paid : Cost) → IsLeastCost g s c paid → IsBelow t cost c paid
      → potential_of cost t values c ≡ signed_of paid
  pub far : (c : Cell) (paid : Cost) → IsLeastCost g s c paid
      → is_less (add_costs paid (estimate c t)) cost ≡ false
      → potential_of cost t values c ≡ cost_difference cost (estimate c t)
  pub beyond : (c : Cell) → NoWalk g s c → potential_of cost t values c ≡ cost_difference cost (estimate c t)

-- a claim of least cost lists exactly the closed cells, and has this potential; one of no walk lists exactly
-- the reached cells
abbrev pub HasItsCells : GridData → Cell → Cell → Claim → Type 0
HasItsCells g s t (claim.Least cost points values) = AreClosed g s t cost values
    × HasPotential g s t cost values
HasItsCells g s t (claim.NoWalk cells) = AreReached g s cells

-- a claim on the walks from s to t of the map, as the reader knows it
abbrev pub stated : GridData → Cell → Cell → Claim → Plain
stated g s t claim = record {
  head = record { width = g.width; height = g.height; start = s; goal = t };
  claim = claim;
}

-- the certificate spells its claim and is read as that, and is no longer than the reader takes; the claim is
-- accepted, and has its cells
pub record IsCertified (g : GridData) (s t : Cell) : Type 0 where
  pub spelled : Spells (made_certificate g s t) (stated g s t (made_claim g s t))
  pub read : certificate_of (made_certificate g s t) ≡ Ok (stated g s t (made_claim g s t))
  pub short : length (made_certificate g s t) ≤ 2 ^ 30
  pub accepted : AcceptsClaim g s t (made_claim g s t)
  pub cells : HasItsCells g s t (made_claim g s t)

-- all of this holds between free cells
abbrev pub CertificatesAreAccepted : Type 0
CertificatesAreAccepted = (g : GridData) (s t : Cell) → IsGrid g → is_free g s ≡ true → is_free g t ≡ true
    → IsCertified g s t
