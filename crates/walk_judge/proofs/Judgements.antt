-- Judgements: each claimed walk has one, and accepted are the legal least walks.
use Rattle.std.proofs.Common.{◌≡◌, ℕ, arith, refl, ap, sym, ◌∙◌, subst, Bool, true, false, List, ◌∷◌}
use Rattle.std.specs.Prelude.{Option, Some, None, Result, Ok, Err, if◌then◌else◌, ◌↔◌, ◌≢◌}
use Rattle.root2_cost.specs.declared.Cost.{Cost}
use Rattle.root2_cost.specs.Order.{IsAtMost}
use Rattle.root2_cost.specs.Sums.{is_same_cost}
use Rattle.grid_moves.specs.declared.Cell.{Cell}
use Rattle.grid_moves.specs.Grid.{GridData, IsGrid, is_free}
use Rattle.grid_moves.specs.Reply.{StandsForLeast}
use Rattle.grid_moves.specs.Walk.{NoWalk, cost_of}
use Rattle.plain_search.specs.Costs.{IsCostTo}
use Rattle.plain_search.specs.Lists.{IsLeastCost}
use Rattle.plain_search.proofs.LeastCosts.{one_least}
use Rattle.potential_check.specs.Walks.{IsRightWalk, IsWalkAnswer, walk_answer}
use Rattle.root2_cost.proofs.Less.{is_same_cost-of, is_same_cost-tells}
use Rattle.potential_check.proofs.Walks.{walks_are_answered}
use Rattle.walk_judge.specs.declared.judging.Judged.{Judged}
use Rattle.walk_judge.specs.declared.judging.Judged.TheVariants.{Least, NoWalk as Nothing, BadWalk, Longer}
use Rattle.walk_judge.specs.declared.judging.Judged.TheVariants.{Exists}
use Rattle.walk_judge.specs.declared.claims.Claimed.{Claimed}
use Rattle.walk_judge.specs.declared.claims.Claimed.TheVariants as claimed
use Rattle.walk_judge.specs.Judgement.{IsJudgement, JudgementsAreMade, judged_by, judgement_of}
use Rattle.grid_moves.proofs.Short.{least_is_short}
use Rattle.grid_moves.proofs.Walks.{end_free}

pub other_cost : (p q : Cost) → is_same_cost q p ≡ false → p ≡ q → ⊥
other_cost p q off e = let same : is_same_cost q p ≡ true = rw e (is_same_cost-of q q refl) in cc

-- to a cell that is not free no walk leads
pub none_to_blocked : (g : GridData) (s t : Cell) → is_free g t ≡ false → NoWalk g s t
none_to_blocked g s t blocked cells w = let free = end_free g s t cells w in cc

module _ (g : GridData) (s t : Cell) where
  -- a legal walk is judged by the least cost
  module _ (points : List Cell) (paid : Cost) (right : IsRightWalk g s t paid points) where
    abbrev IsHow : Judged → Type 0
    IsHow how = IsJudgement g s t (claimed.Walk points) how

    right_judged : (least : Option Cost) → IsCostTo g s t least → IsHow (judged_by (Ok paid) least)
    right_judged None none = absurd (none right.cells right.walk)
    right_judged (Some least) known = by_cost (is_same_cost least paid) refl
      where
        by_cost : (b : Bool) → is_same_cost least paid ≡ b
            → IsHow (if b then Least paid else Longer paid least)
        by_cost true same =
            (right, subst (λ (c : Cost). IsLeastCost g s t c) (is_same_cost-tells least paid same) known)
        by_cost false other = (right, known, λ e. other_cost paid least other e)

    least_only : (least : Option Cost) → IsCostTo g s t least → IsLeastCost g s t paid
        → Least paid ≡ judged_by (Ok paid) least
    least_only None none is = absurd (none right.cells right.walk)
    least_only (Some least) known is =
        let same = one_least g s t least paid known is in
        let e : is_same_cost least paid ≡ true =
        ap (λ (c : Cost). is_same_cost c paid) same ∙ is_same_cost-of paid paid refl in
        rw e refl

    longer_only : (least : Option Cost) → IsCostTo g s t least → (cost : Cost) → IsLeastCost g s t cost
        → paid ≢ cost → Longer paid cost ≡ judged_by (Ok paid) least
    longer_only None none cost is apart = absurd (none right.cells right.walk)
    longer_only (Some least) known cost is apart = by_cost (is_same_cost least paid) refl
      where
        same : least ≡ cost
        same = one_least g s t least cost known is

        by_cost : (b : Bool) → is_same_cost least paid ≡ b
            → Longer paid cost ≡ (if b then Least paid else Longer paid least)
        by_cost true e = absurd (apart (sym (is_same_cost-tells least paid e) ∙ same))
        by_cost false e = ap (λ (c : Cost). let j : Judged = Longer paid c in j) (sym same)

  -- what is claimed is judged as the function says
  is_judgement : (what : Claimed) (least : Option Cost) → IsCostTo g s t least
      → IsJudgement g s t what (judgement_of g s t what least)
  is_judgement claimed.None None none = none
  is_judgement claimed.None (Some least) known = known
  is_judgement (claimed.Walk points) least known = by_answer (walk_answer g s t points)
      ((walks_are_answered g s t points (walk_answer g s t points)).1 refl)
    where
      by_answer : (answer : Result Cost ℕ) → IsWalkAnswer g s t points answer
          → IsJudgement g s t (claimed.Walk points) (judged_by answer least)
      by_answer (Ok paid) right = right_judged points paid right least known
      by_answer (Err i) bad = bad

  -- and in no other way
  only_judgement : (what : Claimed) (least : Option Cost) → IsCostTo g s t least → (how : Judged)
      → IsJudgement g s t what how → how ≡ judgement_of g s t what least
  only_judgement claimed.None None none Nothing is = refl
  only_judgement claimed.None None none (Exists p) is = absurd (none is.cells is.least.walk)
  only_judgement claimed.None (Some least) known Nothing none =
      absurd (none known.cells known.least.walk)
  only_judgement claimed.None (Some least) known (Exists p) is =
      ap (λ (c : Cost). let j : Judged = Exists c in j) (one_least g s t p least is known)
  only_judgement claimed.None least known (Least p) is = absurd is
  only_judgement claimed.None least known (BadWalk i) is = absurd is
  only_judgement claimed.None least known (Longer p q) is = absurd is
  only_judgement (claimed.Walk points) least known (BadWalk i) bad =
      rw ((walks_are_answered g s t points (Err i)).0 bad) refl
  only_judgement (claimed.Walk points) least known (Least p) is =
      rw ((walks_are_answered g s t points (Ok p)).0 is.0) (least_only points p is.0 least known is.1)
  only_judgement (claimed.Walk points) least known (Longer p q) is =
      rw ((walks_are_answered g s t points (Ok p)).0 is.0) (longer_only points p is.0 least known q is.1 is.2)
  only_judgement (claimed.Walk points) least known Nothing is = absurd is
  only_judgement (claimed.Walk points) least known (Exists p) is = absurd is

  -- an accepted walk is legal and least
  accepted_least : (points : List Cell) (cost : Cost) → IsJudgement g s t (claimed.Walk points) (Least cost)
      → StandsForLeast g s t points cost
  accepted_least points cost is = record {
    cells = is.0.cells;
    unfolds = is.0.unfolds;
    least = record {
      walk = is.0.walk;
      least = λ others o. subst (λ (c : Cost). IsAtMost c (cost_of (s ∷ others)))
          (is.1.priced ∙ sym is.0.priced) (is.1.least.least others o);
    };
    priced = is.0.priced;
  }

  -- and a legal least walk is accepted
  least_accepted : IsGrid g → (points : List Cell) (cost : Cost) → StandsForLeast g s t points cost
      → IsJudgement g s t (claimed.Walk points) (Least cost)
  least_accepted grid points cost stands = (
    record {
      cells = stands.cells;
      unfolds = stands.unfolds;
      walk = stands.least.walk;
      short = omega (arith, least_is_short g s t stands.cells grid stands.least);
      priced = stands.priced;
    },
    record { cells = stands.cells; least = stands.least; priced = stands.priced },
  )

  pub accepted_exactly : IsGrid g → (what : Claimed) (least : Option Cost) → IsCostTo g s t least
      → (how : Judged) → how ≡ judgement_of g s t what least → (points : List Cell) (cost : Cost)
      → what ≡ claimed.Walk points → (how ≡ Least cost) ↔ StandsForLeast g s t points cost
  accepted_exactly grid what least known how e points cost is =
      let here : IsJudgement g s t (claimed.Walk points) how =
      subst (λ (w : Claimed). IsJudgement g s t w how) is
      (subst (λ (k : Judged). IsJudgement g s t what k) (sym e) (is_judgement what least known)) in (
        λ same. accepted_least points cost
            (subst (λ (k : Judged). IsJudgement g s t (claimed.Walk points) k) same here),
        λ stands. e ∙ sym (only_judgement what least known (Least cost)
            (subst (λ (w : Claimed). IsJudgement g s t w (Least cost)) (sym is)
            (least_accepted grid points cost stands))),
      )

  -- points of a least walk tell the least cost
  pub stands_costs : (points : List Cell) (cost : Cost) → StandsForLeast g s t points cost
      → IsCostTo g s t (Some cost)
  stands_costs points cost stands =
      record { cells = stands.cells; least = stands.least; priced = stands.priced }

pub judgements_are_made : JudgementsAreMade
judgements_are_made g s t what least known how = (
  only_judgement g s t what least known how,
  λ e. subst (λ (k : Judged). IsJudgement g s t what k) (sym e) (is_judgement g s t what least known),
)

-- so there is only one where the least cost is known
pub one_judgement : (g : GridData) (s t : Cell) (what : Claimed) (least : Option Cost) → IsCostTo g s t least
    → (how why : Judged) → IsJudgement g s t what how → IsJudgement g s t what why → how ≡ why
one_judgement g s t what least known how why is also =
    only_judgement g s t what least known how is ∙ sym (only_judgement g s t what least known why also)
