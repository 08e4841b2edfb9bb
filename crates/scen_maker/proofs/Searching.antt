-- What searches tell of the queries of entries.
use Rattle.std.proofs.lemmas.Bool.Decides.{nat_tests}
use Rattle.std.proofs.Common.{◌≡◌, refl, ap, sym, ◌∙◌, subst, inl, inr, true, false, Bool, ℕ, ◌&&◌, arith}
use Rattle.std.specs.Prelude.{if◌then◌else◌, not, Option, None}
use Rattle.root2_cost.specs.declared.Cost.{Cost}
use Rattle.grid_moves.specs.declared.Cell.{Cell}
use Rattle.grid_moves.specs.declared.ends.Ends.{Ends}
use Rattle.grid_moves.specs.Ends.{AreApart}
use Rattle.grid_moves.specs.Grid.{is_free}
use Rattle.grid_moves.specs.Layers.{Layers, in_one_layer, is_free_ground, is_on_map, query_grid}
use Rattle.grid_moves.specs.Reply.{IsRight, are_free_ends}
use Rattle.grid_moves.proofs.Legal.{and_both, same_cell}
use Rattle.edit_replay.specs.Replies.{answer_of}
use Rattle.edit_replay.specs.declared.reply.Reply.{Reply}
use Rattle.edit_replay.specs.declared.reply.Reply.TheVariants as reply
use Rattle.plain_search.specs.Costs.{IsCostTo}
use Rattle.plain_search.proofs.LeastCosts.{cost_is, one_cost}
use Rattle.scen_text.specs.declared.entry.Entry.{Entry}
use Rattle.walk_judge.proofs.Judgements.{none_to_blocked, stands_costs}
use Rattle.scen_maker.specs.Settling.{IsSettled, cost_in, goal_of, has_sides, least_between, settled_of}
use Rattle.scen_maker.specs.Settling.{start_of}
use Rattle.scen_maker.specs.declared.costs.Settled.{Settled}
use Rattle.scen_maker.specs.declared.costs.Settled.TheVariants as settled

-- a cell that is land or water is free on the grid of a query that starts there
free_start : (ls : Layers) (s : Cell) → is_free_ground ls s ≡ true → is_free (query_grid ls s) s ≡ true
free_start ls s free = grind (arith, nat_tests)

-- between free cells the cost is one
module _ (ls : Layers) (s t : Cell) (free : are_free_ends ls s t ≡ true) where
  start_free : is_free (query_grid ls s) s ≡ true
  start_free = free_start ls s (and_both (is_free_ground ls s) (is_free_ground ls t) free).0

  pub least_is : IsCostTo (query_grid ls s) s t (least_between ls s t)
  least_is = cost_is (query_grid ls s) s t start_free

  least_one : (least : Option Cost) → IsCostTo (query_grid ls s) s t least → least ≡ least_between ls s t
  least_one least is = one_cost (query_grid ls s) s t least (least_between ls s t) is least_is

  -- there is none where they are not free on one grid
  apart_costs : in_one_layer ls s t ≡ false → IsCostTo (query_grid ls s) s t None
  apart_costs apart =
      none_to_blocked (query_grid ls s) s t
      (ap (λ (b : Bool). b && is_free (query_grid ls s) t) (sym start_free) ∙ apart)

  -- and a right reply tells it
  right_costs : (r : Reply) → (is_on_map ls s && is_on_map ls t) ≡ true → IsRight ls s t (answer_of r)
      → IsCostTo (query_grid ls s) s t (cost_in r)
  right_costs reply.Outside on right = absurd (cc)
  right_costs reply.Blocked on right = absurd (let no = right.1 in cc)
  right_costs (reply.None taken) on right = elim right.1 [
    | inl apart ↦ apart_costs apart
    | inr none ↦ none
  ]
  right_costs (reply.Walk points cost taken) on right = stands_costs (query_grid ls s) s t points cost right.1

-- a reply on these grids to a query between these cells, by their columns and rows
pub found_cost : (on ls : Layers) (from to : Cell) (sx sy gx gy : ℕ) (r : Reply) → on ≡ ls → sx ≡ from.x
    → sy ≡ from.y → gx ≡ to.x → gy ≡ to.y → (is_on_map ls from && is_on_map ls to) ≡ true
    → are_free_ends ls from to ≡ true
    → IsRight on (record { x = sx; y = sy }) (record { x = gx; y = gy }) (answer_of r)
    → cost_in r ≡ least_between ls from to
found_cost on ls from to sx sy gx gy r same a b d e inside free right =
    least_one ls from to free (cost_in r) (right_costs ls from to free r inside
    (subst (λ (k : Layers). IsRight k from to (answer_of r)) same
    (subst (λ (s : Cell). IsRight on s to (answer_of r)) (same_cell (record { x = sx; y = sy }) from a b)
    (subst (λ (t : Cell). IsRight on (record { x = sx; y = sy }) t (answer_of r))
    (same_cell (record { x = gx; y = gy }) to d e) right))))

-- each query is settled as it is
module _ (ls : Layers) (entry : Entry) where
  abbrev from : Cell
  from = start_of entry

  abbrev to : Cell
  to = goal_of entry

  abbrev on : Bool
  on = is_on_map ls from && is_on_map ls to

  abbrev free : Bool
  free = are_free_ends ls from to

  abbrev searched : Settled
  searched = settled.Searched from to (least_between ls from to)

  by_free : has_sides ls entry ≡ true → on ≡ true → (b : Bool) → free ≡ b
      → IsSettled ls entry (if not b then settled.Blocked else searched)
  by_free sides inside true both =
      record { sides = sides; start = refl; goal = refl; free = both; least = least_is ls from to both }
  by_free sides inside false shut = (sides, (inside, shut))

  by_place : has_sides ls entry ≡ true → (b : Bool) → on ≡ b
      → IsSettled ls entry (if not b then settled.Outside else if not free then settled.Blocked else searched)
  by_place sides true inside = by_free sides inside free refl
  by_place sides false off = (sides, off)

  by_sides : (b : Bool) → has_sides ls entry ≡ b → IsSettled ls entry (if not b then settled.Scale
      else if not on then settled.Outside else if not free then settled.Blocked else searched)
  by_sides true sides = by_place sides on refl
  by_sides false sides = sides

  pub settled_is : IsSettled ls entry (settled_of ls entry)
  settled_is = by_sides (has_sides ls entry) refl

  -- and what is found between its ends is that
  settled_searched : (s t : Cell) (least : Option Cost) → has_sides ls entry ≡ true → on ≡ true
      → free ≡ true → s ≡ from → t ≡ to → least ≡ least_between ls s t
      → settled.Searched s t least ≡ settled_of ls entry
  settled_searched s t least sides inside both start goal found =
      ap (settled.Searched s t) found
      ∙ ap (λ (c : Cell). settled.Searched c t (least_between ls c t)) start
      ∙ ap (λ (c : Cell). settled.Searched from c (least_between ls from c)) goal
      ∙ rw (sides, inside, both) refl

  pub settled_apart : (ends : Ends) → has_sides ls entry ≡ true → AreApart ls from to ends
      → settled.Searched ends.from ends.to None ≡ settled_of ls entry
  settled_apart ends sides a =
      ap (λ (c : Cell). settled.Searched c ends.to None) a.from
      ∙ ap (λ (c : Cell). settled.Searched from c None) a.to
      ∙ settled_searched from to None sides a.on a.free refl refl
      (least_one ls from to a.free None (apart_costs ls from to a.free a.two))
