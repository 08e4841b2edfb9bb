-- A search over legal moves is posed on its grid, and takes few moves.
use Rattle.std.proofs.lemmas.Grind.{common_steps}
use Rattle.std.proofs.Common.{◌≡◌, ◌+◌, ◌*◌, ◌≤◌, length, List, [], ◌∷◌, refl, ap, ◌∙◌, true, arith}
use Rattle.root2_cost.specs.declared.Cost.{Cost}
use Rattle.grid_moves.specs.declared.Cell.{Cell}
use Rattle.grid_moves.specs.Grid.{GridData, IsGrid, is_free}
use Rattle.grid_moves.specs.Move.{move_cost}
use Rattle.grid_moves.proofs.Legal.{free_inside, legal_is}
use Rattle.grid_moves.proofs.Places.{free_below}
use Rattle.grid_moves.proofs.Walks.{move_counts}
use Rattle.grid_moves.proofs.Short.{few_cells}
use Rattle.search_run.specs.Run.{Rule, Taken, IsIn, here, there, IsRun}
use Rattle.search_run.proofs.Leastness.{least_offer-from}
use Rattle.best_first.specs.declared.state.State.{State}
use Rattle.best_first.specs.Space.{SpaceData, IsPlaced}
use Rattle.best_first.specs.State.{start_at}
use Rattle.best_first.specs.Rule.{IsPosed, IsSearch, Links, search_rule}
use Rattle.best_first.proofs.Bounds.{few_taken}
use Rattle.plain_search.specs.Rule.{plain_links}
use Rattle.plain_search.proofs.Walks.{AreMoves, plain_are_moves}

-- a search over links that are moves is asked for on a grid, from one free cell to another
pub record IsAsked (g : GridData) (s t : Cell) (link : Links) : Type 0 where
  pub are : AreMoves g link
  pub whole : IsGrid g
  pub from : is_free g s ≡ true
  pub to : is_free g t ≡ true
  pub printed : (p u : State) → link.arrived p u ≡ u

pub plain_asked : (g : GridData) (s t : Cell) → IsGrid g → is_free g s ≡ true → is_free g t ≡ true
    → IsAsked g s t (plain_links g)
plain_asked g s t whole from to =
    record { are = plain_are_moves g; whole = whole; from = from; to = to; printed = λ p u. refl }

-- a free cell has its place in a space of the map's size
pub placed : (g : GridData) → IsGrid g → (space : SpaceData) → space.width ≡ g.width
    → space.places ≡ g.height * g.width → (v : Cell) → is_free g v ≡ true
    → IsPlaced space.width space.places v
placed g h1 space h2 h3 v h4 = grind (arith, common_steps, free_inside, free_below)

module _ {g : GridData} {s t : Cell} {link : Links} (asked : IsAsked g s t link) where
  abbrev rule : Rule State
  rule = search_rule g.width t link

  pub posed : IsPosed g.width g.height s t link
  posed = grind (arith, common_steps, free_inside)

  -- each taken state is that of a free cell's start
  pub run_free : (run : List (Taken State)) → IsRun rule (start_at s) run → (u : Taken State)
      → IsIn u run → (is_free g u.state.cell ≡ true) × (u.state ≡ start_at u.state.cell)
  run_free [] is u m = absurd is
  run_free (x ∷ []) is u (here z) = rw is (asked.from, refl)
  run_free (x ∷ []) is u (there z e m) = elim m [ ]
  run_free (x ∷ y ∷ earlier) is u (here z) =
      let f = least_offer-from rule (y ∷ earlier) x.state
      (record { cost = x.cost; from = x.parent }) is.2.offered in
      let m = asked.are.moves f.by.parent f.by.state x.state f.offered.step f.offered.linked in
      ((legal_is g f.by.state.cell x.state.cell m.legal).target, m.plain)
  run_free (x ∷ y ∷ earlier) is u (there z e m) = run_free (y ∷ earlier) is.0 u m

  -- a move more for each state taken, at most
  moves_within : (run : List (Taken State)) → IsRun rule (start_at s) run → (u : Taken State)
      → IsIn u run → u.cost.a + u.cost.b ≤ length run
  moves_within [] is u m = absurd is
  moves_within (x ∷ []) is u (here z) = rw is (omega arith)
  moves_within (x ∷ []) is u (there z e m) = elim m [ ]
  moves_within (x ∷ y ∷ earlier) is u (here z) =
      let f = least_offer-from rule (y ∷ earlier) x.state
      (record { cost = x.cost; from = x.parent }) is.2.offered in
      let before = moves_within (y ∷ earlier) is.0 f.by f.member in
      let step = (asked.are.moves f.by.parent f.by.state x.state f.offered.step f.offered.linked).cost in
      let a : x.cost.a ≡ f.by.cost.a + (move_cost f.by.state.cell x.state.cell).a
      = ap (λ (c : Cost). c.a) f.offered.total ∙ ap (λ (c : Cost). f.by.cost.a + c.a) step in
      let b : x.cost.b ≡ f.by.cost.b + (move_cost f.by.state.cell x.state.cell).b
      = ap (λ (c : Cost). c.b) f.offered.total ∙ ap (λ (c : Cost). f.by.cost.b + c.b) step in
      let one = move_counts f.by.state.cell x.state.cell in
      omega arith
  moves_within (x ∷ y ∷ earlier) is u (there z e m) =
      let before = moves_within (y ∷ earlier) is.0 u m in omega arith

  pub fit : IsSearch g.width g.height s t link
  fit = grind (arith, common_steps, posed, moves_within, few_taken, few_cells)
