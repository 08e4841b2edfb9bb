-- From what is read around a cell to the offers of its state.
use Rattle.std.proofs.Common.{◌≡◌, ℕ, ◌∙◌, sym, ap, subst, true, arith}
use Rattle.std.specs.Prelude.{Option}
use Rattle.std.proofs.lemmas.Bool.{and_parts}
use Rattle.grid_moves.specs.declared.Cell.{Cell}
use Rattle.grid_moves.specs.declared.Dir.{Dir}
use Rattle.grid_moves.specs.declared.around.Around.{Around}
use Rattle.grid_moves.specs.Around.{IsAround, end_of, is_open_to}
use Rattle.grid_moves.specs.Grid.{GridData}
use Rattle.grid_moves.specs.Move.{all_dirs}
use Rattle.best_first.specs.declared.node.Node.{Node}
use Rattle.best_first.specs.Space.{SpaceData}
use Rattle.best_first.specs.State.{state_of_place}
use Rattle.best_first.specs.Table.{Table}
use Rattle.best_first.specs.Trace.{node_cell, rank_left}
use Rattle.plain_search.specs.declared.moves.Behind.{Behind}
use Rattle.plain_search.specs.Offers.{less_offered, sides_of, all_offered, MayOffer, MayExpand, HasExpanded}

-- a move that is kept is open
pub kept_open : (a : Around) (s : Behind) (d : Dir) → is_open_to (less_offered a s) d ≡ true
    → is_open_to a d ≡ true
kept_open a s d h = grind (arith, and_parts)

-- and leads to the same cell
pub kept_end : (a : Around) (s : Behind) (c : Cell) (d : Dir) → end_of (less_offered a s) c d ≡ end_of a c d
kept_end a s c d = grind arith

module _ (goal : Cell) (id key rank : ℕ) (a : Around) (s : Behind) (c : Cell) (space : SpaceData) where
  kept_may : MayOffer goal id key rank a c space → MayOffer goal id key rank (less_offered a s) c space
  kept_may m d h = rw (kept_end a s c d) (m d (kept_open a s d h))

  -- where all moves may be offered, those that are kept may
  pub may_less : (moves : Around) → moves ≡ less_offered a s → MayOffer goal id key rank a c space
      → MayOffer goal id key rank moves c space
  may_less moves less m =
      subst (λ (b : Around). MayOffer goal id key rank b c space) (sym less) (kept_may m)

module _ (g : GridData) (goal : Cell) (id : ℕ) (n : Node) (cell : Cell) (a moves : Around) (s : Behind)
    (rank : ℕ) (at : cell ≡ node_cell n) (around : IsAround g cell a) (less : moves ≡ less_offered a s)
    (left : rank ≡ rank_left goal n) where
  around_node : IsAround g (node_cell n) a
  around_node = subst (λ (c : Cell). IsAround g c a) at around

  -- the moves that are kept may be offered
  pub may_offer : (space : SpaceData) → MayExpand g goal id n space
      → MayOffer goal id n.key rank moves cell space
  may_offer space m =
      may_less goal id n.key rank a s cell space moves less
      (subst (λ (r : ℕ). MayOffer goal id n.key r a cell space) (sym left)
      (subst (λ (c : Cell). MayOffer goal id n.key (rank_left goal n) a c space) (sym at)
      (m.may a around_node)))

  -- and then they were
  pub expanded : (old new : Table) (arrival : Option Dir) → s ≡ sides_of arrival
      → arrival ≡ (state_of_place n.place).arrival → new ≡ all_offered goal id rank moves cell all_dirs old
      → HasExpanded g goal id n old new
  expanded old new arrival sides given t = record {
    around = a;
    is_around = around_node;
    table =
        t ∙ ap (λ (r : ℕ). all_offered goal id r moves cell all_dirs old) left
        ∙ ap (λ (b : Around). all_offered goal id (rank_left goal n) b cell all_dirs old) less
        ∙ ap (λ (c : Cell). all_offered goal id (rank_left goal n) (less_offered a s) c all_dirs old) at
        ∙ ap (λ (q : Behind). all_offered goal id (rank_left goal n) (less_offered a q) (node_cell n) all_dirs
        old) (sides ∙ ap (λ (d : Option Dir). sides_of d) given);
  }
