-- What a search has taken, from its beginning to its end.
use Rattle.std.proofs.Common.{◌≡◌, ℕ, suc, ◌*◌, ◌≤◌, length, List, [], ◌∷◌, ◌++◌, refl, ap, sym, ◌∙◌, subst}
use Rattle.std.proofs.Common.{true, map, reverse}
use Rattle.std.proofs.lemmas.List.{reverse-append, length-reverse}
use Rattle.std.specs.Prelude.{Some, slice_get}
use Rattle.root2_cost.specs.declared.Cost.{Cost}
use Rattle.grid_moves.specs.declared.Cell.{Cell}
use Rattle.search_run.specs.Run.{Taken, here, way_to}
use Rattle.best_first.specs.declared.node.Node.{Node}
use Rattle.best_first.specs.declared.state.State.{State}
use Rattle.best_first.specs.declared.state.Layout.{Layout}
use Rattle.best_first.specs.State.{state_number, start_at, state_of_place}
use Rattle.best_first.specs.Mirror.{Offers, IsSearching}
use Rattle.best_first.specs.Rule.{Links, search_rule, IsSearch}
use Rattle.best_first.specs.Node.{state_of}
use Rattle.best_first.specs.Table.{Table, begun, closed_at, IsFirstNode, NoneOpen}
use Rattle.best_first.specs.Progress.{HasTaken, HasOffered, IsExhausted, numbers_of}
use Rattle.best_first.specs.Trace.{IsBack, HasBack, IsWayTo}
use Rattle.best_first.proofs.Mirrors.{some_node}
use Rattle.best_first.proofs.Searching.{at_start, started, going_on, ending}
use Rattle.best_first.proofs.Bounds.{few_taken}
use Rattle.best_first.proofs.Backing.{back_of, back_is_one}

-- one state more is one number more
numbers-next : (width : ℕ) (link : Links) (x : Taken State) (run : List (Taken State))
    → numbers_of width link (x ∷ run)
    ≡ numbers_of width link run ++ state_number width (link.arrived x.parent x.state) ∷ []
numbers-next width link x run = reverse-append (state_number width (link.arrived x.parent x.state) ∷ [])
    (map (λ u. state_number width (link.arrived u.parent u.state)) run)

-- a number is that of the state of a node, read from its place and with how it was come to, whatever from
abbrev pub IsShown : Layout → ℕ → Links → Node → ℕ → Type 0
IsShown layout width link node number =
    (p : State) → link.led p (state_of_place node.place) ≡ true
    → number ≡ state_number width (link.arrived p (state_of layout node))

pub reverse-twice : {X : Type 0} (xs : List X) → reverse (reverse xs) ≡ xs
reverse-twice [] = refl
reverse-twice (x ∷ xs) = ap reverse (reverse-append (x ∷ []) xs) ∙ reverse-append (reverse xs) (x ∷ [])
    ∙ ap (λ (ys : List _). x ∷ ys) (reverse-twice xs)

-- what stands in the place of the last state's node was led there from the state's parent
pub last_led : {layout : Layout} {width : ℕ} {goal : Cell} {link : Links} {start : Cell} {x : Taken State}
    {earlier : List (Taken State)} {at : ℕ} {best : Offers} {k : Table}
    (i : IsSearching layout width goal link start x earlier at best k)
    → link.led x.parent (state_of_place i.node.place) ≡ true
last_led {link = link} {x = x} {earlier = earlier} {at = at} i =
    let o = i.mirrors.in_order at i.node i.node_is in
    let from = (o.taken_by x (here earlier) (sym i.state)).1 in
    ap (λ (s : State). link.led s (state_of_place i.node.place)) from ∙ o.led

-- where states are printed as they are, a number is that of the node's state
pub shown_plainly : (layout : Layout) (width : ℕ) (link : Links) (node : Node) (number : ℕ)
    → ((p s : State) → link.arrived p s ≡ s) → number ≡ state_number width (state_of layout node)
    → IsShown layout width link node number
shown_plainly layout width link node number same e p l =
    e ∙ ap (λ (s : State). state_number width s) (sym (same p (state_of layout node)))

module _ {width height : ℕ} {start goal : Cell} {link : Links}
    (fit : IsSearch width height start goal link) where
  -- at the start
  pub has_begun : (layout : Layout) → link.arrived (start_at start) (start_at start) ≡ start_at start
      → HasTaken layout width goal link start 0 (begun goal start) (state_number width (start_at start) ∷ [])
  has_begun layout e = record {
    last = at_start start;
    earlier = [];
    searching = started layout fit;
    numbered = ap (λ (s : State). state_number width s ∷ []) (sym e);
  }

module _ {layout : Layout} {width height : ℕ} {start goal : Cell} {link : Links}
    (fit : IsSearch width height start goal link) {at : ℕ} {k : Table} {taken : List ℕ} where
  -- after its offers, the next state
  pub next_taken : HasOffered layout width goal link start at k taken
      → (id : ℕ) (node : Node) → IsFirstNode k id → slice_get k.nodes id ≡ Some node
      → (number : ℕ) → IsShown layout width link node number
      → HasTaken layout width goal link start id (closed_at id k) (taken ++ number ∷ [])
  next_taken h id node f read number shown =
      let on = going_on fit h.searching h.open_ended h.all_made id f in
      let one : node ≡ on.1.node = some_node node on.1.node (sym read ∙ on.1.node_is) in
      let state : state_of layout node ≡ on.0.state =
      ap (λ (x : Node). state_of layout x) one ∙ on.1.state in
      let led : link.led on.0.parent (state_of_place node.place) ≡ true =
      ap (λ (x : Node). link.led on.0.parent (state_of_place x.place)) one ∙ last_led on.1 in
      record {
        last = on.0;
        earlier = h.last ∷ h.earlier;
        searching = on.1;
        numbered =
            ap (λ (ns : List ℕ). ns ++ number ∷ []) h.numbered
            ∙ ap (λ (n : ℕ). numbers_of width link (h.last ∷ h.earlier) ++ n ∷ [])
            (shown on.0.parent led
            ∙ ap (λ (s : State). state_number width (link.arrived on.0.parent s)) state)
            ∙ sym (numbers-next width link on.0 (h.last ∷ h.earlier));
      }

  -- or none waits
  pub exhausted : HasOffered layout width goal link start at k taken → NoneOpen k
      → IsExhausted width goal link start taken
  exhausted h none =
      subst (λ (ns : List ℕ). IsExhausted width goal link start ns) (sym h.numbered)
      (ending fit h.searching h.open_ended h.all_made none)

  -- there are at most nine states taken for each cell
  pub taken_fits : HasTaken layout width goal link start at k taken → length taken ≤ height * width * 9
  taken_fits h = rw h.numbered
      (subst (λ n. n ≤ height * width * 9) (sym (length-numbers (h.last ∷ h.earlier)))
      (few_taken fit.posed (h.last ∷ h.earlier) h.searching.run))
    where
      length-map : (run : List (Taken State))
          → length (map (λ u. state_number width (link.arrived u.parent u.state)) run) ≡ length run
      length-map [] = refl
      length-map (x ∷ run) = ap (λ n. suc n) (length-map run)

      length-numbers : (run : List (Taken State)) → length (numbers_of width link run) ≡ length run
      length-numbers run = length-reverse (map (λ u. state_number width (link.arrived u.parent u.state)) run)
          ∙ length-map run

  module _ (h : HasTaken layout width goal link start at k taken) where
    abbrev cells : List Cell
    cells =
        map (λ (u : State). u.cell) (way_to (search_rule width goal link) (h.last ∷ h.earlier) h.last.state)

    last_back : IsBack goal k.nodes at (reverse cells) h.last.cost
    last_back = back_of fit h.searching (h.last ∷ h.earlier) h.searching.run (λ u m. m) h.last
        (here h.earlier) at
        h.searching.node h.searching.node_is h.searching.state

    -- some way leads back from the last state's node
    pub has_back : HasBack goal k.nodes at
    has_back = record {
      cells = reverse cells;
      cost = h.last.cost;
      is_back = last_back;
      few = fit.few (h.last ∷ h.earlier) h.last h.searching.run (here h.earlier);
    }

    -- and the way that was found is the run's
    pub way_is : (points : List Cell) (cost : Cost) → IsWayTo goal k.nodes at points cost
        → (points ≡ map (λ (u : State). u.cell)
        (way_to (search_rule width goal link) (h.last ∷ h.earlier) h.last.state)) × (cost ≡ h.last.cost)
    way_is points cost w =
        let one = back_is_one goal k.nodes at (reverse points) (reverse cells) cost h.last.cost w last_back in
        (sym (reverse-twice points) ∙ ap reverse one.0 ∙ reverse-twice cells, one.1)
