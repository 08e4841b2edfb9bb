-- One step of the search, on each grid on which the query is served.
use Rattle.std.proofs.lemmas.Bool.Decides.{nat_tests}
use Rattle.std.proofs.lemmas.Grind.{common_steps}
use Rattle.std.proofs.Common.{◌≡◌, ℕ, ◌+◌, ◌*◌, ◌<◌, ◌≤◌, ap, sym, ◌∙◌, subst, true, false, List, [], ◌∷◌}
use Rattle.std.proofs.Common.{◌++◌, length, arith}
use Rattle.std.specs.Prelude.{Option, Some, IsTrue, slice_get}
use Rattle.std.specs.List.{AllByRecursion}
use Rattle.root2_cost.specs.Rank.{rank_of}
use Rattle.grid_moves.specs.declared.Cell.{Cell}
use Rattle.grid_moves.specs.declared.Dir.{Dir}
use Rattle.grid_moves.specs.Grid.{GridData, is_free}
use Rattle.grid_moves.specs.Move.{is_same, all_dirs}
use Rattle.grid_moves.specs.Points.{estimate}
use Rattle.pruning.specs.declared.Arrival.{Arrival}
use Rattle.pruning.specs.Allowed.{is_allowed, allowed_dirs, come_to}
use Rattle.pruning.specs.Source.{StepsByCall, IsWithin, CanArrive}
use Rattle.pruning.proofs.Packing.{few_kept}
use Rattle.best_first.specs.declared.node.Node.{Node}
use Rattle.best_first.specs.declared.state.Layout.{Layout}
use Rattle.best_first.specs.Progress.{HasOffered}
use Rattle.best_first.specs.Space.{SpaceData, KeepsShape}
use Rattle.best_first.specs.State.{state_number, state_of_place}
use Rattle.best_first.specs.Table.{Table, closed_at, IsFirstNode, NoneOpen}
use Rattle.best_first.specs.Trace.{node_cell}
use Rattle.search_core.specs.Counting.{IsCounted}
use Rattle.search_core.specs.Jumps.{jump_links}
use Rattle.search_core.specs.Jumping.{last_at, jumped, IsOffering, HasReached}
use Rattle.search_core.specs.Answer.{IsExhausted}
use Rattle.search_core.specs.Serving.{OnSome, OnEach}
use Rattle.search_core.specs.declared.jumping.Last.{Last}
use Rattle.search_core.proofs.Arrivals.{HasArrived}
use Rattle.search_core.proofs.Counting.{within_then}
use Rattle.search_core.proofs.Offers.{all_allowed}
use Rattle.search_core.proofs.Serving.{same_shape}
use Rattle.search_core.proofs.Standing.{HasNext, key_enough, offering_at, arrived_at, offered_at, none_waits}
use Rattle.search_core.proofs.Standing.{has_next, reached_next}

-- a state's steps: a call for its directions, and one for each of eight
pub counted_one : {most : Option StepsByCall} {fewest : ℕ} (n : ℕ) {a b c : ℕ} → n ≤ 8
    → IsWithin most (λ known. known.allowed) a b → IsWithin most (λ known. n * known.stop) b c
    → a + fewest ≤ b
    → b ≤ c → IsCounted most fewest 1 a c
counted_one n few first then low on = record {
  within = grind (arith, nat_tests, common_steps, within_then);
  at_least = omega arith;
}
  where
    times : (n s : ℕ) → n ≤ 8 → n * s ≤ 8 * s
    times n s h = grind arith

module _ {layout : Layout} {Stands : GridData → Type 0} {s t : Cell} {at : ℕ} {old mid : SpaceData}
    {taken : List ℕ}
    (reached : OnEach Stands s t (λ g. HasReached layout g s t at old taken)) (shape : KeepsShape old mid)
    (table : mid.table ≡ old.table) where
  pub ranked : OnSome Stands s t → (n : Node) → slice_get mid.table.nodes at ≡ Some n
      → rank_of (estimate (node_cell n) t) ≤ n.key
  ranked some n read = key_enough some.1 (reached some.0 some.1)
      (ap (λ (k : Table). slice_get k.nodes at) (sym table) ∙ read)

  module _ {last : Last} (known : (n : Node) → slice_get mid.table.nodes at ≡ Some n → last ≡ last_at t at n)
      {by : Arrival} (by_is : by ≡ come_to last.state.arrival) where
    arrived : OnEach Stands s t (λ g. HasArrived g last.state)
    arrived g v = arrived_at v (reached g v) shape table known

    can_arrive : OnEach Stands s t (λ g. CanArrive g last.state.cell by)
    can_arrive g v = subst (λ (a : Arrival). CanArrive g last.state.cell a) (sym by_is) (arrived g v).arrival

    pub can_call : OnSome Stands s t
        → (g : GridData) × Stands g × IsTrue (is_free g last.state.cell) × CanArrive g last.state.cell by
    can_call some =
        (some.0, some.1.stands, (arrived some.0 some.1).free, can_arrive some.0 some.1)

    pub offering : OnEach Stands s t (λ g. IsOffering layout g s t last mid)
    offering g v = offering_at v (reached g v) shape table known

    module _ {dirs : List Dir}
        (rule : (g : GridData) → Stands g → IsTrue (is_free g last.state.cell)
        → CanArrive g last.state.cell by
        → dirs ≡ allowed_dirs g last.state.cell by) where
      allowed : OnEach Stands s t (λ g. dirs ≡ allowed_dirs g last.state.cell (come_to last.state.arrival))
      allowed g v = rule g v.stands (arrived g v).free (can_arrive g v)
          ∙ ap (λ (a : Arrival). allowed_dirs g last.state.cell a) by_is

      -- there are at most eight of them
      pub few_allowed : OnSome Stands s t → length dirs ≤ 8
      few_allowed some =
          let all = ap (λ (ds : List Dir). length ds) (allowed some.0 some.1) in
          let few = few_kept (is_allowed some.0 last.state.cell (come_to last.state.arrival)) all_dirs in
          omega (arith, all, few)

      pub each_allowed : OnEach Stands s t (λ g. AllByRecursion
          (λ d. is_allowed g last.state.cell (come_to last.state.arrival) d ≡ true) dirs)
      each_allowed g v =
          (all_allowed g last.state.cell (come_to last.state.arrival) dirs (allowed g v)).each

      module _ {done : SpaceData} (jumps : OnEach Stands s t
          (λ g. done.table ≡ jumped layout g t last dirs mid.table))
          (shape_on : KeepsShape mid done)
          (open_ended : (n : Node) → slice_get old.table.nodes at ≡ Some n → is_same (node_cell n) t
          ≡ false) where
        offered : OnEach Stands s t (λ g. HasOffered layout g.width t (jump_links layout g t) s at done.table
            taken)
        offered g v = offered_at v (reached g v) shape table known (allowed g v) (jumps g v) open_ended

        pub ended : NoneOpen done.table → OnEach Stands s t (λ g. IsExhausted layout g s t taken)
        ended none g v = none_waits v (reached g v).of.whole (offered g v) none

        module _ {id : ℕ} (first : IsFirstNode done.table id) {node : Node} (new : SpaceData)
            (read : slice_get new.table.nodes id ≡ Some node) (nodes : new.table.nodes ≡ done.table.nodes)
          where
            next : OnEach Stands s t (λ g. HasNext layout g s t id node done.table taken)
            next g v = has_next v (reached g v).of.whole (offered g v) first
                (ap (λ (ns : List Node). slice_get ns id) (sym nodes) ∙ read)

            pub on_map : OnSome Stands s t
                → (g : GridData) × Stands g × ((node_cell node).x < g.width) × ((node_cell node).y < g.height)
            on_map some = let n = next some.0 some.1 in (some.0, some.1.stands, n.on, n.row)

            pub reached_on : KeepsShape done new → new.table ≡ closed_at id done.table → {number : ℕ}
                → ((g : GridData) → Stands g → number ≡ state_number g.width (state_of_place node.place))
                → {after : List ℕ} → after ≡ taken ++ number ∷ []
                → OnEach Stands s t (λ g. HasReached layout g s t id new after)
            reached_on shape_last closed is pushed g v =
                reached_next v (same_shape (same_shape (reached g v).of shape) shape_on) shape_last
                (next g v) closed (pushed ∙ ap (λ (n : ℕ). taken ++ n ∷ []) (is g v.stands))
