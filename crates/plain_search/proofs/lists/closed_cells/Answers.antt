use Rattle.std.proofs.Common.{◌≡◌, ◌+◌, ◌++◌, ◌∙◌, [], ap, arith, sym, List, ℕ, length}
use Rattle.std.specs.Prelude.{Option}
use Rattle.std.specs.List.{cons_option, filter_map, range_with_len}
use Rattle.root2_cost.specs.declared.Cost.{Cost}
use Rattle.grid_moves.specs.declared.Cell.{Cell}
use Rattle.grid_moves.specs.Grid.{cell_numbered}
use Rattle.plain_search.specs.Lists.{closed_at, closed_of}
use Rattle.plain_search.proofs.Ascending.{made_more}
use Rattle.plain_search.proofs.lists.closed_cells.Goals as goal

pub loop-number-preserved : goal.loop-number-preserved
loop-number-preserved g c =
    let grid = g.T.Terrain.grid c.args.t.now in
    let n : ℕ = c.loop-number.number in
    let make : ℕ → Option (Cell × Cost) = λ k. closed_at grid c.args.ends.from c.args.ends.to c.args.bound
    (cell_numbered grid.width k) in
    c.in_ok-push_some.ensures
    ∙ ap (λ (l : List (Cell × Cost)). l ++ cons_option c.closed_at.result []) c.loop-number.invariant
    ∙ ap (λ (o : Option (Cell × Cost)). filter_map make (range_with_len 0 n)
    ++ cons_option o []) c.closed_at.ensures
    ∙ sym (made_more make n 0 n (n + 1) (omega arith) (omega arith))

pub returns : goal.returns
unfolding closed_of
returns g c =
    let grid = g.T.Terrain.grid c.args.t.now in
    let all : c.loop-number.number ≡ length c.args.costs.now = omega arith in
    c.of.ensures ∙ c.loop-number.invariant
    ∙ ap (λ (n : ℕ). filter_map
    (λ k. closed_at grid c.args.ends.from c.args.ends.to c.args.bound (cell_numbered grid.width k))
    (range_with_len 0 n))
    (all ∙ c.requires.costs.as_many)
