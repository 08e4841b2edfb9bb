use Rattle.std.proofs.Common.{◌≡◌, ◌≤◌, ◌∙◌, length, subst, sym, List}
use Rattle.std.specs.List.{All}
use Rattle.std.proofs.lemmas.Result.{IfOk-weaker}
use Rattle.joined_cells.specs.Both.{HasWalk, are_joined_in}
use Rattle.problem_maker.specs.Tries.{kept_ends, kept_of}
use Rattle.grid_moves.specs.declared.ends.Ends.{Ends}
use Rattle.problem_maker.proofs.Drawn.{kept_is, kept_walks, kept_few}
use Rattle.problem_maker.proofs.tries.make_ends.Goals as goal

pub returns-clause-kept : goal.returns-clause-kept
returns-clause-kept c =
    let ls = c.args.layers.now in
    IfOk-weaker c.kept_ends.result
    (λ kept. kept.items ≡ kept_ends (are_joined_in c.in_ok-joined.joined) c.deref.result.now c.args.seed
    c.args.count) (λ kept. kept.items ≡ kept_of ls c.args.seed c.args.count)
    (λ kept e. kept_is ls c.args.seed c.args.count c.in_ok-joined.joined c.in_ok-joined.ensures.tells
    c.deref.result.now (c.deref.ensures.value ∙ c.in_ok-cells.ensures) kept.items e) c.kept_ends.ensures

pub returns-clause-walks : goal.returns-clause-walks
returns-clause-walks c =
    let ls = c.args.layers.now in
    IfOk-weaker c.kept_ends.result (λ kept. kept.items ≡ kept_of ls c.args.seed c.args.count)
    (λ kept. All (λ ends. HasWalk ls ends.from ends.to) kept.items)
    (λ kept e. subst (λ (k : List Ends). All (λ ends. HasWalk ls ends.from ends.to) k) (sym e)
    (kept_walks ls c.args.seed c.args.count)) (returns-clause-kept c)

pub returns-clause-few : goal.returns-clause-few
returns-clause-few c =
    let ls = c.args.layers.now in
    IfOk-weaker c.kept_ends.result (λ kept. kept.items ≡ kept_of ls c.args.seed c.args.count)
    (λ kept. length kept.items ≤ c.args.count)
    (λ kept e. subst (λ (k : List Ends). length k ≤ c.args.count) (sym e)
    (kept_few ls c.args.seed c.args.count)) (returns-clause-kept c)
