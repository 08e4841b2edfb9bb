use Rattle.std.proofs.Common.{rules}
use Rattle.std.proofs.lemmas.List.Sorted.{answers_always}
use Rattle.problem_maker.specs.Ordered.{is_cheaper}
use Rattle.problem_maker.proofs.Insertion.{order_is}
use Rattle.problem_maker.proofs.Stable.{cheaper_ranks, less_by_order}
use Rattle.problem_maker.proofs.sorting.order.Goals as goal

pub returns-clause-ordered : goal.returns-clause-ordered
returns-clause-ordered c = (order_is c.args.problems.now.items).only _ (record {
  same = c.in_ok-sort_by.ensures.permutation;
  rising = c.in_ok-sort_by.ensures.sorted is_cheaper cheaper_ranks
      (answers_always _ _ _ (λ f a r g h. search (rules, less_by_order)));
  stable = c.sort_by.ensures.stable is_cheaper cheaper_ranks
      (answers_always _ _ _ (λ f a r g h. search (rules, less_by_order)));
})
