-- The order of nodes is a strict weak one.
use Rattle.std.proofs.Common.{arith}
use Rattle.std.proofs.lemmas.Bool.Decides.{nat_tests}
use Rattle.open_list.specs.Order.{IsStrictWeakOrder}
use Rattle.best_first.specs.Node.{ranks_before}

pub ranks_order : IsStrictWeakOrder ranks_before
ranks_order = record {
  not_before_itself = λ a. grind (arith, nat_tests);
  before_is_transitive = λ a b c p q. grind (arith, nat_tests);
  not_before_is_transitive = λ a b c p q. grind (arith, nat_tests);
}
