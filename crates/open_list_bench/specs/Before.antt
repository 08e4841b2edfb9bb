-- The order of the nodes of the measure.
use Rattle.std.specs.Prelude.{Bool, ◌||◌, ◌&&◌, nat_lt, nat_eq}
use Rattle.std.proofs.Common.{arith}
use Rattle.std.proofs.lemmas.Bool.Decides.{nat_tests}
use Rattle.open_list.specs.Order.{IsStrictWeakOrder}
use Rattle.open_list_bench.specs.declared.Node.{Node}

-- the smaller sum, and of equal sums the smaller tie
abbrev pub is_before : Node → Node → Bool
is_before a b = nat_lt a.sum b.sum || nat_eq a.sum b.sum && nat_lt a.tie b.tie

pub is_before-order : IsStrictWeakOrder is_before
is_before-order = record {
  not_before_itself = λ a. grind (arith, nat_tests);
  before_is_transitive = λ a b c x y. grind (arith, nat_tests);
  not_before_is_transitive = λ a b c x y. grind (arith, nat_tests);
}
