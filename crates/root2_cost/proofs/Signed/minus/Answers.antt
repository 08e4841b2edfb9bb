use Rattle.root2_cost.proofs.Casts.{difference_small, difference_fits, difference_kept}
use Rattle.root2_cost.proofs.Differences.{same_signed}
use Rattle.root2_cost.proofs.Signed.minus.Goals as goal

pub overflow_sub-result : goal.overflow_sub-result
overflow_sub-result c = difference_fits c.args.self.a c.args.other.a c.requires.a c.requires.other_a

pub overflow_sub-result-2 : goal.overflow_sub-result-2
overflow_sub-result-2 c = difference_fits c.args.self.b c.args.other.b c.requires.b c.requires.other_b

pub returns-clause-difference : goal.returns-clause-difference
returns-clause-difference c =
    same_signed _ _
    (difference_kept c.args.self.a c.args.other.a c.requires.a c.requires.other_a)
    (difference_kept c.args.self.b c.args.other.b c.requires.b c.requires.other_b)

pub returns-clause-a : goal.returns-clause-a
returns-clause-a c =
    rw (difference_kept c.args.self.a c.args.other.a c.requires.a c.requires.other_a)
    (difference_small c.args.self.a c.args.other.a c.requires.a c.requires.other_a)

pub returns-clause-b : goal.returns-clause-b
returns-clause-b c =
    rw (difference_kept c.args.self.b c.args.other.b c.requires.b c.requires.other_b)
    (difference_small c.args.self.b c.args.other.b c.requires.b c.requires.other_b)
