use Rattle.std.proofs.Common.{◌≤◌, ◌<◌, ◌/◌, ◌∷◌, ◌∙◌, List, length, arith, ap, sym, subst}
use Rattle.grid_moves.specs.declared.Dir.{Dir}
use Rattle.pruning.specs.Packed.{word_of}
use Rattle.pruning.proofs.Packing.{has_first, is_split, are_none, few_dirs, shown, whole}
use Rattle.pruning.proofs.packed.Packed.split.Goals as goal

pub returns-then-self-eq0-clause-none : goal.returns-then-self-eq0-clause-none
returns-then-self-eq0-clause-none c = grind (arith, are_none)

pub first_of-requires : goal.first_of-requires
first_of-requires c =
    let word = c.self.invariant ∙ ap (λ (ds : List Dir). word_of ds) c.self.view_is in
    let some : 0 < c.self.inside.word = grind arith in
    has_first c.self.inside.word some c.args.self word

pub returns-then-self-eq0-clause-few : goal.returns-then-self-eq0-clause-few
returns-then-self-eq0-clause-few c = grind (arith, few_dirs)

pub invariant_of-result : goal.invariant_of-result
invariant_of-result c =
    let word = c.self.invariant ∙ ap (λ (ds : List Dir). word_of ds) c.self.view_is in
    let some : 0 < c.self.inside.word = grind arith in
    let few = subst (λ (ds : List Dir). length ds ≤ 8) c.self.view_is (few_dirs 8 c.self.inside.word) in
    let split = is_split c.self.inside.word some c.first_of.result c.first_of.ensures c.args.self word in
    let others = ap (λ (ds : List Dir). length ds) split.1 in
    whole (c.self.inside.word / 16) split.0 split.2 (grind (arith, others, few))

pub returns-clause-few : goal.returns-clause-few
returns-clause-few c = grind (arith, few_dirs)

pub returns-clause-some : goal.returns-clause-some
returns-clause-some c =
    let word = c.self.invariant ∙ ap (λ (ds : List Dir). word_of ds) c.self.view_is in
    let some : 0 < c.self.inside.word = grind arith in
    let few = subst (λ (ds : List Dir). length ds ≤ 8) c.self.view_is (few_dirs 8 c.self.inside.word) in
    let split = is_split c.self.inside.word some c.first_of.result c.first_of.ensures c.args.self word in
    let others = ap (λ (ds : List Dir). length ds) split.1 in
    split.1 ∙ ap (λ (ds : List Dir). c.first_of.result ∷ ds)
    (sym (shown (c.self.inside.word / 16) split.0 split.2 (grind (arith, others, few))))
