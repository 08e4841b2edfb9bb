use Rattle.std.proofs.Common.{◌∷◌, ◌∙◌, List, arith, ap}
use Rattle.grid_moves.specs.declared.Dir.{Dir}
use Rattle.pruning.specs.Packed.{word_of}
use Rattle.pruning.proofs.Packing.{has_place, shown, whole}
use Rattle.pruning.proofs.packed.Packed.after.Goals as goal

pub put_first-requires : goal.put_first-requires
put_first-requires c = grind (arith, has_place)

pub invariant_of-result : goal.invariant_of-result
invariant_of-result c =
    let word = c.self.invariant ∙ ap (λ (ds : List Dir). word_of ds) c.self.view_is in
    whole c.put_first.result (c.args.d ∷ c.args.self) (c.put_first.ensures.word c.args.self word)
    (grind arith)

pub returns : goal.returns
returns c =
    let word = c.self.invariant ∙ ap (λ (ds : List Dir). word_of ds) c.self.view_is in
    shown c.put_first.result (c.args.d ∷ c.args.self) (c.put_first.ensures.word c.args.self word)
    (grind arith)
