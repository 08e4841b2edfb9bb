use Rattle.std.proofs.Common.{◌≡◌, ◌∙◌, sym, ap, subst}
use Rattle.std.specs.Prelude.{Option, Some, None}
use Rattle.best_first.specs.declared.node.Node.{Node}
use Rattle.plain_search.specs.Offers.{HasExpanded}
use Rattle.plain_search.proofs.offers.offer_all.Goals as goal

one_node : (m n : Node) → Some m ≡ Some n → m ≡ n
one_node m n e = ap (λ (o : Option Node). elim o as (λ _. Node) [ Some v ↦ v | None ↦ m ]) e

pub returns-clause-expanded : goal.returns-clause-expanded
returns-clause-expanded g c = λ n h.
    subst (λ (m : Node). HasExpanded (g.T.Terrain.grid c.args.t.now) c.args.goal c.args.at m
    c.args.space.now.table c.offer_from.new.space.table)
    (one_node c.node-node.result n (sym c.node-node.ensures ∙ h)) c.offer_from.ensures.expanded

pub offer_from-requires-clause-may : goal.offer_from-requires-clause-may
offer_from-requires-clause-may g c = c.requires.may c.node-node.result c.node-node.ensures
