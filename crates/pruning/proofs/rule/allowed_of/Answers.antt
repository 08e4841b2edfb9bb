use Rattle.std.proofs.Common.{◌≡◌, [], ◌∷◌, subst}
use Rattle.std.specs.Prelude.{filter}
use Rattle.grid_moves.specs.declared.Corner.{Corner}
use Rattle.grid_moves.specs.declared.Dir.TheVariants.{NE, E, SE, S, SW, W, NW}
use Rattle.grid_moves.specs.Move.{all_dirs}
use Rattle.pruning.specs.declared.Arrival.{Arrival}
use Rattle.pruning.specs.Numbered.{arrival_of}
use Rattle.pruning.specs.Ring.{is_allowed_on}
use Rattle.pruning.proofs.rule.allowed_of.Goals as goal

pub returns : goal.returns
returns g c =
    let gathered : c.put_allowed.result ≡ filter
    (is_allowed_on c.rule_of_number-rule.result c.args.ring c.arrival_of-by.result) all_dirs =
    c.put_allowed.ensures.kept (NE ∷ E ∷ SE ∷ S ∷ SW ∷ W ∷ NW ∷ [])
    (c.put_allowed-ne.ensures.kept (E ∷ SE ∷ S ∷ SW ∷ W ∷ NW ∷ [])
    (c.put_allowed-e.ensures.kept (SE ∷ S ∷ SW ∷ W ∷ NW ∷ [])
    (c.put_allowed-se.ensures.kept (S ∷ SW ∷ W ∷ NW ∷ [])
    (c.put_allowed-s.ensures.kept (SW ∷ W ∷ NW ∷ [])
    (c.put_allowed-sw.ensures.kept (W ∷ NW ∷ [])
    (c.put_allowed-w.ensures.kept (NW ∷ []) (c.put_allowed-nw.ensures.kept [] c.new.ensures))))))) in
    subst (λ (r : Corner). c.put_allowed.result ≡ filter
    (is_allowed_on r c.args.ring (arrival_of g.row.BY)) all_dirs) c.rule_of_number-rule.ensures
    (subst (λ (a : Arrival). c.put_allowed.result ≡ filter
    (is_allowed_on c.rule_of_number-rule.result c.args.ring a) all_dirs) c.arrival_of-by.ensures gathered)
