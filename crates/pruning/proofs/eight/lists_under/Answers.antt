use Rattle.std.proofs.Common.{◌≡◌, ◌+◌, List, sym, subst, refl}
use Rattle.grid_moves.specs.declared.Dir.{Dir}
use Rattle.pruning.specs.Numbered.{AreAllowed, allowed_at}
use Rattle.pruning.proofs.Eights.{one_more}
use Rattle.pruning.proofs.eight.lists_under.Goals as goal

pub loop-place-preserved : goal.loop-place-preserved
loop-place-preserved c =
    let next : c.allowed_on.result ≡ allowed_at c.args.corner c.loop-place.place =
    rw (c.allowed_on.ensures, c.ring_of-ring.ensures, c.arrival_of.ensures) refl in
    subst (λ (lists : List (List Dir)). AreAllowed c.args.corner (c.loop-place.place + 1) lists)
    (sym c.in_ok-push.ensures.items)
    (one_more c.args.corner c.loop-place.place c.loop-place.lists.items c.allowed_on.result next
    c.loop-place.invariant)
