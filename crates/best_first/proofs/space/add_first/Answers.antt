use Rattle.std.proofs.lemmas.Bool.Decides.{nat_tests}
use Rattle.std.proofs.lemmas.Grind.{common_steps}
use Rattle.std.proofs.Common.{arith, ◌≡◌, ℕ, refl, true, false, [], ◌∷◌}
use Rattle.std.specs.Prelude.{Option, Some, None, IsNone, IfSome, slice_get, slice_set}
use Rattle.open_list.specs.OpenList.{OpenList, IsFirst, HasNoneOpen}
use Rattle.best_first.specs.declared.node.Node.{Node}
use Rattle.best_first.specs.Node.{ranks_before}
use Rattle.best_first.proofs.space.add_first.Goals as goal

at_zero : (id : ℕ) → slice_get (true ∷ []) id ≡ Some true → slice_set (true ∷ []) id false ≡ false ∷ []
at_zero id h1 = grind (arith, nat_tests, common_steps)

one_closed : (old new : OpenList Node) (result : Option ℕ) → old.open_at ≡ true ∷ []
    → (IsNone result → HasNoneOpen old) → IfSome result (λ id. IsFirst ranks_before old id)
    → IfSome result (λ id. new ≡ record old { open_at = slice_set old.open_at id false })
    → new.open_at ≡ false ∷ []
one_closed old new None o none first closed = absurd (none refl 0 (rw o refl))
one_closed old new (Some id) o none first closed = grind (arith, nat_tests, common_steps, at_zero)

pub returns-clause-open_at : goal.returns-clause-open_at
returns-clause-open_at g c =
    let opened : c.add.new.self.open_at ≡ true ∷ [] = rw c.add.ensures.open_at (rw c.requires.open_at refl) in
    one_closed c.add.new.self c.pop.new.self c.pop.result opened c.pop.ensures.none.0 c.pop.ensures.first
    c.pop.ensures.closed
