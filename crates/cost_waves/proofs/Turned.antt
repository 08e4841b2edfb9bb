-- What a least walk costs is the same both ways.
use Rattle.std.proofs.Common.{sym, ◌∙◌, subst, ◌∷◌}
use Rattle.std.specs.Prelude.{Option, Some, None}
use Rattle.root2_cost.specs.declared.Cost.{Cost}
use Rattle.root2_cost.specs.Order.{IsAtMost}
use Rattle.grid_moves.specs.declared.Cell.{Cell}
use Rattle.grid_moves.specs.Grid.{GridData}
use Rattle.grid_moves.specs.Walk.{cost_of}
use Rattle.grid_moves.proofs.Turned.{walk_back}
use Rattle.cost_waves.specs.Begin.{IsLeastCost, IsCostTo}

least_back : (g : GridData) (s t : Cell) (cost : Cost) → IsLeastCost g s t cost → IsLeastCost g t s cost
least_back g s t cost l =
    let b = walk_back g s t l.cells l.least.walk in
    record {
      cells = b.back;
      least = record {
        walk = b.walk;
        least = λ others o.
            let a = walk_back g t s others o in
            subst (λ (p : Cost). IsAtMost p (cost_of (t ∷ others))) (sym b.priced)
            (subst (λ (p : Cost). IsAtMost (cost_of (s ∷ l.cells)) p) a.priced (l.least.least a.back a.walk));
      };
      priced = b.priced ∙ l.priced;
    }

-- the cost from s to t, or that there is none, is right from t to s too
pub cost_back : (g : GridData) (s t : Cell) (o : Option Cost) → IsCostTo g s t o → IsCostTo g t s o
cost_back g s t None none = λ cells w. let a = walk_back g t s cells w in none a.back a.walk
cost_back g s t (Some cost) l = least_back g s t cost l
