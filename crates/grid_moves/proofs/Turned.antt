-- A walk turned round is a walk of the same cost.
use Rattle.std.proofs.Common.{◌≡◌, ℕ, arith, refl, ap, sym, ◌∙◌, subst, true, List, [], ◌∷◌}
use Rattle.std.specs.Prelude.{nat_eq}
use Rattle.std.proofs.lemmas.Bool.Decides.{nat_tests}
use Rattle.root2_cost.specs.declared.Cost.{Cost}
use Rattle.root2_cost.specs.Sums.{add_costs}
use Rattle.root2_cost.proofs.Sums.{add_costs-assoc, add_costs-comm, add_costs-no_cost_left}
use Rattle.root2_cost.proofs.Sums.{add_costs-no_cost_right}
use Rattle.grid_moves.specs.declared.Cell.{Cell}
use Rattle.grid_moves.specs.Grid.{GridData}
use Rattle.grid_moves.specs.Move.{is_legal, move_cost}
use Rattle.grid_moves.specs.Walk.{IsWalk, is_walk, cost_of, last_of}
use Rattle.grid_moves.specs.Laws.{HasBack}
use Rattle.grid_moves.proofs.Besides.{passable-turned}
use Rattle.grid_moves.proofs.Legal.{and_both, legal_is, is_legal-from}
use Rattle.grid_moves.proofs.Short.{walk_free}

pub legal_back : (g : GridData) (u v : Cell) → is_legal g u v ≡ true → is_legal g v u ≡ true
legal_back g u v h1 = grind (arith, nat_tests, legal_is, is_legal-from, passable-turned)

nat_eq-turned : (m n : ℕ) → nat_eq m n ≡ nat_eq n m
nat_eq-turned m n = grind (arith, nat_tests)

cost_back : (u v : Cell) → move_cost v u ≡ move_cost u v
cost_back u v = rw (nat_eq-turned v.x u.x, nat_eq-turned v.y u.y) refl

-- the cells of a way to s, and those of a way that went on from there, in the order of the way back
abbrev back_onto : Cell → List Cell → List Cell → List Cell
back_onto s [] done = done
back_onto s (v ∷ cells) done = back_onto v cells (s ∷ done)

record IsTurned (g : GridData) (s : Cell) (cells done : List Cell) : Type 0 where
  pub legal : is_walk g (last_of s cells ∷ back_onto s cells done) ≡ true
  pub ends : last_of (last_of s cells) (back_onto s cells done) ≡ last_of s done
  pub priced : cost_of (last_of s cells ∷ back_onto s cells done)
      ≡ add_costs (cost_of (s ∷ cells)) (cost_of (s ∷ done))

turned : (g : GridData) (s : Cell) (cells done : List Cell) → is_walk g (s ∷ cells) ≡ true
    → is_walk g (s ∷ done) ≡ true → IsTurned g s cells done
turned g s [] done w d =
    record { legal = d; ends = refl; priced = sym (add_costs-no_cost_left (cost_of (s ∷ done))) }
turned g s (v ∷ cells) done w d =
    let parts = and_both (is_legal g s v) (is_walk g (v ∷ cells)) w in
    let rest = turned g v cells (s ∷ done) parts.1 (rw (legal_back g s v parts.0, d) refl) in
    let on = cost_of (v ∷ cells) in
    let before = cost_of (s ∷ done) in
    record {
      legal = rest.legal;
      ends = rest.ends;
      priced = rest.priced ∙ sym (add_costs-assoc on (move_cost v s) before)
          ∙ ap (λ (c : Cost). add_costs c before) (add_costs-comm on (move_cost v s)
          ∙ ap (λ (c : Cost). add_costs c on) (cost_back s v));
    }

pub walk_back : (g : GridData) (s t : Cell) (cells : List Cell) → IsWalk g s t cells → HasBack g s cells t
walk_back g s t cells w =
    let r = turned g s cells [] w.legal (walk_free g s cells w.legal) in
    subst (λ (e : Cell). HasBack g s cells e) w.ends (record {
      back = back_onto s cells [];
      walk = record { legal = r.legal; ends = r.ends };
      priced = r.priced ∙ add_costs-no_cost_right (cost_of (s ∷ cells));
    })
