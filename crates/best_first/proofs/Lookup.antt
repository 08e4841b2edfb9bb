-- Where a state's node is found.
use Rattle.std.proofs.lemmas.Bool.Decides.{nat_tests}
use Rattle.std.proofs.lemmas.Grind.{common_steps}
use Rattle.std.proofs.Common.{arith, ◌≡◌, ℕ, suc, refl, subst, Bool, List, [], ◌∷◌}
use Rattle.std.specs.Prelude.{Option, Some, None, option_map, if◌then◌else◌, slice_get}
use Rattle.std.proofs.lemmas.Option.{same_Some}
use Rattle.best_first.specs.declared.node.Node.{Node}
use Rattle.best_first.specs.declared.state.State.{State}
use Rattle.best_first.specs.declared.state.Layout.{Layout}
use Rattle.best_first.specs.State.{is_same_state}
use Rattle.best_first.specs.Node.{state_of}
use Rattle.best_first.specs.Table.{lookup}
use Rattle.best_first.proofs.States.{is_same_state-state, is_same_state-itself}

-- the node that was found
pub record Found (layout : Layout) (nodes : List Node) (s : State) (id : ℕ) : Type 0 where
  pub node : Node
  pub node_is : slice_get nodes id ≡ Some node
  pub state : state_of layout node ≡ s

module _ (layout : Layout) where
  pub lookup-found : (nodes : List Node) (s : State) (id : ℕ) → lookup layout nodes s ≡ Some id
      → Found layout nodes s id
  lookup-found [] s id h = absurd (cc)
  lookup-found (n ∷ nodes) s id h =
      by_test (λ i e. lookup-found nodes s i e) (is_same_state (state_of layout n) s) refl h
    where
      later : ((i : ℕ) → lookup layout nodes s ≡ Some i → Found layout nodes s i) → (o : Option ℕ)
          → lookup layout nodes s ≡ o → option_map (λ i. suc i) o ≡ Some id → Found layout (n ∷ nodes) s id
      later again None e h = absurd (cc)
      later again (Some i) e h =
          let f = again i e in
          let same : suc i ≡ id = same_Some (suc i) id h in
          subst (λ (j : ℕ). Found layout (n ∷ nodes) s j) same
          (record { node = f.node; node_is = f.node_is; state = f.state })

      by_test : ((i : ℕ) → lookup layout nodes s ≡ Some i → Found layout nodes s i) → (b : Bool)
          → is_same_state (state_of layout n) s ≡ b
          → (if b then Some 0 else option_map (λ i. suc i) (lookup layout nodes s)) ≡ Some id
          → Found layout (n ∷ nodes) s id
      by_test h1 b h2 h3 = grind (arith, nat_tests, common_steps, same_Some, is_same_state-state, later)

  -- where nothing is found no node is of the state
  pub none_found : (nodes : List Node) (s : State) → lookup layout nodes s ≡ None → (id : ℕ) (n : Node)
      → slice_get nodes id ≡ Some n → state_of layout n ≡ s → ⊥
  none_found [] s h id n g e = (cc)
  none_found (x ∷ nodes) s h id n g e =
      by_test (λ l i y. none_found nodes s l i n y e) (is_same_state (state_of layout x) s) refl h id g
    where
      by_test : (lookup layout nodes s ≡ None → (i : ℕ) → slice_get nodes i ≡ Some n → ⊥) → (b : Bool)
          → is_same_state (state_of layout x) s ≡ b
          → (if b then Some 0 else option_map (λ i. suc i) (lookup layout nodes s)) ≡ None
          → (i : ℕ) → slice_get (x ∷ nodes) i ≡ Some n → ⊥
      by_test h1 b h2 h3 i h4 = grind (arith, nat_tests, common_steps, same_Some, is_same_state-itself)

  -- and the other way round
  pub lookup-none : (nodes : List Node) (s : State)
      → ((id : ℕ) (n : Node) → slice_get nodes id ≡ Some n → state_of layout n ≡ s → ⊥)
      → lookup layout nodes s ≡ None
  lookup-none nodes s h = by_lookup (lookup layout nodes s) refl
    where
      by_lookup : (o : Option ℕ) → lookup layout nodes s ≡ o → o ≡ None
      by_lookup None l = refl
      by_lookup (Some id) l = absurd (let f = lookup-found nodes s id l in h id f.node f.node_is f.state)
