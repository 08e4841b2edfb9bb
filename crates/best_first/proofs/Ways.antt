-- A taken state's offers over its links make the least offers those after it.
use Rattle.std.proofs.lemmas.Bool.Decides.{nat_tests}
use Rattle.std.proofs.lemmas.Grind.{common_steps}
use Rattle.std.proofs.Common.{arith, ◌≡◌, ℕ, ◌⊎◌, inl, inr, List, [], ◌∷◌, refl, ap, sym, ◌∙◌, Bool, false}
use Rattle.std.specs.Prelude.{Option, Some, None, if◌then◌else◌}
use Rattle.std.proofs.lemmas.Option.{same_Some}
use Rattle.root2_cost.specs.declared.Cost.{Cost}
use Rattle.root2_cost.specs.Sums.{add_costs}
use Rattle.grid_moves.specs.declared.Cell.{Cell}
use Rattle.grid_moves.specs.Move.{is_same}
use Rattle.search_run.specs.Run.{Taken, Offer, is_taken, lesser, least_offer}
use Rattle.best_first.specs.declared.state.State.{State}
use Rattle.best_first.specs.State.{is_same_state}
use Rattle.best_first.specs.Rule.{Links, search_rule}
use Rattle.best_first.specs.Mirror.{Offers}
use Rattle.best_first.specs.Ways.{Onward, IsAmong, first, later, with_onward, with_all}
use Rattle.best_first.proofs.States.{is_same_state-state, is_same_state-itself, same_or_not}

-- what is so of the first way, and of one among the others, is so of one among all
pub of_among : (P : Onward → Type 0) {w e : Onward} {ways : List Onward} → P e → (IsAmong w ways → P w)
    → IsAmong w (e ∷ ways) → P w
of_among P h1 h2 h3 = grind (arith, nat_tests, common_steps)

lesser-none : (o : Option (Offer State)) → lesser o None ≡ o
lesser-none o = grind (arith, nat_tests, common_steps)

module _ (width : ℕ) (goal : Cell) (link : Links) (y : Taken State) where
  -- each of the ways is a link of the taken state
  abbrev pub AreOfLinks : List Onward → Type 0
  AreOfLinks ways = (w : Onward) → IsAmong w ways → link.step y.parent y.state w.to ≡ Some w.cost

  module _ (s : State) (c : Cost) (linked : link.step y.parent y.state s ≡ Some c) where
    abbrev made : Option (Offer State)
    made = Some (record { cost = add_costs y.cost c; from = y.state })

    -- offering the same once more changes nothing
    itself : (b : Bool) → (if b then made else made) ≡ made
    itself b = grind (arith, nat_tests, common_steps)

    again : (b : Option (Offer State)) → lesser (lesser b made) made ≡ lesser b made
    again b = grind (arith, nat_tests, common_steps, itself)

    -- over one of its links
    one_over : (best : Offers) (w : Onward) → link.step y.parent y.state w.to ≡ Some w.cost
        → ((w ≡ record { to = s; cost = c }) × (with_onward y best w s ≡ lesser (best s) made))
        ⊎ (with_onward y best w s ≡ best s)
    one_over best w l = grind (arith, nat_tests, common_steps, same_or_not, is_same_state-state, same_Some)

    -- once offered it stays so
    stays_made : (ways : List Onward) (best : Offers) (b : Option (Offer State)) → AreOfLinks ways
        → best s ≡ lesser b made → with_all y best ways s ≡ lesser b made
    stays_made [] best b l e = e
    stays_made (w ∷ ways) best b l e =
        stays_made ways (with_onward y best w) b (λ v i. l v (later w ways i))
        (elim (one_over best w (l w (first ways))) [
          | inl h ↦ h.1 ∙ ap (λ (o : Option (Offer State)). lesser o made) e ∙ again b
          | inr h ↦ h ∙ e
        ])

    -- a link among the ways is offered
    is_made : (ways : List Onward) (best : Offers) → AreOfLinks ways
        → IsAmong (record { to = s; cost = c }) ways
        → with_all y best ways s ≡ lesser (best s) made
    is_made [] best l i = elim i [ ]
    is_made (w ∷ ways) best l (first z) =
        stays_made ways (with_onward y best w) (best s) (λ v i. l v (later w ways i))
        (rw (is_same_state-itself s) refl)
    is_made (w ∷ ways) best l (later z v i) = elim (one_over best w (l w (first ways))) [
      | inl h ↦ stays_made ways (with_onward y best w) (best s) (λ v i. l v (later w ways i)) h.1
      | inr h ↦ is_made ways (with_onward y best w) (λ v i. l v (later w ways i)) i
          ∙ ap (λ (o : Option (Offer State)). lesser o made) h
    ]

    -- any of them may be
    either : (ways : List Onward) (best : Offers) → AreOfLinks ways
        → (with_all y best ways s ≡ lesser (best s) made) ⊎ (with_all y best ways s ≡ best s)
    either [] best l = inr refl
    either (w ∷ ways) best l = elim (one_over best w (l w (first ways))) [
      | inl h ↦ inl (stays_made ways (with_onward y best w) (best s) (λ v i. l v (later w ways i)) h.1)
      | inr h ↦ elim (either ways (with_onward y best w) (λ v i. l v (later w ways i))) [
        | inl g ↦ inl (g ∙ ap (λ (o : Option (Offer State)). lesser o made) h)
        | inr g ↦ inr (g ∙ h)
      ]
    ]

  -- where no link leads nothing is offered
  none_made : (s : State) → link.step y.parent y.state s ≡ None → (ways : List Onward) (best : Offers)
      → AreOfLinks ways
      → with_all y best ways s ≡ best s
  none_made s n [] best l = refl
  none_made s n (w ∷ ways) best l =
      none_made s n ways (with_onward y best w) (λ v i. l v (later w ways i))
      ∙ elim (same_or_not (is_same_state w.to s)) [
        | inl t ↦ absurd (let one : w.to ≡ s = is_same_state-state w.to s t in
            let e : Some w.cost ≡ None =
            sym (l w (first ways)) ∙ ap (λ (u : State). link.step y.parent y.state u) one ∙ n in cc)
        | inr f ↦ rw f refl
      ]

  -- a link to a state that was not taken is among the ways, or offering over it changes nothing
  abbrev pub AreEnough : List (Taken State) → List Onward → Type 0
  AreEnough earlier ways =
      (v : State) (c : Cost) → is_taken (search_rule width goal link) (y ∷ earlier) v ≡ false
      → link.step y.parent y.state v ≡ Some c → IsAmong (record { to = v; cost = c }) ways
      ⊎ (least_offer (search_rule width goal link) (y ∷ earlier) v
      ≡ least_offer (search_rule width goal link) earlier v)

  -- then its offers make the least offers those after it
  pub offers_after : (earlier : List (Taken State)) (ways : List Onward) → is_same y.state.cell goal ≡ false
      → AreOfLinks ways → AreEnough earlier ways → (s : State)
      → is_taken (search_rule width goal link) (y ∷ earlier) s ≡ false
      → with_all y (least_offer (search_rule width goal link) earlier) ways s
      ≡ least_offer (search_rule width goal link) (y ∷ earlier) s
  offers_after earlier ways open_ended l enough s untaken =
      grind (arith, nat_tests, common_steps, none_made, lesser-none, is_made, either)
