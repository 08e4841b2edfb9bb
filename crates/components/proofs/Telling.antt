-- Walks and chains of linked cells join the same cells.
use Rattle.std.proofs.Common.{◌≡◌, ◌≢◌, ℕ, ◌⊎◌, inl, inr, arith, refl, ap, sym, ◌∙◌, subst}
use Rattle.std.proofs.Common.{Bool, true, false, ◌&&◌, List, [], ◌∷◌}
use Rattle.std.specs.Prelude.{nat_eq, not}
use Rattle.std.proofs.lemmas.Bool.Decides.{nat_tests}
use Rattle.grid_moves.specs.declared.Cell.{Cell}
use Rattle.grid_moves.specs.declared.Corner.{Corner}
use Rattle.grid_moves.specs.declared.Corner.TheVariants.{Never, One, Both}
use Rattle.grid_moves.specs.Grid.{GridData, IsGrid, grid_with, is_free, is_inside}
use Rattle.grid_moves.specs.Move.{corner_of, is_legal, is_passable, may_slip}
use Rattle.grid_moves.specs.Walk.{is_walk, last_of}
use Rattle.grid_moves.proofs.Edited.{is_free-with_other, is_free-with_same, is_grid-with}
use Rattle.grid_moves.proofs.Legal.{IsLegal, and_both, is_legal-from, legal_is, passable-both, same_cell}
use Rattle.grid_moves.proofs.Walks.{walk_free}
use Rattle.joined_cells.specs.Joined.{IsJoined, Labels, TellsJoined, label_of}
use Rattle.joined_cells.proofs.Joining.{joined_itself, joined_more, joined_on}
use Rattle.components.proofs.Cases.{one_or_not, true_or_false}
use Rattle.components.specs.Links.{Chain, IsLink, TellsLinked, here, more}
use Rattle.components.proofs.Chains.{chain_class, chain_free, chain_more, chain_on, chain_one, one_or_other}

slipped : (rule : Corner) → may_slip rule ≡ true → (a b : Bool) → is_passable rule a b ≡ true
slipped Never e a b = absurd (let x : false ≡ true = e in cc)
slipped One e a b = absurd (let x : false ≡ true = e in cc)
slipped Both e a b = refl

-- what a diagonal move passes, where it may not pass between two blocked cells
one_free : (rule : Corner) → may_slip rule ≡ false → (a b : Bool) → is_passable rule a b ≡ true
    → (a ≡ true) ⊎ (b ≡ true)
one_free Never e true b p = inl refl
one_free Never e false b p = absurd (let x : false ≡ true = p in cc)
one_free One e true b p = inl refl
one_free One e false b p = inr p
one_free Both e a b p = absurd (let x : true ≡ false = e in cc)

module _ (g : GridData) where
  abbrev slips : Bool
  slips = may_slip g.corner

  -- free cells that are linked are joined by a move
  link_legal : (u v : Cell) → is_free g u ≡ true → is_free g v ≡ true → IsLink slips u v
      → is_legal g u v ≡ true
  link_legal u v f h l = is_legal-from g u v (record {
    source = f;
    target = h;
    passes = elim l.lined [
      | inl e ↦ straight (same_cell (corner_of u v) v e refl) (same_cell (corner_of v u) u (sym e) refl)
          h f
      | inr (inl e) ↦ straight (same_cell (corner_of u v) u refl (sym e))
          (same_cell (corner_of v u) v refl e) f h
      | inr (inr e) ↦ slipped g.corner e (is_free g (corner_of u v)) (is_free g (corner_of v u))
    ];
    x_low = l.x_low;
    x_high = l.x_high;
    y_low = l.y_low;
    y_high = l.y_high;
    differ = l.differ;
  })
    where
      straight : {a b : Cell} → corner_of u v ≡ a → corner_of v u ≡ b → is_free g a ≡ true
          → is_free g b ≡ true
          → is_passable g.corner (is_free g (corner_of u v)) (is_free g (corner_of v u)) ≡ true
      straight e k p q = rw (ap (λ (c : Cell). is_free g c) e ∙ p, ap (λ (c : Cell). is_free g c) k ∙ q)
          (passable-both g.corner)

  -- and over each move leads a chain
  legal_chain : (u v : Cell) → is_legal g u v ≡ true → Chain slips (is_free g) v u
  legal_chain u v h = elim (one_or_not u.x v.x) [
    | inl e ↦ one (inl e)
    | inr x ↦ elim (one_or_not u.y v.y) [
      | inl e ↦ one (inr (inl e))
      | inr y ↦ elim (true_or_false slips) [
        | inl e ↦ one (inr (inr e))
        | inr e ↦ elim (one_free g.corner e (is_free g (corner_of u v))
            (is_free g (corner_of v u)) l.passes) [
              | inl f ↦ over (corner_of u v) f (record {
                x_low = omega arith;
                x_high = omega arith;
                y_low = l.y_low;
                y_high = l.y_high;
                differ = λ a b. y b;
                lined = inl refl;
              }) (record {
                x_low = l.x_low;
                x_high = l.x_high;
                y_low = omega arith;
                y_high = omega arith;
                differ = λ a b. x a;
                lined = inr (inl refl);
              })
              | inr f ↦ over (corner_of v u) f (record {
                x_low = l.x_low;
                x_high = l.x_high;
                y_low = omega arith;
                y_high = omega arith;
                differ = λ a b. x a;
                lined = inr (inl refl);
              }) (record {
                x_low = omega arith;
                x_high = omega arith;
                y_low = l.y_low;
                y_high = l.y_high;
                differ = λ a b. y b;
                lined = inl refl;
              })
            ]
      ]
    ]
  ]
    where
      l : IsLegal g u v
      l = legal_is g u v h

      one : (u.x ≡ v.x) ⊎ (u.y ≡ v.y) ⊎ (slips ≡ true) → Chain slips (is_free g) v u
      one e = chain_one slips (is_free g) u v l.source l.target (record {
        x_low = l.x_low;
        x_high = l.x_high;
        y_low = l.y_low;
        y_high = l.y_high;
        differ = l.differ;
        lined = e;
      })

      over : (w : Cell) → is_free g w ≡ true → IsLink slips u w → IsLink slips w v
          → Chain slips (is_free g) v u
      over w f a b = chain_on slips (is_free g) v w u (chain_one slips (is_free g) w v f l.target b)
          (chain_one slips (is_free g) u w l.source f a)

  walk_chain : (u : Cell) (cells : List Cell) → is_walk g (u ∷ cells) ≡ true
      → Chain slips (is_free g) (last_of u cells) u
  walk_chain u [] w = here w
  walk_chain u (v ∷ cells) w =
      let parts = and_both (is_legal g u v) (is_walk g (v ∷ cells)) w in
      chain_on slips (is_free g) (last_of v cells) v u (walk_chain v cells parts.1) (legal_chain u v parts.0)

  joined_chain : (s t : Cell) → IsJoined g s t → Chain slips (is_free g) t s
  joined_chain s t j = subst (λ (e : Cell). Chain slips (is_free g) e s) j.walk.ends
      (walk_chain s j.cells j.walk.legal)

  chain_joined : (t s : Cell) → Chain slips (is_free g) t s → IsJoined g s t
  chain_joined t _ (here f) = joined_itself g t f
  chain_joined t _ (more u v f l rest) =
      joined_on g u v t (joined_more g u u v (joined_itself g u f)
      (link_legal u v f (chain_free slips (is_free g) t v rest) l)) (chain_joined t v rest)

  -- what the test of two labels says
  test_says : (m n : ℕ) → (not (nat_eq m 0) && nat_eq m n) ≡ true → (m ≢ 0) × (m ≡ n)
  test_says m n e = ((λ z. grind (arith, nat_tests)), grind (arith, nat_tests))

  test_of : (m n : ℕ) → m ≢ 0 → m ≡ n → (not (nat_eq m 0) && nat_eq m n) ≡ true
  test_of m n a e = grind (arith, nat_tests)

  -- so labels that tell the ones tell the others
  pub tells_walks : (p : Labels) (class : Cell → ℕ) → ((c : Cell) → label_of p c ≡ class c)
      → TellsLinked slips (is_free g) class → TellsJoined g p
  tells_walks p class same tells = record {
    joined = λ s t. (
      (λ e.
          let two = test_says (label_of p s) (label_of p t) e in
          chain_joined t s (tells.joined s t (λ z. two.0 (same s ∙ z)) (sym (same s) ∙ two.1 ∙ same t))),
      (λ j.
          let chain = joined_chain s t j in
          test_of (label_of p s) (label_of p t)
          (λ z. tells.some s (walk_free g s j.cells j.walk.legal) (sym (same s) ∙ z))
          (same s ∙ chain_class slips (is_free g) class tells t s chain ∙ sym (same t))),
    );
  }

  pub tells_links : (p : Labels) (class : Cell → ℕ) → ((c : Cell) → label_of p c ≡ class c) → TellsJoined g p
      → TellsLinked slips (is_free g) class
  tells_links p class same tells = record {
    some = λ c f z. (test_says (label_of p c) (label_of p c)
        ((tells.joined c c).1 (joined_itself g c f))).0 (same c ∙ z);
    none = λ c f. elim (one_or_not (label_of p c) 0) [
      | inl z ↦ sym (same c) ∙ z
      | inr n ↦ absurd (let j = (tells.joined c c).0 (test_of (label_of p c) (label_of p c) n refl) in
          let x : true ≡ false = sym (walk_free g c j.cells j.walk.legal) ∙ f in cc)
    ];
    linked = λ u v f h l. sym (same u) ∙ (test_says (label_of p u) (label_of p v)
        ((tells.joined u v).1 (joined_more g u u v (joined_itself g u f) (link_legal u v f h l)))).1 ∙ same v;
    joined = λ u v n e. joined_chain u v ((tells.joined u v).0
        (test_of (label_of p u) (label_of p v) (λ z. n (sym (same u) ∙ z)) (same u ∙ e ∙ sym (same v))));
  }

-- the same cells are free
pub tells_alike : (eight : Bool) (free other : Cell → Bool) (class : Cell → ℕ)
    → ((c : Cell) → other c ≡ free c) → TellsLinked eight free class → TellsLinked eight other class
tells_alike eight free other class same tells = record {
  some = λ c f. tells.some c (sym (same c) ∙ f);
  none = λ c f. tells.none c (sym (same c) ∙ f);
  linked = λ u v f g l. tells.linked u v (sym (same u) ∙ f) (sym (same v) ∙ g) l;
  joined = λ u v n e. chain_more eight free other (λ c f. same c ∙ f) v u (tells.joined u v n e);
}

-- a grid that is edited
module _ (g : GridData) (grid : IsGrid g) (c : Cell) (inside : is_inside g c ≡ true) (free : Bool) where
  pub edited_others : (u : Cell) → u ≢ c → is_free (grid_with g c free) u ≡ is_free g u
  edited_others u o = is_free-with_other g c u free inside o

  pub edited_here : is_free (grid_with g c free) c ≡ free
  edited_here = is_free-with_same g c free grid inside

  pub edited_as_is : is_free g c ≡ free → (u : Cell) → is_free (grid_with g c free) u ≡ is_free g u
  edited_as_is e u = elim (one_or_other u c) [
    | inl same ↦ ap (λ (v : Cell). is_free (grid_with g c free) v) same ∙ edited_here ∙ sym e
        ∙ ap (λ (v : Cell). is_free g v) (sym same)
    | inr other ↦ edited_others u other
  ]

  pub edited_grid : IsGrid (grid_with g c free)
  edited_grid = is_grid-with g c free grid
