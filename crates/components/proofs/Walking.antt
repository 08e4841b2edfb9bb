-- What ways along the walls come to.
use Rattle.std.proofs.Common.{◌≡◌, ◌≢◌, ℕ, ◌+◌, ◌<◌, ◌≤◌, inl, inr, arith, refl, ap, sym, ◌∙◌, subst}
use Rattle.std.proofs.Common.{Bool, true, false, ◌&&◌, ◌||◌, List, length, get_or, set, length-set}
use Rattle.std.specs.Prelude.{nat_eq, not}
use Rattle.std.proofs.lemmas.Bool.Decides.{nat_tests}
use Rattle.std.proofs.lemmas.List.{get_or-set_same, get_or-set_other}
use Rattle.grid_moves.specs.declared.Cell.{Cell}
use Rattle.grid_moves.specs.declared.Dir.{Dir}
use Rattle.grid_moves.specs.declared.Dir.TheVariants.{N, NE, E, SE, S, SW, W, NW}
use Rattle.grid_moves.specs.declared.ring.Ring.{Ring}
use Rattle.grid_moves.specs.Grid.{AreSides}
use Rattle.grid_moves.specs.Move.{beyond, is_same}
use Rattle.grid_moves.specs.Ring.{is_free_on}
use Rattle.grid_moves.proofs.Legal.{and_both, is_same-cell}
use Rattle.joined_cells.specs.Joined.{Labels, label_of}
use Rattle.components.proofs.Cases.{one_or_not}
use Rattle.components.specs.declared.shape.Shape.{Shape}
use Rattle.components.specs.Walls.{AreJoined, are_diagonal_met, are_met, are_straight_met}
use Rattle.components.specs.Walls.{is_covered, is_labelled}
use Rattle.components.specs.Links.{Chain, IsLink}
use Rattle.components.specs.Meeting.{is_among, linked_dirs}
use Rattle.components.specs.Stored.{labels_in}
use Rattle.components.proofs.Chains.{chain_back, chain_free, chain_on, chain_one, link_back}
use Rattle.components.proofs.Offsets.{are_linked, has_dir, offset}
use Rattle.components.proofs.Rounds.{diagonal, joined_around}
use Rattle.components.proofs.Storing.{labelled_inside, labelled_link}
use Rattle.components.specs.Around.{is_whole}

pub labelled : (p : Labels) (c : Cell) → label_of p c ≢ 0 → is_labelled p c ≡ true
labelled p c n = tests (label_of p c) n
  where
    tests : (n : ℕ) → n ≢ 0 → not (nat_eq n 0) ≡ true
    tests n h = grind (arith, nat_tests)

pub label_some : (p : Labels) (c : Cell) → is_labelled p c ≡ true → label_of p c ≢ 0
label_some p c e = tests (label_of p c) e
  where
    tests : (n : ℕ) → not (nat_eq n 0) ≡ true → n ≢ 0
    tests n h z = grind (arith, nat_tests)

-- what was met
module _ (eight : Bool) (free : Cell → Bool) (start : Cell) where
  pub met_more : (c v : Cell) (met now : Ring)
      → ((d : Dir) → is_free_on now d ≡ true → (is_free_on met d || is_same (beyond d c) v) ≡ true)
      → ((d : Dir) → is_free_on met d ≡ true → Chain eight free start (beyond d c)) → Chain eight free start v
      → (d : Dir) → is_free_on now d ≡ true → Chain eight free start (beyond d c)
  met_more c v met now is were chain d h = by_test (is_free_on met d) refl (is d h)
    where
      by_test : (b : Bool) → is_free_on met d ≡ b → (b || is_same (beyond d c) v) ≡ true
          → Chain eight free start (beyond d c)
      by_test true e k = were d e
      by_test false e k =
          subst (λ (u : Cell). Chain eight free start u) (sym (is_same-cell (beyond d c) v k)) chain

-- a neighbour with a label is found
module _ (shape : Shape) (labels : List ℕ) (sides : AreSides shape.width shape.height) where
  abbrev free : Cell → Bool
  free = is_labelled (labels_in shape labels)

  pub reached : (start from to : Cell) (d : Dir) → to ≡ beyond d from
      → is_among d (linked_dirs shape.eight) ≡ true → Chain shape.eight free start from
      → label_of (labels_in shape labels) to ≢ 0 → Chain shape.eight free start to
  reached start from to d is i chain n =
      let some : label_of (labels_in shape labels) (beyond d from) ≢ 0 = λ z. n
      (ap (λ (v : Cell). label_of (labels_in shape labels) v) is ∙ z) in
      subst (λ (v : Cell). Chain shape.eight free start v) (sym is)
      (chain_on shape.eight free start from (beyond d from) chain
      (chain_one shape.eight free (beyond d from) from
      (labelled (labels_in shape labels) (beyond d from) some)
      (chain_free shape.eight free start from chain)
      (link_back shape.eight from (beyond d from) (labelled_link shape labels sides from d i some))))

  pub on_map : (v : Cell) → free v ≡ true → (v.x < 4096) × (v.y < 4096)
  on_map v f =
      let on = labelled_inside (labels_in shape labels) v (label_some (labels_in shape labels) v f) in
      let x : v.x < shape.width = on.column in
      let y : v.y < shape.height = on.row in
      let w : shape.width ≤ 4096 = sides.narrow in
      let h : shape.height ≤ 4096 = sides.low in
      (omega arith, omega arith)

  pub chain_on_map : (start v : Cell) → Chain shape.eight free start v → (v.x < 4096) × (v.y < 4096)
  chain_on_map start v chain = on_map v (chain_free shape.eight free start v chain)

  -- those around that show it
  pub joined_ring : (c : Cell) (ring : Ring) → ((d : Dir) → is_free_on ring d ≡ free (beyond d c))
      → is_whole shape.eight ring ≡ true → AreJoined shape.eight free c
  joined_ring c ring reads whole = joined_around shape.eight free c ring (λ d h. sym (reads d) ∙ h) on_map
      whole (λ d h. reads d ∙ h)

-- what all were met tells
covered : (a b : Bool) → is_covered a b ≡ true → a ≡ true → b ≡ true
covered true b h e = h
covered false b h e = absurd (let x : false ≡ true = e in cc)

module _ (eight : Bool) (free : Cell → Bool) (c start : Cell) (ring met : Ring)
    (reads : (d : Dir) → is_free_on ring d ≡ free (beyond d c))
    (inside : (v : Cell) → free v ≡ true → (v.x < 4096) × (v.y < 4096))
    (chains : (d : Dir) → is_free_on met d ≡ true → Chain eight free start (beyond d c)) where
  straight_met : are_straight_met ring met ≡ true → (d : Dir) → is_among d (linked_dirs false) ≡ true
      → is_free_on ring d ≡ true → Chain eight free start (beyond d c)
  straight_met h =
      let halves = and_both (is_covered ring.n met.n && is_covered ring.e met.e)
      (is_covered ring.s met.s && is_covered ring.w met.w) h in
      let one = and_both (is_covered ring.n met.n) (is_covered ring.e met.e) halves.0 in
      let other = and_both (is_covered ring.s met.s) (is_covered ring.w met.w) halves.1 in
      by_dir one.0 one.1 other.0 other.1
    where
      by_dir : is_covered ring.n met.n ≡ true → is_covered ring.e met.e ≡ true
          → is_covered ring.s met.s ≡ true → is_covered ring.w met.w ≡ true → (d : Dir)
          → is_among d (linked_dirs false) ≡ true → is_free_on ring d ≡ true
          → Chain eight free start (beyond d c)
      by_dir n e s w N i f = chains N (covered ring.n met.n n f)
      by_dir n e s w NE i f = absurd (let x : false ≡ true = i in cc)
      by_dir n e s w E i f = chains E (covered ring.e met.e e f)
      by_dir n e s w SE i f = absurd (let x : false ≡ true = i in cc)
      by_dir n e s w S i f = chains S (covered ring.s met.s s f)
      by_dir n e s w SW i f = absurd (let x : false ≡ true = i in cc)
      by_dir n e s w W i f = chains W (covered ring.w met.w w f)
      by_dir n e s w NW i f = absurd (let x : false ≡ true = i in cc)

  -- one on a diagonal was met, or stands beside a free cell that was
  corner : eight ≡ true → (d e : Dir) → are_linked true (offset d) (offset e) ≡ true
      → (is_free_on ring e ≡ true → Chain eight free start (beyond e c))
      → (is_free_on met d || is_free_on ring e) ≡ true → is_free_on ring d ≡ true
      → Chain eight free start (beyond d c)
  corner is d e near beside h f = by_test (is_free_on met d) refl h
    where
      by_test : (b : Bool) → is_free_on met d ≡ b → (b || is_free_on ring e) ≡ true
          → Chain eight free start (beyond d c)
      by_test true p q = chains d p
      by_test false p q = chain_on eight free start (beyond e c) (beyond d c) (beside q)
          (chain_one eight free (beyond d c) (beyond e c) (sym (reads d) ∙ f) (sym (reads e) ∙ q)
          (diagonal eight free c ring (λ k g. sym (reads k) ∙ g) inside d e near is f q))

  eight_met : eight ≡ true → are_straight_met ring met ≡ true → are_diagonal_met ring met ≡ true → (d : Dir)
      → is_free_on ring d ≡ true → Chain eight free start (beyond d c)
  eight_met is h k =
      let halves = and_both (is_covered ring.ne (met.ne || ring.n) && is_covered ring.se (met.se || ring.s))
      (is_covered ring.sw (met.sw || ring.s) && is_covered ring.nw (met.nw || ring.n)) k in
      let one = and_both (is_covered ring.ne (met.ne || ring.n)) (is_covered ring.se (met.se || ring.s))
      halves.0 in
      let other = and_both (is_covered ring.sw (met.sw || ring.s)) (is_covered ring.nw (met.nw || ring.n))
      halves.1 in
      by_dir one.0 one.1 other.0 other.1
    where
      by_dir : is_covered ring.ne (met.ne || ring.n) ≡ true → is_covered ring.se (met.se || ring.s) ≡ true
          → is_covered ring.sw (met.sw || ring.s) ≡ true → is_covered ring.nw (met.nw || ring.n) ≡ true
          → (d : Dir) → is_free_on ring d ≡ true → Chain eight free start (beyond d c)
      by_dir ne se sw nw N f = straight_met h N refl f
      by_dir ne se sw nw NE f =
          corner is NE N refl (straight_met h N refl) (covered ring.ne (met.ne || ring.n) ne f) f
      by_dir ne se sw nw E f = straight_met h E refl f
      by_dir ne se sw nw SE f =
          corner is SE S refl (straight_met h S refl) (covered ring.se (met.se || ring.s) se f) f
      by_dir ne se sw nw S f = straight_met h S refl f
      by_dir ne se sw nw SW f =
          corner is SW S refl (straight_met h S refl) (covered ring.sw (met.sw || ring.s) sw f) f
      by_dir ne se sw nw W f = straight_met h W refl f
      by_dir ne se sw nw NW f =
          corner is NW N refl (straight_met h N refl) (covered ring.nw (met.nw || ring.n) nw f) f

  all_met : are_met eight ring met ≡ true → (d : Dir) → is_among d (linked_dirs eight) ≡ true
      → is_free_on ring d ≡ true → Chain eight free start (beyond d c)
  all_met h d i f = by_rule eight refl h i
    where
      by_rule : (b : Bool) → eight ≡ b → are_met b ring met ≡ true → is_among d (linked_dirs b) ≡ true
          → Chain eight free start (beyond d c)
      by_rule false is h i = straight_met
          (and_both (are_straight_met ring met) (is_covered false (are_diagonal_met ring met)) h).0 d i f
      by_rule true is h i =
          let both = and_both (are_straight_met ring met) (is_covered true (are_diagonal_met ring met)) h in
          eight_met is both.0 both.1 d f

  -- where one comes to the start from all around that c is linked with, these are joined
  pub joined_met : are_met eight ring met ≡ true → AreJoined eight free c
  joined_met h u v f g k l =
      chain_on eight free v start u (chain_back eight free start v (one v g l)) (one u f k)
    where
      one : (u : Cell) → free u ≡ true → IsLink eight c u → Chain eight free start u
      one u f k =
          let a = has_dir eight c u k in
          subst (λ (w : Cell). Chain eight free start w) a.is
          (all_met h a.dir a.among (reads a.dir ∙ ap (λ (w : Cell). free w) a.is ∙ f))
