-- Where the way around a cell ends once at most, the cells that it is linked with are joined without it.
use Rattle.std.proofs.Common.{◌≡◌, ℕ, zero, suc, ◌+◌, ◌-◌, ◌<◌, ◌≤◌, ◌⊎◌, inl, inr, arith, refl, ap, sym}
use Rattle.std.proofs.Common.{◌∙◌, subst, Bool, true, false, ◌&&◌}
use Rattle.std.specs.Prelude.{nat_le, if◌then◌else◌}
use Rattle.std.proofs.lemmas.Bool.Decides.{nat_tests}
use Rattle.grid_moves.specs.declared.Cell.{Cell}
use Rattle.grid_moves.specs.declared.Dir.{Dir}
use Rattle.grid_moves.specs.declared.Dir.TheVariants.{N, NE, E, SE, S, SW, W, NW}
use Rattle.grid_moves.specs.declared.ring.Ring.{Ring}
use Rattle.grid_moves.specs.Move.{beyond, dir_number}
use Rattle.grid_moves.specs.Ring.{is_free_on}
use Rattle.grid_moves.proofs.Dirs.{dir_number-few}
use Rattle.grid_moves.proofs.Legal.{and_both}
use Rattle.components.specs.Around.{clockwise, ends, ends_in, is_on_way, is_passed, is_whole}
use Rattle.components.specs.Links.{IsLink, Chain, here}
use Rattle.components.specs.Meeting.{linked_dirs, is_among}
use Rattle.components.proofs.Chains.{chain_on, chain_one, chain_back}
use Rattle.components.proofs.Offsets.{has_dir, are_linked, offset, stands, link_off}

-- the direction after so many places
abbrev turned : ℕ → Dir → Dir
turned zero d = d
turned (suc n) d = turned n (clockwise d)

turned_number : (d : Dir) → turned (dir_number d) N ≡ d
turned_number N = refl
turned_number NE = refl
turned_number E = refl
turned_number SE = refl
turned_number S = refl
turned_number SW = refl
turned_number W = refl
turned_number NW = refl

module _ (way : Dir → Bool) where
  record IsSplit (m n k : ℕ) (d : Dir) : Type 0 where
    counts : ends_in way d k ≡ ends_in way d m + ends_in way (turned m d) n
    leads : turned k d ≡ turned n (turned m d)

  split : (m n k : ℕ) (d : Dir) → k ≡ m + n → IsSplit m n k d
  split zero n k d e =
      let same : n ≡ k = omega arith in
      subst (λ (j : ℕ). IsSplit 0 n j d) same (record { counts = omega arith; leads = refl })
  split (suc m) n zero d e = absurd (omega arith)
  split (suc m) n (suc k) d e =
      let rest = split m n k (clockwise d) (omega arith) in
      let counts : ends_in way (clockwise d) k
      ≡ ends_in way (clockwise d) m + ends_in way (turned m (clockwise d)) n = rest.counts in
      record { counts = omega arith; leads = rest.leads }

  module _ (eight : Bool) (free : Cell → Bool) (at : Dir → Cell)
      (at_free : (d : Dir) → way d ≡ true → free (at d) ≡ true)
      (step : (d : Dir) → way d ≡ true → way (clockwise d) ≡ true
      → Chain eight free (at (clockwise d)) (at d)) where
    arc : (n : ℕ) (d : Dir) → ends_in way d n ≡ 0 → way d ≡ true → Chain eight free (at (turned n d)) (at d)
    arc zero d e h = here (at_free d h)
    arc (suc n) d e h = by_test (way (clockwise d)) refl (arc n (clockwise d))
      where
        by_test : (b : Bool) → way (clockwise d) ≡ b
            → (ends_in way (clockwise d) n ≡ 0 → way (clockwise d) ≡ true
            → Chain eight free (at (turned n (clockwise d))) (at (clockwise d)))
            → Chain eight free (at (turned (suc n) d)) (at d)
        by_test true f on = chain_on eight free (at (turned (suc n) d)) (at (clockwise d)) (at d)
            (on (omega arith) f) (step d h f)
        by_test false f on =
            let one : ends (way d) (way (clockwise d)) ≡ 1 = rw (h, f) refl in
            absurd (omega arith)

    none_or_some : (n : ℕ) → (n ≡ 0) ⊎ (0 < n)
    none_or_some n = grind arith

    ordered : (i j : ℕ) → i ≤ j → j ≤ 8 → way (turned i N) ≡ true → way (turned j N) ≡ true
        → ends_in way N 8 ≤ 1 → Chain eight free (at (turned j N)) (at (turned i N))
    ordered i j le few p q once =
        let a = split i (j - i) j N (omega arith) in
        let b = split j (8 - j) 8 N (omega arith) in
        let c = split (8 - j) i (8 - j + i) (turned j N) refl in
        let a_counts : ends_in way N j ≡ ends_in way N i + ends_in way (turned i N) (j - i) = a.counts in
        let b_counts : ends_in way N 8 ≡ ends_in way N j + ends_in way (turned j N) (8 - j) = b.counts in
        let c_counts : ends_in way (turned j N) (8 - j + i)
        ≡ ends_in way (turned j N) (8 - j) + ends_in way (turned (8 - j) (turned j N)) i = c.counts in
        let back : turned (8 - j) (turned j N) ≡ N = sym b.leads in
        let again : ends_in way (turned (8 - j) (turned j N)) i ≡ ends_in way N i
        = ap (λ (d : Dir). ends_in way d i) back in
        elim (none_or_some (ends_in way (turned i N) (j - i))) [
          | inl z ↦ subst (λ (d : Dir). Chain eight free (at d) (at (turned i N))) (sym a.leads)
              (arc (j - i) (turned i N) z p)
          | inr some ↦ chain_back eight free (at (turned i N)) (at (turned j N))
              (subst (λ (d : Dir). Chain eight free (at d) (at (turned j N)))
              (c.leads ∙ ap (λ (d : Dir). turned i d) back)
              (arc (8 - j + i) (turned j N) (omega arith) q))
        ]

    order : (m n : ℕ) → (m ≤ n) ⊎ (n ≤ m)
    order m n = grind arith

    pub all_around : (d e : Dir) → way d ≡ true → way e ≡ true → ends_in way N 8 ≤ 1
        → Chain eight free (at e) (at d)
    all_around d e p q once =
        let i : ℕ = dir_number d in
        let j : ℕ = dir_number e in
        let few : dir_number d < 8 = dir_number-few d in
        let small : dir_number e < 8 = dir_number-few e in
        let f : way (turned (dir_number d) N) ≡ true = ap (λ (b : Dir). way b) (turned_number d) ∙ p in
        let g : way (turned (dir_number e) N) ≡ true = ap (λ (b : Dir). way b) (turned_number e) ∙ q in
        subst (λ (a : Dir). Chain eight free (at a) (at d)) (turned_number e)
        (subst (λ (b : Dir). Chain eight free (at (turned (dir_number e) N)) (at b)) (turned_number d)
        (elim (order (dir_number d) (dir_number e)) [
          | inl le ↦ ordered (dir_number d) (dir_number e) le (omega arith) f g once
          | inr le ↦ chain_back eight free (at (turned (dir_number d) N)) (at (turned (dir_number e) N))
              (ordered (dir_number e) (dir_number d) le (omega arith) g f once)
        ]))

-- the cell that stands for a corner: itself where it is linked, else the one before it
abbrev corner_at : Bool → Bool → Cell → Cell → Cell
corner_at eight free own before = if eight && free then own else before

module _ (eight : Bool) (free : Cell → Bool) (a b e : Bool) (first corner last : Cell)
    (a_free : a ≡ true → free first ≡ true) (b_free : b ≡ true → free corner ≡ true)
    (e_free : e ≡ true → free last ≡ true) (in_link : a ≡ true → b ≡ true → IsLink eight first corner)
    (out_link : b ≡ true → e ≡ true → IsLink eight corner last)
    (past : eight ≡ true → a ≡ true → e ≡ true → IsLink eight first last)
    (passed : is_passed eight b a e ≡ true) where
  into_corner : a ≡ true → Chain eight free (corner_at eight b corner first) first
  into_corner p = by_tests eight b refl refl
    where
      by_tests : (k l : Bool) → eight ≡ k → b ≡ l
          → Chain eight free (if k && l then corner else first) first
      by_tests true true f g = chain_one eight free first corner (a_free p) (b_free g) (in_link p g)
      by_tests true false f g = here (a_free p)
      by_tests false l f g = here (a_free p)

  out_of_corner : e ≡ true → Chain eight free last (corner_at eight b corner first)
  out_of_corner p = by_tests eight b refl refl passed
    where
      by_tests : (k l : Bool) → eight ≡ k → b ≡ l → is_passed k l a e ≡ true
          → Chain eight free last (if k && l then corner else first)
      by_tests true true f g h = chain_one eight free corner last (b_free g) (e_free p) (out_link g p)
      by_tests true false f g h =
          let two = and_both a e h in
          chain_one eight free first last (a_free two.0) (e_free p) (past f two.0 p)
      by_tests false true f g h =
          let two = and_both a e h in
          chain_on eight free last corner first
          (chain_one eight free corner last (b_free g) (e_free p) (out_link g p))
          (chain_one eight free first corner (a_free two.0) (b_free g) (in_link two.0 g))
      by_tests false false f g h = absurd (let x : false ≡ true = h in cc)

  corner_free : free (corner_at eight b corner first) ≡ true
  corner_free = by_tests eight b refl refl passed
    where
      by_tests : (k l : Bool) → eight ≡ k → b ≡ l → is_passed k l a e ≡ true
          → free (if k && l then corner else first) ≡ true
      by_tests true true f g h = b_free g
      by_tests true false f g h = a_free (and_both a e h).0
      by_tests false true f g h = a_free (and_both a e h).0
      by_tests false false f g h = absurd (let x : false ≡ true = h in cc)

-- around a cell
module _ (eight : Bool) (free : Cell → Bool) (c : Cell) (ring : Ring)
    (ring_free : (d : Dir) → is_free_on ring d ≡ true → free (beyond d c) ≡ true)
    (inside : (v : Cell) → free v ≡ true → (v.x < 4096) × (v.y < 4096)) where
  link : (d e : Dir) → are_linked eight (offset d) (offset e) ≡ true → is_free_on ring d ≡ true
      → is_free_on ring e ≡ true → IsLink eight (beyond d c) (beyond e c)
  link d e near p q =
      let i = inside (beyond d c) (ring_free d p) in
      let j = inside (beyond e c) (ring_free e q) in
      link_off eight c (beyond d c) (beyond e c) (offset d) (offset e) (stands c d i.0 i.1)
      (stands c e j.0 j.1)
      near

  pub diagonal : (d e : Dir) → are_linked true (offset d) (offset e) ≡ true → eight ≡ true
      → is_free_on ring d ≡ true → is_free_on ring e ≡ true → IsLink eight (beyond d c) (beyond e c)
  diagonal d e near is p q = link d e
      (ap (λ (b : Bool). are_linked b (offset d) (offset e)) is ∙ near) p q

  abbrev place : Dir → Cell
  place N = beyond N c
  place NE = corner_at eight ring.ne (beyond NE c) (beyond N c)
  place E = beyond E c
  place SE = corner_at eight ring.se (beyond SE c) (beyond E c)
  place S = beyond S c
  place SW = corner_at eight ring.sw (beyond SW c) (beyond S c)
  place W = beyond W c
  place NW = corner_at eight ring.nw (beyond NW c) (beyond W c)

  place_free : (d : Dir) → is_on_way eight ring d ≡ true → free (place d) ≡ true
  place_free N h = ring_free N h
  place_free NE h = corner_free eight free ring.n ring.ne ring.e (beyond N c) (beyond NE c) (beyond E c)
      (ring_free N) (ring_free NE) (ring_free E) (link N NE refl) (link NE E refl) (diagonal N E refl) h
  place_free E h = ring_free E h
  place_free SE h = corner_free eight free ring.e ring.se ring.s (beyond E c) (beyond SE c) (beyond S c)
      (ring_free E) (ring_free SE) (ring_free S) (link E SE refl) (link SE S refl) (diagonal E S refl) h
  place_free S h = ring_free S h
  place_free SW h = corner_free eight free ring.s ring.sw ring.w (beyond S c) (beyond SW c) (beyond W c)
      (ring_free S) (ring_free SW) (ring_free W) (link S SW refl) (link SW W refl) (diagonal S W refl) h
  place_free W h = ring_free W h
  place_free NW h = corner_free eight free ring.w ring.nw ring.n (beyond W c) (beyond NW c) (beyond N c)
      (ring_free W) (ring_free NW) (ring_free N) (link W NW refl) (link NW N refl) (diagonal W N refl) h

  step : (d : Dir) → is_on_way eight ring d ≡ true → is_on_way eight ring (clockwise d) ≡ true
      → Chain eight free (place (clockwise d)) (place d)
  step N p q = into_corner eight free ring.n ring.ne ring.e (beyond N c) (beyond NE c) (beyond E c)
      (ring_free N) (ring_free NE) (ring_free E) (link N NE refl) (link NE E refl) (diagonal N E refl) q p
  step NE p q = out_of_corner eight free ring.n ring.ne ring.e (beyond N c) (beyond NE c) (beyond E c)
      (ring_free N) (ring_free NE) (ring_free E) (link N NE refl) (link NE E refl) (diagonal N E refl) p q
  step E p q = into_corner eight free ring.e ring.se ring.s (beyond E c) (beyond SE c) (beyond S c)
      (ring_free E) (ring_free SE) (ring_free S) (link E SE refl) (link SE S refl) (diagonal E S refl) q p
  step SE p q = out_of_corner eight free ring.e ring.se ring.s (beyond E c) (beyond SE c) (beyond S c)
      (ring_free E) (ring_free SE) (ring_free S) (link E SE refl) (link SE S refl) (diagonal E S refl) p q
  step S p q = into_corner eight free ring.s ring.sw ring.w (beyond S c) (beyond SW c) (beyond W c)
      (ring_free S) (ring_free SW) (ring_free W) (link S SW refl) (link SW W refl) (diagonal S W refl) q p
  step SW p q = out_of_corner eight free ring.s ring.sw ring.w (beyond S c) (beyond SW c) (beyond W c)
      (ring_free S) (ring_free SW) (ring_free W) (link S SW refl) (link SW W refl) (diagonal S W refl) p q
  step W p q = into_corner eight free ring.w ring.nw ring.n (beyond W c) (beyond NW c) (beyond N c)
      (ring_free W) (ring_free NW) (ring_free N) (link W NW refl) (link NW N refl) (diagonal W N refl) q p
  step NW p q = out_of_corner eight free ring.w ring.nw ring.n (beyond W c) (beyond NW c) (beyond N c)
      (ring_free W) (ring_free NW) (ring_free N) (link W NW refl) (link NW N refl) (diagonal W N refl) p q

  record IsPlaced (d : Dir) : Type 0 where
    on_way : is_on_way eight ring d ≡ true
    stays : place d ≡ beyond d c

  corner_placed : (own before : Cell) (b a e : Bool) → eight ≡ true → b ≡ true
      → (is_passed eight b a e ≡ true) × (corner_at eight b own before ≡ own)
  corner_placed own before b a e p q = (rw (p, q) refl, rw (p, q) refl)

  placed : (d : Dir) → is_among d (linked_dirs eight) ≡ true → is_free_on ring d ≡ true → IsPlaced d
  placed d i f = by_test eight refl d i f
    where
      by_test : (k : Bool) → eight ≡ k → (d : Dir) → is_among d (linked_dirs k) ≡ true
          → is_free_on ring d ≡ true → IsPlaced d
      by_test k p N i f = record { on_way = f; stays = refl }
      by_test true p NE i f = let x = corner_placed (beyond NE c) (beyond N c) ring.ne ring.n ring.e p f in
          record { on_way = x.0; stays = x.1 }
      by_test k p E i f = record { on_way = f; stays = refl }
      by_test true p SE i f = let x = corner_placed (beyond SE c) (beyond E c) ring.se ring.e ring.s p f in
          record { on_way = x.0; stays = x.1 }
      by_test k p S i f = record { on_way = f; stays = refl }
      by_test true p SW i f = let x = corner_placed (beyond SW c) (beyond S c) ring.sw ring.s ring.w p f in
          record { on_way = x.0; stays = x.1 }
      by_test k p W i f = record { on_way = f; stays = refl }
      by_test true p NW i f = let x = corner_placed (beyond NW c) (beyond W c) ring.nw ring.w ring.n p f in
          record { on_way = x.0; stays = x.1 }
      by_test false p NE i f = absurd (let x : false ≡ true = i in cc)
      by_test false p SE i f = absurd (let x : false ≡ true = i in cc)
      by_test false p SW i f = absurd (let x : false ≡ true = i in cc)
      by_test false p NW i f = absurd (let x : false ≡ true = i in cc)

  at_most_once : (n : ℕ) → nat_le n 1 ≡ true → n ≤ 1
  at_most_once n h = grind (arith, nat_tests)

  -- what the cell is linked with
  pub joined_around : is_whole eight ring ≡ true
      → ((d : Dir) → free (beyond d c) ≡ true → is_free_on ring d ≡ true)
      → (u v : Cell) → free u ≡ true → free v ≡ true → IsLink eight c u → IsLink eight c v
      → Chain eight free v u
  joined_around whole tells u v f g k l =
      let a = has_dir eight c u k in
      let b = has_dir eight c v l in
      let p = placed a.dir a.among (tells a.dir (ap (λ (w : Cell). free w) a.is ∙ f)) in
      let q = placed b.dir b.among (tells b.dir (ap (λ (w : Cell). free w) b.is ∙ g)) in
      subst (λ (w : Cell). Chain eight free w u) (q.stays ∙ b.is)
      (subst (λ (w : Cell). Chain eight free (place b.dir) w) (p.stays ∙ a.is)
      (all_around (is_on_way eight ring) eight free place place_free step a.dir b.dir p.on_way q.on_way
      (at_most_once (ends_in (is_on_way eight ring) N 8) whole)))
