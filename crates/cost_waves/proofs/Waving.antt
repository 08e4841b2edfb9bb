-- A wave, cell by cell, and one wave after another.
use Rattle.std.proofs.Common.{◌≡◌, ℕ, ◌+◌, ◌*◌, ◌^◌, ◌<◌, ◌≤◌, inl, inr, arith, refl, ap, sym, ◌∙◌, subst}
use Rattle.std.proofs.Common.{Bool, true, false, List, [], ◌∷◌, length}
use Rattle.std.specs.Prelude.{Some, slice_get, nat_lt, nat_eq, ◌&&◌, if◌then◌else◌}
use Rattle.std.proofs.lemmas.Bool.{cases_lt}
use Rattle.std.proofs.lemmas.Bool.Decides.{nat_tests}
use Rattle.std.proofs.lemmas.Option.{slice_get_within}
use Rattle.root2_cost.specs.Rank.{straight_rank, diagonal_rank}
use Rattle.grid_moves.specs.declared.Cell.{Cell}
use Rattle.grid_moves.specs.Grid.{GridData, IsGrid, is_inside}
use Rattle.grid_moves.specs.Move.{all_dirs}
use Rattle.cost_waves.specs.Front.{Front, spread}
use Rattle.cost_waves.specs.Wave.{rank_at, known_count, Waits, AllWait, Held, before, in_now, in_next}
use Rattle.cost_waves.specs.Wave.{in_after, Keeps, IsSettled, IsReady, IsMidway, settled, source_at}
use Rattle.cost_waves.proofs.Keeping.{Follows, few}
use Rattle.grid_moves.proofs.Places.{is_on, free_on, on_inside}
use Rattle.cost_waves.proofs.Lists.{count_low}
use Rattle.cost_waves.proofs.Settling.{IsSource, has_spread, settled_on}
use Rattle.grid_moves.proofs.Dirs.{in_all}
use Rattle.cost_waves.proofs.Walks.{way_by_more}

module _ (g : GridData) (s : Cell) (whole : IsGrid g) (floor : ℕ) (now : List Cell) where
  -- offers of a cell leave the wave ready
  still_ready : (f f' : Front) → Keeps g s floor now f' → Follows g floor f f' → IsReady g s floor now f
      → IsReady g s floor now f'
  still_ready f f' k a r = record {
    keeps = k;
    settled = λ u i h. (
        let back = a.back u (is_on g u i) (omega arith) in
        settled_on g floor s f f' a u (omega arith) (r.settled u i (omega arith)));
  }

  -- a cell of the list is a source, unless it was settled by a wave before
  source_of : 0 < floor → (f : Front) → IsReady g s floor now f → (c : Cell) → Waits g floor f.ranks c
      → floor ≤ rank_at g f.ranks c → IsSource g s floor f (source_at g c f)
  source_of above f r c w low =
      let m = few g whole f r.keeps.ranked in
      let b = w.below in
      let h = w.reached in
      record {
        free = w.free;
        rank = refl;
        low = low;
        high = w.below;
        known = omega arith;
        sound = λ d b v e t. way_by_more g s c v d e (rank_at g f.ranks c) b
            (r.keeps.begins c b (on_inside g c (free_on g c w.free)) t);
        own = λ e d. absurd (
            let zero_rank : rank_at g f.ranks c ≡ 0 = ap (λ (v : Cell). rank_at g f.ranks v) e
            ∙ r.keeps.start in
            omega arith);
        same = λ d b t. t;
      }

  -- one more cell of the list
  pub midway_more : 0 < floor → (f : Front) (i : ℕ) (c : Cell) → IsMidway g s floor now i f
      → slice_get now i ≡ Some c → IsMidway g s floor now (i + 1) (settled g floor c f)
  midway_more above f i c m e = by_test (nat_lt (rank_at g f.ranks c) floor) refl
    where
      w : Waits g floor f.ranks c
      w = m.ready.keeps.wait_now i c e

      inside : is_inside g c ≡ true
      inside = on_inside g c (free_on g c w.free)

      -- the cells up to this one
      up_to : (f' : Front) → ((j : ℕ) (u : Cell) → j < i → slice_get now j ≡ Some u → IsSettled g s f' u)
          → IsSettled g s f' c → (j : ℕ) (u : Cell) → j < i + 1 → slice_get now j ≡ Some u
          → IsSettled g s f' u
      up_to f' old new j u h p = elim (cases_lt j i) [
        | inl less ↦ old j u less p
        | inr more ↦
            let last : i ≡ j = omega arith in
            let same : c ≡ u = cc in
            subst (λ (v : Cell). IsSettled g s f' v) same new
      ]

      by_test : (b : Bool) → nat_lt (rank_at g f.ranks c) floor ≡ b → IsMidway g s floor now (i + 1)
          (if b then f else spread g (floor + 2 * straight_rank) (source_at g c f) all_dirs f)
      by_test true t = record {
        ready = m.ready;
        settled = up_to f m.settled (m.ready.settled c inside (grind (arith, nat_tests)));
      }
      by_test false t =
          let low : floor ≤ rank_at g f.ranks c = grind (arith, nat_tests) in
          let f' : Front = spread g (floor + 2 * straight_rank) (source_at g c f) all_dirs f in
          let h = has_spread g s whole floor now (floor + 2 * straight_rank) refl (source_at g c f) all_dirs f
          m.ready.keeps (source_of above f m.ready c w low) in
          record {
            ready = still_ready f f' h.keeps h.follows m.ready;
            settled = up_to f' (λ j u q p. settled_on g floor s f f' h.follows u
                (m.ready.keeps.wait_now j u p).below (m.settled j u q p))
                (λ d v q. h.relaxed d v (in_all d) q);
          }

-- the front of the next wave
abbrev pub turned : Front → Front
turned f = record { ranks = f.ranks; firsts = f.firsts; next = f.after; after = [] }

none_waits : (g : GridData) (low : ℕ) (ranks : List ℕ) → AllWait g low ranks []
none_waits g low ranks j c e = absurd (let p = slice_get_within [] j c e in omega arith)

pub turn_ready : (g : GridData) (s : Cell) (floor : ℕ) (now : List Cell) (f : Front) → floor < 2 ^ 61
    → IsMidway g s floor now (length now) f → IsReady g s (floor + straight_rank) f.next (turned f)
turn_ready g s floor now f small m = record {
  keeps = record {
    ranked = k.ranked;
    bytes = k.bytes;
    home = k.home;
    start = k.start;
    quiet = k.quiet;
    ways = k.ways;
    begins = k.begins;
    dirs_reached = k.dirs_reached;
    held = λ c i h. held_next c (rank_at g f.ranks c) (k.held c i h);
    bounded = k.bounded;
    wait_now = k.wait_next;
    wait_next = k.wait_after;
    wait_after = none_waits g _ f.ranks;
  };
  settled = λ u i h. settled_then u (settled_now u i h (k.held u i (omega arith)));
}
  where
    settled_then : (u : Cell) → IsSettled g s f u → IsSettled g s (turned f) u
    settled_then u h d v e = let r = h d v e in record { low = r.low; own = r.own; same = r.same }

    k : Keeps g s floor now f
    k = m.ready.keeps

    held_next : (c : Cell) (r : ℕ) → Held floor now f.next f.after c r
        → Held (floor + straight_rank) f.next f.after [] c r
    held_next c r (before h) = before (omega arith)
    held_next c r (in_now h a) = before h
    held_next c r (in_next l h a) = in_now h a
    held_next c r (in_after l h a) = in_next l h a

    settled_now : (u : Cell) → is_inside g u ≡ true → rank_at g f.ranks u < floor + straight_rank
        → Held floor now f.next f.after u (rank_at g f.ranks u) → IsSettled g s f u
    settled_now u i h (before l) = m.ready.settled u i l
    settled_now u i h (in_now l a) = m.settled a.place u (slice_get_within now a.place u a.is) a.is
    settled_now u i h (in_next l q a) = absurd (omega arith)
    settled_now u i h (in_after l q a) = absurd (omega arith)

-- while some cell waits, the wave is not far
pub floor_low : (g : GridData) (s : Cell) → IsGrid g → (floor : ℕ) (now : List Cell) (f : Front)
    → IsReady g s floor now f → (nat_eq (length now) 0 && nat_eq (length f.next) 0 && nat_eq
    (length f.after) 0) ≡ false
    → floor ≤ diagonal_rank * known_count f.ranks
floor_low g s whole floor now f r t = by_lists now f.next f.after r.keeps.wait_now r.keeps.wait_next
    r.keeps.wait_after t
  where
    by_lists : (xs ys zs : List Cell) → AllWait g floor f.ranks xs
        → AllWait g (floor + straight_rank) f.ranks ys
        → AllWait g (floor + straight_rank + straight_rank) f.ranks zs
        → (nat_eq (length xs) 0 && nat_eq (length ys) 0 && nat_eq (length zs) 0) ≡ false
        → floor ≤ diagonal_rank * known_count f.ranks
    by_lists (x ∷ xs) ys zs p q w t = (p 0 x refl).reached
    by_lists [] (y ∷ ys) zs p q w t = let h = (q 0 y refl).reached in omega arith
    by_lists [] [] (z ∷ zs) p q w t = let h = (w 0 z refl).reached in omega arith
    by_lists [] [] [] p q w t = absurd (cc)

-- the bound on the wave in one number
pub floor_small : (g : GridData) (s : Cell) → IsGrid g → (floor : ℕ) (now : List Cell) (f : Front)
    → IsReady g s floor now f → (nat_eq (length now) 0 && nat_eq (length f.next) 0 && nat_eq
    (length f.after) 0) ≡ false
    → (floor ≤ 75137669218172928) × (floor ≤ diagonal_rank * length f.ranks)
floor_small g s whole floor now f r t =
    let l = floor_low g s whole floor now f r t in
    let m = few g whole f r.keeps.ranked in
    let n = count_low f.ranks in
    (omega arith, omega arith)

-- the same lists by other names
pub ready_by : (g : GridData) (s : Cell) (floor : ℕ) (ranks firsts : List ℕ) (now next after : List Cell)
    → IsReady g s floor now (record { ranks = ranks; firsts = firsts; next = next; after = after })
    → (now' next' after' : List Cell) → now' ≡ now → next' ≡ next → after' ≡ after
    → IsReady g s floor now' (record { ranks = ranks; firsts = firsts; next = next'; after = after' })
ready_by g s floor ranks firsts now next after r now' next' after' p q t = rw (p, q, t) r

-- a wave and the turn after it
pub wave_turned : (g : GridData) (s : Cell) (floor : ℕ) (now now1 : List Cell) (f0 f : Front) → floor < 2 ^ 61
    → now1 ≡ now → IsReady g s floor now f0
    → (IsReady g s floor now1 f0 → IsMidway g s floor now1 (length now1) f) → (now' next' after' : List Cell)
    → now' ≡ f.next → next' ≡ f.after → after' ≡ []
    → IsReady g s (floor + straight_rank) now'
    (record { ranks = f.ranks; firsts = f.firsts; next = next'; after = after' })
wave_turned g s floor now now1 f0 f small e r wave now' next' after' p q t =
    let m = wave (subst (λ (xs : List Cell). IsReady g s floor xs f0) (sym e) r) in
    ready_by g s (floor + straight_rank) f.ranks f.firsts f.next f.after []
    (turn_ready g s floor now1 f small m)
    now' next' after' p q t
