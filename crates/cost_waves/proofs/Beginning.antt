-- The start of a pass: its own wave.
use Rattle.std.proofs.Common.{◌≡◌, ◌≢◌, ℕ, zero, suc, ◌+◌, ◌*◌, ◌^◌, ◌<◌, ◌≤◌, arith, refl, ap, sym}
use Rattle.std.proofs.Common.{◌∙◌, subst, true, false, List, [], ◌∷◌, length, get_or, set, length-set}
use Rattle.std.specs.Prelude.{Some, slice_get}
use Rattle.std.proofs.lemmas.Bool.Decides.{nat_tests}
use Rattle.std.proofs.lemmas.List.{get_or-set_same, get_or-set_other}
use Rattle.std.proofs.lemmas.Nat.Bits.{bit_at-pow_same, bit_at-pow_other}
use Rattle.std.proofs.lemmas.Option.{slice_get_within}
use Rattle.root2_cost.specs.Rank.{straight_rank, diagonal_rank}
use Rattle.grid_moves.specs.declared.Cell.{Cell}
use Rattle.grid_moves.specs.declared.Dir.{Dir}
use Rattle.grid_moves.specs.Grid.{GridData, IsGrid, cell_number, is_free, is_inside}
use Rattle.grid_moves.specs.Move.{all_dirs, dir_number}
use Rattle.grid_moves.proofs.Bits.{set_none}
use Rattle.grid_moves.proofs.Places.{free_below}
use Rattle.grid_moves.proofs.Dirs.{one_dir}
use Rattle.cost_waves.specs.declared.front.Source.{Source}
use Rattle.cost_waves.specs.Front.{Front, spread, dir_rank}
use Rattle.cost_waves.specs.Rank.{far, rank_limit}
use Rattle.cost_waves.specs.Stored.{has_dir}
use Rattle.cost_waves.specs.Wave.{rank_at, dirs_at, known_count, Way, WayBy, Waits, AllWait, Held, in_now}
use Rattle.cost_waves.specs.Wave.{Keeps, IsSettled, IsReady}
use Rattle.grid_moves.proofs.Places.{IsOn, is_on, free_on, same_or_apart}
use Rattle.cost_waves.proofs.Lists.{count_new}
use Rattle.cost_waves.proofs.Settling.{IsSource, HasSpread, has_spread}
use Rattle.grid_moves.proofs.Dirs.{in_all}
use Rattle.cost_waves.proofs.Walks.{way_nowhere, way_by_one}
use Rattle.cost_waves.proofs.Waving.{turned, turn_ready, ready_by}

-- no direction is in an empty byte, and one in that of a single direction
pub no_dirs : (d : Dir) → has_dir 0 d ≡ true → ⊥
no_dirs d e = let f : has_dir 0 d ≡ false = set_none (dir_number d) in cc

own_dir : (d : Dir) → has_dir (2 ^ dir_number d) d ≡ true
own_dir d = let z = bit_at-pow_same (dir_number d) in grind (arith, nat_tests)

only_dir : (d b : Dir) → has_dir (2 ^ dir_number d) b ≡ true → d ≡ b
only_dir d b h1 = grind (arith, nat_tests, one_dir, bit_at-pow_other)

module _ (g : GridData) (s : Cell) (whole : IsGrid g) (free : is_free g s ≡ true) (ranks firsts : List ℕ)
    (ranked : length ranks ≡ g.height * g.width) (bytes : length firsts ≡ g.height * g.width)
    (all_far : (k : ℕ) → get_or ranks k far ≡ far) (none : (k : ℕ) → get_or firsts k 0 ≡ 0) where
  abbrev at : ℕ
  at = cell_number g.width s

  abbrev only : List Cell
  only = s ∷ []

  -- the start alone is known
  abbrev f0 : Front
  f0 = record { ranks = set ranks at 0; firsts = firsts; next = []; after = [] }

  abbrev source : Source
  source = record { cell = s; rank = 0; start = true; first = 0 }

  on : IsOn g s
  on = free_on g s free

  within : at < length ranks
  within = rw ranked (free_below g s free)

  here : rank_at g f0.ranks s ≡ 0
  here = get_or-set_same ranks at 0 far within

  there : (c : Cell) → cell_number g.width c ≢ at → rank_at g f0.ranks c ≡ far
  there c n = get_or-set_other ranks at (cell_number g.width c) 0 far n ∙ all_far (cell_number g.width c)

  -- a known cell is the start
  is_start : (c : Cell) → is_inside g c ≡ true → rank_at g f0.ranks c < rank_limit → c ≡ s
  is_start c h1 h2 = grind (arith, nat_tests, same_or_apart, is_on, on, there)

  at_start : (P : Cell → ℕ → Type 0) → P s 0 → (c : Cell) → is_inside g c ≡ true
      → rank_at g f0.ranks c < rank_limit
      → P c (rank_at g f0.ranks c)
  at_start P p c i h =
      subst (λ (v : Cell). P v (rank_at g f0.ranks v)) (sym (is_start c i h)) (subst (λ (r : ℕ). P s r)
      (sym here) p)

  empty : (c : Cell) (d : Dir) → has_dir (dirs_at g firsts c) d ≡ true → ⊥
  empty c d e = no_dirs d (ap (λ (n : ℕ). has_dir n d) (sym (none (cell_number g.width c))) ∙ e)

  one_known : known_count f0.ranks ≡ known_count ranks + 1
  one_known = count_new ranks at 0 far within (omega arith) (let f = all_far at in omega arith)

  waits : (low : ℕ) → AllWait g low f0.ranks []
  waits low j c e = absurd (let p = slice_get_within [] j c e in omega arith)

  keeps : Keeps g s 0 only f0
  keeps = record {
    ranked = length-set ranks at 0 ∙ ranked;
    bytes = bytes;
    home = free;
    start = here;
    quiet = none at;
    ways = at_start (λ c r. Way g s c r) (way_nowhere g s free);
    begins = λ c d i e. absurd (empty c d e);
    dirs_reached = λ c d i e. absurd (empty c d e);
    held = at_start (λ c r. Held 0 only [] [] c r) (in_now (omega arith) (record { place = 0; is = refl }));
    bounded = at_start (λ c r. r + diagonal_rank ≤ diagonal_rank * known_count f0.ranks)
        (let o = one_known in omega arith);
    wait_now = λ j c e. wait_start j c e;
    wait_next = waits _;
    wait_after = waits _;
  }
    where
      wait_start : AllWait g 0 f0.ranks only
      wait_start zero c e = subst (λ (v : Cell). Waits g 0 f0.ranks v) (let same : s ≡ c = cc in same)
          (let h = here in record { free = free; below = omega arith; reached = omega arith })
      wait_start (suc j) c e = absurd (let p = slice_get_within only (suc j) c e in omega arith)

  is_source : IsSource g s 0 f0 source
  is_source = record {
    free = free;
    rank = here;
    low = omega arith;
    high = omega arith;
    known = omega arith;
    sound = λ d b v e t.
        subst (λ (c : Dir). WayBy g s v c (0 + dir_rank d)) (only_dir d b t)
        (subst (λ (r : ℕ). WayBy g s v d r) (omega arith) (way_by_one g s v d e));
    own = λ e d. own_dir d;
    same = λ d b t. absurd (empty s b t);
  }

  -- its moves are offered
  pub begun_ready : (f : Front) → f ≡ spread g (2 * straight_rank) source all_dirs f0
      → IsReady g s straight_rank f.next (turned f)
  begun_ready f e = subst (λ (h : Front). IsReady g s straight_rank h.next (turned h)) (sym e)
      (turn_ready g s 0 only f1 (omega arith) (record {
        ready = record { keeps = h.keeps; settled = λ u i q. absurd (omega arith) };
        settled = settled_start;
      }))
    where
      f1 : Front
      f1 = spread g (2 * straight_rank) source all_dirs f0

      h : HasSpread g s whole 0 only (2 * straight_rank) refl source f0 f1 all_dirs
      h = has_spread g s whole 0 only (2 * straight_rank) refl source all_dirs f0 keeps is_source

      settled_start : (j : ℕ) (u : Cell) → j < 1 → slice_get only j ≡ Some u → IsSettled g s f1 u
      settled_start zero u q p = subst (λ (v : Cell). IsSettled g s f1 v) (let same : s ≡ u = cc in same)
          (λ d v e. h.relaxed d v (in_all d) e)
      settled_start (suc j) u q p = absurd (omega arith)

  -- the same, from what the code has
  pub begun_by : (f : Front) (place : ℕ) (next after : List Cell) → place ≡ cell_number g.width s → next ≡ []
      → after ≡ [] → f ≡ spread g (2 * straight_rank) source all_dirs
      (record { ranks = set ranks place 0; firsts = firsts; next = next; after = after })
      → (now' next' after' : List Cell) → now' ≡ f.next → next' ≡ f.after → after' ≡ []
      → IsReady g s straight_rank now' (record {
        ranks = f.ranks;
        firsts = f.firsts;
        next = next';
        after =
            after';
      })
  begun_by f place next after e n a made now' next' after' p q t =
      let same : f ≡ spread g (2 * straight_rank) source all_dirs f0 = made ∙ rw (e, n, a) refl in
      ready_by g s straight_rank f.ranks f.firsts f.next f.after []
      (begun_ready f same) now' next' after' p q t
