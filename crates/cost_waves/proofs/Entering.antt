-- One offer keeps what holds in a wave.
use Rattle.std.proofs.Common.{◌≡◌, ◌≢◌, ℕ, ◌+◌, ◌*◌, ◌<◌, ◌≤◌, inl, inr, arith, refl, ap, sym, ◌∙◌, subst}
use Rattle.std.proofs.Common.{Bool, true, false, List, [], ◌∷◌, ◌++◌, length, get_or, length-set}
use Rattle.std.specs.Prelude.{nat_lt, nat_le, bit_or, ◌&&◌, if◌then◌else◌}
use Rattle.std.proofs.lemmas.Bool.{cases_lt, or_cases, or_left, or_right}
use Rattle.std.proofs.lemmas.Bool.Decides.{nat_tests}
use Rattle.std.proofs.lemmas.List.{get_or-set_same, get_or-set_other}
use Rattle.root2_cost.specs.Rank.{straight_rank, diagonal_rank}
use Rattle.grid_moves.specs.declared.Cell.{Cell}
use Rattle.grid_moves.specs.declared.Dir.{Dir}
use Rattle.grid_moves.specs.Grid.{GridData, IsGrid, cell_number, is_inside}
use Rattle.grid_moves.proofs.Places.{free_below}
use Rattle.cost_waves.specs.Front.{Front, entered}
use Rattle.cost_waves.specs.Rank.{far, rank_limit}
use Rattle.cost_waves.specs.Stored.{has_dir}
use Rattle.cost_waves.specs.Wave.{rank_at, dirs_at, known_count, Way, WayBy, Among, Waits, AllWait, Held}
use Rattle.cost_waves.specs.Wave.{before, in_now, in_next, in_after, Keeps}
use Rattle.cost_waves.proofs.Keeping.{lowered, joined, Effect, lowers, joins, passes, effect}
use Rattle.grid_moves.proofs.Places.{IsOn}
use Rattle.cost_waves.proofs.Keeping.{follows_nothing, IsOffer}
use Rattle.grid_moves.proofs.Places.{is_on, on_inside, free_on, same_or_apart}
use Rattle.cost_waves.proofs.Keeping.{Follows, few}
use Rattle.cost_waves.proofs.Lists.{among_more, among_last, from_more, bit_or-dir, count_new, count_old}

module _ (g : GridData) (s : Cell) (whole : IsGrid g) (floor : ℕ) (now : List Cell) (f : Front)
    (k : Keeps g s floor now f) (to : Cell) (rank first : ℕ) (o : IsOffer g s floor f to rank first) where
  abbrev at : ℕ
  at = cell_number g.width to

  abbrev old : ℕ
  old = rank_at g f.ranks to

  on : IsOn g to
  on = free_on g to o.free

  on_start : IsOn g s
  on_start = free_on g s k.home

  ranked : at < length f.ranks
  ranked = rw k.ranked (free_below g to o.free)

  bytes : at < length f.firsts
  bytes = rw k.bytes (free_below g to o.free)

  short : rank < rank_limit
  short = let b = o.bounded in let m = few g whole f k.ranked in omega arith

  -- no offer that is not passed over goes to the start
  not_start : rank ≤ old → cell_number g.width s ≢ at
  not_start h = elim (same_or_apart g s to on_start on) [
    | inr n ↦ n
    | inl e ↦ absurd (
        let low = o.low in
        let zero : old ≡ 0 = ap (λ (c : Cell). rank_at g f.ranks c) (sym e) ∙ k.start in
        omega arith)
  ]

  -- with an equal rank
  module _ (same : rank ≡ old) where
    abbrev with_dirs : Front
    with_dirs = joined at first f

    dirs_here : dirs_at g with_dirs.firsts to ≡ bit_or (dirs_at g f.firsts to) first
    dirs_here = get_or-set_same f.firsts at (bit_or (get_or f.firsts at 0) first) 0 bytes

    dirs_there : (c : Cell) → cell_number g.width c ≢ at → dirs_at g with_dirs.firsts c ≡ dirs_at g f.firsts c
    dirs_there c n = get_or-set_other f.firsts at (cell_number g.width c) (bit_or
        (get_or f.firsts at 0) first) 0 n

    joined_way : (d : Dir) → has_dir (dirs_at g with_dirs.firsts to) d ≡ true → WayBy g s to d old
    joined_way d e = elim (or_cases _ _ (sym (bit_or-dir (dirs_at g f.firsts to) first d)
        ∙ ap (λ (n : ℕ). has_dir n d) (sym dirs_here) ∙ e)) [
          | inl h ↦ k.begins to d ((on_inside g to on)) h
          | inr h ↦ subst (λ (r : ℕ). WayBy g s to d r) same (o.sound d h)
        ]

    joined_begins : (c : Cell) (d : Dir) → is_inside g c ≡ true
        → has_dir (dirs_at g with_dirs.firsts c) d ≡ true
        → WayBy g s c d (rank_at g f.ranks c)
    joined_begins c d i e = elim (same_or_apart g c to (is_on g c i) on) [
      | inr n ↦ k.begins c d i (ap (λ (m : ℕ). has_dir m d) (sym (dirs_there c n)) ∙ e)
      | inl h ↦ subst (λ (v : Cell). WayBy g s v d (rank_at g f.ranks v)) (sym h)
          (joined_way d (ap (λ (v : Cell). has_dir (dirs_at g with_dirs.firsts v) d) (sym h) ∙ e))
    ]

    joined_reached : (c : Cell) (d : Dir) → is_inside g c ≡ true → has_dir (dirs_at g with_dirs.firsts c) d
        ≡ true
        → rank_at g f.ranks c < rank_limit
    joined_reached c d h1 h2 = elim (same_or_apart g c to (is_on g c h1) on) [
      | inr n ↦ k.dirs_reached c d h1 (ap (λ (m : ℕ). has_dir m d) (sym (dirs_there c n)) ∙ h2)
      | inl e ↦
          let r : rank_at g f.ranks c ≡ old = ap (λ (v : Cell). rank_at g f.ranks v) e in
          let l = short in
          omega arith
    ]

    pub joined_keeps : Keeps g s floor now with_dirs
    joined_keeps = record {
      ranked = k.ranked;
      bytes = length-set f.firsts at (bit_or (get_or f.firsts at 0) first) ∙ k.bytes;
      home = k.home;
      start = k.start;
      quiet = dirs_there s (not_start (omega arith)) ∙ k.quiet;
      ways = k.ways;
      begins = joined_begins;
      dirs_reached = joined_reached;
      held = k.held;
      bounded = k.bounded;
      wait_now = k.wait_now;
      wait_next = k.wait_next;
      wait_after = k.wait_after;
    }

    joined_grows : (c : Cell) (d : Dir) → IsOn g c → has_dir (dirs_at g f.firsts c) d ≡ true
        → has_dir (dirs_at g with_dirs.firsts c) d ≡ true
    joined_grows c d h1 h2 = elim (same_or_apart g c to h1 on) [
      | inr n ↦ ap (λ (m : ℕ). has_dir m d) (dirs_there c n) ∙ h2
      | inl e ↦ ap (λ (v : Cell). has_dir (dirs_at g with_dirs.firsts v) d) e
          ∙ ap (λ (m : ℕ). has_dir m d) dirs_here ∙ bit_or-dir (dirs_at g f.firsts to) first d
          ∙ or_left _ _ (ap (λ (v : Cell). has_dir (dirs_at g f.firsts v) d) (sym e) ∙ h2)
    ]

    joined_stays : (c : Cell) → IsOn g c → rank_at g f.ranks c < floor + straight_rank
        → dirs_at g with_dirs.firsts c ≡ dirs_at g f.firsts c
    joined_stays c h1 h2 = elim (same_or_apart g c to h1 on) [
      | inr n ↦ dirs_there c n
      | inl e ↦ absurd (
          let r : rank_at g f.ranks c ≡ old = ap (λ (v : Cell). rank_at g f.ranks v) e in
          let low = o.low in
          omega arith)
    ]

    pub joined_follows : Follows g floor f with_dirs
    joined_follows = record {
      lower = λ c i. omega arith;
      rank = λ c i h. refl;
      back = λ c i h. refl;
      dirs = joined_stays;
      grows = λ c d i e h. joined_grows c d i h;
      more = omega arith;
    }

    pub joined_has : (d : Dir) → has_dir first d ≡ true → has_dir (dirs_at g with_dirs.firsts to) d ≡ true
    joined_has d e =
        ap (λ (m : ℕ). has_dir m d) dirs_here ∙ bit_or-dir (dirs_at g f.firsts to) first d ∙ or_right _ _ e

  -- with a lesser rank
  module _ (less : rank < old) (limit : ℕ) (is : limit ≡ floor + 2 * straight_rank) where
    abbrev with_rank : Front
    with_rank = lowered at limit to rank first f

    here : rank_at g with_rank.ranks to ≡ rank
    here = get_or-set_same f.ranks at rank far ranked

    there : (c : Cell) → cell_number g.width c ≢ at → rank_at g with_rank.ranks c ≡ rank_at g f.ranks c
    there c n = get_or-set_other f.ranks at (cell_number g.width c) rank far n

    dirs_to : dirs_at g with_rank.firsts to ≡ first
    dirs_to = get_or-set_same f.firsts at first 0 bytes

    dirs_else : (c : Cell) → cell_number g.width c ≢ at → dirs_at g with_rank.firsts c ≡ dirs_at g f.firsts c
    dirs_else c n = get_or-set_other f.firsts at (cell_number g.width c) first 0 n

    -- a fact of a cell and its rank and directions holds of all cells if it holds of the new entry and the
    -- old ones
    entry : (P : Cell → ℕ → ℕ → Type 0) → P to rank first → (c : Cell) → IsOn g c
        → P c (rank_at g f.ranks c) (dirs_at g f.firsts c) → P c (rank_at g with_rank.ranks c)
        (dirs_at g with_rank.firsts c)
    entry P new c i p = elim (same_or_apart g c to i on) [
      | inr n ↦ subst (λ (m : ℕ). P c (rank_at g with_rank.ranks c) m) (sym (dirs_else c n))
          (subst (λ (r : ℕ). P c r (dirs_at g f.firsts c)) (sym (there c n)) p)
      | inl e ↦ subst (λ (v : Cell). P v (rank_at g with_rank.ranks v) (dirs_at g with_rank.firsts v)) (sym e)
          (subst (λ (m : ℕ). P to (rank_at g with_rank.ranks to) m) (sym dirs_to)
          (subst (λ (r : ℕ). P to r first) (sym here) new))
    ]

    lower : (c : Cell) → IsOn g c → rank_at g with_rank.ranks c ≤ rank_at g f.ranks c
    lower c h1 = elim (same_or_apart g c to h1 on) [
      | inr n ↦ let q = there c n in omega arith
      | inl e ↦
          let was : rank_at g f.ranks c ≡ old = ap (λ (v : Cell). rank_at g f.ranks v) e in
          let is_now : rank_at g with_rank.ranks c ≡ rank = ap (λ (v : Cell). rank_at g with_rank.ranks v) e
          ∙ here in
          omega arith
    ]

    -- one more cell is known, or as many
    data Counts : Type 0 where
      new : rank_limit ≤ old → known_count with_rank.ranks ≡ known_count f.ranks + 1 → Counts
      as_before : old < rank_limit → known_count with_rank.ranks ≡ known_count f.ranks → Counts

    counts : Counts
    counts = elim (cases_lt old rank_limit) [
      | inl h ↦ as_before h (count_old f.ranks at rank far ranked short h)
      | inr h ↦ new h (count_new f.ranks at rank far ranked short h)
    ]

    more : known_count f.ranks ≤ known_count with_rank.ranks
    more = elim counts [ new h e ↦ omega arith | as_before h e ↦ omega arith ]

    bounded_to : rank + diagonal_rank ≤ diagonal_rank * known_count with_rank.ranks
    bounded_to = elim counts [
      | new h e ↦ let b = o.bounded in omega arith
      | as_before h e ↦ let b = k.bounded to (on_inside g to on) h in omega arith
    ]

    -- a list to which the cell is added, where a test holds
    abbrev with_to : Bool → List Cell → List Cell
    with_to b cells = if b then cells ++ (to ∷ []) else cells

    stays_in : (b : Bool) (cells : List Cell) (c : Cell) → Among cells c → Among (with_to b cells) c
    stays_in true cells c a = among_more cells to c a
    stays_in false cells c a = a

    stands_in : (b : Bool) (cells : List Cell) → (b ≡ false → Among cells to) → Among (with_to b cells) to
    stands_in true cells stood = among_last cells to
    stands_in false cells stood = stood refl

    held_on : (c : Cell) (r : ℕ) → Held floor now f.next f.after c r
        → Held floor now with_rank.next with_rank.after c r
    held_on c r (before h) = before h
    held_on c r (in_now h a) = in_now h a
    held_on c r (in_next l h a) = in_next l h (stays_in _ f.next c a)
    held_on c r (in_after l h a) = in_after l h (stays_in _ f.after c a)

    -- the cell stands in the list of its new wave: it is put there, or it stood there
    old_held : old < rank_limit → Held floor now f.next f.after to old
    old_held h = k.held to (on_inside g to on) h

    below_limit : old < limit + straight_rank → old < rank_limit
    below_limit h = let m = few g whole f k.ranked in let b = o.bounded in let l = o.low in omega arith

    stood_next : old < limit → Among f.next to
    stood_next h = by_held (old_held (below_limit (omega arith)))
      where
        by_held : Held floor now f.next f.after to old → Among f.next to
        by_held (before q) = absurd (let l = o.low in omega arith)
        by_held (in_now q a) = absurd (let l = o.low in omega arith)
        by_held (in_next p q a) = a
        by_held (in_after p q a) = absurd (omega arith)

    stood_after : limit ≤ rank → old < limit + straight_rank → Among f.after to
    stood_after l h = by_held (old_held (below_limit h))
      where
        by_held : Held floor now f.next f.after to old → Among f.after to
        by_held (before q) = absurd (omega arith)
        by_held (in_now q a) = absurd (omega arith)
        by_held (in_next p q a) = absurd (omega arith)
        by_held (in_after p q a) = a

    next_to : rank < limit → Among with_rank.next to
    next_to h = stands_in (nat_lt rank limit && nat_le limit old) f.next
        (λ e. stood_next (grind (arith, nat_tests)))

    after_to : limit ≤ rank → Among with_rank.after to
    after_to h = stands_in (nat_le limit rank && nat_le (limit + straight_rank) old) f.after
        (λ e. stood_after h (grind (arith, nat_tests)))

    held_to : Held floor now with_rank.next with_rank.after to rank
    held_to = elim (cases_lt rank limit) [
      | inl h ↦ in_next o.low (omega arith) (next_to h)
      | inr h ↦ in_after (omega arith) o.high (after_to h)
    ]

    -- those that wait
    waits_on : (low : ℕ) (c : Cell) → Waits g low f.ranks c → Waits g low with_rank.ranks c
    waits_on low c w =
        let l = lower c (free_on g c w.free) in
        let b = w.below in
        let r = w.reached in
        let m = more in
        record { free = w.free; below = omega arith; reached = omega arith }

    all_wait : (low : ℕ) (cells : List Cell) → AllWait g low f.ranks cells
        → AllWait g low with_rank.ranks cells
    all_wait low cells w j c e = waits_on low c (w j c e)

    one_more_waits : (low : ℕ) (cells : List Cell) → AllWait g low f.ranks cells → low ≤ rank
        → rank < low + straight_rank → AllWait g low with_rank.ranks (cells ++ (to ∷ []))
    one_more_waits low cells w p q j c e = elim (from_more cells to c j e) [
      | inl h ↦ waits_on low c (w j c h)
      | inr h ↦ subst (λ (v : Cell). Waits g low with_rank.ranks v) (sym h) (
          let r = here in
          let b = o.bounded in
          let m = more in
          record { free = o.free; below = omega arith; reached = omega arith })
    ]

    waits_with : (b : Bool) (low : ℕ) (cells : List Cell) → AllWait g low f.ranks cells
        → (b ≡ true → (low ≤ rank) × (rank < low + straight_rank))
        → AllWait g low with_rank.ranks (with_to b cells)
    waits_with true low cells w p = let h = p refl in one_more_waits low cells w h.0 h.1
    waits_with false low cells w p = all_wait low cells w

    wait_next : AllWait g (floor + straight_rank) with_rank.ranks with_rank.next
    wait_next = waits_with (nat_lt rank limit && nat_le limit old) (floor + straight_rank) f.next k.wait_next
        (λ e. (o.low, grind (arith, nat_tests)))

    wait_after : AllWait g (floor + straight_rank + straight_rank) with_rank.ranks with_rank.after
    wait_after = waits_with (nat_le limit rank && nat_le (limit + straight_rank) old)
        (floor + straight_rank + straight_rank) f.after k.wait_after (λ e. (grind (arith, nat_tests), o.high))

    pub lowered_keeps : Keeps g s floor now with_rank
    lowered_keeps = record {
      ranked = length-set f.ranks at rank ∙ k.ranked;
      bytes = length-set f.firsts at first ∙ k.bytes;
      home = k.home;
      start = there s (not_start (omega arith)) ∙ k.start;
      quiet = dirs_else s (not_start (omega arith)) ∙ k.quiet;
      ways = λ c i. entry (λ v r m. r < rank_limit → Way g s v r) (λ h. o.way) c (is_on g c i) (k.ways c i);
      begins = λ c d i. entry (λ v r m. has_dir m d ≡ true → WayBy g s v d r) (o.sound d) c (is_on g c i)
          (k.begins c d i);
      dirs_reached = λ c d i. entry (λ v r m. has_dir m d ≡ true → r < rank_limit) (λ h. short) c
          (is_on g c i) (k.dirs_reached c d i);
      held = λ c i. entry (λ v r m. r < rank_limit → Held floor now with_rank.next with_rank.after v r)
          (λ h. held_to) c (is_on g c i) (λ h. held_on c (rank_at g f.ranks c) (k.held c i h));
      bounded = λ c i. entry (λ v r m. r < rank_limit
          → r + diagonal_rank ≤ diagonal_rank * known_count with_rank.ranks)
          (λ h. bounded_to) c (is_on g c i) (λ h. let b = k.bounded c i h in let m = more in omega arith);
      wait_now = all_wait floor now k.wait_now;
      wait_next = wait_next;
      wait_after = wait_after;
    }

    -- an offer that lowers a rank goes to no cell of this wave or one before
    elsewhere : (c : Cell) → IsOn g c → rank_at g f.ranks c < floor + straight_rank
        → cell_number g.width c ≢ at
    elsewhere c i h = elim (same_or_apart g c to i on) [
      | inr n ↦ n
      | inl e ↦ absurd (
          let low = o.low in
          let r : rank_at g f.ranks c ≡ old = ap (λ (v : Cell). rank_at g f.ranks v) e in omega arith)
    ]

    pub lowered_follows : Follows g floor f with_rank
    lowered_follows = record {
      lower = lower;
      rank = λ c i h. there c (elsewhere c i h);
      back = λ c i h. elim (same_or_apart g c to i on) [
        | inr n ↦ there c n
        | inl q ↦ absurd (
            let low = o.low in
            let n : rank_at g with_rank.ranks c ≡ rank = ap (λ (v : Cell). rank_at g with_rank.ranks v) q
            ∙ here in
            omega arith)
      ];
      dirs = λ c i h. dirs_else c (elsewhere c i h);
      grows = λ c d i e h. elim (same_or_apart g c to i on) [
        | inr n ↦ ap (λ (m : ℕ). has_dir m d) (dirs_else c n) ∙ h
        | inl q ↦ absurd (
            let r : rank_at g f.ranks c ≡ old = ap (λ (v : Cell). rank_at g f.ranks v) q in
            let n : rank_at g with_rank.ranks c ≡ rank = ap (λ (v : Cell). rank_at g with_rank.ranks v) q
            ∙ here in
            omega arith)
      ];
      more = more;
    }

    pub lowered_rank : rank_at g with_rank.ranks to ≡ rank
    lowered_rank = here

    pub lowered_dirs : dirs_at g with_rank.firsts to ≡ first
    lowered_dirs = dirs_to

-- after an offer: it keeps what holds in the wave, and the cell is known at no more, with all its directions
pub record HasEntered (g : GridData) (s : Cell) (floor : ℕ) (now : List Cell) (f f' : Front) (to : Cell)
    (rank first : ℕ) : Type 0 where
  pub keeps : Keeps g s floor now f'
  pub follows : Follows g floor f f'
  pub low : rank_at g f'.ranks to ≤ rank
  pub dirs : (d : Dir) → rank_at g f'.ranks to ≡ rank → has_dir first d ≡ true
      → has_dir (dirs_at g f'.firsts to) d ≡ true

pub has_entered : (g : GridData) (s : Cell) (whole : IsGrid g) (floor : ℕ) (now : List Cell) (f : Front)
    (k : Keeps g s floor now f) (to : Cell) (rank first : ℕ) (o : IsOffer g s floor f to rank first)
    (limit : ℕ)
    → limit ≡ floor + 2 * straight_rank
    → HasEntered g s floor now f (entered (cell_number g.width to) limit to rank first f) to rank first
has_entered g s whole floor now f k to rank first o limit is =
    by_effect (entered (cell_number g.width to) limit to rank first f)
    (effect (cell_number g.width to) limit to rank first f)
  where
    by_effect : (f' : Front) → Effect (cell_number g.width to) limit to rank first f f'
        → HasEntered g s floor now f f' to rank first
    by_effect f' (lowers less e) = subst (λ (h : Front). HasEntered g s floor now f h to rank first) (sym e) (
        let r = lowered_rank g s whole floor now f k to rank first o less limit is in
        let m = lowered_dirs g s whole floor now f k to rank first o less limit is in
        record {
          keeps = lowered_keeps g s whole floor now f k to rank first o less limit is;
          follows = lowered_follows g s whole floor now f k to rank first o less limit is;
          low = omega arith;
          dirs = λ d q h. ap (λ (n : ℕ). has_dir n d) m ∙ h;
        })
    by_effect f' (joins same e) = subst (λ (h : Front). HasEntered g s floor now f h to rank first)
        (sym e) (record {
          keeps = joined_keeps g s whole floor now f k to rank first o same;
          follows = joined_follows g s whole floor now f k to rank first o same;
          low = omega arith;
          dirs = λ d q h. joined_has g s whole floor now f k to rank first o same d h;
        })
    by_effect f' (passes more e) = subst (λ (h : Front). HasEntered g s floor now f h to rank first)
        (sym e) (record {
          keeps = k;
          follows = follows_nothing g floor f;
          low = omega arith;
          dirs = λ d q h. absurd (omega arith);
        })
