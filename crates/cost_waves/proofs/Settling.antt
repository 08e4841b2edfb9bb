-- A cell that is settled: all its moves are offered.
use Rattle.std.proofs.Common.{◌≡◌, ℕ, ◌+◌, ◌*◌, ◌<◌, ◌≤◌, arith, refl, ap, sym, ◌∙◌, subst, true, List, []}
use Rattle.std.proofs.Common.{◌∷◌}
use Rattle.std.specs.Prelude.{Option, Some, None}
use Rattle.root2_cost.specs.Rank.{straight_rank}
use Rattle.grid_moves.specs.declared.Cell.{Cell}
use Rattle.grid_moves.specs.declared.Dir.{Dir}
use Rattle.grid_moves.specs.Grid.{GridData, IsGrid, is_free, is_inside}
use Rattle.grid_moves.specs.Move.{legal_ahead}
use Rattle.grid_moves.proofs.Ahead.{legal_ahead-is, legal_ahead-free}
use Rattle.grid_moves.proofs.Legal.{legal_is}
use Rattle.grid_moves.proofs.Dirs.{In, first, later}
use Rattle.cost_waves.specs.declared.front.Source.{Source}
use Rattle.cost_waves.specs.Front.{Front, offered, spread, dir_rank, first_over}
use Rattle.cost_waves.specs.Rank.{rank_limit}
use Rattle.cost_waves.specs.Stored.{has_dir}
use Rattle.cost_waves.specs.Wave.{rank_at, dirs_at, Way, WayBy, Keeps, IsRelaxed, IsSettled}
use Rattle.cost_waves.proofs.Entering.{HasEntered, has_entered}
use Rattle.cost_waves.proofs.Keeping.{IsOffer, Follows, follows_nothing}
use Rattle.grid_moves.proofs.Places.{IsOn, free_on, on_inside}
use Rattle.cost_waves.proofs.Walks.{way_more, rank_low, rank_high}

-- a legal move leads from a free cell
pub ahead_from : (g : GridData) (u v : Cell) (d : Dir) → legal_ahead g u d ≡ Some v → is_free g u ≡ true
ahead_from g u v d e = (legal_is g u v (legal_ahead-is g u v d e)).source

module _ (g : GridData) (floor : ℕ) where
  pub follows_then : (f f1 f2 : Front) → Follows g floor f f1 → Follows g floor f1 f2 → Follows g floor f f2
  follows_then f f1 f2 a b = record {
    lower = λ c i. (let p = a.lower c i in let q = b.lower c i in omega arith);
    rank = λ c i h. (let p = a.rank c i h in let q = b.rank c i (omega arith) in omega arith);
    back = λ c i h. (let q = b.back c i h in let p = a.back c i (omega arith) in omega arith);
    dirs = λ c i h. (let p = a.rank c i h in b.dirs c i (omega arith) ∙ a.dirs c i h);
    grows = λ c d i e h. (
        let p = a.lower c i in
        let q = b.lower c i in
        b.grows c d i (omega arith) (a.grows c d i (omega arith) h));
    more = let p = a.more in let q = b.more in omega arith;
  }

  -- a move that was offered stays so
  pub relaxed_on : (s : Cell) (f f' : Front) → Follows g floor f f' → (u v : Cell) (d : Dir)
      → legal_ahead g u d ≡ Some v → rank_at g f.ranks u < floor + straight_rank → IsRelaxed g s f u d v
      → IsRelaxed g s f' u d v
  relaxed_on s f f' a u v d e h r =
      let from : IsOn g u = free_on g u (ahead_from g u v d e) in
      let to : IsOn g v = free_on g v (legal_ahead-free g u v d e) in
      let stays = a.rank u from h in
      let dirs = a.dirs u from h in
      let falls = a.lower v to in
      let low = r.low in
      record {
        low = omega arith;
        own = λ p q. a.grows v d to (omega arith) (r.own p (omega arith));
        same = λ b q h. a.grows v b to (omega arith)
            (r.same b (omega arith) (ap (λ (n : ℕ). has_dir n b) (sym dirs) ∙ h));
      }

  pub settled_on : (s : Cell) (f f' : Front) → Follows g floor f f' → (u : Cell)
      → rank_at g f.ranks u < floor + straight_rank → IsSettled g s f u → IsSettled g s f' u
  settled_on s f f' a u h r d v e = relaxed_on s f f' a u v d e h (r d v e)

-- a cell whose moves are to be offered
pub record IsSource (g : GridData) (s : Cell) (floor : ℕ) (f : Front) (from : Source) : Type 0 where
  pub free : is_free g from.cell ≡ true
  pub rank : rank_at g f.ranks from.cell ≡ from.rank
  pub low : floor ≤ from.rank
  pub high : from.rank < floor + straight_rank
  pub known : from.rank < rank_limit
  pub sound : (d b : Dir) (v : Cell) → legal_ahead g from.cell d ≡ Some v → has_dir (first_over from d) b
      ≡ true
      → WayBy g s v b (from.rank + dir_rank d)
  pub own : from.cell ≡ s → (d : Dir) → has_dir (first_over from d) d ≡ true
  pub same : (d b : Dir) → has_dir (dirs_at g f.firsts from.cell) b ≡ true
      → has_dir (first_over from d) b ≡ true

module _ (g : GridData) (s : Cell) (whole : IsGrid g) (floor : ℕ) (now : List Cell) (limit : ℕ)
    (is : limit ≡ floor + 2 * straight_rank) (from : Source) where
  -- after offers in these directions
  pub record HasSpread (f f' : Front) (dirs : List Dir) : Type 0 where
    pub keeps : Keeps g s floor now f'
    pub follows : Follows g floor f f'
    pub relaxed : (d : Dir) (v : Cell) → In d dirs → legal_ahead g from.cell d ≡ Some v
        → IsRelaxed g s f' from.cell d v

  -- after one offer
  record HasOffered (f f' : Front) (d : Dir) : Type 0 where
    pub keeps : Keeps g s floor now f'
    pub follows : Follows g floor f f'
    pub relaxed : (v : Cell) → legal_ahead g from.cell d ≡ Some v → IsRelaxed g s f' from.cell d v

  module _ (f : Front) (k : Keeps g s floor now f) (o : IsSource g s floor f from) where
    on : IsOn g from.cell
    on = free_on g from.cell o.free

    known : rank_at g f.ranks from.cell < rank_limit
    known = let r = o.rank in let h = o.known in omega arith

    inside : is_inside g from.cell ≡ true
    inside = on_inside g from.cell on

    way_here : Way g s from.cell from.rank
    way_here = subst (λ (r : ℕ). Way g s from.cell r) o.rank (k.ways from.cell inside known)

    offer_of : (d : Dir) (v : Cell) → legal_ahead g from.cell d ≡ Some v
        → IsOffer g s floor f v (from.rank + dir_rank d) (first_over from d)
    offer_of d v e =
        let p = rank_low d in
        let q = rank_high d in
        let r = o.rank in
        let l = o.low in
        let h = o.high in
        let b = k.bounded from.cell inside known in
        record {
          free = legal_ahead-free g from.cell v d e;
          low = omega arith;
          high = omega arith;
          bounded = omega arith;
          way = way_more g s from.cell v d e from.rank way_here;
          sound = λ c h. o.sound d c v e h;
        }

    one_relaxed : (d : Dir) (v : Cell) (f' : Front)
        → HasEntered g s floor now f f' v (from.rank + dir_rank d) (first_over from d)
        → IsRelaxed g s f' from.cell d v
    one_relaxed d v f' h =
        let r = o.rank in
        let b = o.high in
        let stays = h.follows.rank from.cell on (omega arith) in
        let dirs = h.follows.dirs from.cell on (omega arith) in
        let low = h.low in
        record {
          low = omega arith;
          own = λ p q. h.dirs d (omega arith) (o.own p d);
          same = λ c q t. h.dirs c (omega arith) (o.same d c (ap (λ (n : ℕ). has_dir n c) (sym dirs) ∙ t));
        }

    offered_has : (d : Dir) (p : Option Cell) → legal_ahead g from.cell d ≡ p
        → HasOffered f (offered g.width limit from d p f) d
    offered_has d None e = record {
      keeps = k;
      follows = follows_nothing g floor f;
      relaxed = λ v h. absurd (cc);
    }
    offered_has d (Some w) e =
        let h = has_entered g s whole floor now f k w (from.rank + dir_rank d) (first_over from d)
        (offer_of d w e)
        limit is in
        record {
          keeps = h.keeps;
          follows = h.follows;
          relaxed = λ v t. subst (λ (c : Cell). IsRelaxed g s (offered g.width limit from d
              (Some w) f) from.cell d c)
              (let same : w ≡ v = cc in same) (one_relaxed d w (offered g.width limit from d (Some w) f) h);
        }

    -- the cell is as it was after an offer
    source_on : (f' : Front) → Follows g floor f f' → IsSource g s floor f' from
    source_on f' a =
        let r = o.rank in
        let b = o.high in
        record {
          free = o.free;
          rank = a.rank from.cell on (omega arith) ∙ o.rank;
          low = o.low;
          high = o.high;
          known = o.known;
          sound = o.sound;
          own = o.own;
          same = λ d c h. o.same d c (ap (λ (n : ℕ). has_dir n c) (sym (a.dirs from.cell on
              (omega arith))) ∙ h);
        }

  pub has_spread : (dirs : List Dir) (f : Front) → Keeps g s floor now f → IsSource g s floor f from
      → HasSpread f (spread g limit from dirs f) dirs
  unfolding spread
  has_spread [] f k o = record {
    keeps = k;
    follows = follows_nothing g floor f;
    relaxed = λ d v i e. elim i [ ];
  }
  has_spread (d ∷ dirs) f k o =
      let one = offered_has f k o d (legal_ahead g from.cell d) refl in
      let f1 : Front = offered g.width limit from d (legal_ahead g from.cell d) f in
      let o1 = source_on f k o f1 one.follows in
      let rest = has_spread dirs f1 one.keeps o1 in
      let f2 : Front = spread g limit from dirs f1 in
      record {
        keeps = rest.keeps;
        follows = follows_then g floor f f1 f2 one.follows rest.follows;
        relaxed = λ c v i e. by_place f1 f2 one rest o1 c v i e;
      }
    where
      by_place : (f1 f2 : Front) → HasOffered f f1 d → HasSpread f1 f2 dirs → IsSource g s floor f1 from
          → (c : Dir) (v : Cell) → In c (d ∷ dirs) → legal_ahead g from.cell c ≡ Some v
          → IsRelaxed g s f2 from.cell c v
      by_place f1 f2 one rest o1 c v (first _) e =
          let r = o1.rank in
          let b = o1.high in
          relaxed_on g floor s f1 f2 rest.follows from.cell v d e (omega arith) (one.relaxed v e)
      by_place f1 f2 one rest o1 c v (later _ _ i) e = rest.relaxed c v i e
