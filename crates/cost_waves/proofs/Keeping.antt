-- What one offer keeps.
use Rattle.std.proofs.Common.{◌≡◌, ℕ, ◌+◌, ◌*◌, ◌<◌, ◌≤◌, arith, refl, Bool, true, false, length, get_or, set}
use Rattle.std.specs.Prelude.{nat_lt, nat_eq, bit_or, if◌then◌else◌}
use Rattle.std.proofs.lemmas.Bool.Decides.{nat_tests}
use Rattle.root2_cost.specs.Rank.{straight_rank, diagonal_rank}
use Rattle.grid_moves.specs.declared.Cell.{Cell}
use Rattle.grid_moves.specs.declared.Dir.{Dir}
use Rattle.grid_moves.specs.Grid.{GridData, IsGrid, is_free}
use Rattle.grid_moves.proofs.Short.{few_cells}
use Rattle.grid_moves.proofs.Places.{IsOn}
use Rattle.cost_waves.specs.Front.{Front, entered, next_with, after_with}
use Rattle.cost_waves.specs.Rank.{far}
use Rattle.cost_waves.specs.Stored.{has_dir}
use Rattle.cost_waves.specs.Wave.{rank_at, dirs_at, known_count, Way, WayBy}
use Rattle.cost_waves.proofs.Lists.{count_low}

-- the front with a lesser rank, and with an equal one
abbrev pub lowered : ℕ → ℕ → Cell → ℕ → ℕ → Front → Front
lowered at limit to rank first f = record {
  ranks = set f.ranks at rank;
  firsts = set f.firsts at first;
  next = next_with limit (get_or f.ranks at far) rank to f.next;
  after = after_with limit (get_or f.ranks at far) rank to f.after;
}

abbrev pub joined : ℕ → ℕ → Front → Front
joined at first f = record {
  ranks = f.ranks;
  firsts = set f.firsts at (bit_or (get_or f.firsts at 0) first);
  next = f.next;
  after = f.after;
}

-- an offer lowers a rank, joins directions, or is passed over
pub data Effect (at limit : ℕ) (to : Cell) (rank first : ℕ) (f f' : Front) : Type 0 where
  lowers : rank < get_or f.ranks at far → f' ≡ lowered at limit to rank first f
      → Effect at limit to rank first f f'
  joins : rank ≡ get_or f.ranks at far → f' ≡ joined at first f → Effect at limit to rank first f f'
  passes : get_or f.ranks at far < rank → f' ≡ f → Effect at limit to rank first f f'

pub effect : (at limit : ℕ) (to : Cell) (rank first : ℕ) (f : Front)
    → Effect at limit to rank first f (entered at limit to rank first f)
unfolding entered
effect at limit to rank first f =
    by_tests (nat_lt rank (get_or f.ranks at far)) (nat_eq rank (get_or f.ranks at far)) refl refl
  where
    by_tests : (a b : Bool) → nat_lt rank (get_or f.ranks at far) ≡ a
        → nat_eq rank (get_or f.ranks at far) ≡ b
        → Effect at limit to rank first f (if a then lowered at limit to rank first f
        else if b then joined at first f else f)
    by_tests true b p q = lowers (grind (arith, nat_tests)) refl
    by_tests false true p q = joins (grind (arith, nat_tests)) refl
    by_tests false false p q = passes (grind (arith, nat_tests)) refl

-- an offer to a cell that is worth making in the wave whose ranks begin at `floor`
pub record IsOffer (g : GridData) (s : Cell) (floor : ℕ) (f : Front) (to : Cell)
    (rank first : ℕ) : Type 0 where
  pub free : is_free g to ≡ true
  pub low : floor + straight_rank ≤ rank
  pub high : rank < floor + straight_rank + straight_rank + straight_rank
  pub bounded : rank ≤ diagonal_rank * known_count f.ranks
  pub way : Way g s to rank
  pub sound : (d : Dir) → has_dir first d ≡ true → WayBy g s to d rank

-- what an offer leaves: no rank rises, ranks of this wave and those before stay, directions stay with
-- their rank
pub record Follows (g : GridData) (floor : ℕ) (f f' : Front) : Type 0 where
  pub lower : (c : Cell) → IsOn g c → rank_at g f'.ranks c ≤ rank_at g f.ranks c
  pub rank : (c : Cell) → IsOn g c → rank_at g f.ranks c < floor + straight_rank
      → rank_at g f'.ranks c ≡ rank_at g f.ranks c
  pub back : (c : Cell) → IsOn g c → rank_at g f'.ranks c < floor + straight_rank
      → rank_at g f'.ranks c ≡ rank_at g f.ranks c
  pub dirs : (c : Cell) → IsOn g c → rank_at g f.ranks c < floor + straight_rank
      → dirs_at g f'.firsts c ≡ dirs_at g f.firsts c
  pub grows : (c : Cell) (d : Dir) → IsOn g c → rank_at g f'.ranks c ≡ rank_at g f.ranks c
      → has_dir (dirs_at g f.firsts c) d ≡ true → has_dir (dirs_at g f'.firsts c) d ≡ true
  pub more : known_count f.ranks ≤ known_count f'.ranks

pub follows_nothing : (g : GridData) (floor : ℕ) (f : Front) → Follows g floor f f
follows_nothing g floor f = record {
  lower = λ c i. omega arith;
  rank = λ c i h. refl;
  back = λ c i h. refl;
  dirs = λ c i h. refl;
  grows = λ c d i p h. h;
  more = omega arith;
}

-- all known ranks are far below the limit
pub few : (g : GridData) → IsGrid g → (f : Front) → length f.ranks ≡ g.height * g.width
    → diagonal_rank * known_count f.ranks ≤ 75137669218172928
few g whole f n =
    let c = count_low f.ranks in let p = few_cells g whole in omega arith
