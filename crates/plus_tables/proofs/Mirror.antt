-- A map that is turned upside down: moves, forced neighbours and marks are those of the directions turned
-- so.
use Rattle.std.proofs.lemmas.Bool.Decides.{nat_tests}
use Rattle.std.proofs.Common.{◌≡◌, arith, ℕ, Bool, true, ◌&&◌, ◌||◌, List, refl}
use Rattle.std.specs.Prelude.{ℤ}
use Rattle.grid_moves.specs.declared.Cell.{Cell}
use Rattle.grid_moves.specs.declared.Corner.{Corner}
use Rattle.grid_moves.specs.declared.Dir.{Dir}
use Rattle.grid_moves.specs.declared.ring.Ring.{Ring}
use Rattle.grid_moves.specs.Grid.{GridData}
use Rattle.grid_moves.specs.Ring.{leads_on}
use Rattle.pruning.specs.declared.turns.Side.{Side}
use Rattle.pruning.specs.declared.turns.Side.TheVariants.{Right, Left}
use Rattle.pruning.specs.Turns.{turn, is_diagonal}
use Rattle.pruning.specs.Marked.{is_forced}
use Rattle.pruning.specs.Ring.{forced_beside, forced_on}
use Rattle.pruning.proofs.Table.{other}
use Rattle.plus_tables.specs.declared.heading.Heading.{Heading}
use Rattle.plus_tables.specs.declared.heading.Heading.TheVariants.{Upwards, Downwards}
use Rattle.plus_tables.specs.Local.{tells_mark, is_mark_by}
use Rattle.plus_tables.specs.Rows.{ring_of, place_after, is_along, flipped, dir_seen}

-- the flags around a column as they lie on the map
abbrev pub upright : Heading → List Bool → List Bool → List Bool → ℕ → Ring
upright Upwards ahead here behind x = ring_of ahead here behind x
upright Downwards ahead here behind x = ring_of behind here ahead x

either_way : (a b : Bool) → (a || b) ≡ (b || a)
either_way a b = grind arith

pub place_seen : (h : Heading) (d : Dir) (x : ℕ) → place_after (dir_seen h d) x ≡ place_after d x
place_seen h d x = grind (arith, nat_tests)

pub along_seen : (h : Heading) (d : Dir) → is_along d ≡ true → dir_seen h d ≡ d
along_seen h d i = grind (arith, nat_tests)

module _ (r : Corner) (a h b : List Bool) (x : ℕ) where
  forced_on_flipped : (d : Dir) (s : Side)
      → forced_beside r (ring_of b h a x) (flipped d) s ≡ forced_beside r (ring_of a h b x) d (other s)
  forced_on_flipped d s = grind (arith, nat_tests)

  pub forced_seen : (heading : Heading) (d : Dir)
      → forced_on r (ring_of a h b x) d ≡ forced_on r (upright heading a h b x) (dir_seen heading d)
  forced_seen Upwards d = refl
  forced_seen Downwards d = grind (arith, nat_tests, either_way, forced_on_flipped)

  pub can_seen : (heading : Heading) (d : Dir)
      → leads_on r (ring_of a h b x) d ≡ leads_on r (upright heading a h b x) (dir_seen heading d)
  can_seen Upwards d = refl
  can_seen Downwards d = grind (arith, nat_tests)

mark_flipped : (forced : Bool) (marks : Dir → Bool) (d : Dir)
    → (forced
    || (is_diagonal (flipped d) && (marks (turn Right (flipped d)) || marks (turn Left (flipped d)))))
    ≡ (forced || (is_diagonal d && (marks (flipped (turn Right d)) || marks (flipped (turn Left d)))))
mark_flipped forced marks d = grind (arith, nat_tests, either_way)

pub mark_seen : (h : Heading) (g : GridData) (entry : Cell → Dir → ℤ) (d : Dir) (w : Cell)
    → is_mark_by g entry (dir_seen h d) w ≡ (is_forced g w (dir_seen h d) || (is_diagonal d
    && (tells_mark (entry w (dir_seen h (turn Right d))) || tells_mark (entry w (dir_seen h (turn Left d))))))
mark_seen Upwards g entry d w = refl
mark_seen Downwards g entry d w =
    mark_flipped (is_forced g w (flipped d)) (λ (e : Dir). tells_mark (entry w e)) d
