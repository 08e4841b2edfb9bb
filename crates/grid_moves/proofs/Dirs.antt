-- The numbers of directions.
use Rattle.std.proofs.Common.{◌≡◌, ◌<◌, arith, refl, ap, sym, ◌∙◌, get_or, List, ◌∷◌}
use Rattle.grid_moves.specs.declared.Dir.{Dir}
use Rattle.grid_moves.specs.declared.Dir.TheVariants.{N, NE, E, SE, S, SW, W, NW}
use Rattle.grid_moves.specs.Move.{all_dirs, dir_number}

-- a direction stands at its number
pub numbered_dir : (d : Dir) → get_or all_dirs (dir_number d) N ≡ d
numbered_dir N = refl
numbered_dir NE = refl
numbered_dir E = refl
numbered_dir SE = refl
numbered_dir S = refl
numbered_dir SW = refl
numbered_dir W = refl
numbered_dir NW = refl

-- so directions of one number are one
pub one_dir : (d e : Dir) → dir_number d ≡ dir_number e → d ≡ e
one_dir d e h = sym (numbered_dir d) ∙ ap (λ n. get_or all_dirs n N) h ∙ numbered_dir e

-- there are eight
pub dir_number-few : (d : Dir) → dir_number d < 8
dir_number-few d = grind arith

-- the direction is one of these
pub data In (d : Dir) : List Dir → Type 0 where
  first : (dirs : List Dir) → In d (d ∷ dirs)
  later : (e : Dir) (dirs : List Dir) → In d dirs → In d (e ∷ dirs)

pub in_all : (d : Dir) → In d all_dirs
in_all N = first _
in_all NE = later _ _ (first _)
in_all E = later _ _ (later _ _ (first _))
in_all SE = later _ _ (later _ _ (later _ _ (first _)))
in_all S = later _ _ (later _ _ (later _ _ (later _ _ (first _))))
in_all SW = later _ _ (later _ _ (later _ _ (later _ _ (later _ _ (first _)))))
in_all W = later _ _ (later _ _ (later _ _ (later _ _ (later _ _ (later _ _ (first _))))))
in_all NW = later _ _ (later _ _ (later _ _ (later _ _ (later _ _ (later _ _ (later _ _ (first _)))))))
