-- Lists of directions in one word.
-- No public clause cites a definition of this module.
use Rattle.std.specs.Prelude.{◌≡◌, ℕ, zero, suc, ◌+◌, ◌-◌, ◌*◌, ◌/◌, ◌%◌, refl, List, [], ◌∷◌, get_or, nat_eq}
use Rattle.std.specs.Prelude.{if◌then◌else◌}
use Rattle.grid_moves.specs.declared.Dir.{Dir}
use Rattle.grid_moves.specs.declared.Dir.TheVariants.{N, E, S}
use Rattle.grid_moves.specs.Move.{dir_number, all_dirs}

-- the first direction's number and one, and sixteen times the word of the others
abbrev pub word_of : List Dir → ℕ
word_of [] = 0
word_of (d ∷ ds) = dir_number d + 1 + 16 * word_of ds

-- the directions of a word, at most so many
unfoldable pub dirs_of : ℕ → ℕ → List Dir
dirs_of zero word = []
dirs_of (suc n) word =
    if nat_eq word 0 then [] else (get_or all_dirs (word % 16 - 1) N ∷ dirs_of n (word / 16))

-- east and south
pub two_dirs : word_of (E ∷ S ∷ []) ≡ 83
two_dirs = refl
