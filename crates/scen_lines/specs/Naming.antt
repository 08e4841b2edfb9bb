-- The name that the word of a map stands for.
use Rattle.std.specs.Prelude.{◌≡◌, ℕ, Bool, ◌==◌, ◌||◌, nat_le, if◌then◌else◌, List, [], ◌∷◌, map}
use Rattle.std.specs.Prelude.{codes, refl}
use Rattle.std.specs.List.{after_last}

-- the byte that parts the names of folders
abbrev pub is_slash : ℕ → Bool
is_slash byte = byte == 47

-- a byte, or `_` for one that prints nothing
abbrev pub name_byte : ℕ → ℕ
name_byte byte = if nat_le byte 32 || byte == 127 then 95 else byte

-- `map` where there is no name
abbrev pub or_map : List ℕ → List ℕ
or_map [] = codes "map"
or_map (byte ∷ bytes) = byte ∷ bytes

-- what stands behind the last slash of a word, or `map` where nothing does
abbrev pub name_of : List ℕ → List ℕ
name_of word = or_map (map name_byte (after_last is_slash word))

-- worked rows, by computing
pub behind_folders : name_of (codes "maps/old ones/a b.map") ≡ codes "a_b.map"
behind_folders = refl

pub whole_word : name_of (codes "game.map") ≡ codes "game.map"
whole_word = refl

pub nothing_behind : name_of (codes "maps/") ≡ codes "map"
nothing_behind = refl
