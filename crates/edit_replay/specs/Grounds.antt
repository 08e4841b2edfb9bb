-- That each byte of a map has a kind of ground, and none is blocked because it has no kind.
use Rattle.std.specs.Prelude.{◌≡◌, ℕ, Bool, ◌==◌, ◌&&◌, ◌||◌}
use Rattle.grid_moves.specs.declared.Ground.TheVariants.{Blocked, Land, Water}
use Rattle.grid_moves.specs.Grid.{ground_of, is_ground}
use Rattle.map_text.specs.Map.{is_terrain}

-- `@`, `O` or `T`
abbrev pub is_wall : ℕ → Bool
is_wall byte = byte == 64 || byte == 79 || byte == 84

-- the bytes of a map are those that stand for land or water, and these; and these are its blocked ones
abbrev pub TerrainHasGrounds : Type 0
TerrainHasGrounds = (byte : ℕ)
    → (is_terrain byte ≡ (is_ground Land (ground_of byte)
    || is_ground Water (ground_of byte) || is_wall byte))
    × (is_wall byte ≡ (is_terrain byte && is_ground Blocked (ground_of byte)))
