-- The files of a map.
use Rattle.std.specs.Prelude.{ℕ, List, [], ◌∷◌, Option, Some, None}
use Rattle.word_list.specs.declared.request.Settings.{Settings}
use Rattle.call_files.specs.Files.{File, file_of}
use Rattle.call_files.specs.Kinds.{extent_for, kind_for}
use Rattle.call_files.specs.declared.kind.TextKind.{TextKind}
use Rattle.call_files.specs.declared.kind.TextKind.TheVariants as kind

-- the kind of the map where an engine of small maps may be picked
abbrev pub map_kind : Settings → TextKind
map_kind set = kind_for (extent_for set.pick)

-- the files that are read for whoever answers: that of the map, and the table file where one is named
abbrev pub map_files : Settings → List ℕ → Option (List ℕ) → List File
map_files set map None = file_of (map_kind set) map ∷ []
map_files set map (Some tables) = file_of kind.Map map ∷ file_of (kind.Tables set.rule) tables ∷ []
