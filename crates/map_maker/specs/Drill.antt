-- The commands of a drill.
use Rattle.std.specs.Prelude.{ℕ, zero, suc, ◌+◌, ◌%◌, ◌==◌, if◌then◌else◌, List, [], ◌∷◌, drop, slice_index}
use Rattle.std.specs.Prelude.{bit_xor}
use Rattle.script_text.specs.declared.command.ScriptCommand.{ScriptCommand}
use Rattle.script_text.specs.declared.command.ScriptCommand.TheVariants.{Block, Free, Query}
use Rattle.map_maker.specs.Words.{words_of}

-- a column or a row of the drill's map, which is 256 by 256
abbrev pub place_at : List ℕ → ℕ → ℕ
place_at words k = slice_index words k % 256

-- an edit of three words: its column, its row, and whether it blocks or frees
abbrev pub edit_of : List ℕ → ScriptCommand
edit_of words = if slice_index words 2 % 2 == 0 then Block (place_at words 0) (place_at words 1)
    else Free (place_at words 0) (place_at words 1)

-- a query of four words: the columns and rows of its start and of its goal
abbrev pub query_of : List ℕ → ScriptCommand
query_of words = Query (place_at words 0) (place_at words 1) (place_at words 2) (place_at words 3)

-- a command whose number is divisible by 3 is an edit, each other one a query
abbrev pub command_of : ℕ → List ℕ → ScriptCommand
command_of number words = if number % 3 == 0 then edit_of words else query_of words

-- how many words it takes
abbrev pub words_in : ℕ → ℕ
words_in number = if number % 3 == 0 then 3 else 4

-- so many commands numbered from a number on, of the words in order
unfoldable pub commands_of : ℕ → ℕ → List ℕ → List ScriptCommand
commands_of number zero words = []
commands_of number (suc count) words =
    command_of number words ∷ commands_of (number + 1) count (drop (words_in number) words)

-- the 150 commands of a seed, 50 edits and 100 queries, of 550 words of the seed with its lowest bit changed
unfoldable pub drill_commands : ℕ → List ScriptCommand
drill_commands seed = commands_of 1 150 (words_of (bit_xor seed 1) 550)
