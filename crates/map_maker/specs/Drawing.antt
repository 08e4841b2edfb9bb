-- How cells and commands take their words.
use Rattle.std.specs.Prelude.{◌≡◌, ℕ, zero, suc, ◌+◌, ◌%◌, ◌<◌, List, length, slice_index}
use Rattle.rand_pcg.specs.Lcg.{Lcg}
use Rattle.script_text.specs.declared.command.ScriptCommand.{ScriptCommand}
use Rattle.map_maker.specs.Words.{words_from, after_words}
use Rattle.map_maker.specs.Making.{cell_of}
use Rattle.map_maker.specs.Drill.{command_of, words_in}

-- the cell of each word below 100
pub record AreKinds (percent : ℕ) (kinds : List ℕ) : Type 0 where
  pub long : length kinds ≡ 100
  pub each : (rest : ℕ) → rest < 100 → slice_index kinds rest ≡ cell_of percent rest

-- the cell of a word, looked up among these
abbrev pub cell_by : List ℕ → ℕ → ℕ
cell_by kinds word = slice_index kinds (word % 100)

-- how many words so many commands take, numbered from a number on
unfoldable pub words_needed : ℕ → ℕ → ℕ
words_needed number zero = 0
words_needed number (suc count) = words_in number + words_needed (number + 1) count

-- the command with this number was made of the next words, as many as it takes
pub record Draws (number : ℕ) (old : Lcg) (command : ScriptCommand) (new : Lcg) : Type 0 where
  pub made : command ≡ command_of number (words_from (words_in number) old)
  pub left : new ≡ after_words (words_in number) old
