use Rattle.std.proofs.Common.{◌≡◌, take, map, string_bytes}
use Rattle.word_list.specs.Settings.{settings_of}
use Rattle.word_list.proofs.settings.chosen.Given as goal

abbrev pub invariant-loop-word : goal.invariant-loop-word
invariant-loop-word l = l.settings ≡ settings_of l.fn.engine (take l.word-index (map string_bytes l.words))
