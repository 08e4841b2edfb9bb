use Rattle.std.proofs.Common.{◌≡◌, true, take, map, string_bytes}
use Rattle.word_list.specs.Settings.{are_served}
use Rattle.word_list.proofs.settings.serves.Given as goal

-- each of the words behind is served
abbrev pub invariant-loop-word : goal.invariant-loop-word
invariant-loop-word l = are_served l.pick (take l.word-index (map string_bytes l.words)) ≡ true
