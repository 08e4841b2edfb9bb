use Rattle.std.proofs.Common.{◌≡◌, false, take, map, string_bytes}
use Rattle.std.specs.Prelude.{Some}
use Rattle.std.specs.List.{list_any}
use Rattle.word_list.specs.Settings.{setting_of, are_clashing}
use Rattle.word_list.proofs.settings.clashes_with.Given as goal

-- none of the words behind clashes with the setting
abbrev pub invariant-loop-word : goal.invariant-loop-word
invariant-loop-word l = list_any (λ word. are_clashing (setting_of word) (Some l.setting))
    (take l.word-index (map string_bytes l.before)) ≡ false
