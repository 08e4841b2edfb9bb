use Rattle.std.proofs.Common.{◌≡◌, drop, map, string_bytes}
use Rattle.word_list.specs.Settings.{tables_of}
use Rattle.word_list.proofs.settings.table_file.Given as goal

-- the words behind tell no table file
abbrev pub invariant-loop-word : goal.invariant-loop-word
invariant-loop-word l = tables_of (map string_bytes l.words)
    ≡ tables_of (drop l.word-index (map string_bytes l.words))
