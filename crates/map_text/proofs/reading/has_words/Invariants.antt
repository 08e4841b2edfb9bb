use Rattle.std.proofs.Common.{◌≡◌, map, drop}
use Rattle.std.specs.Str.{bytes_eq}
use Rattle.std.specs.Cmp.Lexicographic.{pointwise}
use Rattle.map_text.proofs.reading.has_words.Given as goal

-- the fields left are the words left exactly where all fields are all words
abbrev pub invariant-loop-word : goal.invariant-loop-word
invariant-loop-word l =
    pointwise bytes_eq l.fields (drop l.word-index (map (λ word. word.now) l.words)) ≡ pointwise bytes_eq
    l.initial.fields (map (λ word. word.now) l.words)
