use Rattle.std.specs.Prelude.{◌≡◌, ◌++◌, map, drop, string_bytes}
use Rattle.page_calls.specs.Handed.{words_behind, words_in}
use Rattle.page_calls.proofs.handed.words_of.Given as goal

-- the words so far, and then those of the bytes that are left, behind the word that has begun
abbrev pub invariant-loop-byte : goal.invariant-loop-byte
invariant-loop-byte l = map string_bytes l.words.items
    ++ words_behind l.word.items (drop l.byte-index l.bytes)
    ≡ words_in l.bytes
