-- The name of a map by its word.
use Rattle.std.proofs.Common.{◌≡◌, ◌≢◌, ℕ, ◌+◌, ◌-◌, ◌<◌, ◌≤◌, true, false, List, [], ◌∷◌, length}
use Rattle.std.proofs.Common.{get_or, take, drop, map, sym, arith}
use Rattle.std.specs.Prelude.{codes}
use Rattle.std.specs.List.{after_last}
use Rattle.std.proofs.lemmas.Bool.{false_from_ne_true}
use Rattle.std.proofs.lemmas.Bool.Decides.{nat_tests}
use Rattle.std.proofs.lemmas.List.{get_or-map, length-drop, length-map, take_all}
use Rattle.std.proofs.lemmas.List.Sums.{suffix_len_is}
use Rattle.memchr.specs.Find.{Nowhere, NoneAfter, Passes, is_byte}
use Rattle.text_line.specs.Fields.{is_blank_byte}
use Rattle.scen_text.specs.Names.{IsName}
use Rattle.scen_lines.specs.Naming.{is_slash, name_byte, or_map, name_of}

-- each byte of a name belongs to a field
filled_byte : (byte : ℕ) → is_blank_byte (name_byte byte) ≡ false
filled_byte byte = grind (arith, nat_tests)

no_feed : (byte : ℕ) → name_byte byte ≢ 10
no_feed byte is = grind (arith, nat_tests)

-- from a place on no slash stands
behind_from : (word : List ℕ) (n : ℕ) → n ≤ length word
    → Nowhere (Passes (is_byte 47) word) n (length word)
    → (0 < n → is_slash (get_or word (n - 1) 0) ≡ true) → after_last is_slash word ≡ drop n word
behind_from word n inside none slash = grind (arith, nat_tests, suffix_len_is, false_from_ne_true, get_or)

pub behind_none : (word : List ℕ) → Nowhere (Passes (is_byte 47) word) 0 (length word)
    → word ≡ after_last is_slash word
behind_none word none = sym (behind_from word 0 (omega arith) none (λ some. absurd (omega arith)))

pub behind_place : (word : List ℕ) (place : ℕ)
    → NoneAfter (Passes (is_byte 47) word) 0 (length word) place × Passes (is_byte 47) word place
    → take (length word - (place + 1)) (drop (place + 1) word) ≡ after_last is_slash word
behind_place word place is = grind (arith, nat_tests, get_or, take_all, length-drop, behind_from)

-- such a name can stand in an entry
byte_at : (bytes : List ℕ) (k : ℕ) → k < length (map name_byte bytes)
    → get_or (map name_byte bytes) k 0 ≡ name_byte (get_or bytes k 0)
byte_at bytes k below = grind (arith, nat_tests, length-map, get_or-map)

bytes_name : (bytes : List ℕ) → 0 < length (map name_byte bytes) → IsName (map name_byte bytes)
bytes_name bytes some = grind (arith, nat_tests, byte_at, filled_byte, get_or, no_feed)

or_map_name : (part : List ℕ) → IsName (or_map (map name_byte part))
or_map_name [] = bytes_name (codes "map") (omega arith)
or_map_name (byte ∷ bytes) = bytes_name (byte ∷ bytes) (omega arith)

pub word_name : (word : List ℕ) → IsName (name_of word)
word_name word = or_map_name (after_last is_slash word)
