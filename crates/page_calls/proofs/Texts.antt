-- Words that are text, and one that is none.
use Rattle.std.proofs.Common.{◌≡◌, ℕ, ◌<◌, ◌≤◌, List, [], ◌∷◌, ◌++◌, length, map, String, Global}
use Rattle.std.proofs.Common.{string_bytes, ap, refl, ◌∙◌, get_or}
use Rattle.std.specs.Option.{option_map, option_map_or}
use Rattle.std.specs.List.{slice_get}
use Rattle.std.proofs.lemmas.Option.{slice_get-map, slice_get_past, slice_get_read}
use Rattle.std.specs.Str.{IsUtf8}
use Rattle.page_calls.specs.Handed.{AreTexts, text_at}

-- where all are text, so is each
pub text_among : (before : List (List ℕ)) (word : List ℕ) (behind : List (List ℕ))
    → AreTexts (before ++ word ∷ behind) → IsUtf8 word
text_among [] word behind all = all.0
text_among (w ∷ before) word behind all = text_among before word behind all.1

-- the text under the name of a place, and where there is no name
pub text_under : (names : List (String Global)) (place : ℕ) (name : String Global) (text : List ℕ)
    → place < length names → name ≡ get_or names place name
    → text_at (map string_bytes names) place text ≡ (string_bytes name, text) ∷ []
text_under names place name text within read =
    ap (λ found. option_map_or (λ n. (n, text) ∷ []) found [])
    (slice_get-map string_bytes names place
    ∙ ap (option_map string_bytes) (slice_get_read names (length names) place name refl within read))

pub no_name : (names : List (String Global)) (place : ℕ) (text : List ℕ) → length names ≤ place
    → text_at (map string_bytes names) place text ≡ []
no_name names place text past =
    ap (λ found. option_map_or (λ n. (n, text) ∷ []) found [])
    (slice_get-map string_bytes names place ∙ ap (option_map string_bytes) (slice_get_past names place past))
