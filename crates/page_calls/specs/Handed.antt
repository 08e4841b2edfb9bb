-- What bytes hand over: words, and texts under names.
use Rattle.std.specs.Prelude.{◌≡◌, refl, ℕ, List, [], ◌∷◌, ◌++◌, ⊤, if◌then◌else◌, nat_eq}
use Rattle.std.specs.List.{slice_get}
use Rattle.std.specs.Option.{option_map_or}
use Rattle.std.specs.Str.{IsUtf8}

-- the words of these bytes, behind the bytes of a word that has begun
abbrev pub words_behind : List ℕ → List ℕ → List (List ℕ)
words_behind begun [] = []
words_behind begun (b ∷ bytes) =
    if nat_eq b 0 then begun ∷ words_behind [] bytes else words_behind (begun ++ b ∷ []) bytes

-- the words of these bytes, each of which ends by a byte 0
abbrev pub words_in : List ℕ → List (List ℕ)
words_in bytes = words_behind [] bytes

-- each word is text
abbrev pub AreTexts : List (List ℕ) → Type 0
AreTexts [] = ⊤
AreTexts (word ∷ words) = IsUtf8 word × AreTexts words

-- the text under the name of this place, if there is one
abbrev pub text_at : List (List ℕ) → ℕ → List ℕ → List (List ℕ × List ℕ)
text_at names place text = option_map_or (λ name. (name, text) ∷ []) (slice_get names place) []

-- the texts under their names
abbrev pub texts_in : List (List ℕ) → List ℕ → List ℕ → List ℕ → List (List ℕ × List ℕ)
texts_in names first second third = text_at names 0 first ++ text_at names 1 second ++ text_at names 2 third

-- two words and an empty one between them
pub three_words : words_in (97 ∷ 98 ∷ 0 ∷ 0 ∷ 99 ∷ 0 ∷ []) ≡ (97 ∷ 98 ∷ []) ∷ [] ∷ (99 ∷ []) ∷ []
three_words = refl

-- the second of three names has the second text
pub second_name : texts_in ((1 ∷ []) ∷ (2 ∷ []) ∷ []) (5 ∷ []) (6 ∷ []) []
    ≡ (1 ∷ [], 5 ∷ []) ∷ (2 ∷ [], 6 ∷ []) ∷ []
second_name = refl
