-- What each step of the reading says.
use Rattle.std.specs.Prelude.{◌≡◌, ℕ, ◌<◌, ◌≤◌, Bool, true, false, List, ◌++◌, length, take, slice_get}
use Rattle.std.specs.Prelude.{Option, Some, None}
use Rattle.word_list.specs.declared.settings.Family.{Family}
use Rattle.word_list.specs.declared.rows.WordKind.{WordKind}
use Rattle.word_list.specs.Settings.{may_follow}
use Rattle.word_list.specs.Kinds.{is_of}

-- whether there is a kind, and a word that is of it
abbrev pub is_one_of : Option WordKind → Option (List ℕ) → Bool
is_one_of (Some kind) (Some word) = is_of kind word
is_one_of kind word = false

-- so many of the words are of these kinds, one after the other, and not one more
pub record AreOf (takes : List WordKind) (words : List (List ℕ)) (count : ℕ) : Type 0 where
  pub within : count ≤ length takes
  pub first : (k : ℕ) → k < count → is_one_of (slice_get takes k) (slice_get words k) ≡ true
  pub next : count < length takes → is_one_of (slice_get takes count) (slice_get words count) ≡ false

-- whether there is a word, and it may follow others
abbrev pub one_follows : List Family → List (List ℕ) → Option (List ℕ) → Bool
one_follows allows before (Some word) = may_follow allows before word
one_follows allows before None = false

-- so many of the words may follow those before them, one after the other, and not one more
pub record AreSettled (allows : List Family) (before words : List (List ℕ)) (count : ℕ) : Type 0 where
  pub within : count ≤ length words
  pub first : (k : ℕ) → k < count → one_follows allows (before ++ take k words) (slice_get words k) ≡ true
  pub next : one_follows allows (before ++ take count words) (slice_get words count) ≡ false
