-- The words after a command's name: where they stop, and how many they are at most.
use Rattle.std.proofs.Common.{◌≡◌, ℕ, zero, suc, ◌+◌, ◌<◌, true, false, List, [], ◌∷◌, length, drop, refl}
use Rattle.std.proofs.Common.{◌∙◌, subst, arith}
use Rattle.std.specs.Prelude.{codes}
use Rattle.text_line.specs.LongNumbers.{long_number_of}
use Rattle.text_line.specs.Numbers.{number_of}
use Rattle.word_list.specs.declared.request.SessionEngine.{SessionEngine}
use Rattle.word_list.specs.declared.rows.WordKind.{WordKind}
use Rattle.word_list.specs.declared.rows.WordKind.TheVariants.{File, Number, Seed, Side, Percent, Count}
use Rattle.word_list.specs.declared.settings.Family.{Family}
use Rattle.word_list.specs.Settings.{are_settings}
use Rattle.word_list.specs.Kinds.{is_of}
use Rattle.word_list.specs.Calls.{fits}
use Rattle.word_list.specs.Rule.{Begins, EndsAfter}
use Rattle.word_list.specs.Steps.{AreOf}
use Rattle.word_list.proofs.Rules.{ends_at_once, ends_later}

module _ (engine : SessionEngine) (allows : List Family) where
  -- every form has a list
  pub completed : (takes : List WordKind) → Begins (fits engine takes allows) []
  unfolding number_of long_number_of
  completed [] = ([], refl)
  completed (File ∷ takes) = let rest = completed takes in ([] ∷ rest.0, rest.1)
  completed (Number ∷ takes) = let rest = completed takes in (codes "0" ∷ rest.0, rest.1)
  completed (Seed ∷ takes) = let rest = completed takes in (codes "0" ∷ rest.0, rest.1)
  completed (Side ∷ takes) = let rest = completed takes in (codes "1" ∷ rest.0, rest.1)
  completed (Percent ∷ takes) = let rest = completed takes in (codes "0" ∷ rest.0, rest.1)
  completed (Count ∷ takes) = let rest = completed takes in (codes "1" ∷ rest.0, rest.1)

  -- a first word that is of its kind
  goes_on : (kind : WordKind) (takes : List WordKind) (word : List ℕ) → is_of kind word ≡ true
      → (more : List (List ℕ)) → fits engine (kind ∷ takes) allows (word ∷ more)
      ≡ fits engine takes allows more
  goes_on kind takes word right more = rw right refl

  later : {kind : WordKind} {takes : List WordKind} {word : List ℕ} {words : List (List ℕ)} {count : ℕ}
      → AreOf (kind ∷ takes) (word ∷ words) (suc count) → AreOf takes words count
  later are = record {
    within = omega (arith, are.within);
    first = λ k below. are.first (suc k) (omega arith);
    next = λ below. are.next (omega arith);
  }

  -- where a word that is taken is absent or not of its kind
  pub taken_part : (takes : List WordKind) (words : List (List ℕ)) (count : ℕ) → AreOf takes words count
      → count < length takes → (fits engine takes allows words ≡ false)
      × EndsAfter (fits engine takes allows) words count
  taken_part [] words count are below = absurd (omega arith)
  taken_part (kind ∷ takes) [] zero are below = (
    refl,
    ends_at_once (fits engine (kind ∷ takes) allows) [] (completed (kind ∷ takes))
        (λ inside. absurd (omega arith)),
  )
  taken_part (kind ∷ takes) [] (suc count) are below = let no = are.first 0 (omega arith) in cc (no)
  taken_part (kind ∷ takes) (word ∷ words) zero are below =
      let wrong : is_of kind word ≡ false = are.next below in (
        rw wrong refl,
        ends_at_once (fits engine (kind ∷ takes) allows) (word ∷ words) (completed (kind ∷ takes))
            (λ inside found. let no = rw wrong at found.1 in cc (no)),
      )
  taken_part (kind ∷ takes) (word ∷ words) (suc count) are below =
      let right : is_of kind word ≡ true = are.first 0 (omega arith) in
      let rest = taken_part takes words count (later are) (omega arith) in (
        goes_on kind takes word right words ∙ rest.0,
        ends_later (fits engine (kind ∷ takes) allows) (fits engine takes allows) word words count
            (goes_on kind takes word right) rest.1,
      )

  -- where all words that are taken are there
  pub taken_whole : (takes : List WordKind) (words : List (List ℕ)) → AreOf takes words (length takes)
      → (fits engine takes allows words ≡ are_settings engine allows (drop (length takes) words))
      × ((place count : ℕ) → count ≡ length takes + place
      → EndsAfter (are_settings engine allows) (drop (length takes) words) place
      → EndsAfter (fits engine takes allows) words count)
  taken_whole [] words are = (
    refl,
    λ place count sum after. subst (EndsAfter (are_settings engine allows) words)
        (omega (arith, sum)) after,
  )
  taken_whole (kind ∷ takes) [] are = let no = are.first 0 (omega arith) in cc (no)
  taken_whole (kind ∷ takes) (word ∷ words) are =
      let right : is_of kind word ≡ true = are.first 0 (omega arith) in
      let rest = taken_whole takes words (later are) in (
        goes_on kind takes word right words ∙ rest.0,
        λ place count sum after.
            subst (EndsAfter (fits engine (kind ∷ takes) allows) (word ∷ words)) (omega (arith, sum))
            (ends_later (fits engine (kind ∷ takes) allows) (fits engine takes allows) word words
            (length takes + place)
            (goes_on kind takes word right) (rest.1 place (length takes + place) refl after)),
      )
