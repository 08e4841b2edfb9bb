-- Lists of settings: where they stop, and how many they are at most.
use Rattle.std.proofs.lemmas.Bool.Decides.{nat_tests}
use Rattle.std.proofs.Common.{◌≡◌, ℕ, zero, suc, ◌+◌, ◌<◌, ◌≤◌, Bool, true, false, not, List, [], ◌∷◌}
use Rattle.std.proofs.Common.{◌++◌, refl, sym, ap, ◌∙◌, length, take, drop, get_or, map, append_assoc}
use Rattle.std.proofs.Common.{append-nil, string_bytes, add-one, arith}
use Rattle.std.specs.Prelude.{String, Option, Some, None, if◌then◌else◌}
use Rattle.std.specs.Global.{Global}
use Rattle.std.specs.List.{list_all, list_any}
use Rattle.std.specs.Option.{option_or}
use Rattle.std.proofs.lemmas.Bool.{and_parts, or_parts, or_left, false_from_ne_true, true≢false}
use Rattle.std.proofs.lemmas.List.{length-map, get_or-map, take_more}
use Rattle.std.proofs.lemmas.List.Sums.{fold-append}
use Rattle.std.proofs.lemmas.List.Folds.{list_all_at, list_all_more, list_any-append, list_any_at}
use Rattle.std.proofs.lemmas.List.Folds.{list_any_more}
use Rattle.word_list.specs.declared.request.SessionEngine.{SessionEngine}
use Rattle.word_list.specs.declared.request.SessionEngine.TheVariants.{Plain}
use Rattle.word_list.specs.declared.settings.Setting.{Setting}
use Rattle.word_list.specs.declared.settings.Setting.TheVariants as setting
use Rattle.word_list.specs.declared.settings.Choice.{Choice}
use Rattle.word_list.specs.declared.settings.Choice.TheVariants as choice
use Rattle.word_list.specs.declared.settings.Family.{Family}
use Rattle.word_list.specs.Settings.{setting_of, choice_of, is_same, is_clash, are_clashing, is_allowed}
use Rattle.word_list.specs.Settings.{may_follow, settings_with, settings_of, silent_on, tables_in}
use Rattle.word_list.specs.Settings.{tables_of, is_complete}
use Rattle.word_list.specs.Rule.{EndsAfter}
use Rattle.word_list.specs.Steps.{AreSettled}
use Rattle.word_list.proofs.Completed.{Stand, completed, can_complete, stand_on}
use Rattle.word_list.proofs.Rules.{ends_at_once, ends_later}

-- the bytes of a word at its place
pub bytes_at : (words : List (String Global)) (place : ℕ) (word : String Global) (bytes : List ℕ)
    → place < length words → word ≡ get_or words place word → bytes ≡ string_bytes word
    → (place < length (map string_bytes words)) × (get_or (map string_bytes words) place bytes ≡ bytes)
bytes_at words place word bytes inside at spelled = grind (arith, length-map, string_bytes, get_or-map)

-- a test of the element at a place, after those before it failed
module _ {A : Type 0} (test : A → Bool) (xs : List A) (place : ℕ) (x : A) (inside : place < length xs)
    (at : get_or xs place x ≡ x) where
  pub any_here : test x ≡ true → list_any test xs ≡ true
  any_here met = list_any_at test xs place x inside (ap test at ∙ met)

  pub none_yet : test x ≡ false → list_any test (take place xs) ≡ false
      → list_any test (take (place + 1) xs) ≡ false
  none_yet unmet none = list_any_more test xs place x inside ∙ rw (none, at, unmet) refl

  pub one_fails : test x ≡ false → list_all test xs ≡ false
  one_fails unmet = list_all_at test xs place x inside (ap test at ∙ unmet)

  pub all_yet : test x ≡ true → list_all test (take place xs) ≡ true
      → list_all test (take (place + 1) xs) ≡ true
  all_yet met all = list_all_more test xs place x inside ∙ rw (all, at, met) refl

-- behind settings, a list of settings ends after so many words; where these are all, it is one if no word is
-- missing
pub record Settles (engine : SessionEngine) (allows : List Family) (before words : List (List ℕ)) (count : ℕ)
    : Type 0 where
  pub ends : EndsAfter (completed engine allows before) words count
  pub wrong : count < length words → completed engine allows before words ≡ false
  pub right : length words ≤ count → completed engine allows before words
      ≡ is_complete engine (before ++ words)

module _ (engine : SessionEngine) (allows : List Family) where
  later : {before : List (List ℕ)} {word : List ℕ} {words : List (List ℕ)} {count : ℕ}
      → AreSettled allows before (word ∷ words) (suc count)
      → AreSettled allows (before ++ word ∷ []) words count
  later {before} {word} {words} {count} are = record {
    within = omega (arith, are.within);
    first = λ k below. rw (append_assoc before (word ∷ []) (take k words)) (are.first (suc k) (omega arith));
    next = rw (append_assoc before (word ∷ []) (take count words)) are.next;
  }

  pub settles : (before words : List (List ℕ)) (count : ℕ) → Stand engine allows before
      → AreSettled allows before words count → Settles engine allows before words count
  settles before [] zero stand are = record {
    ends = ends_at_once (completed engine allows before) [] (can_complete engine allows before stand)
        (λ inside. absurd (omega arith));
    wrong = λ below. absurd (omega arith);
    right = λ above. refl;
  }
  settles before [] (suc count) stand are = absurd (omega (arith, are.within))
  settles before (word ∷ words) zero stand are =
      let begins = can_complete engine allows before stand in
      let ends = ends_at_once (completed engine allows before) (word ∷ words) begins in
      grind (arith, append-nil, ends)
  settles before (word ∷ words) (suc count) stand are =
      let first : may_follow allows before word ≡ true = rw append-nil at (are.first 0 (omega arith)) in
      let goes_on : (more : List (List ℕ)) → completed engine allows before (word ∷ more)
      ≡ completed engine allows (before ++ word ∷ []) more =
      λ more. rw (first, append_assoc before (word ∷ []) more) refl in
      let rest = settles (before ++ word ∷ []) words count (stand_on engine allows before word stand first)
      (later are) in
      record {
        ends = ends_later (completed engine allows before)
            (completed engine allows (before ++ word ∷ [])) word words count
            goes_on rest.ends;
        wrong = λ below. goes_on words ∙ rest.wrong (omega arith);
        right = λ above. goes_on words ∙ rest.right (omega arith)
            ∙ ap (is_complete engine) (append_assoc before (word ∷ []) words);
      }

-- whether a word makes a choice
abbrev is_made : Choice → Option Setting → Bool
is_made choice None = false
is_made choice (Some s) = is_same (choice_of s) choice

-- 1 where some of the words makes the choice
abbrev made : Choice → List (List ℕ) → ℕ
made choice words = if list_any (λ word. is_made choice (setting_of word)) words then 1 else 0

-- how many choices the words make
abbrev all_made : List (List ℕ) → ℕ
all_made words = made choice.Engine words + made choice.Show words + made choice.Rule words
    + made choice.TableFile words + made choice.States words

few_made : (words : List (List ℕ)) → all_made words ≤ 5
few_made words = grind arith

-- what makes the same choice clashes
equal_clash : (one other : Setting) → is_same (choice_of one) (choice_of other) ≡ true
    → is_clash one other ≡ true
equal_clash one other same = grind (arith, or_left)

-- a word that may follow makes a choice that is not made yet
module _ (allows : List Family) (before : List (List ℕ)) (word : List ℕ) where
  unmade : (s : Setting) → list_any (λ other. are_clashing (setting_of other) (Some s)) before ≡ false
      → list_any (λ other. is_made (choice_of s) (setting_of other)) before ≡ false
  unmade s none = none_made before none
    where
      apart : (o : Option Setting) → are_clashing o (Some s) ≡ false → is_made (choice_of s) o ≡ false
      apart None clear = refl
      apart (Some t) clear = false_from_ne_true (is_same (choice_of t) (choice_of s))
          (λ same. true≢false (sym (equal_clash t s same) ∙ clear))

      none_made : (words : List (List ℕ)) → list_any (λ other. are_clashing (setting_of other) (Some s)) words
          ≡ false
          → list_any (λ other. is_made (choice_of s) (setting_of other)) words ≡ false
      none_made [] clear = refl
      none_made (other ∷ words) clear =
          let parts = or_parts (are_clashing (setting_of other) (Some s)) _ clear in
          rw (apart (setting_of other) parts.0) (none_made words parts.1)

  -- what is made stays so
  kept : (choice : Choice) → made choice before ≤ made choice (before ++ word ∷ [])
  kept choice = grind (arith, nat_tests, list_any-append)

  grown : (s : Setting) → setting_of word ≡ Some s
      → list_any (λ other. are_clashing (setting_of other) (setting_of word)) before ≡ false
      → made (choice_of s) before + 1 ≤ made (choice_of s) (before ++ word ∷ [])
  grown s is none =
      let not_yet = unmade s (rw is at none) in
      rw (
        list_any-append (λ other. is_made (choice_of s) (setting_of other)) before (word ∷ []),
        not_yet,
        is,
        itself (choice_of s),
      ) (omega arith)
    where
      itself : (choice : Choice) → is_same choice choice ≡ true
      itself choice.Engine = refl
      itself choice.Show = refl
      itself choice.Rule = refl
      itself choice.TableFile = refl
      itself choice.States = refl

  one_more : may_follow allows before word ≡ true → all_made before + 1 ≤ all_made (before ++ word ∷ [])
  one_more follows =
      let parts = and_parts (is_allowed allows (setting_of word)) _ follows in
      let none = is_not (list_any (λ other. are_clashing (setting_of other) (setting_of word)) before)
      parts.1 in
      let engine = kept choice.Engine in
      let show = kept choice.Show in
      let rule = kept choice.Rule in
      let file = kept choice.TableFile in
      let states = kept choice.States in
      elim (setting_of word) as (λ s. setting_of word ≡ s
      → all_made before + 1 ≤ all_made (before ++ word ∷ [])) [
        | None ↦ λ is. let no = rw is at parts.0 in cc (no)
        | Some (setting.Engine pick) ↦ λ is. omega (
          arith,
          grown (setting.Engine pick) is none,
          show,
          rule,
          file,
          states,
        )
        | Some (setting.Show what) ↦ λ is. omega (
          arith,
          grown (setting.Show what) is none,
          engine,
          rule,
          file,
          states,
        )
        | Some (setting.Rule what) ↦ λ is. omega (
          arith,
          grown (setting.Rule what) is none,
          engine,
          show,
          file,
          states,
        )
        | Some setting.TableFile ↦ λ is. omega (
          arith,
          grown setting.TableFile is none,
          engine,
          show,
          rule,
          states,
        )
        | Some (setting.States what) ↦ λ is. omega (
          arith,
          grown (setting.States what) is none,
          engine,
          show,
          rule,
          file,
        )
      ] refl
    where
      is_not : (b : Bool) → not b ≡ true → b ≡ false
      is_not true is = cc
      is_not false is = refl

pub few_settled : (allows : List Family) (before words : List (List ℕ)) (count : ℕ)
    → AreSettled allows before words count → all_made before + count ≤ 5
few_settled allows before words zero are = omega (arith, few_made before)
few_settled allows before [] (suc count) are = absurd (omega (arith, are.within))
few_settled allows before (word ∷ words) (suc count) are =
    let first : may_follow allows before word ≡ true = rw append-nil at (are.first 0 (omega arith)) in
    let rest = few_settled allows (before ++ word ∷ []) words count (later Plain allows are) in
    omega (arith, rest, one_more allows before word first)

-- what words choose, by one more of them
pub chosen_more : (engine : SessionEngine) (words : List (List ℕ)) (place : ℕ) (word : List ℕ)
    → place < length words → get_or words place word ≡ word
    → settings_of engine (take (place + 1) words)
    ≡ settings_with (settings_of engine (take place words)) (setting_of word)
chosen_more engine words place word inside at =
    ap (settings_of engine)
    (take_more words place word inside ∙ ap (λ (w : List ℕ). take place words ++ w ∷ []) at)
    ∙ fold-append (λ set word. settings_with set (setting_of word)) (silent_on engine) (take place words)
    (word ∷ [])

-- the table file that words tell, by what the next of them tells
pub tables_ahead : (words : List (List ℕ)) (place : ℕ) (word : List ℕ) (given : Option (List ℕ))
    → place < length words
    → get_or words place word ≡ word → given ≡ tables_in word
    → tables_of (drop place words) ≡ option_or given (tables_of (drop (place + 1) words))
tables_ahead words place word given inside at is = rw add-one (ahead words place inside at)
  where
    ahead : (words : List (List ℕ)) (place : ℕ) → place < length words → get_or words place word ≡ word
        → tables_of (drop place words) ≡ option_or given (tables_of (drop (suc place) words))
    ahead [] place inside at = absurd (omega arith)
    ahead (first ∷ words) zero inside at =
        ap (λ (t : Option (List ℕ)). option_or t (tables_of words)) (ap tables_in at ∙ sym is)
    ahead (first ∷ words) (suc place) inside at = ahead words place (omega arith) at
