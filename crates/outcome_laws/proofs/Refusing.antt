-- Words that spell no call have a bad word, and files that are present are accepted, or one is refused.
use Rattle.std.proofs.Common.{◌≡◌, ◌⊎◌, inl, inr, refl, sym, ap, subst, ℕ, zero, suc, ◌+◌, ◌<◌, ◌≤◌, arith}
use Rattle.std.proofs.Common.{Bool, true, false, List, [], ◌∷◌, ◌++◌, length, drop, take, append-nil}
use Rattle.std.proofs.Common.{append_assoc}
use Rattle.std.specs.Prelude.{Option, Some, None, is_some, slice_get}
use Rattle.io_edge.specs.Known.{Held, holding}
use Rattle.io_edge.specs.Whole.{IsLonger, IsWhole}
use Rattle.word_list.specs.Calls.{call_of, is_call}
use Rattle.word_list.specs.Kinds.{is_of}
use Rattle.word_list.specs.Request.{Asked, Call, Row, engine_of, row_of}
use Rattle.word_list.specs.Rule.{IsBadWord}
use Rattle.word_list.specs.Settings.{is_complete, may_follow, settings_of, tables_of}
use Rattle.word_list.specs.Steps.{AreOf, AreSettled, is_one_of, one_follows}
use Rattle.word_list.specs.declared.request.Settings.{Settings}
use Rattle.word_list.specs.declared.rows.WordKind.{WordKind}
use Rattle.word_list.specs.declared.settings.Family.{Family}
use Rattle.word_list.proofs.Calls.{calls, names_first, names_none, names_setting, names_taken}
use Rattle.call_files.specs.FaultLines.{long_line}
use Rattle.call_files.specs.Files.{AreAccepted, File, HasRefused, faulty, too_long}
use Rattle.call_files.specs.Kinds.{kind_word, limit_of, refusal_of}
use Rattle.jps_run.specs.Calls.{call_with}
use Rattle.outcome_laws.specs.Existing.{ArePresent}
use Rattle.outcome_laws.proofs.Files.{ComesToRefusal, refuses}

-- one number is less than the other, or it is not
pub less_or_not : (a b : ℕ) → (a < b) ⊎ (b ≤ a)
less_or_not zero zero = inr (omega arith)
less_or_not zero (suc b) = inl (omega arith)
less_or_not (suc a) zero = inr (omega arith)
less_or_not (suc a) (suc b) = elim (less_or_not a b) [
  | inl below ↦ inl (omega (arith, below))
  | inr above ↦ inr (omega (arith, above))
]

-- words are of their kinds up to some place
module _ (kind : WordKind) (takes : List WordKind) (word : List ℕ) (words : List (List ℕ)) (count : ℕ)
    (behind : AreOf takes words count) where
  kinds_first : is_of kind word ≡ true → (k : ℕ) → k < suc count
      → is_one_of (slice_get (kind ∷ takes) k) (slice_get (word ∷ words) k) ≡ true
  kinds_first is zero below = is
  kinds_first is (suc k) below = behind.first k (omega arith)

  kinds_by : (b : Bool) → is_of kind word ≡ b → (many : ℕ) × AreOf (kind ∷ takes) (word ∷ words) many
  kinds_by false is =
      (0, record { within = omega arith; first = λ k below. absurd (omega arith); next = λ below. is })
  kinds_by true is = (
    suc count,
    record {
      within = omega (arith, behind.within);
      first = kinds_first is;
      next = λ below. behind.next (omega arith);
    },
  )

kinds_end : (takes : List WordKind) (words : List (List ℕ)) → (count : ℕ) × AreOf takes words count
kinds_end [] words = (
  0,
  record {
    within = omega arith;
    first = λ k below. absurd (omega arith);
    next = λ below. absurd (omega arith);
  },
)
kinds_end (kind ∷ takes) [] =
    (0, record { within = omega arith; first = λ k below. absurd (omega arith); next = λ below. refl })
kinds_end (kind ∷ takes) (word ∷ words) =
    let behind = kinds_end takes words in
    kinds_by kind takes word words behind.0 behind.1 (is_of kind word) refl

-- and settings follow each other up to some place
module _ (allows : List Family) (before : List (List ℕ)) (word : List ℕ) (words : List (List ℕ)) (count : ℕ)
    (behind : AreSettled allows (before ++ word ∷ []) words count) where
  settings_first : may_follow allows before word ≡ true → (k : ℕ) → k < suc count
      → one_follows allows (before ++ take k (word ∷ words)) (slice_get (word ∷ words) k) ≡ true
  settings_first is zero below = rw append-nil is
  settings_first is (suc k) below =
      subst (λ (front : List (List ℕ)). one_follows allows front (slice_get words k) ≡ true)
      (append_assoc before (word ∷ []) (take k words)) (behind.first k (omega arith))

  settings_by : (b : Bool) → may_follow allows before word ≡ b
      → (many : ℕ) × AreSettled allows before (word ∷ words) many
  settings_by false is = (
    0,
    record {
      within = omega arith;
      first = λ k below. absurd (omega arith);
      next = rw append-nil is;
    },
  )
  settings_by true is = (
    suc count,
    record {
      within = omega (arith, behind.within);
      first = settings_first is;
      next = subst (λ (front : List (List ℕ)). one_follows allows front (slice_get words count) ≡ false)
          (append_assoc before (word ∷ []) (take count words)) behind.next;
    },
  )

settings_end : (allows : List Family) (before words : List (List ℕ))
    → (count : ℕ) × AreSettled allows before words count
settings_end allows before [] =
    (0, record { within = omega arith; first = λ k below. absurd (omega arith); next = refl })
settings_end allows before (word ∷ words) =
    let behind = settings_end allows (before ++ word ∷ []) words in
    settings_by allows before word words behind.0 behind.1 (may_follow allows before word) refl

-- refused words spell no call
never_spells : (words : List (List ℕ)) (call : Call) → is_call words ≡ false → call_of words ≡ Some call → ⊥
unfolding is_call
never_spells words call refused spelled =
    let yes : is_some (call_of words) ≡ true = ap (λ (o : Option Call). is_some o) spelled in cc

-- the name of a command, and words of which so many are of its kinds
module _ (name : List ℕ) (words : List (List ℕ)) (refused : is_call (name ∷ words) ≡ false) (row : Row)
    (is_row : row_of name ≡ Some row) where
  abbrev BadWord : Type 0
  BadWord = (number : ℕ) × IsBadWord is_call (name ∷ words) number

  -- words that are all of their kinds, and settings behind them
  module _ (taken : ℕ) (are : AreOf row.takes words taken) (above : length row.takes ≤ taken) (more : ℕ)
      (settled : AreSettled row.allows [] (drop taken words) more) where
    settings_bad : (more < length (drop taken words))
        ⊎ (is_complete (engine_of row.command) (drop taken words) ≡ false)
        → BadWord
    settings_bad why = (
      taken + more + 2,
      names_setting name words row is_row taken are above (drop taken words) refl more settled why,
    )

    all_bad : length (drop taken words) ≤ more → (b : Bool)
        → is_complete (engine_of row.command) (drop taken words) ≡ b → BadWord
    all_bad all false missing = settings_bad (inr missing)
    all_bad all true complete =
        let request : Asked =
        record { command = row.command; words = take taken words; tables = tables_of (drop taken words) } in
        let settings : Settings = settings_of (engine_of row.command) (drop taken words) in
        absurd (never_spells (name ∷ words) (call_with request settings) refused (calls name words row is_row
        taken are above (drop taken words) refl more settled all complete request settings refl refl))

    settled_bad : (more < length (drop taken words)) ⊎ (length (drop taken words) ≤ more) → BadWord
    settled_bad (inl below) = settings_bad (inl below)
    settled_bad (inr all) = all_bad all (is_complete (engine_of row.command) (drop taken words)) refl

  kinds_bad : (taken : ℕ) → AreOf row.takes words taken
      → (taken < length row.takes) ⊎ (length row.takes ≤ taken) → BadWord
  kinds_bad taken are (inl below) = (taken + 2, names_taken name words row is_row taken are below)
  kinds_bad taken are (inr above) =
      let settled = settings_end row.allows [] (drop taken words) in
      settled_bad taken are above settled.0 settled.1 (less_or_not settled.0 (length (drop taken words)))

  row_bad : BadWord
  row_bad = let are = kinds_end row.takes words in
      kinds_bad are.0 are.1 (less_or_not are.0 (length row.takes))

pub bad_word_exists : (words : List (List ℕ)) → is_call words ≡ false
    → (number : ℕ) × IsBadWord is_call words number
bad_word_exists [] refused = (1, names_none [] (omega arith))
bad_word_exists (name ∷ words) refused = by_row (row_of name) refl
  where
    by_row : (o : Option Row) → row_of name ≡ o → (number : ℕ) × IsBadWord is_call (name ∷ words) number
    by_row None e = (1, names_first name words e)
    by_row (Some row) e = row_bad name words refused row e

-- files that are present are accepted, or come to a refusal
module _ (holds : List ℕ → Held) where
  abbrev Decided : List (List ℕ) → List File → Type 0
  Decided earlier files = ((texts : List (List ℕ)) × AreAccepted holds earlier files texts)
      ⊎ ((line : List ℕ) × ComesToRefusal holds earlier files line)

  -- a file that is present, and those behind it
  module _ (earlier : List (List ℕ)) (file : File) (files : List File) (bytes : List ℕ)
      (held : holds file.name ≡ holding bytes) (later : Decided (earlier ++ bytes ∷ []) files) where
    by_later : IsWhole (holds file.name) (limit_of file.kind) bytes
        → refusal_of file.kind earlier bytes ≡ None
        → Decided (earlier ++ bytes ∷ []) files → Decided earlier (file ∷ files)
    by_later whole none (inl (texts, are)) = inl (bytes ∷ texts, ((whole, none), are))
    by_later whole none (inr (line, comes)) = inr (line, inr (bytes, (whole, none), comes))

    by_refusal : IsWhole (holds file.name) (limit_of file.kind) bytes → (o : Option (List ℕ))
        → refusal_of file.kind earlier bytes ≡ o → Decided earlier (file ∷ files)
    by_refusal whole None none = by_later whole none later
    by_refusal whole (Some line) fault = inr (line, inl (faulty bytes whole fault))

    by_length : (limit_of file.kind < length bytes) ⊎ (length bytes ≤ limit_of file.kind)
        → Decided earlier (file ∷ files)
    by_length (inl longer) = inr (
      long_line (kind_word file.kind),
      inl (too_long (subst (λ (h : Held). IsLonger h (limit_of file.kind)) (sym held) longer) refl),
    )
    by_length (inr few) =
        by_refusal (subst (λ (h : Held). IsWhole h (limit_of file.kind) bytes) (sym held) (refl, few))
        (refusal_of file.kind earlier bytes) refl

  decided : (earlier : List (List ℕ)) (files : List File) → ArePresent holds files → Decided earlier files
  decided earlier [] present = inl ([], tt)
  decided earlier (file ∷ files) present =
      by_length earlier file files present.0.0 present.0.1
      (decided (earlier ++ present.0.0 ∷ []) files present.1)
      (less_or_not (limit_of file.kind) (length present.0.0))

pub accepted_or_refused : (holds : List ℕ → Held) (files : List File) → ArePresent holds files
    → ((texts : List (List ℕ)) × AreAccepted holds [] files texts)
    ⊎ ((line : List ℕ) × HasRefused holds files line)
accepted_or_refused holds files present = elim (decided holds [] files present) [
  | inl are ↦ inl are
  | inr found ↦ inr (found.0, refuses holds files found.0 found.1)
]
