-- A call and a bad word, from what the steps of the reading say.
use Rattle.std.proofs.lemmas.Bool.Decides.{nat_tests}
use Rattle.std.proofs.Common.{◌≡◌, ℕ, suc, ◌+◌, ◌<◌, ◌≤◌, Bool, true, false, List, [], ◌∷◌, length, take}
use Rattle.std.proofs.Common.{drop, refl, sym, ap, ◌∙◌, subst, add-one, ◌⊎◌, inl, inr, arith}
use Rattle.std.specs.Prelude.{codes, Option, Some, None, Result, Ok, Err, MatchResult, IsOkAnd, IsErrAnd}
use Rattle.std.specs.Prelude.{if◌then◌else◌, option_and_then}
use Rattle.std.proofs.Math.Seq.{take-length}
use Rattle.std.proofs.lemmas.Bool.{and_right}
use Rattle.std.proofs.lemmas.List.{append-nil}
use Rattle.word_list.specs.declared.request.Settings.{Settings}
use Rattle.word_list.specs.declared.request.BadWord.{BadWord}
use Rattle.word_list.specs.declared.rows.Command.{Command}
use Rattle.word_list.specs.declared.request.SessionEngine.{SessionEngine}
use Rattle.word_list.specs.Request.{Asked, Call, Row, asked_by, engine_of, row_of}
use Rattle.word_list.specs.Settings.{are_served, are_settings, can_load, is_complete, settings_of, tables_of}
use Rattle.word_list.specs.Calls.{fits, call_of, is_call}
use Rattle.word_list.specs.Rule.{Begins, EndsAfter, StopsAt, IsBadWord}
use Rattle.word_list.specs.Steps.{AreOf, AreSettled}
use Rattle.word_list.proofs.Rules.{one_stop, stops_behind, ends_at_once, ends_later}
use Rattle.word_list.proofs.Completed.{loads, nothing_stands}
use Rattle.word_list.proofs.Settled.{Settles, settles}
use Rattle.word_list.proofs.Fitted.{taken_part, taken_whole}

some_call : Begins is_call []
unfolding is_call
some_call = (codes "--help" ∷ [], refl)

pub names_none : (words : List (List ℕ)) → length words < 1 → IsBadWord is_call words 1
unfolding is_call
names_none words h = grind (arith, nat_tests, stops_behind, ends_at_once, some_call)

pub names_first : (name : List ℕ) (words : List (List ℕ)) → row_of name ≡ None
    → IsBadWord is_call (name ∷ words) 1
unfolding is_call
names_first name words h = grind (arith, nat_tests, stops_behind, ends_at_once, some_call)

abbrev call_with : Asked → Settings → Call
call_with request settings = record { request = request; settings = settings }

-- what is true of the settings of some words is true of these words
pub served_as : (engine : SessionEngine) (words : List (List ℕ)) {set : Settings} {b : Bool}
    → set ≡ settings_of engine words → b ≡ are_served set.pick words → is_complete engine words ≡ b
served_as engine words same is = ap (λ (set : Settings). are_served set.pick words) (sym same) ∙ sym is

-- where none is missing, the engine for their table file is picked
pub sound_by : (engine : SessionEngine) (words : List (List ℕ)) {tables : Option (List ℕ)} {set : Settings}
    → tables ≡ tables_of words → set ≡ settings_of engine words → is_complete engine words ≡ true
    → can_load tables set ≡ true
sound_by engine words {tables} {set} named same complete =
    ap (λ (t : Option (List ℕ)). can_load t set) named
    ∙ ap (λ (s : Settings). can_load (tables_of words) s) same ∙ loads engine words complete

-- the same words and the same table file ask for the same
pub asks_same : {command : Command} {words same : List (List ℕ)}
    {tables named : Option (List ℕ)} → words ≡ same
    → tables ≡ named → ◌≡◌ {A = Asked} (record { command = command; words = words; tables = tables })
    (record { command = command; words = same; tables = named })
asks_same is also = rw (is, also) refl

-- the name of a command, and words of which so many are of its kinds
module _ (name : List ℕ) (words : List (List ℕ)) (row : Row) (is_row : row_of name ≡ Some row) (taken : ℕ)
    (are : AreOf row.takes words taken) where
  abbrev engine : SessionEngine
  engine = engine_of row.command

  goes_on : (more : List (List ℕ)) → is_call (name ∷ more) ≡ fits engine row.takes row.allows more
  unfolding is_call
  goes_on more = grind arith

  names : (count : ℕ) → fits engine row.takes row.allows words ≡ false
      → EndsAfter (fits engine row.takes row.allows) words count
      → IsBadWord is_call (name ∷ words) (count + 2)
  names count refused ends = subst (IsBadWord is_call (name ∷ words)) {x = suc (suc count)} (omega arith)
      (record {
        refused = goes_on words ∙ refused;
        stops = stops_behind is_call (name ∷ words) (suc count)
            (ends_later is_call (fits engine row.takes row.allows) name words count goes_on ends);
      })

  pub names_taken : taken < length row.takes → IsBadWord is_call (name ∷ words) (taken + 2)
  names_taken below =
      let part = taken_part engine row.allows row.takes words taken are below in names taken part.0 part.1

  -- where those are all, and the rest begins with so many settings
  module _ (above : length row.takes ≤ taken) (rest : List (List ℕ)) (is_rest : rest ≡ drop taken words)
      (more : ℕ) (settled : AreSettled row.allows [] rest more) where
    exact : taken ≡ length row.takes
    exact = omega (arith, are.within, above)

    apart : rest ≡ drop (length row.takes) words
    apart = is_rest ∙ ap (λ (n : ℕ). drop n words) exact

    rest_settles : Settles engine row.allows [] rest more
    rest_settles = settles engine row.allows [] rest more (nothing_stands engine row.allows) settled

    refuses : fits engine row.takes row.allows words ≡ are_settings engine row.allows rest
    refuses = grind (arith, nat_tests, taken_whole, exact, apart)

    -- one is wrong, or one is missing behind them
    pub names_setting : (more < length rest) ⊎ (is_complete engine rest ≡ false)
        → IsBadWord is_call (name ∷ words) (taken + more + 2)
    names_setting why =
        let whole = taken_whole engine row.allows row.takes words (subst (AreOf row.takes words) exact are) in
        names (taken + more) (refuses ∙ wrong why)
        (whole.1 more (taken + more) (omega (arith, exact))
        (subst (λ (rest : List (List ℕ)). EndsAfter (are_settings engine row.allows) rest more) apart
        rest_settles.ends))
      where
        wrong : (more < length rest) ⊎ (is_complete engine rest ≡ false)
            → are_settings engine row.allows rest ≡ false
        wrong (inl below) = rest_settles.wrong below
        wrong (inr missing) = and_right _ (is_complete engine rest) missing

    pub calls : length rest ≤ more → is_complete engine rest ≡ true → (request : Asked) (settings : Settings)
        → request ≡ record { command = row.command; words = take taken words; tables = tables_of rest }
        → settings ≡ settings_of engine rest → call_of (name ∷ words) ≡ Some (call_with request settings)
    calls all complete request settings is chosen =
        ap (λ (o : Option Row). option_and_then (λ r. if fits (engine_of r.command) r.takes r.allows words
        then Some (call_with (asked_by r words)
        (settings_of (engine_of r.command) (drop (length r.takes) words))) else None) o) is_row
        ∙ ap (λ (b : Bool). if b
        then Some (call_with (asked_by row words)
        (settings_of engine (drop (length row.takes) words))) else None)
        (refuses ∙ rest_settles.right all ∙ complete)
        ∙ ap (λ (r : Asked). Some (call_with r (settings_of engine (drop (length row.takes) words))))
        (sym (is ∙ asks_same (ap (λ (n : ℕ). take n words) exact) (ap tables_of apart)))
        ∙ ap (λ (s : Settings). Some (call_with request s)) (sym (chosen ∙ ap (settings_of engine) apart))

-- all words of a call begin one
pub stops_at_end : (words : List (List ℕ)) (call : Call) → call_of words ≡ Some call
    → StopsAt is_call words (length words + 1)
unfolding is_call
stops_at_end words call is = rw add-one (stops_behind is_call words (length words) (record {
  begins = ([], rw (take-length, append-nil, is) refl);
  within = omega arith;
  ends = λ inside. absurd (omega arith);
}))

-- what words spell is read, and a bad word is named, by an answer that tells the call or the bad word
module _ (words : List (List ℕ)) {A : Type 0} (view : A → Call) where
  abbrev Tells : Result A BadWord → Type 0
  Tells answer = MatchResult answer (λ read. call_of words ≡ Some (view read))
      (λ bad. IsBadWord is_call words bad.0)

  pub only_so : (answer : Result A BadWord) → Tells answer → (call : Call) → call_of words ≡ Some call
      → IsOkAnd answer (λ read. view read ≡ call)
  unfolding is_call
  only_so answer h call i = grind (arith, nat_tests)

  pub named_so : (answer : Result A BadWord) → Tells answer → (number : ℕ) → IsBadWord is_call words number
      → IsErrAnd answer (λ bad. bad.0 ≡ number)
  unfolding is_call
  named_so (Ok read) tells number bad = let no = rw tells at bad.refused in cc (no)
  named_so (Err named) tells number bad = one_stop is_call words named.0 number tells.stops bad.stops
