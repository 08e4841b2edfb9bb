-- A table file that is accepted changes nothing of what a call comes to.
use Rattle.std.proofs.Common.{◌≡◌, ◌⊎◌, inl, inr, refl, ap, sym, ◌∙◌, subst, ℕ, suc, List, [], ◌∷◌, ◌++◌}
use Rattle.std.proofs.Common.{length}
use Rattle.std.specs.Prelude.{Option, Some, None, if◌then◌else◌}
use Rattle.std.specs.Option.{option_map}
use Rattle.io_edge.specs.Known.{Held}
use Rattle.grid_moves.specs.declared.Corner.{Corner}
use Rattle.word_list.specs.Kinds.{word_at}
use Rattle.word_list.specs.Request.{Call}
use Rattle.word_list.specs.declared.request.Pick.{Pick}
use Rattle.word_list.specs.declared.request.Pick.TheVariants.{Session}
use Rattle.word_list.specs.declared.request.SessionEngine.TheVariants.{Plus}
use Rattle.word_list.specs.declared.request.Settings.{Settings}
use Rattle.word_list.specs.declared.rows.Command.{Command}
use Rattle.call_files.specs.Files.{AreAccepted, File, HasRefused, file_of, faulty, too_long}
use Rattle.call_files.specs.Kinds.{extent_for, kind_for}
use Rattle.call_files.specs.declared.kind.TextKind.TheVariants as kind
use Rattle.jps_run.specs.Calls.{call_with, files_of, output_of, reads_input, task}
use Rattle.jps_run.specs.Parts.{Output, on_map}
use Rattle.jps_run.specs.Manner.{manner_of}
use Rattle.jps_run.specs.Who.{replies_by}
use Rattle.jps_run.specs.Outcome.{IsOutcome, Outcome, Spell, bad_text, done, outcome_of, outcome_on}
use Rattle.jps_run.specs.Outcome.{outcome_with}
use Rattle.outcome_laws.specs.Loaded.{AreTablesOf, DifferInTables}
use Rattle.outcome_laws.proofs.Files.{ComesToRefusal, accepted_not_refused, comes, refuses}
use Rattle.outcome_laws.proofs.Only.{CallComes, call_comes, finished, refused}
use Rattle.outcome_laws.proofs.Loading.{picked}
use Rattle.outcome_laws.proofs.Tasks.{StandAlone, TakesNone, TakesTables, tables_taken}

-- there are as many accepted texts as files
as_many : (holds : List ℕ → Held) (earlier : List (List ℕ)) (files : List File) (texts : List (List ℕ))
    → AreAccepted holds earlier files texts → length texts ≡ length files
as_many holds earlier [] [] p = refl
as_many holds earlier [] (text ∷ texts) p = absurd p
as_many holds earlier (file ∷ files) [] p = absurd p
as_many holds earlier (file ∷ files) (text ∷ texts) p =
    ap (λ n. suc n) (as_many holds (earlier ++ text ∷ []) files texts p.1)

module _ (holds : List ℕ → Held) where
  accepted_anew : (one other : List (List ℕ)) (files : List File) (texts : List (List ℕ)) → StandAlone files
      → AreAccepted holds one files texts → AreAccepted holds other files texts
  accepted_anew one other [] [] alone p = p
  accepted_anew one other [] (text ∷ texts) alone p = p
  accepted_anew one other (file ∷ files) [] alone p = p
  accepted_anew one other (file ∷ files) (text ∷ texts) alone p = (
    (p.0.0, sym (alone.0 one other text) ∙ p.0.1),
    accepted_anew (one ++ text ∷ []) (other ++ text ∷ []) files texts alone.1 p.1,
  )

  refused_anew : (one other : List (List ℕ)) (files : List File) (line : List ℕ) → StandAlone files
      → ComesToRefusal holds one files line → ComesToRefusal holds other files line
  refused_anew one other [] line alone p = p
  refused_anew one other (file ∷ files) line alone (inl (too_long longer e)) = inl (too_long longer e)
  refused_anew one other (file ∷ files) line alone (inl (faulty text whole fault)) =
      inl (faulty text whole (sym (alone.0 one other text) ∙ fault))
  refused_anew one other (file ∷ files) line alone (inr later) = inr (
    later.0,
    (later.1.0, sym (alone.0 one other later.0) ∙ later.1.1),
    refused_anew (one ++ later.0 ∷ []) (other ++ later.0 ∷ []) files line alone.1 later.2,
  )

  -- the files of a map with its table file, and those without it
  module _ (rule : Corner) (map tables : List ℕ) (right : AreTablesOf holds rule map tables)
      (rest : List File)
      (alone : StandAlone rest) where
    abbrev with_tables : List File
    with_tables = file_of kind.Map map ∷ file_of (kind.Tables rule) tables ∷ rest

    abbrev without : List File
    without = file_of kind.Map map ∷ rest

    -- texts of the one, and of the other
    pub record Loads (texts : List (List ℕ)) : Type 0 where
      pub text : List ℕ
      pub loaded : List ℕ
      pub more : List (List ℕ)
      pub is : texts ≡ text ∷ loaded ∷ more
      pub accepted : AreAccepted holds [] without (text ∷ more)

    pub accepted_off : (texts : List (List ℕ)) → AreAccepted holds [] with_tables texts → Loads texts
    accepted_off [] p = absurd p
    accepted_off (text ∷ []) p = absurd (p.1)
    accepted_off (text ∷ loaded ∷ more) p = record {
      text = text;
      loaded = loaded;
      more = more;
      is = refl;
      accepted = (p.0, accepted_anew (text ∷ loaded ∷ []) (text ∷ []) rest more alone p.1.1);
    }

    pub accepted_on : (text : List ℕ) (more : List (List ℕ)) → AreAccepted holds [] without (text ∷ more)
        → AreAccepted holds [] with_tables (text ∷ right.loaded ∷ more)
    accepted_on text more p = (
      p.0,
      (
        right.accepted text p.0,
        accepted_anew (text ∷ []) (text ∷ right.loaded ∷ []) rest more alone p.1,
      ),
    )

    pub refused_off : (line : List ℕ) → HasRefused holds with_tables line → HasRefused holds without line
    refused_off line p = refuses holds without line (off (comes holds with_tables line p))
      where
        off : ComesToRefusal holds [] with_tables line → ComesToRefusal holds [] without line
        off (inl is) = inl is
        off (inr (text, acc, inl is)) = absurd (accepted_not_refused (text ∷ []) (kind.Tables rule)
            (holds tables) right.known right.loaded line (right.accepted text acc) is)
        off (inr (text, acc, inr (loaded, too, later))) =
            inr (text, acc, refused_anew (text ∷ loaded ∷ []) (text ∷ []) rest line alone later)

    pub refused_on : (line : List ℕ) → HasRefused holds without line → HasRefused holds with_tables line
    refused_on line p = refuses holds with_tables line (on (comes holds without line p))
      where
        on : ComesToRefusal holds [] without line → ComesToRefusal holds [] with_tables line
        on (inl is) = inl is
        on (inr (text, acc, later)) = inr (
          text,
          acc,
          inr (
            right.loaded,
            right.accepted text acc,
            refused_anew (text ∷ []) (text ∷ right.loaded ∷ []) rest line alone later,
          ),
        )

-- what the first call comes to the second comes to
record Leads (holds : List ℕ → Held) (call like : Call) : Type 0 where
  refusal : (line : List ℕ) → HasRefused holds (files_of call) line → HasRefused holds (files_of like) line
  comes : (texts : List (List ℕ)) → AreAccepted holds [] (files_of call) texts
      → (others : List (List ℕ)) × AreAccepted holds [] (files_of like) others
      × ((script : List ℕ) → outcome_of replies_by like others script
      ≡ outcome_of replies_by call texts script)

-- both ways
record LeadBoth (holds : List ℕ → Held) (call like : Call) : Type 0 where
  off : Leads holds call like
  on : Leads holds like call

leads : (holds : List ℕ → Held) (input : Option (List ℕ)) (call like : Call) (others : List (List ℕ))
    (outcome : Outcome) → Leads holds call like → Spell others like → CallComes call holds input outcome
    → IsOutcome replies_by others holds input outcome
leads holds input call like others _ all spelled (refused line p) =
    bad_text like line spelled (all.refusal line p)
leads holds input call like others _ all spelled (finished texts script outcome p comes e) =
    let to = all.comes texts p in
    done like to.0 script outcome spelled to.1 comes (to.2 script ∙ e)

-- one after the other
leads_then : (holds : List ℕ → Held) (call like last : Call) → Leads holds call like → Leads holds like last
    → Leads holds call last
leads_then holds call like last one other = record {
  refusal = λ line p. other.refusal line (one.refusal line p);
  comes = λ texts p.
      let a = one.comes texts p in
      let b = other.comes a.0 a.1 in (b.0, b.1, λ script. b.2 script ∙ a.2 script);
}

-- the call of a command with its words, with a table file or without, by these settings
abbrev call_for : Command → List (List ℕ) → Option (List ℕ) → Settings → Call
call_for command words tables set =
    call_with (record { command = command; words = words; tables = tables }) set

-- where the same files are read, and the same is printed, the first call leads to the second
leads_so : (holds : List ℕ → Held) (command same : Command) (words others : List (List ℕ))
    (one other : Option (List ℕ)) (set : Settings) → command ≡ same
    → (task command words).files set one ≡ (task same others).files set other
    → ((texts : List (List ℕ)) → (task command words).output (manner_of replies_by set) texts
    ≡ (task same others).output (manner_of replies_by set) texts)
    → Leads holds (call_for command words one set) (call_for same others other set)
unfolding outcome_of output_of
leads_so holds command same words others one other set e files output = record {
  refusal = λ line p. subst (λ (fs : List File). HasRefused holds fs line) files p;
  comes = λ texts p. (
    texts,
    subst (λ (fs : List File). AreAccepted holds [] fs texts) files p,
    λ script.
        let manner = manner_of replies_by set in
        let given : Command → Option Output → Option Outcome = λ c o. if reads_input c
        then on_map texts (λ m behind. outcome_on c manner m script) else option_map outcome_with o in
        ap (λ (o : Option Output). given same o) (sym (output texts))
        ∙ ap (λ (c : Command). given c ((task command words).output manner texts)) (sym e),
  );
}

-- a command with its words and a table file, and without
module _ (holds : List ℕ → Held) (command : Command) (words : List (List ℕ)) (tables : List ℕ)
    (set : Settings) (plus : set.pick ≡ Session Plus)
    (right : AreTablesOf holds set.rule (word_at words 0) tables) where
  abbrev asks : Option (List ℕ) → Call
  asks named = call_for command words named set

  -- the command takes table files, and its files stand alone behind that one
  module _ (t : TakesTables command words) where
    abbrev map : List ℕ
    map = word_at words 0

    named : files_of (asks (Some tables)) ≡ with_tables holds set.rule map tables right t.rest t.alone
    named = t.files set (Some tables)

    unnamed : files_of (asks None) ≡ without holds set.rule map tables right t.rest t.alone
    unnamed = t.files set None
        ∙ ap (λ (pick : Pick). file_of (kind_for (extent_for pick)) map ∷ t.rest) plus

    without_them : (texts : List (List ℕ)) → AreAccepted holds [] (files_of (asks (Some tables))) texts
        → Loads holds set.rule map tables right t.rest t.alone texts
    without_them texts p = accepted_off holds set.rule map tables right t.rest t.alone texts
        (subst (λ (fs : List File). AreAccepted holds [] fs texts) named p)

    with_them : (text : List ℕ) (more : List (List ℕ))
        → AreAccepted holds [] (files_of (asks None)) (text ∷ more)
        → AreAccepted holds [] (files_of (asks (Some tables))) (text ∷ right.loaded ∷ more)
    with_them text more p =
        subst (λ (fs : List File). AreAccepted holds [] fs (text ∷ right.loaded ∷ more)) (sym named)
        (accepted_on holds set.rule map tables right t.rest t.alone text more
        (subst (λ (fs : List File). AreAccepted holds [] fs (text ∷ more)) unnamed p))

    -- with the text of the table file or without it, the call comes to the same
    loaded_same : (text loaded : List ℕ) (more : List (List ℕ)) → length more ≡ length t.rest
        → (script : List ℕ)
        → outcome_of replies_by (asks (Some tables)) (text ∷ loaded ∷ more) script
        ≡ outcome_of replies_by (asks None) (text ∷ more) script
    unfolding outcome_of output_of
    loaded_same text loaded more many script =
        ap (λ (o : Option Output). if reads_input command
        then on_map (text ∷ more) (λ m behind. outcome_on command (manner_of replies_by set) m script)
        else option_map outcome_with o) (t.output (manner_of replies_by set) text loaded more many)

    tables_off : Leads holds (asks (Some tables)) (asks None)
    tables_off = record {
      refusal = λ line p. subst (λ (fs : List File). HasRefused holds fs line) (sym unnamed)
          (refused_off holds set.rule map tables right t.rest t.alone line
          (subst (λ (fs : List File). HasRefused holds fs line) named p));
      comes = λ texts p. let off = without_them texts p in (
        off.text ∷ off.more,
        subst (λ (fs : List File). AreAccepted holds [] fs (off.text ∷ off.more)) (sym unnamed) off.accepted,
        λ script. sym (ap (λ (ts : List (List ℕ)). outcome_of replies_by
            (asks (Some tables)) ts script) off.is
            ∙ loaded_same off.text off.loaded off.more
            (as_many holds (off.text ∷ []) t.rest off.more off.accepted.1) script),
      );
    }

    tables_on : Leads holds (asks None) (asks (Some tables))
    tables_on = record {
      refusal = λ line p. subst (λ (fs : List File). HasRefused holds fs line) (sym named)
          (refused_on holds set.rule map tables right t.rest t.alone line
          (subst (λ (fs : List File). HasRefused holds fs line) unnamed p));
      comes = on;
    }
      where
        on : (texts : List (List ℕ)) → AreAccepted holds [] (files_of (asks None)) texts
            → (others : List (List ℕ)) × AreAccepted holds [] (files_of (asks (Some tables))) others
            × ((script : List ℕ) → outcome_of replies_by (asks (Some tables)) others script
            ≡ outcome_of replies_by (asks None) texts script)
        on [] p = absurd (subst (λ (fs : List File). AreAccepted holds [] fs []) unnamed p)
        on (text ∷ more) p = (
          text ∷ right.loaded ∷ more,
          with_them text more p,
          loaded_same text right.loaded more (as_many holds (text ∷ []) t.rest more
              (subst (λ (fs : List File). AreAccepted holds [] fs (text ∷ more)) unnamed p).1),
        )

  apart : TakesNone command words → (one other : Option (List ℕ)) → Leads holds (asks one) (asks other)
  apart t one other = leads_so holds command command words words one other set refl
      (t.files set set one other) (λ texts. refl)

  both_lead : LeadBoth holds (asks (Some tables)) (asks None)
  both_lead = by_tables (tables_taken command words)
    where
      by_tables : TakesTables command words ⊎ TakesNone command words
          → LeadBoth holds (asks (Some tables)) (asks None)
      by_tables (inl t) = record { off = tables_off t; on = tables_on t }
      by_tables (inr t) = record { off = apart t (Some tables) None; on = apart t None (Some tables) }

-- so it is with calls that differ in a table file, however their words are spelled
module _ (holds : List ℕ → Held) (call like : Call) (tables : List ℕ)
    (differ : DifferInTables tables call like) (plus : call.settings.pick ≡ Session Plus)
    (right : AreTablesOf holds call.settings.rule (word_at call.request.words 0) tables) where
  abbrev first : Option (List ℕ) → Call
  first t = call_for call.request.command call.request.words t call.settings

  abbrev second : Option (List ℕ) → Settings → Call
  second t set = call_for like.request.command like.request.words t set

  first_is : first (Some tables) ≡ call
  first_is = ap (λ (t : Option (List ℕ)). first t) (sym differ.named)

  second_is : second None call.settings ≡ like
  second_is = ap (λ (t : Option (List ℕ)). second t call.settings) (sym differ.unnamed)
      ∙ ap (λ (set : Settings). call_with like.request set) differ.settings

  between : LeadBoth holds (first None) (second None call.settings)
  between = record {
    off = leads_so holds call.request.command like.request.command call.request.words like.request.words
        None None call.settings differ.same.command (differ.same.files call.settings None)
        (differ.same.output call.settings);
    on = leads_so holds like.request.command call.request.command like.request.words call.request.words
        None None call.settings (sym differ.same.command) (sym (differ.same.files call.settings None))
        (λ texts. sym (differ.same.output call.settings texts));
  }

  differ_lead : LeadBoth holds call like
  differ_lead =
      let loaded = both_lead holds call.request.command call.request.words tables call.settings plus right in
      subst (λ (c : Call). LeadBoth holds c like) first_is
      (subst (λ (c : Call). LeadBoth holds (first (Some tables)) c) second_is (record {
        off = leads_then holds (first (Some tables)) (first None) (second None call.settings) loaded.off
            between.off;
        on = leads_then holds (second None call.settings) (first None) (first (Some tables)) between.on
            loaded.on;
      }))

pub tables_same : (words others : List (List ℕ)) (call like : Call) (tables : List ℕ) (holds : List ℕ → Held)
    (input : Option (List ℕ)) (outcome : Outcome) → Spell words call → Spell others like
    → DifferInTables tables call like
    → AreTablesOf holds call.settings.rule (word_at call.request.words 0) tables
    → (IsOutcome replies_by words holds input outcome → IsOutcome replies_by others holds input outcome)
    × (IsOutcome replies_by others holds input outcome → IsOutcome replies_by words holds input outcome)
tables_same words others call like tables holds input outcome spelled also differ right =
    let plus = picked words call tables spelled differ.named in
    let both = differ_lead holds call like tables differ plus right in (
      λ is. leads holds input call like others outcome both.off also
          (call_comes words holds input call outcome spelled is),
      λ is. leads holds input like call words outcome both.on spelled
          (call_comes others holds input like outcome also is),
    )
