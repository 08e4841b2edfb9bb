-- Files that are accepted and refused alike: the same ones, or such as differ in the kind of a small map.
use Rattle.std.proofs.Common.{◌≡◌, ◌≢◌, ◌∙◌, refl, ap, sym, subst, ℕ, Bool, true, false, List, [], ◌∷◌, ◌++◌}
use Rattle.std.specs.Prelude.{◌⊎◌, Option, Some, None, Ok, Err, if◌then◌else◌}
use Rattle.std.proofs.Common.{inl, inr}
use Rattle.std.specs.declared.result.Result.{Result}
use Rattle.grid_moves.specs.declared.Corner.{Corner}
use Rattle.io_edge.specs.Known.{Held, holding, absent, unknown}
use Rattle.io_edge.specs.Whole.{IsLonger, IsWhole}
use Rattle.map_text.specs.Map as maps
use Rattle.map_text.specs.Faults.{map_of}
use Rattle.map_text.specs.declared.fault.MapFault.{MapFault}
use Rattle.word_list.specs.Kinds.{word_at}
use Rattle.word_list.specs.Request.{Asked}
use Rattle.word_list.specs.Settings.{is_for_small_maps}
use Rattle.word_list.specs.declared.request.Settings.{Settings}
use Rattle.call_files.specs.FaultLines.{large_line, long_line, map_line}
use Rattle.call_files.specs.Files.{AreAccepted, File, HasRefused, IsAccepted, IsRefused, faulty, file_of}
use Rattle.call_files.specs.Files.{too_long}
use Rattle.call_files.specs.Kinds.{fault_in, kind_for, kind_word, limit_of, refusal_of, small_refusal, takes}
use Rattle.call_files.specs.MapFiles.{map_files, map_kind}
use Rattle.call_files.specs.declared.kind.Extent.TheVariants.{Any, Small}
use Rattle.call_files.specs.declared.kind.TextKind.{TextKind}
use Rattle.call_files.specs.declared.kind.TextKind.TheVariants as kind
use Rattle.outcome_laws.specs.Files.{AreKnown}
use Rattle.jps_run.specs.Calls.{call_with, files_of}
use Rattle.outcome_laws.specs.Outcomes.{HoldsSmallMap}
use Rattle.outcome_laws.proofs.Tasks.{TakesNone, TakesTables, tables_taken}

-- what is accepted or refused of the second files is so of the first
pub record AreAlike (holds : List ℕ → Held) (files others : List File) : Type 0 where
  pub accepted : (texts : List (List ℕ)) → AreAccepted holds [] others texts
      → AreAccepted holds [] files texts
  pub refused : (line : List ℕ) → HasRefused holds others line → HasRefused holds files line

pub same_alike : (holds : List ℕ → Held) (files others : List File) → files ≡ others
    → AreAlike holds files others
same_alike holds files others e = record {
  accepted = λ texts p. subst (λ (fs : List File). AreAccepted holds [] fs texts) (sym e) p;
  refused = λ line p. subst (λ (fs : List File). HasRefused holds fs line) (sym e) p;
}

-- texts of the kinds have the same limit, and what is held is refused by the same line, if it is
record AreKindsAlike (held : Held) (one other : TextKind) : Type 0 where
  limit : limit_of one ≡ limit_of other
  word : kind_word one ≡ kind_word other
  refusal : (text : List ℕ) → held ≡ holding text → refusal_of one [] text ≡ refusal_of other [] text

-- a whole text of a known file is what is held
whole_held : (held : Held) (limit : ℕ) (text : List ℕ) → held ≢ unknown → IsWhole held limit text
    → held ≡ holding text
whole_held unknown limit text known p = absurd (known refl)
whole_held absent limit text known p = absurd p
whole_held (holding bytes) limit text known p = ap holding (sym p.0)

-- the parts of a list of files
first_or : File → List File → File
first_or d [] = d
first_or d (file ∷ files) = file

behind_first : List File → List File
behind_first [] = []
behind_first (file ∷ files) = files

module _ (holds : List ℕ → Held) (name : List ℕ) (known : holds name ≢ unknown) (one other : TextKind)
    (alike : AreKindsAlike (holds name) one other) where
  one_accepted : (text : List ℕ) → IsAccepted [] one (holds name) text → IsAccepted [] other (holds name) text
  one_accepted text p = (
    subst (λ (n : ℕ). IsWhole (holds name) n text) alike.limit p.0,
    sym (alike.refusal text (whole_held (holds name) (limit_of one) text known p.0)) ∙ p.1,
  )

  one_refused : (line : List ℕ) → IsRefused [] one (holds name) line → IsRefused [] other (holds name) line
  one_refused line (too_long longer e) =
      too_long (subst (λ (n : ℕ). IsLonger (holds name) n) alike.limit longer) (e ∙ ap long_line alike.word)
  one_refused line (faulty text whole fault) =
      faulty text (subst (λ (n : ℕ). IsWhole (holds name) n text) alike.limit whole)
      (sym (alike.refusal text (whole_held (holds name) (limit_of one) text known whole)) ∙ fault)

  module _ (behind : List File) where
    all_accepted : (texts : List (List ℕ)) → AreAccepted holds [] (file_of one name ∷ behind) texts
        → AreAccepted holds [] (file_of other name ∷ behind) texts
    all_accepted [] p = absurd p
    all_accepted (text ∷ texts) p = (one_accepted text p.0, p.1)

    refused_in : (before : List File) (file : File) (rest : List File) (texts : List (List ℕ)) (line : List ℕ)
        → file_of one name ∷ behind ≡ before ++ file ∷ rest → AreAccepted holds [] before texts
        → IsRefused texts file.kind (holds file.name) line
        → HasRefused holds (file_of other name ∷ behind) line
    unfolding first_or behind_first
    refused_in [] file rest [] line all are is = record {
      file = file_of other name;
      comes = record { before = []; behind = behind; all = refl; texts = []; accepted = tt };
      refused = one_refused line (subst (λ (f : File). IsRefused [] f.kind (holds f.name) line)
          (sym (ap (first_or file) all)) is);
    }
    refused_in [] file rest (text ∷ texts) line all are is = absurd are
    refused_in (first ∷ before) file rest [] line all are is = absurd are
    refused_in (first ∷ before) file rest (text ∷ texts) line all are is = record {
      file = file;
      comes = record {
        before = file_of other name ∷ before;
        behind = rest;
        all = ap (λ (files : List File). file_of other name ∷ behind_first files) all;
        texts = text ∷ texts;
        accepted = (
          one_accepted text (subst (λ (f : File). IsAccepted [] f.kind (holds f.name) text)
              (sym (ap (first_or file) all)) are.0),
          are.1,
        );
      };
      refused = is;
    }

    all_refused : (line : List ℕ) → HasRefused holds (file_of one name ∷ behind) line
        → HasRefused holds (file_of other name ∷ behind) line
    all_refused line has = refused_in has.comes.before has.file has.comes.behind has.comes.texts line
        has.comes.all
        has.comes.accepted has.refused

-- a small map is refused by the line of any map
one_refusal : (read : Result maps.Map MapFault) → ((m : maps.Map) → read ≡ Ok m → takes Small m ≡ true)
    → small_refusal read ≡ fault_in map_line read
one_refusal (Ok m) small =
    ap (λ (b : Bool). let line : Option (List ℕ) = if b then None else Some large_line in line) (small m refl)
one_refusal (Err fault) small = refl

kinds_alike : (held : Held) → HoldsSmallMap held → (b c : Bool)
    → AreKindsAlike held (kind_for (if b then Small else Any)) (kind_for (if c then Small else Any))
kinds_alike held small true true = record { limit = refl; word = refl; refusal = λ text e. refl }
kinds_alike held small false false = record { limit = refl; word = refl; refusal = λ text e. refl }
kinds_alike held small true false = record {
  limit = refl;
  word = refl;
  refusal = λ text e. one_refusal (map_of text) (λ m is. small text m e is);
}
kinds_alike held small false true = record {
  limit = refl;
  word = refl;
  refusal = λ text e. sym (one_refusal (map_of text) (λ m is. small text m e is));
}

-- the engine is no matter for what is accepted or refused where the map is small
module _ (holds : List ℕ → Held) (set other : Settings) (rule : set.rule ≡ other.rule) where
  map_alike : (map : List ℕ) (tables : Option (List ℕ)) (rest : List File) → HoldsSmallMap (holds map)
      → AreKnown holds (map_files set map tables ++ rest)
      → AreAlike holds (map_files set map tables ++ rest) (map_files other map tables ++ rest)
  map_alike map None rest small known =
      let kinds = kinds_alike (holds map) small (is_for_small_maps other.pick) (is_for_small_maps set.pick) in
      record {
        accepted = all_accepted holds map known.0 (map_kind other) (map_kind set) kinds rest;
        refused = all_refused holds map known.0 (map_kind other) (map_kind set) kinds rest;
      }
  map_alike map (Some tables) rest small known =
      same_alike holds (map_files set map (Some tables) ++ rest) (map_files other map (Some tables) ++ rest)
      (ap (λ (corner : Corner). file_of kind.Map map ∷ file_of (kind.Tables corner) tables ∷ rest) rule)

  pub small_alike : (asked : Asked) → AreKnown holds (files_of (call_with asked set))
      → HoldsSmallMap (holds (word_at asked.words 0))
      → AreAlike holds (files_of (call_with asked set)) (files_of (call_with asked other))
  small_alike asked known small = by_tables (tables_taken asked.command asked.words)
    where
      by_tables : TakesTables asked.command asked.words ⊎ TakesNone asked.command asked.words
          → AreAlike holds (files_of (call_with asked set)) (files_of (call_with asked other))
      by_tables (inl t) =
          subst (λ (fs : List File). AreAlike holds fs (files_of (call_with asked other)))
          (sym (t.files set asked.tables))
          (subst (λ (fs : List File). AreAlike holds (map_files set (word_at asked.words 0) asked.tables
          ++ t.rest) fs)
          (sym (t.files other asked.tables))
          (map_alike (word_at asked.words 0) asked.tables t.rest small
          (subst (λ (fs : List File). AreKnown holds fs) (t.files set asked.tables) known)))
      by_tables (inr t) =
          same_alike holds (files_of (call_with asked set)) (files_of (call_with asked other))
          (t.files set other asked.tables asked.tables)
