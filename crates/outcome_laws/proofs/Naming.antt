-- A call's first word is the name of what it does.
use Rattle.std.proofs.Common.{◌≡◌, ◌∙◌, ℕ, Bool, List, [], ◌∷◌, refl, ap, subst}
use Rattle.std.specs.Prelude.{Some, bytes_eq}
use Rattle.std.proofs.lemmas.Slice.Eq.{bytes_eq-Decides}
use Rattle.word_list.specs.Request.{Call, Named, Row, row_of, rows}
use Rattle.jps_run.specs.Calls.{task, task_of}
use Rattle.outcome_laws.specs.Words.{CallsGoByName}
use Rattle.outcome_laws.proofs.Spelled.{call_by, row_called, spelled}

module _ (words : List (List ℕ)) where
  -- the name that the task of a row's command has
  abbrev name_by : Row → List ℕ
  name_by row = (task row.command words).name

  -- whether a row has the name of its command's task: each of the table has, by computing
  abbrev is_named : Named → Bool
  is_named one = bytes_eq one.name (name_by one.row)

  named : (name : List ℕ) (row : Row) → row_of name ≡ Some row → name ≡ name_by row
  named name row e = let is = row_called is_named rows name row refl e in
      is.name_is ∙ (bytes_eq-Decides is.one.name (name_by is.one.row)).0 is.passes ∙ ap name_by is.row_is

pub by_name : CallsGoByName
by_name [] call e = absurd (cc)
by_name (name ∷ words) call e = let is = spelled name words call e in
    let made = call_by is.row words in
    subst (λ (k : Call). Some name ≡ Some (task_of k).name) is.spells
    (ap Some (named made.request.words name is.row is.known))
