use Rattle.std.proofs.Common.{refl, sym, ap, ◌∙◌, inl, inr}
use Rattle.std.specs.Option.{option_map}
use Rattle.std.proofs.lemmas.List.{drop-map, take-map, take_rest, length-map}
use Rattle.word_list.specs.Request.{row_data}
use Rattle.word_list.proofs.Calls.{names_first, names_taken, names_setting, asks_same, calls, sound_by}
use Rattle.word_list.proofs.Calls.{served_as}
use Rattle.word_list.proofs.reading.read_after.Goals.{then-more-rest-via-then-more-rest}
use Rattle.word_list.proofs.reading.read_after.Goals.{then-more-rest-via-else-more-rest+then-not-serves}
use Rattle.word_list.proofs.reading.read_after.Goals as goal

pub returns-in_default-clause-spelled : goal.returns-in_default-clause-spelled
returns-in_default-clause-spelled c =
    names_first c.args.name.now _ (sym c.row_named.ensures.row ∙ ap (option_map row_data) c.in_default.is)

pub returns-then-taken-row-clause-spelled : goal.returns-then-taken-row-clause-spelled
returns-then-taken-row-clause-spelled c =
    names_taken c.args.name.now _ (row_data c.in-Some.row) (sym c.in-Some.ensures.row) c.fitting-taken.result
    c.fitting-taken.ensures.count c.if-taken-row.true

pub returns-then-more-rest-clause-spelled : goal.returns-then-more-rest-clause-spelled
returns-then-more-rest-clause-spelled c =
    let chosen = rw c.engine.ensures at c.chosen-settings.ensures in
    let named = names_setting c.args.name.now _ (row_data c.in-Some.row) (sym c.in-Some.ensures.row)
    c.fitting-taken.result c.fitting-taken.ensures.count c.if-taken-row.false _
    (rw (take_rest, drop-map) refl) c.settled-more.result c.settled-more.ensures.count in
    elim c.then-more-rest.branch [
      | then-more-rest-via-then-more-rest w ↦ named (inl (rw length-map w.if-more-rest.true))
      | then-more-rest-via-else-more-rest+then-not-serves w ↦ named
          (inr (served_as _ _ chosen w.serves.ensures
          ∙ w.if-not-serves.true))
    ]

pub returns-clause-spelled : goal.returns-clause-spelled
returns-clause-spelled c =
    let chosen = rw c.engine.ensures at c.chosen-settings.ensures in
    calls c.args.name.now _ (row_data c.in-Some.row) (sym c.in-Some.ensures.row) c.fitting-taken.result
    c.fitting-taken.ensures.count c.if-taken-row.false _ (rw (take_rest, drop-map) refl) c.settled-more.result
    c.settled-more.ensures.count (rw length-map c.if-more-rest.false)
    (served_as _ _ chosen c.serves.ensures ∙ c.if-not-serves.false) _ _
    (asks_same (sym (take-map _ c.fitting-taken.result _)) c.table_file-tables.ensures) chosen

pub returns-clause-sound : goal.returns-clause-sound
returns-clause-sound c =
    sound_by _ _ c.table_file-tables.ensures c.chosen-settings.ensures
    (served_as _ _ c.chosen-settings.ensures c.serves.ensures ∙ c.if-not-serves.false)
