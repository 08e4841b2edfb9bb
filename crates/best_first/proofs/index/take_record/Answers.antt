use Rattle.std.proofs.Common.{◌≡◌, ◌∙◌, ap, List}
use Rattle.std.specs.Prelude.{slice_index_or}
use Rattle.best_first.specs.declared.index.Record.{Record}
use Rattle.best_first.specs.Index.{latest_of}
use Rattle.best_first.proofs.Records.{put_record}
use Rattle.best_first.proofs.index.take_record.Goals as goal

pub returns-clause-put : goal.returns-clause-put
returns-clause-put c =
    let heads = c.args.heads.now in
    let records = c.args.records.now.items in
    let earlier : c.latest_of-earlier.result
    ≡ latest_of (slice_index_or heads c.args.cell 0) records c.args.cell =
    c.latest_of-earlier.ensures
    ∙ ap (λ (rs : List Record). latest_of (slice_index_or heads c.args.cell 0) rs c.args.cell)
    c.as_slice.ensures.value in
    rw (c.push_reserved.ensures.items, c.tag_of.ensures, earlier, c.requires.next)
    (put_record heads records c.requires.records c.args.cell c.args.arrival c.requires.within
    c.requires.small)
