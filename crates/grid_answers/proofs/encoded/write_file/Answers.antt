use Rattle.std.proofs.Common.{◌≡◌, ◌++◌, refl, sym, subst, flat_map, List, [], ◌∷◌, ℕ}
use Rattle.std.proofs.lemmas.List.{append-nil}
use Rattle.io_edge.specs.Known.{Outflow}
use Rattle.io_edge.specs.Whole.{AppendsSome}
use Rattle.plus_tables.specs.Tables.{IsWhole}
use Rattle.table_file.specs.Encoding.{entry_bytes}
use Rattle.table_file.specs.Written.{file_of}
use Rattle.grid_answers.specs.Encoded.{IsEncoded}
use Rattle.line_work.specs.Sending.{IsAll, IsPart, Wrote, WroteSome, work_stops, write_stops}
use Rattle.grid_answers.specs.declared.encoded.TableFile.{TableFile}
use Rattle.line_work.proofs.Stopping.{only_write, passed}
use Rattle.grid_answers.proofs.encoded.write_file.Goals as goal

module _ (file : TableFile) (land : IsWhole file.land) (water : IsWhole file.water) (sent : List ℕ)
    (is : sent ≡ file_of file.corner file.land file.water) where
  encoded : IsEncoded file (sent ∷ []) 0
  encoded = record {
    text = (subst (λ (l : List ℕ). sent ∷ [] ≡ l ∷ []) is refl, refl);
    land = land;
    water = water;
  }

  all_sent : (before now : Outflow) → Wrote before now sent → IsAll (IsEncoded file) before now 0
  all_sent before now wrote = record {
    lines = sent ∷ [];
    whole = encoded;
    wrote = subst (λ (l : List ℕ). Wrote before now l) (sym (append-nil sent)) wrote;
  }

  part_sent : (before now : Outflow) → WroteSome before now sent → IsPart (IsEncoded file) before now
  part_sent before now some = record {
    lines = sent ∷ [];
    status = 0;
    whole = encoded;
    wrote = subst (λ (l : List ℕ). AppendsSome before.written now.written l) (sym (append-nil sent)) some.1;
  }

pub returns-in_err-send_parts : goal.returns-in_err-send_parts
returns-in_err-send_parts g c =
    let file = c.args.file.now in
    let before = g.O.Sink.outflow c.args.out.now in
    let now = g.O.Sink.outflow c.send_parts.new.out in
    let sent = c.as_slice.result.now
    ++ (flat_map entry_bytes c.entries-land.result.now ++ flat_map entry_bytes c.entries-water.result.now) in
    let is : sent ≡ file_of file.corner file.land file.water =
    rw (
      c.as_slice.ensures,
      c.head_bytes-head.ensures,
      c.width.ensures.is,
      c.height.ensures,
      c.entries-land.ensures.entries,
      c.entries-water.ensures.entries,
    ) refl in
    passed (IsAll (IsEncoded file) before now) (write_stops (WroteSome before now sent))
    (work_stops (IsEncoded file) before now) c.from_residual.result c.in_err-send_parts.field-0.0
    c.from_residual.ensures.1 c.in_err-send_parts.ensures
    (only_write (λ w. (
      w.0,
      part_sent file c.width.ensures.whole c.entries-water.ensures.whole sent is before now w,
    )))

pub returns : goal.returns
returns g c =
    let file = c.args.file.now in
    let sent = c.as_slice.result.now
    ++ (flat_map entry_bytes c.entries-land.result.now ++ flat_map entry_bytes c.entries-water.result.now) in
    let is : sent ≡ file_of file.corner file.land file.water =
    rw (
      c.as_slice.ensures,
      c.head_bytes-head.ensures,
      c.width.ensures.is,
      c.height.ensures,
      c.entries-land.ensures.entries,
      c.entries-water.ensures.entries,
    ) refl in
    all_sent file c.width.ensures.whole c.entries-water.ensures.whole sent is
    (g.O.Sink.outflow c.args.out.now) (g.O.Sink.outflow c.send_parts.new.out) c.in_ok-send_parts.ensures
