use Rattle.std.proofs.Common.{◌≡◌, ◌<◌, ◌+◌, ◌-◌, ◌∙◌, List, ℕ, drop, flat_map, length, subst, take, arith}
use Rattle.std.specs.Prelude.{min}
use Rattle.table_file.specs.Encoding.{entry_bytes}
use Rattle.grid_answers.specs.Encoded.{IsWritten}
use Rattle.line_work.specs.Sending.{Wrote, WroteSome, write_stops}
use Rattle.line_work.specs.Stops.{StopsSo}
use Rattle.grid_answers.proofs.Encoding.{entries_split, part_failed, part_written}
use Rattle.line_work.proofs.Stopping.{only_write, passed}
use Rattle.grid_answers.proofs.encoded.send_entries.Goals as goal

as_many : (done count : ℕ) → done + count - done ≡ count
as_many done count = omega arith

pub returns-in_err-send_piece-clause-sent : goal.returns-in_err-send_piece-clause-sent
returns-in_err-send_piece-clause-sent g c =
    let before = g.O.Sink.outflow c.args.out.now in
    let mid = g.O.Sink.outflow c.loop-done.out in
    let now = g.O.Sink.outflow c.send_piece.new.out in
    let entries = c.args.entries.now in
    let done = c.loop-done.done in
    let count = c.min-count.result in
    let text = flat_map entry_bytes entries in
    let piece = flat_map entry_bytes (take count (drop done entries)) in
    passed (λ _. Wrote before now text) (write_stops (WroteSome mid now piece))
    (write_stops (WroteSome before now text)) c.from_residual.result c.in_err-send_piece.field-0.0
    c.from_residual.ensures.1
    (subst (λ n. StopsSo (write_stops (WroteSome mid now (flat_map entry_bytes (take n (drop done entries)))))
    c.in_err-send_piece.field-0.0) (as_many done count) c.in_err-send_piece.ensures.sent)
    (only_write
    (λ w. part_failed before mid now text piece (flat_map entry_bytes (drop (done + count) entries))
    (subst (λ (l : List ℕ). IsWritten before mid text l) (entries_split entries done count)
    c.loop-done.invariant.written) w))

pub loop-done-preserved : goal.loop-done-preserved
loop-done-preserved g c =
    let before = g.O.Sink.outflow c.args.out.now in
    let mid = g.O.Sink.outflow c.loop-done.out in
    let now = g.O.Sink.outflow c.send_piece.new.out in
    let entries = c.args.entries.now in
    let done = c.loop-done.done in
    let count = c.min-count.result in
    let piece = flat_map entry_bytes (take count (drop done entries)) in
    record {
      below = let e : count ≡ min 32768 (length entries - done) = c.min-count.ensures in
          let l : done < length entries = c.loop-done-test.true in omega arith;
      room = c.in_ok-send_piece.ensures.room ∙ c.loop-done.invariant.room;
      written = part_written before mid now (flat_map entry_bytes entries) piece
          (flat_map entry_bytes (drop (done + count) entries))
          (subst (λ (l : List ℕ). IsWritten before mid (flat_map entry_bytes entries) l)
          (entries_split entries done count) c.loop-done.invariant.written)
          (subst (λ n. Wrote mid now (flat_map entry_bytes (take n (drop done entries)))) (as_many done count)
          c.in_ok-send_piece.ensures.sent)
          c.in_ok-send_piece.ensures.later;
    }
