use Rattle.std.proofs.Common.{◌++◌, flat_map}
use Rattle.table_file.specs.Encoding.{entry_bytes}
use Rattle.line_work.specs.Sending.{Wrote, WroteSome, write_stops}
use Rattle.grid_answers.proofs.Encoding.{begun, last_failed, last_written, part_failed, part_written}
use Rattle.line_work.proofs.Stopping.{ends-on, only_write, passed}
use Rattle.grid_answers.proofs.encoded.send_parts.Goals as goal

pub returns-in_err-send_entries : goal.returns-in_err-send_entries
returns-in_err-send_entries g c =
    let before = g.O.Sink.outflow c.args.out.now in
    let mid = g.O.Sink.outflow c.send.new.out in
    let now = g.O.Sink.outflow c.send_entries.new.out in
    let land = flat_map entry_bytes c.args.land.now in
    let water = flat_map entry_bytes c.args.water.now in
    let text = c.args.head.now ++ (land ++ water) in
    passed (λ done. Wrote before now text) (write_stops (WroteSome mid now land))
    (write_stops (WroteSome before now text))
    c.from_residual-in_err-send_entries.result c.in_err-send_entries.field-0.0
    c.from_residual-in_err-send_entries.ensures.1 c.in_err-send_entries.ensures.sent
    (only_write (λ w. part_failed before mid now text land water
    (part_written before before mid text c.args.head.now (land ++ water) (begun before text)
    c.in_ok-send.ensures.sent
    c.in_ok-send.ensures.later) w))

pub returns : goal.returns
returns g c =
    let before = g.O.Sink.outflow c.args.out.now in
    let mid = g.O.Sink.outflow c.send.new.out in
    let at = g.O.Sink.outflow c.send_entries.new.out in
    let now = g.O.Sink.outflow c.send_entries-2.new.out in
    let land = flat_map entry_bytes c.args.land.now in
    let water = flat_map entry_bytes c.args.water.now in
    let text = c.args.head.now ++ (land ++ water) in
    let behind = part_written before mid at text land water
    (part_written before before mid text c.args.head.now (land ++ water) (begun before text)
    c.in_ok-send.ensures.sent
    c.in_ok-send.ensures.later) c.in_ok-send_entries.ensures.sent c.in_ok-send_entries.ensures.later in
    ends-on (λ done. Wrote at now water) (λ done. Wrote before now text)
    (write_stops (WroteSome at now water)) (write_stops (WroteSome before now text)) c.send_entries-2.result
    (λ x w. last_written before at now text water behind w)
    (only_write (λ w. last_failed before at now text water behind w)) c.send_entries-2.ensures.sent
