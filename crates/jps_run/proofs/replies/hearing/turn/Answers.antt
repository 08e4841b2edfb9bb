use Rattle.std.proofs.Common.{◌≡◌, ◌+◌, ◌-◌, ◌<◌, ◌≤◌, subst, length, take, List, ℕ, arith}
use Rattle.std.specs.Prelude.{Ok}
use Rattle.std.specs.Io.KnownBytes.{Consumes}
use Rattle.jps_run.proofs.Incomings.{end-heard, end-stopped, piece-stopped, long-refused, long-starved}
use Rattle.jps_run.proofs.Incomings.{hearing-more}
use Rattle.jps_run.proofs.HeardCounts.{rising-more, rising-ended}
use Rattle.jps_run.proofs.replies.hearing.turn.Goals as goal

-- how many bytes there is room for
room_is : (known taken : ℕ) → known ≡ taken → taken ≤ 67108864 → taken + (67108864 - known) ≡ 67108864
room_is known taken same few = omega arith

-- what is taken of it
piece_is : (bytes also : List ℕ) (n m : ℕ) → n ≡ m → bytes ≡ also → take n bytes ≡ take m also
piece_is bytes also n m e f = cc

pub returns-in_err-status-in-Ok-eq0-clause-heard : goal.returns-in_err-status-in-Ok-eq0-clause-heard
returns-in_err-status-in-Ok-eq0-clause-heard g c = λ first input before h.
    let mid = g.I.Source.inflow c.args.input.now in
    let now = g.I.Source.inflow c.read_into.new.input in
    end-stopped now h
    c.read_into.new.buffer.items
    (subst (λ n. Consumes mid.left now.left (take n c.read_into.new.buffer.items)) c.in-Ok-eq0.field-0-test
    c.in-Ok-eq0.ensures.bytes.0)
    (c.in-Ok-eq0.ensures.bytes.1 c.in-Ok-eq0.field-0-test
    (let k : length c.read_into.new.buffer.items
    ≡ length c.args.buffer.now.items = c.in-Ok-eq0.ensures.kept in
    let r : 0 < length c.args.buffer.now.items = c.requires.room in omega arith))
    c.hear_end.new.job (g.O.Sink.outflow c.hear_end.new.out) _ c.from_residual.result
    c.in_err-status-in-Ok-eq0.field-0.0
    (c.in_err-status-in-Ok-eq0.ensures.ended first h.text before h.heard) c.from_residual.ensures.1

pub returns-in_ok-status-in-Ok-eq0-clause-heard : goal.returns-in_ok-status-in-Ok-eq0-clause-heard
returns-in_ok-status-in-Ok-eq0-clause-heard g c = λ first input before h.
    let mid = g.I.Source.inflow c.args.input.now in
    let now = g.I.Source.inflow c.read_into.new.input in
    end-heard now h
    c.read_into.new.buffer.items
    (subst (λ n. Consumes mid.left now.left (take n c.read_into.new.buffer.items)) c.in-Ok-eq0.field-0-test
    c.in-Ok-eq0.ensures.bytes.0)
    (c.in-Ok-eq0.ensures.bytes.1 c.in-Ok-eq0.field-0-test
    (let k : length c.read_into.new.buffer.items
    ≡ length c.args.buffer.now.items = c.in-Ok-eq0.ensures.kept in
    let r : 0 < length c.args.buffer.now.items = c.requires.room in omega arith))
    c.hear_end.new.job (g.O.Sink.outflow c.hear_end.new.out) c.in_ok-status-in-Ok-eq0.status
    (c.in_ok-status-in-Ok-eq0.ensures.ended first h.text before h.heard)

pub returns-in_ok-status-in-Ok-eq0-clause-rose : goal.returns-in_ok-status-in-Ok-eq0-clause-rose
returns-in_ok-status-in-Ok-eq0-clause-rose g c = λ first input start r.
    let mid = g.I.Source.inflow c.args.input.now in
    let now = g.I.Source.inflow c.read_into.new.input in
    rising-ended c.hear_end.new.job now.left c.hear_end.new.steps r c.read_into.new.buffer.items
    (subst (λ n. Consumes mid.left now.left (take n c.read_into.new.buffer.items)) c.in-Ok-eq0.field-0-test
    c.in-Ok-eq0.ensures.bytes.0)
    (c.in-Ok-eq0.ensures.bytes.1 c.in-Ok-eq0.field-0-test
    (let k : length c.read_into.new.buffer.items
    ≡ length c.args.buffer.now.items = c.in-Ok-eq0.ensures.kept in
    let r : 0 < length c.args.buffer.now.items = c.requires.room in omega arith))
    c.requires.few (Ok c.in_ok-status-in-Ok-eq0.status) c.in_ok-status-in-Ok-eq0.ensures.rose

pub returns-in_err-hear_piece-in-Ok-clause-heard : goal.returns-in_err-hear_piece-in-Ok-clause-heard
returns-in_err-hear_piece-in-Ok-clause-heard g c = λ first input before h.
    piece-stopped (g.I.Source.inflow c.read_into.new.input) h c.in-Ok.count (67108864 - c.taken.result)
    c.read_into.new.buffer.items
    (take c.min.result c.deref.result.now)
    c.in-Ok.ensures.bytes.0
    (room_is c.taken.result c.args.feeder.now.taken c.taken.ensures.count c.requires.few)
    (piece_is c.deref.result.now c.read_into.new.buffer.items c.min.result _ c.min.ensures
    c.deref.ensures.value)
    c.hear_piece.new.job (g.O.Sink.outflow c.hear_piece.new.out) _
    c.from_residual-in_err-hear_piece-in-Ok.result c.in_err-hear_piece-in-Ok.field-0.0
    (c.in_err-hear_piece-in-Ok.ensures.heard first h.text before h.heard)
    c.from_residual-in_err-hear_piece-in-Ok.ensures.1

pub returns-in_err-long_line-in-Ok-clause-heard : goal.returns-in_err-long_line-in-Ok-clause-heard
returns-in_err-long_line-in-Ok-clause-heard g c = λ first input before h.
    long-starved (g.I.Source.inflow c.read_into.new.input) h c.in-Ok.count (67108864 - c.taken.result)
    c.read_into.new.buffer.items
    (take c.min.result c.deref.result.now)
    c.in-Ok.ensures.bytes.0
    (room_is c.taken.result c.args.feeder.now.taken c.taken.ensures.count c.requires.few)
    (piece_is c.deref.result.now c.read_into.new.buffer.items c.min.result _ c.min.ensures
    c.deref.ensures.value)
    c.hear_piece.new.job c.hear_piece.new.feeder (g.O.Sink.outflow c.hear_piece.new.out)
    (c.in_ok-hear_piece-in-Ok.ensures.heard first h.text before h.heard) _
    c.from_residual-in_err-long_line-in-Ok.result c.from_residual-in_err-long_line-in-Ok.ensures.1

pub returns-then-room-count-clause-heard : goal.returns-then-room-count-clause-heard
returns-then-room-count-clause-heard g c = λ first input before h.
    long-refused (g.I.Source.inflow c.read_into.new.input) h c.in-Ok.count (67108864 - c.taken.result)
    c.read_into.new.buffer.items
    (take c.min.result c.deref.result.now)
    c.in-Ok.ensures.bytes.0
    (room_is c.taken.result c.args.feeder.now.taken c.taken.ensures.count c.requires.few)
    (piece_is c.deref.result.now c.read_into.new.buffer.items c.min.result _ c.min.ensures
    c.deref.ensures.value)
    c.hear_piece.new.job c.hear_piece.new.feeder (g.O.Sink.outflow c.hear_piece.new.out)
    (c.in_ok-hear_piece-in-Ok.ensures.heard first h.text before h.heard)
    c.in_ok-long_line-in-Ok.field-0.items c.if-room-count.true c.in-Ok.ensures.bound
    c.in_ok-long_line-in-Ok.ensures

pub returns-else-room-count-clause-heard : goal.returns-else-room-count-clause-heard
returns-else-room-count-clause-heard g c = λ first input before h.
    hearing-more (g.I.Source.inflow c.read_into.new.input) h c.in-Ok.count (67108864 - c.taken.result)
    c.read_into.new.buffer.items
    (take c.min.result c.deref.result.now)
    c.in-Ok.ensures.bytes.0
    (room_is c.taken.result c.args.feeder.now.taken c.taken.ensures.count c.requires.few)
    (piece_is c.deref.result.now c.read_into.new.buffer.items c.min.result _ c.min.ensures
    c.deref.ensures.value)
    c.hear_piece.new.job c.hear_piece.new.feeder (g.O.Sink.outflow c.hear_piece.new.out)
    (c.in_ok-hear_piece-in-Ok.ensures.heard first h.text before h.heard)
    c.if-room-count.false c.in-Ok.ensures.bound c.in_ok-hear_piece-in-Ok.ensures.counted
    c.in-Ok.ensures.cause.later c.read_into.new.buffer.items
    (let k : length c.read_into.new.buffer.items ≡ length c.args.buffer.now.items = c.in-Ok.ensures.kept in
    let r : 0 < length c.args.buffer.now.items = c.requires.room in omega arith)

pub returns-else-room-count-clause-rose : goal.returns-else-room-count-clause-rose
returns-else-room-count-clause-rose g c = λ first input start r.
    rising-more c.hear_piece.new.job (g.I.Source.inflow c.read_into.new.input).left c.hear_piece.new.steps r
    c.hear_piece.new.feeder c.in-Ok.count (67108864 - c.taken.result) c.read_into.new.buffer.items
    (take c.min.result c.deref.result.now)
    c.in-Ok.ensures.bytes.0
    (piece_is c.deref.result.now c.read_into.new.buffer.items c.min.result _ c.min.ensures
    c.deref.ensures.value)
    c.if-room-count.false c.in_ok-hear_piece-in-Ok.ensures.counted c.in_ok-hear_piece-in-Ok.ensures.rose
