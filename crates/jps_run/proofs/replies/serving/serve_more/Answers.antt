use Rattle.std.proofs.Common.{◌≡◌, ◌<◌, ap, subst, length, take, List, ℕ, zero, suc, refl, arith}
use Rattle.std.specs.Io.KnownBytes.{Consumes}
use Rattle.jps_run.proofs.Serving.{end-failed, end-served, piece-failed, read-failed, serving-more}
use Rattle.jps_run.proofs.replies.serving.serve_more.Goals as goal

not-none : (n : ℕ) → (n ≡ 0 → ⊥) → 0 < n
not-none zero some = absurd (some refl)
not-none (suc n) some = omega arith

pub returns-in-Ok-end : goal.returns-in-Ok-end
returns-in-Ok-end g c = record {
  served = λ first input least before h.
      let mid = g.I.Source.inflow c.args.input.now in
      let now = g.I.Source.inflow c.read_into.new.input in
      end-served now h c.read_into.new.buffer.items
      (subst (λ n. Consumes mid.left now.left (take n c.read_into.new.buffer.items)) c.in-Ok-eq0.field-0-test
      c.in-Ok-eq0.ensures.bytes.0)
      (c.in-Ok-eq0.ensures.bytes.1 c.in-Ok-eq0.field-0-test
      (let k : length c.read_into.new.buffer.items
      ≡ length c.args.buffer.now.items = c.in-Ok-eq0.ensures.kept in
      let r : 0 < length c.args.buffer.now.items = c.requires.room in omega arith))
      c.end.new.self (g.O.Sink.outflow c.end.new.out) (c.in-Ok-end.ensures first h.text before h.served);
}

pub returns-in-Err-end : goal.returns-in-Err-end
returns-in-Err-end g c = record {
  served = λ first input least before h.
      let mid = g.I.Source.inflow c.args.input.now in
      let now = g.I.Source.inflow c.read_into.new.input in
      end-failed now h c.read_into.new.buffer.items
      (subst (λ n. Consumes mid.left now.left (take n c.read_into.new.buffer.items)) c.in-Ok-eq0.field-0-test
      c.in-Ok-eq0.ensures.bytes.0)
      (c.in-Ok-eq0.ensures.bytes.1 c.in-Ok-eq0.field-0-test
      (let k : length c.read_into.new.buffer.items
      ≡ length c.args.buffer.now.items = c.in-Ok-eq0.ensures.kept in
      let r : 0 < length c.args.buffer.now.items = c.requires.room in omega arith))
      (g.O.Sink.outflow c.end.new.out) (c.in-Err-end.ensures first h.text before h.served);
}

pub returns-in-Ok-feed : goal.returns-in-Ok-feed
returns-in-Ok-feed g c = record {
  served = λ first input least before h.
      serving-more (g.I.Source.inflow c.read_into.new.input) h c.in-Ok.count c.read_into.new.buffer.items
      (take c.in-Ok.count c.deref.result.now) c.in-Ok.ensures.bytes.0
      (ap (λ (l : List ℕ). take c.in-Ok.count l) c.deref.ensures.value)
      c.feed.new.self (g.O.Sink.outflow c.feed.new.out) c.read_into.new.buffer.items
      (not-none c.in-Ok.count c.in-Ok.count-test.1) c.in-Ok.ensures.bound c.in-Ok.ensures.cause.later
      (let k : length c.read_into.new.buffer.items ≡ length c.args.buffer.now.items = c.in-Ok.ensures.kept in
      let r : 0 < length c.args.buffer.now.items = c.requires.room in omega arith)
      (c.in-Ok-feed.ensures first h.text before h.served);
}

pub returns-in-Err-feed : goal.returns-in-Err-feed
returns-in-Err-feed g c = record {
  served = λ first input least before h.
      piece-failed (g.I.Source.inflow c.read_into.new.input) h c.in-Ok.count c.read_into.new.buffer.items
      (take c.in-Ok.count c.deref.result.now) c.in-Ok.ensures.bytes.0
      (ap (λ (l : List ℕ). take c.in-Ok.count l) c.deref.ensures.value)
      (g.O.Sink.outflow c.feed.new.out) (c.in-Err-feed.ensures first h.text before h.served);
}

pub returns-in-Err : goal.returns-in-Err
returns-in-Err g c = record {
  served = λ first input least before h.
      read-failed (g.I.Source.inflow c.read_into.new.input) h c.in-Err.ensures.bytes
      c.in-Err.ensures.cause.failed;
}
