use Rattle.std.proofs.Common.{◌^◌, ◌<◌, length, refl, subst, sym}
use Rattle.std.proofs.lemmas.Option.{slice_get_read}
use Rattle.line_work.proofs.Stopping.{if_ok}
use Rattle.jps_run.proofs.Judged.{goes-on, judged-more, one-fewer, one-left}
use Rattle.jps_run.proofs.replies.judge.JudgeJob.answer.Goals as goal

pub returns-clause-worked : goal.returns-clause-worked
returns-clause-worked g c =
    let walks = c.args.self.now.walks.items in
    let rows = c.args.self.now.counts.rows in
    let inside = one-left rows c.requires.room.0 (length walks) c.requires.room.1.left in
    judged-more c.put_ruling.result c.args.self.now
    (record { costs = c.ruling_on.new.costs; walks = c.args.self.now.walks; counts = c.count.new.self })
    c.args.item c.index-claimed.result.now c.in_ok-ruling.ruling c.args.lines.now.items
    c.put_ruling.new.out.items
    c.in_ok-ruling.ensures.ruling (slice_get_read walks (length walks) rows c.index-claimed.result.now refl
    inside c.index-claimed.ensures)
    c.ruling_on.ensures.unchanged refl c.count.ensures c.put_ruling.ensures

pub index-claimed-requires : goal.index-claimed-requires
index-claimed-requires g c =
    let rows = c.args.self.now.counts.rows in
    subst (λ n. rows < n) (sym c.args.self.now.walks.ok.0)
    (one-left rows c.requires.room.0 (length c.args.self.now.walks.items) c.requires.room.1.left)

pub ruling_on-requires : goal.ruling_on-requires
ruling_on-requires g c =
    let walks = c.args.self.now.walks.items in
    let rows = c.args.self.now.counts.rows in
    let inside = one-left rows c.requires.room.0 (length walks) c.requires.room.1.left in
    c.requires.room.1.fit rows c.index-claimed.result.now
    (slice_get_read walks (length walks) rows c.index-claimed.result.now refl inside c.index-claimed.ensures)

pub count-requires : goal.count-requires
count-requires g c = record {
  counts = c.requires.room.1.counts;
  few = one-fewer c.args.self.now.counts.rows c.requires.room.0 (2 ^ 64) c.requires.room.1.few;
}

pub returns-clause-room : goal.returns-clause-room
returns-clause-room g c =
    goes-on c.put_ruling.result c.args.self.now
    (record { costs = c.ruling_on.new.costs; walks = c.args.self.now.walks; counts = c.count.new.self })
    c.in_ok-ruling.ruling c.requires.room refl c.count.ensures

pub returns-clause-counted : goal.returns-clause-counted
returns-clause-counted g c = if_ok c.put_ruling.result (λ first items start rose. tt)
