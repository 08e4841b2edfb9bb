use Rattle.std.proofs.Common.{◌∙◌, sym}
use Rattle.walk_judge.proofs.Judgements.{accepted_exactly, judgements_are_made}
use Rattle.walk_judge.proofs.judging.judge_claimed.Goals as goal

pub returns : goal.returns
returns g c =
    let grid = g.T.Terrain.grid c.args.t.now in
    let s = c.args.from in
    let t = c.args.to in
    let what = c.args.claimed.now in
    let how = c.judgement.result in
    let e = c.judgement.ensures in
    let made = judgements_are_made grid s t what c.args.least c.requires.least in
    record {
      is = e;
      judged = (made how).1 e;
      only = λ other is. e ∙ sym ((made other).0 is);
      accepted = accepted_exactly grid s t c.width-width.ensures.whole what c.args.least
          c.requires.least how e;
    }
