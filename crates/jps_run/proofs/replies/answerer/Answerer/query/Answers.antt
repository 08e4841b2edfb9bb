use Rattle.std.proofs.Common.{ap, le_refl, ◌∙◌, subst, sym}
use Rattle.edit_replay.specs.Session.{SessionData}
use Rattle.line_work.proofs.Stopping.{if_ok}
use Rattle.jps_run.specs.Answerers.{CanAnswer}
use Rattle.word_list.specs.declared.request.SmallEngine.TheVariants.{Boxes, Moves}
use Rattle.jps_run.specs.Who.{by_small}
use Rattle.jps_run.specs.declared.replies.answerer.Answerer.{Answerer}
use Rattle.jps_run.specs.declared.replies.answerer.Answerer.TheVariants as answerer
use Rattle.jps_run.proofs.Answerers.{counts-none, fewest-as, most-as, reply-as, tells-none}
use Rattle.jps_run.proofs.Existing.{result-short}
use Rattle.jps_run.proofs.replies.answerer.Answerer.query.Goals as goal

pub query-requires-in-Boxes : goal.query-requires-in-Boxes
query-requires-in-Boxes g c = record {
  ready = subst (λ (a : Answerer). CanAnswer a) c.in-Boxes.is c.requires.ready;
}

pub query-requires-in-Moves : goal.query-requires-in-Moves
query-requires-in-Moves g c = record {
  ready = subst (λ (a : Answerer). CanAnswer a) c.in-Moves.is c.requires.ready;
}

pub returns-in-Session : goal.returns-in-Session
returns-in-Session g c =
    let old = c.args.steps.now in
    let new = c.query.new.steps in
    let a = c.args.self.now in
    let b = answerer.Session c.in-Session.session in
    let r = c.query.result in
    record {
      reply = reply-as r a b c.in-Session.is _ _ c.query.ensures.function;
      short = c.query.ensures.short;
      unchanged = ap (λ (d : SessionData). answerer.Session d) c.query.ensures.unchanged
          ∙ sym c.in-Session.is;
      fewest = fewest-as r a b c.in-Session.is old new c.query.ensures.fewest;
      most = most-as r a b c.in-Session.is old new c.query.ensures.most;
    }

pub returns-in-Boxes : goal.returns-in-Boxes
returns-in-Boxes g c =
    let old = c.args.steps.now in
    let a = c.args.self.now in
    let b = answerer.Boxes c.in-Boxes.library in
    let r = c.query-in-Boxes.result in
    record {
      reply = reply-as r a b c.in-Boxes.is _ _ c.query-in-Boxes.ensures.reply;
      short = result-short r (by_small Boxes) c.in-Boxes.library.layers _ _
          (subst (λ (a : Answerer). CanAnswer a) c.in-Boxes.is c.requires.ready).0
          c.query-in-Boxes.ensures.reply;
      unchanged = sym c.in-Boxes.is;
      fewest = fewest-as r a b c.in-Boxes.is old old (counts-none r old old (if_ok r (le_refl old)));
      most = most-as r a b c.in-Boxes.is old old (tells-none r old old);
    }

pub returns-in-Moves : goal.returns-in-Moves
returns-in-Moves g c =
    let old = c.args.steps.now in
    let new = c.query-in-Moves.new.steps in
    let a = c.args.self.now in
    let b = answerer.Moves c.in-Moves.library in
    let r = c.query-in-Moves.result in
    record {
      reply = reply-as r a b c.in-Moves.is _ _ c.query-in-Moves.ensures.reply;
      short = result-short r (by_small Moves) c.in-Moves.library.layers _ _
          (subst (λ (a : Answerer). CanAnswer a) c.in-Moves.is c.requires.ready).0
          c.query-in-Moves.ensures.reply;
      unchanged = sym c.in-Moves.is;
      fewest = fewest-as r a b c.in-Moves.is old new (counts-none r old new c.query-in-Moves.ensures.later);
      most = most-as r a b c.in-Moves.is old new (tells-none r old new);
    }
