use Rattle.std.proofs.Common.{rules, ap, sym, subst}
use Rattle.std.specs.Prelude.{IfOk}
use Rattle.grid_moves.specs.declared.Cell.{Cell}
use Rattle.grid_moves.specs.Layers.{query_grid}
use Rattle.edit_replay.specs.Replies.{IsRightOn, IsRunOn}
use Rattle.edit_replay.specs.Kept.{stands_for}
use Rattle.edit_replay.proofs.Answering.{result_on_grid}
use Rattle.edit_replay.proofs.Oneness.{only, result_known}
use Rattle.edit_replay.proofs.Simple.{reply_is_short}
use Rattle.edit_replay.proofs.parts.Parts.query.Goals as goal

pub returns-in-Ok-clause-right : goal.returns-in-Ok-clause-right
returns-in-Ok-clause-right g c =
    let ls = c.args.self.now.layers in
    let ends = c.in-Ok.ends in
    let from : Cell = record { x = c.args.sx; y = c.args.sy } in
    let to : Cell = record { x = c.args.gx; y = c.args.gy } in
    result_on_grid ls (query_grid ls ends.from) from to c.search.result
    (ap (λ (s : Cell). query_grid ls s) (sym c.in-Ok.ensures.from)) c.in-Ok.ensures.free
    (subst (λ (t : Cell). IfOk c.search.result
    (IsRightOn (query_grid ls ends.from) from t)) c.in-Ok.ensures.to
    (subst (λ (s : Cell). IfOk c.search.result (IsRightOn (query_grid ls ends.from) s ends.to))
    c.in-Ok.ensures.from c.search.ensures.right))

pub returns-in-Ok-clause-run : goal.returns-in-Ok-clause-run
returns-in-Ok-clause-run g c =
    let d = stands_for c.args.self.now in
    let ends = c.in-Ok.ends in
    let from : Cell = record { x = c.args.sx; y = c.args.sy } in
    subst (λ (t : Cell). IfOk c.search.result
    (IsRunOn d.engine (query_grid d.layers from) from t)) c.in-Ok.ensures.to
    (subst (λ (s : Cell). IfOk c.search.result (IsRunOn d.engine (query_grid d.layers s) s ends.to))
    c.in-Ok.ensures.from c.search.ensures.run)

pub returns-in-Ok-clause-short : goal.returns-in-Ok-clause-short
returns-in-Ok-clause-short g c =
    reply_is_short c.args.self.now.layers _ _ c.search.result c.requires.layers
    (returns-in-Ok-clause-right g c)

pub returns-in-Ok-clause-function : goal.returns-in-Ok-clause-function
returns-in-Ok-clause-function g c =
    result_known (stands_for c.args.self.now) c.requires.layers _ _ c.search.result
    (returns-in-Ok-clause-right g c)
    (returns-in-Ok-clause-run g c)

pub returns-in-Err-clause-function : goal.returns-in-Err-clause-function
returns-in-Err-clause-function g c =
    only (stands_for c.args.self.now) c.requires.layers _ _ c.unsearched.result
    (record { right = search rules; run = search rules })
