use Rattle.std.proofs.Common.{◌≡◌, sym, ap, ◌∙◌, subst, true}
use Rattle.std.specs.Prelude.{codes}
use Rattle.std.proofs.lemmas.Bool.{both_ways, not-true}
use Rattle.grid_moves.specs.declared.Cell.{Cell}
use Rattle.grid_moves.specs.Layers.{AreLayers, Layers, in_one_layer}
use Rattle.edit_replay.specs.ReplyOf.{reply_of}
use Rattle.edit_replay.specs.Session.{SessionData}
use Rattle.reply_lines.specs.Replies.{query_line}
use Rattle.line_server.specs.Answers.{cell_at}
use Rattle.line_server.proofs.Parting.{none-line}
use Rattle.line_server.proofs.joined.JoinedSession.is_none.Goals as goal

pub returns-clause-none : goal.returns-clause-none
returns-clause-none c =
    let d = c.args.self.now in
    let s = c.in-Some.s in
    let t = c.in-Some-cell_at.t in
    let view = ap (λ (e : SessionData). e.layers) c.self.view_is in
    let same = c.layers-layers.ensures.is ∙ view in
    let one : in_one_layer d.layers s t ≡ true
    = subst (λ (ls : Layers). in_one_layer ls s t ≡ true) same
    (sym c.in_one_layer.ensures ∙ c.if-not-in_one_layer.false) in
    λ apart.
    subst (λ (u : Cell). codes "none\n"
    ≡ query_line (reply_of d.engine) c.args.show d.layers u (cell_at c.args.gx c.args.gy)) c.in-Some.ensures.0
    (subst (λ (v : Cell). codes "none\n" ≡ query_line (reply_of d.engine) c.args.show d.layers s v)
    c.in-Some-cell_at.ensures.0
    (none-line d.engine c.args.show d.layers s t (subst AreLayers view c.layers-layers.ensures.layers) one
    (λ j. both_ways c.are_joined.result (not-true c.are_joined.result apart)
    (c.are_joined.ensures.joined.1 j))
    (sym c.eq.ensures ∙ c.if-eq.false)))
