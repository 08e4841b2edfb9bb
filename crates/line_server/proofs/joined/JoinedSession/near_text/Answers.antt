use Rattle.std.proofs.Common.{◌≡◌, sym, ap, ◌∙◌, subst, true}
use Rattle.grid_moves.specs.declared.Cell.{Cell}
use Rattle.grid_moves.specs.Layers.{AreLayers, Layers, is_free_ground, is_on_map}
use Rattle.grid_moves.proofs.Legal.{same_cell}
use Rattle.edit_replay.specs.ReplyOf.{reply_of}
use Rattle.edit_replay.specs.Session.{SessionData}
use Rattle.reply_lines.specs.Replies.{query_line}
use Rattle.line_server.specs.Answers.{cell_at, near_line}
use Rattle.line_server.proofs.Parting.{near-there}
use Rattle.line_server.proofs.joined.JoinedSession.near_text.Goals as goal

pub returns-clause-line : goal.returns-clause-line
returns-clause-line g c =
    let d = c.args.self.now in
    let s = c.in-Some.s in
    let to = c.in-Some-cell_at.goal in
    let nearest = c.nearest_to-c.result in
    let view = ap (λ (e : SessionData). e.layers) c.self.view_is in
    let same = c.layers-layers.ensures.is ∙ view in
    let on = subst (λ (ls : Layers). is_on_map ls s ≡ true) same c.in-Some.ensures.1 in
    let onto = subst (λ (ls : Layers). is_on_map ls to ≡ true) same c.in-Some-cell_at.ensures.1 in
    let free = subst (λ (ls : Layers). is_free_ground ls s ≡ true) same
    (sym c.is_free_ground.ensures ∙ c.if-not-is_free_ground.false) in
    let line = c.in_ok-text.ensures.line
    ∙ ap (λ (e : SessionData). query_line (reply_of e.engine) c.args.show e.layers
    (cell_at c.args.sx c.args.sy)
    (cell_at c.from.result c.from-2.result)) c.nearest_to-c.ensures.unchanged
    ∙ ap (λ (v : Cell). query_line (reply_of d.engine) c.args.show d.layers (cell_at c.args.sx c.args.sy) v)
    (same_cell (cell_at c.from.result c.from-2.result) nearest c.from.ensures c.from-2.ensures)
    ∙ ap (λ (u : Cell). query_line (reply_of d.engine) c.args.show d.layers u nearest)
    (sym c.in-Some.ensures.0) in
    near-there d.engine c.args.show d.layers s to nearest c.in_ok-text.text.items
    (subst AreLayers view c.layers-layers.ensures.layers) on onto free c.nearest_to-c.ensures.nearest line
    ∙ ap (λ (u : Cell). near_line (reply_of d.engine) c.args.show d.layers u to) c.in-Some.ensures.0
    ∙ ap (λ (v : Cell). near_line (reply_of d.engine) c.args.show d.layers (cell_at c.args.sx c.args.sy) v)
    c.in-Some-cell_at.ensures.0
