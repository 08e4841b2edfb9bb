use Rattle.std.proofs.Common.{◌≡◌, ◌∙◌, ap, refl, subst}
use Rattle.std.specs.Prelude.{IfOk}
use Rattle.grid_moves.specs.Layers.{Layers}
use Rattle.reply_lines.specs.Lines.{edit_line}
use Rattle.grid_answers.specs.Framed.{framed_costs, framed_field}
use Rattle.line_server.specs.declared.asked.Asked.TheVariants as asked
use Rattle.line_server.specs.Answers.{cell_at}
use Rattle.line_server.specs.Writing.{bytes_of}
use Rattle.line_server.proofs.Serving.{answered-edit, answered-made}
use Rattle.line_server.proofs.answer.answer_to.Goals as goal

pub returns-in-Edit : goal.returns-in-Edit
returns-in-Edit g c =
    let e = c.in-Edit in
    rw e.is (answered-edit c.args.session.now c.edit-reply.new.self c.args.show e.x e.y e.to
    c.edit_bytes-line.result.now
    c.edit-reply.ensures.engine c.edit-reply.ensures.edited
    (c.edit_bytes-line.ensures ∙ ap edit_line c.edit-reply.ensures.reply))

pub returns-in-Query : goal.returns-in-Query
returns-in-Query g c =
    let q = c.in-Query in
    rw q.is (answered-made c.args.session.now c.query_text.new.self c.args.show
    (asked.Query q.sx q.sy q.gx q.gy)
    c.query_text.result (bytes_of c.made.result) c.made.ensures c.query_text.ensures.unchanged refl refl
    c.query_text.ensures.line)

pub returns-in-Near : goal.returns-in-Near
returns-in-Near g c =
    let q = c.in-Near in
    rw q.is (answered-made c.args.session.now c.near_text.new.self c.args.show
    (asked.Near q.sx q.sy q.gx q.gy)
    c.near_text.result (bytes_of c.made-in-Near.result) c.made-in-Near.ensures c.near_text.ensures.unchanged
    refl refl c.near_text.ensures.line)

pub returns-in-Field : goal.returns-in-Field
returns-in-Field g c =
    let q = c.in-Field in
    rw q.is (answered-made c.args.session.now c.args.session.now c.args.show (asked.Field q.x q.y)
    c.framed_field.result (bytes_of c.made-in-Field.result) c.made-in-Field.ensures refl refl refl
    (subst (λ (ls : Layers). IfOk c.framed_field.result (λ t. t.items ≡ framed_field ls (cell_at q.x q.y)))
    c.layers.ensures c.framed_field.ensures))

pub returns-in-Costs : goal.returns-in-Costs
returns-in-Costs g c =
    let q = c.in-Costs in
    rw q.is (answered-made c.args.session.now c.args.session.now c.args.show (asked.Costs q.x q.y)
    c.framed_costs.result (bytes_of c.made-in-Costs.result) c.made-in-Costs.ensures refl refl refl
    (subst (λ (ls : Layers). IfOk c.framed_costs.result (λ t. t.items ≡ framed_costs ls (cell_at q.x q.y)))
    c.layers-in-Costs.ensures c.framed_costs.ensures))
