use Rattle.std.proofs.Common.{arith, string_bytes}
use Rattle.std.proofs.lemmas.Grind.{common_steps}
use Rattle.page_calls.proofs.Texts.{no_name, text_under}
use Rattle.page_calls.proofs.handed.add_text.Goals as goal

pub returns-in_ok-push : goal.returns-in_ok-push
returns-in_ok-push c =
    let under = text_under c.args.names.now c.args.place c.index-names-place.result c.args.text.now
    c.if-place-names.true c.index-names-place.is in
    grind (arith, common_steps, under)

pub returns-else-place-names : goal.returns-else-place-names
returns-else-place-names c =
    let none = no_name c.args.names.now c.args.place c.args.text.now
    (omega (arith, c.if-place-names.false)) in
    grind (arith, common_steps, none)
