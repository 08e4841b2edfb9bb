use Rattle.std.proofs.Common.{sym, ap, ◌∙◌, set}
use Rattle.std.proofs.lemmas.Bool.{cond-true, cond-false, eq-eqb, ne_eqb}
use Rattle.open_list.specs.Entry.{relinked}
use Rattle.open_list.proofs.Changes.{set-changed}
use Rattle.open_list.proofs.entry.relink.Goals as goal

pub returns-then-entry-old : goal.returns-then-entry-old
returns-then-entry-old g c =
    let es = c.args.entries.now in
    let at = c.args.at in
    ap (λ e. set es at e) (sym (cond-true _ _ _ (eq-eqb _ _ c.if-entry-old.true)))
    ∙ set-changed (relinked c.args.old c.args.new) es at c.index-entries-at.result

pub returns-else-entry-old : goal.returns-else-entry-old
returns-else-entry-old g c =
    let es = c.args.entries.now in
    let at = c.args.at in
    ap (λ e. set es at e) (sym (cond-false _ _ _ (ne_eqb _ _ c.if-entry-old.false)))
    ∙ set-changed (relinked c.args.old c.args.new) es at c.index-entries-at.result
