use Rattle.std.proofs.Common.{rules, ◌∙◌, ap, sym, ℤ}
use Rattle.plus_tables.specs.Reading as spec
use Rattle.plus_tables.specs.Tables.{entry_at}
use Rattle.plus_tables.proofs.Aiming.{unaimed}
use Rattle.plus_tables.proofs.jumps.stop_read.Goals as goal

-- src/jumps.rt:261:1
pub returns-clause-is : goal.returns-clause-is
returns-clause-is g c =
    let mark_is = ap (λ (e : ℤ). spec.mark_of e) c.entry-entry.ensures.is
    ∙ sym (unaimed (entry_at c.args.tables.now) c.args.at c.args.goal c.args.d
    (sym c.is_aimed.ensures.is ∙ c.if-is_aimed.false)) in
    search rules
