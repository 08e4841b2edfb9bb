use Rattle.std.proofs.lemmas.Bool.Decides.{nat_tests}
use Rattle.std.proofs.Common.{ℕ, arith, ap, sym, ◌∙◌}
use Rattle.std.specs.Prelude.{Some, None, option_map}
use Rattle.table_file.specs.declared.fault.TableFault.{TableFault}
use Rattle.table_file.specs.Faults.{entry_fault}
use Rattle.table_file.specs.Reading.{spot_of}
use Rattle.table_file.proofs.Comparing.{compared_by, first_other-below}
use Rattle.table_file.proofs.loading.compared.Goals as goal

pub fault_at-requires-clause-inside : goal.fault_at-requires-clause-inside
fault_at-requires-clause-inside c = grind (arith, nat_tests, first_other-below)

pub returns-in-None-clause-exact : goal.returns-in-None-clause-exact
returns-in-None-clause-exact c land water is =
    ap (option_map entry_fault) (compared_by land water c.args.grid.now c.in_ok-tables.tables c.args.layer
    c.args.bytes.now is c.in_ok-tables.ensures c.entries.ensures.whole c.entries.result.now
    c.entries.ensures.entries None c.in-None.ensures)

pub returns-in-Some-clause-exact : goal.returns-in-Some-clause-exact
returns-in-Some-clause-exact c land water is other =
    ap (option_map entry_fault) (compared_by land water c.args.grid.now c.in_ok-tables.tables c.args.layer
    c.args.bytes.now is c.in_ok-tables.ensures c.entries.ensures.whole c.entries.result.now
    c.entries.ensures.entries (Some c.in-Some.place) c.in-Some.ensures)
    ∙ ap (λ (w : ℕ). Some (entry_fault (spot_of c.args.layer w c.in-Some.place)))
    (sym (c.width.ensures.is ∙ c.in_ok-tables.ensures.sized.width))
    ∙ ap (λ (f : TableFault). Some f) (sym c.fault_at.ensures)
