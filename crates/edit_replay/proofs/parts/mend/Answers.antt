use Rattle.std.proofs.Common.{◌≡◌, rules, refl, ap, sym, ◌∙◌, subst, arith}
use Rattle.grid_moves.specs.Grid.{GridData, grid_with, is_free}
use Rattle.grid_moves.proofs.Edited.{is_free-with_other, is_free-with_same}
use Rattle.plus_tables.specs.Tables.{AreTablesOf}
use Rattle.edit_replay.specs.Mended.{nothing}
use Rattle.edit_replay.proofs.Edits.{grid_with-same}
use Rattle.edit_replay.proofs.Following.{tables_follow}
use Rattle.edit_replay.proofs.parts.mend.Goals as goal

pub returns-then-free-was-clause-tables : goal.returns-then-free-was-clause-tables
returns-then-free-was-clause-tables g c =
    subst (λ (h : GridData). AreTablesOf c.args.tables.now h)
    (grid_with-same c.args.grid.now c.args.c c.args.was c.requires.inside (search rules))
    c.requires.before

pub returns-then-free-was-clause-counted : goal.returns-then-free-was-clause-counted
returns-then-free-was-clause-counted g c = (
  0,
  nothing (sym (grid_with-same c.args.grid.now c.args.c c.args.was c.requires.inside (search rules))) refl,
  (omega arith),
)

pub repair-requires-clause-but : goal.repair-requires-clause-but
repair-requires-clause-but g c = record {
  before = grid_with c.args.grid.now c.args.c c.args.was;
  tables = c.requires.before;
  differ = record {
    width = refl;
    height = refl;
    corner = refl;
    others = λ u other. sym
        (is_free-with_other c.args.grid.now c.args.c u c.args.was c.requires.inside other);
  };
}

pub returns-clause-counted : goal.returns-clause-counted
returns-clause-counted g c = tables_follow c.args.tables.now c.repair.new.tables
    (grid_with c.args.grid.now c.args.c c.args.was) c.args.grid.now
    (λ same.
    let here : is_free c.args.grid.now c.args.c ≡ c.args.was =
    ap (λ (h : GridData). is_free h c.args.c) same
    ∙ is_free-with_same c.args.grid.now c.args.c c.args.was c.requires.whole c.requires.inside in
    absurd (search rules))
    c.repair.result c.args.steps.now c.repair.new.steps c.width.ensures.whole c.requires.before
    c.repair.ensures.tables c.repair.ensures.changed c.repair.ensures.steps
