use Rattle.std.proofs.Common.{◌+◌, ℕ, ap, sym, ◌∙◌, rules}
use Rattle.std.specs.Prelude.{Some, None}
use Rattle.move_field.proofs.Priced.{letter-blocked, letter-free}
use Rattle.move_field.proofs.letter.letter.Goals as goal

pub returns-then-not-free : goal.returns-then-not-free
returns-then-not-free g c =
    letter-blocked (g.T.Terrain.grid c.args.t.now) c.args.goal c.args.c
    (sym c.is_same.ensures ∙ c.if-is_same.false) (search rules)

pub returns-in-Some : goal.returns-in-Some
returns-in-Some g c =
    ap (λ (n : ℕ). 48 + n) c.dir_number.ensures
    ∙ letter-free (g.T.Terrain.grid c.args.t.now) c.args.goal c.args.c c.args.costs.now (Some c.in-Some.d)
    c.requires.priced (sym c.is_same.ensures ∙ c.if-is_same.false) (search rules)
    (sym c.in-Some.is ∙ c.first_move.ensures)

pub returns-in-None : goal.returns-in-None
returns-in-None g c =
    letter-free (g.T.Terrain.grid c.args.t.now) c.args.goal c.args.c c.args.costs.now None
    c.requires.priced (sym c.is_same.ensures ∙ c.if-is_same.false) (search rules)
    (sym c.in-None.is ∙ c.first_move.ensures)
