use Rattle.std.proofs.Common.{◌≡◌, ◌<◌, ◌+◌, ◌*◌, ◌/◌, ◌%◌, ℕ, arith, ap, sym, ◌∙◌, subst, nat_eq}
use Rattle.std.specs.Prelude.{if◌then◌else◌}
use Rattle.std.proofs.lemmas.List.{get_or_default}
use Rattle.grid_moves.specs.Bits.{is_set}
use Rattle.bit_grid.specs.Bits.{LineData, Shows}
use Rattle.bit_grid.proofs.Showing.{set_shown, place_below}
use Rattle.bit_grid.proofs.lines.Lines.set.Goals as goal

pub returns-clause-edited : goal.returns-clause-edited
returns-clause-edited c = λ lines positions shown shows.
    let place : ℕ = c.args.line * c.self.inside.blocks * 8 + c.args.position / 64 in
    let lines_are : c.self.inside.lines ≡ c.args.self.now.lines =
    ap (λ (l : LineData). l.lines) c.self.view_is in
    let blocks_are : c.self.inside.blocks ≡ c.args.self.now.blocks =
    ap (λ (l : LineData). l.blocks) c.self.view_is in
    let here : c.args.line * (c.self.inside.blocks * 8) ≡ c.args.line * c.self.inside.blocks * 8 =
    omega arith in
    let line : c.args.line < c.self.inside.lines = rw lines_are c.requires.line in
    let position : c.args.position < c.self.inside.blocks * 512 = rw blocks_are c.requires.position in
    set_shown
    (record { lines = c.self.inside.lines; blocks = c.self.inside.blocks; words = c.self.inside.words.items })
    lines positions shown (subst (λ (l : LineData). Shows l lines positions shown) (sym c.self.view_is) shows)
    c.args.line c.args.position c.with_bit.result place c.args.free
    line position c.self.invariant
    (ap (λ (n : ℕ). n + c.args.position / 64) (sym here))
    (λ j h. c.with_bit.ensures j h
    ∙ ap (λ (n : ℕ). if nat_eq j (c.args.position % 64) then c.args.free else is_set n j)
    (c.index.ensures ∙ get_or_default c.self.inside.words.items place c.index.result.now 0
    (rw (← here) (place_below c.self.inside.lines c.self.inside.blocks c.args.line c.args.position
    c.self.inside.words.items c.self.invariant line position))))
