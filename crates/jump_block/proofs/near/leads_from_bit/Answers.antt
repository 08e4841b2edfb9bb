use Rattle.std.proofs.Common.{◌≡◌, ℕ, ◌&&◌, ap, sym, subst, ◌∙◌}
use Rattle.grid_moves.specs.Move.{is_passable}
use Rattle.grid_moves.specs.Bits.{is_set}
use Rattle.jump_block.specs.declared.word.Way.{Way}
use Rattle.jump_block.specs.Near.{HasNextBit, next_bit, side_word}
use Rattle.jump_block.specs.declared.straight.Axis.TheVariants.{Column}
use Rattle.jump_block.specs.Source.{way_on}
use Rattle.jump_block.proofs.Around.{bits_lead}
use Rattle.jump_block.proofs.near.leads_from_bit.Goals as goal

pub returns : goal.returns
returns c =
    let side = c.side_word-side.ensures ∙ ap (λ (w : Way). side_word w c.args.words) c.way_on.ensures in
    subst (λ (v : Way). c.is_set.result ≡ (is_set (side_word (way_on Column c.args.d) c.args.words)
    (next_bit v c.args.place) && is_passable c.args.rule
    (is_set (side_word (way_on Column c.args.d) c.args.words) c.args.place)
    (is_set c.args.words.middle (next_bit v c.args.place)))) c.way_on-way.ensures
    (subst (λ (s : ℕ). c.is_set.result ≡ (is_set s (next_bit c.way_on-way.result c.args.place)
    && is_passable c.args.rule (is_set s c.args.place)
    (is_set c.args.words.middle (next_bit c.way_on-way.result c.args.place)))) side
    (bits_lead c.args.rule c.way_on-way.result c.args.place c.args.words.middle c.side_word-side.result
    c.drawn_back.result c.passable_bits-passes.result c.drawn_back-2.result c.is_set.result c.requires.small
    (subst (λ (v : Way). HasNextBit v c.args.place) (sym c.way_on-way.ensures) c.requires.more)
    c.drawn_back.ensures c.passable_bits-passes.ensures c.drawn_back-2.ensures c.is_set.ensures))
