use Rattle.std.proofs.Common.{◌≡◌, ℕ, ◌+◌, ◌-◌, ◌*◌, arith, refl, ap, ◌∙◌, List, slice_index_or}
use Rattle.std.proofs.lemmas.List.{get_or_default}
use Rattle.bit_grid.specs.Bits.{LineData}
use Rattle.bit_grid.proofs.Showing.{word_inside, word_shown, place_before, place_after}
use Rattle.bit_grid.proofs.lines.Lines.three.Goals as goal

pub returns-clause-middle : goal.returns-clause-middle
returns-clause-middle g c = λ lines positions free shows j h.
    let last = c.requires.last in
    let blocks : c.self.inside.blocks ≡ c.args.self.now.blocks =
    ap (λ (l : LineData). l.blocks) c.self.view_is in
    let count : c.self.inside.lines ≡ c.args.self.now.lines =
    ap (λ (l : LineData). l.lines) c.self.view_is in
    let words : c.self.inside.words.items ≡ c.args.self.now.words =
    ap (λ (l : LineData). l.words) c.self.view_is in
    let at : c.args.line * (c.self.inside.blocks * 8) + c.args.word ≡ c.args.line * (c.self.inside.blocks * 8)
    + c.args.word =
    refl in
    let inside = word_inside c.self.inside.lines c.self.inside.blocks (c.args.line) c.args.word
    c.self.inside.words.items c.self.invariant (omega (arith, last, count)) (rw blocks c.requires.word) in
    word_shown c.args.self.now lines positions free shows (c.args.line) c.args.word
    (c.args.line * (c.self.inside.blocks * 8) + c.args.word) c.index.result.now j
    (omega (arith, last)) c.requires.word h (at ∙ rw blocks refl)
    (c.index.ensures ∙ get_or_default c.self.inside.words.items
    (c.args.line * (c.self.inside.blocks * 8) + c.args.word) c.index.result.now 0 (rw at inside)
    ∙ ap (λ (ws : List ℕ). slice_index_or ws (c.args.line * (c.self.inside.blocks * 8) + c.args.word) 0)
    words)

pub returns-clause-before : goal.returns-clause-before
returns-clause-before g c = λ lines positions free shows j h.
    let last = c.requires.last in
    let blocks : c.self.inside.blocks ≡ c.args.self.now.blocks =
    ap (λ (l : LineData). l.blocks) c.self.view_is in
    let count : c.self.inside.lines ≡ c.args.self.now.lines =
    ap (λ (l : LineData). l.lines) c.self.view_is in
    let words : c.self.inside.words.items ≡ c.args.self.now.words =
    ap (λ (l : LineData). l.words) c.self.view_is in
    let at : c.args.line * (c.self.inside.blocks * 8) + c.args.word - c.self.inside.blocks * 8
    ≡ (c.args.line - 1) * (c.self.inside.blocks * 8) + c.args.word =
    place_before c.args.line (c.self.inside.blocks * 8) c.args.word c.requires.first in
    let inside = word_inside c.self.inside.lines c.self.inside.blocks (c.args.line - 1) c.args.word
    c.self.inside.words.items c.self.invariant (omega (arith, last, count)) (rw blocks c.requires.word) in
    word_shown c.args.self.now lines positions free shows (c.args.line - 1) c.args.word
    (c.args.line * (c.self.inside.blocks * 8) + c.args.word - c.self.inside.blocks * 8) c.index-2.result.now j
    (omega (arith, last)) c.requires.word h (at ∙ rw blocks refl)
    (c.index-2.ensures ∙ get_or_default c.self.inside.words.items (c.args.line * (c.self.inside.blocks * 8)
    + c.args.word - c.self.inside.blocks * 8) c.index-2.result.now 0 (rw at inside)
    ∙ ap (λ (ws : List ℕ). slice_index_or ws (c.args.line * (c.self.inside.blocks * 8) + c.args.word
    - c.self.inside.blocks * 8) 0) words)

pub returns-clause-after : goal.returns-clause-after
returns-clause-after g c = λ lines positions free shows j h.
    let last = c.requires.last in
    let blocks : c.self.inside.blocks ≡ c.args.self.now.blocks =
    ap (λ (l : LineData). l.blocks) c.self.view_is in
    let count : c.self.inside.lines ≡ c.args.self.now.lines =
    ap (λ (l : LineData). l.lines) c.self.view_is in
    let words : c.self.inside.words.items ≡ c.args.self.now.words =
    ap (λ (l : LineData). l.words) c.self.view_is in
    let at : c.args.line * (c.self.inside.blocks * 8) + c.args.word + c.self.inside.blocks * 8
    ≡ (c.args.line + 1) * (c.self.inside.blocks * 8) + c.args.word =
    place_after c.args.line (c.self.inside.blocks * 8) c.args.word in
    let inside = word_inside c.self.inside.lines c.self.inside.blocks (c.args.line + 1) c.args.word
    c.self.inside.words.items c.self.invariant (omega (arith, last, count)) (rw blocks c.requires.word) in
    word_shown c.args.self.now lines positions free shows (c.args.line + 1) c.args.word
    (c.args.line * (c.self.inside.blocks * 8) + c.args.word + c.self.inside.blocks * 8) c.index-3.result.now j
    (omega (arith, last)) c.requires.word h (at ∙ rw blocks refl)
    (c.index-3.ensures ∙ get_or_default c.self.inside.words.items (c.args.line * (c.self.inside.blocks * 8)
    + c.args.word + c.self.inside.blocks * 8) c.index-3.result.now 0 (rw at inside)
    ∙ ap (λ (ws : List ℕ). slice_index_or ws (c.args.line * (c.self.inside.blocks * 8) + c.args.word
    + c.self.inside.blocks * 8) 0) words)
