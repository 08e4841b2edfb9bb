use Rattle.std.proofs.Common.{◌≡◌, ℕ, suc, slice_index_or, ◌+◌, ◌*◌, ◌<◌, List, length, ap, ◌∙◌, arith}
use Rattle.grid_moves.specs.Grid.{GridData}
use Rattle.bit_grid.specs.Pack.{is_free_in}
use Rattle.bit_grid.proofs.Packing.{flags_none, top_blocked, end_blocked, zeros_bordered, packed_lines}
use Rattle.bit_grid.proofs.Packing.{packed_none, lines_more}
use Rattle.bit_grid.proofs.pack.words_on.Goals as goal

pub loop-y-init : goal.loop-y-init
loop-y-init c =
    let grid : GridData = c.args.grid.now in
    let same = c.as_mut_slice-flags.ensures.value in
    let room : length c.as_mut_slice-flags.result.now ≡ c.args.per_line * 64 =
    rw same c.in_ok-flags.ensures.as_many in
    let zeros : (p : ℕ) → p < c.args.per_line * 64 → slice_index_or c.as_mut_slice-flags.result.now p 0 ≡ 0 =
    rw same c.in_ok-flags.ensures.zeros in
    let empty = c.in_ok-words.ensures.items in
    let nothing : length c.in_ok-words.words.items ≡ 0 = ap (λ (ws : List ℕ). length ws) empty in
    let none : length c.in_ok-words.words.items ≡ 0 * c.args.per_line = omega (arith, nothing) in
    record {
      room = room;
      border = zeros_bordered grid c.as_mut_slice-flags.result.now (c.args.per_line * 64) room
          (omega arith) zeros;
      long = let more = c.in_ok-push_line.ensures.long in omega (arith, more, none);
      shown = c.in_ok-push_line.ensures.shown (is_free_in grid) 0 none
          (flags_none grid 0 c.as_mut_slice-flags.result.now (c.args.per_line * 64) zeros (top_blocked grid))
          (packed_none (is_free_in grid) c.args.per_line _ empty);
    }

pub loop-y-preserved : goal.loop-y-preserved
loop-y-preserved c =
    let grid : GridData = c.args.grid.now in
    let next : suc c.loop-y.y ≡ c.loop-y.y + 1 = omega arith in
    let room = c.read_row.ensures.long ∙ c.loop-y.invariant.room in
    let so_far = c.loop-y.invariant.long in
    record {
      room = room;
      border = c.read_row.ensures.border;
      long = let more = c.in_ok-push_line-2.ensures.long in omega (arith, more, so_far);
      shown = c.in_ok-push_line-2.ensures.shown (is_free_in grid) (c.loop-y.y + 1) so_far
          (λ p h. c.read_row.ensures.flags p (rw room h) ∙ ap (λ (n : ℕ). is_free_in grid n p) next)
          c.loop-y.invariant.shown;
    }

pub returns-clause-shown : goal.returns-clause-shown
returns-clause-shown c =
    let grid : GridData = c.args.grid.now in
    let so_far : length c.loop-y.words.items ≡ (c.loop-y.y + 1) * c.args.per_line = c.loop-y.invariant.long in
    let more : length c.push_line-2.new.words.items ≡ length c.loop-y.words.items + c.args.per_line =
    c.in_ok-push_line-3.ensures.long in
    let high : c.height-height.result ≡ grid.height = c.height-height.ensures.is in
    let last : c.loop-y.y ≡ grid.height = omega (arith, high) in
    let all : length c.push_line-2.new.words.items ≡ (grid.height + 2) * c.args.per_line =
    more ∙ ap (λ (n : ℕ). n + c.args.per_line) so_far
    ∙ lines_more c.loop-y.y grid.height c.args.per_line last in
    let zeros : (p : ℕ) → p < c.args.per_line * 64 → slice_index_or c.deref.result.now p 0 ≡ 0 =
    rw c.deref.ensures.value c.in_ok-border.ensures.zeros in
    packed_lines (is_free_in grid) (grid.height + 2) c.args.per_line c.push_line-2.new.words.items all
    (c.in_ok-push_line-3.ensures.shown (is_free_in grid) (c.loop-y.y + 1) so_far
    (flags_none grid (c.loop-y.y + 1) c.deref.result.now (c.args.per_line * 64) zeros
    (λ p. end_blocked grid (c.loop-y.y + 1) p (omega (arith, last)))) c.loop-y.invariant.shown)
