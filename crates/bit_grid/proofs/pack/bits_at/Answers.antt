use Rattle.std.proofs.Common.{◌≡◌, ℕ, ◌+◌, ◌-◌, ◌<◌, arith, ap, ◌∙◌, nat_eq, bit_and, take, drop}
use Rattle.std.proofs.Common.{slice_index_or, ◌*◌, ◌^◌, ◌%◌}
use Rattle.std.proofs.lemmas.List.{get_or-drop, get_or-take}
use Rattle.std.proofs.lemmas.Simd.{get_or-chunk}
use Rattle.bit_grid.proofs.Lanes.{byte_test}
use Rattle.bit_grid.proofs.pack.bits_at.Goals as goal

pub returns : goal.returns
returns c = λ j h.
    let below : 0 + j < c.args.first + 64 - c.args.first = omega arith in
    let at : c.args.first + (0 + j) ≡ c.args.first + j = omega arith in
    c.lanes_with.ensures j h
    ∙ ap (λ (b : ℕ). nat_eq (bit_and b (1 * 2 ^ c.args.place % 256)) (1 * 2 ^ c.args.place % 256))
    (get_or-chunk 0 64 (take (c.args.first + 64 - c.args.first) (drop c.args.first c.args.bytes.now)) j 0 h
    ∙ get_or-take (c.args.first + 64 - c.args.first) (drop c.args.first c.args.bytes.now) (0 + j) 0 below
    ∙ get_or-drop c.args.first c.args.bytes.now (0 + j) 0
    ∙ ap (λ (p : ℕ). slice_index_or c.args.bytes.now p 0) at)
    ∙ byte_test (slice_index_or c.args.bytes.now (c.args.first + j) 0) c.args.place c.requires.place
