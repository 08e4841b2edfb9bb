use Rattle.std.proofs.Common.{arith}
use Rattle.std.proofs.lemmas.Bool.Decides.{nat_tests}
use Rattle.std.proofs.Common.{◌≡◌, ℕ, ap}
use Rattle.rand_pcg.specs.Lcg.{Lcg}
use Rattle.rand_pcg.specs.Pcg.{pcg32}
use Rattle.map_maker.specs.Drawing.{cell_by}
use Rattle.map_maker.proofs.Drawn.{cell_more, cells_all}
use Rattle.map_maker.proofs.making.draw_cells.Goals as goal

pub loop-done-preserved : goal.loop-done-preserved
loop-done-preserved c =
    let word : c.next_word-word.result ≡ (pcg32 c.loop-done.generator).0 =
    ap (λ (drawn : ℕ × Lcg). drawn.0) c.next_word-word.ensures in
    let left : c.next_word-word.new.self ≡ (pcg32 c.loop-done.generator).1 =
    ap (λ (drawn : ℕ × Lcg). drawn.1) c.next_word-word.ensures in
    rw (c.in_ok-push.ensures.items, word, left)
    (cell_more (cell_by c.args.kinds.now) c.args.count c.args.generator.now c.loop-done._done
    c.loop-done.cells.items c.loop-done.generator c.loop-done.invariant c.loop-done-test.true)

pub returns : goal.returns
returns c = grind (arith, nat_tests, cells_all)
