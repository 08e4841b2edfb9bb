use Rattle.std.proofs.Common.{◌≡◌, ℕ, ◌+◌, ◌*◌, List, [], ◌∷◌, ◌++◌, length, length-append, ap, sym, subst}
use Rattle.std.proofs.Common.{arith, ◌∙◌}
use Rattle.bit_grid.specs.Turn.{ArePackedSoFar}
use Rattle.bit_grid.proofs.Packing.{packed_further}
use Rattle.bit_grid.proofs.pack.push_line.Goals as goal

pub loop-w-preserved : goal.loop-w-preserved
loop-w-preserved c =
    let items : c.push.new.self.items ≡ c.loop-w.words.items ++ c.bits_at.result ∷ [] =
    c.in_ok-push.ensures.items in
    let so_far = c.loop-w.invariant.long in
    record {
      long = let more = length-append c.loop-w.words.items (c.bits_at.result ∷ []) in
          let sum : length c.push.new.self.items ≡ length c.loop-w.words.items + 1 =
          ap (λ (ws : List ℕ). length ws) items ∙ more in
          omega (arith, so_far, sum);
      shown = λ free line long strip before.
          subst (λ (ws : List ℕ). ArePackedSoFar free c.args.per_line ws) (sym items)
          (packed_further free c.args.per_line line c.loop-w.w c.bits_at.result c.loop-w.words.items
          (so_far ∙ ap (λ (n : ℕ). n + c.loop-w.w) long) c.loop-w-test.true
          (λ j h. c.bits_at.ensures j h ∙ strip (c.loop-w.w * 64 + j) (omega arith))
          (c.loop-w.invariant.shown free line long strip before));
    }
