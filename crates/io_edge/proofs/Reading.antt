-- How the front of a buffer fills with the bytes that are held.
use Rattle.std.proofs.Common.{◌≡◌, ℕ, ◌+◌, ◌≤◌, List, ◌++◌, Ok, length, take, drop}
use Rattle.std.proofs.Common.{arith, ap, sym, ◌∙◌, take-add}
use Rattle.std.specs.Prelude.{⊤}
use Rattle.std.proofs.lemmas.Grind.{common_steps}
use Rattle.io_edge.specs.declared.outside.Failed.{Failed}
use Rattle.io_edge.specs.Known.{Held, unknown, absent, holding, ReadsAt}

-- the first n bytes of the buffer are the first n that are held
abbrev pub HasRead : Held → ℕ → List ℕ → Type 0
HasRead unknown n buf = ⊤
HasRead absent n buf = n ≡ 0
HasRead (holding bytes) n buf = (take n buf ≡ take n bytes) × (n ≤ length bytes)

-- a read behind the first n bytes adds its own
pub HasRead-more : (held : Held) (n more : ℕ) (before now : List ℕ)
    → HasRead held n before → take n now ≡ take n before
    → ReadsAt {E = Failed} held n (Ok more) (drop n now) → HasRead held (n + more) now
HasRead-more unknown n more before now read kept part = tt
HasRead-more absent n more before now read kept part = absurd part
HasRead-more (holding bytes) n more before now read kept part =
    let fronts = ap (λ front. front ++ take more (drop n now)) (kept ∙ read.0) in
    let backs = ap (λ back. take n bytes ++ back) part.same in (
      take-add n more now ∙ fronts ∙ backs ∙ sym (take-add n more bytes),
      grind (arith, common_steps, part.within),
    )
