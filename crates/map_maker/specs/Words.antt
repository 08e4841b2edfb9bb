-- The words of a seed.
use Rattle.std.specs.Prelude.{ℕ, zero, suc, List, [], ◌∷◌}
use Rattle.rand_core.specs.Pcg32Seed.{pcg32_seed}
use Rattle.rand_pcg.specs.Lcg.{Lcg}
use Rattle.rand_pcg.specs.Pcg.{pcg32, pcg32_of_seed}

-- the generator of a seed, as `seed_from_u64` makes it
abbrev pub generator_of : ℕ → Lcg
generator_of seed = pcg32_of_seed (pcg32_seed 16 seed)

-- the next n words of a generator
unfoldable pub words_from : ℕ → Lcg → List ℕ
words_from zero g = []
words_from (suc n) g = (pcg32 g).0 ∷ words_from n (pcg32 g).1

-- the generator after these words
unfoldable pub after_words : ℕ → Lcg → Lcg
after_words zero g = g
after_words (suc n) g = after_words n (pcg32 g).1

-- the first n words of a seed
abbrev pub words_of : ℕ → ℕ → List ℕ
words_of seed n = words_from n (generator_of seed)
