-- Worked rows, by computing.
use Rattle.std.specs.Prelude.{◌≡◌, ◌%◌, ◌/◌, ◌^◌, [], ◌∷◌, ◌++◌, codes, bit_xor, refl}
use Rattle.rand_core.specs.Pcg32Seed.{pcg32_seed}
use Rattle.rand_core.specs.Steps.{u32_at, word_bytes}
use Rattle.rand_pcg.specs.Lcg.{started, increment_of}
use Rattle.rand_pcg.specs.Pcg.{multiplier_64}
use Rattle.script_text.specs.declared.command.ScriptCommand.TheVariants.{Block, Free, Query}
use Rattle.map_maker.specs.Words.{words_from, words_of}
use Rattle.map_maker.specs.Making.{made_map}
use Rattle.map_maker.specs.Drill.{commands_of}

-- the words that PCG's own code prints for state 42 and stream 54
pub reference_words : words_from 6 (started 64 multiplier_64 42 (increment_of 64 54)) ≡
    0xa15c02b7 ∷ 0x7b47f409 ∷ 0xba1d3330 ∷ 0x83d2f293 ∷ 0xbfa4784b ∷ 0xcbed606e ∷ []
unfolding words_from
reference_words = refl

-- the number that rand_pcg's own test draws from seed 0 is 18195738587432868099, its low half first
pub seeded_words : words_of 0 2 ≡ 18195738587432868099 % 2 ^ 32 ∷ 18195738587432868099 / 2 ^ 32 ∷ []
unfolding words_from pcg32_seed u32_at word_bytes
seeded_words = refl

-- a map that a program of its own made, after PCG's paper
pub made_of_seven : made_map 7 8 4 40 ≡ record {
  width = 8;
  height = 4;
  cells = codes "@@.@...." ++ codes "..@..@@." ++ codes ".@.@.@.." ++ codes ".@.@....";
}
unfolding words_from pcg32_seed u32_at word_bytes
made_of_seven = refl

-- the first commands of the drill of seed 1, by that program
pub drilled_of_one : commands_of 1 6 (words_of (bit_xor 1 1) 22) ≡
    Query 3 215 211 62 ∷ Query 155 133 142 14 ∷ Free 192 62 ∷
    Query 156 165 238 174 ∷ Query 33 161 18 99 ∷ Block 6 15 ∷ []
unfolding words_from pcg32_seed u32_at word_bytes commands_of
drilled_of_one = refl
