-- What is drawn, word by word.
use Rattle.std.proofs.lemmas.Bool.Decides.{nat_tests}
use Rattle.std.proofs.Common.{◌≡◌, ℕ, zero, suc, ◌+◌, ◌-◌, ◌*◌, ◌%◌, ◌<◌, ◌≤◌, true, eqb, List, []}
use Rattle.std.proofs.Common.{◌∷◌, ◌++◌, map, length, drop, refl, ap, sym, ◌∙◌, inl, inr, arith}
use Rattle.std.proofs.lemmas.Bool.{cases_Bool}
use Rattle.std.proofs.lemmas.List.{append_assoc, append-nil, length-map}
use Rattle.std.specs.List.{list_all}
use Rattle.rand_pcg.specs.Lcg.{Lcg}
use Rattle.rand_pcg.specs.Pcg.{pcg32}
use Rattle.script_text.specs.declared.command.ScriptCommand.{ScriptCommand}
use Rattle.map_text.specs.Map.{IsMap, is_terrain}
use Rattle.map_maker.specs.Words.{generator_of, words_from, after_words}
use Rattle.map_maker.specs.Making.{cell_of}
use Rattle.map_maker.specs.Drill.{command_of, commands_of, words_in}
use Rattle.map_maker.specs.Drawing.{AreKinds, cell_by, words_needed, Draws}

-- the cells drawn and those of the words left are the cells of all words
pub record AreCells (cell : ℕ → ℕ) (count : ℕ) (start : Lcg) (done : ℕ) (cells : List ℕ) (g : Lcg)
    : Type 0 where
  pub all : cells ++ map cell (words_from (count - done) g) ≡ map cell (words_from count start)

module _ (cell : ℕ → ℕ) (count : ℕ) (start : Lcg) where
  module _ (done : ℕ) (cells : List ℕ) (g : Lcg) (are : AreCells cell count start done cells g) where
    pub cell_more : done < count
        → AreCells cell count start (done + 1) (cells ++ cell (pcg32 g).0 ∷ []) (pcg32 g).1
    unfolding words_from
    cell_more more =
        let some : count - done ≡ suc (count - (done + 1)) = omega arith in
        let left = map cell (words_from (count - (done + 1)) (pcg32 g).1) in
        record {
          all = append_assoc cells (cell (pcg32 g).0 ∷ []) left
              ∙ ap (λ (n : ℕ). cells ++ map cell (words_from n g)) (sym some) ∙ are.all;
        }

    pub cells_all : count ≤ done → cells ≡ map cell (words_from count start)
    unfolding words_from
    cells_all end = grind (arith, nat_tests, append-nil)

-- cells that are looked up are those of their words
cell_by_kinds : (percent : ℕ) (kinds : List ℕ) → AreKinds percent kinds → (words : List ℕ)
    → map (cell_by kinds) words ≡ map (cell_of percent) words
cell_by_kinds percent kinds h words = grind (arith, nat_tests)

-- the words after some words
words_later : (n m : ℕ) (g : Lcg) → drop n (words_from (n + m) g) ≡ words_from m (after_words n g)
unfolding words_from after_words
words_later zero m g = ap (λ (k : ℕ). words_from k g) (omega arith)
words_later (suc n) m g =
    let next : suc n + m ≡ suc (n + m) = omega arith in
    rw next (words_later n m (pcg32 g).1)

-- a command does not depend on the words after its own
own_words : (number m : ℕ) (g : Lcg) → command_of number (words_from (words_in number + m) g) ≡
    command_of number (words_from (words_in number) g)
unfolding words_from
own_words number m g =
    let three : 3 + m ≡ suc (suc (suc m)) = omega arith in
    let four : 4 + m ≡ suc (suc (suc (suc m))) = omega arith in
    elim (cases_Bool (eqb (number % 3) 0)) [
      | inl edit ↦ rw (edit, three) refl
      | inr query ↦ rw (query, four) refl
    ]

-- so many commands of the words that they need
pub drawn_from : ℕ → ℕ → Lcg → List ScriptCommand
drawn_from number count g = commands_of number count (words_from (words_needed number count) g)

-- the commands drawn and those of the words left are the commands of all words
pub record AreCommands (count : ℕ) (start : Lcg) (done : ℕ) (commands : List ScriptCommand) (g : Lcg)
    : Type 0 where
  pub all : commands ++ drawn_from (done + 1) (count - done) g ≡ drawn_from 1 count start

module _ (count : ℕ) (start : Lcg) where
  module _ (done : ℕ) (commands : List ScriptCommand) (g : Lcg)
      (are : AreCommands count start done commands g) where
    pub command_more : (command : ScriptCommand) (new : Lcg) → Draws (done + 1) g command new → done < count
        → AreCommands count start (done + 1) (commands ++ command ∷ []) new
    unfolding drawn_from commands_of words_needed
    command_more command new draws more =
        let some : count - done ≡ suc (count - (done + 1)) = omega arith in
        let left = count - (done + 1) in
        let needed = words_needed (done + 1 + 1) left in
        let words = words_from (words_in (done + 1) + needed) g in
        let made : command ≡ command_of (done + 1) words =
        draws.made ∙ sym (own_words (done + 1) needed g) in
        let others : words_from needed new ≡ drop (words_in (done + 1)) words =
        ap (words_from needed) draws.left ∙ sym (words_later (words_in (done + 1)) needed g) in
        record {
          all = append_assoc commands (command ∷ []) (drawn_from (done + 1 + 1) left new)
              ∙ ap (λ (first : ScriptCommand). commands ++ first ∷ drawn_from (done + 1 + 1) left new) made
              ∙ ap (λ (rest : List ℕ). commands ++ command_of (done + 1) words ∷
              commands_of (done + 1 + 1) left rest) others
              ∙ ap (λ (n : ℕ). commands ++ drawn_from (done + 1) n g) (sym some) ∙ are.all;
        }

    pub commands_all : count ≤ done → commands ≡ commands_of 1 count (words_from (words_needed 1 count) start)
    unfolding drawn_from commands_of
    commands_all end = grind (arith, nat_tests, append-nil, drawn_from)

-- so many words make a map
terrain_of : (percent word : ℕ) → is_terrain (cell_of percent word) ≡ true
terrain_of percent word = grind (arith, nat_tests)

all_terrain : (percent n : ℕ) (g : Lcg) → list_all is_terrain (map (cell_of percent) (words_from n g)) ≡ true
unfolding words_from
all_terrain percent zero g = refl
all_terrain percent (suc n) g = rw (terrain_of percent (pcg32 g).0) (all_terrain percent n (pcg32 g).1)

pub length-words_from : (n : ℕ) (g : Lcg) → length (words_from n g) ≡ n
unfolding words_from
length-words_from zero g = refl
length-words_from (suc n) g = ap suc (length-words_from n (pcg32 g).1)

-- what is looked up for each cell of a map
pub record AreMade (seed w h percent : ℕ) (cells : List ℕ) : Type 0 where
  pub made : cells ≡ map (cell_of percent) (words_from (h * w) (generator_of seed))
  pub is_map : IsMap w h cells

pub cells_made : (seed w h percent : ℕ) (kinds cells : List ℕ) (g : Lcg) → (1 ≤ w) × (w ≤ 4096)
    → (1 ≤ h) × (h ≤ 4096) → AreKinds percent kinds → g ≡ generator_of seed
    → cells ≡ map (cell_by kinds) (words_from (h * w) g) → AreMade seed w h percent cells
cells_made seed w h percent kinds cells g width height are start drawn =
    let words = words_from (h * w) (generator_of seed) in
    let made = drawn ∙ ap (λ (s : Lcg). map (cell_by kinds) (words_from (h * w) s)) start
    ∙ cell_by_kinds percent kinds are words in
    record {
      made = made;
      is_map = record {
        wide = width.0;
        narrow = width.1;
        high = height.0;
        low = height.1;
        whole = ap length made ∙ length-map words (cell_of percent)
            ∙ length-words_from (h * w) (generator_of seed);
        terrain = ap (list_all is_terrain) made ∙ all_terrain percent (h * w) (generator_of seed);
      };
    }

-- a word is drawn, and then the others
module _ (n : ℕ) (g : Lcg) {a : Lcg} {w : ℕ} (first : (w, a) ≡ pcg32 g) where
  one_after : after_words (suc n) g ≡ after_words n a
  unfolding after_words
  one_after = ap (λ (drawn : ℕ × Lcg). after_words n drawn.1) (sym first)

module _ (g : Lcg) {a b c d : Lcg} {w x y z : ℕ} (first : (w, a) ≡ pcg32 g)
    (second : (x, b) ≡ pcg32 a) (third : (y, c) ≡ pcg32 b) (fourth : (z, d) ≡ pcg32 c) where
  pub four_words : words_from 4 g ≡ w ∷ x ∷ y ∷ z ∷ []
  unfolding words_from
  four_words = grind (arith, nat_tests)

  pub four_after : d ≡ after_words 4 g
  unfolding after_words
  four_after = sym (one_after 3 g first ∙ one_after 2 a second ∙ one_after 1 b third ∙ one_after 0 c fourth)
