-- The cells around a cell, read from bits of three rows.
use Rattle.std.proofs.lemmas.Bool.Decides.{nat_tests}
use Rattle.std.proofs.lemmas.Grind.{common_steps}
use Rattle.std.proofs.Common.{◌≡◌, ℕ, zero, suc, ◌+◌, ◌*◌, ◌/◌, ◌%◌, ◌^◌, ◌<◌, arith, Bool, true, ◌&&◌, ap}
use Rattle.std.proofs.Common.{refl, sym, ◌∙◌}
use Rattle.std.specs.Prelude.{nat_eq}
use Rattle.grid_moves.specs.declared.Cell.{Cell}
use Rattle.grid_moves.specs.declared.Corner.{Corner}
use Rattle.grid_moves.specs.declared.Dir.{Dir}
use Rattle.grid_moves.specs.declared.Dir.TheVariants.{N, NE, E, SE, S, SW, W, NW}
use Rattle.grid_moves.specs.Grid.{GridData, is_free}
use Rattle.grid_moves.specs.Move.{is_open, is_passable}
use Rattle.grid_moves.specs.Ring.{is_free_on}
use Rattle.grid_moves.specs.Bits.{is_set}
use Rattle.pruning.specs.declared.turns.Side.TheVariants.{Right, Left}
use Rattle.pruning.specs.Turns.{turn, is_diagonal}
use Rattle.pruning.specs.Allowed.{can_move}
use Rattle.pruning.specs.Eight.{ring_of}
use Rattle.pruning.proofs.Moves.{can_move-diagonal}
use Rattle.jump_block.specs.Near.{AreThree}
use Rattle.jump_block.specs.declared.straight.Axis.TheVariants.{Row}
use Rattle.jump_block.specs.Source.{by_line}
use Rattle.jump_block.proofs.Directions.{is_open_there}

pub three_of : (f : ℕ → Bool) (first word inner lowest : ℕ) (a b c : Bool)
    → a ≡ f first → b ≡ f (first + 1) → c ≡ f (first + 2)
    → is_set word 0 ≡ a → ((j : ℕ) → suc j < 64 → is_set word (suc j) ≡ is_set inner j)
    → is_set inner 0 ≡ b → ((j : ℕ) → suc j < 64 → is_set inner (suc j) ≡ is_set lowest j)
    → is_set lowest 0 ≡ c → (j : ℕ) → j < 3 → is_set word j ≡ f (first + j)
three_of f first word inner lowest a b c e g h k l m n o zero i = grind (arith, nat_tests, common_steps)
three_of f first word inner lowest a b c e g h k l m n o (suc zero) i =
    l 0 (omega arith) ∙ m ∙ g
three_of f first word inner lowest a b c e g h k l m n o (suc (suc zero)) i =
    l 1 (omega arith) ∙ n 0 (omega arith) ∙ o ∙ h
three_of f first word inner lowest a b c e g h k l m n o (suc (suc (suc j))) i =
    absurd (omega arith)

-- three bits that lie in one word
pub three_in_word : (f : ℕ → Bool) (first word bits : ℕ) → first % 64 < 62
    → ((j : ℕ) → j < 64 → is_set word j ≡ f (first / 64 * 64 + j))
    → ((j : ℕ) → is_set bits j ≡ is_set word (first % 64 + j)) → (j : ℕ) → j < 3
    → is_set bits j ≡ f (first + j)
three_in_word f first word bits few there from j i =
    let place : first / 64 * 64 + (first % 64 + j) ≡ first + j = omega arith in
    from j ∙ there (first % 64 + j) (omega arith) ∙ ap f place

pub three_at : (f : ℕ → ℕ → Bool) (line first line' first' word : ℕ) → line ≡ line' → first ≡ first'
    → AreThree f line first word → AreThree f line' first' word
three_at f line first line' first' word e h three = grind (arith, nat_tests, common_steps)

-- the eight bits that are taken from three words
module _ (above middle below eight : ℕ)
    (is : eight ≡ above % 8 + middle % 2 * 8 + middle / 4 % 2 * 16 + below % 8 * 32) where
  -- each of them is a bit of a word
  bit : (word j place : ℕ) → eight / 2 ^ place % 2 ≡ word / 2 ^ j % 2 → is_set eight place ≡ is_set word j
  bit word j place same = ap (λ (n : ℕ). nat_eq n 1) same

  -- the cells around a cell are the middle bit's neighbours
  pub eight_read : (g : GridData) (x : Cell)
      → AreThree (by_line g Row) x.y x.x above → AreThree (by_line g Row) (x.y + 1) x.x middle
      → AreThree (by_line g Row) (x.y + 2) x.x below
      → (d : Dir) → is_free_on (ring_of eight) d ≡ is_open g x d
  eight_read g x a m b N = bit above 1 1 (omega (arith, is)) ∙ a 1 (omega arith)
      ∙ is_open_there g N x.x x.y _ _ (omega arith) (omega arith)
  eight_read g x a m b NE = bit above 2 2 (omega (arith, is)) ∙ a 2 (omega arith)
      ∙ is_open_there g NE x.x x.y _ _ (omega arith) (omega arith)
  eight_read g x a m b E = bit middle 2 4 (omega (arith, is)) ∙ m 2 (omega arith)
      ∙ is_open_there g E x.x x.y _ _ (omega arith) (omega arith)
  eight_read g x a m b SE = bit below 2 7 (omega (arith, is)) ∙ b 2 (omega arith)
      ∙ is_open_there g SE x.x x.y _ _ (omega arith) (omega arith)
  eight_read g x a m b S = bit below 1 6 (omega (arith, is)) ∙ b 1 (omega arith)
      ∙ is_open_there g S x.x x.y _ _ (omega arith) (omega arith)
  eight_read g x a m b SW = bit below 0 5 (omega (arith, is)) ∙ b 0 (omega arith)
      ∙ is_open_there g SW x.x x.y _ _ (omega arith) (omega arith)
  eight_read g x a m b W = bit middle 0 3 (omega (arith, is)) ∙ m 0 (omega arith)
      ∙ is_open_there g W x.x x.y _ _ (omega arith) (omega arith)
  eight_read g x a m b NW = bit above 0 0 (omega (arith, is)) ∙ a 0 (omega arith)
      ∙ is_open_there g NW x.x x.y _ _ (omega arith) (omega arith)

-- a diagonal move is known by three cells
pub leads_by : (g : GridData) (x : Cell) (d : Dir) → is_free g x ≡ true → is_diagonal d ≡ true
    → (rule : Corner) → rule ≡ g.corner → (ahead left right passes both : Bool)
    → ahead ≡ is_open g x d → left ≡ is_open g x (turn Left d) → right ≡ is_open g x (turn Right d)
    → passes ≡ is_passable rule left right → both ≡ (ahead && passes) → both ≡ can_move g x d
leads_by g x d free diagonal rule same ahead left right passes both a l r q b =
    b ∙ rw (a, q, l, r, same) refl ∙ sym (can_move-diagonal g x d free diagonal)
