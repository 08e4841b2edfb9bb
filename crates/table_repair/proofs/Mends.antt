-- What is kept as entries are made right, one after the other.
use Rattle.std.proofs.lemmas.Bool.Decides.{nat_tests}
use Rattle.std.proofs.Common.{◌≡◌, ℕ, ◌+◌, ◌≤◌, inl, inr, refl, ◌∙◌, arith, Bool, true, false}
use Rattle.grid_moves.specs.declared.Cell.{Cell}
use Rattle.grid_moves.specs.declared.Dir.{Dir}
use Rattle.grid_moves.specs.Grid.{GridData, is_inside}
use Rattle.pruning.specs.Turns.{turn}
use Rattle.plus_tables.specs.Tables.{TablesData, AreSized, is_on}
use Rattle.table_repair.specs.Mending.{IsRight, AreRight, AreReady, IsMended, Mends, FollowBut}

pub on_inside : (t : TablesData) (h : GridData) → AreSized t h → (u : Cell) → is_inside h u ≡ true
    → is_on t u ≡ true
on_inside t h s u i = rw (s.width, s.height) i

module _ {h : GridData} {d : Dir} {starts : Cell → Bool} where
  -- what was right stays right
  pub right_stays : {old new : TablesData} {n : ℕ} → Mends h d starts old new n → (u : Cell) (e : Dir)
      → is_inside h u ≡ true → IsRight h old u e → IsRight h new u e
  right_stays p u e i j = grind (arith, nat_tests)

  pub all_stay : {old new : TablesData} {n : ℕ} → Mends h d starts old new n → (e : Dir)
      → AreRight h old e → AreRight h new e
  all_stay m e r u i = right_stays m u e i (r u i)

  pub ready_stays : {old new : TablesData} {n : ℕ} → Mends h d starts old new n → AreReady h old d
      → AreReady h new d
  ready_stays m r = record {
    grid = r.grid;
    sized = record {
      width = m.width ∙ r.sized.width;
      height = m.height ∙ r.sized.height;
      corner = m.corner ∙ r.sized.corner;
    };
    whole = record {
      sides = rw (m.width, m.height) r.whole.sides;
      whole = rw (m.width, m.height) (m.length_kept ∙ r.whole.whole);
    };
    beside = λ k s. all_stay m (turn s d) (r.beside k s);
  }

-- an entry that was made right, and still is, given more cells to start from and more changes
pub still_mended : {h : GridData} {d : Dir} {few more : Cell → Bool} {old new : TablesData} {m n : ℕ}
    {u : Cell}
    → ((w : Cell) → few w ≡ true → more w ≡ true) → IsRight h new u d → m ≤ n → IsMended h old d few m u
    → IsMended h new d more n u
still_mended h i j k = grind (arith, nat_tests)

-- nothing is changed
pub nothing_mended : (h : GridData) (d : Dir) (starts : Cell → Bool) (t : TablesData) → Mends h d starts t t 0
nothing_mended h d starts t = record {
  width = refl;
  height = refl;
  corner = refl;
  length_kept = refl;
  others = λ u e k l. refl;
  along = λ u k. inl refl;
  count = λ r w a. omega arith;
}

-- first these, and then those, which begin at cells that the first reached
pub mends_then : {h : GridData} {d : Dir} {starts piece : Cell → Bool} {s t u : TablesData} {m n : ℕ}
    → Mends h d starts s t m → Mends h d piece t u n
    → ((v : Cell) → IsMended h u d piece n v → IsMended h u d starts (m + n) v)
    → Mends h d starts s u (m + n)
mends_then {m = m} {n = n} a b reached = record {
  width = b.width ∙ a.width;
  height = b.height ∙ a.height;
  corner = b.corner ∙ a.corner;
  length_kept = b.length_kept ∙ a.length_kept;
  others = λ v e k i. b.others v e k i ∙ a.others v e k i;
  along = λ v i. elim (b.along v i) [
    | inr k ↦ inr (reached v k)
    | inl e ↦ elim (a.along v i) [
      | inl f ↦ inl (e ∙ f)
      | inr k ↦ inr (still_mended (λ w j. j) (e ∙ k.right) (omega arith) k)
    ]
  ];
  count = λ r w k. omega (arith, a.count r w k, b.count r w k);
}

pub mends_both : {h : GridData} {d : Dir} {starts : Cell → Bool} {s t u : TablesData} {m n : ℕ}
    → Mends h d starts s t m → Mends h d starts t u n → Mends h d starts s u (m + n)
mends_both a b = grind (arith, nat_tests)

-- the same, given more cells to start from
pub mends_wider : {h : GridData} {d : Dir} {few more : Cell → Bool}
    → ((w : Cell) → few w ≡ true → more w ≡ true) → {old new : TablesData} {n : ℕ}
    → Mends h d few old new n → Mends h d more old new n
mends_wider h i = grind (arith, nat_tests)

-- fewer or more cells that wait
pub follow_more : {h : GridData} {t : TablesData} {d : Dir} {few more : Cell → Bool}
    → ((w : Cell) → more w ≡ false → few w ≡ false) → FollowBut h t d few → FollowBut h t d more
follow_more h i = grind (arith, nat_tests)
