-- Passes over the directions of one kind.
use Rattle.std.proofs.Common.{◌≡◌, ℕ, zero, suc, ◌+◌, ◌*◌, ◌<◌, ◌≤◌, ◌⊎◌, inl, inr, arith, Bool, true, false}
use Rattle.std.proofs.Common.{refl, ap, ◌∙◌, ◌||◌, List, [], ◌∷◌, length, take, get_or}
use Rattle.std.specs.Prelude.{not}
use Rattle.std.proofs.lemmas.Bool.{cases_Bool, or_parts, or_right}
use Rattle.std.proofs.lemmas.Bool.Decides.{nat_tests}
use Rattle.grid_moves.specs.declared.Cell.{Cell}
use Rattle.grid_moves.specs.declared.Dir.{Dir}
use Rattle.grid_moves.specs.Grid.{GridData}
use Rattle.grid_moves.specs.Move.{is_dir}
use Rattle.pruning.specs.declared.turns.Side.{Side}
use Rattle.pruning.specs.Turns.{turn, is_diagonal}
use Rattle.pruning.proofs.Table.{same_dir, turn_parity}
use Rattle.plus_tables.specs.Tables.{TablesData}
use Rattle.table_repair.specs.Mending.{AreRight, AreReady, AreSound, CanSweep, FollowBut, Mends, MendsKind}
use Rattle.table_repair.specs.Mending.{Sweeps, is_listed, is_straight}
use Rattle.table_repair.proofs.Mends.{all_stay, follow_more}
use Rattle.table_repair.proofs.Directions.{kind_more, none_waits, right_follows, follow_stays}

itself : (d : Dir) → is_dir d d ≡ true
itself d = grind (arith, nat_tests)

-- of these directions the entries are right, and of each of the kind they follow
pub record Passed (h : GridData) (kind : Dir → Bool) (starts : Cell → Bool) (waits : Dir → Cell → Bool)
    (done : Dir → Bool) (old now : TablesData) (n : ℕ) : Type 0 where
  pub mends : MendsKind h kind starts old now n
  pub right : (d : Dir) → done d ≡ true → AreRight h now d
  pub follows : (d : Dir) → kind d ≡ true → FollowBut h now d (waits d)

module _ {h : GridData} {kind : Dir → Bool} {starts : Cell → Bool} (waits : Dir → Cell → Bool) where
  pub passed_more : {done more : Dir → Bool} {old now new : TablesData} {m n : ℕ} {d : Dir}
      → Passed h kind starts waits done old now m → kind d ≡ true → Mends h d starts now new n
      → AreRight h new d
      → ((e : Dir) → more e ≡ true → (is_dir e d ≡ true) ⊎ (done e ≡ true))
      → Passed h kind starts waits more old new (m + n)
  passed_more {now = now} {new = new} {d = d} passed of_kind mends right split = record {
    mends = kind_more of_kind passed.mends mends;
    right = λ e k. elim (split e k) [
      | inl s ↦ (let same = same_dir e d s in rw same right)
      | inr l ↦ all_stay mends e (passed.right e l)
    ];
    follows = λ e k. elim (cases_Bool (is_dir e d)) [
      | inl s ↦ (let same = same_dir e d s in right_follows h new e (waits e) (rw same right))
      | inr s ↦ follow_stays h now new e (waits e) (λ u i. mends.others u e s i) (passed.follows e k)
    ];
  }

-- lists of directions
pub listed_at : (dirs : List Dir) (i : ℕ) (x : Dir) → i < length dirs
    → is_listed dirs (get_or dirs i x) ≡ true
listed_at [] i x l = absurd (omega arith)
listed_at (e ∷ es) zero x l = rw (itself e) refl
listed_at (e ∷ es) (suc i) x l = or_right _ _ (listed_at es i x (omega arith))

pub listed_take : (dirs : List Dir) (i : ℕ) (x e : Dir) → i < length dirs
    → is_listed (take (suc i) dirs) e ≡ true
    → (is_dir e (get_or dirs i x) ≡ true) ⊎ (is_listed (take i dirs) e ≡ true)
listed_take [] i x e l k = absurd (omega arith)
listed_take (d ∷ ds) zero x e l k = grind arith
listed_take (d ∷ ds) (suc i) x e l k = by_test (is_dir e d) refl (λ r. listed_take ds i x e (omega arith) r) k
  where
    by_test : (b : Bool) → is_dir e d ≡ b
        → (is_listed (take (suc i) ds) e ≡ true
        → (is_dir e (get_or ds i x) ≡ true) ⊎ (is_listed (take i ds) e ≡ true))
        → (b || is_listed (take (suc i) ds) e) ≡ true
        → (is_dir e (get_or ds i x) ≡ true) ⊎ ((is_dir e d || is_listed (take i ds) e) ≡ true)
    by_test b p i j = grind (arith, nat_tests)

-- what a sweep for a direction asks, and what it gives
pub straight_ready : {h : GridData} {t : TablesData} {d : Dir} → AreSound h t → is_straight d ≡ true
    → AreReady h t d
straight_ready h i = grind (arith, nat_tests)

-- other directions being right, a diagonal one can be refreshed
pub diagonal_ready : {h : GridData} {starts : Cell → Bool} {old now : TablesData} {n : ℕ} {d : Dir}
    → MendsKind h is_diagonal starts old now n → ((e : Dir) → is_straight e ≡ true → AreRight h old e)
    → is_diagonal d ≡ true → AreReady h now d
diagonal_ready {h = h} {now = now} {d = d} mends right k = record {
  grid = mends.sound.grid;
  sized = mends.sound.sized;
  whole = mends.sound.whole;
  beside = λ l s u i. mends.others u (turn s d) (turned s) i ∙ right (turn s d) (rw (turned s) refl) u i;
}
  where
    turned : (s : Side) → is_diagonal (turn s d) ≡ false
    turned s = turn_parity s d ∙ ap not k

pub nothing_later : {h : GridData} {t : TablesData} {d : Dir} {here : Cell → Bool} → FollowBut h t d here
    → CanSweep h t d here
nothing_later {here = here} f = record {
  later = λ w. false;
  follow = follow_more (λ w k. (or_parts (here w) false k).0) f;
  none_ahead = λ v w k i r. refl;
}

pub swept_right : {h : GridData} {t new : TablesData} {d : Dir} {here : Cell → Bool} → FollowBut h t d here
    → Sweeps h d here t new → AreRight h new d
unfolding nothing_later
swept_right {h = h} {new = new} {d = d} f sweeps =
    none_waits h new d (λ w. false) (λ w. refl) (sweeps (λ w. false) (nothing_later f).follow)

-- after the last direction
pub listed_all : (dirs : List Dir) (i : ℕ) (d : Dir) → length dirs ≤ i → is_listed dirs d ≡ true
    → is_listed (take i dirs) d ≡ true
listed_all [] i d l k = absurd (cc)
listed_all (e ∷ es) zero d l k = absurd (omega arith)
listed_all (e ∷ es) (suc i) d l k = by_test (is_dir d e) (λ r. listed_all es i d (omega arith) r) k
  where
    by_test : (b : Bool) → (is_listed es d ≡ true → is_listed (take i es) d ≡ true)
        → (b || is_listed es d) ≡ true → (b || is_listed (take i es) d) ≡ true
    by_test b p i = grind (arith, nat_tests)

pub counted_pass : (start steps now changed one i cells : ℕ) → steps ≤ start + changed + i * cells
    → now ≤ steps + one + cells → now ≤ start + (changed + one) + (i + 1) * cells
counted_pass start steps now changed one i cells e f = omega arith
