-- Sweeps for directions of one kind, one after the other.
use Rattle.std.proofs.lemmas.Bool.Decides.{nat_tests}
use Rattle.std.proofs.Common.{◌≡◌, ℕ, ◌+◌, ◌⊎◌, inl, inr, arith, Bool, true, false, ◌∙◌}
use Rattle.std.proofs.lemmas.Bool.{cases_Bool}
use Rattle.grid_moves.specs.declared.Cell.{Cell}
use Rattle.grid_moves.specs.declared.Dir.{Dir}
use Rattle.grid_moves.specs.Grid.{GridData, is_inside}
use Rattle.grid_moves.specs.Move.{is_dir}
use Rattle.pruning.proofs.Table.{same_dir}
use Rattle.plus_tables.specs.Tables.{TablesData, entry_at}
use Rattle.table_repair.specs.Mending.{AreRight, AreSound, FollowBut, IsMended, Mends, MendsKind}
use Rattle.table_repair.proofs.Mends.{still_mended}
use Rattle.table_repair.proofs.Lines.{right_ahead}

pub sound_stays : {h : GridData} {d : Dir} {starts : Cell → Bool} {old new : TablesData} {n : ℕ}
    → Mends h d starts old new n → AreSound h old → AreSound h new
sound_stays h i = grind (arith, nat_tests)

-- a direction is another one
apart : (kind : Dir → Bool) (d e : Dir) → kind d ≡ true → kind e ≡ false → is_dir e d ≡ false
apart kind d e h i = grind (arith, nat_tests)

module _ {h : GridData} {kind : Dir → Bool} {starts : Cell → Bool} where
  -- one direction more
  pub kind_more : {s t u : TablesData} {m n : ℕ} {d : Dir} → kind d ≡ true → MendsKind h kind starts s t m
      → Mends h d starts t u n → MendsKind h kind starts s u (m + n)
  kind_more {s = s} {t = t} {u = u} {m = m} {n = n} {d = d} of_kind a b = record {
    sound = sound_stays b a.sound;
    others = λ v e k i. b.others v e (apart kind d e of_kind k) i ∙ a.others v e k i;
    along = along;
    count = λ r w k. omega (arith, a.count r w k, b.count r w k);
  }
    where
      before : (v : Cell) (e : Dir) → kind e ≡ true → is_inside h v ≡ true
          → entry_at u v e ≡ entry_at t v e
          → (entry_at u v e ≡ entry_at s v e) ⊎ IsMended h u e starts (m + n) v
      before v e k i same = elim (a.along v e k i) [
        | inl f ↦ inl (same ∙ f)
        | inr l ↦ inr (still_mended (λ w j. j) (same ∙ l.right) (omega arith) l)
      ]

      along : (v : Cell) (e : Dir) → kind e ≡ true → is_inside h v ≡ true
          → (entry_at u v e ≡ entry_at s v e) ⊎ IsMended h u e starts (m + n) v
      along v e k i = elim (cases_Bool (is_dir e d)) [
        | inr j ↦ before v e k i (b.others v e j i)
        | inl j ↦
            let same = same_dir e d j in
            elim (b.along v i) [
              | inl f ↦ before v e k i (rw same f)
              | inr l ↦ rw same (inr (still_mended (λ w j. j) l.right (omega arith) l))
            ]
      ]

-- where no cell waits all entries are right
pub none_waits : (h : GridData) (t : TablesData) (d : Dir) (waits : Cell → Bool)
    → ((w : Cell) → waits w ≡ false) → FollowBut h t d waits → AreRight h t d
none_waits h t d waits none f u i = right_ahead h t d waits f u i (λ w k r. none w)

-- where all are right any cell may wait
pub right_follows : (h : GridData) (t : TablesData) (d : Dir) (waits : Cell → Bool) → AreRight h t d
    → FollowBut h t d waits
right_follows h t d waits r = record { next = λ u v i e j w s. r u i; last = λ u i l. r u i }

-- entries for other directions follow as before
pub follow_stays : (h : GridData) (old new : TablesData) (d : Dir) (waits : Cell → Bool)
    → ((u : Cell) → is_inside h u ≡ true → entry_at new u d ≡ entry_at old u d) → FollowBut h old d waits
    → FollowBut h new d waits
follow_stays h old new d waits same f = grind arith
