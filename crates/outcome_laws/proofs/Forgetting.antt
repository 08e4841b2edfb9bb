-- Rows that are the same but for their counts of taken states print the same, where these are not shown.
use Rattle.std.proofs.Common.{◌≡◌, refl, sym, ap, ◌∙◌, List, [], ◌∷◌, ◌++◌, map, ℕ, ◌+◌, length, Bool, ◌||◌}
use Rattle.std.specs.Prelude.{◌≢◌, codes, decimal, cond, if◌then◌else◌}
use Rattle.std.specs.List.{count_by, list_all, sum_by}
use Rattle.std.proofs.lemmas.List.{length-map}
use Rattle.std.proofs.lemmas.List.Sums.{sum_by-cons}
use Rattle.root2_cost.specs.declared.lengths.Verdict.TheVariants.{Agree, Near}
use Rattle.word_list.specs.declared.request.Show.{Show}
use Rattle.word_list.specs.declared.request.Show.TheVariants.{Taken}
use Rattle.jps_run.specs.Rows.{count_text, is_agree, is_near, is_off, is_other, row_line, row_lines, row_text}
use Rattle.jps_run.specs.Rows.{scen_lines, scen_status, states_in, sum_line, verdict_text}
use Rattle.jps_run.specs.declared.replies.row.Row.{Row}
use Rattle.jps_run.specs.declared.replies.row.Row.TheVariants as row
use Rattle.outcome_laws.specs.Forgetting.{DifferInTaken, without_taken}

-- the rows without their counts
abbrev bare : List Row → List Row
bare rows = map without_taken rows

-- a number of rows is counted the same
module _ (p : Row → Bool) (same : (r : Row) → p r ≡ p (without_taken r)) where
  count-bare : (rows : List Row) → count_by p rows ≡ count_by p (bare rows)
  count-bare [] = refl
  count-bare (r ∷ rows) =
      sum_by-cons (λ x. cond (p x) 1 0) r rows
      ∙ ap (λ (b : Bool). cond b 1 0 + count_by p rows) (same r)
      ∙ ap (λ (n : ℕ). cond (p (without_taken r)) 1 0 + n) (count-bare rows)
      ∙ sym (sum_by-cons (λ x. cond (p x) 1 0) (without_taken r) (bare rows))

agree-bare : (r : Row) → is_agree r ≡ is_agree (without_taken r)
agree-bare (row.Judged Agree cost taken) = refl
agree-bare r = refl

near-bare : (r : Row) → is_near r ≡ is_near (without_taken r)
near-bare (row.Judged Agree cost taken) = refl
near-bare r = refl

off-bare : (r : Row) → is_off r ≡ is_off (without_taken r)
off-bare (row.Judged Agree cost taken) = refl
off-bare r = refl

other-bare : (r : Row) → is_other r ≡ is_other (without_taken r)
other-bare row.Scale = refl
other-bare r = refl

-- the row is agree or near
abbrev is_right : Row → Bool
is_right r = is_agree r || is_near r

all-bare : (rows : List Row) → list_all is_right rows ≡ list_all is_right (bare rows)
all-bare [] = refl
all-bare (row.Judged Agree cost taken ∷ rows) = all-bare rows
all-bare (row.Judged Near cost taken ∷ rows) = all-bare rows
all-bare (r ∷ rows) = refl

-- the status is that of the bare rows
status-bare : (rows : List Row) → scen_status rows ≡ scen_status (bare rows)
status-bare rows = ap (λ (b : Bool). if b then 0 else 1) (all-bare rows)

-- the last line, by the counts
sum_of : ℕ → ℕ → ℕ → ℕ → ℕ → List ℕ → List ℕ
sum_of rows agree near off other taken =
    codes "sum " ++ decimal rows
    ++ codes " agree " ++ decimal agree
    ++ codes " near " ++ decimal near
    ++ (codes " off " ++ decimal off
    ++ codes " other " ++ decimal other
    ++ taken
    ++ codes "\n")

same_sum : (rows agree near off other k l m n o : ℕ) (taken also : List ℕ) → rows ≡ k → agree ≡ l → near ≡ m
    → off ≡ n → other ≡ o → taken ≡ also
    → sum_of rows agree near off other taken ≡ sum_of k l m n o also
same_sum rows agree near off other k l m n o taken also a b c d e f = rw (a, b, c, d, e, f) refl

sum_line-of : (show : Show) (rows : List Row) → sum_line show rows
    ≡ sum_of (length rows) (count_by is_agree rows) (count_by is_near rows) (count_by is_off rows)
    (count_by is_other rows) (count_text show (sum_by states_in rows))
unfolding sum_of
sum_line-of show rows = refl

module _ (show : Show) (hidden : show ≢ Taken) where
  -- no count is shown
  no_count : (n : ℕ) → count_text show n ≡ []
  no_count = by_show show hidden
    where
      by_show : (s : Show) → s ≢ Taken → (n : ℕ) → count_text s n ≡ []
      by_show Taken h n = absurd (h refl)
      by_show s h n = refl

  text-bare : (r : Row) → row_text show r ≡ row_text show (without_taken r)
  text-bare (row.None taken) =
      ap (λ (end : List ℕ). codes "none" ++ end) (no_count taken ∙ sym (no_count 0))
  text-bare (row.Judged verdict cost taken) =
      ap (λ (end : List ℕ). verdict_text verdict ++ codes " " ++ decimal cost.a ++ codes " "
      ++ decimal cost.b ++ end)
      (no_count taken ∙ sym (no_count 0))
  text-bare r = refl

  lines-bare : (number : ℕ) (rows : List Row) → row_lines show number rows ≡ row_lines show number (bare rows)
  lines-bare number [] = refl
  lines-bare number (r ∷ rows) =
      ap (λ (text : List ℕ). (codes "row " ++ decimal number ++ codes " " ++ text ++ codes "\n")
      ∷ row_lines show (number + 1) rows) (text-bare r)
      ∙ ap (λ (lines : List (List ℕ)). row_line show number (without_taken r) ∷ lines)
      (lines-bare (number + 1) rows)

  sum-bare : (rows : List Row) → sum_line show rows ≡ sum_line show (bare rows)
  sum-bare rows =
      sum_line-of show rows
      ∙ same_sum (length rows) (count_by is_agree rows) (count_by is_near rows) (count_by is_off rows)
      (count_by is_other rows) (length (bare rows)) (count_by is_agree (bare rows))
      (count_by is_near (bare rows)) (count_by is_off (bare rows)) (count_by is_other (bare rows))
      (count_text show (sum_by states_in rows)) (count_text show (sum_by states_in (bare rows)))
      (sym (length-map rows without_taken)) (count-bare is_agree agree-bare rows)
      (count-bare is_near near-bare rows) (count-bare is_off off-bare rows)
      (count-bare is_other other-bare rows)
      (no_count (sum_by states_in rows) ∙ sym (no_count (sum_by states_in (bare rows))))
      ∙ sym (sum_line-of show (bare rows))

  -- the lines are those of the bare rows
  scen-bare : (rows : List Row) → scen_lines show rows ≡ scen_lines show (bare rows)
  scen-bare rows =
      ap (λ (lines : List (List ℕ)). lines ++ sum_line show rows ∷ []) (lines-bare 1 rows)
      ∙ ap (λ (line : List ℕ). row_lines show 1 (bare rows) ++ line ∷ []) (sum-bare rows)

pub differ_in_taken : (rows others : List Row) → map without_taken rows ≡ map without_taken others
    → DifferInTaken rows others
differ_in_taken rows others same = record {
  same = same;
  lines = λ show hidden.
      scen-bare show hidden rows ∙ ap (λ (rs : List Row). scen_lines show rs) same
      ∙ sym (scen-bare show hidden others);
  status = status-bare rows ∙ ap (λ (rs : List Row). scen_status rs) same ∙ sym (status-bare others);
}
