-- Counts of rows.
use Rattle.std.proofs.Common.{◌≡◌, refl, sym, ap, ◌∙◌, List, [], ◌∷◌, ℕ, ◌+◌, ◌≤◌, Bool, true, false, ◌||◌}
use Rattle.std.proofs.Common.{arith, if◌then◌else◌}
use Rattle.std.specs.Prelude.{cond}
use Rattle.std.specs.List.{count_by, list_all}
use Rattle.std.proofs.lemmas.List.Sums.{sum_by-cons}
use Rattle.root2_cost.specs.declared.lengths.Verdict.TheVariants.{Agree, Near, Off}
use Rattle.jps_run.specs.declared.replies.row.Row.{Row}
use Rattle.jps_run.specs.declared.replies.row.Row.TheVariants as row
use Rattle.jps_run.specs.declared.replies.row.Tally.{Tally}
use Rattle.jps_run.specs.Rows.{is_agree, is_near, is_off, is_other, scen_status}
use Rattle.jps_run.specs.Tally.{tally_of}

-- the row is agree or near
abbrev pub is_right : Row → Bool
is_right r = is_agree r || is_near r

module _ (p : Row → Bool) (r : Row) (rows : List Row) where
  first-counted : count_by p (r ∷ rows) ≡ (if p r then 1 else 0) + count_by p rows
  first-counted = sum_by-cons (λ x. cond (p x) 1 0) r rows

  -- a row that counts leaves no count of 0
  counts : {X : Type 0} → p r ≡ true → count_by p (r ∷ rows) ≡ 0 → X
  counts y n =
      let weight : Bool → ℕ = λ b. if b then 1 else 0 in
      let one : weight (p r) ≡ 1 = ap weight y in
      let first : count_by p (r ∷ rows) ≡ weight (p r) + count_by p rows = first-counted in
      absurd (omega arith)

  -- one that does not changes no count
  counts-not : p r ≡ false → count_by p (r ∷ rows) ≡ count_by p rows
  counts-not y =
      let weight : Bool → ℕ = λ b. if b then 1 else 0 in
      let none : weight (p r) ≡ 0 = ap weight y in
      let first : count_by p (r ∷ rows) ≡ weight (p r) + count_by p rows = first-counted in
      omega arith

-- with no row that is off and none without a verdict, each is agree or near
pub all_right : (rows : List Row) → count_by is_off rows ≡ 0 → count_by is_other rows ≡ 0
    → list_all is_right rows ≡ true
all_right [] f o = refl
all_right (row.Scale ∷ rows) f o = counts is_other row.Scale rows refl o
all_right (row.Outside ∷ rows) f o = counts is_other row.Outside rows refl o
all_right (row.Blocked ∷ rows) f o = counts is_other row.Blocked rows refl o
all_right (row.None taken ∷ rows) f o = counts is_other (row.None taken) rows refl o
all_right (row.Judged Agree cost taken ∷ rows) f o =
    all_right rows (sym (counts-not is_off (row.Judged Agree cost taken) rows refl) ∙ f)
    (sym (counts-not is_other (row.Judged Agree cost taken) rows refl) ∙ o)
all_right (row.Judged Near cost taken ∷ rows) f o =
    all_right rows (sym (counts-not is_off (row.Judged Near cost taken) rows refl) ∙ f)
    (sym (counts-not is_other (row.Judged Near cost taken) rows refl) ∙ o)
all_right (row.Judged Off cost taken ∷ rows) f o = counts is_off (row.Judged Off cost taken) rows refl f

-- and with one of them some row is neither
pub some_wrong : (rows : List Row) → list_all is_right rows ≡ true
    → (count_by is_off rows ≡ 0) × (count_by is_other rows ≡ 0)
some_wrong [] h = (refl, refl)
some_wrong (row.Scale ∷ rows) h = absurd (cc)
some_wrong (row.Outside ∷ rows) h = absurd (cc)
some_wrong (row.Blocked ∷ rows) h = absurd (cc)
some_wrong (row.None taken ∷ rows) h = absurd (cc)
some_wrong (row.Judged Agree cost taken ∷ rows) h =
    let none = some_wrong rows h in (
      counts-not is_off (row.Judged Agree cost taken) rows refl
          ∙ none.0,
      counts-not is_other (row.Judged Agree cost taken) rows refl ∙ none.1,
    )
some_wrong (row.Judged Near cost taken ∷ rows) h =
    let none = some_wrong rows h in (
      counts-not is_off (row.Judged Near cost taken) rows refl
          ∙ none.0,
      counts-not is_other (row.Judged Near cost taken) rows refl ∙ none.1,
    )
some_wrong (row.Judged Off cost taken ∷ rows) h = absurd (cc)

-- so the status follows from the counts
pub status_right : (t : Tally) (rows : List Row) → t ≡ tally_of rows → t.off ≡ 0 → t.other ≡ 0
    → 0 ≡ scen_status rows
status_right t rows e f o =
    let no_off : count_by is_off rows ≡ 0 = ap (λ (u : Tally). u.off) (sym e) ∙ f in
    let no_other : count_by is_other rows ≡ 0 = ap (λ (u : Tally). u.other) (sym e) ∙ o in
    let right : list_all is_right rows ≡ true = all_right rows no_off no_other in
    ap (λ (b : Bool). if b then 0 else 1) (sym right)

pub status_wrong : (t : Tally) (rows : List Row) → t ≡ tally_of rows → (t.off ≡ 0 → t.other ≡ 0 → ⊥)
    → 1 ≡ scen_status rows
status_wrong t rows e h = by_test (list_all is_right rows) refl
  where
    by_test : (b : Bool) → list_all is_right rows ≡ b → 1 ≡ scen_status rows
    by_test true r =
        let none = some_wrong rows r in
        absurd (h (ap (λ (u : Tally). u.off) e ∙ none.0) (ap (λ (u : Tally). u.other) e ∙ none.1))
    by_test false r = ap (λ (b : Bool). if b then 0 else 1) (sym r)

-- the status of rows is 0 or 1
pub small_status : (rows : List Row) → scen_status rows ≤ 1
small_status rows = by_test (list_all is_right rows)
  where
    by_test : (b : Bool) → (if b then 0 else 1) ≤ 1
    by_test true = omega arith
    by_test false = omega arith
