-- One row more is counted.
use Rattle.std.proofs.Common.{◌≡◌, ◌∙◌, subst, ap, sym, ℕ, ◌+◌, ◌*◌, ◌^◌, ◌<◌, ◌≤◌, Bool, true, false, arith}
use Rattle.std.proofs.Common.{List, [], ◌∷◌, ◌++◌, length, length-append, refl}
use Rattle.std.specs.Prelude.{cond}
use Rattle.std.specs.List.{count_by, sum_by}
use Rattle.std.proofs.lemmas.List.Sums.{sum_by-append, sum_by-cons}
use Rattle.jps_run.specs.Judging.{counts_of}
use Rattle.jps_run.specs.Rows.{is_agree, is_near, is_off, is_other, states_in}
use Rattle.jps_run.specs.Rulings.{is_accepted, is_refused, is_unjudged}
use Rattle.jps_run.specs.Tally.{tally_of}
use Rattle.jps_run.specs.declared.replies.row.Row.{Row}
use Rattle.jps_run.specs.declared.replies.row.Tally.{Tally}
use Rattle.jps_run.specs.declared.replies.ruling.Counts.{Counts}
use Rattle.jps_run.specs.declared.replies.ruling.Ruling.{Ruling}

-- a count goes up by one, or stays
abbrev pub raised : Bool → ℕ → ℕ
raised true n = n + 1
raised false n = n

raised-so : (b : Bool) (n : ℕ) → n + (cond b 1 0 + 0) ≡ raised b n
raised-so true n = omega arith
raised-so false n = omega arith

module _ {X : Type 0} (xs : List X) (x : X) where
  sum-more : (f : X → ℕ) → sum_by f (xs ++ x ∷ []) ≡ sum_by f xs + (f x + 0)
  sum-more f = sum_by-append f xs (x ∷ []) ∙ ap (λ n. sum_by f xs + n) (sum_by-cons f x [])

  count-more : (p : X → Bool) → raised (p x) (count_by p xs) ≡ count_by p (xs ++ x ∷ [])
  count-more p = sym (sum-more (λ y. cond (p y) 1 0) ∙ raised-so (p x) (count_by p xs))

  length-more : length xs + 1 ≡ length (xs ++ x ∷ [])
  length-more = sym (length-append xs (x ∷ []))

-- a scenario's rows
abbrev pub tally_with : Tally → Row → ℕ → Tally
tally_with t r taken = record {
  rows = t.rows + 1;
  agree = raised (is_agree r) t.agree;
  near = raised (is_near r) t.near;
  off = raised (is_off r) t.off;
  other = raised (is_other r) t.other;
  taken = t.taken + taken;
}

same_tally : {a b c d e f t u v w x y : ℕ} → a ≡ t → b ≡ u → c ≡ v → d ≡ w → e ≡ x → f ≡ y
    → let s : Tally = record { rows = a; agree = b; near = c; off = d; other = e; taken = f } in
    let k : Tally = record { rows = t; agree = u; near = v; off = w; other = x; taken = y } in
    s ≡ k
same_tally h i j k l m = rw (h, i, j, k, l, m) refl

pub tally-more : (t : Tally) (rows : List Row) (r made : Row) (taken : ℕ) → r ≡ made → taken ≡ states_in r
    → t ≡ tally_of rows → tally_with t made taken ≡ tally_of (rows ++ r ∷ [])
tally-more t rows r made taken is f e =
    let start = tally_of rows in
    subst (λ (u : Tally). tally_with u made taken ≡ tally_of (rows ++ r ∷ [])) (sym e)
    (subst (λ (k : Row). tally_with start k taken ≡ tally_of (rows ++ r ∷ [])) is
    (same_tally (length-more rows r) (count-more rows r is_agree) (count-more rows r is_near)
    (count-more rows r is_off) (count-more rows r is_other) (taken-more rows r f)))
  where
    taken-more : (rows : List Row) (r : Row) → taken ≡ states_in r
        → sum_by states_in rows + taken ≡ sum_by states_in (rows ++ r ∷ [])
    taken-more rows r f =
        let more : sum_by states_in (rows ++ r ∷ []) ≡ sum_by states_in rows + (states_in r + 0) =
        sum-more rows r states_in in
        omega arith

-- and they stay small
pub small-more : (taken more rows : ℕ) → taken ≤ rows * 2 ^ 64 → more < 2 ^ 64
    → taken + more ≤ (rows + 1) * 2 ^ 64
small-more taken more rows small few = omega arith

-- rows of claimed walks
abbrev pub counts_with : Counts → Ruling → Counts
counts_with c r = record {
  rows = c.rows + 1;
  accepted = raised (is_accepted r) c.accepted;
  refused = raised (is_refused r) c.refused;
  other = raised (is_unjudged r) c.other;
}

same_counts : {a b c d t u v w : ℕ} → a ≡ t → b ≡ u → c ≡ v → d ≡ w
    → let s : Counts = record { rows = a; accepted = b; refused = c; other = d } in
    let k : Counts = record { rows = t; accepted = u; refused = v; other = w } in
    s ≡ k
same_counts h i j k = rw (h, i, j, k) refl

pub counts-more : (c : Counts) (all : List Ruling) (r made : Ruling) → r ≡ made → c ≡ counts_of all
    → counts_with c made ≡ counts_of (all ++ r ∷ [])
counts-more c all r made is e =
    let start = counts_of all in
    subst (λ (u : Counts). counts_with u made ≡ counts_of (all ++ r ∷ [])) (sym e)
    (subst (λ (k : Ruling). counts_with start k ≡ counts_of (all ++ r ∷ [])) is
    (same_counts (length-more all r) (count-more all r is_accepted) (count-more all r is_refused)
    (count-more all r is_unjudged)))
