use Rattle.std.proofs.Common.{◌≡◌, ◌∙◌, ◌-◌, ◌≤◌, sym, subst, inl, inr, ℕ, suc, length, List, arith}
use Rattle.std.specs.Prelude.{Some, slice_get, slice_index_or}
use Rattle.std.proofs.lemmas.Option.{slice_get-get_or}
use Rattle.best_first.specs.declared.index.Record.{Record}
use Rattle.best_first.proofs.Records.{Follows, follows-head, entry_none, entry_here, follows-next}
use Rattle.best_first.proofs.index.entry_of.Goals as goal

-- the record before an entry that is none
abbrev at_entry : List Record → ℕ → Record
at_entry records at = slice_index_or records (at - 1) (record { tag = 0; earlier = 0 })

before_entry : (records : List Record) (at : ℕ) → (at ≡ 0 → ⊥) → at ≤ length records
    → slice_get records (at - 1) ≡ Some (at_entry records at)
before_entry records at n w =
    slice_get-get_or records (at - 1) (record { tag = 0; earlier = 0 }) (omega (arith, n, w))

one_more : (at : ℕ) → (at ≡ 0 → ⊥) → at ≡ suc (at - 1)
one_more at n = omega (arith, n)

pub returns-then-head-records : goal.returns-then-head-records
returns-then-head-records c =
    sym (entry_none c.args.records.now c.args.tag c.args.head
    (follows-head c.args.records.now c.args.tag c.args.head c.requires.head)
    (inr (omega (arith, c.if-head-records.true))))

pub returns-then-record-tag : goal.returns-then-record-tag
returns-then-record-tag c =
    let records = c.args.records.now in
    let at = c.loop-at.at in
    let here = one_more at c.loop-at-test.true in
    here ∙ sym (entry_here records c.args.tag c.requires.linked (at - 1) (at_entry records at)
    (before_entry records at c.loop-at-test.true c.loop-at.invariant.within)
    (subst (λ (e : ℕ). Follows records c.args.tag e) here c.loop-at.invariant.follows)
    c.if-record-tag.true)

pub loop-at-smaller : goal.loop-at-smaller
loop-at-smaller c =
    let records = c.args.records.now in
    let at = c.loop-at.at in
    let e = c.requires.linked.earlier (at - 1) (at_entry records at)
    (before_entry records at c.loop-at-test.true c.loop-at.invariant.within) in
    let n = c.loop-at-test.true in
    omega (arith, e, n)

pub loop-at-preserved : goal.loop-at-preserved
loop-at-preserved c =
    let records = c.args.records.now in
    let at = c.loop-at.at in
    let read = before_entry records at c.loop-at-test.true c.loop-at.invariant.within in
    let e = c.requires.linked.earlier (at - 1) (at_entry records at) read in
    let w = c.loop-at.invariant.within in
    record {
      follows = follows-next records c.args.tag c.requires.linked (at - 1) (at_entry records at) read
          (subst (λ (k : ℕ). Follows records c.args.tag k) (one_more at c.loop-at-test.true)
          c.loop-at.invariant.follows) c.if-record-tag.false;
      within = omega (arith, e, w);
    }

pub returns : goal.returns
returns c = sym (entry_none c.args.records.now c.args.tag c.loop-at.at c.loop-at.invariant.follows
    (inl c.loop-at-test.false))
