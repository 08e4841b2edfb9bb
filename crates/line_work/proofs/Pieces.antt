-- Lines that go out in pieces.
use Rattle.std.proofs.lemmas.Bool.Decides.{nat_tests}
use Rattle.std.proofs.Common.{◌≡◌, refl, sym, ap, ◌∙◌, subst, List, [], ◌∷◌, ◌++◌, append_assoc, ℕ, suc, ◌+◌}
use Rattle.std.proofs.Common.{◌<◌, ◌≤◌, ◌⊎◌, inl, inr, length, take, arith, length-append}
use Rattle.std.specs.Prelude.{◌≢◌, Option}
use Rattle.std.specs.List.{concat}
use Rattle.std.specs.Io.KnownBytes.{Appends}
use Rattle.std.proofs.lemmas.List.{append-nil, take-append-le}
use Rattle.std.proofs.lemmas.List.Folds.{concat-append}
use Rattle.io_edge.specs.Causes.{Rose}
use Rattle.io_edge.specs.Whole.{AppendsSome}
use Rattle.io_edge.specs.Known.{Outflow}
use Rattle.line_work.specs.Sending.{Wrote, WroteSome, AreSent, IsPart, AreLines}
use Rattle.line_work.specs.Working.{Completes}

-- nothing was written
pub nothing : (written : Option (List ℕ)) → Appends written written []
nothing written = grind (arith, nat_tests, append-nil)

-- what was written, and then more
pub appends-both : (a b c : Option (List ℕ)) (x y : List ℕ) → Appends a b x → Appends b c y
    → Appends a c (x ++ y)
appends-both a b c x y h i = grind (arith, nat_tests, append_assoc)

take-both : {X : Type 0} (x y : List X) (n : ℕ) → take (length x + n) (x ++ y) ≡ x ++ take n y
take-both [] y n = ap (λ m. take m y) (let e : 0 + n ≡ n = omega arith in e)
take-both {X} (b ∷ x) y n = ap (λ m. take m (b ∷ (x ++ y)))
    (let e : length (b ∷ x) + n ≡ suc (length x + n) = omega arith in e)
    ∙ ap (λ (l : List X). b ∷ l) (take-both x y n)

take-all : {X : Type 0} (x y : List X) → take (length x) (x ++ y) ≡ x
take-all x y =
    ap (λ n. take n (x ++ y)) (let e : length x ≡ length x + 0 = omega arith in e) ∙ take-both x y 0
    ∙ append-nil x

-- a part of the first bytes is a part of them all
pub part-more : (a b : Option (List ℕ)) (x y : List ℕ) → AppendsSome a b x → AppendsSome a b (x ++ y)
part-more a b x y s = grind (arith, length-append, take-append-le)

pub appends-part : (a b c : Option (List ℕ)) (x y : List ℕ) → Appends a b x → AppendsSome b c y
    → AppendsSome a c (x ++ y)
appends-part a b c x y f s = (
  length x + s.0,
  (let e : length (x ++ y) ≡ length x + length y = length-append x y in let h : s.0 ≤ length y = s.1 in
      omega arith),
  subst (λ (l : List ℕ). Appends a c l) (sym (take-both x y s.0)) (appends-both a b c x (take s.0 y) f s.2),
)

-- a count that rose rose from any earlier value
pub rose-since : (first before now : ℕ) → first ≤ before → Rose before now → Rose first now
rose-since first before now l r = omega arith

module _ (before : Outflow) where
  -- all lines were written, and none waits
  pub all-sent : (now : Outflow) (lines : List (List ℕ)) → Wrote before now (concat lines)
      → before.faults ≤ now.faults → AreSent before now [] lines
  all-sent now lines wrote later = grind (arith, append-nil)

  -- more lines wait
  pub sent-more : (now : Outflow) (waiting waiting_now : List ℕ) (lines more : List (List ℕ))
      → AreSent before now waiting lines → waiting_now ≡ waiting ++ concat more
      → AreSent before now waiting_now (lines ++ more)
  sent-more now waiting waiting_now lines more h i = grind (arith, nat_tests, append_assoc, concat-append)

  -- all that waited was written
  pub sent-whole : (mid now : Outflow) (waiting : List ℕ) (lines : List (List ℕ))
      → AreSent before mid waiting lines → Wrote mid now waiting → Wrote before now (concat lines)
  sent-whole mid now waiting lines s w = grind (arith, nat_tests, concat-append, appends-both)

  -- what waited was sent, or waits on
  pub sent-on : (mid now : Outflow) (waiting waiting_now : List ℕ) (lines : List (List ℕ))
      → AreSent before mid waiting lines → mid.faults ≤ now.faults
      → (Wrote mid now waiting × (waiting_now ≡ [])) ⊎ (Wrote mid now [] × (waiting_now ≡ waiting))
      → AreSent before now waiting_now lines
  sent-on mid now waiting waiting_now lines s l (inl w) = record {
    written = lines;
    others = [];
    all = sym (append-nil lines);
    wrote = sent-whole mid now waiting lines s w.0;
    wait = w.1;
    later = let m : before.faults ≤ mid.faults = s.later in omega arith;
  }
  sent-on mid now waiting waiting_now lines s l (inr w) = record {
    written = s.written;
    others = s.others;
    all = s.all;
    wrote = subst (λ (l : List ℕ). Wrote before now l) (append-nil (concat s.written))
        (appends-both before.written mid.written now.written (concat s.written) [] s.wrote w.0);
    wait = w.1 ∙ s.wait;
    later = let m : before.faults ≤ mid.faults = s.later in omega arith;
  }

  -- of these lines and more the first ones were written
  pub front-sent : (now : Outflow) (waiting : List ℕ) (lines more : List (List ℕ))
      → (s : AreSent before now waiting lines)
      → Wrote before now (concat (take (length s.written) (lines ++ more)))
  front-sent now waiting lines more s = grind (arith, nat_tests, append_assoc, take-all)

  module _ (Whole : List (List ℕ) → ℕ → Type 0) (Left : Type 0) where
    -- a write of what waited failed, where these lines can be completed
    pub part-sent : (mid now : Outflow) (waiting : List ℕ) (lines : List (List ℕ))
        → AreSent before mid waiting lines → Completes Whole Left lines → WroteSome mid now waiting
        → Rose before.faults now.faults × IsPart Whole before now
    part-sent mid now waiting lines s c w = (
      rose-since before.faults mid.faults now.faults s.later w.0,
      record {
        lines = lines ++ c.more;
        status = c.status;
        whole = c.whole;
        wrote = subst (λ (l : List ℕ). AppendsSome before.written now.written l)
            (sym (concat-append lines c.more))
            (part-more before.written now.written (concat lines) (concat c.more)
            (subst (λ (l : List ℕ). AppendsSome before.written now.written l)
            (sym (ap concat s.all ∙ concat-append s.written s.others))
            (appends-part before.written mid.written now.written (concat s.written) (concat s.others) s.wrote
            (subst (λ (l : List ℕ). AppendsSome mid.written now.written l) s.wait w.1))));
      },
    )

    -- memory was refused while these lines can be completed
    pub lines-sent : (now : Outflow) (waiting : List ℕ) (lines : List (List ℕ))
        → AreSent before now waiting lines → Completes Whole Left lines → Left → AreLines Whole before now
    lines-sent now waiting lines s c left = record {
      lines = lines ++ c.more;
      status = c.status;
      whole = c.whole;
      count = length s.written;
      short = few s.written s.others c.more lines s.all (c.some left);
      wrote = front-sent now waiting lines c.more s;
    }
      where
        few : (written others more lines : List (List ℕ)) → lines ≡ written ++ others → more ≢ []
            → length written < length (lines ++ more)
        few written others [] lines e some = absurd (some refl)
        few written others (line ∷ more) lines e some =
            let all : length lines ≡ length written + length others
            = ap length e ∙ length-append written others in
            let both : length (lines ++ line ∷ more) ≡ length lines + length (line ∷ more)
            = length-append lines (line ∷ more) in
            omega arith
