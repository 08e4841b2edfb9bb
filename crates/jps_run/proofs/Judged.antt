-- The rows of claimed walks.
use Rattle.std.proofs.Common.{◌≡◌, refl, sym, ap, ◌∙◌, subst, List, [], ◌∷◌, ◌++◌, append_assoc, ℕ, zero, suc}
use Rattle.std.proofs.Common.{◌+◌, ◌^◌, ◌<◌, ◌≤◌, length, length-append, drop, arith, true, false, Bool}
use Rattle.std.specs.Prelude.{if◌then◌else◌, nat_eq, count_by}
use Rattle.std.specs.Prelude.{Option, Some, Result, Ok, Err, OnOk, Vec, map, slice_get, zip}
use Rattle.std.specs.Global.{Global}
use Rattle.std.proofs.lemmas.Bool.Decides.{nat_tests}
use Rattle.std.proofs.lemmas.List.{append-nil, map-append}
use Rattle.root2_cost.specs.declared.Cost.{Cost}
use Rattle.grid_moves.specs.declared.Cell.{Cell}
use Rattle.grid_moves.specs.Layers.{Layers}
use Rattle.scen_text.specs.declared.entry.Entry.{Entry}
use Rattle.walk_judge.specs.declared.claims.Claimed.{Claimed}
use Rattle.call_files.specs.Reading.{AreFit}
use Rattle.jps_run.specs.Judging.{CanGoOn, HasJudged, IsJudged, counts_of, rulings_by, sum_text}
use Rattle.jps_run.specs.Rulings.{is_refused, judge_status, ruling_line, ruling_lines, ruling_of}
use Rattle.jps_run.specs.Rulings.{rulings_line}
use Rattle.line_work.specs.Working.{Adds, CanComplete, HasRoomForOne}
use Rattle.jps_run.specs.declared.replies.judge.Judge.{Judge}
use Rattle.jps_run.specs.declared.replies.ruling.Counts.{Counts}
use Rattle.jps_run.specs.declared.replies.ruling.Ruling.{Ruling}
use Rattle.scen_maker.proofs.Searching.{settled_is}
use Rattle.scen_maker.specs.Settling.{IsSearched, IsSettled, settled_of}
use Rattle.scen_maker.specs.declared.costs.Settled.{Settled}
use Rattle.scen_maker.specs.declared.costs.Settled.TheVariants as settled
use Rattle.jps_run.proofs.ScenRows.{not-empty}

-- a query that was settled so was searched
pub searched-so : (ls : Layers) (entry : Entry) (how : Settled) (from to : Cell) (least : Option Cost)
    → how ≡ settled_of ls entry → how ≡ settled.Searched from to least → IsSearched ls entry from to least
searched-so ls entry how from to least is e = subst (λ (s : Settled). IsSettled ls entry s) (sym is ∙ e)
    (settled_is ls entry)

abbrev Both : Type 0
Both = Entry × Claimed

-- one entry more, with what is claimed of it
zip-more : (entries : List Entry) (walks : List Claimed) (entry : Entry) (claimed : Claimed)
    → slice_get walks (length entries) ≡ Some claimed
    → zip (entries ++ entry ∷ []) walks ≡ zip entries walks ++ (entry, claimed) ∷ []
zip-more [] [] entry claimed found = absurd (cc)
zip-more [] (w ∷ walks) entry claimed found =
    ap (λ (t : Claimed). (let both : Both = (entry, t) in both) ∷ []) (let same : w ≡ claimed = cc in same)
zip-more (e ∷ entries) [] entry claimed found = absurd (cc)
zip-more (e ∷ entries) (w ∷ walks) entry claimed found =
    ap (λ (l : List Both). (let both : Both = (e, w) in both) ∷ l)
    (zip-more entries walks entry claimed found)

-- more entries, with what is claimed of them behind
zip-append : (some others : List Entry) (walks : List Claimed)
    → zip (some ++ others) walks
    ≡ zip some walks ++ zip others (drop (length some) walks)
zip-append [] others walks = refl
zip-append (e ∷ some) [] [] = refl
zip-append (e ∷ some) (o ∷ others) [] = refl
zip-append (e ∷ some) others (w ∷ walks) =
    ap (λ (l : List Both). (let both : Both = (e, w) in both) ∷ l) (zip-append some others walks)

ruling_lines-append : (number : ℕ) (some others : List Ruling)
    → ruling_lines number (some ++ others) ≡ ruling_lines number some
    ++ ruling_lines (number + length some) others
ruling_lines-append number [] others =
    ap (λ n. ruling_lines n others) (let e : number ≡ number + 0 = omega arith in e)
ruling_lines-append number (r ∷ some) others =
    ap (λ (l : List (List ℕ)). ruling_line number r ∷ l)
    (ruling_lines-append (number + 1) some others
    ∙ ap (λ n. ruling_lines (number + 1) some ++ ruling_lines n others)
    (let e : number + 1 + length some ≡ number + suc (length some) = omega arith in e))

-- a walk is left, and room for its row
pub one-left : (rows n many : ℕ) → rows + (n + 1) ≤ many → rows < many
one-left rows n many left = omega arith

pub one-fewer : (rows n many : ℕ) → rows + (n + 1) < many → rows + 1 < many
one-fewer rows n many few = omega arith

-- one row more leaves room for one less
pub goes-on : {T E : Type 0} (result : Result T E) (job now : Judge) (r : Ruling)
    (room : HasRoomForOne (CanGoOn job)) → now.walks ≡ job.walks
    → ((rulings : List Ruling) → job.counts ≡ counts_of rulings → now.counts ≡ counts_of (rulings ++ r ∷ []))
    → OnOk result ((n : ℕ) → CanGoOn job (n + 1) → CanGoOn now n)
goes-on (Err error) job now r room walks counts = tt
goes-on (Ok done) job now r room walks counts = λ n h.
    let t = h.counts in
    let one : now.counts ≡ counts_of (t.rulings ++ r ∷ []) = counts t.rulings t.counted in
    let old : job.counts.rows ≡ length t.rulings = ap (λ (c : Counts). c.rows) t.counted in
    let new : now.counts.rows ≡ length (t.rulings ++ r ∷ []) = ap (λ (c : Counts). c.rows) one in
    let both : length (t.rulings ++ r ∷ []) ≡ length t.rulings + 1 = length-append t.rulings (r ∷ []) in
    let few : job.counts.rows + (n + 1) < 2 ^ 64 = h.few in
    let left : job.counts.rows + (n + 1) ≤ length job.walks.items = h.left in
    let many : length now.walks.items ≡ length job.walks.items =
    ap (λ (v : Vec Claimed Global). length v.items) walks in
    record {
      fit = subst (λ (v : Vec Claimed Global). AreFit v.items) (sym walks) h.fit;
      counts = record { rulings = t.rulings ++ r ∷ []; counted = one };
      left = omega arith;
      few = omega arith;
    }

-- one entry more has its row
pub judged-more : {T E : Type 0} (result : Result T E) (job now : Judge) (entry : Entry) (claimed : Claimed)
    (r : Ruling)
    (before after : List ℕ) → r ≡ ruling_of job.costs (entry, claimed)
    → slice_get job.walks.items job.counts.rows ≡ Some claimed → now.costs ≡ job.costs → now.walks ≡ job.walks
    → ((rulings : List Ruling) → job.counts ≡ counts_of rulings → now.counts ≡ counts_of (rulings ++ r ∷ []))
    → OnOk result (after ≡ before ++ ruling_line now.counts.rows r)
    → OnOk result ((first : Judge) (entries : List Entry) (lines : List (List ℕ))
    → HasJudged first job entries lines
    → Adds (HasJudged first now (entries ++ entry ∷ [])) lines before after)
judged-more (Err error) job now entry claimed r before after is found costs walks counts w = tt
judged-more (Ok done) job now entry claimed r before after is found costs walks counts w =
    λ first entries lines h.
    let rulings : List Ruling = rulings_by first entries in
    let old : job.counts.rows ≡ length rulings = ap (λ (c : Counts). c.rows) h.counted in
    let one : now.counts.rows ≡ length (rulings ++ r ∷ []) =
    ap (λ (c : Counts). c.rows) (counts rulings h.counted) in
    let both : length (rulings ++ r ∷ []) ≡ length rulings + 1 = length-append rulings (r ∷ []) in
    let longer : length (entries ++ entry ∷ []) ≡ length entries + 1 = length-append entries (entry ∷ []) in
    let place : now.counts.rows ≡ 1 + length rulings = omega arith in
    let here : slice_get first.walks.items (length entries) ≡ Some claimed =
    subst (λ k. slice_get first.walks.items k ≡ Some claimed) (old ∙ h.as_many)
    (subst (λ (v : Vec Claimed Global). slice_get v.items job.counts.rows ≡ Some claimed) h.claimed found) in
    let grown : rulings ++ r ∷ [] ≡ rulings_by first (entries ++ entry ∷ []) =
    ap (λ (x : Ruling). rulings ++ x ∷ [])
    (is ∙ ap (λ (ls : Layers). ruling_of ls (entry, claimed)) h.same)
    ∙ sym (map-append (ruling_of first.costs) (zip entries first.walks.items) ((entry, claimed) ∷ []))
    ∙ ap (λ (l : List Both). map (ruling_of first.costs) l)
    (sym (zip-more entries first.walks.items entry claimed here)) in
    record {
      more = ruling_line now.counts.rows r ∷ [];
      stand = record {
        all = ap (λ (l : List (List ℕ)). l ++ ruling_line now.counts.rows r ∷ []) h.all
            ∙ ap (λ k. ruling_lines 1 rulings ++ ruling_line k r ∷ []) place
            ∙ sym (ruling_lines-append 1 rulings (r ∷ []))
            ∙ ap (λ (l : List Ruling). ruling_lines 1 l) grown;
        as_many = ap (λ (l : List Ruling). length l) (sym grown)
            ∙ (let many : length rulings ≡ length entries = h.as_many in omega arith);
        counted = counts rulings h.counted ∙ ap counts_of grown;
        same = costs ∙ h.same;
        claimed = walks ∙ h.claimed;
      };
      appended = w ∙ ap (λ (l : List ℕ). before ++ l) (sym (append-nil (ruling_line now.counts.rows r)));
    }

-- the sum closes the rows
pub judged-all : (job : Judge) (status : ℕ) (before after : List ℕ)
    → after ≡ before ++ sum_text job.counts
    → ((rulings : List Ruling) → job.counts ≡ counts_of rulings → status ≡ judge_status rulings)
    → (first : Judge) (entries : List Entry) (lines : List (List ℕ)) → HasJudged first job entries lines
    → Adds (λ all. IsJudged first entries all status) lines before after
judged-all job status before after w s first entries lines h =
    let rulings : List Ruling = rulings_by first entries in
    record {
      more = rulings_line rulings ∷ [];
      stand = record {
        all = ap (λ (l : List (List ℕ)). l ++ rulings_line rulings ∷ []) h.all;
        code = s rulings h.counted;
      };
      appended = w ∙ ap (λ (c : Counts). before ++ sum_text c) h.counted
          ∙ ap (λ (l : List ℕ). before ++ l) (sym (append-nil (rulings_line rulings)));
    }

-- the first rows can be completed
pub rulings-complete : CanComplete HasJudged IsJudged true
rulings-complete first now some others lines h =
    let walks : List Claimed = first.walks.items in
    let rule : Both → Ruling = ruling_of first.costs in
    let done : List Ruling = rulings_by first some in
    let left : List Ruling = map rule (zip others (drop (length some) walks)) in
    let rulings : List Ruling = rulings_by first (some ++ others) in
    let rest : List (List ℕ) = ruling_lines (1 + length done) left in
    let sum : List ℕ = rulings_line rulings in
    let all : done ++ left ≡ rulings =
    sym (map-append rule (zip some walks) (zip others (drop (length some) walks)))
    ∙ ap (λ (l : List Both). map rule l) (sym (zip-append some others walks)) in
    record {
      more = rest ++ sum ∷ [];
      status = judge_status rulings;
      whole = record {
        all = sym (append_assoc lines rest (sum ∷ []))
            ∙ ap (λ (l : List (List ℕ)). (l ++ rest) ++ sum ∷ []) h.all
            ∙ ap (λ (l : List (List ℕ)). l ++ sum ∷ []) (sym (ruling_lines-append 1 done left))
            ∙ ap (λ (l : List Ruling). ruling_lines 1 l ++ sum ∷ []) all;
        code = refl;
      };
      some = λ left. not-empty rest sum;
    }

-- the status is 0 or 1
pub small_judge_status : (rulings : List Ruling) → judge_status rulings ≤ 1
small_judge_status rulings = by_test (nat_eq (count_by is_refused rulings) 0)
  where
    by_test : (b : Bool) → (if b then 0 else 1) ≤ 1
    by_test true = omega arith
    by_test false = omega arith

-- it follows from the counts
pub status_none : (c : Counts) (all : List Ruling) → c ≡ counts_of all → c.refused ≡ 0 → 0 ≡ judge_status all
status_none c all e none =
    let nothing : count_by is_refused all ≡ 0 = ap (λ (c : Counts). c.refused) (sym e) ∙ none in
    ap (λ n. if nat_eq n 0 then 0 else 1) (sym nothing)

pub status_some : (c : Counts) (all : List Ruling) → c ≡ counts_of all → (c.refused ≡ 0 → ⊥)
    → 1 ≡ judge_status all
status_some c all e some = by_count (count_by is_refused all) (ap (λ (c : Counts). c.refused) e)
  where
    status_by : ℕ → ℕ
    status_by n = if nat_eq n 0 then 0 else 1

    by_count : (n : ℕ) → c.refused ≡ n → 1 ≡ status_by n
    by_count zero is = absurd (some is)
    by_count (suc n) is =
        let off : nat_eq (suc n) 0 ≡ false = grind (arith, nat_tests) in
        ap (λ (b : Bool). if b then 0 else 1) (sym off)
