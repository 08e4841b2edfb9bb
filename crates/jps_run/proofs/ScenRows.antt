-- The rows of entries.
use Rattle.std.proofs.Common.{◌≡◌, refl, sym, ap, ◌∙◌, subst, List, [], ◌∷◌, ◌++◌, append_assoc, ℕ, suc, ◌+◌}
use Rattle.std.proofs.Common.{◌^◌, ◌<◌, length, length-append, arith, true}
use Rattle.std.specs.Prelude.{◌≢◌, Result, Ok, Err, OnOk}
use Rattle.std.proofs.lemmas.List.{append-nil, map-append}
use Rattle.scen_text.specs.declared.entry.Entry.{Entry}
use Rattle.jps_run.specs.Answerers.{CanAnswer, who_of}
use Rattle.jps_run.specs.ScenRows.{HasRows, HasRoom, AreAllRows, rows_by}
use Rattle.jps_run.specs.Rows.{row_for, row_line, row_lines, scen_status, sum_line}
use Rattle.word_list.specs.declared.request.Show.{Show}
use Rattle.jps_run.specs.Tally.{IsSmall, tally_of, sum_text}
use Rattle.jps_run.specs.Who.{replies_by}
use Rattle.line_work.specs.Working.{Adds, CanComplete, HasRoomForOne}
use Rattle.jps_run.specs.declared.replies.answerer.Answerer.{Answerer}
use Rattle.jps_run.specs.declared.replies.row.Row.{Row}
use Rattle.jps_run.specs.declared.replies.row.Tally.{Tally}
use Rattle.jps_run.specs.declared.replies.scenario.Scen.{Scen}

-- where nothing is counted yet there is room for a list's entries
pub new-room : (job : Scen) (count : ℕ) → CanAnswer job.answerer → job.tally ≡ tally_of [] → count < 2 ^ 64
    → HasRoom job count
new-room job count ready e few = record {
  ready = ready;
  counts = record { rows = []; counted = e };
  small = subst (λ (tally : Tally). IsSmall tally) (sym e) (omega arith);
  few = subst (λ (tally : Tally). tally.rows + count < 2 ^ 64) (sym e)
      (let small : 0 + count < 2 ^ 64 = omega arith in small);
}

row_lines-append : (show : Show) (number : ℕ) (some others : List Row)
    → row_lines show number (some ++ others)
    ≡ row_lines show number some ++ row_lines show (number + length some) others
row_lines-append show number [] others =
    ap (λ n. row_lines show n others) (let e : number ≡ number + 0 = omega arith in e)
row_lines-append show number (r ∷ some) others =
    ap (λ (l : List (List ℕ)). row_line show number r ∷ l)
    (row_lines-append show (number + 1) some others
    ∙ ap (λ n. row_lines show (number + 1) some ++ row_lines show n others)
    (let e : number + 1 + length some ≡ number + suc (length some) = omega arith in e))

-- one row more leaves room for one less
pub room-more : {T E : Type 0} (result : Result T E) (job now : Scen) (r : Row)
    (room : HasRoomForOne (HasRoom job))
    → ((rows : List Row) → job.tally ≡ tally_of rows → now.tally ≡ tally_of (rows ++ r ∷ []))
    → IsSmall now.tally → now.answerer ≡ job.answerer
    → OnOk result ((n : ℕ) → HasRoom job (n + 1) → HasRoom now n)
room-more (Err error) job now r room counts small same = tt
room-more (Ok done) job now r room counts small same = λ n h.
    let t = h.counts in
    let one : now.tally ≡ tally_of (t.rows ++ r ∷ []) = counts t.rows t.counted in
    let old : job.tally.rows ≡ length t.rows = ap (λ (t : Tally). t.rows) t.counted in
    let new : now.tally.rows ≡ length (t.rows ++ r ∷ []) = ap (λ (t : Tally). t.rows) one in
    let both : length (t.rows ++ r ∷ []) ≡ length t.rows + 1 = length-append t.rows (r ∷ []) in
    let few : job.tally.rows + (n + 1) < 2 ^ 64 = h.few in
    record {
      ready = subst (λ (a : Answerer). CanAnswer a) (sym same) h.ready;
      counts = record { rows = t.rows ++ r ∷ []; counted = one };
      small = small;
      few = omega arith;
    }

-- one entry more has its row
pub rows-more : {T E : Type 0} (result : Result T E) (job now : Scen) (entry : Entry) (r : Row)
    (before after : List ℕ)
    → r ≡ row_for (replies_by (who_of job.answerer).by) (who_of job.answerer).layers entry
    → now.answerer ≡ job.answerer → now.show ≡ job.show
    → ((rows : List Row) → job.tally ≡ tally_of rows → now.tally ≡ tally_of (rows ++ r ∷ []))
    → OnOk result (after ≡ before ++ row_line job.show now.tally.rows r)
    → OnOk result ((first : Scen) (entries : List Entry) (lines : List (List ℕ))
    → HasRows first job entries lines
    → Adds (HasRows first now (entries ++ entry ∷ [])) lines before after)
rows-more (Err error) job now entry r before after is same shown counts w = tt
rows-more (Ok done) job now entry r before after is same shown counts w = λ first entries lines h.
    let rows : List Row = rows_by first entries in
    let line : Show → ℕ → List ℕ = λ show k. row_line show k r in
    let one : now.tally.rows ≡ length (rows ++ r ∷ []) =
    ap (λ (t : Tally). t.rows) (counts rows h.counted) in
    let both : length (rows ++ r ∷ []) ≡ length rows + 1 = length-append rows (r ∷ []) in
    let place : now.tally.rows ≡ 1 + length rows = omega arith in
    let here : r ≡ row_for (replies_by (who_of first.answerer).by) (who_of first.answerer).layers entry =
    is ∙ ap (λ (a : Answerer). row_for (replies_by (who_of a).by) (who_of a).layers entry) h.same in
    let grown : rows ++ r ∷ [] ≡ rows_by first (entries ++ entry ∷ []) =
    ap (λ (x : Row). rows ++ x ∷ []) here
    ∙ sym (map-append (row_for (replies_by (who_of first.answerer).by) (who_of first.answerer).layers) entries
    (entry ∷ [])) in
    record {
      more = line job.show now.tally.rows ∷ [];
      stand = record {
        ready = h.ready;
        all = ap (λ (l : List (List ℕ)). l ++ line job.show now.tally.rows ∷ []) h.all
            ∙ ap (λ (show : Show). row_lines first.show 1 rows ++ line show now.tally.rows ∷ []) h.shown
            ∙ ap (λ k. row_lines first.show 1 rows ++ line first.show k ∷ []) place
            ∙ sym (row_lines-append first.show 1 rows (r ∷ []))
            ∙ ap (λ (l : List Row). row_lines first.show 1 l) grown;
        counted = counts rows h.counted ∙ ap tally_of grown;
        same = same ∙ h.same;
        shown = shown ∙ h.shown;
      };
      appended = w ∙ ap (λ (l : List ℕ). before ++ l) (sym (append-nil (line job.show now.tally.rows)));
    }

-- the sum closes the rows
pub rows-all : (job : Scen) (status : ℕ) (before after : List ℕ)
    → after ≡ before ++ sum_text job.show job.tally
    → ((rows : List Row) → job.tally ≡ tally_of rows → status ≡ scen_status rows)
    → (first : Scen) (entries : List Entry) (lines : List (List ℕ)) → HasRows first job entries lines
    → Adds (λ all. AreAllRows first entries all status) lines before after
rows-all job status before after w s first entries lines h =
    let rows : List Row = rows_by first entries in
    record {
      more = sum_line first.show rows ∷ [];
      stand = record {
        all = ap (λ (l : List (List ℕ)). l ++ sum_line first.show rows ∷ []) h.all;
        code = s rows h.counted;
      };
      appended = w ∙ ap (λ (t : Tally). before ++ sum_text job.show t) h.counted
          ∙ ap (λ (show : Show). before ++ sum_line show rows) h.shown
          ∙ ap (λ (l : List ℕ). before ++ l) (sym (append-nil (sum_line first.show rows)));
    }

pub not-empty : (lines : List (List ℕ)) (line : List ℕ) → lines ++ line ∷ [] ≢ []
not-empty [] line = λ e. (let never : line ∷ [] ≡ [] = e in cc)
not-empty (l ∷ lines) line = λ e. (let never : l ∷ (lines ++ line ∷ []) ≡ [] = e in cc)

-- the first rows can be completed
pub rows-complete : CanComplete HasRows AreAllRows true
rows-complete first now some others lines h =
    let done : List Row = rows_by first some in
    let left : List Row = rows_by first others in
    let rows : List Row = rows_by first (some ++ others) in
    let rest : List (List ℕ) = row_lines first.show (1 + length done) left in
    let sum : List ℕ = sum_line first.show rows in
    let all : done ++ left ≡ rows =
    sym (map-append (row_for (replies_by (who_of first.answerer).by)
    (who_of first.answerer).layers) some others) in
    record {
      more = rest ++ sum ∷ [];
      status = scen_status rows;
      whole = record {
        all = sym (append_assoc lines rest (sum ∷ []))
            ∙ ap (λ (l : List (List ℕ)). (l ++ rest) ++ sum ∷ []) h.all
            ∙ ap (λ (l : List (List ℕ)). l ++ sum ∷ []) (sym (row_lines-append first.show 1 done left))
            ∙ ap (λ (l : List Row). row_lines first.show 1 l ++ sum ∷ []) all;
        code = refl;
      };
      some = λ more. not-empty rest sum;
    }

-- nothing is judged yet
pub rows-none : (job : Scen) → CanAnswer job.answerer → job.tally ≡ tally_of [] → HasRows job job [] []
rows-none job ready e = record { ready = ready; all = refl; counted = e; same = refl; shown = refl }
