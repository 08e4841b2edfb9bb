-- The work on items, one after the other.
use Rattle.std.proofs.lemmas.Bool.Decides.{nat_tests}
use Rattle.std.proofs.Common.{◌≡◌, sym, ap, ◌∙◌, subst, List, [], ◌∷◌, ◌++◌, append_assoc, ℕ, zero, suc, ◌+◌}
use Rattle.std.proofs.Common.{◌<◌, ◌≤◌, ◌⊎◌, inl, inr, Bool, true, length, take, drop, get_or, arith}
use Rattle.std.specs.Prelude.{◌≢◌, Result, IsErrAnd}
use Rattle.std.proofs.Math.Seq.{take-suc}
use Rattle.std.proofs.lemmas.List.{take_all, take-append-drop, append-nil}
use Rattle.io_edge.specs.Known.{Outflow}
use Rattle.line_work.specs.Sending.{Wrote, WroteSome, IsAll, SendsWhole, AreSent, AreLines, Sends, work_stops}
use Rattle.line_work.specs.Sending.{write_stops}
use Rattle.line_work.specs.Stops.{StopsSo, EndsOrStops}
use Rattle.line_work.specs.Working.{Adds, CanComplete, Completes, CountsMore, HaveWorked, IsLeft, IsWorking}
use Rattle.line_work.specs.declared.stop.Stop.{Stop}
use Rattle.line_work.specs.declared.stop.Stop.TheVariants as stop
use Rattle.line_work.proofs.Pieces.{all-sent, nothing, sent-more, sent-whole, sent-on, part-sent, lines-sent}
use Rattle.line_work.proofs.Stopping.{passed, ends-on, no_stops, only_memory, only_write}

-- one more element
take-more : {X : Type 0} (xs : List X) (i : ℕ) (x : X) → i < length xs → x ≡ get_or xs i x
    → take (i + 1) xs ≡ take i xs ++ x ∷ []
take-more xs i x h j = grind (arith, nat_tests, take-suc)

-- one item more behind the earlier ones
one-more : {Item : Type 0} (earlier more : List Item) (place : ℕ) (item : Item) → place < length more
    → item ≡ get_or more place item
    → (earlier ++ take place more) ++ item ∷ [] ≡ earlier ++ take (place + 1) more
one-more earlier more place item h i = grind (arith, nat_tests, append_assoc, take-more)

-- with those that are left they are all
rejoined : {Item : Type 0} (earlier more others : List Item) (place : ℕ)
    → (earlier ++ take place more) ++ (drop place more ++ others) ≡ earlier ++ (more ++ others)
rejoined {Item} earlier more others place = append_assoc earlier (take place more) (drop place more ++ others)
    ∙ ap (λ (l : List Item). earlier ++ l)
    (sym (append_assoc (take place more) (drop place more) others)
    ∙ ap (λ (l : List Item). l ++ others) (take-append-drop place more))

-- before the last place something is left
some-left : {Item : Type 0} (more others : List Item) (place : ℕ) → place < length more
    → drop place more ++ others ≢ []
some-left [] others place h = absurd (omega arith)
some-left (x ∷ more) others zero h = λ e. (let never : x ∷ (more ++ others) ≡ [] = e in cc)
some-left (x ∷ more) others (suc place) h = some-left more others place (omega arith)

-- nothing was counted for no items
pub counts-none : {Job Item : Type 0} (Counted : Job → Job → List Item → ℕ → ℕ → Type 0) (job : Job) (at : ℕ)
    → CountsMore Counted job job [] at at
counts-none Counted job at = grind (arith, nat_tests, append-nil)

-- what is counted holds with one item more
pub counts-more : {Job Item : Type 0} (Counted : Job → Job → List Item → ℕ → ℕ → Type 0) (old mid new : Job)
    (items : List Item) (place : ℕ) (item : Item) (at between now : ℕ) → place < length items
    → item ≡ get_or items place item → CountsMore Counted old mid (take place items) at between
    → ((first : Job) (some : List Item) (start : ℕ) → Counted first mid some start between
    → Counted first new (some ++ item ∷ []) start now)
    → CountsMore Counted old new (take (place + 1) items) at now
counts-more Counted old mid new items place item at between now h i j k = grind (arith, nat_tests, one-more)

-- and with all
pub counts-all : {Job Item : Type 0} (Counted : Job → Job → List Item → ℕ → ℕ → Type 0) (old new : Job)
    (items : List Item) (place at now : ℕ) → length items ≤ place
    → CountsMore Counted old new (take place items) at now → CountsMore Counted old new items at now
counts-all Counted old new items place at now h i = grind (arith, nat_tests, take_all)

module _ {Job Item : Type 0} (Worked : Job → Job → List Item → List (List ℕ) → Type 0)
    (Whole : Job → List Item → List (List ℕ) → ℕ → Type 0) (closes : Bool)
    (can : CanComplete Worked Whole closes) (first : Job) (earlier more others : List Item)
    (before : Outflow) where
  -- no item more is worked yet
  pub working-begun : (job : Job) (at : Outflow) (waiting : List ℕ) → waiting ≡ []
      → HaveWorked Worked first job earlier before at
      → IsWorking (Worked first job) (earlier ++ take 0 more) before at waiting
  working-begun job at waiting h i = grind (arith, nat_tests, append-nil, all-sent)

  -- one item more was worked
  pub working-more : (job job_now : Job) (place : ℕ) (item : Item) (at : Outflow)
      (waiting waiting_now : List ℕ)
      → place < length more → item ≡ get_or more place item
      → IsWorking (Worked first job) (earlier ++ take place more) before at waiting
      → ((first : Job) (some : List Item) (lines : List (List ℕ)) → Worked first job some lines
      → Adds (Worked first job_now (some ++ item ∷ [])) lines waiting waiting_now)
      → IsWorking (Worked first job_now) (earlier ++ take (place + 1) more) before at waiting_now
  working-more job job_now place item at waiting waiting_now h e w adds =
      grind (arith, nat_tests, one-more, sent-more)

  -- what waited was sent, or waits on
  pub working-on : (job : Job) (items : List Item) (mid now : Outflow) (waiting waiting_now : List ℕ)
      → IsWorking (Worked first job) items before mid waiting → mid.faults ≤ now.faults
      → (Wrote mid now waiting × (waiting_now ≡ [])) ⊎ (Wrote mid now [] × (waiting_now ≡ waiting))
      → IsWorking (Worked first job) items before now waiting_now
  working-on job items mid now waiting waiting_now h i j = grind (arith, nat_tests, sent-on)

  -- the lines so far can be completed
  completed : (job : Job) (place : ℕ) (at : Outflow) (waiting : List ℕ)
      → (w : IsWorking (Worked first job) (earlier ++ take place more) before at waiting)
      → Completes (Whole first (earlier ++ (more ++ others))) (IsLeft closes (drop place more ++ others))
      w.lines
  completed job place at waiting w = grind (arith, nat_tests, rejoined)

  -- memory was refused while an item was left
  pub working-starved : {X : Type 0} (Done : X → Type 0) (job : Job) (place : ℕ) (now : Outflow)
      (waiting : List ℕ)
      → place < length more → IsWorking (Worked first job) (earlier ++ take place more) before now waiting
      → (result : Result X Stop) → IsErrAnd result (λ s. s ≡ stop.Memory)
      → EndsOrStops Done (work_stops (Whole first (earlier ++ (more ++ others))) before now) result
  working-starved Done job place now waiting h w result m =
      passed Done (no_stops (AreLines (Whole first (earlier ++ (more ++ others))) before now)) _ result
      stop.Memory m
      (lines-sent before (Whole first (earlier ++ (more ++ others)))
      (IsLeft closes (drop place more ++ others)) now
      waiting w.lines w.sent (completed job place now waiting w) (inl (some-left more others place h)))
      (only_memory (λ k. k))

  -- a write failed
  pub working-unwritten : {X : Type 0} (Done : X → Type 0) (job : Job) (place : ℕ) (mid now : Outflow)
      (waiting : List ℕ) → IsWorking (Worked first job) (earlier ++ take place more) before mid waiting
      → (result : Result X Stop) (stop : Stop) → StopsSo (write_stops (WroteSome mid now waiting)) stop
      → IsErrAnd result (λ s. s ≡ stop)
      → EndsOrStops Done (work_stops (Whole first (earlier ++ (more ++ others))) before now) result
  working-unwritten Done job place mid now waiting w result stop k m =
      passed Done (write_stops (WroteSome mid now waiting)) _ result stop m k
      (only_write (part-sent before (Whole first (earlier ++ (more ++ others)))
      (IsLeft closes (drop place more ++ others)) mid now waiting w.lines w.sent
      (completed job place mid waiting w)))

  -- all were worked, and what waited was sent
  pub working-done : (job : Job) (place : ℕ) (mid now : Outflow) (waiting bytes : List ℕ)
      → length more ≤ place → IsWorking (Worked first job) (earlier ++ take place more) before mid waiting
      → bytes ≡ waiting → mid.faults ≤ now.faults → (result : Result (Unit {0}) Stop)
      → Sends mid now bytes result
      → EndsOrStops (λ done. HaveWorked Worked first job (earlier ++ more) before now)
      (work_stops (Whole first (earlier ++ (more ++ others))) before now) result
  working-done job place mid now waiting bytes h w e l result s =
      ends-on (λ done. Wrote mid now bytes) _ (write_stops (WroteSome mid now bytes)) _ result
      (λ done wrote. record {
        lines = w.lines;
        worked = subst (λ (some : List Item). Worked first job (earlier ++ some) w.lines)
            (take_all place more h)
            w.worked;
        wrote = sent-whole before mid now waiting w.lines w.sent
            (subst (λ (b : List ℕ). Wrote mid now b) e wrote);
        later = (let m : before.faults ≤ mid.faults = w.sent.later in omega arith);
      })
      (only_write (λ k. part-sent before (Whole first (earlier ++ (more ++ others)))
      (IsLeft closes (drop place more ++ others)) mid now waiting w.lines w.sent
      (completed job place mid waiting w) (subst (λ (b : List ℕ). WroteSome mid now b) e k))) s

module _ {Job Item : Type 0} (Worked : Job → Job → List Item → List (List ℕ) → Type 0)
    (Whole : Job → List Item → List (List ℕ) → ℕ → Type 0) (closes : Bool)
    (can : CanComplete Worked Whole closes) (first job : Job) (items : List Item) (before at : Outflow) where
  -- before any item is worked
  pub worked-none : Worked first first [] [] → HaveWorked Worked first first [] before before
  worked-none begins = grind (arith, nat_tests, nothing)

  -- the work on all items stopped
  pub worked-stops : {X : Type 0} (Done : X → Type 0) (now : Outflow) (result : Result X Stop)
      (stop : Stop) → StopsSo (work_stops (Whole first ([] ++ (items ++ []))) before now) stop
      → IsErrAnd result (λ s. s ≡ stop) → EndsOrStops Done (work_stops (Whole first items) before now) result
  worked-stops Done now result stop k m = grind (arith, passed, append-nil)

  -- memory was refused before the line that closes the output
  pub closing-starved : HaveWorked Worked first job ([] ++ items) before at → closes ≡ true
      → (result : Result ℕ Stop) → IsErrAnd result (λ s. s ≡ stop.Memory)
      → SendsWhole (Whole first items) before at result
  closing-starved w c result m =
      passed (IsAll (Whole first items) before at) (no_stops (AreLines (Whole first items) before at)) _
      result stop.Memory m
      (lines-sent before (Whole first items) (IsLeft {Item = Item} closes []) at [] w.lines
      (all-sent before at w.lines w.wrote w.later)
      (subst (λ (all : List Item). Completes (Whole first all) (IsLeft {Item = Item} closes []) w.lines)
      (append-nil items)
      (can first job items [] w.lines w.worked)) (inr c)) (only_memory (λ k. k))

  -- all items were worked, and the output is closed
  pub record IsClosed (status : ℕ) (bytes : List ℕ) : Type 0 where
    pub lines : List (List ℕ)
    pub whole : Whole first items lines status
    pub sent : AreSent before at bytes lines

  pub closed : HaveWorked Worked first job ([] ++ items) before at → (status : ℕ) (fresh bytes : List ℕ)
      → fresh ≡ []
      → ((first : Job) (some : List Item) (lines : List (List ℕ)) → Worked first job some lines
      → Adds (λ all. Whole first some all status) lines fresh bytes) → (sent : List ℕ) → sent ≡ bytes
      → IsClosed status sent
  closed w status fresh bytes none adds sent e = grind (arith, nat_tests)

  pub closing-stops : (status : ℕ) (bytes : List ℕ) → IsClosed status bytes → (now : Outflow)
      (result : Result ℕ Stop) (stop : Stop) → StopsSo (write_stops (WroteSome at now bytes)) stop
      → IsErrAnd result (λ s. s ≡ stop) → SendsWhole (Whole first items) before now result
  closing-stops status bytes c now result stop k m =
      passed (IsAll (Whole first items) before now) (write_stops (WroteSome at now bytes)) _ result stop m k
      (only_write (part-sent before (Whole first items) ⊥ at now bytes c.lines c.sent (record {
        more = [];
        status = status;
        whole = subst (λ (lines : List (List ℕ)). Whole first items lines status) (sym (append-nil c.lines))
            c.whole;
        some = λ never. absurd never;
      })))

  pub closing-ends : (status : ℕ) (bytes : List ℕ) → IsClosed status bytes → (now : Outflow)
      → Wrote at now bytes
      → IsAll (Whole first items) before now status
  closing-ends status bytes c now s =
      record { lines = c.lines; whole = c.whole; wrote = sent-whole before at now bytes c.lines c.sent s }
