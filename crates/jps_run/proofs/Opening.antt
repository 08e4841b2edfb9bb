-- A call is opened as work whose output answers it.
use Rattle.std.proofs.Common.{◌≡◌, ◌∙◌, refl, sym, ap, subst, List, [], ◌∷◌, ◌++◌, ℕ, ◌≤◌}
use Rattle.std.specs.Prelude.{Ok, Err, Result, Option, Some}
use Rattle.io_edge.specs.Known.{Disk, Held}
use Rattle.map_text.specs.Faults.{map_of}
use Rattle.map_text.specs.Map.{Map}
use Rattle.word_list.specs.Request.{Call}
use Rattle.word_list.specs.declared.rows.Command.{Command}
use Rattle.line_work.specs.Sending.{IsText}
use Rattle.line_work.specs.declared.stop.Stop.{Stop}
use Rattle.jps_run.specs.Calls.{output_of}
use Rattle.jps_run.specs.Live.{On}
use Rattle.jps_run.specs.Opened.{IsCounted, IsWorkOf, Opens, OpensWork, opened_as}
use Rattle.jps_run.specs.Parts.{Prints, Output, on_last, on_read, printed}
use Rattle.jps_run.specs.declared.work.Work.{Work}
use Rattle.jps_run.specs.Works.{CanPerform, HasRisen, IsWhole}
use Rattle.jps_run.specs.Who.{replies_by}

-- what is made of a value that is read, and of the last text
pub value-read : {V F X : Type 0} (read : Result V F) (value : V) (make : V → Option X) → read ≡ Ok value
    → on_read read make ≡ make value
value-read read value make e = ap (λ r. on_read r make) e

pub last-read : {X : Type 0} (before : List (List ℕ)) (text : List ℕ) (make : List ℕ → Option X)
    → on_last (before ++ text ∷ []) make ≡ make text
last-read [] text make = refl
last-read (first ∷ []) text make = refl
last-read (first ∷ next ∷ before) text make = last-read (next ∷ before) text make

-- so it is of a map and the last text
pub both-read : {V F X : Type 0} (text : List ℕ) (loaded : List (List ℕ)) (m : Map) (last : List ℕ)
    (read : List ℕ → Result V F) (value : V) (make : Map → V → Option X) → map_of text ≡ Ok m
    → read last ≡ Ok value
    → on_read (map_of text) (λ m. on_last (loaded ++ last ∷ []) (λ second. on_read (read second) (make m)))
    ≡ make m value
both-read text loaded m last read value make e is =
    value-read (map_of text) m
    (λ m. on_last (loaded ++ last ∷ []) (λ second. on_read (read second) (make m))) e
    ∙ last-read loaded last (λ second. on_read (read second) (make m))
    ∙ value-read (read last) value (make m) is

-- the work of a call prints what the call asks for
pub work-of : (call : Call) (texts : List (List ℕ)) (job : Work) (o : Output)
    → output_of replies_by call texts ≡ Some o → o.status ≤ 1 → CanPerform job
    → ((lines : List (List ℕ)) (status : ℕ) → IsWhole job lines status → Prints o lines status)
    → ((old new : ℕ) → HasRisen job old new → IsCounted call texts old new) → IsWorkOf call texts job
work-of call texts job o e small can whole counted = record {
  can = can;
  right = λ lines status w.
      let is = whole lines status w in
      let same : o ≡ record { lines = lines; status = status } = rw (is.all, is.code) refl in
      (subst (λ (n : ℕ). n ≤ 1) (sym is.code) small, e ∙ ap (λ (x : Output). Some x) same);
  counted = counted;
}

-- a text is printed
pub texted : (text : List ℕ) (code : ℕ) (lines : List (List ℕ)) (status : ℕ) → IsText text code lines status
    → Prints (printed text code) lines status
texted text code lines status w = record { all = w.0; code = w.1 }

-- what holds of the map of a call that answers what comes in
pub on-map : {command : Command} {call : Call} {holds : List ℕ → Held} {K L : Map → Type 0}
    (p : On command call holds K) → L p.read → On command call holds L
on-map p such = record {
  is = p.is;
  text = p.text;
  behind = p.behind;
  accepted = p.accepted;
  read = p.read;
  spelled = p.spelled;
  such = such;
}

-- what a command opens as its work is what the call is opened as
pub opened-so : (call : Call) (disk disk_now : Disk) (work : Result Work Stop)
    → OpensWork call disk disk_now work
    → Opens call disk disk_now (opened_as work)
opened-so call disk disk_now (Ok work) opens = opens
opened-so call disk disk_now (Err stop) opens = opens
