-- Files are read one after the other.
use Rattle.std.proofs.Common.{◌≡◌, ◌∙◌, ap, append-nil, append_assoc, refl, sym, subst, List, [], ◌∷◌, ◌++◌}
use Rattle.std.proofs.Common.{ℕ, arith}
use Rattle.std.specs.Prelude.{Result, IsErrAnd}
use Rattle.io_edge.specs.Causes.{NoneFell}
use Rattle.io_edge.specs.Known.{Disk, Held}
use Rattle.call_files.specs.Files.{File, IsAccepted, AreAccepted, ComesTo, IsRefused}
use Rattle.call_files.specs.Reading.{open_stops, read_stops}
use Rattle.line_work.specs.Stops.{Stops, StopsSo, EndsOrStops}
use Rattle.line_work.specs.declared.stop.Stop.{Stop}
use Rattle.line_work.proofs.Pieces.{rose-since}
use Rattle.line_work.proofs.Stopping.{Follow, ends-on, passed}

-- the next file, behind those that are accepted
abbrev pub next-file : (holds : List ℕ → Held) (before : List File) (file : File) (behind : List File)
    (texts : List (List ℕ)) → AreAccepted holds [] before texts
    → ComesTo holds (before ++ file ∷ behind) file
next-file holds before file behind texts accepted =
    record { before = before; behind = behind; all = refl; texts = texts; accepted = accepted }

-- a file more is accepted behind one; files held as much when it was read
pub both-accepted : (holds held : List ℕ → Held) (first second : File) (text other : List ℕ)
    → IsAccepted [] first.kind (holds first.name) text → held ≡ holds
    → IsAccepted (text ∷ []) second.kind (held second.name) other
    → AreAccepted holds [] (first ∷ second ∷ []) (text ∷ other ∷ [])
both-accepted holds held first second text other a same b = (
  a,
  (subst (λ (k : List ℕ → Held). IsAccepted (text ∷ []) second.kind (k second.name) other) same b, tt),
)

-- and a third behind both
pub third-accepted : (holds held kept : List ℕ → Held) (first second third : File) (text other last : List ℕ)
    → IsAccepted [] first.kind (holds first.name) text → held ≡ holds
    → IsAccepted (text ∷ []) second.kind (held second.name) other → kept ≡ holds
    → IsAccepted (text ∷ other ∷ []) third.kind (kept third.name) last
    → AreAccepted holds [] (first ∷ second ∷ third ∷ []) (text ∷ other ∷ last ∷ [])
third-accepted holds held kept first second third text other last a same b still d = (
  a,
  (
    subst (λ (k : List ℕ → Held). IsAccepted (text ∷ []) second.kind (k second.name) other) same b,
    (
      subst (λ (k : List ℕ → Held). IsAccepted (text ∷ other ∷ []) third.kind (k third.name) last) still d,
      tt,
    ),
  ),
)

-- no count fell between, so none did
pub fell-on : {old mid new : List ℕ → ℕ} → NoneFell old mid → NoneFell mid new → NoneFell old new
fell-on first then_more = record { later = λ name. omega (arith, first.later name, then_more.later name) }

-- no count fell where nothing was called
pub none-fell : (faults : List ℕ → ℕ) → NoneFell faults faults
none-fell faults = record { later = λ name. omega arith }

module _ (disk : Disk) (files : List File) (file : File) (comes : ComesTo disk.holds files file)
    (mid now : Disk)
    (same : mid.holds ≡ disk.holds) (later : NoneFell disk.faults mid.faults) where
  abbrev stops-at : Stops
  stops-at = read_stops (IsRefused comes.texts file.kind (mid.holds file.name)) (mid.faults file.name)
      (now.faults file.name)

  -- where the reading of the next file stops, that of all stops
  pub reading-follows : Follow stops-at (open_stops disk now files)
  reading-follows = record {
    refused = λ line r. record {
      file = file;
      comes = comes;
      refused = subst (λ (k : List ℕ → Held). IsRefused comes.texts file.kind (k file.name) line) same r;
    };
    read = λ r. record {
      file = file;
      comes = comes;
      rose = rose-since (disk.faults file.name) (mid.faults file.name) (now.faults file.name)
          (later.later file.name) r;
    };
    write = λ k. absurd k;
    memory = λ k. k;
  }

  pub reading-stops : {X : Type 0} (Done : X → Type 0) (result : Result X Stop) (stop : Stop)
      → StopsSo stops-at stop → IsErrAnd result (λ s. s ≡ stop)
      → EndsOrStops Done (open_stops disk now files) result
  reading-stops Done result stop known m =
      passed Done stops-at (open_stops disk now files) result stop m known reading-follows

  pub reading-ends : {X : Type 0} (Done : X → Type 0) (result : Result X Stop)
      → EndsOrStops Done stops-at result
      → EndsOrStops Done (open_stops disk now files) result
  reading-ends Done result e = ends-on Done Done stops-at (open_stops disk now files) result (λ x d. d)
      reading-follows e

-- a file more is accepted behind others
pub accepted-more : (holds : List ℕ → Held) (earlier : List (List ℕ)) (files : List File)
    (texts : List (List ℕ))
    (file : File) (text : List ℕ) → AreAccepted holds earlier files texts
    → IsAccepted (earlier ++ texts) file.kind (holds file.name) text
    → AreAccepted holds earlier (files ++ file ∷ []) (texts ++ text ∷ [])
accepted-more holds earlier [] [] file text a b = (rw append-nil at b, tt)
accepted-more holds earlier [] (first ∷ texts) file text a b = absurd a
accepted-more holds earlier (first ∷ files) [] file text a b = absurd a
accepted-more holds earlier (first ∷ files) (other ∷ texts) file text a b = (
  a.0,
  accepted-more holds (earlier ++ other ∷ []) files texts file text a.1
      (subst (λ (e : List (List ℕ)). IsAccepted e file.kind (holds file.name) text)
      (sym (append_assoc earlier (other ∷ []) texts)) b),
)

-- there is reason to read a file of a longer list
comes-longer : (holds : List ℕ → Held) (files more : List File) (file : File) → ComesTo holds files file
    → ComesTo holds (files ++ more) file
comes-longer holds files more file comes = record {
  before = comes.before;
  behind = comes.behind ++ more;
  all = ap (λ (all : List File). all ++ more) comes.all
      ∙ append_assoc comes.before (file ∷ comes.behind) more;
  texts = comes.texts;
  accepted = comes.accepted;
}

-- where the reading of files stops, that of a longer list does
pub stops-longer : (disk now : Disk) (files more : List File)
    → Follow (open_stops disk now files) (open_stops disk now (files ++ more))
unfolding comes-longer
stops-longer disk now files more = record {
  refused = λ line r. record {
    file = r.file;
    comes = comes-longer disk.holds files more r.file r.comes;
    refused = r.refused;
  };
  read = λ r. record {
    file = r.file;
    comes = comes-longer disk.holds files more r.file r.comes;
    rose = r.rose;
  };
  write = λ k. absurd k;
  memory = λ k. k;
}
