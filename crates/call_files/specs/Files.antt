-- The files of a request: which texts they hold, and the first one that is refused.
use Rattle.std.specs.Prelude.{◌≡◌, ℕ, List, [], ◌∷◌, ◌++◌, ⊤, Some, None}
use Rattle.io_edge.specs.Known.{Disk, Held}
use Rattle.io_edge.specs.Causes.{Rose}
use Rattle.io_edge.specs.Whole.{IsWhole, IsLonger}
use Rattle.call_files.specs.FaultLines.{long_line}
use Rattle.call_files.specs.Kinds.{kind_word, limit_of, refusal_of}
use Rattle.call_files.specs.declared.kind.TextKind.{TextKind}

-- a file that a request names, and the kind of text that it is to hold
pub record File : Type 0 where
  pub kind : TextKind
  pub name : List ℕ

-- a file of this kind and name
abbrev pub file_of : TextKind → List ℕ → File
file_of kind name = record { kind = kind; name = name }

-- the file holds this text, which is accepted behind the texts before it
abbrev pub IsAccepted : List (List ℕ) → TextKind → Held → List ℕ → Type 0
IsAccepted earlier kind held text = IsWhole held (limit_of kind) text × (refusal_of kind earlier text ≡ None)

-- the file holds too long a text, or one that is refused behind the texts before it, and the line says so
pub data IsRefused (earlier : List (List ℕ)) (kind : TextKind) (held : Held) (line : List ℕ) : Type 0 where
  too_long : IsLonger held (limit_of kind) → line ≡ long_line (kind_word kind)
      → IsRefused earlier kind held line
  faulty : (text : List ℕ) → IsWhole held (limit_of kind) text → refusal_of kind earlier text ≡ Some line
      → IsRefused earlier kind held line

-- the files hold these texts, and each is accepted behind the texts before it
abbrev pub AreAccepted : (List ℕ → Held) → List (List ℕ) → List File → List (List ℕ) → Type 0
AreAccepted holds earlier [] [] = ⊤
AreAccepted holds earlier (file ∷ files) (text ∷ texts) =
    IsAccepted earlier file.kind (holds file.name) text × AreAccepted holds (earlier ++ text ∷ []) files texts
AreAccepted holds earlier [] (text ∷ texts) = ⊥
AreAccepted holds earlier (file ∷ files) [] = ⊥

-- one of the files, where those before it are accepted, so that there is reason to read it
pub record ComesTo (holds : List ℕ → Held) (files : List File) (file : File) : Type 0 where
  pub before : List File
  pub behind : List File
  pub all : files ≡ before ++ file ∷ behind
  pub texts : List (List ℕ)
  pub accepted : AreAccepted holds [] before texts

-- the first file that is refused, and its line
pub record HasRefused (holds : List ℕ → Held) (files : List File) (line : List ℕ) : Type 0 where
  pub file : File
  pub comes : ComesTo holds files file
  pub refused : IsRefused comes.texts file.kind (holds file.name) line

-- the count of a file rose that there was reason to read
pub record FileRose (files : List File) (disk disk_now : Disk) : Type 0 where
  pub file : File
  pub comes : ComesTo disk.holds files file
  pub rose : Rose (disk.faults file.name) (disk_now.faults file.name)
