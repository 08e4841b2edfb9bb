-- That known files are accepted in one way or refused in one way.
use Rattle.std.specs.Prelude.{◌≡◌, ◌≢◌, ℕ, List, [], ◌∷◌, ⊤}
use Rattle.io_edge.specs.Known.{Held, unknown}
use Rattle.call_files.specs.Files.{AreAccepted, File, HasRefused}

-- of each of the files it is known which bytes stand under its name, or that there is none
abbrev pub AreKnown : (List ℕ → Held) → List File → Type 0
AreKnown holds [] = ⊤
AreKnown holds (file ∷ files) = (holds file.name ≢ unknown) × AreKnown holds files

-- known files hold at most one list of texts that are accepted in turn
abbrev pub AcceptedTextsAreOne : Type 0
AcceptedTextsAreOne = (holds : List ℕ → Held) (files : List File) (one other : List (List ℕ))
    → AreKnown holds files
    → AreAccepted holds [] files one → AreAccepted holds [] files other → one ≡ other

-- the first refused one has at most one line
abbrev pub RefusedLinesAreOne : Type 0
RefusedLinesAreOne = (holds : List ℕ → Held) (files : List File) (one other : List ℕ) → AreKnown holds files
    → HasRefused holds files one → HasRefused holds files other → one ≡ other

-- where all are accepted, none is refused
abbrev pub AcceptedOrRefused : Type 0
AcceptedOrRefused = (holds : List ℕ → Held) (files : List File) (texts : List (List ℕ)) (line : List ℕ)
    → AreKnown holds files → AreAccepted holds [] files texts → ¬ HasRefused holds files line
