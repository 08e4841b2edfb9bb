-- Known files are accepted in one way or refused in one way.
use Rattle.std.proofs.Common.{◌≡◌, ◌≢◌, ℕ, ◌⊎◌, inl, inr, refl, ap, sym, ◌∙◌, subst, arith, List, [], ◌∷◌}
use Rattle.std.proofs.Common.{◌++◌, length}
use Rattle.std.specs.Prelude.{Option, Some, None}
use Rattle.std.proofs.lemmas.List.{append-nil, append_assoc}
use Rattle.io_edge.specs.Known.{Held, unknown, absent, holding}
use Rattle.io_edge.specs.Whole.{IsLonger, IsWhole}
use Rattle.call_files.specs.Files.{AreAccepted, File, HasRefused, IsAccepted, IsRefused, too_long, faulty}
use Rattle.call_files.specs.Kinds.{limit_of, refusal_of}
use Rattle.call_files.specs.declared.kind.TextKind.{TextKind}
use Rattle.outcome_laws.specs.Files.{AreKnown}

-- whole texts of a known file are the bytes held
same_whole : (held : Held) (limit : ℕ) (one other : List ℕ) → held ≢ unknown
    → IsWhole held limit one → IsWhole held limit other → one ≡ other
same_whole unknown limit one other known is also = absurd (known refl)
same_whole absent limit one other known is also = absurd is
same_whole (holding bytes) limit one other known is also = is.0 ∙ sym also.0

-- and no longer ones are held
not_longer : (held : Held) (limit : ℕ) (text : List ℕ) → held ≢ unknown → IsWhole held limit text
    → IsLonger held limit → ⊥
not_longer unknown limit text known is longer = known refl
not_longer absent limit text known is longer = is
not_longer (holding bytes) limit text known is longer =
    let same : length text ≡ length bytes = ap (λ (t : List ℕ). length t) is.0 in
    omega (arith, is.1, longer)

-- the line of a refusal
abbrev with_line : List ℕ → Option (List ℕ)
with_line line = Some line

same_line : (one other : List ℕ) → with_line one ≡ with_line other → one ≡ other
same_line one other e = cc

module _ (earlier : List (List ℕ)) (kind : TextKind) (held : Held) (known : held ≢ unknown) where
  same_accepted : (one other : List ℕ) → IsAccepted earlier kind held one → IsAccepted earlier kind held other
      → one ≡ other
  same_accepted one other is also = same_whole held (limit_of kind) one other known is.0 also.0

  pub accepted_not_refused : (text line : List ℕ) → IsAccepted earlier kind held text
      → IsRefused earlier kind held line → ⊥
  accepted_not_refused text line is (too_long longer e) =
      not_longer held (limit_of kind) text known is.0 longer
  accepted_not_refused text line is (faulty other whole fault) =
      let same = same_whole held (limit_of kind) other text known whole is.0 in
      let none : refusal_of kind earlier other ≡ None =
      ap (λ (t : List ℕ). refusal_of kind earlier t) same ∙ is.1 in
      cc

  same_refused : (one other : List ℕ) → IsRefused earlier kind held one → IsRefused earlier kind held other
      → one ≡ other
  same_refused one other (too_long longer e) (too_long also f) = e ∙ sym f
  same_refused one other (too_long longer e) (faulty text whole fault) =
      absurd (not_longer held (limit_of kind) text known whole longer)
  same_refused one other (faulty text whole fault) (too_long longer e) =
      absurd (not_longer held (limit_of kind) text known whole longer)
  same_refused one other (faulty text whole fault) (faulty more also wrong) =
      let same = same_whole held (limit_of kind) text more known whole also in
      let both : refusal_of kind earlier text ≡ refusal_of kind earlier more =
      ap (λ (t : List ℕ). refusal_of kind earlier t) same in
      same_line one other (sym fault ∙ both ∙ wrong)

-- files that are accepted in turn up to one that is refused
abbrev pub ComesToRefusal : (List ℕ → Held) → List (List ℕ) → List File → List ℕ → Type 0
ComesToRefusal holds earlier [] line = ⊥
ComesToRefusal holds earlier (file ∷ files) line = IsRefused earlier file.kind (holds file.name) line
    ⊎ ((text : List ℕ) × IsAccepted earlier file.kind (holds file.name) text
    × ComesToRefusal holds (earlier ++ text ∷ []) files line)

-- where files stop that come to a refusal
record StopsIn (holds : List ℕ → Held) (earlier : List (List ℕ)) (files : List File) (line : List ℕ) : Type 0
  where
    before : List File
    file : File
    behind : List File
    texts : List (List ℕ)
    all : files ≡ before ++ file ∷ behind
    accepted : AreAccepted holds earlier before texts
    refused : IsRefused (earlier ++ texts) file.kind (holds file.name) line

module _ (holds : List ℕ → Held) where
  stops_in : (earlier : List (List ℕ)) (files : List File) (line : List ℕ)
      → ComesToRefusal holds earlier files line → StopsIn holds earlier files line
  stops_in earlier [] line is = absurd is
  stops_in earlier (file ∷ files) line (inl is) = record {
    before = [];
    file = file;
    behind = files;
    texts = [];
    all = refl;
    accepted = tt;
    refused = subst (λ (e : List (List ℕ)). IsRefused e file.kind (holds file.name) line)
        (sym (append-nil earlier)) is;
  }
  stops_in earlier (file ∷ files) line (inr later) =
      let rest = stops_in (earlier ++ later.0 ∷ []) files line later.2 in record {
        before = file ∷ rest.before;
        file = rest.file;
        behind = rest.behind;
        texts = later.0 ∷ rest.texts;
        all = ap (λ (fs : List File). file ∷ fs) rest.all;
        accepted = (later.1, rest.accepted);
        refused = subst (λ (e : List (List ℕ)). IsRefused e rest.file.kind (holds rest.file.name) line)
            (append_assoc earlier (later.0 ∷ []) rest.texts) rest.refused;
      }

  pub refuses : (files : List File) (line : List ℕ) → ComesToRefusal holds [] files line
      → HasRefused holds files line
  refuses files line comes =
      let stop = stops_in [] files line comes in record {
        file = stop.file;
        comes = record {
          before = stop.before;
          behind = stop.behind;
          all = stop.all;
          texts = stop.texts;
          accepted = stop.accepted;
        };
        refused = stop.refused;
      }

  comes_to : (earlier : List (List ℕ)) (before : List File) (file : File) (behind : List File)
      (texts : List (List ℕ)) (line : List ℕ) → AreAccepted holds earlier before texts
      → IsRefused (earlier ++ texts) file.kind (holds file.name) line
      → ComesToRefusal holds earlier (before ++ file ∷ behind) line
  comes_to earlier [] file behind [] line are is = inl (subst (λ (e : List (List ℕ)).
      IsRefused e file.kind (holds file.name) line) (append-nil earlier) is)
  comes_to earlier [] file behind (text ∷ texts) line are is = absurd are
  comes_to earlier (first ∷ before) file behind [] line are is = absurd are
  comes_to earlier (first ∷ before) file behind (text ∷ texts) line are is = inr (
    text,
    are.0,
    comes_to (earlier ++ text ∷ []) before file behind texts line are.1 (subst (λ (e : List (List ℕ)).
        IsRefused e file.kind (holds file.name) line) (sym (append_assoc earlier (text ∷ []) texts)) is),
  )

  pub comes : (files : List File) (line : List ℕ) → HasRefused holds files line
      → ComesToRefusal holds [] files line
  comes files line has = subst (λ (f : List File). ComesToRefusal holds [] f line) (sym has.comes.all)
      (comes_to [] has.comes.before has.file has.comes.behind has.comes.texts line has.comes.accepted
      has.refused)

  accepted_one : (earlier : List (List ℕ)) (files : List File) (one other : List (List ℕ))
      → AreKnown holds files
      → AreAccepted holds earlier files one → AreAccepted holds earlier files other → one ≡ other
  accepted_one earlier [] [] [] known are also = refl
  accepted_one earlier [] [] (text ∷ other) known are also = absurd also
  accepted_one earlier [] (text ∷ one) other known are also = absurd are
  accepted_one earlier (file ∷ files) [] other known are also = absurd are
  accepted_one earlier (file ∷ files) (text ∷ one) [] known are also = absurd also
  accepted_one earlier (file ∷ files) (text ∷ one) (more ∷ other) known are also =
      let same : more ≡ text = same_accepted earlier file.kind (holds file.name) known.0 more text
      also.0 are.0 in
      let rest : one ≡ other = accepted_one (earlier ++ text ∷ []) files one other known.1 are.1
      (subst (λ (t : List ℕ). AreAccepted holds (earlier ++ t ∷ []) files other) same also.1) in
      ap (λ (t : List ℕ). t ∷ one) (sym same) ∙ ap (λ (l : List (List ℕ)). more ∷ l) rest

  refused_one : (earlier : List (List ℕ)) (files : List File) (one other : List ℕ) → AreKnown holds files
      → ComesToRefusal holds earlier files one → ComesToRefusal holds earlier files other → one ≡ other
  refused_one earlier [] one other known is also = absurd is
  refused_one earlier (file ∷ files) one other known (inl is) (inl also) =
      same_refused earlier file.kind (holds file.name) known.0 one other is also
  refused_one earlier (file ∷ files) one other known (inl is) (inr later) =
      absurd (accepted_not_refused earlier file.kind (holds file.name) known.0 later.0 one later.1 is)
  refused_one earlier (file ∷ files) one other known (inr later) (inl is) =
      absurd (accepted_not_refused earlier file.kind (holds file.name) known.0 later.0 other later.1 is)
  refused_one earlier (file ∷ files) one other known (inr later) (inr also) =
      let same : also.0 ≡ later.0 = same_accepted earlier file.kind (holds file.name) known.0 also.0
      later.0 also.1
      later.1 in
      refused_one (earlier ++ later.0 ∷ []) files one other known.1 later.2
      (subst (λ (t : List ℕ). ComesToRefusal holds (earlier ++ t ∷ []) files other) same also.2)

  accepted_none_refused : (earlier : List (List ℕ)) (files : List File) (texts : List (List ℕ))
      (line : List ℕ)
      → AreKnown holds files → AreAccepted holds earlier files texts → ComesToRefusal holds earlier files line
      → ⊥
  accepted_none_refused earlier [] texts line known are is = is
  accepted_none_refused earlier (file ∷ files) [] line known are is = are
  accepted_none_refused earlier (file ∷ files) (text ∷ texts) line known are (inl is) =
      accepted_not_refused earlier file.kind (holds file.name) known.0 text line are.0 is
  accepted_none_refused earlier (file ∷ files) (text ∷ texts) line known are (inr later) =
      let same : later.0 ≡ text = same_accepted earlier file.kind (holds file.name) known.0 later.0 text
      later.1 are.0 in
      accepted_none_refused (earlier ++ text ∷ []) files texts line known.1 are.1
      (subst (λ (t : List ℕ). ComesToRefusal holds (earlier ++ t ∷ []) files line) same later.2)

pub one_list : (holds : List ℕ → Held) (files : List File) (one other : List (List ℕ)) → AreKnown holds files
    → AreAccepted holds [] files one → AreAccepted holds [] files other → one ≡ other
one_list holds files one other known are also = accepted_one holds [] files one other known are also

pub one_line : (holds : List ℕ → Held) (files : List File) (one other : List ℕ) → AreKnown holds files
    → HasRefused holds files one → HasRefused holds files other → one ≡ other
one_line holds files one other known has also =
    refused_one holds [] files one other known (comes holds files one has) (comes holds files other also)

pub not_both : (holds : List ℕ → Held) (files : List File) (texts : List (List ℕ)) (line : List ℕ)
    → AreKnown holds files → AreAccepted holds [] files texts → ¬ HasRefused holds files line
not_both holds files texts line known are has =
    accepted_none_refused holds [] files texts line known are (comes holds files line has)
