-- Where the names stand in what was written.
use Rattle.std.proofs.Common.{◌≡◌, ℕ, zero, suc, ◌+◌, ◌-◌, List, [], ◌∷◌, ◌++◌, length, take, drop, ap}
use Rattle.std.proofs.Common.{sym, ◌∙◌, append_assoc, arith, refl}
use Rattle.std.specs.Prelude.{codes, decimal, Some, slice_get}
use Rattle.std.proofs.lemmas.List.{length-append}
use Rattle.std.proofs.Math.Seq.{drop-append_seam, take-append_seam}
use Rattle.scen_text.specs.declared.entry.Entry.{Entry}
use Rattle.scen_text.specs.Names.{bytes_at}
use Rattle.scen_lines.specs.Laws.{Named, line_of, lines_of, scenario_of, entry_at, entries_from, entries_of}
use Rattle.scen_lines.proofs.Fields.{words_text}
use Rattle.scen_lines.proofs.Read.{line_is, later_words}

-- what stands between two texts
between : (front name tail : List ℕ) (start end : ℕ) → start ≡ length front → end ≡ start + length name
    → take (end - start) (drop start (front ++ (name ++ tail))) ≡ name
between front name tail start end from to =
    let long : end - start ≡ length name = omega arith in
    ap (λ n. take n (drop start (front ++ (name ++ tail)))) long
    ∙ ap (λ n. take (length name) (drop n (front ++ (name ++ tail)))) from
    ∙ ap (take (length name)) (drop-append_seam front (name ++ tail))
    ∙ take-append_seam name tail

-- the name of the first line
name_in : (number : ℕ) (before : List ℕ) (entry : Named) (rest : List ℕ)
    → bytes_at (before ++ (line_of entry ++ rest)) (entry_at number (length before) entry).name ≡ entry.name
name_in number before entry rest =
    let bucket = decimal entry.listed.bucket in
    let words = words_text (decimal entry.listed.problem.w) (later_words entry.listed) in
    let front : List ℕ = before ++ (bucket ++ 9 ∷ []) in
    let start = length before + length bucket + 1 in
    let text : before ++ (line_of entry ++ rest) ≡ front ++ (entry.name ++ (9 ∷ words ++ 10 ∷ rest)) =
    ap (λ (line : List ℕ). before ++ (line ++ rest)) (line_is entry)
    ∙ regrouped before bucket (9 ∷ []) entry.name (9 ∷ words) (10 ∷ []) rest in
    let long : start ≡ length front =
    omega (arith, length-append before (bucket ++ 9 ∷ []), length-append bucket (9 ∷ [])) in
    ap (λ (t : List ℕ). bytes_at t (entry_at number (length before) entry).name) text
    ∙ between front entry.name (9 ∷ words ++ 10 ∷ rest) start (start + length entry.name) long refl
  where
    regrouped : (a b t c w n r : List ℕ)
        → a ++ (((b ++ (t ++ (c ++ w))) ++ n) ++ r) ≡ (a ++ (b ++ t)) ++ (c ++ (w ++ (n ++ r)))
    regrouped a b t c w n r = simp append_assoc

names_from : (number : ℕ) (before : List ℕ) (entries : List Named) (k : ℕ) (written : Named) (read : Entry)
    → slice_get entries k ≡ Some written
    → slice_get (entries_from number (length before) entries) k ≡ Some read
    → bytes_at (before ++ lines_of entries) read.name ≡ written.name
names_from number before [] k written read there is = absurd (cc)
names_from number before (entry ∷ entries) zero written read there is =
    let same : entry ≡ written = cc in
    let read_back : entry_at number (length before) entry ≡ read = cc in
    ap (λ (e : Entry). bytes_at (before ++ (line_of entry ++ lines_of entries)) e.name) (sym read_back)
    ∙ name_in number before entry (lines_of entries) ∙ ap (λ (e : Named). e.name) same
names_from number before (entry ∷ entries) (suc k) written read there is =
    let long : length (before ++ line_of entry) ≡ length before + length (line_of entry) =
    length-append before (line_of entry) in
    let later
    : slice_get (entries_from (number + 1) (length (before ++ line_of entry)) entries) k ≡ Some read =
    ap (λ n. slice_get (entries_from (number + 1) n entries) k) long ∙ is in
    ap (λ (t : List ℕ). bytes_at t read.name) (sym (append_assoc before (line_of entry) (lines_of entries)))
    ∙ names_from (number + 1) (before ++ line_of entry) entries k written read there later

pub names_read : (entries : List Named) (k : ℕ) (written : Named) (read : Entry)
    → slice_get entries k ≡ Some written → slice_get (entries_of entries) k ≡ Some read
    → bytes_at (scenario_of entries) read.name ≡ written.name
names_read entries k written read there is =
    names_from 2 (codes "version 1\n") entries k written read there is
