-- That what `check` accepts holds, and that what `prove` prints is accepted.
use Rattle.std.specs.Prelude.{◌≡◌, ℕ, List, None, Ok}
use Rattle.grid_moves.specs.declared.Cell.{Cell}
use Rattle.grid_moves.specs.Grid.{GridData}
use Rattle.grid_moves.specs.Layers.{query_grid}
use Rattle.map_text.specs.Map.{Map}
use Rattle.map_text.specs.Faults.{map_of}
use Rattle.potential_check.specs.Accepted.{AcceptsClaim, Holds}
use Rattle.potential_check.specs.Answers.{certificate_answer}
use Rattle.potential_check.specs.Text.{Plain}
use Rattle.potential_check.specs.declared.verdict.Proof.{Proof}
use Rattle.potential_make.specs.Certified.{IsCertified}
use Rattle.potential_make.specs.Made.{made_certificate}
use Rattle.grid_answers.specs.Certificates.{proof_answer, why_unproved}
use Rattle.word_list.specs.declared.request.Settings.{Settings}
use Rattle.call_files.specs.Layered.{layers_on}

-- where a certificate, as it is read, is accepted on a grid, its claim is, and what it proves holds of all
-- walks
abbrev pub AcceptedHold : Type 0
AcceptedHold = (g : GridData) (read : Plain) (proof : Proof) → certificate_answer g read ≡ Ok proof
    → AcceptsClaim g read.head.start read.head.goal read.claim × Holds g read.head.start read.head.goal proof

-- what is printed for a query between free cells of one grid of a map is a certificate that is read and
-- accepted there
abbrev pub ProofsAreAccepted : Type 0
ProofsAreAccepted = (set : Settings) (text : List ℕ) (m : Map) (s t : Cell) → map_of text ≡ Ok m
    → why_unproved (layers_on set m) s t ≡ None
    → (proof_answer (layers_on set m) s t ≡ made_certificate (query_grid (layers_on set m) s) s t)
    × IsCertified (query_grid (layers_on set m) s) s t
