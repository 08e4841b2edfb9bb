-- Texts that begin with a text.
use Rattle.std.proofs.Common.{◌≡◌, ℕ, List, [], ◌++◌, append_assoc, refl, sym, ap, ◌∙◌}
use Rattle.std.proofs.lemmas.List.{append-nil}
use Rattle.text_line.specs.Writing.{Begins}

pub begins_same : (old new : List ℕ) → new ≡ old → Begins old new
begins_same old new e = ([], e ∙ sym (append-nil old))

pub begins_then : (a b c : List ℕ) → Begins a b → Begins b c → Begins a c
begins_then a b c (x, e) (y, f) = (x ++ y, f ∙ ap (λ (l : List ℕ). l ++ y) e ∙ append_assoc a x y)

pub begins_on : (old new more : List ℕ) → Begins old new → Begins old (new ++ more)
begins_on old new more begins = begins_then old new (new ++ more) begins (more, refl)
