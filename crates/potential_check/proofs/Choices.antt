-- The first of some optional values.
use Rattle.std.proofs.Common.{◌≡◌, refl}
use Rattle.std.specs.Prelude.{Option, Some, None}
use Rattle.std.specs.Option.{option_or}

or_assoc : {X : Type 0} (a b c : Option X) → option_or (option_or a b) c ≡ option_or a (option_or b c)
or_assoc None b c = refl
or_assoc (Some x) b c = refl

or_none : {X : Type 0} (a : Option X) → option_or a None ≡ a
or_none None = refl
or_none (Some x) = refl

-- eight of them, asked one after the other
pub eight : {X : Type 0} (a b c d e f g h : Option X)
    → option_or (option_or (option_or (option_or (option_or (option_or (option_or a b) c) d) e) f) g) h
    ≡ option_or a (option_or b (option_or c (option_or d (option_or e (option_or f (option_or g
    (option_or h None)))))))
eight a b c d e f g h = simp (or_assoc, or_none)
