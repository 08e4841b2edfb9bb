-- Named bytes as they are kept.
use Rattle.std.specs.Prelude.{ℕ, List, String, Vec, map}
use Rattle.std.specs.String.{string_bytes}
use Rattle.std.specs.declared.alloc.Global.{Global}

-- names and bytes as lists
abbrev pub named_bytes : List (String Global × Vec ℕ Global) → List (List ℕ × List ℕ)
named_bytes files = map (λ file. (string_bytes file.0, file.1.items)) files
