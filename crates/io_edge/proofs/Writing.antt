-- One write after another.
use Rattle.std.proofs.Common.{ℕ, ◌+◌, List, take, drop, Option, take-add}
use Rattle.std.specs.Io.KnownBytes.{Appends}
use Rattle.std.proofs.KnownBytes.{Appends-trans}

-- the bytes after the first n, appended after these
pub Appends-more : (old mid new : Option (List ℕ)) (bytes : List ℕ) (n more : ℕ)
    → Appends old mid (take n bytes) → Appends mid new (take more (drop n bytes))
    → Appends old new (take (n + more) bytes)
Appends-more old mid new bytes n more front back = rw take-add (Appends-trans old mid new _ _ front back)
