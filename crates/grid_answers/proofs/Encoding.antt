-- A text that is written part by part.
use Rattle.std.proofs.Common.{◌≡◌, refl, sym, ap, ◌∙◌, subst, List, [], ◌++◌, append_assoc, ℕ, ◌+◌, ◌≤◌, take}
use Rattle.std.proofs.Common.{drop, arith}
use Rattle.std.specs.Prelude.{ℤ, flat_map}
use Rattle.std.proofs.lemmas.List.{drop-drop, take-append-drop}
use Rattle.io_edge.specs.Known.{Outflow}
use Rattle.io_edge.specs.Whole.{AppendsSome}
use Rattle.table_file.specs.Encoding.{entry_bytes}
use Rattle.table_file.proofs.Putting.{flat_map-append}
use Rattle.grid_answers.specs.Encoded.{IsWritten}
use Rattle.line_work.specs.Sending.{Wrote, WroteSome}
use Rattle.line_work.proofs.Pieces.{appends-both, appends-part, nothing, part-more, rose-since}

module _ (before : Outflow) where
  -- nothing yet
  pub begun : (text : List ℕ) → IsWritten before before text text
  begun text = record {
    front = [];
    all = refl;
    wrote = nothing before.written;
    later = omega arith;
  }

  -- one part more
  pub part_written : (mid now : Outflow) (text part left : List ℕ) → IsWritten before mid text (part ++ left)
      → Wrote mid now part → mid.faults ≤ now.faults → IsWritten before now text left
  part_written mid now text part left w wrote later = record {
    front = w.front ++ part;
    all = w.all ∙ sym (append_assoc w.front part left);
    wrote = appends-both before.written mid.written now.written w.front part w.wrote wrote;
    later = let l : before.faults ≤ mid.faults = w.later in omega arith;
  }

  -- the write of a part failed
  pub part_failed : (mid now : Outflow) (text part left : List ℕ) → IsWritten before mid text (part ++ left)
      → WroteSome mid now part → WroteSome before now text
  part_failed mid now text part left w some = (
    rose-since before.faults mid.faults now.faults w.later some.0,
    subst (λ (l : List ℕ). AppendsSome before.written now.written l)
        (append_assoc w.front part left ∙ sym w.all)
        (part-more before.written now.written (w.front ++ part) left
        (appends-part before.written mid.written now.written w.front part w.wrote some.1)),
  )

  -- the last part
  pub last_written : (mid now : Outflow) (text part : List ℕ) → IsWritten before mid text part
      → Wrote mid now part → Wrote before now text
  last_written mid now text part w wrote = subst (λ (l : List ℕ). Wrote before now l) (sym w.all)
      (appends-both before.written mid.written now.written w.front part w.wrote wrote)

  -- the write of the last part failed
  pub last_failed : (mid now : Outflow) (text part : List ℕ) → IsWritten before mid text part
      → WroteSome mid now part → WroteSome before now text
  last_failed mid now text part w some = (
    rose-since before.faults mid.faults now.faults w.later some.0,
    subst (λ (l : List ℕ). AppendsSome before.written now.written l) (sym w.all)
        (appends-part before.written mid.written now.written w.front part w.wrote some.1),
  )

-- the bytes of the entries behind a place are those of the next ones, so many, and those of the others
pub entries_split : (entries : List ℤ) (done n : ℕ) → flat_map entry_bytes (drop done entries)
    ≡ flat_map entry_bytes (take n (drop done entries)) ++ flat_map entry_bytes (drop (done + n) entries)
entries_split entries done n =
    ap (flat_map entry_bytes) (sym (take-append-drop n (drop done entries)))
    ∙ flat_map-append entry_bytes (take n (drop done entries)) (drop n (drop done entries))
    ∙ ap (λ (l : List ℤ). flat_map entry_bytes (take n (drop done entries)) ++ flat_map entry_bytes l)
    (drop-drop n done entries)
