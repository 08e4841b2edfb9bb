-- The lines of entries.
use Rattle.std.proofs.Common.{◌≡◌, refl, sym, ap, ◌∙◌, List, [], ◌∷◌, ◌++◌, ℕ, inl, inr}
use Rattle.std.proofs.Common.{true, false, Bool, ◌&&◌, arith, ◌≤◌}
use Rattle.std.specs.Prelude.{◌≢◌, if◌then◌else◌, Option, Some, None, is_some, Result, Ok, Err, OnOk, Vec}
use Rattle.std.specs.Global.{Global}
use Rattle.std.specs.List.{list_all}
use Rattle.std.proofs.lemmas.List.{append-nil, map-append}
use Rattle.std.proofs.lemmas.List.Folds.{list_all-append}
use Rattle.root2_cost.specs.declared.Cost.{Cost}
use Rattle.grid_moves.specs.Layers.{Layers}
use Rattle.line_work.specs.Working.{Adds, CanComplete, IsLeft}
use Rattle.scen_text.specs.declared.entry.Entry.{Entry}
use Rattle.scen_maker.specs.Lengths.{is_line, length_line, length_lines, lengths_status, line_with}
use Rattle.scen_maker.specs.Listing.{AreListed, HaveListed}
use Rattle.scen_maker.specs.Settling.{least_in, settled_of}
use Rattle.scen_maker.specs.declared.costs.Settled.{Settled}
use Rattle.scen_maker.specs.declared.lengths.Lengths.{Lengths}

-- first lines can be completed
pub lengths-complete : CanComplete HaveListed AreListed false
lengths-complete first now some others lines h =
    let ls : Layers = first.costs in
    let text : List ℕ = first.text.items in record {
      more = length_lines ls text others;
      status = lengths_status (length_lines ls text (some ++ others));
      whole = record {
        are = ap (λ (l : List (List ℕ)). l ++ length_lines ls text others) h.are
            ∙ sym (map-append (length_line ls text) some others);
        same_status = refl;
      };
      some = left-over ls text others;
    }
  where
    left-over : (ls : Layers) (text : List ℕ) (others : List Entry) → IsLeft false others
        → length_lines ls text others ≢ []
    left-over ls text [] (inl left) = absurd (left refl)
    left-over ls text (o ∷ others) (inl left) =
        λ empty. (let never : length_line ls text o ∷ length_lines ls text others ≡ [] = empty in cc)
    left-over ls text others (inr closed) = absurd (let never : false ≡ true = closed in cc)

-- something stands behind these bytes
after-some : (xs : List ℕ) (y : ℕ) (ys : List ℕ) → is_line (xs ++ y ∷ ys) ≡ true
after-some [] y ys = refl
after-some (x ∷ xs) y ys = refl

-- a line stands where a walk exists
line-known : (text : List ℕ) (entry : Entry) (least : Option Cost)
    → is_line (line_with text entry least) ≡ is_some least
line-known text entry None = refl
line-known text entry (Some cost) = after-some _ 10 []

all-more : (lines : List (List ℕ)) (line : List ℕ) (all known : Bool) → all ≡ list_all is_line lines
    → is_line line ≡ known → (all && known) ≡ list_all is_line (lines ++ line ∷ [])
all-more lines line all known e f =
    ap (λ (b : Bool). b && known) e
    ∙ ap (λ (b : Bool). list_all is_line lines && b) (sym f ∙ sym (last (is_line line)))
    ∙ sym (list_all-append is_line lines (line ∷ []))
  where
    last : (b : Bool) → (b && true) ≡ b
    last true = refl
    last false = refl

-- one entry more has its line, or nothing
pub listed-more : {T E : Type 0} (result : Result T E) (job now : Lengths) (entry : Entry) (how : Settled)
    (least : Option Cost) (text before after : List ℕ) → how ≡ settled_of job.costs entry
    → least ≡ least_in how → text ≡ job.text.items → now.costs ≡ job.costs → now.text ≡ job.text
    → now.all ≡ (job.all && is_some least) → OnOk result (after ≡ before ++ line_with text entry least)
    → OnOk result ((first : Lengths) (entries : List Entry) (lines : List (List ℕ))
    → HaveListed first job entries lines
    → Adds (HaveListed first now (entries ++ entry ∷ [])) lines before after)
listed-more (Err error) job now entry how least text before after is found whole costs kept known added = tt
listed-more (Ok done) job now entry how least text before after is found whole costs kept known added =
    λ first entries lines h. record {
      more = line_with text entry least ∷ [];
      stand = record {
        are = ap (λ (l : List (List ℕ)). l ++ line_with text entry least ∷ []) h.are
            ∙ ap (λ (l : List ℕ). length_lines first.costs first.text.items entries ++ l ∷ []) (here first h)
            ∙ sym (map-append (length_line first.costs first.text.items) entries (entry ∷ []));
        known = known ∙ all-more lines (line_with text entry least) job.all (is_some least) h.known
            (line-known text entry least);
        same = costs ∙ h.same;
        kept = kept ∙ h.kept;
      };
      appended = added ∙ ap (λ (l : List ℕ). before ++ l) (sym (append-nil (line_with text entry least)));
    }
  where
    here : (first : Lengths) {entries : List Entry} {lines : List (List ℕ)}
        → HaveListed first job entries lines
        → line_with text entry least ≡ length_line first.costs first.text.items entry
    here first h =
        ap (λ (o : Option Cost). line_with text entry o) (found ∙ ap least_in is)
        ∙ ap (λ (t : List ℕ). line_with t entry (least_in (settled_of job.costs entry))) whole
        ∙ ap (λ (v : Vec ℕ Global). line_with v.items entry (least_in (settled_of job.costs entry))) h.kept
        ∙ ap (λ (ls : Layers). length_line ls first.text.items entry) h.same

-- the status is 0 or 1
pub small_lengths_status : (lines : List (List ℕ)) → lengths_status lines ≤ 1
small_lengths_status lines = by_test (list_all is_line lines)
  where
    by_test : (b : Bool) → (if b then 0 else 1) ≤ 1
    by_test true = omega arith
    by_test false = omega arith
