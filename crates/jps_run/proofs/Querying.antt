-- The work on one query.
use Rattle.std.proofs.Common.{◌≡◌, ◌*◌, ◌∙◌, ℕ, sym, ap, subst, List, [], ◌∷◌, arith}
use Rattle.std.specs.Global.{Vec}
use Rattle.std.specs.Prelude.{None}
use Rattle.grid_moves.specs.declared.Cell.{Cell}
use Rattle.grid_moves.specs.Layers.{Layers}
use Rattle.edit_replay.proofs.Edits.{edited-nothing}
use Rattle.edit_replay.specs.Counting.{states_away}
use Rattle.edit_replay.specs.Session.{SessionData}
use Rattle.edit_replay.specs.declared.reply.Reply.{Reply}
use Rattle.script_text.specs.declared.command.ScriptCommand.TheVariants.{Query}
use Rattle.word_list.specs.declared.request.Show.{Show}
use Rattle.jps_run.specs.Answers.{query_line, solve_output}
use Rattle.jps_run.specs.Parts.{Prints, printed}
use Rattle.jps_run.specs.Session.{session_replies}
use Rattle.jps_run.specs.Rising.{RoseForQuery, RoseForCommands}
use Rattle.reply_lines.specs.Lines.{reply_line}
use Rattle.jps_run.specs.Querying.{IsQueryWork}
use Rattle.jps_run.specs.declared.work.Work.TheVariants as work
use Rattle.jps_run.specs.Who.{Who, fewest_by, most_by, reply_to, who_is}
use Rattle.jps_run.proofs.Solving.{nothing_edited}

-- a session that is asked one query as its script
module _ (d : SessionData) (show : Show) (sx sy gx gy : ℕ) where
  abbrev start : Cell
  start = record { x = sx; y = sy }

  abbrev goal : Cell
  goal = record { x = gx; y = gy }

  pub one-line : (lines : List (List ℕ)) (status : ℕ)
      → Prints (solve_output (session_replies d) show d.layers (Query sx sy gx gy ∷ [])) lines status
      → Prints (printed (query_line (session_replies d) show d.layers start goal) 0) lines status
  one-line lines status w = record {
    all = w.all ∙ ap (λ (ls : Layers). query_line (session_replies d) show ls start goal ∷ [])
        (edited-nothing d.layers);
    code = w.code;
  }

  pub one-rose : (old new : ℕ) → RoseForCommands d (Query sx sy gx gy ∷ []) old new
      → RoseForQuery (who_is d) start goal old new
  one-rose old new r =
      let rose : RoseForQuery (who_is d) start goal old r.0 =
      subst (λ (k : SessionData). RoseForQuery (who_is k) start goal old r.0) (sym (nothing_edited d)) r.1 in
      subst (λ (n : ℕ). RoseForQuery (who_is d) start goal old n) (sym r.2) rose

-- the line of one reply that was made at once, where no most is known and nothing is counted
pub replied-work : (who : Who) (show : Show) (s t : Cell) (reply : Reply) (width : ℕ) (text : Vec ℕ)
    → reply ≡ reply_to who s t → fewest_by who.by ≡ 0 → most_by who.by ≡ None
    → width ≡ who.layers.land.width → text.items ≡ reply_line width show reply
    → IsQueryWork who show s t (work.Print text 0)
replied-work who show s t reply width text is none unbounded wide e = record {
  can = tt;
  right = λ lines status w. record {
    all = w.0 ∙ ap (λ (l : List ℕ). l ∷ []) (e ∙ ap (λ (w : ℕ). reply_line w show reply) wide
        ∙ ap (λ (r : Reply). reply_line who.layers.land.width show r) is);
    code = w.1;
  };
  counted = λ old new later. record {
    fewest = rw none (let least : states_away (reply_to who s t) * 0 ≡ 0 = omega arith in omega arith);
    most = rw unbounded tt;
  };
}
