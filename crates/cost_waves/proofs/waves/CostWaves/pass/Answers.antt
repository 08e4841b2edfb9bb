use Rattle.std.proofs.Common.{◌≡◌, ℕ, List, ap, sym, ◌∙◌, subst, arith}
use Rattle.std.specs.Vec.{with_items}
use Rattle.std.proofs.lemmas.List.{with_items_is}
use Rattle.cost_waves.specs.Stored.{WaveData, Tells, IsBlank}
use Rattle.cost_waves.proofs.Blank.{blank}
use Rattle.cost_waves.proofs.Least.{tells}
use Rattle.cost_waves.proofs.waves.CostWaves.pass.Goals as goal

pub returns-in-Ok-clause-tells : goal.returns-in-Ok-clause-tells
returns-in-Ok-clause-tells g c =
    let w = c.self.inside in
    let wide : w.width ≡ (g.T.Terrain.grid c.args.t.now).width =
    ap (λ (w : WaveData). w.width) c.self.view_is ∙ c.requires.width in
    let r = with_items_is (with_items w.ranks c.forget.new.ranks) c.pass_from-outcome.new.ranks
    (omega arith) in
    let f = with_items_is (with_items w.firsts c.forget.new.firsts) c.pass_from-outcome.new.firsts
    (omega arith) in
    subst (λ (rs : List ℕ). Tells (g.T.Terrain.grid c.args.t.now) c.args.from
    (record {
      width = w.width;
      height = w.height;
      ranks = rs;
      firsts = (with_items (with_items w.firsts c.forget.new.firsts) c.pass_from-outcome.new.firsts).items;
    })) (sym r)
    (subst (λ (fs : List ℕ). Tells (g.T.Terrain.grid c.args.t.now) c.args.from
    (record { width = w.width; height = w.height; ranks = c.pass_from-outcome.new.ranks; firsts = fs }))
    (sym f)
    (tells (g.T.Terrain.grid c.args.t.now) c.args.from c.in-Ok.ensures.whole c.pass_from-outcome.new.ranks
    c.pass_from-outcome.new.firsts c.in-Ok.ensures.swept w.width w.height wide))

pub returns-in-Err-clause-forgotten : goal.returns-in-Err-clause-forgotten
returns-in-Err-clause-forgotten g c =
    let w = c.self.inside in
    let rs : List ℕ = (with_items (with_items (with_items w.ranks c.forget.new.ranks)
    c.pass_from-outcome.new.ranks)
    c.forget-in-Err.new.ranks).items in
    let fs : List ℕ = (with_items (with_items (with_items w.firsts c.forget.new.firsts)
    c.pass_from-outcome.new.firsts)
    c.forget-in-Err.new.firsts).items in
    let r : rs ≡ c.forget-in-Err.new.ranks = with_items_is (with_items (with_items w.ranks c.forget.new.ranks)
    c.pass_from-outcome.new.ranks) c.forget-in-Err.new.ranks (omega arith) in
    let f : fs ≡ c.forget-in-Err.new.firsts = with_items_is (with_items
    (with_items w.firsts c.forget.new.firsts)
    c.pass_from-outcome.new.firsts) c.forget-in-Err.new.firsts (omega arith) in
    subst (λ (ks : List ℕ). IsBlank (record {
      width = w.width;
      height = w.height;
      ranks = ks;
      firsts = fs;
    })) (sym r)
    (subst (λ (ks : List ℕ). IsBlank (record {
      width = w.width;
      height = w.height;
      ranks = c.forget-in-Err.new.ranks;
      firsts = ks;
    })) (sym f)
    (blank w.width w.height c.forget-in-Err.new.ranks c.forget-in-Err.new.firsts
    c.forget-in-Err.ensures.far c.forget-in-Err.ensures.none))

pub pass_from-outcome-requires-clause-from : goal.pass_from-outcome-requires-clause-from
pass_from-outcome-requires-clause-from g c = c.requires.from
