use Rattle.std.proofs.Common.{refl, sym, ap, ℕ, subst}
use Rattle.std.proofs.lemmas.Bool.{true≢false}
use Rattle.open_list.specs.Heaps.{IsHeap}
use Rattle.open_list.proofs.Firsts.{no_flag, root_within, root_open, root_first}
use Rattle.open_list.proofs.pool.Pool.pop.Goals as goal

pub returns-then-first-clause-none : goal.returns-then-first-clause-none
returns-then-first-clause-none g c =
    let before = g.N.Ranked.before in
    let es = c.self.inside.entries.items in (
      (λ _ id opened. no_flag before es (subst
          (λ (k : ℕ). IsHeap before es k) c.if-first.true c.self.invariant) id
          (rw (← c.self.view_is) at opened)),
      (λ _. refl),
    )

pub take_root-self-inside-requires-clause-within : goal.take_root-self-inside-requires-clause-within
take_root-self-inside-requires-clause-within g c =
    rw c.as_mut_slice.ensures.value (root_within g.N.Ranked.before _ _ c.self.invariant c.if-first.false)

pub returns-clause-none : goal.returns-clause-none
returns-clause-none g c =
    let opened = root_open g.N.Ranked.before _ _ c.self.invariant c.if-first.false in (
      (λ some. absurd (true≢false some)),
      (λ none. absurd (none c.self.inside.root (rw (← c.self.view_is) opened))),
    )

pub returns-clause-first : goal.returns-clause-first
returns-clause-first g c =
    root_first g.N.Ranked.before _ _ c.self.invariant c.if-first.false g.met.N.Ranked.order _
    (ap (λ p. p.nodes) (sym c.self.view_is)) (ap (λ p. p.open_at) (sym c.self.view_is))
