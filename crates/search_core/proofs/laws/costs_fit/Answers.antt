use Rattle.search_core.proofs.Passing as passing
use Rattle.search_core.proofs.laws.costs_fit.Goals as goal

pub returns : goal.returns
returns c = λ layout g s t run u whole is m. passing.costs_fit layout g t whole s run u is m
