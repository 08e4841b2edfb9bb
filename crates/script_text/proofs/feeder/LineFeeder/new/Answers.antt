use Rattle.std.proofs.Common.{refl}
use Rattle.script_text.proofs.Feeding.{begun-taken}
use Rattle.script_text.proofs.feeder.LineFeeder.new.Goals as goal

pub returns-clause-begun : goal.returns-clause-begun
returns-clause-begun c = begun-taken _ refl refl c.new.ensures
