-- One round, or none.
use Rattle.table_repair.proofs.walks.lead_on.Goals as goal
