-- `skip_tables::prepare` meets its contract, by the tables of either kind.
-- Assumes nothing.
use Rattle.skip_tables.proofs.prepare.Goals as goal

pub prepare_chains-requires : goal.prepare_chains-requires
prepare_chains-requires c = record { good_pattern = c.requires.good_pattern; all_fixed = c.all_fixed.ensures.0 c.if-all_fixed.true; m_in_bounds = c.requires.m_in_bounds }
