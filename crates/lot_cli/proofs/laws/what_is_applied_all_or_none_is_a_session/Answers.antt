use Rattle.sqlite.specs.Held.{state}
use Rattle.lot_cli.proofs.AllOrNoneLemmas.{all_leave, kept_leaves}
use Rattle.lot_cli.proofs.laws.what_is_applied_all_or_none_is_a_session.Goals as goal

pub returns-clause-leaves : goal.returns-clause-leaves
returns-clause-leaves c start old new rounding asked entries verdicts ended it replied more =
    all_leave rounding asked entries (state c.S.Store old) (state c.S.Store new) verdicts ended it replied more

pub returns-clause-kept : goal.returns-clause-kept
returns-clause-kept c start old new rounding asked entries verdicts ended it =
    kept_leaves rounding asked entries (state c.S.Store old) (state c.S.Store new) verdicts ended it
