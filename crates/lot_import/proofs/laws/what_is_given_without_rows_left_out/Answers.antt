use Rattle.lot_import.proofs.ExceptLaws.{all_remain, numbers_follow, rest_given}
use Rattle.lot_import.proofs.laws.what_is_given_without_rows_left_out.Goals as goal

pub returns-clause-numbers : goal.returns-clause-numbers
returns-clause-numbers c = numbers_follow

pub returns-clause-commands : goal.returns-clause-commands
returns-clause-commands c = rest_given

pub returns-clause-remain : goal.returns-clause-remain
returns-clause-remain c = all_remain
