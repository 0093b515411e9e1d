use Rattle.lot_completion.proofs.ByFormLemmas.{completion_by_form}
use Rattle.lot_completion.proofs.laws.a_completion_is_one_by_form.Goals as goal

pub returns : goal.returns
returns c ties facts account decimals bound cash t written crumbs completed at is is_bound within =
    completion_by_form ties facts account decimals cash t written crumbs completed is at bound is_bound within
