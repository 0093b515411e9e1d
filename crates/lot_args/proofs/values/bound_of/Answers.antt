use Rattle.std.proofs.Common.{◌≡◌, ◌∙◌, Some, ap, sym}
use Rattle.std.specs.Result.{result_ok}
use Rattle.lot_num.specs.NumberText.{total_of}
use Rattle.lot_args.proofs.ValueLemmas.{bound_named}
use Rattle.lot_args.proofs.values.bound_of.Goals as goal

pub returns : goal.returns
returns c =
    let said : result_ok (total_of c.args.text.now) ≡ Some c.in_ok-ok.field-0 =
    sym (c.ok.ensures.value ∙ ap result_ok c.parse_total.ensures) ∙ c.in_ok-ok.was in
    bound_named c.new.result c.args.text.now _ said c.new.ensures
