use Rattle.std.specs.Prelude.{option_copied}
use Rattle.std.proofs.Common.{◌∙◌, ap, sym}
use Rattle.std.proofs.lemmas.Result.{err_from_is_err_and}
use Rattle.lot_recall.proofs.LookLemmas.{not_recalled, out_of_memory, was_recalled}
use Rattle.lot_recall.proofs.legs.FewLegs.recall.Goals as goal

pub returns-in_err-recalled-in-Some-clause-recalls : goal.returns-in_err-recalled-in-Some-clause-recalls
returns-in_err-recalled-in-Some-clause-recalls c =
    let fault = err_from_is_err_and c.from_residual.result c.from_residual.ensures.1 in
    rw (fault.1, fault.2)
    (out_of_memory c.args.key.now c.args.self.now.rows.items c.in-Some.row.now c.args.narration (sym c.at.ensures ∙ ap option_copied c.in-Some.is))

pub returns-in_ok-recalled-in-Some-clause-recalls : goal.returns-in_ok-recalled-in-Some-clause-recalls
returns-in_ok-recalled-in-Some-clause-recalls c =
    was_recalled c.args.key.now c.args.self.now.rows.items c.in-Some.row.now c.args.narration _ (sym c.at.ensures ∙ ap option_copied c.in-Some.is) c.in_ok-recalled-in-Some.ensures

pub returns-in-None-clause-recalls : goal.returns-in-None-clause-recalls
returns-in-None-clause-recalls c =
    not_recalled c.args.key.now c.args.self.now.rows.items c.args.narration (sym c.at.ensures ∙ ap option_copied c.in-None.is)
