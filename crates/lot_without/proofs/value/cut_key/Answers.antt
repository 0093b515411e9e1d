-- A text without a blank has no name, so that it is no key.
use Rattle.std.proofs.Common.{lit<, ap, sym, ◌∙◌}
use Rattle.std.specs.Prelude.{option_map}
use Rattle.lot_without.specs.Value.{key_by}
use Rattle.lot_without.proofs.ValueLemmas.{no_key}
use Rattle.lot_without.proofs.value.cut_key.Goals as goal

pub returns-in_err-source-clause-value : goal.returns-in_err-source-clause-value
returns-in_err-source-clause-value c =
    no_key c.args.text.now (c.in_err-source.ensures.byte (lit< tt) (λ w o h. h)) ∙ sym (ap (option_map key_by) c.from_residual.ensures)
