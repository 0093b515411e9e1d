use Rattle.std.proofs.Common.{ap, ◌∙◌, length, take}
use Rattle.std.specs.Prelude.{map}
use Rattle.lot_command.specs.declared.transaction.Transaction.{Transaction as TransactionOf}
use Rattle.lot_completion.specs.Completion.{gets}
use Rattle.lot_completion.proofs.GetsLemmas.{first_get}
use Rattle.lot_completion.proofs.laws.accounts_get_what_was_written.Goals as goal

pub returns : goal.returns
returns c ties facts account decimals t crumbs completed is =
    ap (λ (x : TransactionOf). map gets (take (length t.postings) x.postings)) is.is
    ∙ first_get t.postings is.rated _ is.rates
