use Rattle.lot_parts.proofs.EntryLemmas.{canonical_ledger}
use Rattle.lot_parts.proofs.laws.a_canonical_text_is_ledger_text.Goals as goal

pub returns : goal.returns
returns c = canonical_ledger
