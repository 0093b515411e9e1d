use Rattle.lot_explain.proofs.ShellLemmas.{read_back}
use Rattle.lot_explain.proofs.laws.a_quoted_text_is_read_back.Goals as goal

pub returns : goal.returns
returns c = read_back
