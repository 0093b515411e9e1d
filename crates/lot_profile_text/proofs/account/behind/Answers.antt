-- By the beginning of the text.
use Rattle.lot_profile_text.proofs.TextLemmas.{behind-length, behind-value}
use Rattle.lot_profile_text.proofs.account.behind.Goals as goal

pub returns : goal.returns
returns c = record {
  value = behind-value c.args.beginning.now c.args.text.now c.strip_prefix.result c.strip_prefix.ensures.cases;
  shorter = behind-length c.args.beginning.now c.args.text.now c.strip_prefix.result c.strip_prefix.ensures.cases;
}
