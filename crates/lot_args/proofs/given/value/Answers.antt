use Rattle.std.proofs.Common.{rules, ap, ◌∙◌}
use Rattle.lot_args.proofs.WordsLemmas.{text_or_empty}
use Rattle.lot_args.proofs.given.value.Goals as goal

pub returns : goal.returns
returns c = ap (λ s. s.now) c.unwrap_or.ensures ∙ (text_or_empty c.given.result _ _ (search rules) c.given.ensures)
