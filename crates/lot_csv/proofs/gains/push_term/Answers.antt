use Rattle.std.proofs.Common.{◌∙◌, ◌∷◌, [], ap}
use Rattle.lot_period.specs.Term.{term_text}
use Rattle.lot_csv.proofs.RecordLemmas.{told_fields}
use Rattle.lot_csv.proofs.gains.push_term.Goals as goal

pub returns : goal.returns
returns c =
    told_fields c.push_others.result _ _ _ _ (λ i. (c.as_str.ensures ∙ ap term_text c.term_of.ensures) i ∷ []) c.push_others.ensures
