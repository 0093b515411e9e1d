-- The currency of the next lot stands behind the others, unless it is among them.
use Rattle.std.proofs.Common.{◌∙◌, ◌++◌, ◌∷◌, [], cond, ap, sym, rules}
use Rattle.std.specs.List.{list_any}
use Rattle.lot_base.specs.Text.{same_text}
use Rattle.lot_split.specs.Lots.{currencies_of}
use Rattle.lot_split.proofs.CurrencyLemmas.{currencies_more}
use Rattle.lot_split.proofs.ListLemmas.{next_taken}
use Rattle.lot_split.proofs.costs.currencies_of.Goals as goal

pub loop-lot-preserved : goal.loop-lot-preserved
loop-lot-preserved c =
    let xs = c.args.lots.now in
    let i = c.loop-lot.lot-index in
    let x = c.lot-item.result in
    let taken = next_taken xs i x (search rules) c.lot-item.is in
    c.in_ok-push_new.ensures
    ∙ ap (λ ks. cond (list_any (same_text x.key.currency) ks) ks (ks ++ x.key.currency ∷ [])) c.loop-lot.invariant
    ∙ sym (ap currencies_of taken ∙ currencies_more _ x)
