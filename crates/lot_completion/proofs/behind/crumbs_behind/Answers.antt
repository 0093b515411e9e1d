-- A posting with an amount adds its currency, unless that is there.
use Rattle.std.proofs.Common.{◌∙◌, ap, rules, sym}
use Rattle.lot_book.specs.Currencies.{sum_in}
use Rattle.lot_completion.specs.Formed.{parts_in, with_new}
use Rattle.lot_completion.proofs.ReadLemmas.{crumbs_next, crumbs_same}
use Rattle.lot_completion.proofs.behind.crumbs_behind.Goals as goal
use Rattle.lot_completion.proofs.behind.crumbs_behind.Goals.{in-Some+in_ok-push_new, in_default}

pub loop-posting-preserved : goal.loop-posting-preserved
loop-posting-preserved c =
    let xs = c.args.postings.now in
    let i = c.loop-posting.posting-index in
    let x = c.posting-item.result in
    let f = sum_in (parts_in xs) in
    elim c.match-posting.branch [
      | in-Some+in_ok-push_new w ↦
          let currency = w.in-Some.amount.commodity in
          w.crumbs-is ∙ w.in_ok-push_new.ensures ∙ ap (λ cs. with_new cs (currency, f currency)) c.loop-posting.invariant
          ∙ sym (crumbs_next xs i x (search rules) c.posting-item.is f w.in-Some.amount w.in-Some.is)
      | in_default w ↦ w.crumbs-is ∙ c.loop-posting.invariant ∙ sym (crumbs_same xs i x (search rules) c.posting-item.is f w.in_default.is)
    ]
