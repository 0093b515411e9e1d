-- Each insertion adds one item.
use Rattle.std.proofs.Common.{[], ◌∷◌, ◌≡◌, List, ℕ, ap, subst, sym, ◌∙◌}
use Rattle.std.proofs.lemmas.Cmp.{nat_list_cmp_total}
use Rattle.lot_base.specs.Text.{text_cmp}
use Rattle.lot_command.specs.declared.transaction.Amount.{Amount}
use Rattle.lot_book.specs.declared.change.Pair.{Pair}
use Rattle.lot_book.specs.Touched.{if_elided, pair_of}
use Rattle.lot_view.proofs.TouchedLemmas.{adds_one, pairs_total}
use Rattle.lot_view.proofs.touched.Touched.add.Goals as goal
use Rattle.lot_view.specs.Sets.{Adds}
use Rattle.lot_book.specs.Change.{pair_cmp}

pub returns-in_ok-insert-in-Some-clause-accounts : goal.returns-in_ok-insert-in-Some-clause-accounts
returns-in_ok-insert-in-Some-clause-accounts c =
    subst (λ (k : List ℕ). Adds text_cmp c.args.self.now.accounts (k ∷ []) c.insert.new.self) c.in_ok-copy.ensures
    (adds_one text_cmp nat_list_cmp_total c.args.self.now.accounts c.insert.new.self c.in_ok-copy.field-0
    c.in_ok-insert.ensures.updates c.in_ok-insert.ensures.ordered)

pub returns-in_ok-insert-in-Some-clause-pairs : goal.returns-in_ok-insert-in-Some-clause-pairs
returns-in_ok-insert-in-Some-clause-pairs c =
    let key : Pair = record { account = c.in_ok-account-in-Some.account; commodity = c.in_ok-commodity-in-Some.commodity } in
    let amount : Amount = c.in-Some.amount in
    let same : key ≡ record { account = c.args.posting.now.account; commodity = amount.commodity } =
    λ i. record { account = c.in_ok-account-in-Some.ensures i; commodity = c.in_ok-commodity-in-Some.ensures i } in
    subst (λ (items : List Pair). Adds pair_cmp c.args.self.now.pairs items c.insert-in-Some.new.self)
    (ap (λ (k : Pair). k ∷ []) same ∙ ap (pair_of c.args.posting.now.account) (sym c.in-Some.is))
    (adds_one pair_cmp pairs_total c.args.self.now.pairs c.insert-in-Some.new.self key
    c.in_ok-insert-in-Some.ensures.updates c.in_ok-insert-in-Some.ensures.ordered)

pub returns-in_ok-insert-in-None-clause-accounts : goal.returns-in_ok-insert-in-None-clause-accounts
returns-in_ok-insert-in-None-clause-accounts c =
    subst (λ (k : List ℕ). Adds text_cmp c.args.self.now.accounts (k ∷ []) c.insert.new.self) c.in_ok-copy.ensures
    (adds_one text_cmp nat_list_cmp_total c.args.self.now.accounts c.insert.new.self c.in_ok-copy.field-0
    c.in_ok-insert.ensures.updates c.in_ok-insert.ensures.ordered)

pub returns-in_ok-insert-in-None-clause-plain : goal.returns-in_ok-insert-in-None-clause-plain
returns-in_ok-insert-in-None-clause-plain c =
    subst (λ (items : List (List ℕ)). Adds text_cmp c.args.self.now.plain items c.insert-in-None.new.self)
    (ap (λ (k : List ℕ). k ∷ []) c.in_ok-copy-in-None.ensures ∙ ap (if_elided c.args.posting.now.account) (sym c.in-None.is))
    (adds_one text_cmp nat_list_cmp_total c.args.self.now.plain c.insert-in-None.new.self c.in_ok-copy-in-None.field-0
    c.in_ok-insert-in-None.ensures.updates c.in_ok-insert-in-None.ensures.ordered)
