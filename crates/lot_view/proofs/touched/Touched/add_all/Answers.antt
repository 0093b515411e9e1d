-- One more posting adds what it looks at.
use Rattle.std.proofs.Common.{List, ◌∙◌, refl, subst}
use Rattle.std.proofs.lemmas.List.{take_all}
use Rattle.lot_base.specs.Text.{text_cmp}
use Rattle.lot_command.specs.declared.transaction.Posting.{Posting}
use Rattle.lot_view.specs.declared.touched.Touched.{Touched}
use Rattle.lot_book.specs.Touched.{accounts_of, elided_of, if_elided, pair_of, pairs_of}
use Rattle.lot_view.proofs.TouchedLemmas.{adds_next, adds_next_one, adds_none}
use Rattle.lot_view.proofs.touched.Touched.add_all.Goals as goal
use Rattle.lot_view.specs.Sets.{Adds}
use Rattle.lot_book.specs.Change.{pair_cmp}

pub loop-posting-init : goal.loop-posting-init
loop-posting-init c =
    let now : Touched = c.args.self.now in record {
      accounts = adds_none text_cmp now.accounts;
      declared = refl;
      pairs = adds_none pair_cmp now.pairs;
      plain = adds_none text_cmp now.plain;
    }

pub loop-posting-preserved : goal.loop-posting-preserved
loop-posting-preserved c =
    let so_far : Touched = c.loop-posting.self in
    let before : Touched = c.args.self.now in
    let after : Touched = c.add.new.self in
    let ps : List Posting = c.args.postings.now in
    let i = c.loop-posting.posting-index in
    let p : Posting = c.posting-item.result in
    let inside = c.loop-posting-test.true in
    let is = c.posting-item.is in record {
      accounts = adds_next_one text_cmp
          (λ (q : Posting). q.account) before.accounts so_far.accounts after.accounts ps i p inside is
          c.loop-posting.invariant.accounts c.in_ok-add.ensures.accounts;
      declared = c.in_ok-add.ensures.declared ∙ c.loop-posting.invariant.declared;
      pairs = adds_next pair_cmp
          (λ (q : Posting). pair_of q.account q.amount) before.pairs so_far.pairs after.pairs ps i p inside is
          c.loop-posting.invariant.pairs c.in_ok-add.ensures.pairs;
      plain = adds_next text_cmp
          (λ (q : Posting). if_elided q.account q.amount) before.plain so_far.plain after.plain ps i p inside is
          c.loop-posting.invariant.plain c.in_ok-add.ensures.plain;
    }

pub returns-clause-accounts : goal.returns-clause-accounts
returns-clause-accounts c =
    let ps : List Posting = c.args.postings.now in
    let before : Touched = c.args.self.now in
    let after : Touched = c.loop-posting.self in
    subst (λ (qs : List Posting). Adds text_cmp before.accounts (accounts_of qs) after.accounts)
    (take_all c.loop-posting.posting-index ps c.loop-posting-test.false) c.loop-posting.invariant.accounts

pub returns-clause-pairs : goal.returns-clause-pairs
returns-clause-pairs c =
    let ps : List Posting = c.args.postings.now in
    let before : Touched = c.args.self.now in
    let after : Touched = c.loop-posting.self in
    subst (λ (qs : List Posting). Adds pair_cmp before.pairs (pairs_of qs) after.pairs)
    (take_all c.loop-posting.posting-index ps c.loop-posting-test.false) c.loop-posting.invariant.pairs

pub returns-clause-plain : goal.returns-clause-plain
returns-clause-plain c =
    let ps : List Posting = c.args.postings.now in
    let before : Touched = c.args.self.now in
    let after : Touched = c.loop-posting.self in
    subst (λ (qs : List Posting). Adds text_cmp before.plain (elided_of qs) after.plain)
    (take_all c.loop-posting.posting-index ps c.loop-posting-test.false) c.loop-posting.invariant.plain
