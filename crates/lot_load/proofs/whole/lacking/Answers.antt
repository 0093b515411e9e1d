-- What is known whole is left out.
use Rattle.std.specs.Prelude.{ℕ, List, not}
use Rattle.std.specs.BTreeSet.{contains}
use Rattle.std.proofs.Common.{rules}
use Rattle.std.proofs.lemmas.Fn.{filter_same}
use Rattle.lot_base.specs.Text.{text_cmp}
use Rattle.lot_book.specs.Change.{pair_cmp}
use Rattle.lot_book.specs.declared.change.Pair.{Pair}
use Rattle.lot_load.proofs.whole.lacking.Goals as goal

pub returns-clause-accounts : goal.returns-clause-accounts
returns-clause-accounts c =
    filter_same _ (λ (k : List ℕ). not (contains text_cmp c.args.whole.now.accounts k)) _ (λ k b f' called. search rules)
    c.args.touched.accounts.keys c.retain.new.self.keys c.retain.ensures.filtered

pub returns-clause-declared : goal.returns-clause-declared
returns-clause-declared c =
    filter_same _ (λ (k : List ℕ). not (contains text_cmp c.args.whole.now.declared k)) _ (λ k b f' called. search rules)
    c.args.touched.declared.keys c.retain-2.new.self.keys c.retain-2.ensures.filtered

pub returns-clause-pairs : goal.returns-clause-pairs
returns-clause-pairs c =
    filter_same _ (λ (k : Pair). not (contains pair_cmp c.args.whole.now.pairs k)) _ (λ k b f' called. search rules)
    c.args.touched.pairs.keys c.retain-3.new.self.keys c.retain-3.ensures.filtered

pub returns-clause-plain : goal.returns-clause-plain
returns-clause-plain c =
    filter_same _ (λ (k : List ℕ). not (contains text_cmp c.args.whole.now.plain k)) _ (λ k b f' called. search rules)
    c.args.touched.plain.keys c.retain-4.new.self.keys c.retain-4.ensures.filtered
