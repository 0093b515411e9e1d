use Rattle.std.proofs.Common.{◌≡◌, take}
use Rattle.lot_base.specs.Text.{text_cmp}
use Rattle.lot_book.specs.Touched.{accounts_of, elided_of, pairs_of}
use Rattle.lot_view.proofs.touched.Touched.add_all.Given as goal
use Rattle.lot_view.specs.Sets.{Adds}
use Rattle.lot_book.specs.Change.{pair_cmp}

-- what the first postings look at is added
abbrev pub invariant-loop-posting : goal.invariant-loop-posting
invariant-loop-posting l = record {
  accounts : Adds text_cmp l.fn.self.accounts (accounts_of (take l.posting-index l.postings)) l.self.accounts;
  declared : l.self.declared ≡ l.fn.self.declared;
  pairs : Adds pair_cmp l.fn.self.pairs (pairs_of (take l.posting-index l.postings)) l.self.pairs;
  plain : Adds text_cmp l.fn.self.plain (elided_of (take l.posting-index l.postings)) l.self.plain;
}
