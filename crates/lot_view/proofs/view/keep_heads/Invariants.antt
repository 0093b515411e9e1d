use Rattle.std.proofs.Common.{◌≡◌}
use Rattle.std.specs.BTreeMap.{is_at}
use Rattle.std.specs.List.Sorted.{IsStrictlySortedBy}
use Rattle.std.specs.Map.{keys_of, lookup}
use Rattle.std.specs.Option.{option_or}
use Rattle.lot_book.specs.declared.change.Pair.{Pair}
use Rattle.lot_view.specs.View.{day_in}
use Rattle.lot_view.proofs.view.keep_heads.Given as goal
use Rattle.lot_book.specs.Change.{day_listed, pair_cmp}

-- the days so far with those that are left are those with all
abbrev pub invariant-loop-pair : goal.invariant-loop-pair
invariant-loop-pair l = record {
  all : (p : Pair) → option_or (lookup (is_at (pair_cmp p)) l.pair-iterator) (day_in l.heads p.account p.commodity)
      ≡ option_or (day_listed l.fn.listed p.account p.commodity) (day_in l.fn.heads p.account p.commodity);
  left : IsStrictlySortedBy pair_cmp (keys_of l.pair-iterator);
}
