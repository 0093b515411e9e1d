-- Once the first day that is left is kept, the others are still to be.
use Rattle.std.proofs.Common.{◌≡◌, ◌∷◌, List, ℤ, sym, ap, ◌∙◌}
use Rattle.std.specs.BTreeMap.{is_at}
use Rattle.std.specs.List.Sorted.{IsStrictlySortedBy}
use Rattle.std.specs.Map.{keys_of, lookup}
use Rattle.std.specs.Option.{option_or}
use Rattle.std.proofs.lemmas.Map.Keys.{sorted_tail}
use Rattle.lot_book.specs.declared.change.Pair.{Pair}
use Rattle.lot_view.specs.View.{day_in}
use Rattle.lot_view.proofs.ViewLemmas.{days-turn}
use Rattle.lot_view.proofs.view.keep_heads.Goals as goal
use Rattle.lot_book.specs.Change.{pair_cmp}

pub loop-pair-preserved : goal.loop-pair-preserved
loop-pair-preserved c =
    let left = c.loop-pair.pair-iterator in
    let rest = c.next.new.self in
    let k = c.in-Some.pair.now in
    let day = c.in-Some.day.now in
    let had = c.loop-pair.heads in
    let first : left ≡ (k, day) ∷ rest = c.in-Some.ensures.steps in
    let sorted : IsStrictlySortedBy pair_cmp (k ∷ keys_of rest) = rw first at c.loop-pair.invariant.left in
    record {
      all = λ p.
          days-turn k day rest (day_in had p.account p.commodity) (day_in c.set_day.new.heads p.account p.commodity) p sorted
          (c.in_ok-set_day.ensures.ok p.account p.commodity)
          ∙ ap (λ (rows : List (Pair × ℤ)). option_or (lookup (is_at (pair_cmp p)) rows) (day_in had p.account p.commodity))
          (sym first)
          ∙ c.loop-pair.invariant.all p;
      left = sorted_tail pair_cmp k (keys_of rest) sorted;
    }
