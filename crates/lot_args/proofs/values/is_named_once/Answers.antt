use Rattle.std.proofs.Common.{rules, lit<}
use Rattle.std.proofs.lemmas.Iterator.Consumers.{YieldsList-at, YieldsList-from_filter, nth_from_yields_List}
use Rattle.std.proofs.lemmas.Iterator.Splits.{YieldsList-from_str_split}
use Rattle.std.specs.Str.{bytes_eq}
use borrow.Author.Tests.{tests}
use Rattle.lot_args.proofs.ValueLemmas.{no_second}
use Rattle.lot_args.proofs.values.is_named_once.Goals as goal

pub returns : goal.returns
returns c =
    no_second _ c.nth.result _ c.is_none.result
    (nth_from_yields_List c.nth.result _ 1 c.nth.ensures.ran
    (YieldsList-from_filter _ (λ part. bytes_eq part c.args.name.now)
    (YieldsList-at (search rules)
    (YieldsList-from_str_split {s = c.split.result} 44 c.args.text.now (lit< tt) c.split.ensures.text c.split.ensures.has_more c.split.ensures.pattern))
    c.filter.ensures.closure (λ x b q k. search (rules, tests))))
    c.is_none.ensures
