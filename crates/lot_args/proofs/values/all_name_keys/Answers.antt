use Rattle.std.proofs.Common.{rules, lit<}
use Rattle.std.proofs.lemmas.Iterator.Search.{all_from_yields_List}
use Rattle.std.proofs.lemmas.Iterator.Splits.{YieldsList-from_str_split}
use Rattle.std.specs.Prelude.{is_some}
use borrow.Author.Tests.{tests}
use Rattle.lot_args.specs.Keys.{key_named}
use Rattle.lot_args.proofs.values.all_name_keys.Goals as goal

pub returns : goal.returns
returns c =
    all_from_yields_List (λ part. is_some (key_named part)) _ _ _ c.all.ensures.ran
    (YieldsList-from_str_split 44 c.args.text.now (lit< tt) c.split.ensures.text c.split.ensures.has_more c.split.ensures.pattern)
    (λ x b q k. search (rules, tests))
