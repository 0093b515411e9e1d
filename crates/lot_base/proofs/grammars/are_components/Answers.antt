use Rattle.std.proofs.Common.{rules, lit<}
use Rattle.std.proofs.lemmas.Iterator.Search.{all_from_yields_List}
use Rattle.std.proofs.lemmas.Iterator.Splits.{YieldsList-from_str_split}
use borrow.Author.Tests.{tests}
use Rattle.lot_base.specs.Name.{is_component}
use Rattle.lot_base.proofs.grammars.are_components.Goals as goal

pub returns : goal.returns
returns c =
    all_from_yields_List is_component _ _ _ c.all.ensures.ran
    (YieldsList-from_str_split 58 c.args.text.now (lit< tt) c.split.ensures.text c.split.ensures.has_more c.split.ensures.pattern)
    (λ x b q k. search (rules, tests))
