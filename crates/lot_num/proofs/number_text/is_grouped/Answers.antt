-- One group is its own list of groups. Else `split` gives the groups, and `all` asks each.
use Rattle.std.proofs.Common.{lit<, rules, tests, sym, ◌∙◌}
use Rattle.std.proofs.lemmas.Iterator.Search.{all_from_yields_List}
use Rattle.std.proofs.lemmas.Iterator.Splits.{YieldsList-from_str_split}
use Rattle.lot_num.specs.NumberText.{is_group}
use Rattle.lot_num.proofs.GrammarLemmas.{group_is_grouped}
use Rattle.lot_num.proofs.number_text.is_grouped.Goals as goal

pub returns-then-is_group : goal.returns-then-is_group
returns-then-is_group c = sym (group_is_grouped c.args.whole.now (sym c.is_group.ensures ∙ c.if-is_group.true))

pub returns : goal.returns
returns c =
    let groups = YieldsList-from_str_split 44 c.args.whole.now (lit< tt) c.split.ensures.text c.split.ensures.has_more c.split.ensures.pattern in
    all_from_yields_List is_group _ _ c.all.result c.all.ensures.ran groups (λ x b q k. search (rules, tests))
