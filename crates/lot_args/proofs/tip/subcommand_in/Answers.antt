use Rattle.std.proofs.Common.{◌∙◌, rules}
use Rattle.std.proofs.lemmas.Iterator.{YieldsList-from_slice}
use Rattle.std.proofs.lemmas.Iterator.Adapters.{YieldsList-from_skip}
use Rattle.std.proofs.lemmas.Iterator.Search.{find_from_yields_List}
use Rattle.std.specs.String.{string_bytes}
use Rattle.lot_args.specs.Tip.{is_plain}
use Rattle.lot_args.proofs.TipLemmas.{found_behind}
use Rattle.lot_args.proofs.tip.subcommand_in.Goals as goal

pub returns : goal.returns
returns c =
    c.text_of.ensures
    ∙ found_behind string_bytes is_plain 1 c.args.words.now c.find.result
    (find_from_yields_List (λ word. is_plain (string_bytes word)) _ _ c.find.result c.find.ensures.ran
    (YieldsList-from_skip 1 (YieldsList-from_slice c.args.words.now (search rules)) (search rules))
    (λ x b q k. search rules))
