use Rattle.std.proofs.Common.{◌∙◌, rules}
use Rattle.std.proofs.lemmas.Iterator.{YieldsList-from_slice}
use Rattle.std.proofs.lemmas.Iterator.Search.{any_from_yields_List}
use Rattle.std.specs.String.{string_bytes}
use Rattle.clap.proofs.WalkLemmas.{list_any-map}
use Rattle.lot_args.specs.Tip.{gives, given_for}
use Rattle.lot_args.proofs.tip.is_given.Goals as goal

pub returns : goal.returns
returns c =
    any_from_yields_List (λ word. gives (given_for c.args.tip) (string_bytes word)) _ _ _ c.any.ensures.ran
    (YieldsList-from_slice c.args.words.now c.iter.ensures.rest) (λ x b q k. search rules)
    ∙ list_any-map (gives (given_for c.args.tip)) string_bytes c.args.words.now
