-- The text that is given is a commodity.
use Rattle.std.specs.Prelude.{◌≡◌, true, List, ℕ, Option, Some, codes, option_map}
use Rattle.std.specs.Option.{option_map_or}
use Rattle.std.specs.Borrow.{Bor}
use Rattle.std.proofs.Common.{◌∙◌, ap, subst, sym}
use Rattle.clap.specs.Words.{first_of, found_of, rows_of}
use Rattle.lot_base.specs.Name.{is_commodity}
use Rattle.lot_args.proofs.values.commodity.Goals as goal

pub commodity_named-requires : goal.commodity_named-requires
commodity_named-requires c =
    let is : first_of (codes "commodity") (rows_of (found_of c.args.options.now)) ≡ Some c.in-Some.text.now =
    sym c.given.ensures ∙ ap (option_map (λ (text : Bor (List ℕ)). text.now)) c.in-Some.is in
    subst (λ (o : Option (List ℕ)). option_map_or is_commodity o true ≡ true) is c.requires
