-- The commodity is among the options that are looked at.
use Rattle.std.proofs.Common.{[], ◌∷◌}
use Rattle.clap.specs.Words.{found_of, rows_of}
use Rattle.lot_args.specs.declared.fault.BadOption.TheVariants.{Account, Commodity, First, Format, Last}
use Rattle.lot_args.proofs.ValueLemmas.{good_alone, none_of_both}
use Rattle.lot_args.proofs.words.register.Goals as goal

pub commodity-requires : goal.commodity-requires
commodity-requires c =
    let rows = rows_of (found_of c.args.options.now) in
    good_alone rows Commodity
    (none_of_both rows (Commodity ∷ []) (First ∷ Last ∷ Format ∷ [])
    (none_of_both rows (Account ∷ []) (Commodity ∷ First ∷ Last ∷ Format ∷ []) c.requires).1).0
