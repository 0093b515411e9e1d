-- What a call may leave in the book, and what is told of the book that a dry run would leave (docs/RULES.md, The program).
use Rattle.std.specs.Prelude.{if◌then◌else◌, Bool, true, false, List, codes}
use Rattle.std.specs.Str.{bytes_eq}
use Rattle.clap.specs.Words.{Row, Text}
use Rattle.lot_args.specs.Options.{is_set}
use Rattle.lot_args.specs.declared.request.Effect.{Effect}
use Rattle.lot_args.specs.declared.request.Effect.TheVariants.{DryRun, Keep}
use Rattle.lot_args.specs.declared.request.Preview.{Preview}
use Rattle.lot_args.specs.declared.request.Preview.TheVariants.{Nothing, Gains, Holdings, GainsAndHoldings}

-- what is told of the book that a call leaves: nothing where that is kept
abbrev pub preview_of : Effect → Preview
preview_of Keep = Nothing
preview_of (DryRun preview) = preview

-- the option that asks for the gains of the sales which a dry run would add: that of `import` which is called so names an account
abbrev pub gains_option : Text → Text
gains_option word = if bytes_eq word (codes "import") then codes "sales" else codes "gains"

-- what the options of a word ask to be told
abbrev pub preview_asked : Text → List Row → Preview
preview_asked word rows =
    if is_set (codes "holdings") rows then (if is_set (gains_option word) rows then GainsAndHoldings else Holdings)
    else (if is_set (gains_option word) rows then Gains else Nothing)

-- what a call of the word may leave in the book
abbrev pub effect_of : Text → List Row → Effect
effect_of word rows = if is_set (codes "dry-run") rows then DryRun (preview_asked word rows) else Keep
