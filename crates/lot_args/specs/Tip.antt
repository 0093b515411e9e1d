-- Options that a word of the program has under another name than another word does (docs/RULES.md, The program).
use Rattle.std.specs.Prelude.{if◌then◌else◌, ◌||◌, ◌==◌, ◌++◌, Bool, not, List, drop, Option, Some, None, codes, find, option_and_then}
use Rattle.std.specs.List.{list_any, starts_with}
use Rattle.std.specs.Str.{bytes_eq}
use Rattle.clap.specs.Words.{Text}
use Rattle.lot_args.specs.declared.tip.Tip.{Tip}
use Rattle.lot_args.specs.declared.tip.Tip.TheVariants.{AsOf, Gains, Last}

-- the option that is meant
abbrev pub meant_by : Tip → Text
meant_by Last = codes "--last"
meant_by AsOf = codes "--as-of"
meant_by Gains = codes "--gains"

-- the one in place of which it stands
abbrev pub given_for : Tip → Text
given_for Last = codes "--as-of"
given_for AsOf = codes "--last"
given_for Gains = codes "--sales"

-- what is said of both
abbrev pub tip_text : Tip → Text
tip_text tip = codes "'" ++ meant_by tip ++ codes "' stands here in place of '" ++ given_for tip ++ codes "'"

-- the option of a word that has another name elsewhere: the last day of a range, the day at whose end something is held, and the
-- gains of a dry run
abbrev pub tip_of : Text → Option Tip
tip_of word =
    if bytes_eq word (codes "page") || (bytes_eq word (codes "gains") || (bytes_eq word (codes "register") || bytes_eq word (codes "activity")))
    then Some Last
    else (if bytes_eq word (codes "holdings") || bytes_eq word (codes "reconcile") then Some AsOf
    else (if bytes_eq word (codes "post") then Some Gains else None))

-- whether an argument gives an option, alone or with a value behind an equals sign
abbrev pub gives : Text → Text → Bool
gives option word = bytes_eq word option || starts_with ◌==◌ word (option ++ codes "=")

-- whether an argument is no option
abbrev pub is_plain : Text → Bool
is_plain word = not (starts_with ◌==◌ word (codes "-"))

-- the first argument behind the program's name that is none
abbrev pub subcommand_in : List Text → Option Text
subcommand_in words = find is_plain (drop 1 words)

-- the tip of that word, where one of the arguments gives the option in place of which it has another
abbrev pub tip_for : List Text → Option Tip
tip_for words =
    option_and_then (λ tip. if list_any (gives (given_for tip)) words then Some tip else None)
    (option_and_then tip_of (subcommand_in words))
