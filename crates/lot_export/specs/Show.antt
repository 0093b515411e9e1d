-- What an export comes to, as ledger text (docs/FORMATS.md, Profiles).
use Rattle.std.specs.Prelude.{ℕ, List, ◌∷◌, ◌++◌, codes, decimal, flat_map, Option, Some, None}
use Rattle.std.specs.List.{slice_get, zip}
use Rattle.lot_base.specs.Day.{day_text}
use Rattle.lot_command.specs.Canonical.{canonical}
use Rattle.lot_command.specs.declared.command.Command.{Command}
use Rattle.lot_command.specs.declared.command.Command.TheVariants as command
use Rattle.lot_command.specs.declared.key.Key.{Key}
use Rattle.lot_command.specs.declared.transaction.Amount.{Amount}
use Rattle.lot_command.specs.declared.transaction.Posting.{Posting}
use Rattle.lot_num.specs.AmountText.{amount_text}
use Rattle.lot_rounding.specs.declared.asked.Asked.{Asked}
use Rattle.lot_rounding.specs.declared.ratio.Change.{Change}
use Rattle.lot_rounding.specs.declared.ratio.Change.TheVariants.{InRatio, ByUnits}
use Rattle.lot_export.specs.declared.export.Export.{Export}
use Rattle.lot_export.specs.declared.named.Named.{Named}
use Rattle.lot_export.specs.declared.show.Lots.{Lots}

-- ---- Splits.

-- how lots are split, and of which commodity and account they are
pub record PlainLots : Type 0 where
  pub change : Change
  pub commodity : List ℕ
  pub account : List ℕ

abbrev pub plain : Lots → PlainLots
plain lots = record { change = lots.change; commodity = lots.commodity.now; account = lots.account.now }

abbrev pub lots_of_amount : Change → List ℕ → Option Amount → Option PlainLots
lots_of_amount change account None = None
lots_of_amount change account (Some amount) =
    Some (record { change = change; commodity = amount.commodity; account = account })

abbrev pub lots_of_posting : Change → Option Posting → Option PlainLots
lots_of_posting change None = None
lots_of_posting change (Some posting) = lots_of_amount change posting.account posting.amount

abbrev pub lots_of_command : Change → Command → Option PlainLots
lots_of_command change (command.Transaction t) = lots_of_posting change (slice_get t.postings 0)
lots_of_command change _ = None

abbrev pub lots_by : Option Change → Command → Option PlainLots
lots_by None command = None
lots_by (Some change) command = lots_of_command change command

-- the lots of a split, if that is asked for: those that the first posting of the command names that stands for it
abbrev pub lots_of : Asked → Option PlainLots
lots_of asked = lots_by asked.split asked.command

-- how a split is told
abbrev pub told : Change → List ℕ → List ℕ → List ℕ
told (InRatio ratio) commodity account =
    codes "split " ++ (decimal ratio.new ++ (codes ":" ++ (decimal ratio.old ++ (codes " of " ++ (commodity ++ (codes " in " ++ account))))))
told (ByUnits units) commodity account =
    codes "split, " ++ (amount_text 0 8 units ++ (codes " units of " ++ (commodity ++ (codes " added in " ++ account))))

-- ---- Rows.

-- a comment with the number of a row and the name of its key
abbrev pub headed : ℕ → List ℕ → List ℕ
headed number name = codes "; row " ++ (decimal number ++ (codes " key " ++ name))

abbrev pub shown_command : ℕ → Key → Command → List ℕ
shown_command number key command = headed number key.name ++ (10 ∷ canonical command)

abbrev pub shown_split : ℕ → Key → PlainLots → List ℕ
shown_split number key lots = headed number key.name ++ (codes ": " ++ (told lots.change lots.commodity lots.account ++ codes "\n"))

abbrev pub shown_by : ℕ → Key → Command → Option PlainLots → List ℕ
shown_by number key command None = shown_command number key command
shown_by number key command (Some lots) = shown_split number key lots

-- a row that is handed in: its command below a comment; a split is a comment alone, which says how the lots are split
abbrev pub shown_row : ℕ × (Key × Asked) → List ℕ
shown_row row = shown_by row.0 row.1.0 row.1.1.command (lots_of row.1.1)

abbrev pub shown_given : List ℕ → List (Key × Asked) → List ℕ
shown_given numbers commands = flat_map shown_row (zip numbers commands)

-- a comment for a row that is posted by hand
abbrev pub shown_hand : Named → List ℕ
shown_hand row =
    codes "; row " ++ (decimal row.number ++ (codes " by hand on " ++ (day_text row.day ++ (codes " key " ++ (row.name ++ codes "\n")))))

abbrev pub shown_hands : List Named → List ℕ
shown_hands rows = flat_map shown_hand rows

-- a comment that counts the rows that are passed over
abbrev pub shown_aside : ℕ → List ℕ
shown_aside skipped = codes "; " ++ decimal skipped ++ codes " skipped\n"

abbrev pub shown_text : Export → List ℕ
shown_text export =
    shown_given export.given.numbers.items export.given.commands.items ++ shown_hands export.by_hand ++ shown_aside export.skipped
