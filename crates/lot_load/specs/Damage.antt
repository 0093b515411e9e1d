-- The text under the key of a command that comes, which may be damaged (docs/FORMATS.md, Tables).
use Rattle.std.specs.Prelude.{◌≡◌, IfOk, IfSome, IsErr, List, ℕ, Option, Result, Some, option_map, slice_get}
use Rattle.sqlite.specs.State.{HasCleanDisk, State}
use Rattle.lot_command.specs.declared.key.Key.{Key}
use Rattle.lot_print.specs.Canonical.{IsCanonical}
use Rattle.lot_rows.specs.Entry.{named}
use Rattle.lot_rows.specs.Tables.{Has, Tables}
use Rattle.lot_rows.specs.declared.entry.EntryRow.{EntryRow}
use Rattle.lot_table.specs.declared.fault.Fault.{Fault}

-- the text that the tables have under a key
abbrev pub text_in : Tables → Key → Option (List ℕ)
text_in tables key = option_map (λ (row : EntryRow). row.body) (slice_get (named key.source key.name tables.entry) 0)

-- it is the canonical text of no command
abbrev pub HasDamagedText : Tables → Key → Type 0
HasDamagedText tables key = (text : List ℕ) × (text_in tables key ≡ Some text) × (¬ IsCanonical text)

-- on tables with a damaged text under the key a call fails
abbrev pub FindsDamage : {R : Type 0} → Key → State → State → Result R Fault → Type 0
FindsDamage key old new result =
    HasCleanDisk new → (tables : Tables) → Has old tables → HasDamagedText tables key → IsErr result

-- ---- a text that isn't damaged

-- the tables have this text under the key, and it is the canonical text of a command; or they have none
abbrev pub HasText : Tables → Key → Option (List ℕ) → Type 0
HasText tables key text = (text_in tables key ≡ text) × IfSome text IsCanonical

-- an answer tells the text that the tables have under the key, whatever else they hold
abbrev pub FindsText : {R : Type 0} → (R → Option (List ℕ)) → Key → State → State → Result R Fault → Type 0
FindsText {R} told key old new result =
    HasCleanDisk new → IfOk result (λ (answer : R). (tables : Tables) → Has old tables → HasText tables key (told answer))
