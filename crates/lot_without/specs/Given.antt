-- What values of options can name, apart from how they are cut.
use Rattle.std.specs.Prelude.{◌≤◌, ◌<◌, ◌^◌, IsTrue}
use Rattle.lot_base.specs.Name.{is_label}
use Rattle.lot_without.specs.Value.{is_source}
use Rattle.lot_without.specs.declared.value.By.{By}
use Rattle.lot_without.specs.declared.value.By.TheVariants as by
use Rattle.lot_without.specs.declared.without.Without.{Without}
use Rattle.lot_without.specs.declared.without.Without.TheVariants.{Key, Batch, Entries}

-- a key of two labels, the first of them without a blank; a label without a blank; or numbers of 32 bits from 1 on, in order
abbrev pub CanBeGiven : Without → Type 0
CanBeGiven (Key key) = IsTrue (is_source key.source) × IsTrue (is_label key.name)
CanBeGiven (Batch source) = IsTrue (is_source source)
CanBeGiven (Entries first last) = (1 ≤ first) × (first ≤ last) × (last < 2 ^ 32)

-- by what it is named
abbrev pub by_of : Without → By
by_of (Key key) = by.Key
by_of (Batch source) = by.Batch
by_of (Entries first last) = by.Entries
