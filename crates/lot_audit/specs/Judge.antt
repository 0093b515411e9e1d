-- What judging the tables of a book comes to.
use Rattle.std.specs.Prelude.{◌≡◌, [], ◌∷◌}
use Rattle.lot_rows.specs.Tables.{Tables, layout}
use Rattle.lot_stored.specs.Rows.{this_edition}
use Rattle.lot_stored.specs.StandFor.{AreOfBook}
use Rattle.lot_audit.specs.Told.{AmountsTold, HeldHasRows, LegsWithin, NamesTold}
use Rattle.lot_audit.specs.declared.pass.Replayed.{Replayed}
use Rattle.lot_view.specs.View.{known as facts_known}

-- The tables agree with what is known of their entries.
pub record Agree (known : Replayed) (tables : Tables) : Type 0 where
  pub names : NamesTold known.replay.view tables
  pub amounts : AmountsTold known.replay.view known.rates tables
  pub held : HeldHasRows known.replay.view tables
  pub legs : LegsWithin (facts_known known.replay.view).entries tables

-- they are marked as those of a book of this edition
abbrev pub AreOfThisEdition : Tables → Type 0
AreOfThisEdition tables = tables.book ≡ this_edition ∷ []

-- Tables with the same columns stand for a book. Two lists of rows can have the same columns: a label that is none and one
-- that is empty; only one of them is that of a book.
abbrev pub StandByColumns : Tables → Type 0
StandByColumns tables = (good : Tables) × (layout.slots good ≡ layout.slots tables) × AreOfBook good
