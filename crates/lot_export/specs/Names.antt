-- The names of the keys of an export's rows (docs/FORMATS.md, Profiles).
use Rattle.std.specs.Prelude.{ℕ, List}
use Rattle.lot_profile.specs.declared.profile.Profile.{Profile}
use Rattle.lot_export.specs.Export.{Say}
use Rattle.lot_export.specs.Lines.{AreJudged, orders_of}
use Rattle.lot_export.specs.declared.entry.Entry.{Entry}
use Rattle.lot_export.specs.declared.named.Named.{Named}

-- the rows that have a day, in the order of judging, each with the name of its key; none is left out
abbrev pub AreNamed : Profile → List ℕ → List Named → Type 0
AreNamed profile bytes named = (entries : List Entry) × Say profile bytes entries × AreJudged (orders_of profile.tables) entries named
