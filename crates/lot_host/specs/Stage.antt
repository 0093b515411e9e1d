-- At which stage of a call a host does what, and the stage then.
use Rattle.std.specs.Prelude.{◌≡◌, ◌⊎◌}
use Rattle.lot_files.specs.declared.opened.Opened.{Opened}
use Rattle.lot_files.specs.declared.opened.Opened.TheVariants as opened
use Rattle.lot_host.specs.declared.stage.Part.{Part}
use Rattle.lot_host.specs.declared.stage.Part.TheVariants.{Old, Own}
use Rattle.lot_host.specs.declared.stage.Stage.{Stage}
use Rattle.lot_host.specs.declared.stage.Stage.TheVariants.{InCopy, InFile, Loaded, OldOpened, OldTaken, Over, Refused, Served, Warned}

-- no book is opened: the words are warned of, and where they name a profile, that is read
abbrev pub IsUnopened : Stage → Type 0
IsUnopened stage = (stage ≡ Warned) ⊎ (stage ≡ Loaded)

-- the book of an action is opened once, behind the one beside which it is made
abbrev pub IsBefore : Stage → Type 0
IsBefore stage = IsUnopened stage ⊎ (stage ≡ OldTaken)

abbrev pub MayOpen : Part → Stage → Type 0
MayOpen Own stage = IsBefore stage
MayOpen Old stage = IsUnopened stage

-- why none is opened is told where none is
abbrev pub MayTell : Stage → Type 0
MayTell stage = IsBefore stage ⊎ (stage ≡ Refused)

-- what is opened is served
abbrev pub MayServe : Stage → Type 0
MayServe stage = (stage ≡ InFile) ⊎ (stage ≡ InCopy)

-- the stage once that is opened
abbrev pub stage_of : {D : Type 0} → Part → Opened D → Stage
stage_of Own (opened.File database) = InFile
stage_of Own (opened.Copy database) = InCopy
stage_of Old database = OldOpened

-- the stage once an empty database is opened
abbrev pub stage_empty : Part → Stage
stage_empty Own = InCopy
stage_empty Old = OldOpened

-- the stage once what was opened is served to its end: a file is to be closed then
abbrev pub served_of : Stage → Stage
served_of InFile = Served
served_of _ = Over
