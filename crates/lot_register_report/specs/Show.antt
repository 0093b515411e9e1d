-- The register of accounts of a book, written as its legs are read (docs/FORMATS.md, Register).
use Rattle.std.specs.Prelude.{◌≡◌, ◌≢◌, ◌⊎◌, ℕ, ℤ, IsTrue, not, List, [], ◌∷◌, ◌++◌, OnOk, Option, None, Some, Result, Ok, Err, ⊤}
use Rattle.std.specs.Io.KnownBytes.{Appends}
use Rattle.std.specs.List.{AllByRecursion}
use Rattle.lot_book.specs.Facts.{Entry}
use Rattle.lot_book_report.specs.declared.fault.ShowFault.{ShowFault}
use Rattle.lot_book_report.specs.declared.fault.ShowFault.TheVariants.{Row as AtRow, Walk as AtWalk}
use Rattle.lot_legs.specs.Legs.{AreAllLegRows, dated_legs, is_by}
use Rattle.lot_legs.specs.declared.leg.DatedLeg.{DatedLeg}
use Rattle.lot_noted.specs.Book.{Asked, NeverFall, register_legs}
use Rattle.lot_noted.specs.Keys.{AreInOrder, HasTaken as HasTakenKeys}
use Rattle.lot_noted.specs.declared.key.LegKey.{LegKey}
use Rattle.lot_recall.specs.Place.{AreRowsAt}
use Rattle.lot_recall.specs.Wanted.{AreWanted, AreWantedRows, IsBehindWanted, IsBehindWantedRows, Wanted}
use Rattle.lot_recall.specs.declared.register.RegisterPlace.{RegisterPlace}
use Rattle.lot_register.specs.Left.{stays}
use Rattle.lot_register.specs.Register.{Terms, lines_to, register_lines}
use Rattle.lot_register.specs.declared.leg.NotedLeg.{NotedLeg}
use Rattle.lot_register_report.specs.declared.days.DayTally.{DayTally}
use Rattle.lot_register_report.specs.declared.keys.KeyTally.{KeyTally}
use Rattle.lot_report.specs.Fed.{joined}
use Rattle.lot_report.specs.Report.{EachFits}
use Rattle.lot_report.specs.Written.{AppendsPrefix}
use Rattle.lot_report.specs.declared.fault.ReportFault.TheVariants.{Memory, Range, Write}
use Rattle.lot_report.specs.declared.fault.RowFault.TheVariants.{Report, Spent}
use Rattle.lot_rows.specs.Tables.{Tables}
use Rattle.lot_store.specs.declared.fault.StoreFault.TheVariants as store_fault
use Rattle.lot_store.specs.declared.walk.WalkFault.TheVariants.{Ended, Failed}
use Rattle.lot_stored.specs.StandFor.{StandFor}
use Rattle.lot_walk.specs.Step.{IsPrefix}

-- ---- the keys

-- they are those of the legs of the book that are asked for, in their own order
abbrev pub AreKeysOf : Asked → List Entry → List LegKey → Type 0
AreKeysOf asked entries keys = AreInOrder asked (dated_legs entries) keys

-- the same of all rows of the table, whatever it stands for
abbrev pub AreKeysOfRows : Asked → Tables → List LegKey → Type 0
AreKeysOfRows asked tables keys = (legs : List DatedLeg) × AreAllLegRows tt tables legs × AreInOrder asked legs keys

-- these legs were taken, and no other
abbrev pub HasTaken : Asked → List DatedLeg → KeyTally → Type 0
HasTaken asked legs tally = HasTakenKeys asked legs tally.keys

-- keys are taken, and none is written
abbrev pub AreNoLines : Asked → List DatedLeg → List (List ℕ) → Type 0
AreNoLines asked legs lines = lines ≡ []

-- ---- the days

-- no day is later than the last one
abbrev pub AreUpTo : Option ℤ → List ℤ → Type 0
AreUpTo None days = days ≡ []
AreUpTo (Some last) days = AllByRecursion (λ (day : ℤ). IsTrue (is_by last day)) days

-- these days were taken, and it is known whether they never fall
abbrev pub HasTakenDays : Unit {0} → List ℤ → DayTally → Type 0
HasTakenDays asked days tally = IsTrue tally.never_fall → NeverFall days × AreUpTo tally.last days

-- days are taken, and none is written
abbrev pub AreNoDayLines : Unit {0} → List ℤ → List (List ℕ) → Type 0
AreNoDayLines asked days lines = lines ≡ []

-- ---- where a walk begins

-- a place stands before the legs of a register
pub record BeginsLegs (asked : Asked) (entries : List Entry) (place : RegisterPlace) : Type 0 where
  pub wanted : Wanted
  pub begins : (tables : Tables) → StandFor tables entries → IsPrefix AreWanted wanted entries [] × IsBehindWanted place tables wanted entries []
  pub are : (legs : List NotedLeg) → AreWanted wanted entries legs → legs ≡ register_legs asked entries

-- rows of the tables that say legs, at the keys of those that are asked for
abbrev pub AreLegsOfRows : Asked → Tables → List NotedLeg → Type 0
AreLegsOfRows asked tables legs = (keys : List LegKey) × AreKeysOfRows asked tables keys × AreRowsAt keys tables legs

-- the same of the rows of the tables, whatever these stand for
pub record BeginsRows (asked : Asked) (tables : Tables) (place : RegisterPlace) : Type 0 where
  pub wanted : Wanted
  pub begins : IsBehindWantedRows place tables wanted []
  pub are : (legs : List NotedLeg) → AreWantedRows wanted tables legs → AreLegsOfRows asked tables legs

-- the fault is one of the book, or of memory
abbrev pub IsOfKeys : ShowFault → Type 0
IsOfKeys (AtWalk fault) = ⊤
IsOfKeys (AtRow (Report Memory)) = ⊤
IsOfKeys (AtRow (Report Range)) = ⊥
IsOfKeys (AtRow (Report Write)) = ⊥
IsOfKeys (AtRow Spent) = ⊥

-- ---- what is written

-- whole rows are, up to some leg, or nothing at all
abbrev pub StopsWithin : Terms → List NotedLeg → Option (List ℕ) → Option (List ℕ) → Type 0
StopsWithin terms legs start now =
    Appends start now []
    ⊎ ((given : List NotedLeg) × (rest : List NotedLeg) × (legs ≡ given ++ rest) × EachFits stays [] given
    × Appends start now (joined (lines_to terms.0 terms.1 given)))

-- those of one leg or more are, or nothing at all, not even the names of the columns
abbrev pub StopsBehindLeg : Terms → List NotedLeg → Option (List ℕ) → Option (List ℕ) → Type 0
StopsBehindLeg terms legs start now =
    Appends start now []
    ⊎ ((leg : NotedLeg) × (given : List NotedLeg) × (rest : List NotedLeg) × (legs ≡ (leg ∷ given) ++ rest)
    × EachFits stays [] (leg ∷ given) × Appends start now (joined (lines_to terms.0 terms.1 (leg ∷ given))))

-- the rows before the first leg behind which what is left isn't in the range of units
abbrev pub StopsAtRange : Terms → List NotedLeg → Option (List ℕ) → Option (List ℕ) → Type 0
StopsAtRange terms legs start now =
    (given : List NotedLeg) × (leg : NotedLeg) × (rest : List NotedLeg) × (legs ≡ given ++ leg ∷ rest) × EachFits stays [] given
    × IsTrue (not (stays given leg)) × Appends start now (joined (lines_to terms.0 terms.1 given))

-- The register of legs is written behind what the writer held. Where the book stops, or memory ends, whole rows are, or nothing.
-- Only where memory ends, the names of the columns may stand alone. Where what is left leaves its range, the rows before are.
-- Where the writer fails, a prefix of the register is, but not all of it.
abbrev pub ShowsRegister : Terms → List NotedLeg → Option (List ℕ) → Option (List ℕ) → Result (Unit {0}) ShowFault → Type 0
ShowsRegister terms legs start now (Ok done) = EachFits stays [] legs × Appends start now (joined (register_lines terms.0 terms.1 legs))
ShowsRegister terms legs start now (Err (AtWalk (Failed fault))) =
    StopsWithin terms legs start now × (fault ≢ store_fault.Memory → StopsBehindLeg terms legs start now)
ShowsRegister terms legs start now (Err (AtWalk Ended)) = ⊥
ShowsRegister terms legs start now (Err (AtRow (Report Range))) = StopsAtRange terms legs start now
ShowsRegister terms legs start now (Err (AtRow (Report Memory))) = StopsWithin terms legs start now
ShowsRegister terms legs start now (Err (AtRow (Report Write))) = AppendsPrefix start now (joined (register_lines terms.0 terms.1 legs))
ShowsRegister terms legs start now (Err (AtRow Spent)) = ⊥

-- whatever the tables are, the register of some legs is written, or as much of it as a fault leaves
abbrev pub ShowsSomeRegister : Terms → Option (List ℕ) → Option (List ℕ) → Result (Unit {0}) ShowFault → Type 0
ShowsSomeRegister terms start now result = (legs : List NotedLeg) × ShowsRegister terms legs start now result

-- where no fault ends it, it is that of the rows of the tables that are asked for, in the order of their keys
abbrev pub ShowsAllLegs : Terms → Asked → Tables → Option (List ℕ) → Option (List ℕ) → Result (Unit {0}) ShowFault → Type 0
ShowsAllLegs terms asked tables start now result =
    OnOk result ((keys : List LegKey) × AreKeysOfRows asked tables keys × (legs : List NotedLeg) × AreRowsAt keys tables legs
    × ShowsRegister terms legs start now result)
