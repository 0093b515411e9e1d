-- The legs of a book, each with the day of its entry.
use Rattle.std.specs.Prelude.{◌≡◌, suc, ℤ, Bool, not, int_lt, List, ◌∷◌, ◌++◌, filter, flat_map, length, map}
use Rattle.std.specs.List.{AllByRecursion}
use Rattle.std.specs.Ordering.{nat_cmp, ordering_then}
use Rattle.std.specs.declared.cmp.Ordering.{Ordering}
use Rattle.sqlite_keyed.specs.Lists.{sort_by}
use Rattle.sqlite_rules.specs.Lists.{Has}
use Rattle.lot_command.specs.declared.command.Command.{Command}
use Rattle.lot_command.specs.declared.command.Command.TheVariants.{Closing, Declaring, Opening, Quoting, Transaction}
use Rattle.lot_book.specs.Facts.{Entry}
use Rattle.lot_book.specs.declared.leg.Leg.{Leg}
use Rattle.lot_rows.specs.Leg.{leg_cells}
use Rattle.lot_rows.specs.Tables.{Tables}
use Rattle.lot_rows.specs.declared.leg.LegRow.{LegRow}
use Rattle.lot_legs.specs.Days.{HasDay}
use Rattle.lot_legs.specs.declared.leg.DatedLeg.{DatedLeg}

-- ---- the day of a command

abbrev pub day_of : Command → ℤ
day_of (Opening o) = o.day
day_of (Closing c) = c.day
day_of (Declaring d) = d.day
day_of (Quoting q) = q.day
day_of (Transaction t) = t.day

-- ---- the legs of a book

-- a leg with a day
abbrev pub dated : ℤ → Leg → DatedLeg
dated day leg = record {
  entry = leg.entry;
  day = day;
  posting = leg.posting;
  place = leg.place;
  account = leg.position.account;
  commodity = leg.position.commodity;
  units = leg.units;
  lot = leg.position.lot;
}

-- the leg without its day
abbrev pub leg_in : DatedLeg → Leg
leg_in leg = record {
  entry = leg.entry;
  posting = leg.posting;
  place = leg.place;
  position = record { account = leg.account; commodity = leg.commodity; lot = leg.lot };
  units = leg.units;
}

abbrev pub posting_cmp : Leg → Leg → Ordering
posting_cmp a b = nat_cmp a.posting b.posting

-- legs in the order of their postings; those of one posting stay in their order
abbrev pub by_posting : List Leg → List Leg
by_posting legs = sort_by posting_cmp legs

-- the legs of an entry, each with the day of its command
abbrev pub dated_legs_of : Entry → List DatedLeg
dated_legs_of entry = map (dated (day_of entry.command)) (by_posting entry.legs)

-- the legs of all entries, in their order
abbrev pub dated_legs : List Entry → List DatedLeg
dated_legs entries = flat_map dated_legs_of entries

-- these are the legs of a book with their days, all of them
abbrev pub AreDatedLegs : Unit {0} → List Entry → List DatedLeg → Type 0
AreDatedLegs asked entries given = given ≡ dated_legs entries

-- ---- what is said of them

-- by entry, posting and place
abbrev pub leg_cmp : Leg → Leg → Ordering
leg_cmp a b = ordering_then (nat_cmp a.entry b.entry) (ordering_then (nat_cmp a.posting b.posting) (nat_cmp a.place b.place))

-- the same legs in the order in which they were booked: those of an elided posting behind the others of their entry
abbrev pub booked_legs : List Entry → List DatedLeg
booked_legs entries = flat_map (λ (entry : Entry). map (dated (day_of entry.command)) entry.legs) entries

-- a leg is one of the entry whose number it bears, on the day of its command
pub record IsOfEntry (entries : List Entry) (leg : DatedLeg) : Type 0 where
  pub before : List Entry
  pub entry : Entry
  pub behind : List Entry
  pub whole : entries ≡ before ++ entry ∷ behind
  pub number : leg.entry ≡ suc (length before)
  pub day : leg.day ≡ day_of entry.command
  pub among : Has entry.legs (leg_in leg)

abbrev pub is_by : ℤ → ℤ → Bool
is_by last day = not (int_lt last day)

-- those up to a day, and the entries up to it
abbrev pub legs_by : ℤ → List DatedLeg → List DatedLeg
legs_by last legs = filter (λ (leg : DatedLeg). is_by last leg.day) legs

abbrev pub entries_by : ℤ → List Entry → List Entry
entries_by last entries = filter (λ (entry : Entry). is_by last (day_of entry.command)) entries

-- ---- the rows of the table, whatever it stands for

-- the row of a leg, which says no day
abbrev pub row_in : DatedLeg → LegRow
row_in leg = record {
  entry = leg.entry;
  posting = leg.posting;
  place = leg.place;
  account = leg.account;
  commodity = leg.commodity;
  units = leg.units;
  lot = leg.lot;
}

-- the leg of a row, on a day
abbrev pub dated_row : ℤ → LegRow → DatedLeg
dated_row day row = record {
  entry = row.entry;
  day = day;
  posting = row.posting;
  place = row.place;
  account = row.account;
  commodity = row.commodity;
  units = row.units;
  lot = row.lot;
}

-- These are all rows of the table `leg`, told by their columns. Each has the day with which the text of its entry begins.
pub record AreAllLegRows (asked : Unit {0}) (tables : Tables) (given : List DatedLeg) : Type 0 where
  pub rows : map leg_cells (map row_in given) ≡ map leg_cells tables.leg
  pub days : AllByRecursion (λ (leg : DatedLeg). HasDay tables.entry leg.entry leg.day) given
