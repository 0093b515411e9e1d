-- One more row with what it says, or the first that says nothing.
use Rattle.std.specs.Prelude.{zero, suc}
use Rattle.std.specs.List.{slice_get}
use Rattle.std.specs.Option.{unwrap_or}
use Rattle.std.proofs.Common.{◌≡◌, ℕ, ◌+◌, ◌<◌, length, take, drop, get_or, List, [], ◌∷◌, ◌++◌, Some, arith, ap, refl, subst, sym, ◌∙◌}
use Rattle.std.proofs.lemmas.List.{take_more}
use Rattle.lot_profile.specs.declared.profile.Profile.{Profile}
use Rattle.lot_sheet.specs.Part.{Part, Outside, Heading, BadHeading, RowOf, BadRow}
use Rattle.lot_sheet.specs.Sheet.{AreRows, SheetRow, rows_from}
use Rattle.lot_export.specs.Entries.{AreEntries, AreNumbered, FailsAmong, IsEntry, IsRowFault}
use Rattle.lot_export.specs.Export.{HasFault, Say}
use Rattle.lot_export.specs.Lines.{IsOrderFault, orders_of}
use Rattle.lot_export.specs.declared.entry.Entry.{Entry}
use Rattle.lot_export.specs.declared.fault.ExportFault.{ExportFault}
use Rattle.lot_export.specs.declared.fault.ExportFault.TheVariants as fault
use Rattle.lot_export.proofs.ListLemmas.{push, split}

pub says_next : (profile : Profile) (rows : List SheetRow) (at : ℕ) (row : SheetRow) (entries new : List Entry) (entry : Entry)
    → AreEntries profile (take at rows) entries → at < length rows → row ≡ get_or rows at row → IsEntry profile row entry → new ≡ entries ++ entry ∷ []
    → AreEntries profile (take (at + 1) rows) new
says_next profile rows at row entries new entry are small is one is_new =
    rw (take_more rows at row small, ← is, is_new) (push (IsEntry profile) (take at rows) entries row entry are one)

pub fails_at : (profile : Profile) (rows : List SheetRow) (at : ℕ) (row : SheetRow) (entries : List Entry) (given : ExportFault)
    → AreEntries profile (take at rows) entries → at < length rows → row ≡ get_or rows at row → IsRowFault profile row given → FailsAmong profile rows given
fails_at profile rows at row entries (fault.Row number f) are small is fails = record {
  before = take at rows;
  entries = entries;
  row = row;
  after = drop (at + 1) rows;
  all = split rows at row small is;
  earlier = are;
  fails = fails;
}
fails_at profile rows at row entries (fault.NotText line) are small is fails = absurd fails
fails_at profile rows at row entries fault.NoHeader are small is fails = absurd fails
fails_at profile rows at row entries (fault.BadHeader line cause) are small is fails = absurd fails
fails_at profile rows at row entries (fault.BadRow number cause) are small is fails = absurd fails
fails_at profile rows at row entries fault.TooManyRows are small is fails = absurd fails
fails_at profile rows at row entries (fault.Order number) are small is fails = absurd fails
fails_at profile rows at row entries (fault.NothingLeft number) are small is fails = absurd fails
fails_at profile rows at row entries (fault.TooLarge number) are small is fails = absurd fails
fails_at profile rows at row entries fault.Memory are small is fails = tt

-- the fault of the first row that has one is that of the file
pub row_fault : (profile : Profile) (except : List (List ℕ)) (bytes : List ℕ) (rows : List SheetRow) (given : ExportFault)
    → AreRows profile.file profile.tables bytes rows → FailsAmong profile rows given → HasFault profile except bytes given
row_fault profile except bytes rows (fault.Row number f) are fails = record { rows = rows; are_rows = are; fails = fails }
row_fault profile except bytes rows (fault.NotText line) are fails = absurd fails
row_fault profile except bytes rows fault.NoHeader are fails = absurd fails
row_fault profile except bytes rows (fault.BadHeader line cause) are fails = absurd fails
row_fault profile except bytes rows (fault.BadRow number cause) are fails = absurd fails
row_fault profile except bytes rows fault.TooManyRows are fails = absurd fails
row_fault profile except bytes rows (fault.Order number) are fails = absurd fails
row_fault profile except bytes rows (fault.NothingLeft number) are fails = absurd fails
row_fault profile except bytes rows (fault.TooLarge number) are fails = absurd fails
row_fault profile except bytes rows fault.Memory are fails = tt

-- a row that stands against its order is a fault of the file
pub order_fault : (profile : Profile) (except : List (List ℕ)) (bytes : List ℕ) (entries : List Entry) (given : ExportFault)
    → Say profile bytes entries → IsOrderFault (orders_of profile.tables) entries given → HasFault profile except bytes given
order_fault profile except bytes entries (fault.Order number) say fails = (entries, say, fails)
order_fault profile except bytes entries (fault.Row number f) say fails = absurd fails
order_fault profile except bytes entries (fault.NotText line) say fails = absurd fails
order_fault profile except bytes entries fault.NoHeader say fails = absurd fails
order_fault profile except bytes entries (fault.BadHeader line cause) say fails = absurd fails
order_fault profile except bytes entries (fault.BadRow number cause) say fails = absurd fails
order_fault profile except bytes entries fault.TooManyRows say fails = absurd fails
order_fault profile except bytes entries (fault.NothingLeft number) say fails = absurd fails
order_fault profile except bytes entries (fault.TooLarge number) say fails = absurd fails
order_fault profile except bytes entries fault.Memory say fails = tt

-- ---- The numbers of rows.

-- rows are numbered, the first by that number
abbrev AreFrom : ℕ → List SheetRow → Type 0
AreFrom number rows = (place : ℕ) (row : SheetRow) → slice_get rows place ≡ Some row → row.number ≡ place + number

one_some : {X : Type 0} (x y : X) → Some x ≡ Some y → x ≡ y
one_some x y is = ap (λ o. unwrap_or o x) is

row_first : (number : ℕ) (first : SheetRow) (rows : List SheetRow) → first.number ≡ number → AreFrom (number + 1) rows → AreFrom number (first ∷ rows)
row_first number first rows is others zero row at =
    let here : row.number ≡ number = sym (ap (λ (r : SheetRow). r.number) (one_some first row at)) ∙ is in
    omega (arith, here)
row_first number first rows is others (suc place) row at = let more = others place row at in omega (arith, more)

numbered_from : (number : ℕ) (parts : List Part) → AreFrom number (rows_from number parts)
numbered_from number [] = λ place row at. cc
numbered_from number (Outside ∷ more) = numbered_from number more
numbered_from number (Heading ∷ more) = numbered_from number more
numbered_from number (BadHeading name cause ∷ more) = numbered_from number more
numbered_from number (BadRow cause ∷ more) = numbered_from number more
numbered_from number (RowOf table header fields ∷ more) =
    row_first number (record { number = number; table = table; header = header; fields = fields }) (rows_from (number + 1) more) refl (numbered_from (number + 1) more)

entries_from : (profile : Profile) (rows : List SheetRow) (entries : List Entry) (number : ℕ) → AreEntries profile rows entries → AreFrom number rows
    → (place : ℕ) (entry : Entry) → slice_get entries place ≡ Some entry → entry.number ≡ place + number
entries_from profile [] [] number are from place entry at = cc
entries_from profile [] (e ∷ entries) number are from place entry at = absurd are
entries_from profile (row ∷ rows) [] number are from place entry at = absurd are
entries_from profile (row ∷ rows) (e ∷ entries) number are from zero entry at =
    sym (ap (λ (x : Entry). x.number) (one_some e entry at)) ∙ are.0.number ∙ from 0 row refl
entries_from profile (row ∷ rows) (e ∷ entries) number are from (suc place) entry at =
    let more = entries_from profile rows entries (number + 1) are.1
    (λ other r found. let one = from (suc other) r found in omega (arith, one)) place entry at in
    omega (arith, more)

entries_many : (profile : Profile) (rows : List SheetRow) (entries : List Entry) → AreEntries profile rows entries → length entries ≡ length rows
entries_many profile [] [] are = refl
entries_many profile [] (e ∷ entries) are = absurd are
entries_many profile (row ∷ rows) [] are = absurd are
entries_many profile (row ∷ rows) (e ∷ entries) are = ap (λ n. suc n) (entries_many profile rows entries are.1)

-- the rows of a file are numbered, counted from 1
pub numbered : (profile : Profile) (bytes : List ℕ) (rows : List SheetRow) (entries : List Entry) → AreRows profile.file profile.tables bytes rows
    → AreEntries profile rows entries → AreNumbered entries
numbered profile bytes rows entries are say = record {
  each = entries_from profile rows entries 1 say (subst (AreFrom 1) (sym are.say.are) (numbered_from 1 are.say.parts));
  few = let many = entries_many profile rows entries say in omega (arith, many, are.say.few);
}
