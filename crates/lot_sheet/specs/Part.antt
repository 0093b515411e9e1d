-- What each line of a file is, by the lines above it (docs/FORMATS.md, Profiles).
use Rattle.std.specs.Prelude.{◌≡◌, ◌+◌, ◌==◌, ℕ, Bool, true, false, not, if◌then◌else◌, List, [], ◌∷◌, ◌++◌, drop, length, count_by, decimal, nat_le, Option, Some, None}
use Rattle.std.specs.Bool.{MatchBool}
use Rattle.std.specs.List.{All, flat_map, list_any}
use Rattle.lot_profile.specs.declared.file.Column.{Column}
use Rattle.lot_profile.specs.declared.file.Column.TheVariants as column
use Rattle.lot_profile.specs.declared.file.Condition.{Condition}
use Rattle.lot_profile.specs.declared.file.Delimiter.{Delimiter}
use Rattle.lot_profile.specs.declared.file.FileForm.{FileForm}
use Rattle.lot_profile.specs.declared.kind.KindRule.{KindRule}
use Rattle.lot_profile.specs.declared.role.Source.{Source}
use Rattle.lot_profile.specs.declared.role.Source.TheVariants as source
use Rattle.lot_profile.specs.declared.role.Sources.{Sources}
use Rattle.lot_profile.specs.declared.table.Table.{Table}
use Rattle.lot_sheet.specs.declared.fault.NameCause.{NameCause}
use Rattle.lot_sheet.specs.declared.fault.NameCause.TheVariants.{Missing, Twice}
use Rattle.lot_sheet.specs.declared.fault.RowCause.{RowCause}
use Rattle.lot_sheet.specs.declared.fault.RowCause.TheVariants.{NoTable, TwoTables, Longer}
use Rattle.lot_sheet.specs.Column.{Meets, column_name, is_blank_field, is_same, names_in}
use Rattle.lot_sheet.specs.Header.{Standing, has_begun, is_header_of, standing}

-- ---- The columns that a table uses.

-- that of a source
abbrev pub source_columns : Source → List Column
source_columns (source.Column of) = of ∷ []
source_columns (source.Constant text) = []
source_columns (source.Until of text) = of ∷ []

-- those of where roles are found
abbrev pub role_columns : List Sources → List Column
role_columns roles = flat_map (λ (sources : Sources). flat_map source_columns sources.from) roles

-- those of conditions
abbrev pub asked_columns : List Condition → List Column
asked_columns conditions = flat_map (λ (condition : Condition). condition.column ∷ []) conditions

-- those of a kind
abbrev pub kind_columns : KindRule → List Column
kind_columns kind = role_columns kind.columns ++ asked_columns kind.when

-- those of a table
abbrev pub table_columns : Table → List Column
table_columns table = role_columns table.columns ++ asked_columns table.rows ++ flat_map kind_columns table.kinds

-- ---- What is wrong with a header.

-- what is wrong where a header hasn't that column: nothing, where it may be absent
abbrev pub lacking : List (List ℕ) → List ℕ → Option NameCause
lacking optional name = if list_any (is_same name) optional then None else Some Missing

-- what is wrong with a name: it has to stand once in a header, or not at all where it may be absent
abbrev pub name_fault : List (List ℕ) → List (List ℕ) → List ℕ → Option NameCause
name_fault optional header name =
    let standing = count_by (is_same name) header in
    if standing == 1 then None
    else if standing == 0 then lacking optional name
    else Some Twice

-- what is wrong with a column; one with a number has to be a field of the header, or may be absent
abbrev pub column_fault : List (List ℕ) → List (List ℕ) → Column → Option NameCause
column_fault optional header (column.Number number) =
    if nat_le number (length header) then None else lacking optional (decimal number)
column_fault optional header (column.Named name) = name_fault optional header name

-- a name, and what is wrong with it
abbrev pub BadName : Type 0
BadName = List ℕ × NameCause

-- the name that is wrong, or else that one
abbrev pub or_bad : List ℕ → Option NameCause → Option BadName → Option BadName
or_bad name None other = other
or_bad name (Some cause) other = Some (name, cause)

-- the name of the first of these columns with which something is wrong
abbrev pub first_bad : List (List ℕ) → List (List ℕ) → List Column → Option BadName
first_bad optional header [] = None
first_bad optional header (column ∷ columns) =
    or_bad (column_name column) (column_fault optional header column) (first_bad optional header columns)

-- the columns that a table uses, if the line of that number is its header
abbrev pub columns_under : Delimiter → ℕ → List (List ℕ) → Standing → List Column
columns_under delimiter number line s = if is_header_of delimiter number line s then table_columns s.0 else []

-- the columns that the tables use of which a line is a header
abbrev pub header_columns : Delimiter → ℕ → List (List ℕ) → List Standing → List Column
header_columns delimiter number line tables = flat_map (columns_under delimiter number line) tables

-- ---- Of which table a line is a row.

-- a line that is no header would be a row of the table
abbrev pub Takes : FileForm → List (List ℕ) → Standing → Type 0
Takes form line s = (has_begun s ≡ true) × Meets form s.1 line s.0.rows

-- none of the tables would take a line
abbrev pub TakenByNone : FileForm → List (List ℕ) → List Standing → Type 0
TakenByNone form line tables = All (λ (s : Standing). Takes form line s → ⊥) tables

-- the first of the tables that would take a line is that one, at that place, counted from 0; those stand behind it
pub record IsFirstTaker (form : FileForm) (line : List (List ℕ)) (tables : List Standing) (place : ℕ) (s : Standing) (after : List Standing) : Type 0 where
  pub before : List Standing
  pub all : tables ≡ before ++ s ∷ after
  pub at : length before ≡ place
  pub none : TakenByNone form line before
  pub takes : Takes form line s

-- whether something stands in a line behind the fields of its header
abbrev pub is_longer : Option (List (List ℕ)) → List (List ℕ) → Bool
is_longer None line = false
is_longer (Some header) line = list_any (λ (field : List ℕ). not (is_blank_field field)) (drop (length header) line)

-- ---- What a line is.

pub data Part : Type 0 where
  Outside : Part  -- it stands before the first header of any table
  Heading : Part  -- it is a header
  BadHeading : List ℕ → NameCause → Part  -- it is a header, with that name first of which something is wrong
  RowOf : ℕ → Option (List (List ℕ)) → List (List ℕ) → Part  -- it is a row of that table, under that header, with these fields
  BadRow : RowCause → Part  -- it has to be a row, and is faulty

-- what a header is
abbrev pub heading : Option BadName → Part
heading None = Heading
heading (Some (name, cause)) = BadHeading name cause

-- a line that one table takes is a row of it
abbrev pub row_or_longer : ℕ → Option (List (List ℕ)) → List (List ℕ) → Part
row_or_longer place header line = if is_longer header line then BadRow Longer else RowOf place header line

-- a line is taken by exactly one of the tables, which has that place, and then it is that
pub record IsTakenByOne (form : FileForm) (line : List (List ℕ)) (tables : List Standing) (part : Part) : Type 0 where
  pub place : ℕ
  pub s : Standing
  pub after : List Standing
  pub first : IsFirstTaker form line tables place s after
  pub no_other : TakenByNone form line after
  pub is : part ≡ row_or_longer place s.1 line

-- a line is taken by two of the tables: these are the places of the first two
pub record IsTakenByTwo (form : FileForm) (line : List (List ℕ)) (tables : List Standing) (first second : ℕ) : Type 0 where
  pub s : Standing
  pub after : List Standing
  pub is_first : IsFirstTaker form line tables first s after
  pub more : ℕ
  pub other : Standing
  pub others : List Standing
  pub is_second : IsFirstTaker form line after more other others
  pub place : second ≡ first + 1 + more

-- a line that is no header, and stands behind the start of a table, is that
abbrev pub IsBody : FileForm → List Standing → List (List ℕ) → Part → Type 0
IsBody form tables line Outside = ⊥
IsBody form tables line Heading = ⊥
IsBody form tables line (BadHeading name cause) = ⊥
IsBody form tables line (RowOf place header fields) = IsTakenByOne form line tables (RowOf place header fields)
IsBody form tables line (BadRow NoTable) = TakenByNone form line tables
IsBody form tables line (BadRow (TwoTables first second)) = IsTakenByTwo form line tables first second
IsBody form tables line (BadRow Longer) = IsTakenByOne form line tables (BadRow Longer)

-- a line that is no header is that
abbrev pub IsBodyBy : FileForm → List Standing → List (List ℕ) → Part → Type 0
IsBodyBy form tables line part = MatchBool (list_any has_begun tables) (IsBody form tables line part) (part ≡ Outside)

-- the line of that number is that, as the tables stand at it
abbrev pub IsPartBy : FileForm → List Standing → ℕ → List (List ℕ) → Part → Type 0
IsPartBy form tables number line part =
    MatchBool (list_any (is_header_of form.delimiter number line) tables)
    (part ≡ heading (first_bad form.optional (names_in line) (header_columns form.delimiter number line tables)))
    (IsBodyBy form tables line part)

-- the line is that, with these lines above it
abbrev pub IsPart : FileForm → List Table → List (List (List ℕ)) → List (List ℕ) → Part → Type 0
IsPart form tables above line part = IsPartBy form (standing form.delimiter tables above) (length above + 1) line part
