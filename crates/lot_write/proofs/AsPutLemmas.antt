-- Writes where each row that is set is put: they make the same of tables that have a row of its key.
use Rattle.std.specs.Prelude.{◌≡◌, cond, List, [], ◌∷◌}
use Rattle.std.specs.List.{AllByRecursion}
use Rattle.std.proofs.Common.{refl, sym, ap, subst, ◌∙◌}
use Rattle.lot_rows.specs.Head.{head_cells}
use Rattle.lot_rows.specs.Lot.{lot_cells}
use Rattle.lot_rows.specs.Plain.{plain_cells}
use Rattle.lot_rows.specs.Tables.{Tables, head_table, lot_table, plain_table}
use Rattle.lot_table.specs.Call.{HasKey}
use Rattle.lot_table.specs.Rows.{put_in}
use Rattle.lot_write.specs.Write as made
use Rattle.lot_write.specs.declared.write.Write.{Write}
use Rattle.lot_write.specs.declared.write.Write.TheVariants as write

abbrev as_put : Write → Write
as_put (write.SetLot row) = write.Lot row
as_put (write.SetPlain row) = write.Plain row
as_put (write.SetHead row) = write.Head row
as_put one = one

abbrev pub written : Write → Tables → Tables
written one = made.written (as_put one)

abbrev pub written_all : List Write → Tables → Tables
written_all [] tables = tables
written_all (one ∷ more) tables = written_all more (written one tables)

-- the tables take the write, and a row that is set is there
abbrev pub Fits : Write → Tables → Type 0
Fits (write.SetLot row) tables = HasKey lot_table row tables
Fits (write.SetPlain row) tables = HasKey plain_table row tables
Fits (write.SetHead row) tables = HasKey head_table row tables
Fits one tables = made.Fits one tables

abbrev pub AreFit : List Write → Tables → Type 0
AreFit [] tables = Unit {0}
AreFit (one ∷ more) tables = Fits one tables × AreFit more (written one tables)

-- ---- they make the same

as_written : (one : Write) (tables : Tables) → Fits one tables → made.written one tables ≡ written one tables
as_written (write.SetLot row) tables there =
    ap (λ b. lot_table.with_rows (cond b (put_in lot_cells 6 row tables.lot) tables.lot) tables) there
as_written (write.SetPlain row) tables there =
    ap (λ b. plain_table.with_rows (cond b (put_in plain_cells 2 row tables.plain) tables.plain) tables) there
as_written (write.SetHead row) tables there =
    ap (λ b. head_table.with_rows (cond b (put_in head_cells 2 row tables.head) tables.head) tables) there
as_written _ tables fit = refl

as_fit : (one : Write) (tables : Tables) → Fits one tables → made.Fits one tables
as_fit (write.SetLot row) tables there = tt
as_fit (write.SetPlain row) tables there = tt
as_fit (write.SetHead row) tables there = tt
as_fit _ tables fit = fit

pub all_as_written : (writes : List Write) (tables : Tables) → AreFit writes tables
    → made.AreFit writes tables × (made.written_all writes tables ≡ written_all writes tables)
all_as_written [] tables fit = (tt, refl)
all_as_written (one ∷ more) tables fit =
    let same = as_written one tables fit.0 in
    let rest = all_as_written more (written one tables) fit.1 in (
      (as_fit one tables fit.0, subst (made.AreFit more) (sym same) rest.0),
      ap (made.written_all more) same ∙ rest.1,
    )

-- ---- tables that writes leave, as they are made

-- what each write leaves alone, all of them do
pub left-made : {Y : Type 0} (part : Tables → Y) (writes : List Write) (tables : Tables)
    → AllByRecursion (λ (one : Write). (old : Tables) → part (made.written one old) ≡ part old) writes
    → part (made.written_all writes tables) ≡ part tables
left-made part [] tables leave = refl
left-made part (one ∷ more) tables leave = left-made part more (made.written one tables) leave.1 ∙ leave.0 tables
