-- The line of a row of a register, as text and as CSV (docs/FORMATS.md, Register; Tables for a spreadsheet).
use Rattle.std.specs.Prelude.{ℕ, ℤ, pos, List, [], ◌∷◌, ◌++◌, Option, None, Some, codes, decimal}
use Rattle.std.specs.Option.{unwrap_or}
use Rattle.lot_num.specs.AmountText.{amount_text}
use Rattle.lot_base.specs.Day.{day_text}
use Rattle.lot_cost.specs.declared.lot_key.LotKey.{LotKey}
use Rattle.lot_csv.specs.Record.{cost_fields, record_text}
use Rattle.lot_report.specs.Printed.{in_braces}
use Rattle.lot_tally.specs.declared.key.TableForm.{TableForm}
use Rattle.lot_tally.specs.declared.key.TableForm.TheVariants.{Text, Csv}
use Rattle.lot_register.specs.declared.leg.NotedLeg.{NotedLeg}
use Rattle.lot_register.specs.Left.{RegisterRow}

-- ---- text

-- units of a leg and what is left behind it: plain as money, in a lot as text
abbrev pub units_text : Option LotKey → ℤ → List ℕ
units_text None units = amount_text 2 8 units
units_text (Some lot) units = amount_text 0 8 units

-- a space and the lot in braces, or nothing for plain units
abbrev pub lot_part : Option LotKey → List ℕ
lot_part None = []
lot_part (Some lot) = codes " " ++ in_braces (amount_text 0 8 (pos lot.number)) lot

-- a space and the narration as it is, or nothing where there is none
abbrev pub narration_part : Option (List ℕ) → List ℕ
narration_part None = []
narration_part (Some narration) = codes " " ++ narration

-- the leg: its day, its account, its units and their lot
abbrev pub leg_text : NotedLeg → List ℕ
leg_text leg =
    day_text leg.day ++ (codes " " ++ (leg.account ++ (codes " " ++ (units_text leg.lot leg.units ++ (codes " " ++ (leg.commodity ++ lot_part leg.lot))))))

-- what stands behind it: what is left, and the entry with its narration
abbrev pub end_text : NotedLeg → ℤ → List ℕ
end_text leg left =
    codes " left " ++ (units_text leg.lot left ++ (codes " entry " ++ (decimal leg.entry ++ (narration_part leg.narration ++ codes "\n"))))

abbrev pub line_text : RegisterRow → List ℕ
line_text row = leg_text row.leg ++ end_text row.leg row.left

-- ---- CSV

-- the names of the columns
abbrev pub header : List ℕ
header = codes "day,entry,posting,account,commodity,units,acquired,label,unit_cost,currency,left,narration\n"

-- the fields of a lot; those of plain units are empty
abbrev pub lot_fields : Option LotKey → List (List ℕ)
lot_fields None = [] ∷ [] ∷ [] ∷ [] ∷ []
lot_fields (Some lot) = day_text lot.day ∷ cost_fields lot

-- the fields behind the day: where the leg is, and what it moved
abbrev pub moved_fields : NotedLeg → List (List ℕ)
moved_fields leg = decimal leg.entry ∷ decimal leg.posting ∷ leg.account ∷ leg.commodity ∷ amount_text 0 8 leg.units ∷ []

-- the last fields: what is left, and the narration, which is empty where there is none
abbrev pub end_fields : NotedLeg → ℤ → List (List ℕ)
end_fields leg left = amount_text 0 8 left ∷ unwrap_or leg.narration [] ∷ []

abbrev pub record_fields : RegisterRow → List (List ℕ)
record_fields row = day_text row.leg.day ∷ (moved_fields row.leg ++ (lot_fields row.leg.lot ++ end_fields row.leg row.left))

-- ---- either

abbrev pub row_text : TableForm → RegisterRow → List ℕ
row_text Text row = line_text row
row_text Csv row = record_text (record_fields row)
