-- Rows with the names of their keys, and which of them are posted (docs/FORMATS.md, Profiles).
use Rattle.std.specs.Prelude.{ℕ, Bool, true, false, not, ◌&&◌, List, filter, map, zip, Option, Some, None}
use Rattle.std.specs.List.{list_any}
use Rattle.lot_base.specs.Text.{same_text}
use Rattle.lot_deal_read.specs.declared.says.Dated.{Dated}
use Rattle.lot_deal_read.specs.declared.says.Saying.{Saying}
use Rattle.lot_deal_read.specs.declared.says.Saying.TheVariants as saying
use Rattle.lot_sequence.specs.declared.row.Row.{Row as Line}
use Rattle.lot_export.specs.Entries.{dated_at}
use Rattle.lot_export.specs.declared.entry.Entry.{Entry}
use Rattle.lot_export.specs.declared.named.Named.{Named}

-- ---- Names.

abbrev pub named : Line × List ℕ → Named
named pair = record { number = pair.0.number; day = pair.0.day; name = pair.1 }

-- rows with these names
abbrev pub named_of : List Line → List (List ℕ) → List Named
named_of lines names = map named (zip lines names)

-- ---- Rows that are left out, and rows that are posted by hand.

-- whether a row has one of the names that are left out
abbrev pub is_left_out : List (List ℕ) → Named → Bool
is_left_out except row = list_any (λ other. same_text other row.name) except

abbrev pub is_by_hand_of : Saying → Bool
is_by_hand_of saying.ByHand = true
is_by_hand_of _ = false

abbrev pub is_by_hand_in : Option Dated → Bool
is_by_hand_in None = false
is_by_hand_in (Some dated) = is_by_hand_of dated.saying

-- whether a row is posted by hand
abbrev pub is_by_hand : List Entry → Named → Bool
is_by_hand entries row = is_by_hand_in (dated_at entries row.number)

-- whether a row is handed in: it isn't left out, nor posted by hand
abbrev pub is_posted : List Entry → List (List ℕ) → Named → Bool
is_posted entries except row = not (is_left_out except row) && not (is_by_hand entries row)

-- those of rows that are posted by hand, and aren't left out
abbrev pub by_hand_of : List Entry → List (List ℕ) → List Named → List Named
by_hand_of entries except rows = filter (λ row. not (is_left_out except row) && is_by_hand entries row) rows
