-- How often a day and a text were counted, for the code alone.
use Rattle.std.specs.Prelude.{ℕ}
use Rattle.std.specs.declared.cmp.Ordering.{Ordering}
use Rattle.std.specs.BTreeMap.{BTreeMap, get}
use Rattle.std.specs.Option.{unwrap_or}
use Rattle.std.specs.Ordering.{int_cmp, ordering_then}
use Rattle.lot_base.specs.Text.{text_cmp}
use Rattle.lot_sequence.specs.Key.{Said}
use Rattle.lot_sequence.specs.declared.key.Mark.{Mark}

abbrev pub mark_cmp : Mark → Mark → Ordering
mark_cmp a b = ordering_then (int_cmp a.day b.day) (text_cmp a.text.now b.text.now)

-- a day and a text as a key of the counts
abbrev pub mark_of : Said → Mark
mark_of said = record { day = said.0; text = record { ref_ptr = (0, 0); now = said.1 } }

-- how often they were counted
abbrev pub counted : BTreeMap Mark ℕ → Said → ℕ
counted counts said = unwrap_or (get mark_cmp counts (mark_of said)) 0
