use Rattle.std.proofs.Common.{◌≡◌, length, drop}
use Rattle.lot_base.specs.Text.{same_text}
use Rattle.lot_field.specs.Numbers.{digits_of, grouped}
use Rattle.lot_field.proofs.numbers.is_grouped.Given as goal

-- the rest is the digits that are left, in groups, exactly where all is
abbrev pub invariant-loop-byte : goal.invariant-loop-byte
invariant-loop-byte l =
    (l.left ≡ length (digits_of (drop l.byte-index l.whole)))
    × (same_text l.rest (grouped l.separator (digits_of (drop l.byte-index l.whole)))
    ≡ same_text l.whole (grouped l.separator (digits_of l.whole)))
