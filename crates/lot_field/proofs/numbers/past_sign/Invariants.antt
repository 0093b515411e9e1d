use Rattle.std.proofs.Common.{◌≡◌, ◌≤◌, ◌==◌, drop, length, max}
use Rattle.std.specs.List.{starts_with}
use Rattle.lot_field.specs.Numbers.{longest_at}
use Rattle.lot_field.proofs.numbers.past_sign.Given as goal

-- the longest of those so far, or of those that are left
abbrev pub invariant-loop-sign : goal.invariant-loop-sign
invariant-loop-sign l =
    (max l.longest (longest_at (starts_with ◌==◌) (drop l.sign-index l.signs) l.text) ≡ longest_at (starts_with ◌==◌) l.signs l.text)
    × (l.longest ≤ length l.text)
