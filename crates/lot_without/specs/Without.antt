-- Which entries of a dump are left out.
use Rattle.std.specs.Prelude.{ℕ, ◌&&◌, Bool, List, ◌∷◌, ◌++◌, codes, decimal, nat_le}
use Rattle.lot_base.specs.Text.{same_text}
use Rattle.lot_command.specs.declared.key.Key.{Key}
use Rattle.lot_without.specs.declared.without.Without.{Without}
use Rattle.lot_without.specs.declared.without.Without.TheVariants.{Key as ByKey, Batch, Entries}

-- whether the entry of that number, under that key, is left out: the one under a key; those of a batch, which is the source of
-- their keys; or those in a range, both ends included, by the numbers on their headings
abbrev pub is_met : Without → ℕ → Key → Bool
is_met (ByKey left) number key = same_text left.source key.source && same_text left.name key.name
is_met (Batch source) number key = same_text source key.source
is_met (Entries first last) number key = nat_le first number && nat_le number last

-- ---- as options say it

-- the name of the option, without its dashes
abbrev pub option_of : Without → List ℕ
option_of (ByKey left) = codes "without"
option_of (Batch source) = codes "without-batch"
option_of (Entries first last) = codes "without-entries"

-- the value of the option
abbrev pub value_text : Without → List ℕ
value_text (ByKey left) = left.source ++ 32 ∷ left.name
value_text (Batch source) = source
value_text (Entries first last) = decimal first ++ 45 ∷ decimal last

-- the option with its value, as a line of the answer names it
abbrev pub without_text : Without → List ℕ
without_text without = option_of without ++ 32 ∷ value_text without
