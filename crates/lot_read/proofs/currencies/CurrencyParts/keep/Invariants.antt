-- Those that are kept are the first ones.
use Rattle.std.proofs.Common.{◌≡◌, map, take}
use Rattle.lot_syntax.specs.Header.{seen_text}
use Rattle.lot_read.proofs.currencies.CurrencyParts.keep.Given as goal

abbrev pub invariant-loop-word : goal.invariant-loop-word
invariant-loop-word l = l.items.items ≡ map seen_text (take l.word-index l.word-items)
