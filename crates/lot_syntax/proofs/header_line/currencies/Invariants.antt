-- The currencies so far, with those to come, are those of the opening.
use Rattle.std.proofs.Common.{◌≡◌, ◌≤◌, length, map}
use Rattle.std.specs.Prelude.{option_map}
use Rattle.lot_command.specs.Currencies.{most_currencies}
use Rattle.lot_syntax.specs.Header.{seen_text, more_words}
use Rattle.lot_syntax.proofs.CurrencyLemmas.{front}
use Rattle.lot_syntax.proofs.header_line.currencies.Given as goal

abbrev pub invariant-loop-behind : goal.invariant-loop-behind
invariant-loop-behind l = record {
  most : length l.currencies.items ≤ most_currencies;
  so_far : option_map (front (map seen_text l.currencies.items)) (more_words l.rest)
      ≡ option_map (front (map seen_text l.initial.currencies.items)) (more_words l.initial.rest);
}

abbrev pub decreases-loop-behind : goal.decreases-loop-behind
decreases-loop-behind l = length l.rest
