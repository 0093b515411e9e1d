-- What is written so far, and what the rest comes to, is the text in quotes.
use Rattle.std.proofs.Common.{◌≡◌, ℕ, List, ◌++◌, length}
use denote.Text.{Utf8}
use denote.Shadow.{shadow}
use Rattle.std.specs.Fmt.{HasWritten, IsPlainFormatter}
use Rattle.std.specs.List.{flat_map}
use Rattle.lot_explain.specs.Shell.{in_single_quotes}
use Rattle.lot_explain.proofs.quoted.QuotedDisplay.fmt.Given as goal

abbrev pub invariant-loop-before : goal.invariant-loop-before
invariant-loop-before g l =
    shadow (Utf8 l.rest)
    × (IsPlainFormatter l.initial.f → (done : List ℕ) × HasWritten g.W.Write.write_str_gives l.initial.f done l.f
    × (done ++ flat_map in_single_quotes l.rest ≡ flat_map in_single_quotes l.fn.self.0.now))

abbrev pub decreases-loop-before : goal.decreases-loop-before
decreases-loop-before g l = length l.rest
