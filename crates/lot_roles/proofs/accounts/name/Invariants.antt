-- The name so far, and what the other pieces put behind it.
use Rattle.std.proofs.Common.{◌≡◌, drop}
use Rattle.std.specs.String.{string_bytes}
use Rattle.lot_roles.specs.Accounts.{name_of, piece_text}
use Rattle.lot_roles.proofs.AccountLemmas.{name_behind}
use Rattle.lot_roles.proofs.accounts.name.Given as goal

abbrev pub invariant-loop-piece : goal.invariant-loop-piece
invariant-loop-piece l =
    let text = piece_text l.values.account.now l.values.currency.now l.values.symbol.now in
    name_of text l.pieces ≡ name_behind (string_bytes l.name) text (drop l.piece-index l.pieces)
