-- Which legs a register is over, with texts of its own.
use Rattle.std.specs.Prelude.{option_map}
use Rattle.std.specs.String.{string_bytes}
use Rattle.lot_noted.specs.Book.{Asked}
use Rattle.lot_recall.specs.declared.scope.OwnedScope.{OwnedScope}

-- what is asked for
abbrev pub owned : OwnedScope → Asked
owned scope = record { account = string_bytes scope.account; commodity = option_map string_bytes scope.commodity; last = scope.last }
