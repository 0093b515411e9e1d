-- The rate that is quoted is the last of its pair and day, and no other changes.
use Rattle.std.proofs.Common.{ap, refl, sym, ◌∙◌}
use Rattle.std.specs.Option.{option_or}
use Rattle.lot_command.specs.declared.command.Command.{Command}
use Rattle.lot_stored.specs.Kept.{rate_by}
use Rattle.lot_audit.specs.Rates.{rate_in}
use Rattle.lot_audit.proofs.RateLemmas.{key_of, quoted_set}
use Rattle.lot_audit.proofs.rates.Rates.quote.Goals as goal

pub returns-in_ok-insert : goal.returns-in_ok-insert
returns-in_ok-insert c = λ base quote day.
    quoted_set c.args.self.now.rates c.insert.new.self c.in-Quoting.quoting
    (key_of c.in_ok-copy.field-0 c.in_ok-copy-2.field-0 c.in-Quoting.quoting.day) c.in_ok-copy.ensures c.in_ok-copy-2.ensures refl
    c.in_ok-insert.ensures.updates.0 base quote day
    ∙ ap (λ (command : Command). option_or (rate_by base quote day command) (rate_in c.args.self.now base quote day))
    (sym c.in-Quoting.is)
