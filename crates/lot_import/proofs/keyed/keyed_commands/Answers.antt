-- The next row has its number and its command, or gives none.
use Rattle.std.proofs.Common.{◌∙◌, ◌+◌, ◌<◌, length, sym, ap, arith}
use Rattle.lot_import.proofs.KeyedLemmas.{cash_at, skips_next, takes_next, taken_remains}
use Rattle.lot_import.proofs.keyed.keyed_commands.Goals as goal
use Rattle.lot_import.proofs.keyed.keyed_commands.Goals.{then-is_taken+in_ok-keyed_command+in_ok-push+in_ok-push-2, else-is_taken}

pub keyed_command-requires : goal.keyed_command-requires
keyed_command-requires c =
    let within : c.loop-index.index < length c.args.rows.now = omega (arith, c.loop-index-test.true) in
    cash_at c.args.decimals c.args.except.now c.args.rows.now c.loop-index.index c.index-rows-index.result
    (c.in_default.ensures.none) within c.index-rows-index.is
    (taken_remains c.args.from (c.loop-index.index + 1) c.args.except.now c.index-rows-index.result (sym c.is_taken.ensures ∙ c.if-is_taken.true))

pub loop-index-preserved : goal.loop-index-preserved
loop-index-preserved c =
    let l = c.loop-index in
    let rows = c.args.rows.now in
    let within : l.index < length rows = omega (arith, c.loop-index-test.true) in
    elim c.if-is_taken.branch [
      | then-is_taken+in_ok-keyed_command+in_ok-push+in_ok-push-2 w ↦
          takes_next c.args.source.now c.args.accounts.now c.args.decimals c.args.from c.args.except.now (length rows) rows l.index c.index-rows-index.result
          within c.index-rows-index.is l.numbers.items l.commands.items l.invariant c.if-is_taken.numbers.items c.if-is_taken.commands.items
          w.in_ok-keyed_command.field-0 (ap (λ v. v.items) w.numbers-is ∙ w.in_ok-push-2.ensures.items) (ap (λ v. v.items) w.commands-is ∙ w.in_ok-push.ensures.items)
          (sym c.is_taken.ensures ∙ w.if-is_taken.true) w.in_ok-keyed_command.ensures.ok (omega (arith, within))
      | else-is_taken w ↦
          let same_numbers = ap (λ v. v.items) w.numbers-is in
          let same_commands = ap (λ v. v.items) w.commands-is in
          rw (same_numbers, same_commands)
          (skips_next c.args.source.now c.args.accounts.now c.args.decimals c.args.from c.args.except.now (length rows) rows l.index c.index-rows-index.result
          within c.index-rows-index.is l.numbers.items l.commands.items l.invariant (sym c.is_taken.ensures ∙ w.if-is_taken.false))
    ]
