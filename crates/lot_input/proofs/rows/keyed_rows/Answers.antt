use native.Mathlib.Omega.{arith}
use Rattle.std.proofs.Common.{subst, vec_len}
use Rattle.std.specs.Prelude.{IfOk}
use Rattle.lot_input.specs.Rows.{FileMeans, HasRowsOf, IsFaultyFile}
use Rattle.lot_input.proofs.InputLemmas.{gives_of, none_of}
use Rattle.lot_input.proofs.KeyedLemmas.{import_is_label}
use Rattle.lot_input.proofs.rows.keyed_rows.Goals as goal

pub source-requires-clause-label : goal.source-requires-clause-label
source-requires-clause-label g c = import_is_label

pub returns-clause-ok : goal.returns-clause-ok
returns-clause-ok g c =
    rw (c.take_back.ensures.remaining, c.take_back.ensures.calls)
    (gives_of _ c.in_ok-file.file.items c.deref.result.now (vec_len c.in_ok-file.file) c.deref.ensures.value c.in_ok-file.ensures.every_byte
    (omega (arith, c.deref.ensures.len, c.in_ok-file.ensures.limit)) c.in_ok-file.ensures.end (omega (arith, c.deref.ensures.len)) c.in_ok-file.ensures.calls
    (FileMeans c.args.batch.now c.args.accounts.now c.args.decimals c.args.from c.args.except.now) (λ keyed. (keyed.numbers.items, keyed.commands.items)) c.commands_in-keyed.result
    (subst (λ source. IfOk c.commands_in-keyed.result (λ keyed. HasRowsOf source c.args.accounts.now c.args.decimals c.args.from c.args.except.now c.deref.result.now (keyed.numbers.items, keyed.commands.items)))
    c.in-Ok.ensures c.commands_in-keyed.ensures.ok))

pub returns-clause-err : goal.returns-clause-err
returns-clause-err g c =
    rw (c.take_back.ensures.remaining, c.take_back.ensures.calls)
    (none_of _ c.in_ok-file.file.items c.deref.result.now (vec_len c.in_ok-file.file) c.deref.ensures.value c.in_ok-file.ensures.every_byte
    (omega (arith, c.deref.ensures.len, c.in_ok-file.ensures.limit)) c.in_ok-file.ensures.end (omega (arith, c.deref.ensures.len)) c.in_ok-file.ensures.calls
    (IsFaultyFile c.args.decimals c.args.except.now) (λ fault is. is) (λ is. is) c.commands_in-keyed.result c.commands_in-keyed.ensures.err)
