use native.Mathlib.Omega.{arith}
use Rattle.std.proofs.Common.{vec_len}
use Rattle.lot_input.specs.Text.{IsFaultyText, TextMeans}
use Rattle.lot_input.proofs.InputLemmas.{gives_of, none_of}
use Rattle.lot_input.proofs.text.keyed_text.Goals as goal

pub returns-clause-ok : goal.returns-clause-ok
returns-clause-ok g c =
    rw (c.take_back.ensures.remaining, c.take_back.ensures.calls)
    (gives_of _ c.in_ok-text.text.items c.deref.result.now (vec_len c.in_ok-text.text) c.deref.ensures.value c.in_ok-text.ensures.every_byte
    (omega (arith, c.deref.ensures.len, c.in_ok-text.ensures.limit)) c.in_ok-text.ensures.end (omega (arith, c.deref.ensures.len)) c.in_ok-text.ensures.calls
    (TextMeans c.args.batch.now c.args.from) (λ keyed. (keyed.numbers.items, keyed.commands.items)) c.commands_in-keyed.result c.commands_in-keyed.ensures.ok)

pub returns-clause-err : goal.returns-clause-err
returns-clause-err g c =
    rw (c.take_back.ensures.remaining, c.take_back.ensures.calls)
    (none_of _ c.in_ok-text.text.items c.deref.result.now (vec_len c.in_ok-text.text) c.deref.ensures.value c.in_ok-text.ensures.every_byte
    (omega (arith, c.deref.ensures.len, c.in_ok-text.ensures.limit)) c.in_ok-text.ensures.end (omega (arith, c.deref.ensures.len)) c.in_ok-text.ensures.calls
    IsFaultyText (λ fault is. is) (λ is. is) c.commands_in-keyed.result c.commands_in-keyed.ensures.err)
