use native.Mathlib.Omega.{arith}
use Rattle.std.proofs.Common.{vec_len}
use Rattle.lot_input.specs.Statement.{IsFaultyStatement, StatementMeans}
use Rattle.lot_input.proofs.InputLemmas.{gives_of, none_of}
use Rattle.lot_input.proofs.statement.given_statement.Goals as goal

pub returns-clause-ok : goal.returns-clause-ok
returns-clause-ok g c =
    rw (c.take_back.ensures.remaining, c.take_back.ensures.calls)
    (gives_of _ c.in_ok-file.file.items c.deref.result.now (vec_len c.in_ok-file.file) c.deref.ensures.value c.in_ok-file.ensures.every_byte
    (omega (arith, c.deref.ensures.len, c.in_ok-file.ensures.limit)) c.in_ok-file.ensures.end (omega (arith, c.deref.ensures.len)) c.in_ok-file.ensures.calls
    StatementMeans (λ said. said) c.said_in-said.result c.said_in-said.ensures.ok)

pub returns-clause-err : goal.returns-clause-err
returns-clause-err g c =
    rw (c.take_back.ensures.remaining, c.take_back.ensures.calls)
    (none_of _ c.in_ok-file.file.items c.deref.result.now (vec_len c.in_ok-file.file) c.deref.ensures.value c.in_ok-file.ensures.every_byte
    (omega (arith, c.deref.ensures.len, c.in_ok-file.ensures.limit)) c.in_ok-file.ensures.end (omega (arith, c.deref.ensures.len)) c.in_ok-file.ensures.calls
    IsFaultyStatement (λ fault is. is) (λ is. is) c.said_in-said.result c.said_in-said.ensures.err)
