use native.Mathlib.Omega.{arith}
use Rattle.std.proofs.Common.{subst, vec_len}
use Rattle.std.specs.Prelude.{IfOk}
use Rattle.lot_export.specs.Export.{IsExport}
use Rattle.lot_input.specs.Exported.{IsFaultyExport}
use Rattle.lot_input.specs.Keyed.{import_source}
use Rattle.lot_input.proofs.InputLemmas.{gives_of, none_of}
use Rattle.lot_input.proofs.KeyedLemmas.{import_is_label}
use Rattle.lot_input.proofs.exported.keyed_export.Goals as goal

pub source-requires-clause-label : goal.source-requires-clause-label
source-requires-clause-label g c = import_is_label

pub returns-clause-ok : goal.returns-clause-ok
returns-clause-ok g c =
    rw (c.take_back.ensures.remaining, c.take_back.ensures.calls)
    (gives_of _ c.in_ok-file.file.items c.deref.result.now (vec_len c.in_ok-file.file) c.deref.ensures.value c.in_ok-file.ensures.every_byte
    (omega (arith, c.deref.ensures.len, c.in_ok-file.ensures.limit)) c.in_ok-file.ensures.end (omega (arith, c.deref.ensures.len)) c.in_ok-file.ensures.calls
    (λ input. IsExport (import_source c.args.batch.now) c.args.profile.now c.args.except.now input) (λ export. export) c.export_in-export.result
    (subst (λ source. IfOk c.export_in-export.result (IsExport source c.args.profile.now c.args.except.now c.deref.result.now))
    c.in-Ok.ensures c.export_in-export.ensures.ok))

pub returns-clause-err : goal.returns-clause-err
returns-clause-err g c =
    rw (c.take_back.ensures.remaining, c.take_back.ensures.calls)
    (none_of _ c.in_ok-file.file.items c.deref.result.now (vec_len c.in_ok-file.file) c.deref.ensures.value c.in_ok-file.ensures.every_byte
    (omega (arith, c.deref.ensures.len, c.in_ok-file.ensures.limit)) c.in_ok-file.ensures.end (omega (arith, c.deref.ensures.len)) c.in_ok-file.ensures.calls
    (IsFaultyExport c.args.profile.now c.args.except.now) (λ fault is. is) (λ is. is) c.export_in-export.result c.export_in-export.ensures.err)
