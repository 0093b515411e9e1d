use Rattle.std.proofs.Common.{None, refl, subst, sym}
use Rattle.sqlite.specs.Held.{state}
use Rattle.lot_stream.specs.declared.status.Status.TheVariants.{Accepted}
use Rattle.lot_cli.specs.Serve.{SaysVerified}
use Rattle.lot_cli.proofs.HaltLemmas.{failed_before, said}
use Rattle.lot_cli.specs.Reports.{ShowsBook, digest_writing, verified_line}
use Rattle.lot_cli.proofs.VerificationLemmas.{verifies, verifies_digest, verifies_not}
use Rattle.lot_cli.proofs.verification.verify.Goals as goal

pub returns-in-Verified-clause-verifies : goal.returns-in-Verified-clause-verifies
returns-in-Verified-clause-verifies g c =
    rw c.in-Verified.is
    (verifies (state g.S.Store c.args.conn) (state g.S.Store c.in-Ok.conn) _ _ (record { before = g.W.CountedWrite.calls c.args.writer.now; after = g.W.CountedWrite.calls c.tell.new.writer }) (record { status = c.tell.result; halt = None }) c.in-Ok.ensures.stands c.in-Ok.ensures.taken c.in-Ok.ensures.same c.in-Ok.ensures.crash_ok (
      said verified_line Accepted _ _ _ _ _ _ c.print_texts-printed.result c.tell.result c.print_texts-printed.ensures.bytes c.tell.ensures.kept c.print_texts-printed.ensures.none_failed
          (failed_before g.W.CountedWrite.calls c.print_texts-printed.new.writer c.tell.new.writer c.print_texts-printed.result c.print_texts-printed.ensures.cause c.tell.ensures.unasked)
          c.tell.ensures.end,
      refl,
    ))

pub returns-in-Digest-clause-verifies : goal.returns-in-Digest-clause-verifies
returns-in-Digest-clause-verifies g c =
    let shows = subst (λ conn. ShowsBook digest_writing (state g.S.Store conn) (state g.S.Store c.write_digest.result.conn) (g.W.CountedWrite.contents c.args.writer.now) (g.W.CountedWrite.contents c.write_digest.new.writer) (record { before = g.W.CountedWrite.calls c.args.writer.now; after = g.W.CountedWrite.calls c.write_digest.new.writer }) c.write_digest.result.status)
    c.ready_over-book.ensures.0 c.write_digest.ensures.shows in
    rw c.in-Digest.is
    (verifies_digest (state g.S.Store c.args.conn) (state g.S.Store c.in-Ok.conn) (state g.S.Store c.write_digest.result.conn) _ _ (record { before = g.W.CountedWrite.calls c.args.writer.now; after = g.W.CountedWrite.calls c.write_digest.new.writer }) (record { status = c.write_digest.result.status; halt = c.write_digest.result.halt })
    c.in-Ok.ensures.stands c.in-Ok.ensures.taken c.in-Ok.ensures.same c.in-Ok.ensures.crash_ok shows c.write_digest.ensures.goes_on)

pub returns-in-Err-clause-verifies : goal.returns-in-Err-clause-verifies
returns-in-Err-clause-verifies g c =
    subst (λ conn. SaysVerified c.args.saying (state g.S.Store c.args.conn) (state g.S.Store conn) (g.W.CountedWrite.contents c.args.writer.now) (g.W.CountedWrite.contents c.halted.new.writer) (record { before = g.W.CountedWrite.calls c.args.writer.now; after = g.W.CountedWrite.calls c.halted.new.writer }) (record { status = c.halted.result.status; halt = c.halted.result.halt }))
    (sym c.halted.ensures.same)
    (verifies_not (state g.S.Store c.args.conn) (state g.S.Store c.in-Err.field-0.conn) _ _ (record { before = g.W.CountedWrite.calls c.args.writer.now; after = g.W.CountedWrite.calls c.halted.new.writer }) (record { status = c.halted.result.status; halt = c.halted.result.halt }) c.args.saying c.in-Err.field-0.fault c.in-Err.ensures.refused c.in-Err.ensures.tells c.in-Err.ensures.handed_back c.in-Err.ensures.crash_err
    c.halted.ensures.says)
