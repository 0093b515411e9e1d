-- The last number is how many entries there are.
use Rattle.std.proofs.Common.{◌∙◌, ℕ, Option, ap, sym}
use Rattle.std.specs.Option.{unwrap_or}
use Rattle.sqlite.specs.Held.{state}
use Rattle.lot_cli.proofs.PreviewLemmas.{counted, uncounted}
use Rattle.lot_cli.proofs.preview.count_entries.Goals as goal

pub returns-in-Ok-Some : goal.returns-in-Ok-Some
returns-in-Ok-Some g c =
    counted (state g.S.Store c.args.conn.now) (state g.S.Store c.greatest.new.conn) c.in-Ok-Some.field-0 c.number.result
    (c.number.ensures.value ∙ sym (ap (λ (last : Option ℕ). unwrap_or last 0) c.in-Ok-Some.field-0-is)) c.in-Ok-Some.ensures.answers

pub returns-in-Ok-None : goal.returns-in-Ok-None
returns-in-Ok-None g c =
    counted (state g.S.Store c.args.conn.now) (state g.S.Store c.greatest.new.conn) c.in-Ok-None.field-0 0
    (sym (ap (λ (last : Option ℕ). unwrap_or last 0) c.in-Ok-None.field-0-is)) c.in-Ok-None.ensures.answers

pub returns-in-Err : goal.returns-in-Err
returns-in-Err g c =
    rw c.from.ensures
    (uncounted (state g.S.Store c.args.conn.now) (state g.S.Store c.greatest.new.conn) c.requires c.in-Err.fault c.in-Err.ensures.answers)
