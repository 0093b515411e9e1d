use Rattle.std.proofs.Common.{◌≡◌, ◌++◌, ◌∙◌, subst, sym}
use Rattle.std.specs.Prelude.{OnOk}
use Rattle.std.specs.String.{string_bytes}
use Rattle.lot_page_report.proofs.SumsLemmas.{held_inner_is}
use Rattle.lot_page_report.proofs.held.push_held_inner.Goals as goal

pub returns : goal.returns
returns c =
    subst (λ part. OnOk c.push_table.result (string_bytes c.push_table.new.text ≡ string_bytes c.args.text.now ++ part))
    (held_inner_is c.args.rows.now c.args.totals.now.entries (sym c.is_empty.ensures ∙ c.if-is_empty.false)) c.push_table.ensures
