use Rattle.std.proofs.Common.{[], ◌∷◌, refl}
use Rattle.std.specs.Prelude.{codes}
use Rattle.std.specs.String.{string_bytes}
use Rattle.lot_cells.proofs.AppendLemmas.{appended}
use Rattle.std.specs.Prelude.{None}
use Rattle.std.specs.List.{flat_map}
use Rattle.lot_page_report.specs.Sections.{foot_html, lot_total, rows_behind, shares_if_any, unpriced_in, unpriced_note}
use Rattle.lot_page_report.specs.Text.{held_head}
use Rattle.lot_page_report.proofs.held.push_table.Goals as goal

pub returns : goal.returns
returns c =
    appended c.push_shares.result (string_bytes c.args.text.now)
    (held_head ∷ (rows_behind c.args.totals.now.entries None c.args.rows.now) ∷ codes "</tbody>\n" ∷ (foot_html (flat_map lot_total c.args.totals.now.entries)) ∷ codes "</table>\n</div>\n" ∷ (unpriced_note (unpriced_in c.args.rows.now)) ∷ [])
    (shares_if_any c.args.totals.now.entries) (string_bytes c.push_unpriced.new.text) (string_bytes c.push_shares.new.text)
    (_, c.in_ok-push_str.ensures.bytes, (_, c.in_ok-push_rows.ensures, (_, c.in_ok-push_str-2.ensures.bytes, (_, rw (c.as_str.ensures.value, c.in_ok-foot.ensures) at c.in_ok-push_foot.ensures, (_, c.in_ok-push_str-3.ensures.bytes, (_, c.in_ok-push_unpriced.ensures, refl))))))
    c.push_shares.ensures
