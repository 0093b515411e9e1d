-- The rows that are judged have days, and are those of the sheet.
use Rattle.std.proofs.Common.{ℕ, List, Option, refl, subst, sym, ap, ◌∙◌}
use Rattle.lot_profile.specs.declared.table.Table.{Table}
use Rattle.lot_export.specs.Cancels.{ArePartners}
use Rattle.lot_export.specs.HandedIn.{HaveDays}
use Rattle.lot_export.specs.Lines.{AreJudged, orders_of}
use Rattle.lot_export.specs.Named.{by_hand_of}
use Rattle.lot_export.specs.declared.named.Named.{Named}
use Rattle.lot_export.proofs.DayLemmas.{judged_have_days}
use Rattle.lot_export.proofs.export.export_of.Goals as goal

pub handed_in-requires-clause-days : goal.handed_in-requires-clause-days
handed_in-requires-clause-days c =
    subst (HaveDays c.args.entries.now) (sym c.as_slice-3.ensures)
    (judged_have_days (orders_of c.as_slice.result.now) c.args.entries.now c.in_ok-rows.rows c.requires.numbered c.in_ok-rows.ensures.ok)

pub returns-clause-ok : goal.returns-clause-ok
returns-clause-ok c =
    let entries = c.args.entries.now in
    let rows = c.as_slice-3.result.now in
    record {
      sheet = record { entries = c.args.entries; rows = c.as_slice-3.result; partners = c.deref.result; except = c.args.except };
      is = record {
        entries_are = refl;
        except_are = refl;
        matched = record {
          judged = subst (λ (list : List Named). AreJudged (orders_of c.args.profile.now.tables) entries list) (sym c.as_slice-3.ensures)
              (subst (λ (tables : List Table). AreJudged (orders_of tables) entries c.in_ok-rows.rows) c.as_slice.ensures c.in_ok-rows.ensures.ok);
          partners = subst (λ (list : List (Option ℕ)). ArePartners entries rows list) (sym c.deref.ensures.value)
              (subst (λ (list : List Named). ArePartners entries list c.in_ok-partners.partners.items) (c.as_slice-2.ensures ∙ sym c.as_slice-3.ensures)
              c.in_ok-partners.ensures);
        };
      };
      given = c.in_ok-handed_in.ensures.ok;
      by_hand = c.in_ok-by_hand.ensures ∙ ap (by_hand_of entries c.args.except.now) (c.as_slice-4.ensures ∙ sym c.as_slice-3.ensures);
      skipped = c.skipped.ensures;
      rounded = c.rounded.ensures;
    }
