-- An entry of the range is written, with the begin of a fold where its month is another one.
use Rattle.std.proofs.Common.{◌≡◌, ◌++◌, ◌∙◌, Some, ap, false, refl, rules, subst, sym, true}
use Rattle.lot_legs.specs.Days.{day_in}
use Rattle.lot_walk.specs.Journal.{said}
use Rattle.lot_months.specs.Range.{months_before}
use Rattle.lot_page_report.specs.Sections.{entry_row_html, fold_with, month_in}
use Rattle.std.specs.BTreeSet.{contains}
use Rattle.std.specs.Ordering.{nat_cmp}
use Rattle.lot_page_report.specs.Listed.{month_number}
use Rattle.lot_page_report.proofs.CountLemmas.{day_is}
use Rattle.lot_page_report.proofs.JournalLemmas.{listed_more, listed_still, no_piece, piece_is, within_is}
use Rattle.lot_page_report.proofs.journal.JournalListListingEntry.next_text.Goals as goal

pub returns-then-not-is_within : goal.returns-then-not-is_within
returns-then-not-is_within c = λ range rows had.
    let row = said c.args.entry in
    let no : c.is_within.result ≡ false = search rules in
    let isnt = within_is range rows row c.args.self.now had c.in-Some.day c.is_within.result (subst (λ text. day_in text ≡ Some c.in-Some.day) c.as_str.ensures.value (rw c.in-Some.is at c.day_at_front.ensures.day)) c.is_within.ensures ∙ no in
    (listed_still range rows row c.args.self.now _ had isnt refl refl refl refl, c.new-text.ensures.bytes ∙ sym (no_piece range rows row isnt))

pub returns : goal.returns
returns c = λ range rows had.
    let row = said c.args.entry in
    let yes : c.is_within.result ≡ true = search rules in
    let day = subst (λ text. day_in text ≡ Some c.in-Some.day) c.as_str.ensures.value (rw c.in-Some.is at c.day_at_front.ensures.day) in
    let is = within_is range rows row c.args.self.now had c.in-Some.day c.is_within.result day c.is_within.ensures ∙ yes in
    let month : c.month_of-month.result.0 ≡ month_in row = c.month_of-month.ensures ∙ ap months_before (sym (day_is row c.in-Some.day day)) in (
      listed_more range rows row c.args.self.now _ had is refl refl (ap Some month) (rw (month) at (c.in_ok-push_fold.ensures.months.0)),
      c.in_ok-push_entry.ensures
          ∙ ap (λ t. t ++ entry_row_html row) ((rw (month) at c.in_ok-push_fold.ensures.text) ∙ ap (λ t. t ++ fold_with (month_number c.args.self.now.month) (contains nat_cmp c.args.self.now.months (month_in row)) (month_in row)) c.new-text.ensures.bytes)
          ∙ piece_is range rows row c.args.self.now had is,
    )
