-- The parts stand behind one another.
use Rattle.std.proofs.Common.{[], ◌∷◌, ◌++◌, ◌∙◌, ap, refl}
use Rattle.std.specs.Prelude.{codes}
use Rattle.std.specs.String.{string_bytes}
use Rattle.lot_plot.proofs.PieceLemmas.{grown}
use Rattle.lot_plot.specs.Plot.{all_of}
use Rattle.lot_page_report.specs.Counted.{days_in}
use Rattle.lot_page_report.specs.Parts.{covered_by, page_in}
use Rattle.lot_page_report.specs.Sections.{held_html}
use Rattle.lot_page_report.specs.Text.{days_html, front_html, header_with, part_front}
use Rattle.lot_page_report.proofs.top.top_text.Goals as goal

pub returns : goal.returns
returns c =
    let page = page_in c.args.scope.now in
    let made = c.args.parts.now in
    let (gains, are_gains, put_gains) = c.in_ok-push_gains.ensures in
    let (months, are_months, put_months) = rw c.deref-2.ensures.value at c.in_ok-push_months.ensures in
    let header = header_with page.name
    (days_html (covered_by (made.counted.first, made.counted.last) (days_in made.counted.days)) made.counted.within made.counted.count)
    made.digest in
    let held = held_html page made.lots.held.rows.items made.lots.held.totals.entries in
    let pieces = front_html page.name ∷ codes "<body>\n" ∷ header ∷ codes "<main>\n" ∷ gains ∷ held ∷ months
    ∷ part_front (codes "sales") (codes "Sales") ∷ [] in
    let put_held = rw c.deref.ensures.value at c.in_ok-push_held.ensures in
    let put_header = c.in_ok-push_header.ensures
    ∙ ap (λ days. string_bytes c.push_str.new.self ++ header_with page.name (days_html days made.counted.within made.counted.count) made.digest)
    c.covered.ensures in (
      all_of pieces,
      record { gains = gains; are_gains = are_gains; months = months; are_months = are_months; whole = refl },
      grown (string_bytes c.in_ok-text.text) pieces _ (
        _,
        c.in_ok-push_front.ensures,
        (
          _,
          c.in_ok-push_str.ensures.bytes,
          (
            _,
            put_header,
            (
              _,
              c.in_ok-push_str-2.ensures.bytes,
              (_, put_gains, (_, put_held, (_, put_months, (_, c.in_ok-push_str-3.ensures.bytes, refl)))),
            ),
          ),
        ),
      )
          ∙ ap (λ t. t ++ all_of pieces) c.in_ok-text.ensures.ok,
    )
