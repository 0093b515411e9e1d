-- The parts stand behind one another.
use Rattle.std.proofs.Common.{◌≡◌, ◌++◌, ◌∙◌, ap, append_assoc, map, refl}
use Rattle.std.proofs.lemmas.Result.{on_ok_weaker}
use Rattle.std.specs.String.{string_bytes}
use Rattle.lot_tally.specs.Table.{shown}
use Rattle.lot_page_report.specs.Sections.{commodities_html}
use Rattle.lot_page_report.proofs.top.push_gains.Goals as goal

pub returns : goal.returns
returns c =
    let (years, are, written) = c.in_ok-push_years.ensures in
    let currencies = map shown c.rows-currencies.result.now.entries in
    let commodities = map shown c.rows-2.result.now.entries in
    on_ok_weaker {P = string_bytes c.push_commodities.new.text ≡ string_bytes c.push_years.new.text ++ commodities_html commodities currencies} c.push_commodities.result
    (λ is. (
      years ++ commodities_html commodities currencies,
      record {
        years = map shown c.rows.result.now.entries;
        commodities = commodities;
        currencies = currencies;
        rows = λ sales has. record {
          years = c.rows.ensures _ _ sales has.years;
          commodities = c.rows-2.ensures _ _ sales has.commodities;
          currencies = c.rows-currencies.ensures _ _ sales has.currencies;
        };
        part = years;
        are_years = are;
        whole = refl;
      },
      is ∙ ap (λ t. t ++ commodities_html commodities currencies) written ∙ append_assoc (string_bytes c.args.text.now) years _,
    ))
    c.push_commodities.ensures
