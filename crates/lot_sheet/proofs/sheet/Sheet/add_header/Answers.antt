use Rattle.std.proofs.Common.{List, ℕ, None, map, ap, ◌∙◌}
use Rattle.csv.specs.Records.{fields_of}
use Rattle.lot_sheet.specs.Column.{names_in}
use Rattle.lot_sheet.specs.Header.{Standing, with_header}
use Rattle.lot_sheet.specs.Part.{first_bad, header_columns}
use Rattle.lot_sheet.proofs.SheetLemmas.{heads_part, next_place, say_heading, stands_headed}
use Rattle.lot_sheet.proofs.sheet.Sheet.add_header.Goals as goal

pub returns-clause-ok : goal.returns-clause-ok
returns-clause-ok c tables above text at =
    let form = c.args.form.now in
    let line = fields_of c.args.line.now in
    let stands = c.args.self.now.tables.items in
    let number = c.args.self.now.number in
    record {
      stands = stands_headed form tables above line stands number at.stands at.place c.in_ok-self.field-0.items
          (c.in_ok-self.ensures ∙ ap (λ (ss : List Standing). map (with_header form.delimiter number line) ss) c.deref-2.ensures.value);
      place = c.in-Some.ensures.1 ∙ next_place form tables above line stands number at.stands at.place;
      say = say_heading form tables above c.args.self.now.rows.items at.say line text
          (heads_part form tables above line stands number at.stands at.place c.requires None
          (c.in_ok-check_columns.ensures.ok
          ∙ ap (λ (ns : List (List ℕ)). first_bad form.optional ns (header_columns form.delimiter number line c.deref.result.now)) c.in_ok-names.ensures.ok
          ∙ ap (λ (ss : List Standing). first_bad form.optional (names_in line) (header_columns form.delimiter number line ss)) c.deref.ensures.value));
    }
