use Rattle.std.proofs.Common.{◌≡◌, ◌+◌, ◌++◌, ◌∷◌, [], List, Option, Some, None, Ok, length, sym, subst, ◌∙◌, arith}
use Rattle.csv.specs.Records.{fields_of}
use Rattle.lot_sheet.specs.Header.{Standing}
use Rattle.lot_sheet.specs.Part.{Outside, RowOf}
use Rattle.lot_sheet.specs.Reading.{GivesRow, IsAt}
use Rattle.lot_sheet.specs.Sheet.{Say, SheetRow}
use Rattle.lot_sheet.proofs.SheetLemmas.{body_part, next_place, say_outside, say_row, stands_same}
use Rattle.lot_sheet.proofs.sheet.Sheet.add_row.Goals as goal
use Rattle.lot_sheet.proofs.sheet.Sheet.add_row.Goals.{in-Some-found+in_ok-push, in_default-found}

pub returns-clause-ok : goal.returns-clause-ok
returns-clause-ok c tables above text at =
    let form = c.args.form.now in
    let line = fields_of c.args.line in
    let stands = c.args.self.now.tables.items in
    let number = c.args.self.now.number in
    let rows = c.args.self.now.rows.items in
    let n = c.len.result + 1 in
    let count : n ≡ length rows + 1 = omega (arith, c.args.self.now.rows.ok, c.len.ensures) in
    let gives : GivesRow form stands n line (Ok c.in_ok-found.found) =
    subst (λ (ss : List Standing). GivesRow form ss n line (Ok c.in_ok-found.found)) c.deref.ensures.value c.in_ok-found.ensures in
    elim c.match-found.branch [
      | in-Some-found+in_ok-push w ↦
          let row = w.in-Some-found.row in
          let g : GivesRow form stands n line (Ok (Some row)) =
          subst (λ (o : Option SheetRow). GivesRow form stands n line (Ok o)) w.in-Some-found.is gives in
          subst (IsAt form tables (above ++ line ∷ [])) (sym w.self-is) (record {
            stands = stands_same form tables above line stands number at.stands at.place c.requires;
            place = c.in-Some.ensures.1 ∙ next_place form tables above line stands number at.stands at.place;
            say = subst (Say form tables (above ++ line ∷ [])) (sym w.in_ok-push.ensures.items)
                (say_row form tables above rows at.say line text row n count g.0 g.1 g.2
                (body_part form tables above line stands number at.stands at.place c.requires (RowOf row.table row.header line) g.3));
          })
      | in_default-found w ↦
          let g : GivesRow form stands n line (Ok None) =
          subst (λ (o : Option SheetRow). GivesRow form stands n line (Ok o)) w.in_default-found.is gives in
          subst (IsAt form tables (above ++ line ∷ [])) (sym w.self-is) (record {
            stands = stands_same form tables above line stands number at.stands at.place c.requires;
            place = c.in-Some.ensures.1 ∙ next_place form tables above line stands number at.stands at.place;
            say = say_outside form tables above rows at.say line text
                (body_part form tables above line stands number at.stands at.place c.requires Outside g);
          })
    ]
