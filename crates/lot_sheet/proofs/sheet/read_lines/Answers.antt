use Rattle.std.proofs.Common.{◌≡◌, ◌++◌, ◌∷◌, [], List, ℕ, Option, refl, sym, subst, ap, ◌∙◌, arith}
use Rattle.std.specs.Prelude.{IfSome}
use Rattle.csv.specs.Records.{AllText, Row, fields_of}
use Rattle.lot_sheet.specs.Reading.{IsOpen, lines_left}
use Rattle.lot_sheet.specs.Sheet.{HaveFault, Say}
use Rattle.lot_sheet.proofs.LineLemmas.{handed}
use Rattle.lot_sheet.proofs.SheetLemmas.{lines_moved, say_nothing}
use Rattle.lot_sheet.proofs.sheet.read_lines.Goals as goal

pub loop-sheet-init : goal.loop-sheet-init
loop-sheet-init c =
    record {
      is_open = c.requires;
      above = [];
      all = refl;
      at = record {
        stands = c.in_ok-at_start.ensures;
        place = omega arith;
        say = subst (Say c.args.form.now c.args.tables.now []) (sym c.new.ensures.items) (say_nothing c.args.form.now c.args.tables.now);
      };
    }

pub loop-sheet-preserved : goal.loop-sheet-preserved
loop-sheet-preserved c =
    let l = c.loop-sheet in
    let left = lines_left l.reader in
    let more = lines_left c.line_at.new.reader in
    let line = fields_of c.in-Some.line in
    let first : left ≡ line ∷ more =
    subst (λ (o : Option Row). IfSome o (λ (x : Row). left ≡ fields_of x ∷ more)) c.in-Some.is c.in_ok-line.ensures.some in
    let text : AllText line = subst (λ (o : Option Row). IfSome o (λ (x : Row). AllText (fields_of x))) c.in-Some.is c.in_ok-line.ensures.text in
    record {
      is_open = subst (λ (o : Option Row). IfSome o (λ (x : Row). IsOpen c.line_at.new.reader)) c.in-Some.is c.in_ok-line.ensures.open;
      above = l.invariant.above ++ line ∷ [];
      all = lines_moved (lines_left c.args.reader.now) l.invariant.above left more line l.invariant.all first;
      at = c.in_ok-add.ensures.ok c.args.tables.now l.invariant.above text l.invariant.at;
    }

pub returns-in_err-add-clause-fault : goal.returns-in_err-add-clause-fault
returns-in_err-add-clause-fault c =
    let l = c.loop-sheet in
    let left = lines_left l.reader in
    let more = lines_left c.line_at.new.reader in
    let line = fields_of c.in-Some.line in
    let first : left ≡ line ∷ more =
    subst (λ (o : Option Row). IfSome o (λ (x : Row). left ≡ fields_of x ∷ more)) c.in-Some.is c.in_ok-line.ensures.some in
    let text : AllText line = subst (λ (o : Option Row). IfSome o (λ (x : Row). AllText (fields_of x))) c.in-Some.is c.in_ok-line.ensures.text in
    handed c.from_residual-in_err-add.result c.in_err-add.field-0.0 (HaveFault c.args.form.now c.args.tables.now (lines_left c.args.reader.now))
    c.from_residual-in_err-add.ensures.1
    (c.in_err-add.ensures.fault c.args.tables.now (lines_left c.args.reader.now) l.invariant.above more text l.invariant.at
    (l.invariant.all ∙ ap (λ (ls : List (List (List ℕ))). l.invariant.above ++ ls) first))
