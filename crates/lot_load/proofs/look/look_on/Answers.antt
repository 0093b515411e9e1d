-- The text, what is kept or begun with, and what is learned agree with the book.
use Rattle.std.specs.Prelude.{◌≡◌, List, ℕ, Option, Some, option_map}
use Rattle.std.specs.String.{string_bytes}
use Rattle.std.proofs.Common.{ap, arith, subst, sym, ◌∙◌}
use Rattle.lot_book.specs.Facts.{Facts, text_under}
use Rattle.lot_book.specs.Recorded.{facts_in}
use Rattle.lot_load.specs.Damage.{HasText}
use Rattle.lot_load.specs.Paired.{whole_pairs}
use Rattle.lot_load.specs.Kept.{IsOf, Keeps, seen, seen_with_openings}
use Rattle.lot_load.specs.Known.{KnowsTouched}
use Rattle.lot_load.proofs.KeptLemmas.{keeps_turned}
use Rattle.lot_load.proofs.PairedLemmas.{kept_pairs, looked_pairs}
use Rattle.lot_load.proofs.ReadLemmas.{HasRead, reads_first, reads_next, tells}
use Rattle.lot_load.proofs.RowLemmas.{looked, numbers_looked}
use Rattle.lot_rows.proofs.StateLemmas.{early, has_still}
use Rattle.lot_rows.specs.Tables.{Has, Tables}
use Rattle.lot_view.specs.declared.touched.Touched.{Touched}
use Rattle.sqlite.specs.State.{HasCleanDisk}
use Rattle.lot_load.proofs.look.look_on.Goals as goal

pub returns : goal.returns
returns g c =
    let old = g.D.Queryable.shown c.args.conn.now in
    let read = g.D.Queryable.shown c.find_text.new.conn in
    let counted = g.D.Queryable.shown c.begin.new.conn in
    let new = g.D.Queryable.shown c.learn_lacking.new.conn in
    let key = c.args.key.now in
    let command = c.args.command.now in
    let kept = c.args.kept in
    let text : Option (List ℕ) = option_map string_bytes c.in_ok-text.text in
    let begun = c.in_ok-kept.kept in
    let learned = c.learn_lacking.new.kept in
    let turned = c.turn_to.new.self in
    let seen_then = ap (λ (f : Facts). f.text) c.turn_to.ensures.seen in
    let t = c.in_ok-touched.touched in
    let one : HasRead (λ entries. text ≡ text_under entries key) old read =
    reads_first _ _ _ (λ entries. text ≡ text_under entries key) old read c.in_ok-text.text c.in_ok-text.ensures.tells
    (λ tables entries book stand good is. is entries book stand) in
    let two : HasRead (λ entries. (text ≡ text_under entries key) × (IsOf kept entries → Keeps begun entries)) old counted =
    reads_next _ _ _ (λ entries. text ≡ text_under entries key) (λ entries. (text ≡ text_under entries key) × (IsOf kept entries → Keeps begun entries))
    old read counted begun one c.in_ok-kept.ensures.tells
    (λ tables entries book stand was good is. (was, is entries book stand)) in
    let counted_has : HasCleanDisk new → (tables : Tables) → Has old tables → Has counted tables =
    λ clean tables has. has_still old counted tables (two.same (early counted new c.in_ok-learn_lacking.ensures.tells.crash clean)) has in record {
      same_reference = c.in_ok-learn_lacking.ensures.same_reference ∙ c.in_ok-kept.ensures.same_reference ∙ c.in_ok-text.ensures.same_reference;
      looks = tells _ old new _
          (reads_next _ _ _ (λ entries. (text ≡ text_under entries key) × (IsOf kept entries → Keeps begun entries)) _
          old counted new c.in_ok-learn_lacking.field-0 two c.in_ok-learn_lacking.ensures.tells
          (λ tables entries book stand was good is of.
          let covers = is entries book stand (was.1 of) in
          let keeps = keeps_turned learned turned text entries c.turn_to.ensures.seen c.turn_to.ensures.openings c.turn_to.ensures.whole covers.keeps in (
            keeps,
            record {
              facts = looked entries key command t (seen turned) c.in_ok-touched.ensures.accounts c.in_ok-touched.ensures.declared
                  c.in_ok-touched.ensures.pairs c.in_ok-touched.ensures.plain keeps.count (seen_then ∙ was.0)
                  (subst (KnowsTouched t (facts_in entries)) (sym c.turn_to.ensures.seen) covers.knows);
              opening = numbers_looked entries command (seen_with_openings turned) keeps.openings;
            },
          )));
      damage = λ clean. c.in_ok-text.ensures.damage
          (omega (arith, clean, c.in_ok-learn_lacking.ensures.tells.crash.clean, c.in_ok-kept.ensures.tells.crash.clean));
      text = λ clean tables has.
          subst (HasText tables key) (sym seen_then)
          (c.in_ok-text.ensures.text (omega (arith, clean, c.in_ok-learn_lacking.ensures.tells.crash.clean, c.in_ok-kept.ensures.tells.crash.clean)) tables has);
      paired = λ clean tables has.
          looked_pairs kept begun tables c.in_ok-kept.ensures.whole command t c.in_ok-touched.ensures.pairs
          (c.in_ok-learn_lacking.ensures.paired clean tables (counted_has clean tables has));
      whole = λ clean tables has.
          kept_pairs kept begun tables c.in_ok-kept.ensures.whole (whole_pairs (Some learned)) (whole_pairs (Some turned))
          (ap (λ (whole : Touched). whole.pairs.keys) c.turn_to.ensures.whole)
          (c.in_ok-learn_lacking.ensures.whole clean tables (counted_has clean tables has));
    }
