use Rattle.std.proofs.Common.{◌≡◌, ◌++◌, ◌∷◌, [], ◌∙◌, ap, arith, subst, sym}
use Rattle.std.proofs.lemmas.List.{append-nil, append_assoc, nil_from_length}
use Rattle.std.proofs.lemmas.Grind.{common_steps}
use Rattle.std.proofs.lemmas.List.Elements.{All-from_recursion, recursion_from_All}
use Rattle.lot_migrate.specs.declared.opening_numbers.LotOpening.{LotOpening}
use Rattle.lot_table.specs.Cell.{IsOpeningNumber}
use Rattle.lot_write.specs.declared.write.Write.TheVariants.{Opening}
use Rattle.lot_migrate.specs.Put.{opening_writes}
use Rattle.lot_migrate.specs.Rows.{row_of_opening}
use Rattle.lot_migrate.specs.Read.{AreNumbers}
use Rattle.lot_migrate.proofs.fill.writes_of.Goals as goal

pub opening_write-requires : goal.opening_write-requires
opening_write-requires c =
    let left = subst AreNumbers c.in-Some.ensures.steps.0 c.each.invariant.1 in
    record {
      number = (recursion_from_All (λ (it : LotOpening). IsOpeningNumber it.opening) (c.in-Some.it ∷ c.next.new.self.rest.items) left).0;
    }

pub each-preserved : goal.each-preserved
each-preserved c =
    let it = c.in-Some.it in
    let writes = c.each.writes.items in
    let rest = c.next.new.self.rest.items in
    let steps : c.each.it-iterator.rest.items ≡ it ∷ rest = c.in-Some.ensures.steps.0 in
    let left = subst AreNumbers steps c.each.invariant.1 in (
      ap (λ l. l ++ opening_writes rest) (c.in_ok-push.ensures.items ∙ ap (λ w. writes ++ w ∷ []) c.opening_write.ensures)
          ∙ append_assoc writes (Opening (row_of_opening it) ∷ []) (opening_writes rest)
          ∙ ap (λ l. writes ++ opening_writes l) (sym steps)
          ∙ c.each.invariant.0,
      All-from_recursion (λ (it : LotOpening). IsOpeningNumber it.opening) rest
          (recursion_from_All (λ (it : LotOpening). IsOpeningNumber it.opening) (it ∷ rest) left).1,
    )

pub returns : goal.returns
returns c =
    let writes = c.each.writes.items in
    let none = nil_from_length c.each.it-iterator.rest.items (grind (arith, common_steps)) in
    record {
      ok = sym (append-nil writes) ∙ ap (λ l. writes ++ opening_writes l) (sym none) ∙ c.each.invariant.0;
    }
