-- A line ends at the first line end, or with the text.
use Rattle.std.proofs.Common.{sym, ◌∙◌, refl, arith}
use Rattle.std.proofs.lemmas.Bool.Decides.{nat_tests}
use Rattle.lot_syntax.proofs.LineLemmas.{first_is, next_line, last_line, empty_text, shorter}
use Rattle.lot_syntax.proofs.lines.LinesIterator.next.Goals as goal

pub returns-then-is_empty-clause-steps : goal.returns-then-is_empty-clause-steps
returns-then-is_empty-clause-steps c =
    let none = sym c.self.view_is ∙ empty_text c.self.inside.rest.now (grind (arith, nat_tests)) in
    (none, none)

pub returns-in-Some-clause-steps : goal.returns-in-Some-clause-steps
returns-in-Some-clause-steps c =
    let place = first_is c.self.inside.rest.now c.memchr.result c.memchr.ensures in
    sym c.self.view_is ∙ next_line c.self.inside.rest.now _ _ c.in-Some.end (sym c.in-Some.is ∙ place) c.without_return.ensures refl

pub returns-in-None-clause-steps : goal.returns-in-None-clause-steps
returns-in-None-clause-steps c =
    let place = first_is c.self.inside.rest.now c.memchr.result c.memchr.ensures in
    sym c.self.view_is
    ∙ last_line c.self.inside.rest.now _ (grind (arith, nat_tests)) (sym c.in-None.is ∙ place) c.without_return-in-None.ensures

pub returns-in-Some-clause-goes : goal.returns-in-Some-clause-goes
returns-in-Some-clause-goes c = record {
  on = λ _. (tt, tt, shorter _ _ _ (returns-in-Some-clause-steps c));
  keeps = tt;
  rests = λ _. tt;
}

pub returns-in-None-clause-goes : goal.returns-in-None-clause-goes
returns-in-None-clause-goes c = record {
  on = λ _. (tt, tt, shorter _ _ _ (returns-in-None-clause-steps c));
  keeps = tt;
  rests = λ _. tt;
}
