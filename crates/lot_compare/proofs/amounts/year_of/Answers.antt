use Rattle.std.proofs.Common.{◌≡◌, ap, sym, ◌∙◌, subst, take}
use Rattle.std.specs.Prelude.{IfOk}
use Rattle.std.specs.Str.{IsCharBoundary}
use Rattle.lot_compare.proofs.YearLemmas.{year_begins, year_ends}
use Rattle.lot_compare.proofs.amounts.year_of.Goals as goal

pub split_at-requires : goal.split_at-requires
split_at-requires c =
    subst (λ text. IsCharBoundary text 4) (sym (c.as_str.ensures.value ∙ c.in_ok-text.ensures)) (year_ends c.args.day)

pub returns : goal.returns
returns c =
    subst (λ text. IfOk c.new.result (λ year. year ≡ text))
    (c.split_at.ensures.front ∙ ap (take 4) (c.as_str.ensures.value ∙ c.in_ok-text.ensures) ∙ year_begins c.args.day) c.new.ensures
