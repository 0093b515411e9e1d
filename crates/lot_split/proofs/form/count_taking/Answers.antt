-- The first that moves lots is the first of those that do.
use Rattle.std.proofs.Common.{◌∙◌, ◌/◌, sym, ap}
use Rattle.std.specs.Option.{option_copied}
use Rattle.lot_split.proofs.MovedLemmas.{count_first, count_half, count_none}
use Rattle.lot_split.proofs.form.count_taking.Goals as goal
use Rattle.lot_split.proofs.form.count_taking.Goals.{in_default-via-in-Some+else-fits_each, in_default-via-in_default}

pub returns-in-Some : goal.returns-in-Some
returns-in-Some c =
    sym (count_first c.args.asked.now c.args.postings.now c.in-Some.first.now (sym c.in-Some.ensures)
    (sym c.fits_each.ensures ∙ c.if-fits_each.true))

pub returns-in_default : goal.returns-in_default
returns-in_default c =
    elim c.in_default.branch [
      | in_default-via-in-Some+else-fits_each w ↦
          ap (λ n. n / 2) c.count_moving.ensures
          ∙ sym (count_half c.args.asked.now c.args.postings.now w.in-Some.first.now (sym w.in-Some.ensures)
          (sym w.fits_each.ensures ∙ w.if-fits_each.false))
      | in_default-via-in_default w ↦
          ap (λ n. n / 2) c.count_moving.ensures
          ∙ sym (count_none c.args.asked.now c.args.postings.now (sym c.first_moving.ensures ∙ ap option_copied w.in_default.is))
    ]
