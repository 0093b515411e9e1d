use Rattle.std.proofs.Common.{◌∙◌, sym}
use Rattle.lot_tally.proofs.laws.any_keys_give_the_same_total.Goals as goal

pub returns : goal.returns
returns c by others form other sales rows other_rows currency own are also =
    c.rows_add_up_to_the_total.ensures by form sales rows currency own are
    ∙ sym (c.rows_add_up_to_the_total.ensures others other sales other_rows currency own also)
