-- By its first bytes, and what is behind them.
use Rattle.lot_field.proofs.DayLemmas.{word-not, word-there}
use Rattle.lot_field.proofs.days.begins_with_word.Goals as goal

pub returns-then-eq_ignore_ascii_case : goal.returns-then-eq_ignore_ascii_case
returns-then-eq_ignore_ascii_case c =
    word-there c.args.word.now c.args.text.now c.split_at.result.0.now c.eq_ignore_ascii_case.result c.split_at.ensures.front
    c.eq_ignore_ascii_case.ensures.test c.split_at.result.1.now c.begins_with_letter.result c.split_at.ensures.back
    c.begins_with_letter.ensures c.if-eq_ignore_ascii_case.true

pub returns-else-eq_ignore_ascii_case : goal.returns-else-eq_ignore_ascii_case
returns-else-eq_ignore_ascii_case c =
    word-not c.args.word.now c.args.text.now c.split_at.result.0.now c.eq_ignore_ascii_case.result c.split_at.ensures.front
    c.eq_ignore_ascii_case.ensures.test c.if-eq_ignore_ascii_case.false
