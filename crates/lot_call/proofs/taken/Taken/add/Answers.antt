-- The sums are those with all crumbs, whether the command is kept or not.
use Rattle.lot_call.proofs.taken.Taken.add.Goals as goal

pub returns-then-are_zero : goal.returns-then-are_zero
returns-then-are_zero c amounts h = rw c.as_slice.ensures at (c.in_ok-add_all.ensures amounts h)

pub returns-in_ok-push : goal.returns-in_ok-push
returns-in_ok-push c amounts h = rw c.as_slice.ensures at (c.in_ok-add_all.ensures amounts h)

pub returns-else-len-lt-TEN : goal.returns-else-len-lt-TEN
returns-else-len-lt-TEN c amounts h = rw c.as_slice.ensures at (c.in_ok-add_all.ensures amounts h)
