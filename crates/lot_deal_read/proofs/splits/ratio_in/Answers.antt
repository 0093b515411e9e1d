-- A text with a colon says what is before it and behind it.
use Rattle.std.proofs.Common.{arith}
use Rattle.lot_deal_read.proofs.RatioLemmas.{no_colon, with_colon}
use Rattle.lot_deal_read.proofs.splits.ratio_in.Goals as goal

pub returns-in-Some : goal.returns-in-Some
returns-in-Some c = let h = c.in-Some.ensures.byte (omega arith) (λ w o k. k) in let e = with_colon c.args.text.now c.in-Some.new.now c.in-Some.old.now h.0 h.1 in cc (e, c.ratio_of.ensures, c.whole.ensures, c.whole-in-Some.ensures, c.cut.ensures, c.cut-in-Some.ensures)

pub returns-in-None : goal.returns-in-None
returns-in-None c = no_colon c.args.text.now (c.in-None.ensures.byte (omega arith) (λ w o k. k))
