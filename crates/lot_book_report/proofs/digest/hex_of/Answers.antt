-- The digits are text, so the text is made of them.
use Rattle.std.proofs.Common.{arith}
use Rattle.lot_book_report.proofs.HeardLemmas.{not_refused, written_is_text}
use Rattle.lot_book_report.proofs.digest.hex_of.Goals as goal

pub returns-in-Err : goal.returns-in-Err
returns-in-Err c =
    let is = written_is_text _ _ _ (c.encode_to_slice.ensures.fits.1 (omega arith)) c.encode_to_slice.ensures.written in
    absurd (not_refused _ _ c.in-Err.is (c.from_byte_string.ensures.variant.1 is))
