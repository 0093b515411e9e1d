-- The words of methods are UTF-8.
use Rattle.std.proofs.Common.{ℕ, ◌<◌, List, [], ◌∷◌, arith}
use Rattle.std.proofs.lemmas.Str.Ascii.{IsAscii-cons, IsAscii-nil}
use Rattle.std.proofs.lemmas.Str.{IsUtf8-from_ascii}
use Rattle.std.specs.List.{AllByRecursion}
use Rattle.std.specs.Str.{IsAscii, IsUtf8}
use Rattle.lot_cost.specs.Method.{word_of}
use Rattle.lot_cost.specs.declared.method.Method.TheVariants.{Strict, Fifo, Lifo, Hifo, Unmatched}
use Rattle.lot_cost.specs.declared.method.Method.{Method}

ascii : (bs : List ℕ) → AllByRecursion (λ b. b < 128) bs → IsAscii bs
ascii [] all = IsAscii-nil
ascii (b ∷ bs) all = IsAscii-cons b bs all.0 (ascii bs all.1)

pub word_is_utf8 : (method : Method) → IsUtf8 (word_of method)
word_is_utf8 Strict = IsUtf8-from_ascii (word_of Strict) (ascii (word_of Strict) (omega arith, (omega arith, (omega arith, (omega arith, (omega arith, (omega arith, tt)))))))
word_is_utf8 Fifo = IsUtf8-from_ascii (word_of Fifo) (ascii (word_of Fifo) (omega arith, (omega arith, (omega arith, (omega arith, tt)))))
word_is_utf8 Lifo = IsUtf8-from_ascii (word_of Lifo) (ascii (word_of Lifo) (omega arith, (omega arith, (omega arith, (omega arith, tt)))))
word_is_utf8 Hifo = IsUtf8-from_ascii (word_of Hifo) (ascii (word_of Hifo) (omega arith, (omega arith, (omega arith, (omega arith, tt)))))
word_is_utf8 Unmatched = IsUtf8-from_ascii (word_of Unmatched) (ascii (word_of Unmatched) (omega arith, (omega arith, (omega arith, (omega arith, tt)))))
