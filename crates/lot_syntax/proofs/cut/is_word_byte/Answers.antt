-- The table is held against the definition at each of the 256 bytes, by computing.
use Rattle.std.proofs.Common.{◌≡◌, ℕ, ◌==◌, ◌<◌, Bool, not, map, get_or, refl, ap, ◌∙◌, sym, arith}
use Rattle.std.specs.List.{range_with_len}
use Rattle.std.proofs.lemmas.List.{get_or-map}
use Rattle.std.proofs.lemmas.List.FromFn.{get_or-map-range_with_len}
use Rattle.lot_syntax.specs.Token.{is_word_byte}
use Rattle.lot_syntax.specs.declared.cut.TheConstants.{WORD_BYTES}
use Rattle.lot_syntax.proofs.cut.is_word_byte.Goals as goal

abbrev is_marked : ℕ → Bool
is_marked entry = not (entry == 33)

table_is : map is_marked WORD_BYTES ≡ map is_word_byte (range_with_len 0 256)
table_is = refl

entry : (b : ℕ) → b < 256 → is_marked (get_or WORD_BYTES b 0) ≡ is_word_byte b
entry b h =
    sym (get_or-map is_marked WORD_BYTES b 0 (is_word_byte b) h)
    ∙ ap (λ marks. get_or marks b (is_word_byte b)) table_is
    ∙ get_or-map-range_with_len is_word_byte 0 256 b b (is_word_byte b) h (omega arith)

pub returns : goal.returns
returns c = rw c.from.ensures (entry c.args.b (omega arith))
