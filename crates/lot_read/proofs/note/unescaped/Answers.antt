-- A text whose escape this is begins with the text so far.
use Rattle.std.proofs.Common.{◌≡◌, true, Result, Ok, Err, ◌∙◌, sym, arith}
use Rattle.std.specs.Prelude.{IsOk}
use Rattle.std.specs.Result.{is_err}
use Rattle.std.specs.Char.{encode_utf8}
use Rattle.std.specs.Str.Iter.{chars_rest}
use Rattle.lot_read.proofs.EscapeLemmas.{escape_front, escape_length, escape_shorter}
use Rattle.lot_read.proofs.note.unescaped.Goals as goal

no_err : {T E : Type 0} (r : Result T E) → IsOk r → is_err r ≡ true → ⊥
no_err (Ok t) ok err = cc
no_err (Err e) ok err = cc

pub returns-in_err-meant : goal.returns-in_err-meant
returns-in_err-meant c =
    rw c.from_residual.ensures
    (λ text e most.
    let more = escape_front c.loop-character.text.bytes text (chars_rest c.loop-character.characters) (sym c.loop-character.invariant ∙ e) in
    c.in_err-meant.ensures more.0 (sym c.in-Some.ensures.steps.0 ∙ more.2))

pub returns-then-is_err : goal.returns-then-is_err
returns-then-is_err c = λ text e most.
    let long = escape_length c.args.escape.now c.loop-character.text.bytes (chars_rest c.loop-character.characters)
    (encode_utf8 c.in_ok-meant.meant) (chars_rest c.meant.new.rest) text c.loop-character.invariant
    (c.in-Some.ensures.steps.0 ∙ c.in_ok-meant.ensures) e in
    let fits = c.try_push.ensures.variant.1 (omega arith) in
    no_err c.try_push.result fits (sym c.is_err.ensures.value ∙ c.if-is_err.true)

pub loop-character-smaller : goal.loop-character-smaller
loop-character-smaller c =
    escape_shorter c.in_ok-meant.meant (chars_rest c.loop-character.characters) (chars_rest c.meant.new.rest)
    (c.in-Some.ensures.steps.0 ∙ c.in_ok-meant.ensures)
