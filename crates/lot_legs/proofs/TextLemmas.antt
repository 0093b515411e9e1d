-- The canonical text of a command begins with the day of the command.
use Rattle.std.proofs.Common.{◌≡◌, ◌≢◌, ◌∙◌, ◌<◌, ◌⊎◌, inl, inr, ℕ, ℤ, List, [], ◌∷◌, ◌++◌, drop, take, length, length-append, refl, sym, ap, subst, Some, None, arith}
use Rattle.std.specs.Prelude.{IsUtf8, slice_range}
use Rattle.std.proofs.Math.Seq.{take-append_seam}
use Rattle.lot_base.specs.Day.{IsDayNumber, day_text, named_day}
use Rattle.lot_base.proofs.ReadBackLemmas.{named_day-day_text}
use Rattle.lot_command.specs.Canonical.{canonical}
use Rattle.lot_command.specs.Sayable.{IsSayable}
use Rattle.lot_command.specs.declared.command.Command.{Command}
use Rattle.lot_command.specs.declared.command.Command.TheVariants.{Closing, Declaring, Opening, Quoting, Transaction}
use Rattle.lot_print.proofs.DayLemmas.{day_piece, length-day_text}
use Rattle.lot_legs.specs.Days.{day_in}
use Rattle.lot_legs.specs.Legs.{day_of}

begins : (command : Command) → (rest : List ℕ) × (canonical command ≡ day_text (day_of command) ++ rest)
begins (Opening o) = (_, refl)
begins (Closing c) = (_, refl)
begins (Declaring d) = (_, refl)
begins (Quoting q) = (_, refl)
begins (Transaction t) = (_, refl)

sayable_day : (command : Command) → IsSayable command → IsDayNumber (day_of command)
sayable_day (Opening o) said = said.on_day
sayable_day (Closing c) said = said.on_day
sayable_day (Declaring d) said = said.on_day
sayable_day (Quoting q) said = said.on_day
sayable_day (Transaction t) said = said.on_day

front : (n : ℤ) (rest : List ℕ) → take 10 (day_text n ++ rest) ≡ day_text n
front n rest = ap (λ k. take k (day_text n ++ rest)) (sym (length-day_text n)) ∙ take-append_seam (day_text n) rest

first_ten : (command : Command) → take 10 (canonical command) ≡ day_text (day_of command)
first_ten command = let b = begins command in ap (take 10) b.1 ∙ front (day_of command) b.0

pub canonical_day : (command : Command) → IsSayable command → day_in (canonical command) ≡ Some (day_of command)
canonical_day command said = ap named_day (first_ten command) ∙ named_day-day_text (day_of command) (sayable_day command said)

-- ---- which texts are none

drop_none : {X : Type 0} (xs : List X) → drop 0 xs ≡ xs
drop_none [] = refl
drop_none (x ∷ xs) = refl

pub front_of : (text bytes front : List ℕ) → bytes ≡ text → front ≡ slice_range bytes 0 10 → front ≡ take 10 text
front_of text bytes front same is = is ∙ ap (take 10) (drop_none bytes ∙ same)

too_short : (text : List ℕ) (command : Command) → length text < 10 → text ≢ canonical command
too_short text command short is =
    let b = begins command in
    let whole : length text ≡ length (day_text (day_of command) ++ b.0) = ap length (is ∙ b.1) in
    omega (arith, short, whole, length-append (day_text (day_of command)) b.0, length-day_text (day_of command))

pub no_front : (text bytes : List ℕ) → bytes ≡ text → (10 < 0) ⊎ (length bytes < 10) → (command : Command) → text ≢ canonical command
no_front text bytes same (inl never) command is = absurd (omega (arith, never))
no_front text bytes same (inr short) command is = too_short text command (subst (λ l. length l < 10) same short) is

pub no_text : (text front : List ℕ) (command : Command) → front ≡ take 10 text → ¬ IsUtf8 front → text ≢ canonical command
no_text text front command is not same =
    not (subst IsUtf8 (sym (is ∙ ap (take 10) same ∙ first_ten command)) (day_piece (day_of command)).utf8)

pub no_day : (text front : List ℕ) (command : Command) → IsSayable command → front ≡ take 10 text → named_day front ≡ None → text ≢ canonical command
no_day text front command said is nowhere same =
    let none : day_in text ≡ None = ap named_day (sym is) ∙ nowhere in
    let both : Some (day_of command) ≡ None = sym (canonical_day command said) ∙ sym (ap day_in same) ∙ none in
    absurd cc
