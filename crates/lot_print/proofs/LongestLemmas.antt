-- A line of a canonical text that is as long as one can be.
use Rattle.std.proofs.Common.{◌≡◌, ℕ, zero, suc, ◌+◌, ◌*◌, ◌≤◌, Bool, true, List, [], ◌∷◌, ◌++◌, length, replicate, refl, arith, length-append, pos}
use Rattle.std.specs.Prelude.{Some}
use Rattle.std.specs.List.{list_all}
use Rattle.std.proofs.lemmas.Bool.{and_from, le-leb}
use Rattle.std.proofs.lemmas.Int.{ints}
use Rattle.std.proofs.lemmas.List.{length-replicate}
use Rattle.lot_base.specs.Day.{day_text}
use Rattle.lot_base.specs.Name.{IsName, is_note, is_note_byte, longest_note}
use Rattle.lot_command.specs.Canonical.{canonical, escaped, note_part}
use Rattle.lot_command.specs.declared.command.Command.{Command}
use Rattle.lot_command.specs.declared.command.Command.TheVariants.{Transaction}
use Rattle.lot_command.specs.declared.transaction.Flag.TheVariants.{Complete}
use Rattle.lot_command.specs.declared.transaction.Transaction.{Transaction as TransactionOf}
use Rattle.lot_syntax.specs.Line.{AreLines}
use Rattle.lot_print.specs.Length.{longest_printed}
use Rattle.lot_command.specs.Sayable.{IsSayable}
use Rattle.lot_print.proofs.CanonicalLines.{transaction_line}
use Rattle.lot_print.proofs.DayLemmas.{length-day_text}
use Rattle.lot_print.proofs.PieceLemmas.{is_printed, printed}
use Rattle.lot_print.proofs.TextLines.{command_lines}

-- ---- Notes of quotes.

abbrev quotes : ℕ → List ℕ
quotes n = replicate n 34

quotes_pass : (p : ℕ → Bool) (n : ℕ) → p 34 ≡ true → list_all p (quotes n) ≡ true
quotes_pass p zero e = refl
quotes_pass p (suc n) e = and_from _ _ e (quotes_pass p n e)

escaped_quotes : (n : ℕ) → length (escaped (quotes n)) ≡ 2 * n
escaped_quotes zero = refl
escaped_quotes (suc n) = omega (arith, escaped_quotes n)

quotes_note : (n : ℕ) → n ≤ longest_note → is_note (quotes n) ≡ true
unfolding is_note
quotes_note n le = and_from _ _ (le-leb _ longest_note (omega (arith, length-replicate {A = ℕ} n 34))) (quotes_pass is_note_byte n refl)

quotes_name : (n : ℕ) → n ≤ longest_note → IsName is_note (quotes n)
quotes_name n le = (
  (printed n (quotes n) (quotes_pass is_printed n refl) (omega (arith, length-replicate {A = ℕ} n 34))).utf8,
  quotes_note n le,
)

-- ---- A transaction with two of them.

abbrev quoting_much : ℕ → TransactionOf
quoting_much n = record {
  day = pos 0;
  flag = Complete;
  narration = Some (record { payee = Some (quotes n); text = quotes n });
  postings = [];
}

sayable : (n : ℕ) → n ≤ longest_note → IsSayable (Transaction (quoting_much n))
sayable n le = record {
  on_day = (omega (arith, ints), omega (arith, ints));
  of_narration = record { of_payee = quotes_name n le; of_text = quotes_name n le };
  of_postings = tt;
}

note_length : (n : ℕ) → length (note_part (quotes n)) ≡ 2 * n + 3
note_length n = omega (arith, length-append (escaped (quotes n)) (34 ∷ []), escaped_quotes n)

line_length : (n : ℕ) → length (transaction_line (quoting_much n)) ≡ 4 * n + 18
line_length n =
    omega (
      arith,
      length-append (day_text (pos 0)) (32 ∷ 42 ∷ (note_part (quotes n) ++ note_part (quotes n))),
      length-append (note_part (quotes n)) (note_part (quotes n)),
      length-day_text (pos 0),
      note_length n,
    )

-- a command, and the one line of its text
abbrev Longest : Type 0
Longest =
    (command : Command) × (line : List ℕ) × IsSayable command × AreLines (line ∷ []) (canonical command)
    × (length line ≡ longest_printed)

of_quotes : (n : ℕ) → n ≡ longest_note → Longest
of_quotes n e =
    let le : n ≤ longest_note = omega arith in (
      Transaction (quoting_much n),
      transaction_line (quoting_much n),
      sayable n le,
      command_lines (Transaction (quoting_much n)) (sayable n le),
      omega (arith, line_length n),
    )

pub longest_reached : Longest
longest_reached = of_quotes longest_note refl
