-- The counts grow by the call, as far as they go.
use Rattle.std.proofs.Common.{◌≡◌, ◌≢◌, ℕ, arith, inl, inr, refl, rules, subst, sym}
use Rattle.std.specs.IoError.{error_kind}
use Rattle.std.specs.Prelude.{Result}
use Rattle.std.specs.declared.io.Error.{Error}
use Rattle.std.specs.declared.io.ErrorKind.{ErrorKind}
use Rattle.lot_io.specs.Reads.{IsCall}
use Rattle.lot_io.proofs.ReadLemmas.{gives, gives_none}
use Rattle.lot_io.proofs.reader.CountedReaderCountedRead.read_counted.Goals as goal

pub returns-in-Ok-eq0-clause-calls : goal.returns-in-Ok-eq0-clause-calls
returns-in-Ok-eq0-clause-calls g c =
    let none : c.in-Ok-eq0.field-0 ≡ 0 = search rules in (
      record { made = 1; failed = 0; ended = 1; given = 0 },
      subst (λ (outcome : Result ℕ Error). IsCall outcome (record { made = 1; failed = 0; ended = 1; given = 0 })) (sym c.in-Ok-eq0.is)
          (refl, refl, sym (gives_none c.in-Ok-eq0.field-0 none), sym none),
      (omega (arith, c.saturating_add-self.ensures), omega arith, omega (arith, c.saturating_add-self-in-Ok-eq0.ensures), omega arith),
    )

pub returns-in-Ok-clause-calls : goal.returns-in-Ok-clause-calls
returns-in-Ok-clause-calls g c = (
  record { made = 1; failed = 0; ended = 0; given = c.in-Ok.count },
  subst (λ (outcome : Result ℕ Error). IsCall outcome (record { made = 1; failed = 0; ended = 0; given = c.in-Ok.count })) (sym c.in-Ok.is)
      (refl, refl, sym (gives c.in-Ok.count search rules), refl),
  (omega (arith, c.saturating_add-self.ensures), omega arith, omega arith, omega (arith, c.saturating_add-self-in-Ok.ensures)),
)

pub returns-in-Err-clause-calls : goal.returns-in-Err-clause-calls
returns-in-Err-clause-calls g c =
    let kind : error_kind c.in-Err.error ≡ ErrorKind.Interrupted = search rules in (
      record { made = 1; failed = 0; ended = 0; given = 0 },
      subst (λ (outcome : Result ℕ Error). IsCall outcome (record { made = 1; failed = 0; ended = 0; given = 0 })) (sym c.in-Err.is)
          (refl, inl (kind, refl), refl, refl),
      (omega (arith, c.saturating_add-self.ensures), omega arith, omega arith, omega arith),
    )

pub returns-in-Err-2-clause-calls : goal.returns-in-Err-2-clause-calls
returns-in-Err-2-clause-calls g c =
    let kind : error_kind c.in-Err.error ≢ ErrorKind.Interrupted = search rules in (
      record { made = 1; failed = 1; ended = 0; given = 0 },
      subst (λ (outcome : Result ℕ Error). IsCall outcome (record { made = 1; failed = 1; ended = 0; given = 0 })) (sym c.in-Err.is)
          (refl, inr (kind, refl), refl, refl),
      (omega (arith, c.saturating_add-self.ensures), omega (arith, c.saturating_add-self-in-Err-2.ensures), omega arith, omega arith),
    )
