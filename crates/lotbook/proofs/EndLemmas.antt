-- With which status a comparison ends, and a call whose book isn't taken up.
use Rattle.std.specs.Prelude.{◌≡◌, if◌then◌else◌, ℕ, List, Bool, true, false, not, IsTrue, Option, Some, Result, Ok, Err}
use Rattle.std.proofs.Common.{arith, inl, inr, refl, subst, sym, ◌∙◌}
use Rattle.std.proofs.lemmas.Bool.{true≢false}
use Rattle.sqlite.specs.State.{HasCleanDisk, State}
use Rattle.lot_call.specs.Looks.{IsLookedAt}
use Rattle.lot_cli.specs.Differ.{EndsCompared, EndsWithFault}
use Rattle.lot_cli.specs.Says.{Halts, Says, Told}
use Rattle.lot_cli.specs.Shows.{ShowsExport}
use Rattle.lot_cli.specs.declared.halt.Halt.TheVariants as halt
use Rattle.lot_compare.specs.Fault.{is_of_writer}
use Rattle.lot_compare.specs.declared.fault.CompareFault.{CompareFault}
use Rattle.lot_host.specs.Answers.{stopped}
use Rattle.lot_input.specs.Input.{reading_between}
use Rattle.lot_io.specs.Reads.{ReadCalls, no_reads}
use Rattle.lot_io.specs.Writes.{WriteCalls, WritesMade, no_writes}
use Rattle.lot_output.specs.Output.{IsCutOff}
use Rattle.lot_profile.specs.declared.profile.Profile.{Profile}
use Rattle.lot_store.specs.declared.fault.AdoptFault.{AdoptFault}
use Rattle.lot_stream.specs.Status.{code_of}
use Rattle.lot_stream.specs.declared.status.Status.{Status}
use Rattle.lot_stream.specs.declared.status.Status.TheVariants.{Stopped}
use Rattle.lotbook.specs.Answered.{IsHandedOn, IsOutside, reads_from_none, writes_from_none}
use Rattle.lotbook.specs.Statuses.{IsStatusBeside}

-- what says that it stopped ends so, whether it could be written or not
pub says_stopped : (text : List ℕ) (before written : Option (List ℕ)) (calls : WritesMade) (end : ℕ)
    → Says text Stopped before written calls end → end ≡ stopped
says_stopped text before written calls end (inl said) = said.0
says_stopped text before written calls end (inr cut) = cut.0

ends_faulty : (of_writer : Bool) (fault : CompareFault) (mid written : Option (List ℕ)) (calls : WritesMade) (end : ℕ)
    → EndsWithFault of_writer fault mid written calls end → end ≡ stopped
ends_faulty true fault mid written calls end ends = ends.2
ends_faulty false fault mid written calls end ends = says_stopped _ mid written calls end ends

-- a comparison ends with the status before it, or is stopped
pub ends_compared : (compared : Result (Unit {0}) CompareFault) (status : Status) (mid written : Option (List ℕ)) (calls : WritesMade)
    (code end : ℕ) → code_of status ≡ code → EndsCompared compared status mid written calls end → IsStatusBeside code end
ends_compared (Ok done) status mid written calls code end same (inl said) = inl (said.0 ∙ same)
ends_compared (Ok done) status mid written calls code end same (inr cut) = inr cut.0
ends_compared (Err fault) status mid written calls code end same ends =
    inr (ends_faulty (is_of_writer fault) fault mid written calls end ends)

-- what a writer that made no calls before was made to write, since it began
pub halts_from_none : (fault : AdoptFault) (before written : Option (List ℕ)) (start end : WriteCalls) (told : Told) → start ≡ no_writes
    → Halts (halt.Adopt fault) before written (record { before = Some start; after = Some end }) told
    → Halts (halt.Adopt fault) before written (writes_from_none end) told
halts_from_none fault before written start end told none says =
    subst (λ (calls : WriteCalls). Halts (halt.Adopt fault) before written (record { before = Some calls; after = Some end }) told) none says

-- the same of a reader
pub shows_from_none : (profile : Profile) (input rest before written : Option (List ℕ)) (began read : ReadCalls) (start end : WriteCalls) (told : Told)
    → began ≡ no_reads → start ≡ no_writes
    → ShowsExport profile (reading_between input rest (record { before = Some began; after = Some read })) before written
    (record { before = Some start; after = Some end }) told
    → ShowsExport profile (reading_between input rest (reads_from_none read)) before written (writes_from_none end) told
shows_from_none profile input rest before written began read start end told unread none shows =
    subst (λ (reads : ReadCalls). ShowsExport profile (reading_between input rest (record { before = Some reads; after = Some read })) before written (writes_from_none end) told) unread
    (subst (λ (calls : WriteCalls). ShowsExport profile (reading_between input rest (record { before = Some began; after = Some read })) before written (record { before = Some calls; after = Some end }) told) none shows)

-- a call that handed on all that it wrote ends with its own status, else it is stopped
pub is_handed_on : (all : Bool) (end status : ℕ) (told written : Option (List ℕ)) → status ≡ (if all then end else stopped) → (IsTrue all → written ≡ told)
    → (all ≡ false → IsCutOff told written) → IsHandedOn end told status written
is_handed_on true end status told written ends same cut = inl (ends, same refl)
is_handed_on false end status told written ends same cut = inr (ends, cut refl)

-- what ends beside a status does so where not all was handed on, too
pub handed_on_beside : (served end status : ℕ) (told written : Option (List ℕ)) → IsHandedOn end told status written → IsStatusBeside served end
    → IsStatusBeside served status
handed_on_beside served end status told written (inl all) (inl same) = inl (all.0 ∙ same)
handed_on_beside served end status told written (inl all) (inr cut) = inr (all.0 ∙ cut)
handed_on_beside served end status told written (inr cut) ends = inr cut.0

-- a database that is only looked at is left outside a transaction, as it was
pub still_outside : (served left : State) → IsLookedAt served left → IsOutside served → IsOutside left
still_outside served left looked outside = λ clean.
    let was : HasCleanDisk served = omega (arith, looked.crash.clean, clean) in
    (looked.left clean).mode (outside was)

-- a connection that commits by itself is in no transaction
pub is_inside : (alone inside : Bool) → alone ≡ false → alone ≡ not inside → inside ≡ true
is_inside alone true is value = refl
is_inside alone false is value = absurd (true≢false (sym value ∙ is))
