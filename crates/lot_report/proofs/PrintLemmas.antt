-- Lines one behind another.
use Rattle.std.proofs.Common.{◌≡◌, ℕ, List, ◌++◌, take, drop, length, sym, ap, subst, ◌∙◌, append_assoc, append-nil, take-append-drop}
use Rattle.std.specs.Prelude.{Result, Ok, Err, IsErrAnd, Option, None, Some, IfSome, [], ◌∷◌, ◌-◌, ◌==◌, false}
use Rattle.std.proofs.lemmas.List.{take_rest}
use Rattle.std.specs.Fmt.{WritesText}
use Rattle.std.proofs.lemmas.Fmt.{contents_after_writes}
use Rattle.std.proofs.lemmas.Bool.{true≢false}
use Rattle.std.specs.declared.io.Error.{Error}
use Rattle.std.specs.Io.KnownBytes.{Appends, WriteAppends}
use Rattle.std.proofs.KnownBytes.{Appends-nil, Appends-trans, Appends-kept}
use Rattle.lot_report.specs.declared.line.PrintFault.{PrintFault}
use Rattle.lot_report.specs.declared.line.PrintFault.TheVariants.{Memory}
use Rattle.lot_report.specs.Written.{AppendsPrefix, IsTaken, WritesLine}

-- how far a text is written, and what is left of it
abbrev pub IsWrittenTo : Option (List ℕ) → Option (List ℕ) → List ℕ → List ℕ → Type 0
IsWrittenTo old new text rest = (written : List ℕ) × (text ≡ written ++ rest) × Appends old new written

-- a call of `write` that took some bytes, or was interrupted
pub taken_step : (a b c : Option (List ℕ)) (text rest : List ℕ) (outcome : Result ℕ Error) (count : ℕ)
    → IsWrittenTo a b text rest → WriteAppends b c outcome rest → IsTaken outcome (Ok count)
    → IsWrittenTo a c text (take (length rest - count) (drop count rest))
taken_step a b c text rest (Ok taken) count (written, whole, before) now (some, is) =
    rw (is) (
      written ++ take taken rest,
      whole ∙ ap (λ xs. written ++ xs) (sym (take-append-drop taken rest)) ∙ sym (append_assoc written (take taken rest) (drop taken rest))
          ∙ ap (λ xs. (written ++ take taken rest) ++ xs) (sym (take_rest rest taken)),
      Appends-trans a b c written (take taken rest) before now,
    )
taken_step a b c text rest (Err error) count (written, whole, before) now (interrupted, is) =
    rw (is) (
      written,
      whole ∙ ap (λ xs. written ++ xs) (sym (take_rest rest 0)),
      Appends-kept a b c written before now,
    )

-- a text of which some is left is written in part
pub part_left : (a b : Option (List ℕ)) (text rest : List ℕ) → false ≡ (length rest == 0) → IsWrittenTo a b text rest → AppendsPrefix a b text
part_left a b text [] some so_far = absurd (true≢false (sym some))
part_left a b text (next ∷ rest) some (written, whole, before) = (written, (next, rest, whole), before)

-- the same, at a call of `write` that is a fault
pub part_failed : (a b c : Option (List ℕ)) (text rest : List ℕ) (outcome : Result ℕ Error) (fault : PrintFault) → false ≡ (length rest == 0)
    → IsWrittenTo a b text rest → WriteAppends b c outcome rest → IsTaken outcome (Err fault) → WritesLine a c (Err fault) text
part_failed a b c text rest (Ok taken) fault some (written, whole, before) now (none, is) =
    rw (is) (part_left a c text rest some (written, whole, subst (Appends a c) (nothing_taken none) (Appends-trans a b c written (take taken rest) before now)))
  where
    nothing_taken : taken ≡ 0 → written ++ take taken rest ≡ written
    nothing_taken e = ap (λ n. written ++ take n rest) e ∙ append-nil written
part_failed a b c text rest (Err error) fault some (written, whole, before) now (failed, is) =
    rw (is) (part_left a c text rest some (written, whole, Appends-kept a b c written before now))

-- what a line buffer has that was empty before the text was written
pub line_is : {W : Type 0} (took : W → List ℕ → W → Type 0) (contents : W → List ℕ)
    → ((w : W) (bs : List ℕ) (v : W) → took w bs v → contents v ≡ contents w ++ bs)
    → (old new : W) (text : Option (List ℕ)) → contents old ≡ [] → WritesText took old text new
    → IfSome text (λ bytes. contents new ≡ bytes)
line_is took contents appends old new None empty wrote = tt
line_is took contents appends old new (Some bytes) empty wrote =
    contents_after_writes took contents appends old bytes new wrote ∙ ap (λ xs. xs ++ bytes) empty

-- out of memory before the first byte
pub nothing_written : (held : Option (List ℕ)) (result : Result (Unit {0}) PrintFault) (text : List ℕ)
    → IsErrAnd result (λ fault. fault ≡ Memory) → WritesLine held held result text
nothing_written held (Ok done) text fails = absurd fails
nothing_written held (Err fault) text fails = rw (fails) (Appends-nil held)

-- a prefix of the next text, behind what was written before it
pub prefix_step : (a b c : Option (List ℕ)) (written text rest whole : List ℕ) → Appends a b written → AppendsPrefix b c text
    → written ++ (text ++ rest) ≡ whole → AppendsPrefix a c whole
prefix_step a b c written text rest whole before (prefix, (next, more, is_text), now) is = (
  written ++ prefix,
  (
    next,
    more ++ rest,
    sym is ∙ ap (λ xs. written ++ (xs ++ rest)) is_text
        ∙ ap (λ xs. written ++ xs) (append_assoc prefix (next ∷ more) rest) ∙ sym (append_assoc written prefix (next ∷ (more ++ rest))),
  ),
  Appends-trans a b c written prefix before now,
)

-- the same, where nothing stands behind the text
pub prefix_behind : (a b c : Option (List ℕ)) (written text : List ℕ) → Appends a b written → AppendsPrefix b c text
    → AppendsPrefix a c (written ++ text)
prefix_behind a b c written text before now =
    prefix_step a b c written text [] (written ++ text) before now (ap (λ xs. written ++ xs) (append-nil text))
