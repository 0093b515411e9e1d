-- What was written to an output that is handed on whole, or with which the program is stopped.
use Rattle.std.specs.Prelude.{◌≡◌, ℕ, Bool, false, true, IfOk, IsTrue, List, OnOk, Option, None, Some, Result, Ok, Err, if◌then◌else◌}
use Rattle.std.specs.Io.KnownBytes.{Appends, Keeps}
use Rattle.std.specs.declared.io.Error.{Error}
use Rattle.std.proofs.Common.{inl, inr, refl, subst, sym, ◌∙◌}
use Rattle.lot_explain.specs.Explained.{Explains}
use Rattle.lot_host.specs.Answers.{stopped}
use Rattle.lot_profile_text.specs.Explained.{explained}
use Rattle.lot_profile_text.specs.declared.keys.Section.{Section}
use Rattle.lot_call.specs.Status.{status_shown, status_told}
use Rattle.lot_call.specs.Told.{AppendsProfile, AreAll, IsShownSo, TellsWord}

-- what is so of an output is so of its writer, or not all was handed on
pub shown_so : (So : Option (List ℕ) → Type 0) (shown : Result (Unit {0}) Error) (all written : Option (List ℕ)) (whole : Bool)
    (end status : ℕ) → end ≡ status_shown shown → OnOk shown (So all) → (IsTrue whole → written ≡ all)
    → status ≡ (if whole then end else stopped) → IsShownSo So written status
shown_so So (Ok done) all written true end status ends so same is = inl (is ∙ ends, subst So (sym (same refl)) so)
shown_so So (Err error) all written true end status ends so same is = inr (is ∙ ends)
shown_so So shown all written false end status ends so same is = inr is

-- the same of a word that is explained
pub told_word : (word : List ℕ) (before : Option (List ℕ)) (told : Result Bool Error) (all written : Option (List ℕ)) (whole : Bool)
    (end status : ℕ) → end ≡ status_told told → IfOk told (Explains word before all) → (IsTrue whole → written ≡ all)
    → status ≡ (if whole then end else stopped) → TellsWord word before written status
told_word word before (Ok told) all written true end status ends explains same is =
    inl (told, subst (λ now. Explains word before now told) (sym (same refl)) explains, is ∙ ends)
told_word word before (Err error) all written true end status ends explains same is = inr (is ∙ ends)
told_word word before told all written false end status ends explains same is = inr is

-- what was appended stays so where all bytes are kept
pub appends_kept : (before between written : Option (List ℕ)) (text : List ℕ) → Appends before between text → Keeps between written
    → Appends before written text
appends_kept None between written text appends keeps = tt
appends_kept (Some old) None written text appends keeps = absurd appends
appends_kept (Some old) (Some now) None text appends keeps = absurd keeps
appends_kept (Some old) (Some now) (Some new) text appends keeps = keeps ∙ appends

-- all that a profile may say was written, and then flushed
pub profile_kept : (flushed : Result (Unit {0}) Error) (before between written : Option (List ℕ)) (sections : List Section)
    (notes : List (List ℕ)) (all : AreAll sections notes) (text : List ℕ) → text ≡ explained sections notes → Appends before between text
    → Keeps between written → OnOk flushed (AppendsProfile before written)
profile_kept (Ok done) before between written sections notes all text is appends keeps =
    (sections, notes, all, subst (Appends before written) is (appends_kept before between written text appends keeps))
profile_kept (Err error) before between written sections notes all text is appends keeps = tt
