-- What is told of codes and of profiles: what a writer holds then, and the status.
use Rattle.std.specs.Prelude.{◌≡◌, ◌⊎◌, ℕ, Bool, false, true, List, Option, None, Some, Ok, codes, length}
use Rattle.std.specs.Io.KnownBytes.{Appends}
use Rattle.std.specs.Str.{bytes_eq}
use Rattle.lot_explain.specs.Explained.{Explains, Lists}
use Rattle.lot_host.specs.Answers.{stopped}
use Rattle.lot_profile_text.specs.Explained.{explained}
use Rattle.lot_profile_text.specs.declared.keys.Section.{Section}
use Rattle.lot_stream.specs.Status.{code_of}
use Rattle.lot_stream.specs.declared.status.Status.TheVariants.{Accepted}
use Rattle.lot_call.specs.Status.{status_told}

-- it is so of what a writer holds now, or not all could be written
abbrev pub IsShownSo : (Option (List ℕ) → Type 0) → Option (List ℕ) → ℕ → Type 0
IsShownSo So written status = ((status ≡ code_of Accepted) × So written) ⊎ (status ≡ stopped)

-- no section of what a profile may say is left out, and no note behind them
abbrev pub AreAll : List Section → List (List ℕ) → Type 0
AreAll sections notes = (length sections ≡ 9) × (length notes ≡ 11)

-- all that a profile may say is written
abbrev pub AppendsProfile : Option (List ℕ) → Option (List ℕ) → Type 0
AppendsProfile before written =
    (sections : List Section) × (notes : List (List ℕ)) × AreAll sections notes × Appends before written (explained sections notes)

-- A word is explained by what it names, or not all could be written. Where it names nothing, nothing is written, and it can't be used.
abbrev pub TellsWord : List ℕ → Option (List ℕ) → Option (List ℕ) → ℕ → Type 0
TellsWord word before written status =
    ((told : Bool) × Explains word before written told × (status ≡ status_told (Ok told))) ⊎ (status ≡ stopped)

-- the word that stands for all that a profile may say
abbrev pub names_profile : List ℕ → Bool
names_profile word = bytes_eq word (codes "profile")

-- without a word all codes are told
abbrev pub TellsTo : Option (List ℕ) → Option (List ℕ) → Option (List ℕ) → ℕ → Type 0
TellsTo None before written status = IsShownSo (Lists before) written status
TellsTo (Some word) before written status =
    ((names_profile word ≡ true) × IsShownSo (AppendsProfile before) written status)
    ⊎ ((names_profile word ≡ false) × TellsWord word before written status)

-- the same to some writer: standard output
pub record Tells (code : Option (List ℕ)) (status : ℕ) : Type 0 where
  pub before : Option (List ℕ)
  pub written : Option (List ℕ)
  pub tells : TellsTo code before written status
