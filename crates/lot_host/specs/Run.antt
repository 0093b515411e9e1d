-- What becomes of the arguments of the program (docs/RULES.md, The program).
use Rattle.std.specs.Prelude.{◌⊎◌, ℕ, List, Option, option_map, ⊤}
use Rattle.std.specs.String.{string_bytes}
use Rattle.clap.specs.Words.{Text, fault_of, kind_of}
use Rattle.clap.specs.Kinds.{IsAmong}
use Rattle.lot_args.specs.Program.{program_app}
use Rattle.lot_args.specs.Words.{AskFor, HaveBadIn, HaveMisplaced, HaveNoneBad, LackSome}
use Rattle.lot_args.specs.declared.action.Action.TheVariants.{ImportBy}
use Rattle.lot_args.specs.declared.action.AskedImport.{AskedImport}
use Rattle.lot_args.specs.declared.action.ImportBy.{ImportBy as ImportByOf}
use Rattle.lot_args.specs.declared.fault.WordsFault.{WordsFault}
use Rattle.lot_args.specs.declared.fault.WordsFault.TheVariants.{BadValue, Memory, Misplaced, MissingOptions, Unmatched, Usage}
use Rattle.lot_args.specs.declared.request.Effect.{Effect}
use Rattle.lot_args.specs.declared.request.Request.{Request}
use Rattle.lot_args.specs.declared.request.Request.TheVariants.{Act, Explain, Import, Show}
use Rattle.lot_profile.specs.declared.profile.Profile.{Profile}
use Rattle.lot_rounding.specs.declared.rounding.Rounding.{Rounding}
use Rattle.lot_host.specs.Answers.{IsStatusOf}
use Rattle.lot_host.specs.Done.{IsDone}
use Rattle.lot_host.specs.declared.host.Host.{Ghosts}

-- What is wrong with words, or that they ask for help. Memory can end at any words before they are matched: nothing is known of them
-- then.
abbrev pub HaveFault : List Text → WordsFault → Type 0
HaveFault words (Usage error) = IsAmong (kind_of error) (fault_of program_app words)
HaveFault words (Misplaced option) = HaveMisplaced words option
HaveFault words (MissingOptions needed) = LackSome words needed
HaveFault words (BadValue bad) = HaveBadIn words bad
HaveFault words Unmatched = ⊤
HaveFault words Memory = HaveNoneBad words

-- an import with its profile
abbrev pub with_profile : AskedImport → Profile → Option Rounding → ImportByOf
with_profile asked profile rounding = record {
  book = asked.book;
  batch = asked.batch;
  except = asked.except;
  keeping = asked.keeping;
  profile = profile;
  rounding = rounding;
}

module _ {H : Type 0} {D O : Type 0} (g : Ghosts H D O) where
  -- an import is done by the profile in the file of that path
  pub record IsImported (path : List ℕ) (asked : AskedImport) (effect : Effect) (status : ℕ) : Type 0 where
    pub profile : Profile
    pub rounding : Option Rounding
    pub found : g.has_profile path profile rounding
    pub done : IsDone g (ImportBy (with_profile asked profile rounding)) effect status

  -- what an export comes to is shown by the profile in the file of that path
  pub record IsShownBy (path : List ℕ) (status : ℕ) : Type 0 where
    pub profile : Profile
    pub rounding : Option Rounding
    pub found : g.has_profile path profile rounding
    pub shown : g.shows profile status

  -- what is asked for is done, and the program ends with that status
  abbrev pub IsMet : Request → ℕ → Type 0
  IsMet (Act action effect notes) status = IsDone g action effect status
  IsMet (Import path asked effect notes) status =
      g.refuses_profile (string_bytes path) status ⊎ IsImported (string_bytes path) asked effect status
  IsMet (Show path notes) status = g.refuses_profile (string_bytes path) status ⊎ IsShownBy (string_bytes path) status
  IsMet (Explain code) status = g.tells (option_map string_bytes code) status

  -- Words ask for something, which is done. Or something is wrong with them, or they ask for help: that is said.
  abbrev pub IsRun : List Text → ℕ → Type 0
  IsRun words status =
      ((request : Request) × AskFor words request × IsMet request status)
      ⊎ ((fault : WordsFault) × HaveFault words fault × IsStatusOf fault status)
