-- An import with its profile.
use Rattle.std.specs.Prelude.{◌≡◌, ℕ, Option}
use Rattle.std.proofs.Common.{sym}
use Rattle.lot_args.specs.declared.action.Action.TheVariants.{ImportBy}
use Rattle.lot_args.specs.declared.action.AskedImport.{AskedImport}
use Rattle.lot_args.specs.declared.action.ImportBy.{ImportBy as ImportByOf}
use Rattle.lot_args.specs.declared.request.Effect.{Effect}
use Rattle.lot_profile.specs.declared.profile.Profile.{Profile}
use Rattle.lot_rounding.specs.declared.rounding.Rounding.{Rounding}
use Rattle.lot_host.specs.Done.{IsDone}
use Rattle.lot_host.specs.Run.{with_profile}
use Rattle.lot_host.specs.declared.host.Host.{Ghosts}

-- what is done of an import that has these parts is done of the import with its profile
pub done_with : {H D O : Type 0} (g : Ghosts H D O) (asked : AskedImport) (profile : Profile) (rounding : Option Rounding) (effect : Effect)
    (status : ℕ) (got : ImportByOf) → got.book ≡ asked.book → got.batch ≡ asked.batch → got.except ≡ asked.except
    → got.keeping ≡ asked.keeping → got.profile ≡ profile → got.rounding ≡ rounding
    → IsDone g (ImportBy got) effect status → IsDone g (ImportBy (with_profile asked profile rounding)) effect status
done_with g asked profile rounding effect status got book batch except keeping by crumbs done =
    rw (sym book, sym batch, sym except, sym keeping, sym by, sym crumbs) done
