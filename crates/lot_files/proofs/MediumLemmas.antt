-- A file of either kind stays as it is where the file that it is does.
use Rattle.std.proofs.Common.{◌≡◌, ℕ, Bool, List, subst, sym}
use Rattle.sqlite_disk.specs.Disk.{StaysFrozen}
use Rattle.lot_files.specs.declared.medium.Medium.{Medium}
use Rattle.lot_files.specs.declared.medium.Medium.TheVariants.{Memory, System}
use Rattle.lot_files.specs.Medium.{MayEither, either}

module _ {A B : Type 0} (seen : A → List ℕ) (seen' : B → List ℕ) (May : A → List ℕ → Type 0) (May' : B → List ℕ → Type 0)
    (clean : A → Bool) (clean' : B → Bool) (frozen : A → Bool) (frozen' : B → Bool) where
  abbrev Stays : Medium A B → Medium A B → Type 0
  Stays = StaysFrozen (either seen seen') (MayEither May May') (either clean clean') (either frozen frozen')

  pub frozen_system : (old : Medium A B) (file new : A) → old ≡ System file → StaysFrozen seen May clean frozen file new
      → Stays old (System new)
  frozen_system old file new is stays =
      subst (λ (m : Medium A B). Stays m (System new)) (sym is)
      (record {
        frozen = stays.frozen;
        same = stays.same;
        clean = stays.clean;
        no_more = stays.no_more;
        no_fewer = stays.no_fewer;
      })

  pub frozen_memory : (old : Medium A B) (file new : B) → old ≡ Memory file
      → StaysFrozen seen' May' clean' frozen' file new → Stays old (Memory new)
  frozen_memory old file new is stays =
      subst (λ (m : Medium A B). Stays m (Memory new)) (sym is)
      (record {
        frozen = stays.frozen;
        same = stays.same;
        clean = stays.clean;
        no_more = stays.no_more;
        no_fewer = stays.no_fewer;
      })
