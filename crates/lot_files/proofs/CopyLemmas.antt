-- Rounds for nothing, one after another.
use Rattle.std.proofs.Common.{◌≢◌, ◌+◌, ℕ, suc, arith, refl, subst}
use Rattle.sqlite_disk.specs.declared.files.Files.{Files}
use Rattle.lot_files.specs.Copy.{AreTorn, IsRound}
use Rattle.lot_files.specs.declared.image.Image.{Image}
use Rattle.lot_files.specs.declared.source.Source.{Ghosts}
use Rattle.lot_files.specs.declared.source.Stamp.{Stamp}

module _ {S : Type 0} (g : Ghosts S) where
  pub torn_none : (old : S) → AreTorn g 0 old old
  unfolding AreTorn
  torn_none old = refl

  torn_next : (count : ℕ) (old mid new : S) (before after : Stamp) (files : Files Image) → AreTorn g count old mid
      → before ≢ after → IsRound g mid before files after new → AreTorn g (suc count) old new
  unfolding AreTorn
  torn_next count old mid new before after files torn differ round = (mid, before, after, files, torn, differ, round)

  pub torn_more : (count : ℕ) (old mid new : S) (before after : Stamp) (files : Files Image) → AreTorn g count old mid
      → before ≢ after → IsRound g mid before files after new → AreTorn g (count + 1) old new
  torn_more count old mid new before after files torn differ round =
      subst (λ n. AreTorn g n old new) (omega arith) (torn_next count old mid new before after files torn differ round)
