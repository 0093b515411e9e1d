-- What opens databases by one opener is what opens them by another one that opens the same.
use Rattle.std.specs.Prelude.{◌≡◌, ◌⊎◌, Bool, false, true, List, ℕ, Result}
use Rattle.std.proofs.Common.{inl, inr}
use Rattle.lot_files.specs.Opener.{OpensCopy, OpensFor, OpensFull, as_file, wants_copy}
use Rattle.lot_files.specs.declared.cause.Cause.{Cause}
use Rattle.lot_files.specs.declared.opened.Access.{Access}
use Rattle.lot_files.specs.declared.opened.Access.TheVariants.{Copy as ToTry, Read, Write}
use Rattle.lot_files.specs.declared.opened.Opened.{Opened}
use Rattle.lot_files.specs.declared.opener.Opener.{Ghosts}

module _ {O S D : Type 0} (g : Ghosts O D) (h : Ghosts S D) (of : O → S)
    (opens : (o : O) (path : List ℕ) (result : Result D Cause) → g.opens o path result → h.opens (of o) path result)
    (copies : (o : O) (path : List ℕ) (result : Result D Cause) → g.copies o path result → h.copies (of o) path result)
    (shows : (o : O) (path : List ℕ) (empty : Bool) → g.shows_empty o path empty → h.shows_empty (of o) path empty) where
  as_copy : (o : O) (path : List ℕ) (result : Result (Opened D) Cause) → OpensCopy g o path result → OpensCopy h (of o) path result
  as_copy o path result it = record { copied = it.copied; copies = copies o path it.copied it.copies; told = it.told }

  full_told : (o : O) (path : List ℕ) (opened : Result D Cause) (result : Result (Opened D) Cause)
      → ((wants_copy opened ≡ true) × OpensCopy g o path result) ⊎ ((wants_copy opened ≡ false) × (result ≡ as_file opened))
      → ((wants_copy opened ≡ true) × OpensCopy h (of o) path result) ⊎ ((wants_copy opened ≡ false) × (result ≡ as_file opened))
  full_told o path opened result (inl copied) = inl (copied.0, as_copy o path result copied.1)
  full_told o path opened result (inr filed) = inr filed

  as_full : (o : O) (path : List ℕ) (result : Result (Opened D) Cause) → OpensFull g o path result → OpensFull h (of o) path result
  as_full o path result it = record {
    opened = it.opened;
    opens = opens o path it.opened it.opens;
    behind = of it.behind;
    told = full_told it.behind path it.opened result it.told;
  }

  read_told : (o : O) (path : List ℕ) (empty : Bool) (result : Result (Opened D) Cause)
      → ((empty ≡ true) × OpensCopy g o path result) ⊎ ((empty ≡ false) × OpensFull g o path result)
      → ((empty ≡ true) × OpensCopy h (of o) path result) ⊎ ((empty ≡ false) × OpensFull h (of o) path result)
  read_told o path empty result (inl copied) = inl (copied.0, as_copy o path result copied.1)
  read_told o path empty result (inr full) = inr (full.0, as_full o path result full.1)

  pub opens_as : (o : O) (access : Access) (path : List ℕ) (result : Result (Opened D) Cause)
      → OpensFor g o access path result → OpensFor h (of o) access path result
  opens_as o Write path result it = record { opened = it.opened; opens = opens o path it.opened it.opens; told = it.told }
  opens_as o ToTry path result it = as_copy o path result it
  opens_as o Read path result it = record {
    empty = it.empty;
    shows = shows o path it.empty it.shows;
    told = read_told o path it.empty result it.told;
  }
