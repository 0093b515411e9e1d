pub mod ViewHeld
pub mod ViewLemmas
pub mod ViewOpenings
pub mod HoldingLemmas
pub mod TouchedLemmas
