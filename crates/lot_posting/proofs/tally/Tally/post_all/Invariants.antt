use Rattle.std.proofs.Common.{◌≡◌, ◌⊎◌, ℕ, List, ◌++◌}
use Rattle.lot_book.specs.Leg.{leave_range, with_legs}
use Rattle.lot_posting.specs.Tally.{AreOf, BeginInRange, HaveNumbers, ListsTally}
use Rattle.lot_view.specs.View.{known, known_with_openings}
use Rattle.lot_posting.proofs.tally.Tally.post_all.Given as goal

-- the legs so far and those that are left are all; no sum so far is out of range, so the legs that are left decide; either
-- all are left, or the first was in range
abbrev pub invariant-loop-leg : goal.invariant-loop-leg
invariant-loop-leg l =
    let facts = known l.view in
    let left = l.leg-iterator.rest.items in
    let all = l.fn.legs.items in
    record {
      begun : (account : List ℕ) (posting : ℕ) → AreOf account posting all
          → ((left ≡ all) × (l.self.legs ≡ l.fn.self.legs))
          ⊎ BeginInRange (with_legs account (facts.held account) l.fn.self.legs) all;
      lists : ListsTally (known_with_openings l.view) l.self;
      numbers : HaveNumbers left;
      legs : l.self.legs ++ left ≡ l.fn.self.legs ++ all;
      own : (account : List ℕ) (posting : ℕ) → AreOf account posting all → AreOf account posting left;
      range : (account : List ℕ) (posting : ℕ) → AreOf account posting all
          → leave_range (with_legs account (facts.held account) l.self.legs) left ≡ leave_range (with_legs account (facts.held account) l.fn.self.legs) all;
    }
