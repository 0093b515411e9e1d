-- When facts are the same.
use Rattle.std.specs.Prelude.{◌≡◌, ℕ, List}
use Rattle.lot_book.specs.Facts.{Facts}

-- facts are the same where they agree on each thing
pub same_facts : (a b : Facts) → a.entries ≡ b.entries → a.text ≡ b.text
    → ((account : List ℕ) → a.standing account ≡ b.standing account)
    → ((commodity : List ℕ) → a.is_declared commodity ≡ b.is_declared commodity)
    → ((account commodity : List ℕ) → a.latest_at_cost account commodity ≡ b.latest_at_cost account commodity)
    → ((account : List ℕ) → a.held account ≡ b.held account) → a ≡ b
same_facts a b entries text standing declared latest held = λ i. record {
  entries = entries i;
  text = text i;
  standing = λ account. standing account i;
  is_declared = λ commodity. declared commodity i;
  latest_at_cost = λ account commodity. latest account commodity i;
  held = λ account. held account i;
}
