-- The order of lot keys, and their code as values.
use Rattle.std.specs.Prelude.{ℕ, List, Option, ℤ}
use Rattle.std.specs.declared.cmp.Ordering.{Ordering}
use Rattle.std.specs.Coded.{Coded, code_by, coded×, coded_option, coded_ℕ, coded_ℤ}
use Rattle.std.specs.Option.{option_cmp}
use Rattle.std.specs.Ordering.{nat_cmp, int_cmp, ordering_then}
use Rattle.lot_base.specs.Text.{coded_text, text_cmp}
use Rattle.lot_cost.specs.declared.lot_key.LotKey.{LotKey}

-- the order of lot keys: by day, currency, number and label, no label before every label
abbrev pub lot_cmp : LotKey → LotKey → Ordering
lot_cmp a b = ordering_then (int_cmp a.day b.day)
    (ordering_then (text_cmp a.currency b.currency)
    (ordering_then (nat_cmp a.number b.number) (option_cmp text_cmp a.label b.label)))

-- a lot key is stored as the tuple of its parts
abbrev pub coded_key : Coded LotKey
coded_key = code_by (ℤ × (List ℕ × (ℕ × Option (List ℕ)))) (coded× coded_ℤ (coded× coded_text (coded× coded_ℕ (coded_option coded_text))))
    (λ k. (k.day, (k.currency, (k.number, k.label)))) (λ p. record { day = p.0; currency = p.1.0; number = p.1.1.0; label = p.1.1.1 }) (λ k i. k)
