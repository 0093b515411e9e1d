-- A record says one row, or has one first faulty column.
use Rattle.std.proofs.Common.{◌≡◌, ◌⊎◌, ℕ, List, [], ◌∷◌, length, Option, ℤ, refl, sym, ◌∙◌, subst, inl, inr, arith}
use Rattle.std.proofs.lemmas.Bool.{cases_order}
use Rattle.lot_import.specs.Row.{FirstFailing, HasLot, IsFaulty, IsRow, Passes, SaysAction, at_column, causes, columns}
use Rattle.lot_import.specs.declared.fault.Cause.{Cause}
use Rattle.lot_import.specs.declared.fault.Cause.TheVariants as Causes
use Rattle.lot_import.specs.declared.row.Action.{Action}
use Rattle.lot_import.specs.declared.row.Row.{Row}
use Rattle.lot_import.specs.declared.version.Version.{Version}
use Rattle.lot_base.proofs.DecisionLemmas.{Decided}
use Rattle.lot_import.proofs.ColumnLaws.{action_known, commodity_known, day_known, fee_known, label_known, lot_known, one_commodity, one_day, one_fee, one_label, one_lot, one_rate, one_units, rate_known, units_known}
use Rattle.lot_import.proofs.RowLemmas.{one_action}

-- ---- Each cause passes or fails.

length_or_not : (m n : ℕ) → Decided (m ≡ n)
length_or_not m n =
    elim (cases_order m n) [
      | inl same ↦ inl same
      | inr others ↦ inr (λ same. elim others [ inl lt ↦ omega (arith, same, lt) | inr lt ↦ omega (arith, same, lt) ])
    ]

lot_after : (version : Version) (written : List (List ℕ)) → Decided ((action : Action) × SaysAction (at_column written 2) action)
    → ((action : Action) → Decided ((lot : Option (List ℕ)) × HasLot version action written lot)) → Decided (Passes version written Causes.Lot)
lot_after version written (inr none) known = inr (λ (action, says, lot, has). none (action, says))
lot_after version written (inl (action, says)) known = by (known action)
  where
    by : Decided ((lot : Option (List ℕ)) × HasLot version action written lot) → Decided (Passes version written Causes.Lot)
    by (inl (lot, has)) = inl (action, says, lot, has)
    by (inr none) =
        inr (λ (other, others, lot, has).
        none (lot, subst (λ (a : Action). HasLot version a written lot) (one_action (at_column written 2) other action others says) has))

passes_or_not : (version : Version) (written : List (List ℕ)) (cause : Cause) → Decided (Passes version written cause)
passes_or_not version written Causes.Length = length_or_not (length written) (length (columns version))
passes_or_not version written Causes.Ref = label_known (at_column written 0)
passes_or_not version written Causes.Date = day_known (at_column written 1)
passes_or_not version written Causes.Action = action_known (at_column written 2)
passes_or_not version written Causes.Symbol = commodity_known (at_column written 3)
passes_or_not version written Causes.Units = units_known (at_column written 4)
passes_or_not version written Causes.Price = rate_known (at_column written 5)
passes_or_not version written Causes.Currency = commodity_known (at_column written 6)
passes_or_not version written Causes.Fee = fee_known (at_column written 7)
passes_or_not version written Causes.Lot = lot_after version written (action_known (at_column written 2)) (λ action. lot_known version action written)

-- ---- All pass, or there is a first that fails.

abbrev AllPass : (Cause → Type 0) → List Cause → Type 0
AllPass Passing [] = Unit {0}
AllPass Passing (c ∷ cs) = Passing c × AllPass Passing cs

first_or_all : (Passing : Cause → Type 0) → ((c : Cause) → Decided (Passing c)) → (cs : List Cause)
    → AllPass Passing cs ⊎ ((cause : Cause) × FirstFailing Passing cs cause)
first_or_all Passing known [] = inl tt
first_or_all Passing known (c ∷ cs) = by (known c) (first_or_all Passing known cs)
  where
    by : Decided (Passing c) → AllPass Passing cs ⊎ ((cause : Cause) × FirstFailing Passing cs cause)
        → AllPass Passing (c ∷ cs) ⊎ ((cause : Cause) × FirstFailing Passing (c ∷ cs) cause)
    by (inr fails) others = inr (c, inl (refl, fails))
    by (inl passes) (inl all) = inl (passes, all)
    by (inl passes) (inr (cause, first)) = inr (cause, inr (passes, first))

none_fails : (Passing : Cause → Type 0) → ((c : Cause) → Passing c) → (cs : List Cause) (cause : Cause) → FirstFailing Passing cs cause → ⊥
none_fails Passing all [] cause first = first
none_fails Passing all (c ∷ cs) cause (inl (is, fails)) = fails (all c)
none_fails Passing all (c ∷ cs) cause (inr (passes, first)) = none_fails Passing all cs cause first

one_first : (Passing : Cause → Type 0) (cs : List Cause) (a b : Cause) → FirstFailing Passing cs a → FirstFailing Passing cs b → a ≡ b
one_first Passing [] a b h k = absurd h
one_first Passing (c ∷ cs) a b (inl (is, fails)) (inl (same, fails')) = is ∙ sym same
one_first Passing (c ∷ cs) a b (inl (is, fails)) (inr (passes, first)) = absurd (fails passes)
one_first Passing (c ∷ cs) a b (inr (passes, first)) (inl (same, fails)) = absurd (fails passes)
one_first Passing (c ∷ cs) a b (inr (passes, first)) (inr (passes', first')) = one_first Passing cs a b first first'

-- ---- Rows.

row_by : (version : Version) (written : List (List ℕ)) → AllPass (Passes version written) causes → (row : Row) × IsRow version written row
row_by version written (whole, ((name, n), ((day, d), ((action, a), ((symbol, s), ((units, u), ((price, p), ((currency, c), ((fee, f), ((other, o, lot, l), end)))))))))) = (
  record { name = name; day = day; action = action; symbol = symbol; units = units; price = price; currency = currency; fee = fee; lot = lot },
  record {
    whole = whole;
    name = n;
    day = d;
    action = a;
    symbol = s;
    units = u;
    price = p;
    currency = c;
    fee = f;
    lot = subst (λ (x : Action). HasLot version x written lot) (one_action (at_column written 2) other action o a) l;
  },
)

pub record_known : (version : Version) (written : List (List ℕ)) → ((row : Row) × IsRow version written row) ⊎ ((cause : Cause) × IsFaulty version written cause)
record_known version written =
    elim (first_or_all (Passes version written) (passes_or_not version written) causes) [
      | inl all ↦ inl (row_by version written all)
      | inr first ↦ inr first
    ]

passes : (version : Version) (written : List (List ℕ)) (row : Row) → IsRow version written row → (cause : Cause) → Passes version written cause
passes version written row is Causes.Length = is.whole
passes version written row is Causes.Ref = (row.name, is.name)
passes version written row is Causes.Date = (row.day, is.day)
passes version written row is Causes.Action = (row.action, is.action)
passes version written row is Causes.Symbol = (row.symbol, is.symbol)
passes version written row is Causes.Units = (row.units, is.units)
passes version written row is Causes.Price = (row.price, is.price)
passes version written row is Causes.Currency = (row.currency, is.currency)
passes version written row is Causes.Fee = (row.fee, is.fee)
passes version written row is Causes.Lot = (row.action, is.action, row.lot, is.lot)

pub row_or_fault : (version : Version) (written : List (List ℕ)) (row : Row) (cause : Cause) → IsRow version written row → IsFaulty version written cause → ⊥
row_or_fault version written row cause is faulty = none_fails (Passes version written) (passes version written row is) causes cause faulty

pub one_cause : (version : Version) (written : List (List ℕ)) (a b : Cause) → IsFaulty version written a → IsFaulty version written b → a ≡ b
one_cause version written a b h k = one_first (Passes version written) causes a b h k

pub same_fields : (n n' : List ℕ) (d d' : ℤ) (a a' : Action) (s s' : List ℕ) (u u' : ℤ) (p p' : ℕ) (c c' : List ℕ) (f f' : ℕ) (l l' : Option (List ℕ))
    → n ≡ n' → d ≡ d' → a ≡ a' → s ≡ s' → u ≡ u' → p ≡ p' → c ≡ c' → f ≡ f' → l ≡ l'
    → ◌≡◌ {A = Row}
    (record { name = n; day = d; action = a; symbol = s; units = u; price = p; currency = c; fee = f; lot = l })
    (record { name = n'; day = d'; action = a'; symbol = s'; units = u'; price = p'; currency = c'; fee = f'; lot = l' })
same_fields n n' d d' a a' s s' u u' p p' c c' f f' l l' e1 e2 e3 e4 e5 e6 e7 e8 e9 = rw (e1, e2, e3, e4, e5, e6, e7, e8, e9) refl

pub one_row : (version : Version) (written : List (List ℕ)) (a b : Row) → IsRow version written a → IsRow version written b → a ≡ b
one_row version written a b h k =
    let action = one_action (at_column written 2) a.action b.action h.action k.action in
    same_fields a.name b.name a.day b.day a.action b.action a.symbol b.symbol a.units b.units a.price b.price a.currency b.currency a.fee b.fee a.lot b.lot
    (one_label (at_column written 0) a.name b.name h.name k.name)
    (one_day (at_column written 1) a.day b.day h.day k.day)
    action
    (one_commodity (at_column written 3) a.symbol b.symbol h.symbol k.symbol)
    (one_units (at_column written 4) a.units b.units h.units k.units)
    (one_rate (at_column written 5) a.price b.price h.price k.price)
    (one_commodity (at_column written 6) a.currency b.currency h.currency k.currency)
    (one_fee (at_column written 7) a.fee b.fee h.fee k.fee)
    (one_lot version b.action written a.lot b.lot (subst (λ (x : Action). HasLot version x written a.lot) action h.lot) k.lot)
