-- Rows one after another, and opening numbers that don't fit theirs.
use Rattle.std.proofs.Common.{◌≡◌, ◌+◌, ◌<◌, ℕ, get_or, length, map, List, [], ◌∷◌, ◌++◌, sym, ap, suc, take, ◌∙◌, arith}
use Rattle.std.proofs.lemmas.Bool.{true≢false}
use Rattle.std.proofs.lemmas.List.{append_assoc, length-take-le, map-append}
use Rattle.std.specs.Prelude.{IfSome, IsSome, None, Option, Some}
use Rattle.std.specs.BTreeMap.{BTreeMap, get}
use Rattle.lot_cost.specs.declared.lot_key.LotKey.{LotKey}
use Rattle.lot_book.specs.Leg.{position_cmp}
use Rattle.lot_book.specs.declared.leg.Position.{Position}
use Rattle.lot_table.specs.Cell.{IsOpeningNumber}
use Rattle.lot_stored.specs.Rows.{allowed_rows}
use Rattle.lot_write.proofs.CallLemmas.{taken}
use Rattle.lot_write.specs.Writes.{AreOpened}
use Rattle.lot_write.specs.declared.write.Write.{Write}
use Rattle.lot_write.specs.declared.write.Write.TheVariants as write
use Rattle.lot_rows.specs.declared.allowed.AllowedRow.{AllowedRow}

-- ---- the currencies of an opening

abbrev row : List ℕ → ℕ → List ℕ → AllowedRow
row account place currency = record { account = account; place = place; commodity = currency }

allowed_more : (account : List ℕ) (place : ℕ) (currencies : List (List ℕ)) (currency : List ℕ)
    → allowed_rows account place (currencies ++ currency ∷ []) ≡ allowed_rows account place currencies ++ row account (place + length currencies) currency ∷ []
allowed_more account place [] currency = ap (λ n. row account n currency ∷ []) (omega (arith))
allowed_more account place (first ∷ others) currency =
    ap (λ rows. row account place first ∷ rows)
    (allowed_more account (suc place) others currency
    ∙ ap (λ n. allowed_rows account (suc place) others ++ row account n currency ∷ []) (omega (arith)))

-- one row more than those before
pub allowed_next : (account : List ℕ) (currencies : List (List ℕ)) (n place : ℕ) (currency d : List ℕ) (before now new : List Write)
    → n < length currencies → currency ≡ get_or currencies n d → place ≡ n
    → now ≡ before ++ map write.Allowed (allowed_rows account 0 (take n currencies)) → new ≡ now ++ write.Allowed (row account place currency) ∷ []
    → new ≡ before ++ map write.Allowed (allowed_rows account 0 (take (n + 1) currencies))
allowed_next account currencies n place currency d before now new low is at was pushed =
    let done = take n currencies in
    let long : length done ≡ n = length-take-le n currencies (omega (arith, low)) in
    let many : 0 + length done ≡ place = omega (arith, long, at) in
    let rows = allowed_rows account 0 done in
    let all : allowed_rows account 0 (take (n + 1) currencies) ≡ rows ++ row account place currency ∷ [] =
    ap (allowed_rows account 0) (taken currencies n currency d low is) ∙ allowed_more account 0 done currency ∙ ap (λ m. rows ++ row account m currency ∷ []) many in
    pushed
    ∙ ap (λ l. l ++ write.Allowed (row account place currency) ∷ []) was
    ∙ append_assoc before (map write.Allowed rows) (write.Allowed (row account place currency) ∷ [])
    ∙ ap (λ l. before ++ l) (sym (map-append write.Allowed rows (row account place currency ∷ [])) ∙ ap (map write.Allowed) (sym all))

-- ---- an opening number

-- an opening number that is listed of a lot, and doesn't fit its column, is one of the change's
pub not_opened : (p : Position) (openings : BTreeMap Position ℕ) → IsSome p.lot
    → (¬ IfSome (get position_cmp openings p) IsOpeningNumber) → ¬ AreOpened openings
not_opened p openings some unfit opened = by p.lot some unfit
  where
    by : (lot : Option LotKey) → IsSome lot
        → (¬ IfSome (get position_cmp openings (record { account = p.account; commodity = p.commodity; lot = lot })) IsOpeningNumber)
        → ⊥
    by None some unfit = true≢false (sym some)
    by (Some lot) some unfit = unfit (opened p.account p.commodity lot)
