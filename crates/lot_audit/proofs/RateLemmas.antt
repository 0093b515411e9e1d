-- A command that quotes a rate changes that of its pair and day alone.
use Rattle.std.specs.Prelude.{◌≡◌, ◌&&◌, ℕ, ℤ, Bool, true, false, cond, List, Option, None, Some}
use Rattle.std.specs.BTreeMap.{BTreeMap, get}
use Rattle.std.specs.Option.{option_or}
use Rattle.std.specs.Ordering.{int_cmp, int_eq, is_eq, ordering_then}
use Rattle.std.proofs.Common.{refl, ap, ◌∙◌}
use Rattle.std.proofs.lemmas.Cmp.{int_eq_equiv}
use Rattle.lot_base.specs.Text.{same_text, text_cmp}
use Rattle.lot_base.proofs.TextLemmas.{same_text-ordered}
use Rattle.lot_cost.proofs.OrderLemmas.{eq_then}
use Rattle.lot_command.specs.declared.command.Command.TheVariants.{Quoting}
use Rattle.lot_command.specs.declared.command.Quoting.{Quoting as QuotingOf}
use Rattle.lot_stored.specs.Kept.{rate_by}
use Rattle.lot_audit.specs.Rates.{price_cmp}
use Rattle.lot_audit.specs.declared.rates.PriceKey.{PriceKey}

abbrev pub key_of : List ℕ → List ℕ → ℤ → PriceKey
key_of base quote day = record { base = base; quote = quote; day = day }

-- whether a key is that of a pair and a day
price-found : (key : PriceKey) (base quote : List ℕ) (day : ℤ)
    → is_eq (price_cmp key (key_of base quote day))
    ≡ (same_text base key.base && (same_text quote key.quote && int_eq day key.day))
price-found key base quote day =
    eq_then (text_cmp key.base base) (ordering_then (text_cmp key.quote quote) (int_cmp key.day day))
    ∙ ap (λ (b : Bool). is_eq (text_cmp key.base base) && b) (eq_then (text_cmp key.quote quote) (int_cmp key.day day))
    ∙ (λ i. same_text-ordered key.base base i && (same_text-ordered key.quote quote i && int_eq_equiv.symm key.day day i))

chosen : (b : Bool) (rate : ℕ) (had : Option ℕ) → cond b (Some rate) had ≡ option_or (cond b (Some rate) None) had
chosen true rate had = refl
chosen false rate had = refl

pub quoted_set : (old new : BTreeMap PriceKey ℕ) (q : QuotingOf) (key : PriceKey)
    → key.base ≡ q.base → key.quote ≡ q.quote → key.day ≡ q.day
    → ((k : PriceKey) → get price_cmp new k ≡ cond (is_eq (price_cmp key k)) (Some q.rate) (get price_cmp old k))
    → (base quote : List ℕ) (day : ℤ)
    → get price_cmp new (key_of base quote day)
    ≡ option_or (rate_by base quote day (Quoting q)) (get price_cmp old (key_of base quote day))
quoted_set old new q key bases quotes days updates base quote day =
    let had = get price_cmp old (key_of base quote day) in
    let same : Bool = same_text base q.base && (same_text quote q.quote && int_eq day q.day) in
    updates (key_of base quote day)
    ∙ ap (λ (b : Bool). cond b (Some q.rate) had) (price-found key base quote day)
    ∙ (λ i. cond (same_text base (bases i) && (same_text quote (quotes i) && int_eq day (days i))) (Some q.rate) had)
    ∙ chosen same q.rate had
