-- The purchases that are left so far, by what they bought, for the code alone.
use Rattle.std.specs.Prelude.{◌≡◌, ◌≢◌, ℕ, List, [], ◌∷◌, ◌++◌, Option, Some, None}
use Rattle.std.specs.declared.cmp.Ordering.{Ordering}
use Rattle.std.specs.BTreeMap.{BTreeMap, get}
use Rattle.std.specs.Global.{Vec}
use Rattle.std.specs.Option.{option_cmp, option_to_list}
use Rattle.std.specs.Ordering.{int_cmp, nat_cmp, ordering_then}
use Rattle.lot_base.specs.Text.{text_cmp}
use Rattle.lot_sequence.specs.Cancel.{Bought, bought}
use Rattle.lot_sequence.specs.declared.cancel.Mark.{Mark}
use Rattle.lot_sequence.specs.declared.cancel.Side.{Side}
use Rattle.lot_sequence.specs.declared.cancel.Side.TheVariants.{Buys, Cancels, Neither}
use Rattle.lot_sequence.specs.declared.cancel.Trade.{Trade}

abbrev pub bought_cmp : Bought → Bought → Ordering
bought_cmp a b =
    ordering_then (text_cmp a.symbol b.symbol)
    (ordering_then (int_cmp a.units b.units)
    (ordering_then (option_cmp nat_cmp a.price b.price)
    (ordering_then (int_cmp a.amount b.amount) (text_cmp a.currency b.currency))))

-- what a mark is made of
abbrev pub bought_of : Mark → Bought
bought_of mark = record {
  symbol = mark.symbol.now;
  units = mark.units;
  price = mark.price;
  amount = mark.amount;
  currency = mark.currency.now;
}

abbrev pub mark_cmp : Mark → Mark → Ordering
mark_cmp a b = bought_cmp (bought_of a) (bought_of b)

-- a mark of that
abbrev pub mark_of : Bought → Mark
mark_of b = record {
  symbol = record { ref_ptr = (0, 0); now = b.symbol };
  units = b.units;
  price = b.price;
  amount = b.amount;
  currency = record { ref_ptr = (0, 0); now = b.currency };
}

abbrev pub places_in : Option (Vec ℕ) → List ℕ
places_in None = []
places_in (Some places) = places.items

-- the places of the purchases of that which are left
abbrev pub left_at : BTreeMap Mark (Vec ℕ) → Bought → List ℕ
left_at left b = places_in (get mark_cmp left (mark_of b))

-- nothing but what is left of that changes
abbrev pub KeepsOthers : BTreeMap Mark (Vec ℕ) → BTreeMap Mark (Vec ℕ) → Bought → Type 0
KeepsOthers old new b = (other : Bought) → other ≢ b → left_at new other ≡ left_at old other

-- a purchase is left at its place; a cancellation takes the last that is left
abbrev pub MovesAs : Side → ℕ → List ℕ → List ℕ → Option ℕ → Type 0
MovesAs Neither place old new partner = (partner ≡ None) × (new ≡ old)
MovesAs Buys place old new partner = (partner ≡ None) × (new ≡ old ++ place ∷ [])
MovesAs Cancels place old new partner = (old ≡ new ++ option_to_list partner) × (partner ≡ None → old ≡ [])

-- what a row at a place does with what is left before it, and what it takes back
pub record Moves (old new : BTreeMap Mark (Vec ℕ)) (place : ℕ) (trade : Trade) (partner : Option ℕ) : Type 0 where
  pub here : MovesAs trade.side place (left_at old (bought trade)) (left_at new (bought trade)) partner
  pub others : KeepsOthers old new (bought trade)
