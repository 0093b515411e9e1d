-- Which parts of a line are within their rules, and which is the first that isn't, over lists joined end to end.
use Rattle.std.proofs.Common.{◌≡◌, ◌⊎◌, inl, inr, List, [], ◌∷◌, ◌++◌, refl, sym, ap, ◌∙◌, subst, append_assoc}
use Rattle.lot_read.specs.declared.fault.ValueFault.{ValueFault}
use Rattle.lot_read.specs.Meaning.{Item, IsInside, AreInside, FirstOutside, fault_of}
use Rattle.lot_read.specs.Outside.{IsOutside}

-- ---- All inside.

pub both_inside : (a b : List Item) → AreInside a → AreInside b → AreInside (a ++ b)
both_inside [] b ha hb = hb
both_inside (item ∷ a) b (h, ha) hb = (h, both_inside a b ha hb)

pub inside_parts : (a b : List Item) → AreInside (a ++ b) → AreInside a × AreInside b
inside_parts [] b h = (tt, h)
inside_parts (item ∷ a) b (h, more) =
    let parts = inside_parts a b more in
    ((h, parts.0), parts.1)

-- ---- The first outside.

pub outside_first : (item : Item) (rest : List Item) (fault : ValueFault) → IsOutside item fault → FirstOutside (item ∷ rest) fault
outside_first item rest fault o = record {
  before = [];
  item = item;
  after = rest;
  place = refl;
  inside = tt;
  outside = o.outside;
  which = o.which;
}

pub outside_later : (item : Item) (rest : List Item) (fault : ValueFault) → IsInside item → FirstOutside rest fault
    → FirstOutside (item ∷ rest) fault
outside_later item rest fault h first = record {
  before = item ∷ first.before;
  item = first.item;
  after = first.after;
  place = ap (λ items. item ∷ items) first.place;
  inside = (h, first.inside);
  outside = first.outside;
  which = first.which;
}

none_outside : (fault : ValueFault) → FirstOutside [] fault → ⊥
none_outside fault first = nothing first.before first.item first.after first.place
  where
    nothing : (before : List Item) (item : Item) (after : List Item) → [] ≡ before ++ item ∷ after → ⊥
    nothing [] item after e = cc
    nothing (x ∷ before) item after e = cc

divided : (item : Item) (rest : List Item) (fault : ValueFault) (before : List Item) (x : Item) (after : List Item)
    → item ∷ rest ≡ before ++ x ∷ after → AreInside before → (IsInside x → ⊥) → fault ≡ fault_of x
    → IsOutside item fault ⊎ (IsInside item × FirstOutside rest fault)
divided item rest fault [] x after place inside outside which =
    let same : x ≡ item = cc in
    inl (subst (λ i. IsOutside i fault) same (record { outside = outside; which = which }))
divided item rest fault (b ∷ before) x after place inside outside which =
    let same : b ≡ item = cc in
    let others : rest ≡ before ++ x ∷ after = cc in
    inr (
      subst IsInside same inside.0,
      record { before = before; item = x; after = after; place = others; inside = inside.1; outside = outside; which = which },
    )

-- it is the first part of the list, or the first of the others
pub first_or_later : (item : Item) (rest : List Item) (fault : ValueFault) → FirstOutside (item ∷ rest) fault
    → IsOutside item fault ⊎ (IsInside item × FirstOutside rest fault)
first_or_later item rest fault first =
    divided item rest fault first.before first.item first.after first.place first.inside first.outside first.which

pub outside_before : (a b : List Item) (fault : ValueFault) → FirstOutside a fault → FirstOutside (a ++ b) fault
outside_before a b fault first = record {
  before = first.before;
  item = first.item;
  after = first.after ++ b;
  place = ap (λ items. items ++ b) first.place ∙ append_assoc first.before (first.item ∷ first.after) b;
  inside = first.inside;
  outside = first.outside;
  which = first.which;
}

pub outside_behind : (a b : List Item) (fault : ValueFault) → AreInside a → FirstOutside b fault → FirstOutside (a ++ b) fault
outside_behind [] b fault h first = first
outside_behind (item ∷ a) b fault (h, more) first = outside_later item (a ++ b) fault h (outside_behind a b fault more first)

-- ---- Not both, and not two.

-- where a part is outside, not all are inside
pub not_both : (items : List Item) (fault : ValueFault) → AreInside items → FirstOutside items fault → ⊥
not_both items fault all first =
    first.outside (inside_parts first.before (first.item ∷ first.after) (subst AreInside first.place all)).1.0

one_by : (item : Item) (rest : List Item) (a b : ValueFault) → (FirstOutside rest a → FirstOutside rest b → a ≡ b)
    → IsOutside item a ⊎ (IsInside item × FirstOutside rest a) → IsOutside item b ⊎ (IsInside item × FirstOutside rest b) → a ≡ b
one_by item rest a b later (inl o) (inl p) = o.which ∙ sym p.which
one_by item rest a b later (inl o) (inr (h, more)) = absurd (o.outside h)
one_by item rest a b later (inr (h, more)) (inl p) = absurd (p.outside h)
one_by item rest a b later (inr (h, more)) (inr (k, others)) = later more others

-- the fault is one
pub one_fault : (items : List Item) (a b : ValueFault) → FirstOutside items a → FirstOutside items b → a ≡ b
one_fault [] a b first second = absurd (none_outside a first)
one_fault (item ∷ items) a b first second =
    one_by item items a b (one_fault items a b) (first_or_later item items a first) (first_or_later item items b second)

-- the units and the commodity are inside, and a part behind them isn't
pub outside_third : (first second : Item) (rest : List Item) (fault : ValueFault) → IsInside first → IsInside second → FirstOutside rest fault
    → FirstOutside (first ∷ second ∷ rest) fault
outside_third first second rest fault h k more = outside_later first (second ∷ rest) fault h (outside_later second rest fault k more)
