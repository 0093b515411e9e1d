-- One source more.
use Rattle.std.proofs.Common.{◌≡◌, ℕ, ◌+◌, ◌<◌, List, [], ◌∷◌, ◌++◌, length, get_or, take, drop, Option, Some, None, Ok, ap, ◌∙◌, sym, subst, ℤ, pos, ◌+ℤ◌}
use Rattle.std.specs.Prelude.{unwrap_or}
use Rattle.std.specs.List.{cons_option, filter_map}
use Rattle.std.proofs.lemmas.List.Elements.{filter_map-append}
use Rattle.std.proofs.lemmas.List.{append-nil, take_more}
use Rattle.lot_sheet.proofs.ListLemmas.{drop_item}
use Rattle.lot_field.specs.declared.numbers.NumberForm.{NumberForm}
use Rattle.lot_profile.specs.declared.role.Role.{Role}
use Rattle.lot_profile.specs.declared.role.Source.{Source}
use Rattle.lot_roles.specs.Numbers.{part_units}
use Rattle.lot_roles.proofs.SumLemmas.{sum_behind}
use Rattle.lot_roles.specs.Reading.{Read, ◌>>=◌}
use Rattle.lot_roles.specs.declared.numbers.Decimals.{Decimals}

module _ (f : Source → Option (List ℕ)) (all items : List Source) (i : ℕ) (s : Source) (same : items ≡ all) (here : i < length items) (is : s ≡ get_or items i s) where
  left : drop i all ≡ s ∷ drop (i + 1) all
  left = subst (λ (xs : List Source). drop i xs ≡ s ∷ drop (i + 1) xs) same (drop_item items i s here is)

  left_parts : (part : Option (List ℕ)) → part ≡ f s → filter_map f (drop i all) ≡ cons_option part (filter_map f (drop (i + 1) all))
  left_parts part e = ap (filter_map f) left ∙ ap (λ (o : Option (List ℕ)). cons_option o (filter_map f (drop (i + 1) all))) (sym e)

  -- a source that says nothing adds nothing
  pub one_skipped : (numbers : NumberForm) (decimals : Decimals) (role : Role) (so_far : Option ℤ) (whole : Read (Option ℤ)) → None ≡ f s
      → whole ≡ sum_behind numbers decimals role so_far (filter_map f (drop i all))
      → whole ≡ sum_behind numbers decimals role so_far (filter_map f (drop (i + 1) all))
  one_skipped numbers decimals role so_far whole none e = e ∙ ap (sum_behind numbers decimals role so_far) (left_parts None none)

  -- a part is added to the sum so far
  pub one_added : (numbers : NumberForm) (decimals : Decimals) (role : Role) (so_far : Option ℤ) (whole : Read (Option ℤ)) (part : List ℕ) (units : ℤ)
      → Some part ≡ f s → Ok units ≡ part_units numbers decimals role part
      → whole ≡ sum_behind numbers decimals role so_far (filter_map f (drop i all))
      → whole ≡ sum_behind numbers decimals role (Some (unwrap_or so_far (pos 0) +ℤ units)) (filter_map f (drop (i + 1) all))
  one_added numbers decimals role so_far whole part units some ok e =
      e ∙ ap (sum_behind numbers decimals role so_far) (left_parts (Some part) some)
      ∙ ap (λ (read : Read ℤ). read >>= λ (u : ℤ). sum_behind numbers decimals role (Some (unwrap_or so_far (pos 0) +ℤ u)) (filter_map f (drop (i + 1) all))) (sym ok)

  more : (part : Option (List ℕ)) → part ≡ f s → filter_map f (take (i + 1) all) ≡ filter_map f (take i all) ++ cons_option part []
  more part e =
      let took : take (i + 1) all ≡ take i all ++ s ∷ [] =
      subst (λ (xs : List Source). take (i + 1) xs ≡ take i xs ++ s ∷ []) same
      (take_more items i s here ∙ ap (λ (x : Source). take i items ++ x ∷ []) (sym is)) in
      ap (filter_map f) took ∙ filter_map-append f (take i all) (s ∷ [])
      ∙ ap (λ (o : Option (List ℕ)). filter_map f (take i all) ++ cons_option o []) (sym e)

  -- a part stands behind those so far
  pub one_part : (found : List (List ℕ)) (part : List ℕ) → Some part ≡ f s → found ≡ filter_map f (take i all)
      → found ++ part ∷ [] ≡ filter_map f (take (i + 1) all)
  one_part found part some e = ap (λ (xs : List (List ℕ)). xs ++ part ∷ []) e ∙ sym (more (Some part) some)

  pub no_part : (found : List (List ℕ)) → None ≡ f s → found ≡ filter_map f (take i all) → found ≡ filter_map f (take (i + 1) all)
  no_part found none e = e ∙ sym (append-nil (filter_map f (take i all))) ∙ sym (more None none)
