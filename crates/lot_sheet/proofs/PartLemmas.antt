-- Of which table a line is a row.
use Rattle.std.proofs.Common.{◌≡◌, ◌↔◌, ℕ, ◌+◌, ◌-◌, ◌<◌, Bool, true, false, List, ◌∷◌, ◌++◌, length, drop, take, get_or, Option, refl, sym, ap, subst, ◌∙◌, arith, length-append, length-drop}
use Rattle.std.proofs.Math.Seq.{drop-append-add, get_or-append_seam, take-length}
use Rattle.std.proofs.lemmas.List.{get_or-take, length-take-le, take-append-drop}
use Rattle.std.specs.Bool.{MatchBool}
use Rattle.std.specs.List.{list_any}
use Rattle.lot_profile.specs.declared.file.Condition.{Condition}
use Rattle.lot_profile.specs.declared.file.FileForm.{FileForm}
use Rattle.lot_sheet.specs.declared.fault.RowCause.TheVariants.{Longer}
use Rattle.lot_sheet.specs.Column.{Meets}
use Rattle.lot_sheet.specs.Header.{Standing, has_begun}
use Rattle.lot_sheet.specs.Part.{BadRow, IsBody, IsBodyBy, IsFirstTaker, IsTakenByOne, IsTakenByTwo, Outside, Part, RowOf, TakenByNone, Takes, is_longer, row_or_longer}
use Rattle.lot_sheet.proofs.ListLemmas.{drop_item}

pub takes_by : (A : Type 0) (form : FileForm) (line : List (List ℕ)) (s : Standing) (header : Option (List (List ℕ))) (asked : List Condition)
    → header ≡ s.1 → asked ≡ s.0.rows → has_begun s ≡ true → A ↔ Meets form header line asked → A ↔ Takes form line s
takes_by A form line s header asked h r begun meets =
    let same : A ↔ Meets form s.1 line s.0.rows =
    subst (λ (x : Option (List (List ℕ))). A ↔ Meets form x line s.0.rows) h
    (subst (λ (x : List Condition). A ↔ Meets form header line x) r meets) in
    ((λ a. (begun, same.0 a)), (λ t. same.1 t.1))

module _ (form : FileForm) (line : List (List ℕ)) (tables : List Standing) where
  pub first_by : (place : ℕ) (s : Standing) → place < length tables → s ≡ get_or tables place s
      → ((k : ℕ) (d : Standing) → k < place → Takes form line (get_or tables k d) → ⊥) → Takes form line s
      → IsFirstTaker form line tables place s (drop (place + 1) tables)
  first_by place s lt is none takes =
      let long = length-take-le place tables (omega arith) in
      record {
        before = take place tables;
        all = sym (take-append-drop place tables) ∙ ap (λ (ys : List Standing). take place tables ++ ys) (drop_item tables place s lt is);
        at = long;
        none = λ k d less. let small : k < place = omega (arith, long, less) in
            subst (λ (x : Standing). Takes form line x → ⊥) (sym (get_or-take place tables k d small)) (none k d small);
        takes = takes;
      }

  pub within : (place : ℕ) (s : Standing) (after : List Standing) → IsFirstTaker form line tables place s after
      → length tables ≡ place + 1 + length after
  within place s after h =
      let long = ap length h.all ∙ length-append h.before (s ∷ after) in
      let at = h.at in
      omega (arith, long, at)

  seam : (place : ℕ) (s : Standing) (after before : List Standing) → tables ≡ before ++ s ∷ after → length before ≡ place
      → (s ≡ get_or tables place s) × (after ≡ drop (place + 1) tables)
  seam place s after before all at =
      let value : get_or tables place s ≡ s =
      ap (λ (ts : List Standing). get_or ts place s) all ∙ ap (λ (n : ℕ). get_or (before ++ s ∷ after) n s) (sym at)
      ∙ get_or-append_seam before s after s in
      let behind : drop (place + 1) tables ≡ after =
      ap (λ (ts : List Standing). drop (place + 1) ts) all
      ∙ ap (λ (n : ℕ). drop (n + 1) (before ++ s ∷ after)) (sym at)
      ∙ drop-append-add before (s ∷ after) 1 in
      (sym value, sym behind)

  pub after_is : (place : ℕ) (s : Standing) (after : List Standing) → IsFirstTaker form line tables place s after → after ≡ drop (place + 1) tables
  after_is place s after h = (seam place s after h.before h.all h.at).1

  pub s_is : (place : ℕ) (s t : Standing) (after : List Standing) → IsFirstTaker form line tables place s after → t ≡ get_or tables place t → t ≡ s
  s_is place s t after h e =
      e ∙ ap (λ (ts : List Standing). get_or ts place t) h.all ∙ ap (λ (n : ℕ). get_or (h.before ++ s ∷ after) n t) (sym h.at)
      ∙ get_or-append_seam h.before s after t

  pub outside : list_any has_begun tables ≡ false → IsBodyBy form tables line Outside
  outside e = subst (λ (b : Bool). MatchBool b (IsBody form tables line Outside) (◌≡◌ {A = Part} Outside Outside)) (sym e) refl

  pub body : (part : Part) → list_any has_begun tables ≡ true → IsBody form tables line part → IsBodyBy form tables line part
  body part e h = subst (λ (b : Bool). MatchBool b (IsBody form tables line part) (part ≡ Outside)) (sym e) h

  pub two : (place more second : ℕ) (s other : Standing) (after others : List Standing) → IsFirstTaker form line tables place s after
      → IsFirstTaker form line (drop (place + 1) tables) more other others → second ≡ place + 1 + more
      → IsTakenByTwo form line tables place second
  two place more second s other after others h k e =
      record {
        s = s;
        after = after;
        is_first = h;
        more = more;
        other = other;
        others = others;
        is_second = subst (λ (xs : List Standing). IsFirstTaker form line xs more other others) (sym (after_is place s after h)) k;
        place = e;
      }

  module _ (place : ℕ) (s t : Standing) (after : List Standing) (h : IsFirstTaker form line tables place s after)
      (none : TakenByNone form line (drop (place + 1) tables)) (e : t ≡ get_or tables place t) (header : Option (List (List ℕ))) (is : header ≡ t.1) where
    pub one : (part : Part) → part ≡ row_or_longer place header line → IsTakenByOne form line tables part
    one part p =
        record {
          place = place;
          s = s;
          after = after;
          first = h;
          no_other = subst (TakenByNone form line) (sym (after_is place s after h)) none;
          is = p ∙ ap (λ (x : Option (List (List ℕ))). row_or_longer place x line) (is ∙ ap (λ (x : Standing). x.1) (s_is place s t after h e));
        }

    pub longer : is_longer header line ≡ true → IsBody form tables line (BadRow Longer)
    longer l = one (BadRow Longer) (rw (l) refl)

    pub row : is_longer header line ≡ false → IsBody form tables line (RowOf place t.1 line)
    row l = one (RowOf place t.1 line) (rw (l) (ap (λ (x : Option (List (List ℕ))). RowOf place x line) (sym is)))

-- all that stands from a place on
pub whole : (tables : List Standing) (n : ℕ) → take (length tables - n) (drop n tables) ≡ drop n tables
whole tables n = ap (λ (k : ℕ). take k (drop n tables)) (sym (length-drop n tables)) ∙ take-length (drop n tables)
