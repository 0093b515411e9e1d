-- What stands between the quotes of a text.
use Rattle.std.proofs.Common.{◌≡◌, ℕ, suc, ◌+◌, ◌-◌, ◌<◌, ◌≤◌, Bool, true, false, cond, List, [], ◌∷◌, ◌++◌, length, take, drop, Option, Some, None, refl, ap, ◌∙◌, sym, subst, eqb, arith}
use Rattle.std.specs.Prelude.{option_map}
use Rattle.std.specs.List.{list_all}
use Rattle.std.proofs.lemmas.Bool.{and_parts, and_from, or_from, or_parts, eqb-true}
use Rattle.lot_command.specs.Canonical.{escaped}
use Rattle.std.proofs.lemmas.Bool.Decides.{nat_tests}
use Rattle.std.proofs.lemmas.List.{drop-drop, length-drop}
use Rattle.std.proofs.lemmas.Option.{same_Some, none-some}
use Rattle.lot_base.specs.Name.{is_note_byte}
use Rattle.lot_syntax.specs.Token.{begins_with}
use Rattle.lot_syntax.specs.Cutting.{is_escape, unit_len, within_len}
use Rattle.lot_syntax.proofs.OptionLemmas.{guarded, mapped}
use Rattle.lot_syntax.proofs.RunLemmas.{rest_of}

-- ---- Step by step.

pub within_here : (xs : List ℕ) → begins_with 34 xs ≡ true → (within_len xs ≡ Some 0) × (1 ≤ length xs)
unfolding within_len
within_here [] e = cc
within_here (b ∷ []) e = (rw e refl, omega arith)
within_here (b ∷ c ∷ rest) e = (rw e refl, omega arith)

map_none : (o : Option ℕ) → o ≡ None → option_map suc o ≡ None
map_none o e = rw e refl

-- what the first unit adds
abbrev AfterUnit : List ℕ → Option ℕ → Type 0
AfterUnit xs None = within_len xs ≡ None
AfterUnit xs (Some k) = within_len xs ≡ option_map (λ n. k + n) (within_len (drop k xs))

map_same : (f g : ℕ → ℕ) (o : Option ℕ) → ((n : ℕ) → f n ≡ g n) → option_map f o ≡ option_map g o
map_same f g None h = refl
map_same f g (Some n) h = ap Some (h n)

one_more : (n : ℕ) → suc n ≡ 1 + n
one_more n = omega arith

two_more : (n : ℕ) → suc (suc n) ≡ 2 + n
two_more n = omega arith

after_escape : (b c : ℕ) (rest : List ℕ) (e : Bool) → is_escape c ≡ e → eqb b 34 ≡ false → eqb b 92 ≡ true
    → AfterUnit (b ∷ c ∷ rest) (cond e (Some 2) None)
unfolding within_len
after_escape b c rest true e quote slash = rw (quote, slash, e) (map_same _ _ (within_len rest) two_more)
after_escape b c rest false e quote slash = rw (quote, slash, e) refl

after_plain : (b c : ℕ) (rest : List ℕ) (e : Bool) → is_note_byte b ≡ e → eqb b 34 ≡ false → eqb b 92 ≡ false
    → AfterUnit (b ∷ c ∷ rest) (cond e (Some 1) None)
unfolding within_len
after_plain b c rest true e quote slash = rw (quote, slash, e) (map_same _ _ (within_len (c ∷ rest)) one_more)
after_plain b c rest false e quote slash = rw (quote, slash, e) refl

after_last : (b : ℕ) (s e : Bool) → eqb b 34 ≡ false → AfterUnit (b ∷ []) (cond s None (cond e (Some 1) None))
unfolding within_len
after_last b true e quote = rw quote refl
after_last b false true quote = rw quote refl
after_last b false false quote = rw quote refl

after_by : (b c : ℕ) (rest : List ℕ) (s : Bool) → eqb b 92 ≡ s → eqb b 34 ≡ false
    → AfterUnit (b ∷ c ∷ rest) (cond s (cond (is_escape c) (Some 2) None) (cond (is_note_byte b) (Some 1) None))
after_by b c rest true slash quote = after_escape b c rest (is_escape c) refl quote slash
after_by b c rest false slash quote = after_plain b c rest (is_note_byte b) refl quote slash

pub after_unit : (xs : List ℕ) → begins_with 34 xs ≡ false → AfterUnit xs (unit_len xs)
unfolding within_len
after_unit [] e = refl
after_unit (b ∷ []) e = after_last b (eqb b 92) (is_note_byte b) e
after_unit (b ∷ c ∷ rest) e = after_by b c rest (eqb b 92) refl e

-- ---- The loop over the units.

further : (n k : ℕ) (o : Option ℕ) → option_map (λ m. n + m) (option_map (λ m. k + m) o) ≡ option_map (λ m. (n + k) + m) o
further n k None = refl
further n k (Some m) = ap Some (omega arith)

after_at : (n : ℕ) (xs : List ℕ) (o : Option ℕ) → n ≤ length xs → begins_with 34 (take (length xs - n) (drop n xs)) ≡ false
    → o ≡ unit_len (take (length xs - n) (drop n xs)) → AfterUnit (drop n xs) o
after_at n xs o le quote unit =
    let same = rest_of n xs le in
    subst (AfterUnit (drop n xs)) (sym (unit ∙ ap unit_len same)) (after_unit (drop n xs) (rw same at quote))

pub within_step : (n k : ℕ) (xs : List ℕ) (total : Option ℕ) → n ≤ length xs
    → begins_with 34 (take (length xs - n) (drop n xs)) ≡ false → Some k ≡ unit_len (take (length xs - n) (drop n xs))
    → option_map (λ m. n + m) (within_len (drop n xs)) ≡ total
    → option_map (λ m. (n + k) + m) (within_len (drop (n + k) xs)) ≡ total
within_step n k xs total le quote unit h =
    let after = after_at n xs (Some k) le quote unit in
    ap (λ (ys : List ℕ). option_map (λ m. (n + k) + m) (within_len ys)) (sym (drop-drop k n xs))
    ∙ sym (further n k (within_len (drop k (drop n xs))))
    ∙ ap (λ o. option_map (λ m. n + m) o) (sym after) ∙ h

pub within_fails : (n : ℕ) (xs : List ℕ) (total : Option ℕ) → n ≤ length xs
    → begins_with 34 (take (length xs - n) (drop n xs)) ≡ false → None ≡ unit_len (take (length xs - n) (drop n xs))
    → option_map (λ m. n + m) (within_len (drop n xs)) ≡ total → None ≡ total
within_fails n xs total le quote unit h =
    sym (ap (λ o. option_map (λ m. n + m) o) (after_at n xs None le quote unit)) ∙ h

pub within_found : (n : ℕ) (xs : List ℕ) (total : Option ℕ) → n ≤ length xs
    → begins_with 34 (take (length xs - n) (drop n xs)) ≡ true
    → option_map (λ m. n + m) (within_len (drop n xs)) ≡ total → (Some n ≡ total) × (n < length xs)
within_found n xs total le quote h =
    let same = rest_of n xs le in
    let here = within_here (drop n xs) (rw same at quote) in
    (ap Some (omega arith) ∙ sym (ap (λ o. option_map (λ m. n + m) o) here.0) ∙ h, omega (arith, here.1, length-drop n xs))

-- ---- What is found stands there, and what stands there is found.

-- so many bytes stand for this content, and a quote ends them
pub record WithinAt (bytes : List ℕ) (n : ℕ) : Type 0 where
  pub content : List ℕ
  pub rest : List ℕ
  pub whole : bytes ≡ escaped content ++ 34 ∷ rest
  pub all : list_all is_note_byte content ≡ true
  pub len : n ≡ length (escaped content)

escape_is_note : (c : ℕ) → is_escape c ≡ true → is_note_byte c ≡ true
escape_is_note c e = grind (arith, nat_tests)

not_escape : (b : ℕ) → eqb b 34 ≡ false → eqb b 92 ≡ false → is_escape b ≡ false
not_escape b e f = or_from _ _ e f

at_quote : (b n : ℕ) (rest : List ℕ) → eqb b 34 ≡ true → Some 0 ≡ Some n → WithinAt (b ∷ rest) n
at_quote b n rest quote e = record {
  content = [];
  rest = rest;
  whole = ap (λ x. x ∷ rest) (eqb-true b 34 quote);
  all = refl;
  len = sym (same_Some 0 n e);
}

at_escape : (b c n m : ℕ) (rest : List ℕ) → eqb b 92 ≡ true → is_escape c ≡ true → WithinAt rest m → suc (suc m) ≡ n
    → WithinAt (b ∷ c ∷ rest) n
at_escape b c n m rest slash escape h e =
    let spelled : escaped (c ∷ h.content) ≡ 92 ∷ c ∷ escaped h.content = rw escape refl in
    record {
      content = c ∷ h.content;
      rest = h.rest;
      whole = ap (λ x. x ∷ c ∷ rest) (eqb-true b 92 slash) ∙ ap (λ x. 92 ∷ c ∷ x) h.whole
          ∙ ap (λ x. x ++ 34 ∷ h.rest) (sym spelled);
      all = and_from _ _ (escape_is_note c escape) h.all;
      len = sym e ∙ ap (λ k. suc (suc k)) h.len ∙ ap length (sym spelled);
    }

at_plain : (b n m : ℕ) (rest : List ℕ) → is_escape b ≡ false → is_note_byte b ≡ true → WithinAt rest m → suc m ≡ n → WithinAt (b ∷ rest) n
at_plain b n m rest plain note h e =
    let spelled : escaped (b ∷ h.content) ≡ b ∷ escaped h.content = rw plain refl in
    record {
      content = b ∷ h.content;
      rest = h.rest;
      whole = ap (λ x. b ∷ x) h.whole ∙ ap (λ x. x ++ 34 ∷ h.rest) (sym spelled);
      all = and_from _ _ note h.all;
      len = sym e ∙ ap suc h.len ∙ ap length (sym spelled);
    }

-- what the first two bytes say
within_by : (b c n : ℕ) (rest : List ℕ) (quote slash : Bool) → eqb b 34 ≡ quote → eqb b 92 ≡ slash
    → ((m : ℕ) → within_len rest ≡ Some m → WithinAt rest m) → ((m : ℕ) → within_len (c ∷ rest) ≡ Some m → WithinAt (c ∷ rest) m)
    → cond quote (Some 0) (cond slash (cond (is_escape c) (option_map (λ m. suc (suc m)) (within_len rest)) None)
    (cond (is_note_byte b) (option_map suc (within_len (c ∷ rest))) None)) ≡ Some n → WithinAt (b ∷ c ∷ rest) n
within_by b c n rest true slash quote back after next e = at_quote b n (c ∷ rest) quote e
within_by b c n rest false true quote back after next e =
    let g = guarded _ _ n e in
    let m = mapped (λ m. suc (suc m)) (within_len rest) n g.1 in
    at_escape b c n m.0 rest back g.0 (after m.0 m.1) m.2
within_by b c n rest false false quote back after next e =
    let g = guarded _ _ n e in
    let m = mapped suc (within_len (c ∷ rest)) n g.1 in
    at_plain b n m.0 (c ∷ rest) (not_escape b quote back) g.0 (next m.0 m.1) m.2

pub within_at : (bytes : List ℕ) (n : ℕ) → within_len bytes ≡ Some n → WithinAt bytes n
unfolding within_len
within_at [] n e = absurd (none-some n e)
within_at (b ∷ []) n e =
    let g = guarded (eqb b 34) (Some 0) n e in
    at_quote b n [] g.0 g.1
within_at (b ∷ c ∷ rest) n e =
    within_by b c n rest (eqb b 34) (eqb b 92) refl refl (λ m. within_at rest m) (λ m. within_at (c ∷ rest) m) e

after_escaped : (c n : ℕ) (rest : List ℕ) → is_escape c ≡ true → within_len rest ≡ Some n
    → within_len (92 ∷ c ∷ rest) ≡ Some (suc (suc n))
unfolding within_len
after_escaped c n rest escape e = rw (escape, e) refl

after_note : (b n : ℕ) (rest : List ℕ) → is_escape b ≡ false → is_note_byte b ≡ true → within_len rest ≡ Some n
    → within_len (b ∷ rest) ≡ Some (suc n)
unfolding within_len
after_note b n [] plain note e = absurd (none-some n e)
after_note b n (c ∷ rest) plain note e =
    let parts = or_parts (eqb b 34) (eqb b 92) plain in
    rw (parts.0, parts.1, note, e) refl

content_by : (b n : ℕ) (content rest : List ℕ) (escape : Bool) → is_escape b ≡ escape → is_note_byte b ≡ true
    → within_len (escaped content ++ 34 ∷ rest) ≡ Some (length (escaped content))
    → within_len (escaped (b ∷ content) ++ 34 ∷ rest) ≡ Some (length (escaped (b ∷ content)))
content_by b n content rest true escape note e = rw escape (after_escaped b _ (escaped content ++ 34 ∷ rest) escape e)
content_by b n content rest false escape note e = rw escape (after_note b _ (escaped content ++ 34 ∷ rest) escape note e)

pub content_found : (content rest : List ℕ) → list_all is_note_byte content ≡ true
    → within_len (escaped content ++ 34 ∷ rest) ≡ Some (length (escaped content))
unfolding within_len
content_found [] [] all = refl
content_found [] (b ∷ rest) all = refl
content_found (b ∷ content) rest all =
    let parts = and_parts (is_note_byte b) (list_all is_note_byte content) all in
    content_by b 0 content rest (is_escape b) refl parts.0 (content_found content rest parts.1)
