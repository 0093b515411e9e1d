-- Currencies, each once: one more stands behind the others, unless it is among them.
use Rattle.std.proofs.Common.{◌≡◌, ◌∙◌, ℕ, true, false, cond, List, [], ◌∷◌, ◌++◌, refl, sym, ap}
use Rattle.std.specs.Prelude.{filter, map, not, ◌||◌}
use Rattle.std.specs.List.{list_any}
use Rattle.std.proofs.lemmas.List.{append-nil, map-append}
use Rattle.std.proofs.lemmas.List.Elements.{filter-append}
use Rattle.lot_base.specs.Text.{same_text}
use Rattle.lot_base.proofs.TextLemmas.{one_text, same_text-turned}
use Rattle.lot_split.specs.Lots.{currencies_of, each_once}
use Rattle.lot_split.specs.declared.lot.HeldLot.{HeldLot}
use Rattle.lot_split.proofs.ListLemmas.{by_bool}

-- the other currencies
abbrev pub without : List ℕ → List (List ℕ) → List (List ℕ)
without currency currencies = filter (λ other. not (same_text currency other)) currencies

any_without : (m n : List ℕ) (ks : List (List ℕ)) → same_text n m ≡ false → list_any (same_text n) (without m ks) ≡ list_any (same_text n) ks
any_without m n [] e = refl
any_without m n (k ∷ ks) e =
    by_bool (same_text m k)
    (λ gone.
    let apart : same_text n k ≡ false = ap (same_text n) (sym (one_text m k gone)) ∙ e in
    rw (gone, apart) (any_without m n ks e))
    (λ kept. rw kept (ap (λ b. same_text n k || b) (any_without m n ks e)))

push_gone : (m n : List ℕ) (ks : List (List ℕ)) → same_text m n ≡ true → without m (ks ++ n ∷ []) ≡ without m ks
push_gone m n ks e = filter-append (λ other. not (same_text m other)) ks (n ∷ []) ∙ rw e (append-nil (without m ks))

push_kept : (m n : List ℕ) (ks : List (List ℕ)) → same_text m n ≡ false → without m (ks ++ n ∷ []) ≡ without m ks ++ n ∷ []
push_kept m n ks e = filter-append (λ other. not (same_text m other)) ks (n ∷ []) ∙ rw e refl

first_next : (m n : List ℕ) (ks : List (List ℕ))
    → m ∷ without m (cond (list_any (same_text n) ks) ks (ks ++ n ∷ []))
    ≡ cond (list_any (same_text n) (m ∷ without m ks)) (m ∷ without m ks) (m ∷ without m ks ++ n ∷ [])
first_next m n ks =
    by_bool (same_text n m)
    (λ here.
    rw here
    (by_bool (list_any (same_text n) ks) (λ e. rw e refl)
    (λ e. rw e (ap (λ xs. m ∷ xs) (push_gone m n ks (same_text-turned n m true here))))))
    (λ there.
    rw (there, any_without m n ks there)
    (by_bool (list_any (same_text n) ks) (λ e. rw e refl)
    (λ e. rw e (ap (λ xs. m ∷ xs) (push_kept m n ks (same_text-turned n m false there))))))

pub once_more : (names : List (List ℕ)) (n : List ℕ)
    → each_once (names ++ n ∷ []) ≡ cond (list_any (same_text n) (each_once names)) (each_once names) (each_once names ++ n ∷ [])
once_more [] n = refl
once_more (m ∷ names) n = ap (λ ks. m ∷ without m ks) (once_more names n) ∙ first_next m n (each_once names)

pub currencies_more : (lots : List HeldLot) (lot : HeldLot)
    → currencies_of (lots ++ lot ∷ [])
    ≡ cond (list_any (same_text lot.key.currency) (currencies_of lots)) (currencies_of lots) (currencies_of lots ++ lot.key.currency ∷ [])
currencies_more lots lot =
    ap each_once (map-append (λ (l : HeldLot). l.key.currency) lots (lot ∷ []))
    ∙ once_more (map (λ (l : HeldLot). l.key.currency) lots) lot.key.currency
