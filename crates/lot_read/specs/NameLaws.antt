-- What texts mean as names. A grammar of parts names its laws here, beside the definitions.
use Rattle.std.specs.Prelude.{◌≡◌, ℕ, Bool, false, List, [], ◌∷◌, IsTrue, ◌||◌, ◌&&◌, ◌==◌, nat_le, length}
use Rattle.std.specs.Char.{is_ascii_control}
use Rattle.std.specs.List.{list_all}
use Rattle.std.proofs.Common.{true, refl, sym, ap, ◌∙◌, subst}
use Rattle.std.proofs.lemmas.Bool.{and_parts, or_parts, not-true, false≢true}
use Rattle.lot_base.specs.Name.{is_account, is_commodity, is_label, is_label_byte, longest_label}
use Rattle.lot_command.specs.Canonical.{escaped, escaped_byte}
use Rattle.lot_read.specs.declared.fault.ValueFault.TheVariants.{BadName}
use Rattle.lot_read.specs.Meaning.{Names, Quotes, account_item, commodity_item, label_item}
use Rattle.lot_read.specs.Outside.{IsOutside}

-- ---- Accounts and commodities: each is written as it stands.

pub names_itself : (is_name : List ℕ → Bool) (bytes : List ℕ) → IsTrue (is_name bytes) → Names is_name bytes bytes
names_itself is_name bytes good = record { spelled = refl; good = good }

pub named_is_good : (is_name : List ℕ → Bool) (bytes name : List ℕ) → Names is_name bytes name → IsTrue (is_name bytes)
named_is_good is_name bytes name n = ap is_name n.spelled ∙ n.good

pub account_outside : (bytes : List ℕ) → is_account bytes ≡ false → IsOutside (account_item bytes) BadName
account_outside bytes bad = record {
  outside = λ (name, n). false≢true (sym bad ∙ named_is_good is_account bytes name n);
  which = refl;
}

pub commodity_outside : (bytes : List ℕ) → is_commodity bytes ≡ false → IsOutside (commodity_item bytes) BadName
commodity_outside bytes bad = record {
  outside = λ (name, n). false≢true (sym bad ∙ named_is_good is_commodity bytes name n);
  which = refl;
}

-- ---- Labels: there is no quote and no backslash in one, so it is written as it stands, too.

label_byte : (b : ℕ) → is_label_byte b ≡ true → escaped_byte b ≡ b ∷ []
label_byte b e = rw (or_parts (is_ascii_control b) ((b == 34) || (b == 92)) (not-true _ e)).1 refl

label_bytes : (bytes : List ℕ) → list_all is_label_byte bytes ≡ true → escaped bytes ≡ bytes
label_bytes [] e = refl
label_bytes (b ∷ bytes) e =
    let both = and_parts (is_label_byte b) (list_all is_label_byte bytes) e in
    rw (label_byte b both.0) (ap (λ rest. b ∷ rest) (label_bytes bytes both.1))

pub label_is_plain : (bytes : List ℕ) → IsTrue (is_label bytes) → escaped bytes ≡ bytes
unfolding is_label
label_is_plain bytes e =
    label_bytes bytes (and_parts (nat_le 1 (length bytes) && nat_le (length bytes) longest_label) (list_all is_label_byte bytes) e).1

pub label_is_quoted : (bytes : List ℕ) → IsTrue (is_label bytes) → Quotes is_label bytes bytes
label_is_quoted bytes good = record { spelled = sym (label_is_plain bytes good); good = good }

pub quoted_is_label : (bytes name : List ℕ) → Quotes is_label bytes name → IsTrue (is_label bytes)
quoted_is_label bytes name q = subst (λ b. IsTrue (is_label b)) (sym (q.spelled ∙ label_is_plain name q.good)) q.good

pub label_outside : (bytes : List ℕ) → is_label bytes ≡ false → IsOutside (label_item bytes) BadName
label_outside bytes bad = record {
  outside = λ (name, q). false≢true (sym bad ∙ quoted_is_label bytes name q);
  which = refl;
}
