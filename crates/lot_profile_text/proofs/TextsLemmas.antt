-- The profile of a text is that of its document.
use Rattle.std.proofs.Common.{◌≡◌, ◌≢◌, ℕ, List, Option, Some, None, Ok, Err, refl, subst, sym}
use Rattle.std.specs.Prelude.{option_map, IsErrAnd}
use Rattle.toml.specs.Data.{Data, Members, table}
use Rattle.toml.specs.Parse.{parse_document}
use Rattle.lot_profile.specs.declared.profile.Profile.{Profile}
use Rattle.lot_profile_text.specs.Profiles.{profile_of}
use Rattle.lot_profile_text.specs.Reading.{Gives, Read}
use Rattle.lot_profile_text.specs.Texts.{IsProfileOf, IsSaidBy, IsTomlFault}
use Rattle.lot_profile_text.specs.declared.fault.ProfileFault.{ProfileFault}
use Rattle.lot_profile_text.specs.declared.fault.ProfileFault.TheVariants.{Memory}

pub said-fault : (text : List ℕ) (fault : ProfileFault) → IsTomlFault text fault → (fault ≢ Memory → parse_document text ≡ None)
    → IsProfileOf text (Err fault)
unfolding IsProfileOf
said-fault text fault toml none = go (parse_document text) refl
  where
    go : (document : Option Members) → parse_document text ≡ document → IsSaidBy text (Err fault) document
    go None e = toml
    go (Some document) e = λ other. cc (none other, e)

pub said-document : (text : List ℕ) (value : Data) (answer : Read Profile) → option_map table (parse_document text) ≡ Some value
    → Gives answer (profile_of value) → IsProfileOf text answer
unfolding IsProfileOf
said-document text value answer is gives = go (parse_document text) is
  where
    go : (document : Option Members) → option_map table document ≡ Some value → IsSaidBy text answer document
    go None e = absurd (cc e)
    go (Some document) e =
        let same : value ≡ table document = cc e in
        subst (λ (v : Data). Gives answer (profile_of v)) same gives

pub said-error : (text : List ℕ) (fault : ProfileFault) (answer : Read Profile) → IsErrAnd answer (λ e. e ≡ fault)
    → IsTomlFault text fault → (fault ≢ Memory → parse_document text ≡ None) → IsProfileOf text answer
said-error text fault (Err e) is toml none = subst (λ (f : ProfileFault). IsProfileOf text (Err f)) (sym is) (said-fault text fault toml none)
said-error text fault (Ok profile) is toml none = absurd is
