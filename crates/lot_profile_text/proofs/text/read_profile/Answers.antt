-- The profile of a text is that of its document.
use Rattle.toml.specs.View.{view}
use Rattle.lot_profile_text.proofs.TextsLemmas.{said-document, said-error}
use Rattle.lot_profile_text.proofs.text.read_profile.Goals as goal

pub returns-in_err-document-clause-said : goal.returns-in_err-document-clause-said
returns-in_err-document-clause-said c =
    said-error c.args.text.now c.in_err-document.field-0.0 c.from_residual.result c.from_residual.ensures.1 c.in_err-document.ensures.fault
    c.in_err-document.ensures.none

pub returns-clause-said : goal.returns-clause-said
returns-clause-said c = said-document c.args.text.now (view c.in_ok-document.document) c.profile.result c.in_ok-document.ensures.document c.profile.ensures.said
