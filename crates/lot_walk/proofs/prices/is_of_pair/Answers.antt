use Rattle.std.proofs.Common.{◌≡◌, ◌∙◌, ◌&&◌, false, sym, ap, true}
use Rattle.lot_base.specs.Text.{same_text}
use Rattle.lot_walk.proofs.LastLemmas.{texts_of_pair}
use Rattle.lot_walk.proofs.prices.is_of_pair.Goals as goal

pub returns-then-eq : goal.returns-then-eq
returns-then-eq c =
    let row = c.args.row.now in
    let other = c.args.other.now in
    let bases : same_text row.base other.base ≡ true = cc (c.eq.ensures, c.if-eq.true) in
    let quotes : c.eq-then-eq.result ≡ same_text row.quote other.quote = c.eq-then-eq.ensures in
    quotes ∙ ap (λ b. b && same_text row.quote other.quote) (sym bases) ∙ sym (texts_of_pair row other)

pub returns-else-eq : goal.returns-else-eq
returns-else-eq c =
    let row = c.args.row.now in
    let other = c.args.other.now in
    let bases : c.eq.result ≡ same_text row.base other.base = c.eq.ensures in
    let apart : c.eq.result ≡ false = c.if-eq.false in
    apart ∙ ap (λ b. b && same_text row.quote other.quote) (sym apart ∙ bases) ∙ sym (texts_of_pair row other)
