-- The sale is added to three tables, one after another.
use Rattle.std.proofs.Common.{[], ◌∷◌, ◌++◌, Err}
use Rattle.std.specs.Prelude.{◌&&◌}
use Rattle.std.proofs.lemmas.Result.{err_from_is_err_and}
use Rattle.lot_book_report.specs.Gains.{sale_in}
use Rattle.lot_tally.specs.Table.{IsTable, fits}
use Rattle.lot_tally.specs.declared.key.GainKey.TheVariants as key
use Rattle.lot_tally.specs.declared.key.TableForm.TheVariants.{Csv}
use Rattle.lot_page_report.specs.Read.{HasSales}
use Rattle.lot_page_report.proofs.TakeLemmas.{first_unfit, later_adds}
use Rattle.lot_page_report.proofs.read.SalesTallyTallyNumberedSale.take.Goals as goal

pub returns-in_err-add : goal.returns-in_err-add
returns-in_err-add c = λ terms sales taken.
    let fault = err_from_is_err_and c.from_residual.result c.from_residual.ensures.1 in
    rw (fault.1, fault.2)
    (first_unfit _ _ (IsTable (key.Year ∷ []) Csv (sales ++ sale_in c.args.sold ∷ []) c.add.new.self)
    (HasSales tt (sales ++ sale_in c.args.sold ∷ []) (record { years = c.add.new.self; commodities = c.args.self.now.commodities; currencies = c.args.self.now.currencies }))
    c.in_err-add.field-0.0 (c.in_err-add.ensures (key.Year ∷ []) Csv sales taken.years))

pub returns-in_err-add-2 : goal.returns-in_err-add-2
returns-in_err-add-2 c = λ terms sales taken.
    let fault = err_from_is_err_and c.from_residual-in_err-add-2.result c.from_residual-in_err-add-2.ensures.1 in
    let one = c.in_ok-add.ensures (key.Year ∷ []) Csv sales taken.years in
    rw (fault.1, fault.2)
    (later_adds (fits (key.Year ∷ []) Csv sales (sale_in c.args.sold))
    (fits (key.Commodity ∷ []) Csv sales (sale_in c.args.sold) && fits [] Csv sales (sale_in c.args.sold))
    (HasSales tt (sales ++ sale_in c.args.sold ∷ []) (record { years = c.add.new.self; commodities = c.add-2.new.self; currencies = c.args.self.now.currencies }))
    (HasSales tt (sales ++ sale_in c.args.sold ∷ []) (record { years = c.add.new.self; commodities = c.add-2.new.self; currencies = c.args.self.now.currencies }))
    (Err c.in_err-add-2.field-0.0) one.0 (λ none. none)
    (first_unfit (fits (key.Commodity ∷ []) Csv sales (sale_in c.args.sold)) (fits [] Csv sales (sale_in c.args.sold)) (IsTable (key.Commodity ∷ []) Csv (sales ++ sale_in c.args.sold ∷ []) c.add-2.new.self)
    (HasSales tt (sales ++ sale_in c.args.sold ∷ []) (record { years = c.add.new.self; commodities = c.add-2.new.self; currencies = c.args.self.now.currencies }))
    c.in_err-add-2.field-0.0 (c.in_err-add-2.ensures (key.Commodity ∷ []) Csv sales taken.commodities)))

pub returns : goal.returns
returns c = λ terms sales taken.
    let one = c.in_ok-add.ensures (key.Year ∷ []) Csv sales taken.years in
    let two = c.in_ok-add-2.ensures (key.Commodity ∷ []) Csv sales taken.commodities in
    later_adds _ _
    (HasSales tt (sales ++ sale_in c.args.sold ∷ []) (record { years = c.add.new.self; commodities = c.add-2.new.self; currencies = c.add-3.new.self }))
    (HasSales tt (sales ++ sale_in c.args.sold ∷ []) (record { years = c.add.new.self; commodities = c.add-2.new.self; currencies = c.add-3.new.self }))
    c.add-3.result one.0 (λ three. three)
    (later_adds _ _ (IsTable [] Csv (sales ++ sale_in c.args.sold ∷ []) c.add-3.new.self)
    (HasSales tt (sales ++ sale_in c.args.sold ∷ []) (record { years = c.add.new.self; commodities = c.add-2.new.self; currencies = c.add-3.new.self }))
    c.add-3.result two.0 (λ three. record { years = one.1; commodities = two.1; currencies = three })
    (c.add-3.ensures [] Csv sales taken.currencies))
