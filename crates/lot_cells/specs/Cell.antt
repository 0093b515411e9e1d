-- Cells of the tables of a page, as HTML (docs/FORMATS.md, Page).
use Rattle.std.specs.Prelude.{◌==◌, ℕ, ℤ, ◌-ℤ◌, Bool, false, if◌then◌else◌, List, [], ◌∷◌, ◌++◌, Option, None, Some, codes, flat_map}
use Rattle.lot_html.specs.Html.{close_tag, element_text, open_tag}
use Rattle.lot_html.specs.Number.{data_text}
use Rattle.lot_html.specs.Text.{escaped}
use Rattle.lot_num.specs.AmountText.{amount_text}
use Rattle.lot_report.specs.Report.{is_wide}

-- a cell with something in it, and a cell of a class
abbrev pub cell : List ℕ → List ℕ
cell inner = open_tag (codes "td") [] ++ (inner ++ close_tag (codes "td"))

abbrev pub classed : List ℕ → List ℕ → List ℕ
classed name inner = open_tag (codes "td") ((codes "class", name) ∷ []) ++ (inner ++ close_tag (codes "td"))

abbrev pub number_cell : List ℕ → List ℕ
number_cell number = classed (codes "n") (data_text number)

-- whether a number text is of a number below zero
abbrev pub is_below_zero : List ℕ → Bool
is_below_zero [] = false
is_below_zero (byte ∷ rest) = byte == 45

-- a gain is marked where it is below zero
abbrev pub loss_cell : List ℕ → List ℕ
loss_cell number = classed (codes "n loss") (data_text number)

abbrev pub gain_cell : List ℕ → List ℕ
gain_cell number = if is_below_zero number then loss_cell number else number_cell number

-- a text in a cell, or a name, which has an element of its own
abbrev pub plain_cell : List ℕ → List ℕ
plain_cell said = cell (escaped said)

abbrev pub name_cell : List ℕ → List ℕ
name_cell name = cell (element_text (codes "bdi") [] name)

-- a name that there may be
abbrev pub optional_name : Option (List ℕ) → List ℕ
optional_name None = cell []
optional_name (Some name) = name_cell name

-- cells that hold nothing: of numbers, and of all else
abbrev pub no_number : List ℕ
no_number = classed (codes "n") []

abbrev pub no_text : List ℕ
no_text = cell []

-- an amount of money at scale 16, and a gain of money
abbrev pub money_cell : ℤ → List ℕ
money_cell amount = number_cell (amount_text 2 16 amount)

abbrev pub money_gain_cell : ℤ → List ℕ
money_gain_cell amount = gain_cell (amount_text 2 16 amount)

-- what is gained where something that cost so much is worth so much; nothing is said of a gain out of the range of weights
abbrev pub gain_over_cell : ℤ → ℤ → List ℕ
gain_over_cell worth cost = if is_wide (worth -ℤ cost) then money_gain_cell (worth -ℤ cost) else no_number

-- cells one behind the other
abbrev pub cells : List (List ℕ) → List ℕ
cells = flat_map (λ (text : List ℕ). text)
