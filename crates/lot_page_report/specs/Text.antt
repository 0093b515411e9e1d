-- The text of a page of a book (docs/FORMATS.md, Page).
use Rattle.std.specs.Prelude.{◌==◌, ℕ, ℤ, if◌then◌else◌, List, [], ◌∷◌, ◌++◌, length, Option, None, Some, codes, decimal}
use Rattle.base64.specs.Engines.{standard}
use Rattle.base64.specs.GeneralPurpose.{encode_of}
use Rattle.hex.specs.Hex.{encode_lower}
use Rattle.sha2.specs.Sha256.{sha256}
use Rattle.lot_base.specs.Day.{day_text}
use Rattle.lot_book_report.specs.declared.digest.BookDigest.{BookDigest}
use Rattle.lot_html.specs.Html.{element_text}
use Rattle.lot_html.specs.Number.{grouped}
use Rattle.lot_html.specs.Text.{escaped}
use Rattle.lot_plot.specs.Plot.{all_of}
use Rattle.lot_page_report.specs.Parts.{PageOf, Parts, asked_prices, covered, days_of, rows_within}
use Rattle.lot_page_report.specs.declared.style.TheConstants.{STYLE}

-- ---- the head

-- the lines of the style, as the program has them
abbrev pub style : List ℕ
style = STYLE.now

-- what a page begins with: no other style counts than the one of that digest
abbrev pub front_begin : List ℕ
front_begin =
    all_of
    (codes "<html lang=\"en\">\n<head>\n<meta charset=\"utf-8\"/>\n<meta http-equiv=\"Content-Security-Policy\""
    ∷ codes " content=\"default-src 'none'; style-src 'sha256-" ∷ [])

-- what stands between that and the name of the book
abbrev pub viewport : List ℕ
viewport = codes "'\"/>\n<meta name=\"viewport\" content=\"width=device-width, initial-scale=1\"/>\n<title>"

abbrev pub front_html : List ℕ → List ℕ
front_html name =
    all_of
    (front_begin ∷ escaped (encode_of standard (sha256 style)) ∷ viewport ∷ escaped name ∷ codes "</title>\n<style>" ∷ style
    ∷ codes "</style>\n</head>\n" ∷ [])

-- a name, whose direction of writing stays its own
abbrev pub name_html : List ℕ → List ℕ
name_html name = element_text (codes "bdi") [] name

-- a count for the eye
abbrev pub count_html : ℕ → List ℕ
count_html count = grouped (decimal count)

-- how many entries of the book are of the range, where not all are
abbrev pub within_html : ℕ → ℕ → List ℕ
within_html within count = if within == count then [] else all_of (count_html within ∷ codes " of " ∷ [])

-- the days that the page covers, and the entries
abbrev pub some_days_html : ℤ → ℤ → ℕ → ℕ → List ℕ
some_days_html first last within count =
    all_of
    (escaped (day_text first) ∷ codes " to " ∷ escaped (day_text last) ∷ codes ", " ∷ within_html within count ∷ count_html count
    ∷ codes " entries" ∷ [])

abbrev pub days_html : Option (ℤ × ℤ) → ℕ → ℕ → List ℕ
days_html None within count = codes "No entries"
days_html (Some days) within count = some_days_html days.0 days.1 within count

abbrev pub some_digest_html : BookDigest → List ℕ
some_digest_html digest = all_of (codes "<p>sha256 <code>" ∷ escaped (encode_lower digest.sha256) ∷ codes "</code></p>\n" ∷ [])

abbrev pub digest_html : Option BookDigest → List ℕ
digest_html None = []
digest_html (Some digest) = some_digest_html digest

-- links to the parts
abbrev pub links : List ℕ
links =
    all_of
    (codes "<nav>\n<ul>\n<li><a href=\"#years\">Gains by year</a></li>\n"
    ∷ codes "<li><a href=\"#commodities\">Gains by commodity</a></li>\n<li><a href=\"#holdings\">Holdings</a></li>\n"
    ∷ codes "<li><a href=\"#months\">Worth by month</a></li>\n<li><a href=\"#sales\">Sales</a></li>\n"
    ∷ codes "<li><a href=\"#journal\">Journal</a></li>\n</ul>\n</nav>\n" ∷ [])

abbrev pub header_with : List ℕ → List ℕ → Option BookDigest → List ℕ
header_with name days digest =
    all_of
    (codes "<header>\n<h1>" ∷ name_html name ∷ codes "</h1>\n<p>" ∷ days ∷ codes "</p>\n" ∷ digest_html digest ∷ links
    ∷ codes "</header>\n" ∷ [])

abbrev pub header_html : PageOf → Parts → List ℕ
header_html page parts =
    header_with page.name
    (days_html (covered page parts.entries) (length (rows_within (days_of page) parts.entries)) (length parts.entries)) parts.digest

-- what a part of a page begins with
abbrev pub part_front : List ℕ → List ℕ → List ℕ
part_front name title = all_of (codes "<section id=\"" ∷ name ∷ codes "\">\n<h2>" ∷ title ∷ codes "</h2>\n" ∷ [])

abbrev pub part_end : List ℕ
part_end = codes "</section>\n"

abbrev pub no_sales : List ℕ
no_sales = codes "<p>No sales</p>\n"

-- ---- holdings

-- the head of the table
abbrev pub held_head : List ℕ
held_head =
    all_of
    (codes "<div class=\"wide\" role=\"region\" tabindex=\"0\" aria-label=\"Holdings\">\n<table>\n<capti"
    ∷ codes "on>What accounts hold, lot by lot</caption>\n<thead>\n<tr><th scope=\"col\">Commodity</th><t"
    ∷ codes "h class=\"n\" scope=\"col\">Units</th><th scope=\"col\">Acquired</th><th scope=\"col\">Label"
    ∷ codes "</th><th class=\"n\" scope=\"col\">Unit cost</th><th class=\"n\" scope=\"col\">Cost</th><th "
    ∷ codes "class=\"n\" scope=\"col\">Price</th><th class=\"n\" scope=\"col\">Value</th><th class=\"n\" "
    ∷ codes "scope=\"col\">Unrealised gain</th><th scope=\"col\">Currency</th><th class=\"n\" scope=\"col"
    ∷ codes "\">Share</th></tr>\n</thead>\n" ∷ [])

-- what is said of shares
abbrev pub shares_note : List ℕ
shares_note =
    all_of
    (codes "<p class=\"note\">A share is of the values of all lots in the currency, whatever their signs"
    ∷ codes ", rounded down to a tenth of a percent.</p>\n" ∷ [])

-- a text, and a day behind it
abbrev pub day_behind : List ℕ → ℤ → List ℕ
day_behind before day = before ++ escaped (day_text day)

abbrev pub of_day : Option ℤ → List ℕ
of_day None = []
of_day (Some day) = day_behind (codes " of ") day

abbrev pub at_prices : Option ℤ → List ℕ
at_prices None = codes ", at the last prices"
at_prices (Some day) = day_behind (codes ", at the prices of ") day

-- at the end of which day things are held, and at which prices they are valued
abbrev pub when_html : PageOf → List ℕ
when_html page =
    all_of
    (codes "<p class=\"note\">At the end" ∷ of_day page.last ∷ at_prices (asked_prices page) ∷ codes "</p>\n" ∷ [])

-- ---- sales

-- the head of the table
abbrev pub sales_head : List ℕ
sales_head =
    all_of
    (codes "<div class=\"wide\" role=\"region\" tabindex=\"0\" aria-label=\"Sales\">\n<table>\n<caption>"
    ∷ codes "What was sold, lot by lot</caption>\n<thead>\n<tr><th scope=\"col\">Sold</th><th scope=\"col"
    ∷ codes "\">Account</th><th scope=\"col\">Commodity</th><th class=\"n\" scope=\"col\">Units</th><th s"
    ∷ codes "cope=\"col\">Acquired</th><th class=\"n\" scope=\"col\">Days</th><th scope=\"col\">Term</th>"
    ∷ codes "<th scope=\"col\">Label</th><th class=\"n\" scope=\"col\">Unit cost</th><th class=\"n\" scop"
    ∷ codes "e=\"col\">Proceeds</th><th class=\"n\" scope=\"col\">Cost</th><th class=\"n\" scope=\"col\">"
    ∷ codes "Gain</th><th scope=\"col\">Currency</th></tr>\n</thead>\n" ∷ [])

-- ---- gains

-- what stands between the currency of a table by year and its rows
abbrev pub years_head : List ℕ
years_head =
    all_of
    (codes " by year</caption>\n<thead>\n<tr><th scope=\"col\">Year</th><th class=\"n\" scope=\"col\">Lo"
    ∷ codes "ts</th><th class=\"n\" scope=\"col\">Proceeds</th><th class=\"n\" scope=\"col\">Cost</th><th"
    ∷ codes " class=\"n\" scope=\"col\">Gain</th></tr>\n</thead>\n<tbody>\n" ∷ [])

-- the head of the table by commodity
abbrev pub commodities_head : List ℕ
commodities_head =
    all_of
    (codes "<div class=\"wide\" role=\"region\" tabindex=\"0\" aria-label=\"Gains by commodity\">\n<tabl"
    ∷ codes "e>\n<caption>What the sales gained, by commodity</caption>\n<thead>\n<tr><th scope=\"col\">C"
    ∷ codes "ommodity</th><th scope=\"col\">Currency</th><th class=\"n\" scope=\"col\">Lots</th><th class"
    ∷ codes "=\"n\" scope=\"col\">Proceeds</th><th class=\"n\" scope=\"col\">Cost</th><th class=\"n\" sco"
    ∷ codes "pe=\"col\">Gain</th></tr>\n</thead>\n<tbody>\n" ∷ [])

-- ---- months

-- what stands between the currency of a table of months and its rows
abbrev pub months_head : List ℕ
months_head =
    all_of
    (codes "</caption>\n<thead>\n<tr><th scope=\"col\">End of</th><th class=\"n\" scope=\"col\">Worth</t"
    ∷ codes "h><th class=\"n\" scope=\"col\">Cost</th><th class=\"n\" scope=\"col\">Unrealised gain</th><"
    ∷ codes "/tr>\n</thead>\n<tbody>\n" ∷ [])

-- what is said of plots
abbrev pub rounding_note : List ℕ
rounding_note =
    all_of
    (codes "<p class=\"note\">The last month ends on the last day of the page. A line is broken where some "
    ∷ codes "units have no price. Heights are rounded down to a thousandth of the plot.</p>\n" ∷ [])
