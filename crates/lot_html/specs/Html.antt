-- Elements of a page of HTML (docs/FORMATS.md, Page).
use Rattle.std.specs.Prelude.{◌≡◌, ℕ, List, [], ◌++◌, codes, flat_map}
use Rattle.lot_html.specs.Text.{escaped}

-- ---- tags

-- a name and a value, in quotes, behind a space
abbrev pub attribute_text : List ℕ × List ℕ → List ℕ
attribute_text pair = codes " " ++ (pair.0 ++ (codes "=\"" ++ (escaped pair.1 ++ codes "\"")))

abbrev pub attributes_text : List (List ℕ × List ℕ) → List ℕ
attributes_text pairs = flat_map attribute_text pairs

abbrev pub open_tag : List ℕ → List (List ℕ × List ℕ) → List ℕ
open_tag tag attributes = codes "<" ++ (tag ++ (attributes_text attributes ++ codes ">"))

abbrev pub close_tag : List ℕ → List ℕ
close_tag tag = codes "</" ++ (tag ++ codes ">")

-- the tag of an element that has nothing in it, and is closed by the same tag
abbrev pub alone_tag : List ℕ → List (List ℕ × List ℕ) → List ℕ
alone_tag tag attributes = codes "<" ++ (tag ++ (attributes_text attributes ++ codes "/>"))

-- the elements that may be written so: one of HTML that never has a closing tag, and shapes of SVG
pub data StandsAlone : List ℕ → Type 0 where
  meta : StandsAlone (codes "meta")
  line : StandsAlone (codes "line")
  path : StandsAlone (codes "path")
  rect : StandsAlone (codes "rect")

-- ---- elements

-- What a page says, one thing after another: a text, an element with what is in it, or one that has nothing in it and stands
-- alone, and what is behind that.
pub data Html : Type 0 where
  nothing : Html
  text : List ℕ → Html → Html
  element : List ℕ → List (List ℕ × List ℕ) → Html → Html → Html
  alone : (tag : List ℕ) → StandsAlone tag → List (List ℕ × List ℕ) → Html → Html

-- as it is written: each element that is opened is closed, behind all that is in it
abbrev pub html_text : Html → List ℕ
html_text nothing = []
html_text (text said behind) = escaped said ++ html_text behind
html_text (element tag attributes inside behind) =
    open_tag tag attributes ++ (html_text inside ++ (close_tag tag ++ html_text behind))
html_text (alone tag may attributes behind) = alone_tag tag attributes ++ html_text behind

-- a text is balanced: it is elements and text and nothing else
abbrev pub IsBalanced : List ℕ → Type 0
IsBalanced written = (html : Html) × (written ≡ html_text html)

-- an element that holds a text and nothing else
abbrev pub element_text : List ℕ → List (List ℕ × List ℕ) → List ℕ → List ℕ
element_text tag attributes said = open_tag tag attributes ++ (escaped said ++ close_tag tag)
