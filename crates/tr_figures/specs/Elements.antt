-- Elements of a picture, and their text. Nothing else writes a bracket, a quote or an escape.
use Rattle.std.specs.Prelude.{◌≡◌, ℕ, List, [], ◌∷◌, ◌++◌, ◌==◌, if◌then◌else◌, Option, Some, None, codes, decimal, map, option_and_then}
use Rattle.std.specs.Str.{bytes_eq}
use Rattle.tr_status.specs.Texts.{texts}
use Rattle.tr_figures.specs.declared.styles.Style.{Style}
use Rattle.tr_figures.specs.Styles.{style_name}

-- Elements

-- what an attribute is: a number, a class, words, a move down by a number, the box of a picture, or the path round a rectangle
pub data Value : Type 0 where
  Number : ℕ → Value
  Class : Style → Value
  Word : List ℕ → Value
  Down : ℕ → Value
  Box : ℕ → ℕ → Value
  Outline : ℕ → ℕ → ℕ → ℕ → Value

pub record Attribute : Type 0 where
  pub name : List ℕ
  pub value : Value

-- elements, one after the other: a text in pieces, or a tag with its attributes and the elements in it
pub data Elements : Type 0 where
  none : Elements
  text : List (List ℕ) → Elements → Elements
  tag : List ℕ → List Attribute → Elements → Elements → Elements

-- one after the other
abbrev pub both : Elements → Elements → Elements
both none es = es
both (text t more) es = text t (both more es)
both (tag n attrs inside more) es = tag n attrs inside (both more es)

abbrev pub all : List Elements → Elements
all [] = none
all (x ∷ xs) = both x (all xs)

-- Their text

-- what stands for a character in a text or a quoted value
abbrev pub escape_of : ℕ → List ℕ
escape_of c =
    if c == 38 then codes "&amp;" else if c == 60 then codes "&lt;" else if c == 62 then codes "&gt;" else if c == 34 then codes "&quot;" else c ∷ []

abbrev pub escaped : List ℕ → List ℕ
escaped [] = []
escaped (c ∷ cs) = escape_of c ++ escaped cs

-- a tag that begins, a tag that ends, or characters
pub data Token : Type 0 where
  Open : List ℕ → List Attribute → Token
  Close : List ℕ → Token
  Characters : List (List ℕ) → Token

abbrev pub tokens : Elements → List Token
tokens none = []
tokens (text t more) = Characters t ∷ tokens more
tokens (tag n attrs inside more) = Open n attrs ∷ (tokens inside ++ Close n ∷ tokens more)

abbrev pub value_pieces : Value → List (List ℕ)
value_pieces (Number n) = decimal n ∷ []
value_pieces (Class s) = style_name s ∷ []
value_pieces (Word w) = escaped w ∷ []
value_pieces (Down n) = codes "translate(0 " ∷ decimal n ∷ codes ")" ∷ []
value_pieces (Box w h) = codes "0 0 " ∷ decimal w ∷ codes " " ∷ decimal h ∷ []
value_pieces (Outline x y w h) = codes "M" ∷ decimal x ∷ codes " " ∷ decimal y ∷ codes "h" ∷ decimal w ∷ codes "v" ∷ decimal h ∷ codes "H" ∷ decimal x ∷ codes "z" ∷ []

abbrev pub attribute_pieces : List Attribute → List (List ℕ)
attribute_pieces [] = []
attribute_pieces (a ∷ attrs) = codes " " ∷ a.name ∷ codes "=\"" ∷ (value_pieces a.value ++ codes "\"" ∷ attribute_pieces attrs)

abbrev pub token_pieces : Token → List (List ℕ)
token_pieces (Open n attrs) = codes "<" ∷ n ∷ (attribute_pieces attrs ++ codes ">" ∷ [])
token_pieces (Close n) = codes "</" ∷ n ∷ codes ">\n" ∷ []
token_pieces (Characters t) = map escaped t

abbrev pub pieces : List Token → List (List ℕ)
pieces [] = []
pieces (t ∷ ts) = token_pieces t ++ pieces ts

-- the text of elements
abbrev pub printed : Elements → List ℕ
printed es = texts (pieces (tokens es))

-- Balance

-- the names of the tags that are open, the last one first; none where a tag was closed that isn't the last one open
abbrev pub after_close : List ℕ → List (List ℕ) → Option (List (List ℕ))
after_close n [] = None
after_close n (open_name ∷ names) = if bytes_eq n open_name then Some names else None

abbrev pub after_token : Token → List (List ℕ) → Option (List (List ℕ))
after_token (Open n attrs) names = Some (n ∷ names)
after_token (Close n) names = after_close n names
after_token (Characters t) names = Some names

-- what a reader of these tags has open, that had these open before
abbrev pub reads : List Token → Option (List (List ℕ)) → Option (List (List ℕ))
reads [] open_names = open_names
reads (t ∷ ts) open_names = reads ts (option_and_then (after_token t) open_names)

-- whatever elements are read, each tag in them is closed where it was opened, and no other is closed
abbrev pub AreBalanced : Type 0
AreBalanced = (es : Elements) (names : List (List ℕ)) → reads (tokens es) (Some names) ≡ Some names

-- Shapes

abbrev pub number_at : List ℕ → ℕ → Attribute
number_at name n = record { name = name; value = Number n }

abbrev pub class_at : Style → Attribute
class_at s = record { name = codes "class"; value = Class s }

abbrev pub rect : Style → ℕ → ℕ → ℕ → ℕ → Elements
rect s x y w h = tag (codes "path") (class_at s ∷ record { name = codes "d"; value = Outline x y w h } ∷ []) none none

abbrev pub line : Style → ℕ → ℕ → ℕ → ℕ → Elements
line s x y x_end y_end = tag (codes "line") (class_at s ∷ number_at (codes "x1") x ∷ number_at (codes "y1") y ∷ number_at (codes "x2") x_end ∷ number_at (codes "y2") y_end ∷ []) none none

-- what comes before the words at a place
abbrev pub words_begin : Style → ℕ → ℕ → List (List ℕ)
words_begin s x y = token_pieces (Open (codes "text") (class_at s ∷ number_at (codes "x") x ∷ number_at (codes "y") y ∷ []))

-- words at a place
abbrev pub words : Style → ℕ → ℕ → List (List ℕ) → Elements
words s x y t = tag (codes "text") (class_at s ∷ number_at (codes "x") x ∷ number_at (codes "y") y ∷ []) (text t none) none

-- a cross at the event line of its row
abbrev pub cross : Style → ℕ → Elements
cross s x = words s x 14 (codes "x" ∷ [])
