-- The text of a picture, in SVG.
use Rattle.std.specs.Prelude.{ℕ, ◌==◌, ◌||◌, ◌&&◌, nat_le, nat_lt, Bool, if◌then◌else◌, List, [], ◌∷◌, ◌++◌}
use Rattle.std.specs.Prelude.{Option, Some, None, codes, decimal}
use Rattle.std.specs.List.{flat_map}
use Rattle.svg_text.specs.declared.class.Class.{Class}
use Rattle.svg_text.specs.declared.class.Class.TheVariants as class
use Rattle.svg_text.specs.declared.drawing.Drawing.{Drawing}
use Rattle.svg_text.specs.declared.drawing.Element.{Element}
use Rattle.svg_text.specs.declared.drawing.Point.{Point}
use Rattle.svg_text.specs.declared.drawing.Shape.{Shape}
use Rattle.svg_text.specs.declared.drawing.Shape.TheVariants as shape
use Rattle.svg_text.specs.declared.look.TheConstants.{LOOK, TIP}

-- Texts. The marks of XML are written as references, and each other character of ASCII that is seen as itself, with the
-- blank, the tab and the line feed. A question mark stands for any other byte: XML has no control characters, by
-- references neither, and which character a byte from 127 on belongs to is not known.

abbrev pub is_shown : ℕ → Bool
is_shown b = b == 9 || b == 10 || (nat_le 32 b && nat_le b 126)

abbrev pub shown_byte : ℕ → List ℕ
shown_byte b =
    if b == 38 then codes "&amp;"
    else if b == 60 then codes "&lt;"
    else if b == 62 then codes "&gt;"
    else if b == 34 then codes "&quot;"
    else if is_shown b then b ∷ []
    else codes "?"

abbrev pub escaped : List ℕ → List ℕ
escaped text = flat_map shown_byte text

-- Attributes

-- one with a number
abbrev pub attribute : List ℕ → ℕ → List ℕ
attribute name n = codes " " ++ name ++ codes "=\"" ++ decimal n ++ codes "\""

abbrev pub place_text : Point → List ℕ
place_text p = attribute (codes "x") p.x ++ attribute (codes "y") p.y

abbrev pub line_text : Point → Point → List ℕ
line_text p q =
    attribute (codes "x1") p.x ++ attribute (codes "y1") p.y ++ attribute (codes "x2") q.x ++ attribute (codes "y2") q.y

abbrev pub rectangle_text : Point → ℕ → ℕ → List ℕ
rectangle_text p width height = place_text p ++ attribute (codes "width") width ++ attribute (codes "height") height

abbrev pub circle_text : Point → ℕ → List ℕ
circle_text p radius = attribute (codes "cx") p.x ++ attribute (codes "cy") p.y ++ attribute (codes "r") radius

abbrev pub point_text : Point → List ℕ
point_text p = decimal p.x ++ codes "," ++ decimal p.y ++ codes " "

abbrev pub points_text : List Point → List ℕ
points_text points = codes " points=\"" ++ flat_map point_text points ++ codes "\""

-- those of a shape
abbrev pub measures : Shape → List ℕ
measures (shape.Line from to) = line_text from to
measures (shape.Rectangle corner width height) = rectangle_text corner width height
measures (shape.Circle middle radius) = circle_text middle radius
measures (shape.Polygon points) = points_text points
measures (shape.Polyline points) = points_text points
measures (shape.Words at words) = place_text at

abbrev pub class_word : Class → List ℕ
class_word class.Paper = codes "paper"
class_word class.Heading = codes "heading"
class_word class.Label = codes "label"
class_word class.Note = codes "note"
class_word class.Lane = codes "lane"
class_word class.Band = codes "band"
class_word class.OtherBand = codes "other-band"
class_word class.Take = codes "take"
class_word class.Touch = codes "touch"
class_word class.Read = codes "read"
class_word class.Clock = codes "clock"
class_word class.Draw = codes "draw"
class_word class.Send = codes "send"
class_word class.End = codes "end"
class_word class.Again = codes "again"
class_word class.Lost = codes "lost"
class_word class.Arrow = codes "arrow"
class_word class.Entry = codes "entry"
class_word class.Waiting = codes "waiting"
class_word class.Released = codes "released"
class_word class.Snap = codes "snap"
class_word class.Store = codes "store"
class_word class.Crash = codes "crash"
class_word class.Recover = codes "recover"
class_word class.Fed = codes "fed"
class_word class.Left = codes "left"
class_word class.Held = codes "held"
class_word class.Bar = codes "bar"

abbrev pub class_text : Class → List ℕ
class_text c = codes " class=\"" ++ class_word c ++ codes "\""

-- Elements

abbrev pub tag_word : Shape → List ℕ
tag_word (shape.Line from to) = codes "line"
tag_word (shape.Rectangle corner width height) = codes "rect"
tag_word (shape.Circle middle radius) = codes "circle"
tag_word (shape.Polygon points) = codes "polygon"
tag_word (shape.Polyline points) = codes "polyline"
tag_word (shape.Words at words) = codes "text"

-- a title, which is the hover text of an element
abbrev pub titled : List ℕ → List ℕ
titled title = codes "<title>" ++ escaped title ++ codes "</title>"

abbrev pub title_text : Option (List ℕ) → List ℕ
title_text None = []
title_text (Some title) = titled title

abbrev pub words_text : Shape → List ℕ
words_text (shape.Words at words) = escaped words
words_text _ = []

abbrev pub start_tag : Element → List ℕ
start_tag e = codes "<" ++ tag_word e.shape ++ class_text e.class ++ measures e.shape ++ codes ">"

abbrev pub inside_text : Element → List ℕ
inside_text e = title_text e.title ++ words_text e.shape

abbrev pub end_tag : Element → List ℕ
end_tag e = codes "</" ++ tag_word e.shape ++ codes ">"

-- on a line of its own
abbrev pub element_text : Element → List ℕ
element_text e = start_tag e ++ inside_text e ++ end_tag e ++ codes "\n"

-- The picture

-- the field that the places are in
abbrev pub field_text : ℕ → ℕ → List ℕ
field_text width height = codes " viewBox=\"0 0 " ++ (decimal width ++ codes " " ++ decimal height) ++ codes "\""

-- and how large it is shown
abbrev pub size_text : ℕ → ℕ → List ℕ
size_text width height =
    field_text width height ++ attribute (codes "width") width ++ attribute (codes "height") height

abbrev pub opening_tag : ℕ → ℕ → List ℕ
opening_tag width height =
    codes "<svg" ++ codes " xmlns=\"http://www.w3.org/2000/svg\"" ++ size_text width height ++ codes ">\n"

-- how elements look
abbrev pub look_text : List ℕ
look_text = codes "<style>\n" ++ LOOK.now ++ codes "</style>\n" ++ TIP.now

abbrev pub start_text : ℕ → ℕ → List ℕ → List ℕ
start_text width height title = opening_tag width height ++ titled title ++ codes "\n" ++ look_text

abbrev pub end_text : List ℕ
end_text = codes "</svg>\n"

abbrev pub drawing_text : Drawing → List ℕ
drawing_text d = start_text d.width d.height d.title ++ flat_map element_text d.elements ++ end_text
