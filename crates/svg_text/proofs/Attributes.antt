-- The attributes of elements are attributes of XML.
use Rattle.std.proofs.Common.{◌≡◌, ℕ, true, List, [], ◌∷◌, ◌++◌, refl, sym, ap, ◌∙◌, append_assoc, append-nil}
use Rattle.std.specs.Prelude.{codes, decimal}
use Rattle.std.specs.List.{flat_map, list_all}
use Rattle.svg_text.specs.declared.class.Class.{Class}
use Rattle.svg_text.specs.declared.class.Class.TheVariants as class
use Rattle.svg_text.specs.declared.drawing.Point.{Point}
use Rattle.svg_text.specs.declared.drawing.Shape.{Shape}
use Rattle.svg_text.specs.declared.drawing.Shape.TheVariants as shape
use Rattle.svg_text.specs.Drawing.{attribute, class_text, class_word, field_text, measures}
use Rattle.svg_text.specs.Drawing.{point_text, points_text, size_text}
use Rattle.svg_text.specs.WellFormed.{AreAttributes, IsText, End, is_in_value}
use Rattle.svg_text.proofs.Texts.{decimal_in_value, plain_text, text_append}

-- Values

pub word_in_value : (c : Class) → list_all is_in_value (class_word c) ≡ true
word_in_value class.Paper = refl
word_in_value class.Heading = refl
word_in_value class.Label = refl
word_in_value class.Note = refl
word_in_value class.Lane = refl
word_in_value class.Band = refl
word_in_value class.OtherBand = refl
word_in_value class.Take = refl
word_in_value class.Touch = refl
word_in_value class.Read = refl
word_in_value class.Clock = refl
word_in_value class.Draw = refl
word_in_value class.Send = refl
word_in_value class.End = refl
word_in_value class.Again = refl
word_in_value class.Lost = refl
word_in_value class.Arrow = refl
word_in_value class.Entry = refl
word_in_value class.Waiting = refl
word_in_value class.Released = refl
word_in_value class.Snap = refl
word_in_value class.Store = refl
word_in_value class.Crash = refl
word_in_value class.Recover = refl
word_in_value class.Fed = refl
word_in_value class.Left = refl
word_in_value class.Held = refl
word_in_value class.Bar = refl

class_in_value : (c : Class) → IsText is_in_value (class_word c)
class_in_value c = plain_text is_in_value (class_word c) (word_in_value c)

point_in_value : (p : Point) → IsText is_in_value (point_text p)
point_in_value p =
    text_append is_in_value (decimal p.x ++ codes "," ++ decimal p.y) (codes " ")
    (text_append is_in_value (decimal p.x ++ codes ",") (decimal p.y)
    (text_append is_in_value (decimal p.x) (codes ",") (decimal_in_value p.x) (plain_text is_in_value (codes ",") refl))
    (decimal_in_value p.y)) (plain_text is_in_value (codes " ") refl)

points_in_value : (points : List Point) → IsText is_in_value (flat_map point_text points)
points_in_value [] = End
points_in_value (p ∷ points) =
    text_append is_in_value (point_text p) (flat_map point_text points) (point_in_value p) (points_in_value points)

-- Lists behind one another

three : (a b c : List ℕ) → a ++ b ++ c ≡ a ++ (b ++ (c ++ []))
three a b c = append_assoc a b c ∙ ap (λ l. a ++ (b ++ l)) (sym (append-nil c))

four : (a b c d : List ℕ) → a ++ (b ++ c ++ d) ≡ a ++ (b ++ (c ++ (d ++ [])))
four a b c d = ap (λ l. a ++ l) (three b c d)

five : (a b c d e : List ℕ) → a ++ (b ++ c ++ d ++ e) ≡ a ++ (b ++ (c ++ (d ++ (e ++ []))))
five a b c d e = ap (λ l. a ++ l)
    (append_assoc (b ++ c) d e ∙ append_assoc b c (d ++ e) ∙ ap (λ l. b ++ (c ++ (d ++ l))) (sym (append-nil e)))

-- The attributes of an element

through : (c : Class) (points : List Point) → AreAttributes (class_text c ++ points_text points)
through c points = record {
  attributes = (codes "class", class_word c) ∷ (codes "points", flat_map point_text points) ∷ [];
  spelled = ap (λ l. class_text c ++ l) (sym (append-nil (points_text points)));
  names = refl;
  distinct = refl;
  values = (class_in_value c, (points_in_value points, tt));
}

pub element_attributes : (c : Class) (s : Shape) → AreAttributes (class_text c ++ measures s)
element_attributes c (shape.Line from to) = record {
  attributes = (codes "class", class_word c) ∷ (codes "x1", decimal from.x) ∷ (codes "y1", decimal from.y)
      ∷ (codes "x2", decimal to.x) ∷ (codes "y2", decimal to.y) ∷ [];
  spelled = five (class_text c) (attribute (codes "x1") from.x) (attribute (codes "y1") from.y)
      (attribute (codes "x2") to.x) (attribute (codes "y2") to.y);
  names = refl;
  distinct = refl;
  values = (
    class_in_value c,
    (decimal_in_value from.x, (decimal_in_value from.y, (decimal_in_value to.x, (decimal_in_value to.y, tt)))),
  );
}
element_attributes c (shape.Rectangle corner width height) = record {
  attributes = (codes "class", class_word c) ∷ (codes "x", decimal corner.x) ∷ (codes "y", decimal corner.y)
      ∷ (codes "width", decimal width) ∷ (codes "height", decimal height) ∷ [];
  spelled = five (class_text c) (attribute (codes "x") corner.x) (attribute (codes "y") corner.y)
      (attribute (codes "width") width) (attribute (codes "height") height);
  names = refl;
  distinct = refl;
  values = (
    class_in_value c,
    (decimal_in_value corner.x, (decimal_in_value corner.y, (decimal_in_value width, (decimal_in_value height, tt)))),
  );
}
element_attributes c (shape.Circle middle radius) = record {
  attributes = (codes "class", class_word c) ∷ (codes "cx", decimal middle.x) ∷ (codes "cy", decimal middle.y)
      ∷ (codes "r", decimal radius) ∷ [];
  spelled = four (class_text c) (attribute (codes "cx") middle.x) (attribute (codes "cy") middle.y)
      (attribute (codes "r") radius);
  names = refl;
  distinct = refl;
  values = (class_in_value c, (decimal_in_value middle.x, (decimal_in_value middle.y, (decimal_in_value radius, tt))));
}
element_attributes c (shape.Polygon points) = through c points
element_attributes c (shape.Polyline points) = through c points
element_attributes c (shape.Words at words) = record {
  attributes = (codes "class", class_word c) ∷ (codes "x", decimal at.x) ∷ (codes "y", decimal at.y) ∷ [];
  spelled = ap (λ l. class_text c ++ (attribute (codes "x") at.x ++ l)) (sym (append-nil (attribute (codes "y") at.y)));
  names = refl;
  distinct = refl;
  values = (class_in_value c, (decimal_in_value at.x, (decimal_in_value at.y, tt)));
}

-- The attributes of a picture

field_in_value : (width height : ℕ)
    → IsText is_in_value (codes "0 0 " ++ (decimal width ++ codes " " ++ decimal height))
field_in_value width height =
    text_append is_in_value (codes "0 0 ") (decimal width ++ codes " " ++ decimal height)
    (plain_text is_in_value (codes "0 0 ") refl)
    (text_append is_in_value (decimal width ++ codes " ") (decimal height)
    (text_append is_in_value (decimal width) (codes " ") (decimal_in_value width)
    (plain_text is_in_value (codes " ") refl)) (decimal_in_value height))

pub picture_attributes : (width height : ℕ)
    → AreAttributes (codes " xmlns=\"http://www.w3.org/2000/svg\"" ++ size_text width height)
picture_attributes width height = record {
  attributes = (codes "xmlns", codes "http://www.w3.org/2000/svg")
      ∷ (codes "viewBox", codes "0 0 " ++ (decimal width ++ codes " " ++ decimal height))
      ∷ (codes "width", decimal width) ∷ (codes "height", decimal height) ∷ [];
  spelled = four (codes " xmlns=\"http://www.w3.org/2000/svg\"") (field_text width height)
      (attribute (codes "width") width) (attribute (codes "height") height);
  names = refl;
  distinct = refl;
  values = (
    plain_text is_in_value (codes "http://www.w3.org/2000/svg") refl,
    (
      field_in_value width height,
      (decimal_in_value width, (decimal_in_value height, tt)),
    ),
  );
}
