-- Elements and whole pictures are well-formed.
use Rattle.std.proofs.Common.{◌≡◌, ℕ, true, List, [], ◌∷◌, ◌++◌, refl, sym, subst, append_assoc}
use Rattle.std.specs.Prelude.{Option, Some, None, codes}
use Rattle.std.specs.List.{flat_map}
use Rattle.svg_text.specs.declared.drawing.Drawing.{Drawing}
use Rattle.svg_text.specs.declared.drawing.Element.{Element}
use Rattle.svg_text.specs.declared.drawing.Shape.{Shape}
use Rattle.svg_text.specs.declared.drawing.Shape.TheVariants as shape
use Rattle.svg_text.specs.declared.look.TheConstants.{LOOK, TIP}
use Rattle.svg_text.specs.Drawing.{class_text, drawing_text, element_text, escaped, measures, size_text}
use Rattle.svg_text.specs.Drawing.{tag_word, title_text, words_text}
use Rattle.svg_text.specs.WellFormed.{AreAttributes, IsContent, Nothing, IsWellFormed, element_of, is_in_value, is_name}
use Rattle.svg_text.proofs.Attributes.{element_attributes, picture_attributes}
use Rattle.svg_text.proofs.Contents.{content_append, each_content, no_attributes, one_element, one_empty, one_text}
use Rattle.svg_text.proofs.Contents.{plain_content}
use Rattle.svg_text.proofs.Texts.{escaped_in_content, plain_text}

-- Titles

-- an end tag is one piece of text
closed : (start inside c tag d : List ℕ) → start ++ inside ++ c ++ tag ++ d ≡ start ++ inside ++ (c ++ tag ++ d)
closed start inside c tag d = simp append_assoc refl

title_element : (title : List ℕ) → IsContent (codes "<title>" ++ escaped title ++ codes "</title>")
title_element title =
    subst IsContent (closed (codes "<title>") (escaped title) (codes "</") (codes "title") (codes ">"))
    (one_element (codes "title") [] (escaped title) refl no_attributes
    (one_text (escaped title) (escaped_in_content title)))

title_content : (title : Option (List ℕ)) → IsContent (title_text title)
title_content None = Nothing
title_content (Some title) = title_element title

words_content : (s : Shape) → IsContent (words_text s)
words_content (shape.Line from to) = Nothing
words_content (shape.Rectangle corner width height) = Nothing
words_content (shape.Circle middle radius) = Nothing
words_content (shape.Polygon points) = Nothing
words_content (shape.Polyline points) = Nothing
words_content (shape.Words at words) = one_text (escaped words) (escaped_in_content words)

-- Elements

tag_named : (s : Shape) → is_name (tag_word s) ≡ true
tag_named (shape.Line from to) = refl
tag_named (shape.Rectangle corner width height) = refl
tag_named (shape.Circle middle radius) = refl
tag_named (shape.Polygon points) = refl
tag_named (shape.Polyline points) = refl
tag_named (shape.Words at words) = refl

parts : (a tag class places b title words c d e : List ℕ)
    → a ++ tag ++ (class ++ places) ++ b ++ (title ++ words) ++ c ++ tag ++ d ++ e
    ≡ a ++ tag ++ class ++ places ++ b ++ (title ++ words) ++ (c ++ tag ++ d) ++ e
parts a tag class places b title words c d e = simp append_assoc refl

-- how the parts of an element come to one of XML, and the end of its line
joined : (tag class places title words : List ℕ)
    → element_of tag (class ++ places) (title ++ words) ++ codes "\n"
    ≡ codes "<" ++ tag ++ class ++ places ++ codes ">" ++ (title ++ words) ++ (codes "</" ++ tag ++ codes ">")
    ++ codes "\n"
joined tag class places title words =
    parts (codes "<") tag class places (codes ">") title words (codes "</") (codes ">") (codes "\n")

pub element_content : (e : Element) → IsContent (element_text e)
element_content e =
    subst IsContent (joined (tag_word e.shape) (class_text e.class) (measures e.shape) (title_text e.title)
    (words_text e.shape)) (content_append (element_of (tag_word e.shape) (class_text e.class ++ measures e.shape)
    (title_text e.title ++ words_text e.shape)) (codes "\n")
    (one_element (tag_word e.shape) (class_text e.class ++ measures e.shape)
    (title_text e.title ++ words_text e.shape) (tag_named e.shape) (element_attributes e.class e.shape)
    (content_append (title_text e.title) (words_text e.shape) (title_content e.title) (words_content e.shape)))
    (plain_content (codes "\n") refl))

-- The style, and the tip of arrows

tip_attributes : AreAttributes
    (codes " id=\"tip\" viewBox=\"0 0 6 6\" refX=\"5\" refY=\"3\" markerWidth=\"6\" markerHeight=\"6\" orient=\"auto\"")
tip_attributes = record {
  attributes = (codes "id", codes "tip") ∷ (codes "viewBox", codes "0 0 6 6") ∷ (codes "refX", codes "5")
      ∷ (codes "refY", codes "3") ∷ (codes "markerWidth", codes "6") ∷ (codes "markerHeight", codes "6")
      ∷ (codes "orient", codes "auto") ∷ [];
  spelled = refl;
  names = refl;
  distinct = refl;
  values = (
    plain_text is_in_value (codes "tip") refl,
    (
      plain_text is_in_value (codes "0 0 6 6") refl,
      (
        plain_text is_in_value (codes "5") refl,
        (
          plain_text is_in_value (codes "3") refl,
          (
            plain_text is_in_value (codes "6") refl,
            (
              plain_text is_in_value (codes "6") refl,
              (plain_text is_in_value (codes "auto") refl, tt),
            ),
          ),
        ),
      ),
    ),
  );
}

corner_attributes : AreAttributes (codes " points=\"0,0 6,3 0,6\"")
corner_attributes = record {
  attributes = (codes "points", codes "0,0 6,3 0,6") ∷ [];
  spelled = refl;
  names = refl;
  distinct = refl;
  values = (plain_text is_in_value (codes "0,0 6,3 0,6") refl, tt);
}

tip_content : IsContent TIP.now
tip_content =
    content_append (element_of (codes "defs") [] (element_of (codes "marker")
    (codes " id=\"tip\" viewBox=\"0 0 6 6\" refX=\"5\" refY=\"3\" markerWidth=\"6\" markerHeight=\"6\" orient=\"auto\"")
    (codes "<polygon points=\"0,0 6,3 0,6\"/>"))) (codes "\n")
    (one_element (codes "defs") [] _ refl no_attributes (one_element (codes "marker") _ _ refl tip_attributes
    (one_empty (codes "polygon") (codes " points=\"0,0 6,3 0,6\"") refl corner_attributes)))
    (plain_content (codes "\n") refl)

look_content : IsContent (codes "\n" ++ LOOK.now)
look_content = plain_content (codes "\n" ++ LOOK.now) refl

style_content : IsContent (codes "<style>\n" ++ LOOK.now ++ codes "</style>")
style_content =
    subst IsContent (closed (codes "<style>\n") LOOK.now (codes "</") (codes "style") (codes ">"))
    (one_element (codes "style") [] (codes "\n" ++ LOOK.now) refl no_attributes look_content)

-- Pictures

-- what stands in a picture with these elements
abbrev inside_of : List ℕ → List ℕ → List ℕ
inside_of title elements =
    codes "\n" ++ (codes "<title>" ++ escaped title ++ codes "</title>") ++ codes "\n"
    ++ (codes "<style>\n" ++ LOOK.now ++ codes "</style>") ++ codes "\n" ++ TIP.now ++ elements

inside_content : (title elements : List ℕ) → IsContent elements → IsContent (inside_of title elements)
inside_content title elements are =
    let feed : IsContent (codes "\n") = plain_content (codes "\n") refl in
    let named = content_append (codes "\n") (codes "<title>" ++ escaped title ++ codes "</title>") feed
    (title_element title) in
    let next = content_append _ (codes "\n") named feed in
    let styled = content_append _ (codes "<style>\n" ++ LOOK.now ++ codes "</style>") next style_content in
    let last = content_append _ (codes "\n") styled feed in
    content_append _ elements (content_append _ TIP.now last tip_content) are

pieces : (a tag space size b feed c title d e look f tip elements g : List ℕ)
    → a ++ tag ++ (space ++ size) ++ b
    ++ (feed ++ (c ++ title ++ d) ++ feed ++ (e ++ look ++ f) ++ feed ++ tip ++ elements) ++ g ++ tag ++ b ++ feed
    ≡ (a ++ tag ++ space ++ size ++ (b ++ feed)) ++ (c ++ title ++ d) ++ feed ++ (e ++ look ++ (f ++ feed) ++ tip)
    ++ elements ++ (g ++ tag ++ b ++ feed)
pieces a tag space size b feed c title d e look f tip elements g = simp append_assoc refl

pub picture_well_formed : (d : Drawing) → IsWellFormed (drawing_text d)
picture_well_formed d = record {
  name = codes "svg";
  attributes = codes " xmlns=\"http://www.w3.org/2000/svg\"" ++ size_text d.width d.height;
  inside = inside_of d.title (flat_map element_text d.elements);
  space = codes "\n";
  named = refl;
  described = picture_attributes d.width d.height;
  content = inside_content d.title (flat_map element_text d.elements)
      (each_content element_text element_content d.elements);
  blank = refl;
  spelled = sym (pieces (codes "<") (codes "svg") (codes " xmlns=\"http://www.w3.org/2000/svg\"")
      (size_text d.width d.height) (codes ">") (codes "\n") (codes "<title>") (escaped d.title) (codes "</title>")
      (codes "<style>\n") LOOK.now (codes "</style>") TIP.now (flat_map element_text d.elements) (codes "</"));
}
