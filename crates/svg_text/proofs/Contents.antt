-- Content behind content, and an element by itself.
use Rattle.std.proofs.Common.{◌≡◌, ℕ, true, List, [], ◌∷◌, ◌++◌, refl, sym, subst, append_assoc, append-nil}
use Rattle.std.specs.List.{flat_map, list_all}
use Rattle.svg_text.specs.WellFormed.{AreAttributes, IsContent, Nothing, Text, Element, Empty, IsText, element_of}
use Rattle.svg_text.specs.WellFormed.{empty_of, is_in_content, is_name}
use Rattle.svg_text.proofs.Texts.{plain_text}

pub content_append : (xs ys : List ℕ) → IsContent xs → IsContent ys → IsContent (xs ++ ys)
content_append xs ys Nothing c = c
content_append xs ys (Text text rest is more) c =
    subst IsContent (sym (append_assoc text rest ys)) (Text text (rest ++ ys) is (content_append rest ys more c))
content_append xs ys (Element name attributes inside rest named are has more) c =
    subst IsContent (sym (append_assoc (element_of name attributes inside) rest ys))
    (Element name attributes inside (rest ++ ys) named are has (content_append rest ys more c))
content_append xs ys (Empty name attributes rest named are more) c =
    subst IsContent (sym (append_assoc (empty_of name attributes) rest ys))
    (Empty name attributes (rest ++ ys) named are (content_append rest ys more c))

pub one_text : (text : List ℕ) → IsText is_in_content text → IsContent text
one_text text is = subst IsContent (append-nil text) (Text text [] is Nothing)

pub plain_content : (text : List ℕ) → list_all is_in_content text ≡ true → IsContent text
plain_content text all = one_text text (plain_text is_in_content text all)

pub one_element : (name attributes inside : List ℕ) → is_name name ≡ true → AreAttributes attributes → IsContent inside
    → IsContent (element_of name attributes inside)
one_element name attributes inside named are has =
    subst IsContent (append-nil (element_of name attributes inside))
    (Element name attributes inside [] named are has Nothing)

pub one_empty : (name attributes : List ℕ) → is_name name ≡ true → AreAttributes attributes
    → IsContent (empty_of name attributes)
one_empty name attributes named are =
    subst IsContent (append-nil (empty_of name attributes)) (Empty name attributes [] named are Nothing)

pub each_content : {A : Type 0} (text : A → List ℕ) → ((x : A) → IsContent (text x)) → (xs : List A)
    → IsContent (flat_map text xs)
each_content text one [] = Nothing
each_content text one (x ∷ xs) = content_append (text x) (flat_map text xs) (one x) (each_content text one xs)

pub no_attributes : AreAttributes []
no_attributes = record { attributes = []; spelled = refl; names = refl; distinct = refl; values = tt }
