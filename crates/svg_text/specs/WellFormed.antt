-- Which texts are well-formed, by a part of the grammar of XML 1.0: its documents of one element, in ASCII, with no
-- comments, sections of characters or instructions. Each text of it is one of XML.
use Rattle.std.specs.Prelude.{◌≡◌, ℕ, ◌==◌, ◌||◌, ◌&&◌, nat_le, Bool, true, false, not, List, [], ◌∷◌, ◌++◌, codes}
use Rattle.std.specs.Prelude.{map}
use Rattle.std.specs.List.{AllByRecursion, flat_map, list_all, list_any}
use Rattle.std.specs.Str.{bytes_eq}

-- Characters

-- a tab, a line feed, and the characters of ASCII from the blank on
abbrev pub is_character : ℕ → Bool
is_character b = b == 9 || b == 10 || (nat_le 32 b && nat_le b 126)

-- stands for itself between tags: neither `<` nor `&`; nor `>`, which XML allows behind some characters alone
abbrev pub is_in_content : ℕ → Bool
is_in_content b = is_character b && not (b == 60 || b == 62 || b == 38)

-- stands for itself in an attribute: neither `<` nor `&` nor the quote
abbrev pub is_in_value : ℕ → Bool
is_in_value b = is_character b && not (b == 60 || b == 38 || b == 34)

-- the references that every reader of XML knows
abbrev pub is_reference : List ℕ → Bool
is_reference word =
    list_any (bytes_eq word)
    (codes "&amp;" ∷ codes "&lt;" ∷ codes "&gt;" ∷ codes "&quot;" ∷ codes "&apos;" ∷ [])

-- characters that stand for themselves, and references
pub data IsText (itself : ℕ → Bool) : List ℕ → Type 0 where
  End : IsText itself []
  Character : (b : ℕ) (rest : List ℕ) → itself b ≡ true → IsText itself rest → IsText itself (b ∷ rest)
  Reference : (word rest : List ℕ) → is_reference word ≡ true → IsText itself rest → IsText itself (word ++ rest)

-- Names

abbrev pub is_letter : ℕ → Bool
is_letter b = (nat_le 65 b && nat_le b 90) || (nat_le 97 b && nat_le b 122)

-- a letter, a digit or a dash
abbrev pub is_in_name : ℕ → Bool
is_in_name b = is_letter b || (nat_le 48 b && nat_le b 57) || b == 45

-- begins with a letter
abbrev pub is_name : List ℕ → Bool
is_name [] = false
is_name (first ∷ rest) = is_letter first && list_all is_in_name rest

abbrev pub are_distinct : List (List ℕ) → Bool
are_distinct [] = true
are_distinct (name ∷ names) = not (list_any (bytes_eq name) names) && are_distinct names

-- Attributes

-- a name, and a value in quotes, behind a blank
abbrev pub attribute_of : List ℕ × List ℕ → List ℕ
attribute_of a = codes " " ++ a.0 ++ codes "=\"" ++ a.1 ++ codes "\""

-- each has a name of its own, and a value that is text
pub record AreAttributes (text : List ℕ) : Type 0 where
  pub attributes : List (List ℕ × List ℕ)
  pub spelled : text ≡ flat_map attribute_of attributes
  pub names : list_all is_name (map (λ a. a.0) attributes) ≡ true
  pub distinct : are_distinct (map (λ a. a.0) attributes) ≡ true
  pub values : AllByRecursion (λ a. IsText is_in_value a.1) attributes

-- Elements

-- with an end tag of the same name
abbrev pub element_of : List ℕ → List ℕ → List ℕ → List ℕ
element_of name attributes inside =
    codes "<" ++ name ++ attributes ++ codes ">" ++ inside ++ codes "</" ++ name ++ codes ">"

-- with nothing inside
abbrev pub empty_of : List ℕ → List ℕ → List ℕ
empty_of name attributes = codes "<" ++ name ++ attributes ++ codes "/>"

-- what stands between a start tag and its end tag: text and elements, in any order
pub data IsContent : List ℕ → Type 0 where
  Nothing : IsContent []
  Text : (text rest : List ℕ) → IsText is_in_content text → IsContent rest → IsContent (text ++ rest)
  Element : (name attributes inside rest : List ℕ) → is_name name ≡ true → AreAttributes attributes
      → IsContent inside → IsContent rest → IsContent (element_of name attributes inside ++ rest)
  Empty : (name attributes rest : List ℕ) → is_name name ≡ true → AreAttributes attributes
      → IsContent rest → IsContent (empty_of name attributes ++ rest)

-- a document: one element, and white space behind it
pub record IsWellFormed (text : List ℕ) : Type 0 where
  pub name : List ℕ
  pub attributes : List ℕ
  pub inside : List ℕ
  pub space : List ℕ
  pub named : is_name name ≡ true
  pub described : AreAttributes attributes
  pub content : IsContent inside
  pub blank : list_all (λ b. b == 9 || b == 10 || b == 32) space ≡ true
  pub spelled : text ≡ element_of name attributes inside ++ space
