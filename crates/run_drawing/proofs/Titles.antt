-- What is shown of the marks of a class, piece by piece.
use Rattle.std.proofs.Common.{◌≡◌, ℕ, Bool, true, false, List, [], ◌∷◌, ◌++◌, refl, ap, ◌∙◌}
use Rattle.std.specs.Prelude.{Option, if◌then◌else◌, filter, map}
use Rattle.svg_text.specs.declared.class.Class.{Class}
use Rattle.svg_text.specs.declared.drawing.Element.{Element}
use Rattle.run_drawing.specs.Promises.{titles_where}

pub titles_append : (is : Class → Bool) (xs ys : List Element)
    → titles_where is (xs ++ ys) ≡ titles_where is xs ++ titles_where is ys
titles_append is [] ys = refl
titles_append is (x ∷ xs) ys = by (is x.class) (titles_append is xs ys)
  where
    by : (b : Bool) → titles_where is (xs ++ ys) ≡ titles_where is xs ++ titles_where is ys
        → map (λ (e : Element). e.title) (if b then x ∷ filter (λ (e : Element). is e.class) (xs ++ ys)
        else filter (λ (e : Element). is e.class) (xs ++ ys))
        ≡ map (λ (e : Element). e.title) (if b then x ∷ filter (λ (e : Element). is e.class) xs
        else filter (λ (e : Element). is e.class) xs) ++ titles_where is ys
    by true h = ap (λ (l : List (Option (List ℕ))). x.title ∷ l) h
    by false h = h

-- three pieces, of which only the first or the last shows something
pub first_shown : (is : Class → Bool) (a b c : List Element) (t : List (Option (List ℕ)))
    → titles_where is a ≡ t → titles_where is b ≡ [] → titles_where is c ≡ [] → titles_where is (a ++ b ++ c) ≡ t ++ []
first_shown is a b c t one two three =
    titles_append is (a ++ b) c
    ∙ (ap (λ l. titles_where is (a ++ b) ++ l) three
    ∙ ap (λ l. l ++ []) (titles_append is a b ∙ (ap (λ l. titles_where is a ++ l) two ∙ ap (λ l. l ++ []) one) ∙ nil t))
  where
    nil : (l : List (Option (List ℕ))) → l ++ [] ≡ l
    nil [] = refl
    nil (x ∷ l) = ap (λ r. x ∷ r) (nil l)

pub last_shown : (is : Class → Bool) (a b c : List Element) (t : List (Option (List ℕ)))
    → titles_where is a ≡ [] → titles_where is b ≡ [] → titles_where is c ≡ t → titles_where is (a ++ b ++ c) ≡ t
last_shown is a b c t one two three =
    titles_append is (a ++ b) c
    ∙ (ap (λ l. titles_where is (a ++ b) ++ l) three
    ∙ ap (λ l. l ++ t) (titles_append is a b ∙ (ap (λ l. titles_where is a ++ l) two ∙ ap (λ l. l ++ []) one)))
