-- What a line says by a table of rows, and its first fault: one of the two, and one alone.
use Rattle.std.proofs.Common.{◌≡◌, ℕ, List, [], ◌∷◌, refl, sym, ap, ◌∙◌, subst, Option, Some, None, true, false, Bool}
use Rattle.std.proofs.Common.{cond}
use Rattle.plain_text.specs.declared.fault.LineCause.{LineCause}
use Rattle.plain_text.specs.declared.fault.LineCause.TheVariants.{OutOfRange}
use Rattle.plain_text.specs.Grammar.{Place, Row, value_at, values_in, misfit, is_within, row_named, PlacesSay, LineSays}
use Rattle.plain_text.specs.Grammar.{form_at, form_fault, range_at, range_fault, fit_fault, numbers_fault, row_fault}
use Rattle.plain_text.specs.Grammar.{or_else, line_fault}

-- words that say something at these places have no fault
says_form : (places : List Place) (words : List (List ℕ)) (values : List ℕ) → PlacesSay places words values
    → form_fault places words ≡ None
says_form [] [] [] s = refl
says_form [] [] (n ∷ values) s = absurd s
says_form [] (word ∷ words) values s = absurd s
says_form (place ∷ places) [] values s = absurd s
says_form (place ∷ places) (word ∷ words) [] s = absurd s
says_form (place ∷ places) (word ∷ words) (n ∷ values) s = rw (s.0) (says_form places words values s.2)

says_range : (places : List Place) (words : List (List ℕ)) (values : List ℕ) → PlacesSay places words values
    → range_fault places words ≡ None
says_range [] [] [] s = refl
says_range [] [] (n ∷ values) s = absurd s
says_range [] (word ∷ words) values s = absurd s
says_range (place ∷ places) [] values s = absurd s
says_range (place ∷ places) (word ∷ words) [] s = absurd s
says_range (place ∷ places) (word ∷ words) (n ∷ values) s = rw (s.0, s.1) (says_range places words values s.2)

-- they are the values at these places
pub says_values : (places : List Place) (words : List (List ℕ)) (values : List ℕ) → PlacesSay places words values
    → values_in places words ≡ values
says_values [] [] [] s = refl
says_values [] [] (n ∷ values) s = absurd s
says_values [] (word ∷ words) values s = absurd s
says_values (place ∷ places) [] values s = absurd s
says_values (place ∷ places) (word ∷ words) [] s = absurd s
says_values (place ∷ places) (word ∷ words) (n ∷ values) s =
    rw (s.0) (ap (λ (ns : List ℕ). n ∷ ns) (says_values places words values s.2))

pub says_no_fault_at : (places : List Place) (words : List (List ℕ)) (values : List ℕ) → PlacesSay places words values
    → or_else (form_fault places words) (range_fault places words) ≡ None
says_no_fault_at places words values s = rw (says_form places words values s) (says_range places words values s)

-- a line that says something has no fault
pub says_no_fault : (rows : List Row) (words : List (List ℕ)) (row : Row) (values : List ℕ)
    → LineSays rows words row values → line_fault rows words ≡ None
says_no_fault rows [] row values s = absurd s
says_no_fault rows (word ∷ words) row values s =
    let fit : fit_fault row words ≡ None =
    ap (λ (ns : List ℕ). cond (row.fits ns) None (Some OutOfRange)) (says_values row.places words values s.1)
    ∙ ap (λ (b : Bool). cond b None (Some OutOfRange)) s.2 in
    rw (s.0, says_form row.places words values s.1, says_range row.places words values s.1) fit

-- words without a fault say something
pub places_say : (places : List Place) (words : List (List ℕ)) → form_fault places words ≡ None
    → range_fault places words ≡ None → (values : List ℕ) × PlacesSay places words values
places_say [] [] f r = ([], tt)
places_say [] (word ∷ words) f r = absurd (cc)
places_say (place ∷ places) [] f r = absurd (cc)
places_say (place ∷ places) (word ∷ words) f r = by_value (value_at place word) refl (places_say places words)
  where
    More : Type 0
    More =
        form_fault places words ≡ None → range_fault places words ≡ None
        → (values : List ℕ) × PlacesSay places words values

    after : (n : ℕ) → value_at place word ≡ Some n → range_at place (Some n) (range_fault places words) ≡ None
    after n v = subst (λ (o : Option ℕ). range_at place o (range_fault places words) ≡ None) v r

    by_range : (n : ℕ) (b : Bool) → value_at place word ≡ Some n → is_within place n ≡ b → More
        → (values : List ℕ) × PlacesSay (place ∷ places) (word ∷ words) values
    by_range n false v b more =
        let bad : Some OutOfRange ≡ None =
        subst (λ (t : Bool). cond t (range_fault places words) (Some OutOfRange) ≡ None) b (after n v) in
        absurd (cc)
    by_range n true v b more =
        let f2 : form_fault places words ≡ None =
        subst (λ (o : Option ℕ). form_at place o (form_fault places words) ≡ None) v f in
        let r2 : range_fault places words ≡ None =
        subst (λ (t : Bool). cond t (range_fault places words) (Some OutOfRange) ≡ None) b (after n v) in
        let said = more f2 r2 in
        (n ∷ said.0, (v, b, said.1))

    by_value : (v : Option ℕ) → value_at place word ≡ v → More
        → (values : List ℕ) × PlacesSay (place ∷ places) (word ∷ words) values
    by_value None v more =
        let bad : Some (misfit place) ≡ None =
        subst (λ (o : Option ℕ). form_at place o (form_fault places words) ≡ None) v f in
        absurd (cc)
    by_value (Some n) v more = by_range n (is_within place n) v refl more

pub or_none : (a b : Option LineCause) → or_else a b ≡ None → (a ≡ None) × (b ≡ None)
or_none None b e = (refl, e)
or_none (Some cause) b e = absurd (cc)

-- words without a fault at a row say something, which fits
pub row_says : (row : Row) (words : List (List ℕ)) → row_fault (Some row) words ≡ None
    → (values : List ℕ) × PlacesSay row.places words values × (row.fits values ≡ true)
row_says row words f =
    let form = or_none (form_fault row.places words) (numbers_fault row words) f in
    let range = or_none (range_fault row.places words) (fit_fault row words) form.1 in
    let said = places_say row.places words form.0 range.0 in (
      said.0,
      said.1,
      ap row.fits (sym (says_values row.places words said.0 said.1))
          ∙ is_fit (row.fits (values_in row.places words)) range.1,
    )
  where
    is_fit : (b : Bool) → cond b None (Some OutOfRange) ≡ None → b ≡ true
    is_fit true e = refl
    is_fit false e = absurd (cc)

pub no_fault_says : (rows : List Row) (words : List (List ℕ)) → line_fault rows words ≡ None
    → (row : Row) × (values : List ℕ) × LineSays rows words row values
no_fault_says rows [] f = absurd (cc)
no_fault_says rows (word ∷ words) f = by_row (row_named word rows) refl f
  where
    by_row : (r : Option Row) → row_named word rows ≡ r → row_fault r words ≡ None
        → (row : Row) × (values : List ℕ) × LineSays rows (word ∷ words) row values
    by_row None e f = absurd (cc)
    by_row (Some row) e f = let says = row_says row words f in (row, says.0, (e, says.1, says.2))

-- the values are one list
pub one_values : (places : List Place) (words : List (List ℕ)) (ns ms : List ℕ) → PlacesSay places words ns
    → PlacesSay places words ms → ns ≡ ms
one_values [] [] [] [] s t = refl
one_values [] [] (n ∷ ns) ms s t = absurd s
one_values [] [] [] (m ∷ ms) s t = absurd t
one_values [] (word ∷ words) ns ms s t = absurd s
one_values (place ∷ places) [] ns ms s t = absurd s
one_values (place ∷ places) (word ∷ words) [] ms s t = absurd s
one_values (place ∷ places) (word ∷ words) (n ∷ ns) [] s t = absurd t
one_values (place ∷ places) (word ∷ words) (n ∷ ns) (m ∷ ms) s t =
    let first : Some n ≡ Some m = sym s.0 ∙ t.0 in
    let same : n ≡ m = cc in
    let more = one_values places words ns ms s.2 t.2 in
    cc

-- the row is one row
pub one_row : (rows : List Row) (words : List (List ℕ)) (a b : Row) (ns ms : List ℕ) → LineSays rows words a ns
    → LineSays rows words b ms → a ≡ b
one_row rows [] a b ns ms s t = absurd s
one_row rows (word ∷ words) a b ns ms s t = let e : Some a ≡ Some b = sym s.0 ∙ t.0 in cc

pub one_reading : (rows : List Row) (words : List (List ℕ)) (a b : Row) (ns ms : List ℕ) → LineSays rows words a ns
    → LineSays rows words b ms → (a ≡ b) × (ns ≡ ms)
one_reading rows [] a b ns ms s t = absurd s
one_reading rows (word ∷ words) a b ns ms s t =
    let same : a ≡ b = one_row rows (word ∷ words) a b ns ms s t in
    let u : PlacesSay b.places words ns = subst (λ (r : Row). PlacesSay r.places words ns) same s.1 in
    (same, one_values b.places words ns ms u t.1)
