-- What the reader does with the words of a line is what their places say: one move, or the first fault.
use Rattle.std.proofs.Common.{◌≡◌, ℕ, ◌+◌, ◌-◌, ◌^◌, ◌<◌, ◌≤◌, arith, List, [], ◌∷◌, refl, sym, ap, ◌∙◌, subst, Option}
use Rattle.std.proofs.Common.{Some, None, true, false, Bool, cond, Ok, Err}
use Rattle.std.specs.Prelude.{codes, option_map, nat_lt, nat_le, ◌&&◌, length}
use Rattle.std.specs.Str.{bytes_eq}
use Rattle.std.specs.Str.Parse.{digits_value}
use Rattle.std.specs.Char.{is_ascii_digit}
use Rattle.std.specs.List.{list_all}
use Rattle.std.proofs.lemmas.Bool.Decides.{nat_tests}
use Rattle.plain_text.specs.declared.fault.LineCause.{LineCause}
use Rattle.plain_text.specs.declared.fault.LineCause.TheVariants.{UnknownWord, MissingWord, ExtraWord, BadNumber}
use Rattle.plain_text.specs.declared.fault.LineCause.TheVariants.{OutOfRange}
use Rattle.plain_text.specs.Grammar.{Place, Number, OneOf, index_in, is_within, PlacesSay, form_at, form_fault}
use Rattle.plain_text.specs.Grammar.{range_at, range_fault, or_else}
use Rattle.plain_text.specs.LineFiles.{IsDecisive}
use Rattle.plain_text.specs.Lines.{is_number, number_of}
use Rattle.plain_text.proofs.Rows.{says_no_fault_at, places_say, one_values, or_none}
use Rattle.plain_machine.specs.declared.plain_move.PlainMove.{PlainMove}
use Rattle.plain_player.specs.Reading.{then_ends, told_by, answer_in}
use Rattle.plain_player.specs.Schedules.{quiet_places, told_places, places_for, values_with, SaysMove, move_fault}
use Rattle.plain_player.specs.Schedules.{schedule_form}

says_no_move_fault : (words : List (List ℕ)) (plain : PlainMove) → SaysMove words plain → move_fault words ≡ None
says_no_move_fault words plain says =
    says_no_fault_at (places_for words) words (values_with plain.thread plain.answer) says

-- One move, from its values

abbrev made : ℕ → Option ℕ → PlainMove
made t x = record { thread = t; answer = x }

move_back : (t u : ℕ) (x y : Option ℕ) → values_with t x ≡ values_with u y → made t x ≡ made u y
move_back t u None None e = let same : t ≡ u = cc in ap (λ (n : ℕ). made n None) same
move_back t u (Some a) (Some b) e =
    let same : t ≡ u = cc in
    let told : a ≡ b = cc in
    ap (λ (n : ℕ). made n (Some a)) same ∙ ap (λ (n : ℕ). made u (Some n)) told
move_back t u None (Some b) e = absurd (cc)
move_back t u (Some a) None e = absurd (cc)

one_move : (words : List (List ℕ)) (a b : PlainMove) → SaysMove words a → SaysMove words b → a ≡ b
one_move words a b x y =
    move_back a.thread b.thread a.answer b.answer
    (one_values (places_for words) words (values_with a.thread a.answer) (values_with b.thread b.answer) x y)

-- The sign

sign_back : (word : List ℕ) (n : ℕ) → index_in word (codes "=" ∷ []) ≡ Some n → n ≡ 0
sign_back word n = by (bytes_eq word (codes "="))
  where
    by : (b : Bool) → cond b (Some 0) (option_map (λ n. n + 1) None) ≡ Some n → n ≡ 0
    by true e = cc
    by false e = absurd (cc)

sign_is : (word : List ℕ) → bytes_eq word (codes "=") ≡ true → index_in word (codes "=" ∷ []) ≡ Some 0
sign_is word e = ap (λ (b : Bool). cond b (Some 0) (option_map (λ n. n + 1) None)) e

no_sign : (word : List ℕ) → bytes_eq word (codes "=") ≡ false → index_in word (codes "=" ∷ []) ≡ None
no_sign word e = ap (λ (b : Bool). cond b (Some 0) (option_map (λ n. n + 1) None)) e

-- The move that words say, from their values

abbrev Says : List (List ℕ) → Type 0
Says words = (plain : PlainMove) × SaysMove words plain

from_values : (words : List (List ℕ)) (values : List ℕ) → PlacesSay (places_for words) words values → Says words
from_values [] values s = absurd s
from_values (word ∷ []) [] s = absurd s
from_values (word ∷ []) (n ∷ []) s = (record { thread = n; answer = None }, s)
from_values (word ∷ []) (n ∷ m ∷ values) s = absurd s.2
from_values (word ∷ sign ∷ words) [] s = absurd s
from_values (word ∷ sign ∷ words) (n ∷ []) s = absurd s.2
from_values (word ∷ sign ∷ []) (n ∷ m ∷ values) s = absurd s.2.2
from_values (word ∷ sign ∷ told ∷ []) (n ∷ m ∷ []) s = absurd s.2.2
from_values (word ∷ sign ∷ told ∷ []) (n ∷ m ∷ a ∷ []) s = (
  record { thread = n; answer = Some a },
  subst (λ (k : ℕ). PlacesSay told_places (word ∷ sign ∷ told ∷ []) (n ∷ k ∷ a ∷ [])) (sign_back sign m s.2.0) s,
)
from_values (word ∷ sign ∷ told ∷ []) (n ∷ m ∷ a ∷ b ∷ values) s = absurd s.2.2.2
from_values (word ∷ sign ∷ told ∷ extra ∷ words) (n ∷ m ∷ []) s = absurd s.2.2
from_values (word ∷ sign ∷ told ∷ extra ∷ words) (n ∷ m ∷ a ∷ values) s = absurd (extra_word values s.2.2.2)
  where
    extra_word : (values : List ℕ) → PlacesSay [] (extra ∷ words) values → ⊥
    extra_word [] e = e
    extra_word (b ∷ more) e = e

no_fault_says_move : (words : List (List ℕ)) → move_fault words ≡ None → Says words
no_fault_says_move words e =
    let both = or_none (form_fault (places_for words) words) (range_fault (places_for words) words) e in
    let said = places_say (places_for words) words both.0 both.1 in
    from_values words said.0 said.1

-- each line says one move or has a fault
pub moves_are_decisive : IsDecisive schedule_form
moves_are_decisive = record { thing_or_fault = no_fault_says_move; not_both = says_no_move_fault; one_thing = one_move }

-- As the reader finds it

and_last : (a b c d : Bool) → (a && b && c && d) ≡ true → d ≡ true
and_last a b c true e = refl
and_last true true true false e = e
and_last true true false false e = e
and_last true false c false e = e
and_last false b c false e = e

number_small : (word : List ℕ) (n : ℕ) → number_of word ≡ Some n → n < 2 ^ 64
number_small word n = by (is_number word) refl
  where
    by : (b : Bool) → is_number word ≡ b → cond b (Some (digits_value 10 word)) None ≡ Some n → n < 2 ^ 64
    by false is e = absurd (cc)
    by true is e =
        let same : digits_value 10 word ≡ n = cc in
        let low : nat_lt (digits_value 10 word) (2 ^ 64) ≡ true = and_last (nat_lt 0 (length word))
        (nat_le (length word) 20) (list_all is_ascii_digit word) (nat_lt (digits_value 10 word) (2 ^ 64)) is in
        let less : digits_value 10 word < 2 ^ 64 = grind (arith, nat_tests) in
        omega arith

pub within : (n high : ℕ) → n ≤ high → is_within (Number 0 high) n ≡ true
within n high small =
    let low : nat_le 0 n ≡ true = grind (arith, nat_tests) in
    let top : nat_le n high ≡ true = grind (arith, nat_tests) in
    rw (low, top) refl

beyond : (n high : ℕ) → high < n → is_within (Number 0 high) n ≡ false
beyond n high big =
    let low : nat_le 0 n ≡ true = grind (arith, nat_tests) in
    let top : nat_le n high ≡ false = grind (arith, nat_tests) in
    rw (low, top) refl

-- the places of a line
abbrev thread_at : Place
thread_at = Number 0 (2 ^ 32 - 1)

abbrev sign_at : Place
sign_at = OneOf (codes "=" ∷ [])

abbrev told_at : Place
told_at = Number 0 (2 ^ 64 - 1)

-- the words behind the sign
told_form : (words : List (List ℕ)) (cause : LineCause) → told_by words ≡ Err cause
    → form_fault (told_at ∷ []) words ≡ Some cause
told_form [] cause e = cc
told_form (word ∷ words) cause e = by (number_of word) refl e
  where
    ends : (n : ℕ) (more : List (List ℕ)) → number_of word ≡ Some n → then_ends (Some n) more ≡ Err cause
        → form_at told_at (number_of word) (form_fault [] more) ≡ Some cause
    ends n [] is e = absurd (cc)
    ends n (extra ∷ more) is e =
        let same : Some ExtraWord ≡ Some cause = cc in
        ap (λ (o : Option ℕ). form_at told_at o (Some ExtraWord)) is ∙ same

    by : (o : Option ℕ) → number_of word ≡ o → then_ends o words ≡ Err cause
        → form_at told_at (number_of word) (form_fault [] words) ≡ Some cause
    by None is e =
        let same : Some BadNumber ≡ Some cause = cc in
        ap (λ (o : Option ℕ). form_at told_at o (form_fault [] words)) is ∙ same
    by (Some n) is e = ends n words is e

-- what is told is one number, and the end
told_one : (words : List (List ℕ)) (a : Option ℕ) → told_by words ≡ Ok a
    → (word : List ℕ) × (n : ℕ) × (words ≡ word ∷ []) × (number_of word ≡ Some n) × (a ≡ Some n)
told_one [] a e = absurd (cc)
told_one (word ∷ words) a e = by (number_of word) refl e
  where
    ends : (n : ℕ) (more : List (List ℕ)) → number_of word ≡ Some n → then_ends (Some n) more ≡ Ok a
        → (w : List ℕ) × (n : ℕ) × (word ∷ more ≡ w ∷ []) × (number_of w ≡ Some n) × (a ≡ Some n)
    ends n [] is e = let same : Some n ≡ a = cc in (word, n, refl, is, sym same)
    ends n (extra ∷ more) is e = absurd (cc)

    by : (o : Option ℕ) → number_of word ≡ o → then_ends o words ≡ Ok a
        → (w : List ℕ) × (n : ℕ) × (word ∷ words ≡ w ∷ []) × (number_of w ≡ Some n) × (a ≡ Some n)
    by None is e = absurd (cc)
    by (Some n) is e = ends n words is e

-- words that are read say their move
says_words : (word : List ℕ) (left : List (List ℕ)) (n : ℕ) (a : Option ℕ) → number_of word ≡ Some n
    → answer_in left ≡ Ok a → n < 2 ^ 32 → SaysMove (word ∷ left) (record { thread = n; answer = a })
says_words word [] n a is e small =
    let same : None ≡ a = cc in
    subst (λ (x : Option ℕ). SaysMove (word ∷ []) (record { thread = n; answer = x })) same
    (is, within n (2 ^ 32 - 1) (omega arith), tt)
says_words word (sign ∷ left) n a is e small = by (bytes_eq sign (codes "=")) refl e
  where
    whole : (w : List ℕ) × (m : ℕ) × (left ≡ w ∷ []) × (number_of w ≡ Some m) × (a ≡ Some m)
        → bytes_eq sign (codes "=") ≡ true → SaysMove (word ∷ sign ∷ left) (record { thread = n; answer = a })
    whole (w, m, one, told, answer) q =
        let low = number_small w m told in
        let says : SaysMove (word ∷ sign ∷ w ∷ []) (record { thread = n; answer = Some m }) = (
          is,
          within n (2 ^ 32 - 1) (omega arith),
          (sign_is sign q, refl, (told, within m (2 ^ 64 - 1) (omega arith), tt)),
        ) in
        subst (λ (ws : List (List ℕ)). SaysMove (word ∷ sign ∷ ws) (record { thread = n; answer = a })) (sym one) (subst
        (λ (x : Option ℕ). SaysMove (word ∷ sign ∷ w ∷ []) (record { thread = n; answer = x })) (sym answer) says)

    by : (b : Bool) → bytes_eq sign (codes "=") ≡ b → cond b (told_by left) (Err UnknownWord) ≡ Ok a
        → SaysMove (word ∷ sign ∷ left) (record { thread = n; answer = a })
    by false q e = absurd (cc)
    by true q e = whole (told_one left a e) q

-- a thread that is no number
bad_words : (word : List ℕ) (left : List (List ℕ)) → number_of word ≡ None → move_fault (word ∷ left) ≡ Some BadNumber
bad_words word [] is =
    ap (λ (o : Option ℕ). or_else (form_at thread_at o None) (range_fault quiet_places (word ∷ []))) is
bad_words word (sign ∷ left) is =
    ap (λ (o : Option ℕ). or_else (form_at thread_at o (form_fault (sign_at ∷ told_at ∷ []) (sign ∷ left)))
    (range_fault told_places (word ∷ sign ∷ left))) is

-- a fault of the words behind it
faulty_words : (word : List ℕ) (left : List (List ℕ)) (n : ℕ) (cause : LineCause) → number_of word ≡ Some n
    → answer_in left ≡ Err cause → move_fault (word ∷ left) ≡ Some cause
faulty_words word [] n cause is e = absurd (cc)
faulty_words word (sign ∷ left) n cause is e = by (bytes_eq sign (codes "=")) refl e
  where
    range : Option LineCause
    range = range_fault told_places (word ∷ sign ∷ left)

    thread : move_fault (word ∷ sign ∷ left)
        ≡ or_else (form_at sign_at (index_in sign (codes "=" ∷ [])) (form_fault (told_at ∷ []) left)) range
    thread = ap (λ (o : Option ℕ). or_else
        (form_at thread_at o (form_at sign_at (index_in sign (codes "=" ∷ [])) (form_fault (told_at ∷ []) left))) range)
        is

    by : (b : Bool) → bytes_eq sign (codes "=") ≡ b → cond b (told_by left) (Err UnknownWord) ≡ Err cause
        → move_fault (word ∷ sign ∷ left) ≡ Some cause
    by false q e =
        let same : Some UnknownWord ≡ Some cause = cc in
        thread
        ∙ (ap (λ (o : Option ℕ). or_else (form_at sign_at o (form_fault (told_at ∷ []) left)) range) (no_sign sign q)
        ∙ same)
    by true q e =
        thread
        ∙ (ap (λ (o : Option ℕ). or_else (form_at sign_at o (form_fault (told_at ∷ []) left)) range) (sign_is sign q)
        ∙ ap (λ (f : Option LineCause). or_else f range) (told_form left cause e))

-- a thread that is too great
far_words : (word : List ℕ) (left : List (List ℕ)) (n : ℕ) (a : Option ℕ) → number_of word ≡ Some n
    → answer_in left ≡ Ok a → 2 ^ 32 ≤ n → move_fault (word ∷ left) ≡ Some OutOfRange
far_words word [] n a is e big =
    ap (λ (o : Option ℕ). or_else (form_at thread_at o None) (range_at thread_at o None)) is
    ∙ ap (λ (b : Bool). cond b None (Some OutOfRange)) (beyond n (2 ^ 32 - 1) (omega arith))
far_words word (sign ∷ left) n a is e big = by (bytes_eq sign (codes "=")) refl e
  where
    fault : Option ℕ → Option ℕ → Option ℕ → Option LineCause
    fault o k m = or_else (form_at thread_at o (form_at sign_at k (form_at told_at m None)))
        (range_at thread_at o (range_at sign_at k (range_at told_at m None)))

    whole : (w : List ℕ) × (m : ℕ) × (left ≡ w ∷ []) × (number_of w ≡ Some m) × (a ≡ Some m)
        → bytes_eq sign (codes "=") ≡ true → move_fault (word ∷ sign ∷ left) ≡ Some OutOfRange
    whole (w, m, one, told, answer) q =
        ap (λ (ws : List (List ℕ)). move_fault (word ∷ sign ∷ ws)) one
        ∙ (ap (λ (o : Option ℕ). fault o (index_in sign (codes "=" ∷ [])) (number_of w)) is
        ∙ (ap (λ (k : Option ℕ). fault (Some n) k (number_of w)) (sign_is sign q)
        ∙ (ap (λ (k : Option ℕ). fault (Some n) (Some 0) k) told
        ∙ ap (λ (b : Bool). cond b (range_at sign_at (Some 0) (range_at told_at (Some m) None)) (Some OutOfRange))
        (beyond n (2 ^ 32 - 1) (omega arith)))))

    by : (b : Bool) → bytes_eq sign (codes "=") ≡ b → cond b (told_by left) (Err UnknownWord) ≡ Ok a
        → move_fault (word ∷ sign ∷ left) ≡ Some OutOfRange
    by false q e = absurd (cc)
    by true q e = whole (told_one left a e) q

-- The same of the words of a line

pub no_words : (words : List (List ℕ)) → words ≡ [] → move_fault words ≡ Some MissingWord
no_words words e = ap move_fault e

pub no_number : (words : List (List ℕ)) (word : List ℕ) (left : List (List ℕ)) → words ≡ word ∷ left
    → number_of word ≡ None → move_fault words ≡ Some BadNumber
no_number words word left front is = ap move_fault front ∙ bad_words word left is

pub no_answer : (words : List (List ℕ)) (word : List ℕ) (left : List (List ℕ)) (n : ℕ) (cause : LineCause)
    → words ≡ word ∷ left → number_of word ≡ Some n → answer_in left ≡ Err cause → move_fault words ≡ Some cause
no_answer words word left n cause front is e = ap move_fault front ∙ faulty_words word left n cause is e

pub no_thread : (words : List (List ℕ)) (word : List ℕ) (left : List (List ℕ)) (n : ℕ) (a : Option ℕ)
    → words ≡ word ∷ left → number_of word ≡ Some n → answer_in left ≡ Ok a → 2 ^ 32 ≤ n
    → move_fault words ≡ Some OutOfRange
no_thread words word left n a front is e big = ap move_fault front ∙ far_words word left n a is e big

pub says_read : (words : List (List ℕ)) (word : List ℕ) (left : List (List ℕ)) (n : ℕ) (a : Option ℕ)
    → words ≡ word ∷ left → number_of word ≡ Some n → answer_in left ≡ Ok a → n < 2 ^ 32
    → SaysMove words (record { thread = n; answer = a })
says_read words word left n a front is e small =
    subst (λ (ws : List (List ℕ)). SaysMove ws (record { thread = n; answer = a })) (sym front)
    (says_words word left n a is e small)
