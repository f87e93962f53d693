-- A text is one file of lines, or has one first fault; and its things pass a limit in one way.
use Rattle.std.proofs.Common.{◌≡◌, ℕ, ◌+◌, ◌<◌, ◌≤◌, ◌⊎◌, ◌↔◌, inl, inr, arith, List, [], ◌∷◌, ◌++◌, length, refl, sym}
use Rattle.std.proofs.Common.{ap, ◌∙◌, subst, Option, Some, None}
use Rattle.plain_text.specs.declared.fault.LineCause.{LineCause}
use Rattle.plain_text.specs.Lines.{counted_lines, words_of}
use Rattle.plain_text.specs.LineFiles.{LineForm, IsDecisive, Begins, IsFile, FirstFault, HasTooMany, count_of}

abbrev Line : Type 0
Line = ℕ × List ℕ

one_cause : (a b : LineCause) → Some a ≡ Some b → a ≡ b
one_cause a b e = cc

one_front : (a b : Line) (r s : List Line) → a ∷ r ≡ b ∷ s → a ≡ b
one_front a b r s e = cc

-- where each thing counts as one, a list counts as its length
pub count_is_length : {A : Type 0} (form : LineForm A) → ((thing : A) → form.weight thing ≡ 1) → (things : List A)
    → count_of form things ≡ length things
count_is_length form one [] = refl
count_is_length form one (thing ∷ things) =
    let first : form.weight thing ≡ 1 = one thing in
    let more : count_of form things ≡ length things = count_is_length form one things in
    omega arith

-- One thing more

module _ {A : Type 0} (form : LineForm A) where
  begins_more : (lines : List Line) (things : List A) (line : Line) (rest : List Line) (thing : A)
      → Begins form lines things (line ∷ rest) → form.says (words_of line.1) thing
      → Begins form lines (things ++ thing ∷ []) rest
  begins_more [] [] line rest thing e says = absurd (cc)
  begins_more (x ∷ lines) [] line rest thing e says =
      let first : line ≡ x = cc in
      let more : lines ≡ rest = cc in
      (subst (λ (l : Line). form.says (words_of l.1) thing) first says, more)
  begins_more [] (other ∷ things) line rest thing b says = absurd b
  begins_more (x ∷ lines) (other ∷ things) line rest thing b says =
      (b.0, begins_more lines things line rest thing b.1 says)

  count_more : (things : List A) (thing : A)
      → count_of form (things ++ thing ∷ []) ≡ count_of form things + form.weight thing
  count_more [] thing = omega arith
  count_more (other ∷ things) thing = let more = count_more things thing in omega arith

  pub more : (text : List ℕ) (things new : List A) (number : ℕ) (line : List ℕ) (all rest : List Line) (thing : A)
      → Begins form (counted_lines text) things all → all ≡ (number, line) ∷ rest → form.says (words_of line) thing
      → new ≡ things ++ thing ∷ []
      → Begins form (counted_lines text) new rest × (count_of form new ≡ count_of form things + form.weight thing)
  more text things new number line all rest thing b front says is =
      let begins : Begins form (counted_lines text) things ((number, line) ∷ rest) =
      subst (Begins form (counted_lines text) things) front b in
      let longer = begins_more (counted_lines text) things (number, line) rest thing begins says in (
        subst (λ (ts : List A). Begins form (counted_lines text) ts rest) (sym is) longer,
        ap (count_of form) is ∙ count_more things thing,
      )

  -- where one more thing has no room, the first lines have too many
  pub passes : (most : ℕ) (text : List ℕ) (things : List A) (room number : ℕ) (line : List ℕ) (all rest : List Line)
      (thing : A)
      → Begins form (counted_lines text) things all → room + count_of form things ≡ most → all ≡ (number, line) ∷ rest
      → form.says (words_of line) thing → room < form.weight thing → HasTooMany form most text
  passes most text things room number line all rest thing b left front says less =
      let longer = more text things (things ++ thing ∷ []) number line all rest thing b front says refl in
      let count = longer.1 in
      record { things = things ++ thing ∷ []; rest = rest; begins = longer.0; many = omega arith }

-- Where the things end: no line is left, or the next has a fault

module _ {A : Type 0} (form : LineForm A) (decisive : IsDecisive form) where
  abbrev Ends : List Line → Type 0
  Ends [] = Unit {0}
  Ends (line ∷ rest) = (cause : LineCause) × (form.fault (words_of line.1) ≡ Some cause)

  faulty_says : (line : Line) (cause : LineCause) (thing : A) → form.fault (words_of line.1) ≡ Some cause
      → form.says (words_of line.1) thing → ⊥
  faulty_says line cause thing bad says =
      let clash : None ≡ Some cause = sym (decisive.not_both (words_of line.1) thing says) ∙ bad in
      absurd (cc)

  -- where the things have ended, no line behind says one
  ended : (lines : List Line) (thing : A) (things : List A) (r : List Line) → Ends lines
      → Begins form lines (thing ∷ things) r → ⊥
  ended [] thing things r ends b = b
  ended (line ∷ lines) thing things r ends b = faulty_says line ends.0 thing ends.1 b.0

  one_end : (lines : List Line) (a b : List A) (r s : List Line) → Begins form lines a r → Ends r
      → Begins form lines b s → Ends s
      → (a ≡ b) × (r ≡ s)
  one_end lines [] [] r s x ends y more = (refl, sym x ∙ y)
  one_end lines [] (thing ∷ b) r s x ends y more = absurd (ended lines thing b s (subst Ends (sym x) ends) y)
  one_end lines (thing ∷ a) [] r s x ends y more = absurd (ended lines thing a r (subst Ends (sym y) more) x)
  one_end [] (thing ∷ a) (other ∷ b) r s x ends y more = absurd x
  one_end (line ∷ lines) (thing ∷ a) (other ∷ b) r s x ends y more =
      let same : thing ≡ other = decisive.one_thing (words_of line.1) thing other x.0 y.0 in
      let behind = one_end lines a b r s x.1 ends y.1 more in
      let things : a ≡ b = behind.0 in
      (cc, behind.1)

  -- the first lines count as no more than all before the end
  few_before : (lines : List Line) (a b : List A) (r s : List Line) → Begins form lines a r → Ends r
      → Begins form lines b s
      → count_of form b ≤ count_of form a
  few_before lines a [] r s x ends y = omega arith
  few_before lines [] (thing ∷ b) r s x ends y = absurd (ended lines thing b s (subst Ends (sym x) ends) y)
  few_before [] (thing ∷ a) (other ∷ b) r s x ends y = absurd x
  few_before (line ∷ lines) (thing ∷ a) (other ∷ b) r s x ends y =
      let same : thing ≡ other = decisive.one_thing (words_of line.1) thing other x.0 y.0 in
      let less = few_before lines a b r s x.1 ends y.1 in
      let weights : form.weight thing ≡ form.weight other = ap form.weight same in
      omega arith

  -- and there is an end
  an_end : (lines : List Line) → (things : List A) × (rest : List Line) × Begins form lines things rest × Ends rest
  an_end [] = ([], [], refl, tt)
  an_end (line ∷ lines) = by_fault (form.fault (words_of line.1)) refl (an_end lines)
    where
      by_fault : (f : Option LineCause) → form.fault (words_of line.1) ≡ f
          → ((things : List A) × (rest : List Line) × Begins form lines things rest × Ends rest)
          → (things : List A) × (rest : List Line) × Begins form (line ∷ lines) things rest × Ends rest
      by_fault (Some cause) e more = ([], line ∷ lines, refl, (cause, e))
      by_fault None e more =
          let said = decisive.thing_or_fault (words_of line.1) e in
          (said.0 ∷ more.0, more.1, (said.1, more.2), more.3)

  -- Of texts

  pub either : (text : List ℕ)
      → ((things : List A) × IsFile form text things)
      ⊎ ((number : ℕ) × (cause : LineCause) × FirstFault form text number cause)
  either text = let e = an_end (counted_lines text) in by_rest e.0 e.1 e.2 e.3
    where
      by_rest : (things : List A) (rest : List Line) → Begins form (counted_lines text) things rest → Ends rest
          → ((things : List A) × IsFile form text things)
          ⊎ ((number : ℕ) × (cause : LineCause) × FirstFault form text number cause)
      by_rest things [] b ends = inl (things, b)
      by_rest things (line ∷ rest) b ends =
          inr (line.0, ends.0, record { things = things; line = line.1; rest = rest; begins = b; fault = ends.1 })

  pub one_file : (text : List ℕ) (a b : List A) → IsFile form text a → IsFile form text b → a ≡ b
  one_file text a b x y = (one_end (counted_lines text) a b [] [] x tt y tt).0

  pub not_both : (text : List ℕ) (things : List A) (number : ℕ) (cause : LineCause) → IsFile form text things
      → FirstFault form text number cause → ⊥
  not_both text things number cause x f =
      let same : [] ≡ (number, f.line) ∷ f.rest =
      (one_end (counted_lines text) things f.things [] ((number, f.line) ∷ f.rest) x tt f.begins (cause, f.fault)).1 in
      absurd (cc)

  pub one_fault : (text : List ℕ) (x y : ℕ) (a b : LineCause) → FirstFault form text x a → FirstFault form text y b
      → (x ≡ y) × (a ≡ b)
  one_fault text x y a b f g =
      let ends = one_end (counted_lines text) f.things g.things ((x, f.line) ∷ f.rest) ((y, g.line) ∷ g.rest)
      f.begins (a, f.fault) g.begins (b, g.fault) in
      let pair = one_front (x, f.line) (y, g.line) f.rest g.rest ends.1 in
      let line : f.line ≡ g.line = ap (λ (l : Line). l.1) pair in (
        ap (λ (l : Line). l.0) pair,
        one_cause a b (sym f.fault ∙ ap (λ (l : List ℕ). form.fault (words_of l)) line ∙ g.fault),
      )

  pub too_many : (most : ℕ) (text : List ℕ) (things : List A) → IsFile form text things
      → HasTooMany form most text ↔ (most < count_of form things)
  too_many most text things x = (
    λ h. many h,
    λ m. record { things = things; rest = []; begins = x; many = m },
  )
    where
      many : HasTooMany form most text → most < count_of form things
      many h =
          let few = few_before (counted_lines text) things h.things [] h.rest x tt h.begins in
          let all = h.many in
          omega arith

  pub too_many_before : (most : ℕ) (text : List ℕ) (number : ℕ) (cause : LineCause)
      (first : FirstFault form text number cause)
      → HasTooMany form most text ↔ (most < count_of form first.things)
  too_many_before most text number cause first = (
    λ h. many h,
    λ m. record { things = first.things; rest = (number, first.line) ∷ first.rest; begins = first.begins; many = m },
  )
    where
      many : HasTooMany form most text → most < count_of form first.things
      many h =
          let few = few_before (counted_lines text) first.things h.things ((number, first.line) ∷ first.rest) h.rest
          first.begins (cause, first.fault) h.begins in
          let all = h.many in
          omega arith

  -- As the reader finds the first fault: few things stand before it

  pub faulty : (most : ℕ) (text : List ℕ) (things : List A) (room number : ℕ) (line : List ℕ) (all rest : List Line)
      (cause : LineCause)
      → Begins form (counted_lines text) things all → room + count_of form things ≡ most → all ≡ (number, line) ∷ rest
      → form.fault (words_of line) ≡ Some cause → FirstFault form text number cause × (HasTooMany form most text → ⊥)
  faulty most text things room number line all rest cause b left front fault =
      (first, λ h. over ((too_many_before most text number cause first).0 h))
    where
      first : FirstFault form text number cause
      first = record {
        things = things;
        line = line;
        rest = rest;
        begins = subst (Begins form (counted_lines text) things) front b;
        fault = fault;
      }

      over : most < count_of form things → ⊥
      over h = omega arith
