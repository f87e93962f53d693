-- A text of staged lines is one file, or has one first fault; and its lines pass a limit in one way.
use Rattle.std.proofs.Common.{◌≡◌, ℕ, ◌+◌, ◌<◌, ◌≤◌, ◌⊎◌, ◌↔◌, inl, inr, arith, List, [], ◌∷◌, ◌++◌, length, refl}
use Rattle.std.proofs.Common.{sym, ap, ◌∙◌, subst, Option, Some, None, Bool, true, false}
use Rattle.std.specs.Str.Lines.{lines}
use Rattle.plain_text.specs.declared.fault.LineCause.{LineCause}
use Rattle.plain_text.specs.declared.fault.LineCause.TheVariants.{MissingLine}
use Rattle.plain_text.specs.Lines.{counted_lines, words_of}
use Rattle.handover.specs.StagedFiles.{StagedForm, stage_behind, Begins, IsFile, Fails, FirstFault, HasTooMany}

abbrev Line : Type 0
Line = ℕ × List ℕ

one_cause : (a b : LineCause) → Some a ≡ Some b → a ≡ b
one_cause a b e = cc

one_front : (a b : Line) (r s : List Line) → a ∷ r ≡ b ∷ s → (a ≡ b) × (r ≡ s)
one_front a b r s e = (cc, cc)

-- each line says one thing and no other at a stage, or has a fault: one of the two
pub record IsDecisive {S A : Type 0} (form : StagedForm S A) : Type 0 where
  pub thing_or_fault : (stage : S) (words : List (List ℕ)) → form.fault stage words ≡ None
      → (thing : A) × form.says stage words thing
  pub not_both : (stage : S) (words : List (List ℕ)) (thing : A) → form.says stage words thing
      → form.fault stage words ≡ None
  pub one_thing : (stage : S) (words : List (List ℕ)) (a b : A) → form.says stage words a
      → form.says stage words b → a ≡ b

-- One thing more

module _ {S A : Type 0} (form : StagedForm S A) where
  pub begins_more : (stage : S) (lines : List Line) (things : List A) (line : Line) (rest : List Line) (thing : A)
      → Begins form stage lines things (line ∷ rest)
      → form.says (stage_behind form stage things) (words_of line.1) thing
      → Begins form stage lines (things ++ thing ∷ []) rest
  begins_more stage [] [] line rest thing e says = absurd (cc)
  begins_more stage (x ∷ lines) [] line rest thing e says =
      let same = one_front x line lines rest e in
      (subst (λ (l : Line). form.says stage (words_of l.1) thing) (sym same.0) says, same.1)
  begins_more stage [] (other ∷ things) line rest thing b says = absurd b
  begins_more stage (x ∷ lines) (other ∷ things) line rest thing b says =
      (b.0, begins_more (form.behind other) lines things line rest thing b.1 says)

  pub stage_more : (stage : S) (things : List A) (thing : A)
      → stage_behind form stage (things ++ thing ∷ []) ≡ form.behind thing
  stage_more stage [] thing = refl
  stage_more stage (other ∷ things) thing = stage_more (form.behind other) things thing

-- Where the things end: no line is left, or the next has a fault

module _ {S A : Type 0} (form : StagedForm S A) (decisive : IsDecisive form) where
  abbrev pub Ends : S → List Line → Type 0
  Ends stage [] = Unit {0}
  Ends stage (line ∷ rest) = (cause : LineCause) × (form.fault stage (words_of line.1) ≡ Some cause)

  faulty_says : (stage : S) (line : Line) (cause : LineCause) (thing : A)
      → form.fault stage (words_of line.1) ≡ Some cause → form.says stage (words_of line.1) thing → ⊥
  faulty_says stage line cause thing bad says =
      let clash : None ≡ Some cause = sym (decisive.not_both stage (words_of line.1) thing says) ∙ bad in
      absurd (cc)

  -- where the things have ended, no line behind says one
  ended : (stage : S) (lines : List Line) (thing : A) (things : List A) (r : List Line) → Ends stage lines
      → Begins form stage lines (thing ∷ things) r → ⊥
  ended stage [] thing things r ends b = b
  ended stage (line ∷ lines) thing things r ends b = faulty_says stage line ends.0 thing ends.1 b.0

  pub one_end : (stage : S) (lines : List Line) (a b : List A) (r s : List Line) → Begins form stage lines a r
      → Ends (stage_behind form stage a) r → Begins form stage lines b s → Ends (stage_behind form stage b) s
      → (a ≡ b) × (r ≡ s)
  one_end stage lines [] [] r s x ends y more = (refl, sym x ∙ y)
  one_end stage lines [] (thing ∷ b) r s x ends y more =
      absurd (ended stage lines thing b s (subst (Ends stage) (sym x) ends) y)
  one_end stage lines (thing ∷ a) [] r s x ends y more =
      absurd (ended stage lines thing a r (subst (Ends stage) (sym y) more) x)
  one_end stage [] (thing ∷ a) (other ∷ b) r s x ends y more = absurd x
  one_end stage (line ∷ lines) (thing ∷ a) (other ∷ b) r s x ends y more =
      let same : other ≡ thing = decisive.one_thing stage (words_of line.1) other thing y.0 x.0 in
      let y2 : Begins form (form.behind thing) lines b s =
      subst (λ (t : A). Begins form (form.behind t) lines b s) same y.1 in
      let more2 : Ends (stage_behind form (form.behind thing) b) s =
      subst (λ (t : A). Ends (stage_behind form (form.behind t) b) s) same more in
      let behind = one_end (form.behind thing) lines a b r s x.1 ends y2 more2 in
      let things : a ≡ b = behind.0 in
      (cc, behind.1)

  -- the first lines say no more than all before the end
  few_before : (stage : S) (lines : List Line) (a b : List A) (r s : List Line) → Begins form stage lines a r
      → Ends (stage_behind form stage a) r → Begins form stage lines b s → length b ≤ length a
  few_before stage lines a [] r s x ends y = omega arith
  few_before stage lines [] (thing ∷ b) r s x ends y =
      absurd (ended stage lines thing b s (subst (Ends stage) (sym x) ends) y)
  few_before stage [] (thing ∷ a) (other ∷ b) r s x ends y = absurd x
  few_before stage (line ∷ lines) (thing ∷ a) (other ∷ b) r s x ends y =
      let same : other ≡ thing = decisive.one_thing stage (words_of line.1) other thing y.0 x.0 in
      let y2 : Begins form (form.behind thing) lines b s =
      subst (λ (t : A). Begins form (form.behind t) lines b s) same y.1 in
      let less = few_before (form.behind thing) lines a b r s x.1 ends y2 in
      omega arith

  -- and there is an end
  pub an_end : (stage : S) (lines : List Line)
      → (things : List A) × (rest : List Line) × Begins form stage lines things rest
      × Ends (stage_behind form stage things) rest
  an_end stage [] = ([], [], refl, tt)
  an_end stage (line ∷ lines) =
      by_fault (form.fault stage (words_of line.1)) refl (λ next. an_end next lines)
    where
      by_fault : (f : Option LineCause) → form.fault stage (words_of line.1) ≡ f
          → ((next : S) → (things : List A) × (rest : List Line) × Begins form next lines things rest
          × Ends (stage_behind form next things) rest)
          → (things : List A) × (rest : List Line) × Begins form stage (line ∷ lines) things rest
          × Ends (stage_behind form stage things) rest
      by_fault (Some cause) e behind = ([], line ∷ lines, refl, (cause, e))
      by_fault None e behind =
          let said = decisive.thing_or_fault stage (words_of line.1) e in
          let more = behind (form.behind said.0) in
          (said.0 ∷ more.0, more.1, (said.1, more.2), more.3)

  -- Of texts

  pub either : (text : List ℕ)
      → ((things : List A) × IsFile form text things)
      ⊎ ((number : ℕ) × (cause : LineCause) × FirstFault form text number cause)
  either text = let e = an_end form.first (counted_lines text) in by_rest e.0 e.1 e.2 e.3
    where
      by_whole : (things : List A) (b : Bool) → form.whole (stage_behind form form.first things) ≡ b
          → Begins form form.first (counted_lines text) things []
          → ((things : List A) × IsFile form text things)
          ⊎ ((number : ℕ) × (cause : LineCause) × FirstFault form text number cause)
      by_whole things true w b = inl (things, record { begins = b; whole = w })
      by_whole things false w b = inr (
        length (lines text) + 1,
        MissingLine,
        record { things = things; rest = []; begins = b; fails = (w, refl, refl) },
      )

      by_rest : (things : List A) (rest : List Line) → Begins form form.first (counted_lines text) things rest
          → Ends (stage_behind form form.first things) rest
          → ((things : List A) × IsFile form text things)
          ⊎ ((number : ℕ) × (cause : LineCause) × FirstFault form text number cause)
      by_rest things [] b ends = by_whole things (form.whole (stage_behind form form.first things)) refl b
      by_rest things (line ∷ rest) b ends = inr (
        line.0,
        ends.0,
        record { things = things; rest = line ∷ rest; begins = b; fails = (refl, ends.1) },
      )

  fails_ends : (stage : S) (rest : List Line) (count number : ℕ) (cause : LineCause)
      → Fails form stage rest count number cause → Ends stage rest
  fails_ends stage [] count number cause f = tt
  fails_ends stage (line ∷ rest) count number cause f = (cause, f.1)

  one_fail : (stage : S) (rest : List Line) (count x y : ℕ) (a b : LineCause) → Fails form stage rest count x a
      → Fails form stage rest count y b → (x ≡ y) × (a ≡ b)
  one_fail stage [] count x y a b f g = (f.1 ∙ sym g.1, f.2 ∙ sym g.2)
  one_fail stage (line ∷ rest) count x y a b f g = (f.0 ∙ sym g.0, one_cause a b (sym f.1 ∙ g.1))

  pub one_file : (text : List ℕ) (a b : List A) → IsFile form text a → IsFile form text b → a ≡ b
  one_file text a b x y = (one_end form.first (counted_lines text) a b [] [] x.begins tt y.begins tt).0

  whole_fails : (stage : S) (rest : List Line) (count number : ℕ) (cause : LineCause) → rest ≡ []
      → form.whole stage ≡ true → Fails form stage rest count number cause → ⊥
  whole_fails stage [] count number cause none w f = let clash : true ≡ false = sym w ∙ f.0 in absurd (cc)
  whole_fails stage (line ∷ rest) count number cause none w f = absurd (cc)

  pub not_both : (text : List ℕ) (things : List A) (number : ℕ) (cause : LineCause) → IsFile form text things
      → FirstFault form text number cause → ⊥
  not_both text things number cause x f =
      let same = one_end form.first (counted_lines text) f.things things f.rest [] f.begins
      (fails_ends (stage_behind form form.first f.things) f.rest (length (lines text)) number cause f.fails)
      x.begins tt in
      let whole : form.whole (stage_behind form form.first f.things) ≡ true =
      ap (λ (ts : List A). form.whole (stage_behind form form.first ts)) same.0 ∙ x.whole in
      whole_fails (stage_behind form form.first f.things) f.rest (length (lines text)) number cause same.1 whole
      f.fails

  pub one_fault : (text : List ℕ) (x y : ℕ) (a b : LineCause) → FirstFault form text x a → FirstFault form text y b
      → (x ≡ y) × (a ≡ b)
  one_fault text x y a b f g =
      let count = length (lines text) in
      let same = one_end form.first (counted_lines text) g.things f.things g.rest f.rest g.begins
      (fails_ends (stage_behind form form.first g.things) g.rest count y b g.fails) f.begins
      (fails_ends (stage_behind form form.first f.things) f.rest count x a f.fails) in
      let fails : Fails form (stage_behind form form.first f.things) f.rest count y b =
      subst (λ (r : List Line). Fails form (stage_behind form form.first f.things) r count y b) same.1
      (subst (λ (ts : List A). Fails form (stage_behind form form.first ts) g.rest count y b) same.0 g.fails) in
      one_fail (stage_behind form form.first f.things) f.rest count x y a b f.fails fails

  many_at : (most : ℕ) (text : List ℕ) (things : List A) (rest : List Line)
      → Begins form form.first (counted_lines text) things rest → Ends (stage_behind form form.first things) rest
      → HasTooMany form most text ↔ (most < length things)
  many_at most text things rest b ends = (
    λ h. many h,
    λ m. record { things = things; rest = rest; begins = b; many = m },
  )
    where
      many : HasTooMany form most text → most < length things
      many h =
          let few = few_before form.first (counted_lines text) things h.things rest h.rest b ends h.begins in
          let all = h.many in
          omega arith

  pub too_many : (most : ℕ) (text : List ℕ) (things : List A) → IsFile form text things
      → HasTooMany form most text ↔ (most < length things)
  too_many most text things x = many_at most text things [] x.begins tt

  pub too_many_before : (most : ℕ) (text : List ℕ) (number : ℕ) (cause : LineCause)
      (first : FirstFault form text number cause) → HasTooMany form most text ↔ (most < length first.things)
  too_many_before most text number cause first =
      many_at most text first.things first.rest first.begins
      (fails_ends (stage_behind form form.first first.things) first.rest (length (lines text)) number cause first.fails)

  -- As the reader finds the first fault: few things stand before it
  pub faulty : (most : ℕ) (text : List ℕ) (things : List A) (rest : List Line) (room number : ℕ) (cause : LineCause)
      → Begins form form.first (counted_lines text) things rest → room + length things ≡ most
      → Fails form (stage_behind form form.first things) rest (length (lines text)) number cause
      → FirstFault form text number cause × (HasTooMany form most text → ⊥)
  faulty most text things rest room number cause b left fails =
      (first, λ h. over ((too_many_before most text number cause first).0 h))
    where
      first : FirstFault form text number cause
      first = record { things = things; rest = rest; begins = b; fails = fails }

      over : most < length things → ⊥
      over h = omega arith
