-- The lines of a file by a table: all are of it, or there is a first that leaves it; and that is one line, for one
-- cause.
use Rattle.std.proofs.Common.{◌≡◌, ℕ, ◌<◌, ◌≤◌, ◌+◌, ◌⊎◌, inl, inr, List, [], ◌∷◌, refl, sym, ap, ◌∙◌, subst, arith}
use Rattle.std.proofs.Common.{Option, Some, None, true, false, Bool}
use Rattle.std.proofs.lemmas.Bool.{cases_lt}
use Rattle.std.specs.Prelude.{filter, cond}
use Rattle.std.specs.List.{enumerate_from}
use Rattle.plain_text.specs.declared.fault.LineCause.{LineCause}
use Rattle.plain_text.specs.declared.fault.LineCause.TheVariants.{Twice}
use Rattle.plain_text.specs.Lines.{words_of}
use Rattle.plain_text.specs.Grammar.{Row, line_fault, Has, Says, Repeats, Leaves, AreLines, FirstToLeave, AllStand}
use Rattle.plain_text.specs.Grammar.{Lacks, FirstOfFile, Sets}
use Rattle.plain_text.proofs.Rows.{says_no_fault, no_fault_says, one_reading}

abbrev Line : Type 0
Line = ℕ × List ℕ

-- Numbers rise along the lines

abbrev pub Rising : ℕ → List Line → Type 0
Rising n [] = Unit {0}
Rising n (line ∷ lines) = (n ≤ line.0) × Rising (line.0 + 1) lines

rising_from : (n m : ℕ) (lines : List Line) → n ≤ m → Rising m lines → Rising n lines
rising_from n m [] le r = tt
rising_from n m (line ∷ lines) le r = (omega arith, r.1)

-- those of a text do
pub counted_rise : (n : ℕ) (keep : Line → Bool) (texts : List (List ℕ))
    → Rising n (filter keep (enumerate_from n texts))
counted_rise n keep [] = tt
counted_rise n keep (text ∷ texts) = by_keep (keep (n, text)) (counted_rise (n + 1) keep texts)
  where
    by_keep : (b : Bool) → Rising (n + 1) (filter keep (enumerate_from (n + 1) texts))
        → Rising n (cond b ((n, text) ∷ filter keep (enumerate_from (n + 1) texts))
        (filter keep (enumerate_from (n + 1) texts)))
    by_keep true more = (omega arith, more)
    by_keep false more = rising_from n (n + 1) (filter keep (enumerate_from (n + 1) texts)) (omega arith) more

pub from_rising : (n : ℕ) (lines : List Line) (line : Line) → Rising n lines → Has lines line → n ≤ line.0
from_rising n [] line r h = absurd h
from_rising n (first ∷ lines) line r (inl e) = let k : line.0 ≡ first.0 = ap (λ (l : Line). l.0) e in omega arith
from_rising n (first ∷ lines) line r (inr h) = let k = from_rising (first.0 + 1) lines line r.1 h in omega arith

-- so a number is one line's
pub one_line : (n : ℕ) (lines : List Line) (a b : Line) → Rising n lines → Has lines a → Has lines b → a.0 ≡ b.0 → a ≡ b
one_line n [] a b r h k e = absurd h
one_line n (first ∷ lines) a b r (inl h) (inl k) e = h ∙ sym k
one_line n (first ∷ lines) a b r (inl h) (inr k) e =
    let low = from_rising (first.0 + 1) lines b r.1 k in
    let same : a.0 ≡ first.0 = ap (λ (l : Line). l.0) h in
    absurd (omega arith)
one_line n (first ∷ lines) a b r (inr h) (inl k) e =
    let low = from_rising (first.0 + 1) lines a r.1 h in
    let same : b.0 ≡ first.0 = ap (λ (l : Line). l.0) k in
    absurd (omega arith)
one_line n (first ∷ lines) a b r (inr h) (inr k) e = one_line (first.0 + 1) lines a b r.1 h k e

module _ (rows : List Row) (lines : List Line) where
  -- a line that a row describes leaves the table only where it repeats another
  pub only_repeats : (line : Line) (row : Row) (values : List ℕ) (cause : LineCause) → Says rows line row values
      → Leaves rows lines line cause → Repeats rows lines line × (cause ≡ Twice)
  only_repeats line row values cause says (inl fault) =
      let none = says_no_fault rows (words_of line.1) row values says in
      let bad : None ≡ Some cause = sym none ∙ fault in
      absurd (cc)
  only_repeats line row values cause says (inr repeats) = repeats

  -- where all lines are of the table, none leaves it
  pub none_leaves : AreLines rows lines → (line : Line) (cause : LineCause) → Has lines line
      → Leaves rows lines line cause → ⊥
  none_leaves are line cause there leaves =
      let said = are.described line there in
      let again = (only_repeats line said.0 said.1 cause said.2 leaves).0 in
      let stood = again.stood in
      let same = are.once stood.earlier line again.row stood.values again.values stood.stands there again.once
      stood.says again.says in
      let before : stood.earlier.0 < line.0 = stood.before in
      absurd (omega arith)

  pub not_both : (number : ℕ) (cause : LineCause) → AreLines rows lines → FirstToLeave rows lines number cause → ⊥
  not_both number cause are first = none_leaves are first.line cause first.stands first.leaves

  -- and where none leaves it, all are of it
  pub all_of_table : ((line : Line) (cause : LineCause) → Has lines line → Leaves rows lines line cause → ⊥)
      → AreLines rows lines
  all_of_table stays = record { described = described; once = once }
    where
      described : (line : Line) → Has lines line → (row : Row) × (values : List ℕ) × Says rows line row values
      described line there = by_fault (line_fault rows (words_of line.1)) refl
        where
          by_fault : (f : Option LineCause) → line_fault rows (words_of line.1) ≡ f
              → (row : Row) × (values : List ℕ) × Says rows line row values
          by_fault None e = no_fault_says rows (words_of line.1) e
          by_fault (Some cause) e = absurd (stays line cause there (inl e))

      later : (a b : Line) (row : Row) (ns ms : List ℕ) → Has lines a → Has lines b → row.again ≡ false
          → Says rows a row ns → Says rows b row ms → a.0 < b.0 → ⊥
      later a b row ns ms there_a there_b single says_a says_b before =
          stays b Twice there_b (inr (
            record {
              row = row;
              values = ms;
              says = says_b;
              once = single;
              stood = record { earlier = a; values = ns; stands = there_a; before = before; says = says_a };
            },
            refl,
          ))

      once : (a b : Line) (row : Row) (ns ms : List ℕ) → Has lines a → Has lines b → row.again ≡ false
          → Says rows a row ns → Says rows b row ms → a.0 ≡ b.0
      once a b row ns ms there_a there_b single says_a says_b = by_order (cases_lt a.0 b.0) (cases_lt b.0 a.0)
        where
          by_order : (a.0 < b.0) ⊎ (b.0 ≤ a.0) → (b.0 < a.0) ⊎ (a.0 ≤ b.0) → a.0 ≡ b.0
          by_order (inl lt) o = absurd (later a b row ns ms there_a there_b single says_a says_b lt)
          by_order (inr ge) (inl lt) = absurd (later b a row ms ns there_b there_a single says_b says_a lt)
          by_order (inr ge) (inr le) = omega arith

  one_cause : (line : Line) (a b : LineCause) → Leaves rows lines line a → Leaves rows lines line b → a ≡ b
  one_cause line a b (inl e) (inl f) = let same : Some a ≡ Some b = sym e ∙ f in cc
  one_cause line a b (inl e) (inr f) =
      let none = says_no_fault rows (words_of line.1) f.0.row f.0.values f.0.says in
      let bad : None ≡ Some a = sym none ∙ e in
      absurd (cc)
  one_cause line a b (inr e) (inl f) =
      let none = says_no_fault rows (words_of line.1) e.0.row e.0.values e.0.says in
      let bad : None ≡ Some b = sym none ∙ f in
      absurd (cc)
  one_cause line a b (inr e) (inr f) = e.1 ∙ sym f.1

  -- the first line that leaves the table, and its cause, are one
  pub one_first : (n : ℕ) → Rising n lines → (x y : ℕ) (a b : LineCause) → FirstToLeave rows lines x a
      → FirstToLeave rows lines y b → (x ≡ y) × (a ≡ b)
  one_first n rising x y a b f g =
      let low = f.least g.line b g.stands g.leaves in
      let high = g.least f.line a f.stands f.leaves in
      let fx : f.line.0 ≡ x = f.numbered in
      let gy : g.line.0 ≡ y = g.numbered in
      let number : x ≡ y = omega arith in
      let line : f.line ≡ g.line = one_line n lines f.line g.line rising f.stands g.stands (fx ∙ number ∙ sym gy) in
      (number, one_cause g.line a b (subst (λ (l : Line). Leaves rows lines l a) line f.leaves) g.leaves)

  -- a row that has to stand has a line, or lacks one
  pub not_lacking : AllStand rows lines → Lacks rows lines → ⊥
  not_lacking all lacks =
      let there = all lacks.row lacks.listed lacks.required in lacks.absent there.0 there.1 there.2 there.3

  -- so a file that is whole has no fault
  pub not_in_whole : (count number : ℕ) (cause : LineCause) → AreLines rows lines → AllStand rows lines
      → FirstOfFile rows lines count number cause → ⊥
  not_in_whole count number cause are all (inl first) = not_both number cause are first
  not_in_whole count number cause are all (inr ends) = not_lacking all ends.1

  -- and a file has one
  pub one_of_file : (n count : ℕ) → Rising n lines → (x y : ℕ) (a b : LineCause) → FirstOfFile rows lines count x a
      → FirstOfFile rows lines count y b → (x ≡ y) × (a ≡ b)
  one_of_file n count rising x y a b (inl f) (inl g) = one_first n rising x y a b f g
  one_of_file n count rising x y a b (inl f) (inr ends) = absurd (not_both x a ends.0 f)
  one_of_file n count rising x y a b (inr ends) (inl g) = absurd (not_both y b ends.0 g)
  one_of_file n count rising x y a b (inr e) (inr f) = (e.2 ∙ sym f.2, e.3 ∙ sym f.3)

  -- what a row that may stand once sets are one list of values
  pub one_setting : (n : ℕ) → Rising n lines → AreLines rows lines → (row : Row) (usual a b : List ℕ)
      → row.again ≡ false → Sets rows lines row usual a → Sets rows lines row usual b → a ≡ b
  one_setting n rising are row usual a b once (inl x) (inl y) =
      let number = are.once x.0 y.0 row a b x.1 y.1 once x.2 y.2 in
      let line : x.0 ≡ y.0 = one_line n lines x.0 y.0 rising x.1 y.1 number in
      let says : Says rows y.0 row a = subst (λ (l : Line). Says rows l row a) line x.2 in
      (one_reading rows (words_of y.0.1) row row a b says y.2).1
  one_setting n rising are row usual a b once (inl x) (inr none) = absurd (none.1 x.0 a x.1 x.2)
  one_setting n rising are row usual a b once (inr none) (inl y) = absurd (none.1 y.0 b y.1 y.2)
  one_setting n rising are row usual a b once (inr x) (inr y) = x.0 ∙ sym y.0
