-- What was written is read back: a text of the lines of things is their file.
use Rattle.std.proofs.Common.{◌≡◌, ℕ, zero, suc, ◌+◌, ◌-◌, ◌==◌, arith, List, [], ◌∷◌, ◌++◌, length, refl, sym, ap, ◌∙◌}
use Rattle.std.proofs.Common.{subst, true, false, Bool, cond, append_assoc}
use Rattle.std.specs.Prelude.{◌≢◌, All, codes, filter, slice_index}
use Rattle.std.specs.List.{enumerate_from}
use Rattle.std.specs.Str.Lines.{lines, lines_of_parts, strip_carriage_return}
use Rattle.std.proofs.lemmas.Bool.Decides.{nat_tests}
use Rattle.std.proofs.lemmas.List.Elements.{All-head, All-tail}
use Rattle.plain_text.specs.Lines.{words_of, words_count, counted_from}
use Rattle.plain_text.specs.LineFiles.{LineForm, Begins, IsFile, text_of}
use Rattle.plain_text.proofs.CutLists.{some_parts}
use Rattle.plain_text.proofs.WrittenWords.{Above, cut_at, not_feed, spaced, AreWords, words_of_spaced, spaced_above}

-- Lines

never_return : (bytes : List ℕ) (i : ℕ) → Above 31 bytes → slice_index bytes i ≢ 13
never_return [] i above e = absurd (omega arith)
never_return (c ∷ bytes) zero above e = let low = above.0 in absurd (omega arith)
never_return (c ∷ bytes) (suc i) above e = never_return bytes i above.1 e

nothing_stripped : (bytes : List ℕ) → Above 31 bytes → strip_carriage_return bytes ≡ bytes
nothing_stripped bytes above =
    let other = never_return bytes (length bytes - 1) above in
    let test : (slice_index bytes (length bytes - 1) == 13) ≡ false = grind (arith, nat_tests) in
    rw test refl

first_line : (line rest : List ℕ) → Above 31 line → lines (line ++ 10 ∷ rest) ≡ line ∷ lines rest
first_line line rest above =
    let parts = some_parts (λ b. b == 10) rest in
    ap lines_of_parts (cut_at 31 (λ b. b == 10) not_feed line 10 rest above refl)
    ∙ ap (λ (ps : List (List ℕ)). lines_of_parts (line ∷ ps)) parts.2
    ∙ ap (λ (l : List ℕ). l ∷ lines_of_parts (parts.0 ∷ parts.1)) (nothing_stripped line above)
    ∙ sym (ap (λ (ps : List (List ℕ)). line ∷ lines_of_parts ps) parts.2)

-- a line is words with a space between, which count and say a thing
pub record IsSpelled {A : Type 0} (form : LineForm A) (line : List ℕ) (thing : A) : Type 0 where
  pub word : List ℕ
  pub words : List (List ℕ)
  pub spelled : line ≡ spaced (word ∷ words)
  pub are_words : AreWords (word ∷ words)
  pub counts : words_count (word ∷ words) ≡ true
  pub says : form.says (word ∷ words) thing

-- Where what is written of each thing that fits says it, a text of such lines is read back

module _ {A : Type 0} (form : LineForm A) (line : A → List ℕ) (fits : A → Type 0)
    (spells : (thing : A) → fits thing → IsSpelled form (line thing) thing) where
  words_written : (thing : A) (fit : fits thing)
      → words_of (line thing) ≡ (spells thing fit).word ∷ (spells thing fit).words
  words_written thing fit =
      let s = spells thing fit in
      ap words_of s.spelled ∙ words_of_spaced s.word s.words s.are_words

  line_above : (thing : A) → fits thing → Above 31 (line thing)
  line_above thing fit =
      let s = spells thing fit in
      subst (Above 31) (sym s.spelled) (spaced_above s.word s.words s.are_words)

  first_counted : (n : ℕ) (thing : A) (rest : List ℕ) → fits thing
      → counted_from n (line thing ++ 10 ∷ rest) ≡ (n, line thing) ∷ counted_from (n + 1) rest
  first_counted n thing rest fit =
      let counts : words_count (words_of (line thing)) ≡ true =
      ap words_count (words_written thing fit) ∙ (spells thing fit).counts in
      ap (λ (ls : List (List ℕ)). filter (λ (l : ℕ × List ℕ). words_count (words_of l.1)) (enumerate_from n ls))
      (first_line (line thing) rest (line_above thing fit))
      ∙ ap (λ (b : Bool). cond b ((n, line thing) ∷ counted_from (n + 1) rest) (counted_from (n + 1) rest)) counts

  read_from : (n : ℕ) (things : List A) → All fits things → Begins form (counted_from n (text_of line things)) things []
  read_from n [] fit = refl
  read_from n (thing ∷ things) fit =
      let first : fits thing = All-head fits thing things fit in
      let says : form.says (words_of (line thing)) thing =
      subst (λ (ws : List (List ℕ)). form.says ws thing) (sym (words_written thing first)) (spells thing first).says in
      let text : (line thing ++ codes "\n") ++ text_of line things ≡ line thing ++ 10 ∷ text_of line things =
      append_assoc (line thing) (codes "\n") (text_of line things) in
      subst (λ (ls : List (ℕ × List ℕ)). Begins form ls (thing ∷ things) [])
      (sym (ap (counted_from n) text ∙ first_counted n thing (text_of line things) first))
      (says, read_from (n + 1) things (All-tail fits thing things fit))

  pub read_back : (things : List A) → All fits things → IsFile form (text_of line things) things
  read_back things fit = read_from 1 things fit
