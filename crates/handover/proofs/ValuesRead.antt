-- The values of a line's words: read one by one, and put behind those before.
use Rattle.std.proofs.Common.{◌≡◌, ℕ, ◌+◌, ◌<◌, List, [], ◌∷◌, ◌++◌, length, take, drop, set, get_or, refl, sym, ap}
use Rattle.std.proofs.Common.{◌∙◌, Ok, Err, append_assoc}
use Rattle.std.specs.Prelude.{Result, map}
use Rattle.std.proofs.lemmas.List.{drop_more, take_more_set}
use Rattle.plain_text.specs.declared.fault.LineCause.{LineCause}
use Rattle.plain_text.specs.declared.fault.LineCause.TheVariants.{MissingWord}
use Rattle.plain_text.specs.Grammar.{value_at}
use Rattle.line_tables.specs.Parts.{onto_values, and_values, value_or_misfit, values_at}
use Rattle.handover.specs.declared.values.Part.{Part}
use Rattle.handover.specs.declared.values.Part.TheVariants.{One}
use Rattle.handover.specs.Table.{place_of}

-- values, and then those of a result
abbrev pub behind : List ℕ → Result (List ℕ) LineCause → Result (List ℕ) LineCause
behind values (Ok more) = Ok (values ++ more)
behind values (Err cause) = Err cause

behind_one : (values : List ℕ) (n : ℕ) (more : Result (List ℕ) LineCause)
    → behind (values ++ n ∷ []) more ≡ behind values (onto_values n more)
behind_one values n (Ok more) = ap Ok (append_assoc values (n ∷ []) more)
behind_one values n (Err cause) = refl

-- where no word is left at a place
pub missing : (values : List ℕ) (parts : List Part) (i : ℕ) (words : List (List ℕ)) (r : Result (List ℕ) LineCause)
    → i < length parts → words ≡ [] → behind values (values_at (map place_of (drop i parts)) words) ≡ r
    → r ≡ Err MissingWord
missing values parts i words r less none e =
    sym e
    ∙ ap (λ (ps : List Part). behind values (values_at (map place_of ps) words)) (drop_more parts i One less)
    ∙ ap (λ (ws : List (List ℕ)).
    behind values (values_at (map place_of (get_or parts i One ∷ drop (i + 1) parts)) ws)) none

-- one more value
pub one_more : (values : List ℕ) (parts : List Part) (i n : ℕ) (word : List ℕ) (words left : List (List ℕ))
    (r : Result (List ℕ) LineCause) → i < length parts → i < length values → words ≡ word ∷ left
    → value_or_misfit (place_of (get_or parts i One)) (value_at (place_of (get_or parts i One)) word)
    ≡ Ok n → behind (take i values) (values_at (map place_of (drop i parts)) words) ≡ r
    → behind (take (i + 1) (set values i n)) (values_at (map place_of (drop (i + 1) parts)) left) ≡ r
one_more values parts i n word words left r less room front value e =
    ap (λ (vs : List ℕ). behind vs (values_at (map place_of (drop (i + 1) parts)) left))
    (take_more_set values i n room)
    ∙ behind_one (take i values) n (values_at (map place_of (drop (i + 1) parts)) left)
    ∙ sym (ap (λ (v : Result ℕ LineCause).
    behind (take i values) (and_values v (values_at (map place_of (drop (i + 1) parts)) left))) value)
    ∙ sym (ap (λ (ws : List (List ℕ)).
    behind (take i values) (values_at (map place_of (get_or parts i One ∷ drop (i + 1) parts)) ws)) front)
    ∙ sym (ap (λ (ps : List Part). behind (take i values) (values_at (map place_of ps) words))
    (drop_more parts i One less))
    ∙ e
