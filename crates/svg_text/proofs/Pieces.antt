-- Pieces that are put one behind another.
use Rattle.std.proofs.Common.{◌≡◌, ℕ, List, ◌++◌, ap, ◌∙◌, append_assoc}

pub three_put : (old a b c one two new : List ℕ) → one ≡ old ++ a → two ≡ one ++ b → new ≡ two ++ c
    → new ≡ old ++ (a ++ b ++ c)
three_put old a b c one two new first second third =
    third ∙ ap (λ l. l ++ c) (second ∙ ap (λ l. l ++ b) first)
    ∙ ap (λ l. l ++ c) (append_assoc old a b) ∙ append_assoc old (a ++ b) c

pub four_put : (old a b c d one two three new : List ℕ) → one ≡ old ++ a → two ≡ one ++ b → three ≡ two ++ c
    → new ≡ three ++ d → new ≡ old ++ (a ++ b ++ c ++ d)
four_put old a b c d one two three new first second third fourth =
    fourth ∙ ap (λ l. l ++ d) (three_put old a b c one two three first second third)
    ∙ append_assoc old (a ++ b ++ c) d
