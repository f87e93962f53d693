-- Words that do not begin with `tap`, and those of which the taps are wrong, ask for no taps.
use Rattle.std.proofs.Common.{◌≡◌, ◌⊎◌, ℕ, List, inl, inr, arith, subst}
use Rattle.release_taps.specs.Split.{BeginsWithTap, Splits}
use Rattle.release_taps.specs.declared.split.Split.{Split}
use Rattle.release_taps.specs.declared.split.Split.TheVariants.{Plain, Bad}
use Rattle.command_words.specs.WordPlaces.{IsUntapped}

no_tap : (words : List (List ℕ)) → ¬ BeginsWithTap words → IsUntapped words
no_tap words plain pairs asks = let some = asks.some in plain (asks.taps 0 (omega (arith, some)))

pub untapped : (words : List (List ℕ)) (split : Split) → (split ≡ Plain) ⊎ (split ≡ Bad) → Splits words split
    → IsUntapped words
untapped words split (inl plain) splits = no_tap words (subst (λ (s : Split). Splits words s) plain splits)
untapped words split (inr bad) splits = let none = subst (λ (s : Split). Splits words s) bad splits in none.1
