-- What a content writes into a hasher: its seconds, its fraction, and all its bytes at once; and that equal ones write
-- the same.
use Rattle.std.specs.Prelude.{◌≡◌, ℕ, ◌==◌, ◌&&◌, Bool, true, false, List, [], ◌∷◌}
use Rattle.std.specs.Hash.{le_bytes}
use Rattle.std.specs.Str.{bytes_eq}
use Rattle.std.proofs.Common.{ap, ◌∙◌}
use Rattle.std.proofs.lemmas.Bool.Decides.{Decides-eqb}
use Rattle.std.proofs.lemmas.Slice.Eq.{bytes_eq-Decides}
use Rattle.schedule_check.specs.declared.content.Content.{Content}
use Rattle.schedule_check.specs.Contents.{same_content}

abbrev pub writes : ℕ → ℕ → List ℕ → List (List ℕ)
writes seconds nanoseconds bytes = le_bytes 4 seconds ∷ le_bytes 8 nanoseconds ∷ bytes ∷ []

abbrev pub content_writes : Content → List (List ℕ)
content_writes c = writes c.seconds c.nanoseconds c.bytes.now

all_true : (a b c d : Bool) → (a && (b && (c && d))) ≡ true → (a ≡ true) × (b ≡ true) × (d ≡ true)
all_true false b c d e = absurd (cc)
all_true true false c d e = absurd (cc)
all_true true true false d e = absurd (cc)
all_true true true true d e = (cc, cc, e)

pub alike_writes : (a b : Content) → same_content a b ≡ true → content_writes a ≡ content_writes b
alike_writes a b e =
    let parts = all_true (a.seconds == b.seconds) (a.nanoseconds == b.nanoseconds) (a.original == b.original)
    (bytes_eq a.bytes.now b.bytes.now) e in
    ap (λ (n : ℕ). writes n a.nanoseconds a.bytes.now) ((Decides-eqb a.seconds b.seconds).0 parts.0)
    ∙ (ap (λ (n : ℕ). writes b.seconds n a.bytes.now) ((Decides-eqb a.nanoseconds b.nanoseconds).0 parts.1)
    ∙ ap (λ (bytes : List ℕ). writes b.seconds b.nanoseconds bytes)
    ((bytes_eq-Decides a.bytes.now b.bytes.now).0 parts.2))
