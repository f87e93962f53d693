-- The packets after one packet more.
use Rattle.std.proofs.Common.{◌≡◌, ℕ, zero, suc, ◌+◌, ◌*◌, List, [], ◌∷◌, ◌++◌, length, refl, sym, ap, ◌∙◌, arith}
use Rattle.std.proofs.Common.{add-one, length-append}
use Rattle.std.specs.List.{All}
use Rattle.std.proofs.lemmas.List.Elements.{All-append}
use Rattle.plain_text.specs.declared.packet.Packet.{Packet}
use Rattle.random_words.specs.Words.{word_of}
use Rattle.traffic_gen.specs.Generated.{packet_of, generated}

pub generated-more : (seed i a b : ℕ) (packets : List Packet) (packet : Packet)
    → packets ≡ generated seed i → a ≡ word_of seed (2 * i) → b ≡ word_of seed (2 * i + 1) → packet ≡ packet_of i a b
    → packets ++ packet ∷ [] ≡ generated seed (i + 1)
generated-more seed i a b packets packet before first second made =
    let same : packet ≡ packet_of i (word_of seed (2 * i)) (word_of seed (2 * i + 1)) =
    made ∙ ap (λ (w : ℕ). packet_of i w b) first ∙ ap (λ (w : ℕ). packet_of i (word_of seed (2 * i)) w) second in
    ap (λ (ps : List Packet). ps ++ packet ∷ []) before
    ∙ ap (λ (p : Packet). generated seed i ++ p ∷ []) same
    ∙ ap (generated seed) (sym (add-one i))

pub length-generated : (seed n : ℕ) → length (generated seed n) ≡ n
length-generated seed zero = refl
length-generated seed (suc n) = simp length-append (omega (arith, length-generated seed n))

All_one : (P : Packet → Type 0) (p : Packet) → P p → All P (p ∷ [])
All_one P p holds zero d below = holds
All_one P p holds (suc k) d below = absurd (omega arith)

-- what holds of every packet that can be drawn holds of each that is
pub generated_each : (P : Packet → Type 0) → ((i a b : ℕ) → P (packet_of i a b)) → (seed n : ℕ)
    → All P (generated seed n)
generated_each P holds seed zero = λ k d below. absurd (omega arith)
generated_each P holds seed (suc n) =
    let last = packet_of n (word_of seed (2 * n)) (word_of seed (2 * n + 1)) in
    All-append P (generated seed n) (last ∷ []) (generated_each P holds seed n)
    (All_one P last (holds n (word_of seed (2 * n)) (word_of seed (2 * n + 1))))
