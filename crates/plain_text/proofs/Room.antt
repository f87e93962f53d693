-- Bytes with room in front of them.
use Rattle.std.proofs.Common.{◌≡◌, ℕ, ◌+◌, ◌-◌, List, ◌++◌, ◌∙◌, ap, length, take, drop, replicate, arith}
use Rattle.std.proofs.lemmas.List.{length-append, length-replicate, drop_at, take_all}

-- what stands behind the room of a copy
pub behind_room : (room : ℕ) (copy items bytes : List ℕ) → copy ≡ items → items ≡ replicate room 0 ++ bytes
    → take (length copy - room) (drop room copy) ≡ bytes
behind_room room copy items bytes same is =
    let long : length copy ≡ room + length bytes =
    ap length (same ∙ is)
    ∙ length-append (replicate room 0) bytes
    ∙ ap (λ (n : ℕ). n + length bytes) (length-replicate room 0) in
    ap (λ (l : List ℕ). take (length copy - room) (drop room l)) (same ∙ is)
    ∙ ap (λ (l : List ℕ). take (length copy - room) l) (drop_at (replicate room 0) bytes room (length-replicate room 0))
    ∙ take_all (length copy - room) bytes (omega (arith, long))
