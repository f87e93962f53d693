-- Two readings of the same bytes stop at the same place.
use Rattle.std.proofs.Common.{◌≡◌, ℕ, ◌-◌, ◌<◌, ◌≤◌, List, [], ◌∷◌, ◌++◌, length, refl, sym, ap, ◌∙◌, arith}
use Rattle.std.proofs.Common.{append_assoc, length-append}
use Rattle.plain_text.specs.declared.packet.Packet.{Packet}
use Rattle.pcap_io.specs.declared.order.Order.{Order}
use Rattle.pcap_io.specs.Capture.{record_of, records_of, IsRecorded, AreRecorded}
use Rattle.pcap_io.proofs.Records.{same_record}

-- no record of at most `bytes` bytes stands here, where at most `packets` may follow
abbrev pub Stops : Order → ℕ → ℕ → List ℕ → Type 0
Stops o packets bytes rest =
    (p : Packet) (more : List ℕ) → IsRecorded p → rest ≡ record_of o p ++ more → 0 < packets
    → length (record_of o p) ≤ bytes → ⊥

-- of packets that are within these limits
pub same_place : (o : Order) (packets bytes : ℕ) (ps qs : List Packet) (x y : List ℕ) → AreRecorded ps → AreRecorded qs
    → length ps ≤ packets → length qs ≤ packets → length (records_of o ps) ≤ bytes → length (records_of o qs) ≤ bytes
    → Stops o (packets - length ps) (bytes - length (records_of o ps)) x
    → Stops o (packets - length qs) (bytes - length (records_of o qs)) y → records_of o ps ++ x ≡ records_of o qs ++ y
    → (ps ≡ qs) × (x ≡ y)
same_place o packets bytes [] [] x y of_ps of_qs ps_count qs_count ps_size qs_size x_stops y_stops same = (refl, same)
same_place o packets bytes [] (q ∷ qs) x y of_ps of_qs ps_count qs_count ps_size qs_size x_stops y_stops same =
    let size = length-append (record_of o q) (records_of o qs) in
    absurd (x_stops q (records_of o qs ++ y) of_qs.0 (same ∙ append_assoc (record_of o q) (records_of o qs) y)
    (omega arith) (omega arith))
same_place o packets bytes (p ∷ ps) [] x y of_ps of_qs ps_count qs_count ps_size qs_size x_stops y_stops same =
    let size = length-append (record_of o p) (records_of o ps) in
    absurd (y_stops p (records_of o ps ++ x) of_ps.0 (sym same ∙ append_assoc (record_of o p) (records_of o ps) x)
    (omega arith) (omega arith))
same_place o packets bytes (p ∷ ps) (q ∷ qs) x y of_ps of_qs ps_count qs_count ps_size qs_size x_stops y_stops same =
    let of_p = length-append (record_of o p) (records_of o ps) in
    let of_q = length-append (record_of o q) (records_of o qs) in
    let first = same_record o p q _ _ of_ps.0 of_qs.0 (sym (append_assoc (record_of o p) (records_of o ps) x)
    ∙ same
    ∙ append_assoc (record_of o q) (records_of o qs) y) in
    let heads : length (record_of o p) ≡ length (record_of o q) = ap (λ r. length (record_of o r)) first.0 in
    let rest =
    same_place o (packets - 1) (bytes - length (record_of o p)) ps qs x y of_ps.1 of_qs.1 (omega arith) (omega arith)
    (omega arith) (omega arith) (λ r more is at some fits. x_stops r more is at (omega arith) (omega arith))
    (λ r more is at some fits. y_stops r more is at (omega arith) (omega arith)) first.1 in
    (cc, rest.1)
