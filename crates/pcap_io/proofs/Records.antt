-- What stands in a record.
use Rattle.std.proofs.Common.{◌≡◌, ℕ, ◌+◌, ◌-◌, ◌≤◌, List, ◌++◌, length, take, drop, None, refl, sym, ap, ◌∙◌, arith}
use Rattle.std.proofs.Common.{append_assoc, length-append, drop-drop}
use Rattle.std.proofs.lemmas.List.{take_at, take_all, take_rest, take-append-drop, drop_at, length-drop}
use Rattle.std.proofs.lemmas.Bool.{le-ltb}
use Rattle.plain_text.specs.declared.packet.Packet.{Packet}
use Rattle.pcap_io.specs.declared.order.Order.{Order}
use Rattle.pcap_io.specs.Capture.{spelled, number, record_of, IsRecorded}
use Rattle.pcap_io.specs.Faults.{captured, record_fault}
use Rattle.plain_text.specs.Octets.{AreBytes}
use Rattle.plain_text.proofs.Octets.{AreBytes-drop}
use Rattle.pcap_io.proofs.Spelled.{spelled_4, length-spelled, number-spelled, drop-spelled}

-- the packet of the whole record that the bytes begin with
abbrev pub packet_at : Order → List ℕ → Packet
packet_at o bytes = record {
  seconds = number o 4 bytes;
  fraction = number o 4 (drop 4 bytes);
  original = number o 4 (drop 12 bytes);
  bytes = take (captured o bytes) (drop 16 bytes);
}

module _ (o : Order) (p : Packet) (more : List ℕ) where
  from_0 : record_of o p ++ more
      ≡ spelled o 4 p.seconds
      ++ (spelled o 4 p.fraction ++ (spelled o 4 (length p.bytes) ++ (spelled o 4 p.original ++ (p.bytes ++ more))))
  from_0 = simp append_assoc

  from_4 : drop 4 (record_of o p ++ more)
      ≡ spelled o 4 p.fraction ++ (spelled o 4 (length p.bytes) ++ (spelled o 4 p.original ++ (p.bytes ++ more)))
  from_4 = ap (drop 4) from_0 ∙ drop-spelled o p.seconds _

  from_8 : drop 8 (record_of o p ++ more)
      ≡ spelled o 4 (length p.bytes) ++ (spelled o 4 p.original ++ (p.bytes ++ more))
  from_8 = sym (drop-drop 4 4 (record_of o p ++ more)) ∙ ap (drop 4) from_4 ∙ drop-spelled o p.fraction _

  from_12 : drop 12 (record_of o p ++ more) ≡ spelled o 4 p.original ++ (p.bytes ++ more)
  from_12 = sym (drop-drop 4 8 (record_of o p ++ more)) ∙ ap (drop 4) from_8 ∙ drop-spelled o (length p.bytes) _

  from_16 : drop 16 (record_of o p ++ more) ≡ p.bytes ++ more
  from_16 = sym (drop-drop 4 12 (record_of o p ++ more)) ∙ ap (drop 4) from_12 ∙ drop-spelled o p.original _

  pub length-record_of : length (record_of o p) ≡ 16 + length p.bytes
  length-record_of = simp (length-append, length-spelled) (omega arith)

  module _ (recorded : IsRecorded p) where
    pub captured-record_of : captured o (record_of o p ++ more) ≡ length p.bytes
    captured-record_of =
        ap (number o 4) from_8 ∙ number-spelled o 4 (length p.bytes) _ (omega (arith, recorded.captured))

    pub packet_at-record_of : packet_at o (record_of o p ++ more) ≡ p
    packet_at-record_of =
        let seconds : number o 4 (record_of o p ++ more) ≡ p.seconds =
        ap (number o 4) from_0 ∙ number-spelled o 4 p.seconds _ recorded.seconds in
        let fraction : number o 4 (drop 4 (record_of o p ++ more)) ≡ p.fraction =
        ap (number o 4) from_4 ∙ number-spelled o 4 p.fraction _ recorded.fraction in
        let original : number o 4 (drop 12 (record_of o p ++ more)) ≡ p.original =
        ap (number o 4) from_12 ∙ number-spelled o 4 p.original _ recorded.original in
        let bytes : take (captured o (record_of o p ++ more)) (drop 16 (record_of o p ++ more)) ≡ p.bytes =
        ap (λ n. take n (drop 16 (record_of o p ++ more))) captured-record_of
        ∙ ap (take (length p.bytes)) from_16
        ∙ take_at p.bytes more (length p.bytes) refl in
        rw (seconds, fraction, original, bytes) refl

    pub rest-record_of : drop (16 + captured o (record_of o p ++ more)) (record_of o p ++ more) ≡ more
    rest-record_of =
        ap (λ n. drop (16 + n) (record_of o p ++ more)) captured-record_of
        ∙ drop_at (record_of o p) more _ length-record_of

    -- a whole record has no fault
    pub record_fault-record_of : record_fault o (record_of o p ++ more) ≡ None
    record_fault-record_of =
        let size = length-append (record_of o p) more in
        let len = length-record_of in
        let cap = captured-record_of in
        let bound = recorded.captured in
        rw (
          le-ltb (length (record_of o p ++ more)) 16 (omega arith),
          le-ltb 262144 (captured o (record_of o p ++ more)) (omega arith),
          le-ltb (length (record_of o p ++ more)) (16 + captured o (record_of o p ++ more)) (omega arith),
        ) refl

-- bytes begin with at most one record
pub same_record : (o : Order) (p q : Packet) (x y : List ℕ) → IsRecorded p → IsRecorded q
    → record_of o p ++ x ≡ record_of o q ++ y → (p ≡ q) × (x ≡ y)
same_record o p q x y of_p of_q same = (
  sym (packet_at-record_of o p x of_p) ∙ ap (packet_at o) same ∙ packet_at-record_of o q y of_q,
  sym (rest-record_of o p x of_p) ∙ ap (λ l. drop (16 + captured o l) l) same ∙ rest-record_of o q y of_q,
)

-- bytes in four parts of four
in_fours : (xs : List ℕ) → length xs ≡ 16
    → ((take 4 xs ++ take 4 (drop 4 xs)) ++ take 4 (drop 8 xs)) ++ take 4 (drop 12 xs) ≡ xs
in_fours xs sixteen =
    let last : take 4 (drop 12 xs) ≡ drop 12 xs = take_all 4 (drop 12 xs) (omega (arith, length-drop 12 xs)) in
    let third : take 4 (drop 8 xs) ++ drop 12 xs ≡ drop 8 xs =
    ap (λ l. take 4 (drop 8 xs) ++ l) (sym (drop-drop 4 8 xs)) ∙ take-append-drop 4 (drop 8 xs) in
    let second : take 4 (drop 4 xs) ++ drop 8 xs ≡ drop 4 xs =
    ap (λ l. take 4 (drop 4 xs) ++ l) (sym (drop-drop 4 4 xs)) ∙ take-append-drop 4 (drop 4 xs) in
    rw (
      last,
      append_assoc (take 4 xs ++ take 4 (drop 4 xs)) (take 4 (drop 8 xs)) (drop 12 xs),
      third,
      append_assoc (take 4 xs) (take 4 (drop 4 xs)) (drop 8 xs),
      second,
    ) (take-append-drop 4 xs)

-- a header's numbers, read from its slices, and as many bytes as it says make a record
pub spelled_record : (o : Order) (head body out : List ℕ) (seconds fraction cap original : ℕ) → length head ≡ 16
    → AreBytes head → seconds ≡ number o 4 head → fraction ≡ number o 4 (take (length head - 4) (drop 4 head))
    → cap ≡ number o 4 (take (length head - 8) (drop 8 head))
    → original ≡ number o 4 (take (length head - 12) (drop 12 head)) → length body ≡ cap → out ≡ body
    → record_of o (record { seconds = seconds; fraction = fraction; original = original; bytes = out }) ≡ head ++ body
spelled_record o head body out seconds fraction cap original sixteen bytes seconds_is fraction_is cap_is original_is
    size_is out_is =
    let part : (k : ℕ) → k + 4 ≤ 16 → (n : ℕ) → n ≡ number o 4 (take (length head - k) (drop k head))
    → spelled o 4 n ≡ take 4 (drop k head) =
    λ k room n is.
    ap (spelled o 4) (is ∙ ap (number o 4) (take_rest head k))
    ∙ spelled_4 o (drop k head) (omega (arith, length-drop k head)) (AreBytes-drop k head bytes) in
    let first : spelled o 4 seconds ≡ take 4 head =
    ap (spelled o 4) seconds_is ∙ spelled_4 o head (omega arith) bytes in
    let size : length out ≡ cap = ap length out_is ∙ size_is in
    rw (
      first,
      part 4 (omega arith) fraction fraction_is,
      size,
      part 8 (omega arith) cap cap_is,
      part 12 (omega arith) original original_is,
      out_is,
      in_fours head sixteen,
    ) refl
