-- What follows a record's header, where it is cut or too short.
use Rattle.std.proofs.Common.{◌≡◌, ℕ, ◌+◌, ◌-◌, ◌<◌, ◌≤◌, List, [], ◌++◌, length, take, Some, refl, sym, ap, subst, ◌∙◌}
use Rattle.std.proofs.Common.{arith, length-append, length-take}
use Rattle.std.proofs.lemmas.Bool.{lt-ltb, le-ltb}
use Rattle.std.proofs.Math.Seq.{take-append-add}
use Rattle.plain_text.specs.declared.limit.Limit.{Limit}
use Rattle.plain_text.specs.declared.limit.TheConstants.{MOST_CAPTURED}
use Rattle.pcap_io.specs.declared.order.Order.{Order}
use Rattle.pcap_io.specs.declared.fault.CaptureCause.TheVariants.{ShortRecord}
use Rattle.pcap_io.specs.declared.next.Next.{Next}
use Rattle.pcap_io.specs.declared.next.Next.TheVariants as next
use Rattle.pcap_io.specs.Faults.{captured, record_fault}
use Rattle.pcap_io.specs.Limits.{IsCut}
use Rattle.pcap_io.specs.Reader.{Answers}
use Rattle.pcap_io.proofs.Spelled.{number-drop}

module _ (o : Order) (head : List ℕ) (sixteen : length head ≡ 16) (most : captured o head ≤ MOST_CAPTURED) where
  -- the bytes behind a whole header are fewer than it says
  short_behind : (more : List ℕ) → length more < captured o head → record_fault o (head ++ more) ≡ Some ShortRecord
  short_behind more fewer =
      let size = length-append head more in
      let same : captured o (head ++ more) ≡ captured o head = number-drop o 4 8 head more (omega (arith, sixteen)) in
      rw (
        le-ltb (length (head ++ more)) 16 (omega arith),
        same,
        le-ltb MOST_CAPTURED (captured o head) most,
        lt-ltb (length (head ++ more)) (16 + captured o head) (omega arith),
      ) refl

  -- bytes were read of what was left, and the room ends within them
  pub cut_body : (room : ℕ) (taken rest left : List ℕ) → 16 ≤ room → length taken ≤ captured o head
      → room < 16 + length taken → left ≡ taken ++ rest → IsCut o room (head ++ left)
  cut_body room taken rest left enough within passes parts =
      let size = length-append head left in
      let all = length-append taken rest in
      let long : length left ≡ length (taken ++ rest) = ap length parts in
      let reach : length head + (room - 16) ≡ room = omega arith in
      let front : take room (head ++ left) ≡ head ++ take (room - 16) left =
      ap (λ n. take n (head ++ left)) (sym reach) ∙ take-append-add head left (room - 16) in
      let count = length-take (room - 16) left in
      (omega arith, ap (record_fault o) front ∙ short_behind (take (room - 16) left) (omega arith))

  -- all that was left was read, and is fewer bytes than the header says
  pub short_body : (offset room : ℕ) (limit : Limit) (taken rest left : List ℕ) (answer : Next)
      → 16 + length taken ≤ room → length taken < captured o head → rest ≡ [] → left ≡ taken ++ rest
      → answer ≡ next.Refused (record { offset = offset; cause = ShortRecord })
      → Answers o offset room limit (head ++ left) answer
  short_body offset room limit taken rest left answer fits fewer none parts is =
      let size = length-append head left in
      let all = length-append taken rest in
      let long : length left ≡ length (taken ++ rest) = ap length parts in
      let nothing : length rest ≡ 0 = ap length none in
      let Says : Next → Type 0 = λ a. Answers o offset room limit (head ++ left) a in
      subst Says (sym is) (
        omega arith,
        short_behind left (omega arith),
        λ cut. absurd (omega (arith, cut.0)),
        refl,
      )
