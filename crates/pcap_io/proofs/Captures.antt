-- A capture that is read packet by packet.
use Rattle.std.proofs.Common.{◌≡◌, ℕ, ◌+◌, ◌<◌, ◌≤◌, false, List, [], ◌∷◌, ◌++◌, length, refl, sym, ap, subst, ◌∙◌}
use Rattle.std.proofs.Common.{arith, append_assoc, length-append, inr}
use Rattle.std.proofs.lemmas.Bool.Decides.{nat_tests}
use Rattle.std.proofs.lemmas.List.{append-nil, length_push}
use Rattle.plain_text.specs.declared.limit.Limit.{Limit}
use Rattle.plain_text.specs.declared.packet.Packet.{Packet}
use Rattle.plain_text.specs.declared.packet.Unit.{Unit as TimeUnit}
use Rattle.pcap_io.specs.declared.capture.Captured.TheVariants.{Refused, TooLarge}
use Rattle.pcap_io.specs.declared.fault.CaptureFault.{CaptureFault}
use Rattle.pcap_io.specs.declared.next.Next.TheVariants as next
use Rattle.pcap_io.specs.declared.order.Order.{Order}
use Rattle.pcap_io.specs.Capture.{header_of, record_of, records_of, AreRecorded, IsRecorded, Begins}
use Rattle.pcap_io.specs.Captured.{Says, IsCaptureWithin}
use Rattle.pcap_io.specs.Faults.{offset_after}
use Rattle.pcap_io.specs.Limits.{IsWithinLimits, room_at, limit_at}
use Rattle.pcap_io.specs.Reader.{AnswersAt, IsGiven, after}
use Rattle.pcap_io.specs.Reading.{Reading}
use Rattle.pcap_io.proofs.Records.{length-record_of}
use Rattle.pcap_io.proofs.Headers.{length-header_of}
use Rattle.pcap_io.proofs.Verdicts.{fault_passes_none}

-- a reader stands behind the records of these packets
pub record StandsAt (r : Reading) (packets : List Packet) : Type 0 where
  pub count : r.count ≡ length packets
  pub offset : r.offset ≡ offset_after r.order packets
  pub each : AreRecorded packets
  pub within : IsWithinLimits r.order packets
  pub running : r.over ≡ false

-- a header and the records of these packets were taken
pub record HasRead {S : Type 0} (reads : S → List ℕ → S → Type 0) (old new : S) (o : Order) (u : TimeUnit)
    (packets : List Packet) : Type 0 where
  pub unused : List ℕ
  pub unused_length : length unused ≡ 12
  pub taken : reads old (header_of o u unused ++ records_of o packets) new

records_of-push : (o : Order) (ps : List Packet) (p : Packet)
    → records_of o (ps ++ p ∷ []) ≡ records_of o ps ++ record_of o p
records_of-push o [] p = append-nil (record_of o p)
records_of-push o (q ∷ qs) p =
    ap (λ records. record_of o q ++ records) (records_of-push o qs p)
    ∙ sym (append_assoc (record_of o q) (records_of o qs) (record_of o p))

AreRecorded-push : (ps : List Packet) (p : Packet) → AreRecorded ps → IsRecorded p → AreRecorded (ps ++ p ∷ [])
AreRecorded-push [] p each one = (one, tt)
AreRecorded-push (q ∷ qs) p each one = (each.0, AreRecorded-push qs p each.1 one)

-- a packet that fits the room keeps the limits
room_for : (count offset size : ℕ) → count ≤ 65536 → offset ≤ 67108864 → 0 < size → size ≤ room_at count offset
    → (count + 1 ≤ 65536) × (offset + size ≤ 67108864)
room_for count offset size count_in offset_in some fits = (grind (arith, nat_tests), grind (arith, nat_tests))

-- one packet on
pub stands_on : (r further : Reading) (ps qs : List Packet) (p : Packet) → StandsAt r ps
    → further ≡ after r (next.Packet p) → qs ≡ ps ++ p ∷ [] → IsGiven (room_at r.count r.offset) (next.Packet p)
    → StandsAt further qs
stands_on r further ps qs p stands further_is qs_is given =
    let count = length_push ps p in
    let size = ap length (records_of-push r.order ps p) in
    let sum = length-append (records_of r.order ps) (record_of r.order p) in
    let one = length-record_of r.order p [] in
    let room : (r.count + 1 ≤ 65536) × (r.offset + (16 + length p.bytes) ≤ 67108864) =
    room_for r.count r.offset (16 + length p.bytes) (omega (arith, stands.count, stands.within.0))
    (omega (arith, stands.offset, stands.within.1)) (omega arith) given.1 in
    rw (further_is, qs_is) (record {
      count = omega (arith, stands.count);
      offset = omega (arith, stands.offset);
      each = AreRecorded-push ps p stands.each given.0;
      within = (omega (arith, stands.count), omega (arith, stands.offset));
      running = stands.running;
    })

-- what an answer says of all the bytes
module _ (r : Reading) (ps : List Packet) (all left : List ℕ) (stands : StandsAt r ps)
    (begins : Begins all r.order r.unit ps left) where
  pub refused_says : (fault : CaptureFault) → AnswersAt r left (next.Refused fault) → Says all (Refused fault)
  refused_says fault answer = (
    inr (record {
      order = r.order;
      unit = r.unit;
      before = ps;
      rest = left;
      begins = begins;
      some = answer.0;
      faulty = answer.1;
      place = answer.3 ∙ stands.offset;
    }),
    λ limit passes. fault_passes_none all r.order r.unit ps left fault.cause limit begins stands.within answer.1
        (rw (← stands.count, ← stands.offset) answer.2) passes,
  )

  pub too_large_says : (limit : Limit) → AnswersAt r left (next.TooLarge limit) → Says all (TooLarge limit)
  too_large_says limit answer = record {
    order = r.order;
    unit = r.unit;
    before = ps;
    rest = left;
    begins = begins;
    within = stands.within;
    cut = rw (← stands.count, ← stands.offset) answer.0;
    passed = answer.1 ∙ ap limit_at stands.count;
  }

  pub begun_capture : left ≡ [] → IsCaptureWithin all r.unit ps
  begun_capture none =
      let header = length-header_of r.order r.unit begins.unused [] begins.unused_length in
      let total = length-append (header_of r.order r.unit begins.unused) (records_of r.order ps ++ left) in
      let records = length-append (records_of r.order ps) left in
      record {
        capture = (r.order, rw none at begins);
        count = stands.within.0;
        size = omega (arith, ap length begins.parts, ap length none, stands.within.1);
      }

pub begins_read : (o : Order) (u : TimeUnit) (ps : List Packet) (unused all left : List ℕ) → length unused ≡ 12
    → AreRecorded ps → all ≡ (header_of o u unused ++ records_of o ps) ++ left → Begins all o u ps left
begins_read o u ps unused all left twelve each parts = record {
  unused = unused;
  unused_length = twelve;
  parts = parts ∙ append_assoc (header_of o u unused) (records_of o ps) left;
  each = each;
}

module _ {S : Type 0} (reads : S → List ℕ → S → Type 0)
    (reads_more : (a b c : S) (first more : List ℕ) → reads a first b → reads b more c → reads a (first ++ more) c)
    (old now new : S) where
  pub has_read_on : (r further : Reading) (ps qs : List Packet) (p : Packet) → HasRead reads old now r.order r.unit ps
      → further ≡ after r (next.Packet p) → qs ≡ ps ++ p ∷ [] → reads now (record_of r.order p) new
      → HasRead reads old new further.order further.unit qs
  has_read_on r further ps qs p has further_is qs_is more =
      let Taken : List ℕ → Type 0 = λ taken. reads old taken new in
      let parts = append_assoc (header_of r.order r.unit has.unused) (records_of r.order ps) (record_of r.order p)
      ∙ ap (λ records. header_of r.order r.unit has.unused ++ records) (sym (records_of-push r.order ps p)) in
      rw (further_is, qs_is) (record {
        unused = has.unused;
        unused_length = has.unused_length;
        taken = subst Taken parts (reads_more old now new _ _ has.taken more);
      })

  -- all that was taken
  pub taken_more : (o : Order) (u : TimeUnit) (ps : List Packet) → HasRead reads old now o u ps
      → (more : List ℕ) × reads now more new → (taken : List ℕ) × reads old taken new
  taken_more o u ps has more = (_, reads_more old now new _ _ has.taken more.1)

  pub taken_capture : (r : Reading) (ps : List Packet) → StandsAt r ps → HasRead reads old now r.order r.unit ps
      → reads now [] new → (bytes : List ℕ) × reads old bytes new × IsCaptureWithin bytes r.unit ps
  taken_capture r ps stands has nothing = (
    _,
    reads_more old now new _ _ has.taken nothing,
    begun_capture r ps _ [] stands
        (begins_read r.order r.unit ps has.unused _ [] has.unused_length stands.each refl) refl,
  )
