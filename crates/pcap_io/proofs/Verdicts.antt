-- Bytes have one verdict: a capture, a fault, or a limit that is passed.
use Rattle.std.proofs.Common.{◌≡◌, ℕ, ◌+◌, ◌-◌, ◌<◌, ◌≤◌, List, [], ◌++◌, length, take, replicate, Some, None, refl}
use Rattle.std.proofs.Common.{sym, ap, subst, ◌∙◌, arith, length-append, inl, inr}
use Rattle.std.proofs.lemmas.Bool.Decides.{nat_tests}
use Rattle.std.proofs.lemmas.List.{append-nil}
use Rattle.std.proofs.Math.Seq.{take-append-add}
use Rattle.pcap_io.specs.declared.order.Order.TheVariants.{Little}
use Rattle.plain_text.specs.declared.limit.Limit.{Limit}
use Rattle.plain_text.specs.declared.packet.Packet.{Packet}
use Rattle.plain_text.specs.declared.packet.Unit.{Unit as TimeUnit}
use Rattle.pcap_io.specs.declared.order.Order.{Order}
use Rattle.pcap_io.specs.declared.fault.CaptureCause.{CaptureCause}
use Rattle.pcap_io.specs.declared.fault.CaptureFault.{CaptureFault}
use Rattle.pcap_io.specs.declared.capture.Captured.{Captured}
use Rattle.pcap_io.specs.declared.capture.Captured.TheVariants.{Capture, Refused, TooLarge, ReadFault, NoMemory}
use Rattle.pcap_io.specs.Captured.{Says, IsDecided}
use Rattle.pcap_io.specs.Capture.{spelled, record_of, records_of, header_of, written, AreRecorded, Begins, IsCapture}
use Rattle.pcap_io.specs.Faults.{header_fault, record_fault, offset_after, IsFaultOf}
use Rattle.pcap_io.specs.Limits.{IsCut, room_at, IsWithinLimits, PassesLimit}
use Rattle.pcap_io.proofs.Headers.{same_header, header_fault-header_of, length-header_of}
use Rattle.pcap_io.proofs.Places.{Stops, same_place}
use Rattle.pcap_io.proofs.Records.{record_fault-record_of, length-record_of}

-- no record begins where nothing is left
stops_end : (o : Order) (packets bytes : ℕ) → Stops o packets bytes []
stops_end o packets bytes p more of_p is some fits =
    absurd (omega (arith, ap length is, length-append (record_of o p) more, length-record_of o p more))

-- no whole record begins where one is faulty
stops_fault : (o : Order) (packets bytes : ℕ) (rest : List ℕ) (cause : CaptureCause) → record_fault o rest ≡ Some cause
    → Stops o packets bytes rest
stops_fault o packets bytes rest cause faulty p more of_p is some fits =
    let none : record_fault o rest ≡ None = ap (record_fault o) is ∙ record_fault-record_of o p more of_p in
    cc

-- no record that fits the room begins where one needs more
stops_cut : (o : Order) (packets bytes room : ℕ) (rest : List ℕ) → (0 < packets → bytes ≤ room) → IsCut o room rest
    → Stops o packets bytes rest
stops_cut o packets bytes room rest enough cut p more of_p is some fits =
    let size = length (record_of o p) in
    let reach : size + (room - size) ≡ room = omega (arith, enough some) in
    let first : take room rest ≡ record_of o p ++ take (room - size) more =
    ap (take room) is
    ∙ ap (λ n. take n (record_of o p ++ more)) (sym reach)
    ∙ take-append-add (record_of o p) more (room - size) in
    let none : record_fault o (take room rest) ≡ None =
    ap (record_fault o) first ∙ record_fault-record_of o p (take (room - size) more) of_p in
    let short = cut.1 in
    cc

-- a reading of at most this number of packets, and of bytes of records, which stops where no other record within these
-- limits stands
pub record Reads (packets bytes : ℕ) (o : Order) (ps : List Packet) (rest : List ℕ) : Type 0 where
  pub count : length ps ≤ packets
  pub size : length (records_of o ps) ≤ bytes
  pub stops : Stops o (packets - length ps) (bytes - length (records_of o ps)) rest

-- two readings of the same bytes are one
same_reading : (packets bytes : ℕ) (all : List ℕ) (o p : Order) (u v : TimeUnit) (ps qs : List Packet) (x y : List ℕ)
    → Begins all o u ps x → Begins all p v qs y → Reads packets bytes o ps x → Reads packets bytes p qs y
    → (o ≡ p) × (u ≡ v) × (ps ≡ qs) × (x ≡ y)
same_reading packets bytes all o p u v ps qs x y first second of_ps of_qs =
    let heads = same_header o p u v first.unused second.unused _ _ first.unused_length second.unused_length
    (sym first.parts ∙ second.parts) in
    let Same : Order → Type 0 =
    λ r. Reads packets bytes r qs y → records_of o ps ++ x ≡ records_of r qs ++ y → (ps ≡ qs) × (x ≡ y) in
    let at_o : Same o = λ reads same. same_place o packets bytes ps qs x y first.each second.each of_ps.count
    reads.count of_ps.size reads.size of_ps.stops reads.stops same in
    let rest = subst Same heads.0 at_o of_qs heads.2 in
    (heads.0, heads.1, rest.0, rest.1)

-- a header that was begun with has no fault
pub header_fault-begins : (all : List ℕ) (o : Order) (u : TimeUnit) (ps : List Packet) (rest : List ℕ)
    → Begins all o u ps rest → header_fault all ≡ None
header_fault-begins all o u ps rest begins =
    ap header_fault begins.parts ∙ header_fault-header_of o u begins.unused _ begins.unused_length

-- the written form is a capture of what was written
pub written_is_capture : (u : TimeUnit) (ps : List Packet) → AreRecorded ps → IsCapture (written u ps) u ps
written_is_capture u ps each =
    let unused = replicate 8 0 ++ spelled Little 4 262144 in (
      Little,
      record {
        unused = unused;
        unused_length = refl;
        parts = ap (λ records. header_of Little u unused ++ records) (sym (append-nil (records_of Little ps)));
        each = each;
      },
    )

pub same_capture : (all : List ℕ) (u v : TimeUnit) (ps qs : List Packet) → IsCapture all u ps → IsCapture all v qs
    → (u ≡ v) × (ps ≡ qs)
same_capture all u v ps qs (o, first) (p, second) =
    let same = same_reading (length ps + length qs) (length (records_of o ps) + length (records_of p qs)) all o p u v ps
    qs [] [] first second (record { count = omega arith; size = omega arith; stops = stops_end o _ _ })
    (record { count = omega arith; size = omega arith; stops = stops_end p _ _ }) in
    (same.1, same.2)

pub capture_is_faultless : (all : List ℕ) (u : TimeUnit) (ps : List Packet) (fault : CaptureFault) → IsCapture all u ps
    → IsFaultOf all fault → ⊥
capture_is_faultless all u ps fault (o, first) (inl faulty) = let none = header_fault-begins all o u ps [] first in cc
capture_is_faultless all u ps fault (o, first) (inr f) =
    let same = same_reading (length ps + length f.before)
    (length (records_of o ps) + length (records_of f.order f.before)) all o f.order u f.unit ps f.before [] f.rest first
    f.begins (record { count = omega arith; size = omega arith; stops = stops_end o _ _ })
    (record { count = omega arith; size = omega arith; stops = stops_fault f.order _ _ f.rest fault.cause f.faulty }) in
    omega (arith, f.some, ap length same.3)

same_fault : (f g : CaptureFault) → f.offset ≡ g.offset → f.cause ≡ g.cause → f ≡ g
same_fault f g offset cause =
    let made : ◌≡◌ {A = CaptureFault} (record { offset = f.offset; cause = f.cause })
    (record { offset = g.offset; cause = g.cause }) = rw (offset, cause) refl in
    made

pub one_fault : (all : List ℕ) (f g : CaptureFault) → IsFaultOf all f → IsFaultOf all g → f ≡ g
one_fault all f g (inl first) (inl second) = cc
one_fault all f g (inl first) (inr second) =
    let none = header_fault-begins all second.order second.unit second.before second.rest second.begins in cc
one_fault all f g (inr first) (inl second) =
    let none = header_fault-begins all first.order first.unit first.before first.rest first.begins in cc
one_fault all f g (inr a) (inr b) =
    let same = same_reading (length a.before + length b.before)
    (length (records_of a.order a.before) + length (records_of b.order b.before)) all a.order b.order a.unit b.unit
    a.before b.before a.rest b.rest a.begins b.begins
    (record { count = omega arith; size = omega arith; stops = stops_fault a.order _ _ a.rest f.cause a.faulty })
    (record { count = omega arith; size = omega arith; stops = stops_fault b.order _ _ b.rest g.cause b.faulty }) in
    let causes : ◌≡◌ {A = _} (Some f.cause) (Some g.cause) = sym a.faulty ∙ rw (same.0, same.3) b.faulty in
    let offsets : f.offset ≡ g.offset = a.place ∙ rw (same.0, same.2) (sym b.place) in
    same_fault f g offsets cc

-- a reading within the limits of a capture
abbrev Limited : Order → List Packet → List ℕ → Type 0
Limited o ps rest = Reads 65536 67108840 o ps rest

limited : (o : Order) (ps : List Packet) (rest : List ℕ) → IsWithinLimits o ps
    → Stops o (65536 - length ps) (67108840 - length (records_of o ps)) rest → Limited o ps rest
limited o ps rest within stops = record { count = within.0; size = omega (arith, within.1); stops = stops }

-- behind fewer packets than the limit, the room is what is left of the file's limit
room_enough : (o : Order) (ps : List Packet) → IsWithinLimits o ps → 0 < 65536 - length ps
    → 67108840 - length (records_of o ps) ≤ room_at (length ps) (offset_after o ps)
room_enough o ps within some = grind (arith, nat_tests)

limited_passes : (all : List ℕ) (limit : Limit) (l : PassesLimit all limit) → Limited l.order l.before l.rest
limited_passes all limit l =
    limited l.order l.before l.rest l.within
    (stops_cut l.order _ _ _ l.rest (room_enough l.order l.before l.within) l.cut)

pub one_limit : (all : List ℕ) (l m : Limit) → PassesLimit all l → PassesLimit all m → l ≡ m
one_limit all l m a b =
    let same = same_reading 65536 67108840 all a.order b.order a.unit b.unit a.before b.before a.rest b.rest a.begins
    b.begins (limited_passes all l a) (limited_passes all m b) in
    a.passed ∙ rw same.2 (sym b.passed)

-- a capture within the limits passes none
pub within_passes_none : (all : List ℕ) (u : TimeUnit) (ps : List Packet) (limit : Limit) → IsCapture all u ps
    → length ps ≤ 65536 → length all ≤ 67108864 → PassesLimit all limit → ⊥
within_passes_none all u ps limit (o, first) count size l =
    let header = length-header_of o u first.unused [] first.unused_length in
    let records = length-append (records_of o ps) [] in
    let total = length-append (header_of o u first.unused) (records_of o ps ++ []) in
    let whole : offset_after o ps ≤ 67108864 = omega (arith, ap length first.parts) in
    let same = same_reading 65536 67108840 all o l.order u l.unit ps l.before [] l.rest first l.begins
    (limited o ps [] (count, whole) (stops_end o _ _)) (limited_passes all limit l) in
    omega (arith, l.cut.0, ap length same.3)

-- where a record is faulty within its room, no limit is passed
pub fault_passes_none : (all : List ℕ) (o : Order) (u : TimeUnit) (ps : List Packet) (rest : List ℕ)
    (cause : CaptureCause) (limit : Limit) → Begins all o u ps rest → IsWithinLimits o ps
    → record_fault o rest ≡ Some cause → (IsCut o (room_at (length ps) (offset_after o ps)) rest → ⊥)
    → PassesLimit all limit → ⊥
fault_passes_none all o u ps rest cause limit begins within faulty uncut l =
    let same = same_reading 65536 67108840 all o l.order u l.unit ps l.before rest l.rest begins l.begins
    (limited o ps rest within (stops_fault o _ _ rest cause faulty)) (limited_passes all limit l) in
    uncut (rw (same.0, same.2, same.3) l.cut)

-- where the header is faulty, no limit is passed
pub header_passes_none : (all : List ℕ) (fault : CaptureFault) (limit : Limit) → header_fault all ≡ Some fault
    → PassesLimit all limit → ⊥
header_passes_none all fault limit faulty l =
    let none = header_fault-begins all l.order l.unit l.before l.rest l.begins in cc

pub one_answer : (all : List ℕ) (a b : Captured) → IsDecided a → IsDecided b → Says all a → Says all b → a ≡ b
one_answer all (Capture u ps) (Capture v qs) da db sa sb =
    let same = same_capture all u v ps qs sa.capture sb.capture in rw (same.0, same.1) refl
one_answer all (Capture u ps) (Refused f) da db sa sb = absurd (capture_is_faultless all u ps f sa.capture sb.0)
one_answer all (Capture u ps) (TooLarge l) da db sa sb =
    absurd (within_passes_none all u ps l sa.capture sa.count sa.size sb)
one_answer all (Refused f) (Capture u ps) da db sa sb = absurd (capture_is_faultless all u ps f sb.capture sa.0)
one_answer all (Refused f) (Refused g) da db sa sb = ap Refused (one_fault all f g sa.0 sb.0)
one_answer all (Refused f) (TooLarge l) da db sa sb = absurd (sa.1 l sb)
one_answer all (TooLarge l) (Capture u ps) da db sa sb =
    absurd (within_passes_none all u ps l sb.capture sb.count sb.size sa)
one_answer all (TooLarge l) (Refused f) da db sa sb = absurd (sb.1 l sa)
one_answer all (TooLarge l) (TooLarge m) da db sa sb = ap TooLarge (one_limit all l m sa sb)
one_answer all ReadFault b da db sa sb = absurd da
one_answer all NoMemory b da db sa sb = absurd da
one_answer all a ReadFault da db sa sb = absurd db
one_answer all a NoMemory da db sa sb = absurd db

pub written_is_read : (u : TimeUnit) (ps : List Packet) (answer : Captured) → AreRecorded ps → length ps ≤ 65536
    → length (written u ps) ≤ 67108864 → IsDecided answer → Says (written u ps) answer → answer ≡ Capture u ps
written_is_read u ps answer each count size decided says =
    one_answer (written u ps) answer (Capture u ps) decided tt says
    (record { capture = written_is_capture u ps each; count = count; size = size })
