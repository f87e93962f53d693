-- A packet that a block gives is one that a record of a savefile can have.
use Rattle.std.proofs.Common.{◌≡◌, ℕ, zero, suc, ◌+◌, ◌*◌, ◌/◌, ◌%◌, ◌^◌, ◌<◌, ◌≤◌, ◌==◌, ◌||◌, Bool, true, false, List}
use Rattle.std.proofs.Common.{[], ◌∷◌, ◌++◌, length, take, drop, Option, Some, None, refl, sym, ap, subst, ◌∙◌, arith}
use Rattle.std.specs.Prelude.{Result, Ok, Err, ℤ, pos, negsuc, ◌+ℤ◌, nat_lt, if◌then◌else◌, slice_get, option_to_list}
use Rattle.std.specs.Prelude.{All}
use Rattle.std.proofs.lemmas.Bool.{ltb-true, ltb-false}
use Rattle.std.proofs.lemmas.List.{length-take}
use Rattle.std.proofs.lemmas.List.Elements.{All-from_recursion}
use Rattle.std.specs.List.{AllByRecursion}
use Rattle.byteorder.specs.Numbers.{big_from-lt, little_from-lt}
use Rattle.std.proofs.Math.Nat.{div-zero, div-lt_iff_lt-mul}
use Rattle.plain_text.specs.Octets.{AreBytes, IsOfBytes}
use Rattle.plain_text.proofs.Octets.{AreBytes-take, AreBytes-drop}
use Rattle.plain_text.specs.declared.packet.Packet.{Packet}
use Rattle.pcap_io.specs.declared.order.Order.{Order}
use Rattle.pcap_io.specs.declared.order.Order.TheVariants.{Little, Big}
use Rattle.pcap_io.specs.Capture.{number, IsRecorded, AreRecorded}
use Rattle.pcapng_io.specs.declared.block.Block.{Block}
use Rattle.pcapng_io.specs.declared.block.BlockKind.{BlockKind}
use Rattle.pcapng_io.specs.declared.block.BlockKind.TheVariants as kind
use Rattle.pcapng_io.specs.declared.fault.NgCause.{NgCause}
use Rattle.pcapng_io.specs.declared.fault.NgCause.TheVariants.{BadVersion, BadPacket}
use Rattle.pcapng_io.specs.declared.interface.Interface.{Interface}
use Rattle.pcapng_io.specs.Blocks.{kind_of}
use Rattle.pcapng_io.specs.Capture.{Section, Lead, IsNg}
use Rattle.pcapng_io.specs.Contents.{Content, content, gives, passes_body, enhanced_on, enhanced_at, enhanced_time}
use Rattle.pcapng_io.specs.Contents.{simple_on, captured_of}
use Rattle.pcapng_io.specs.Interfaces.{interface_in}
use Rattle.pcap_io.specs.declared.next.Next.{Next}
use Rattle.pcap_io.specs.declared.next.Next.TheVariants as capture
use Rattle.pcap_io.specs.Reader.{IsGiven, GivesBytes}
use Rattle.pcapng_io.specs.Any.{any_next}
use Rattle.pcapng_io.specs.Reader.{NgReading, Moves, section_of, GivesAny}
use Rattle.pcapng_io.proofs.Standing.{one_content, described_none}
use Rattle.pcapng_io.specs.Times.{in_32_bits, seconds_of, nanos_of}

-- the rest of a second has fewer than 10^9 nanoseconds
below_second : (r u : ℕ) → 0 < u → r < u → r * 10 ^ 9 / u < 10 ^ 9
below_second r u some below =
    let way = div-lt_iff_lt-mul {k = u} {x = r * 10 ^ 9} {y = 10 ^ 9} some in way.1 (omega arith)

nanos_small : (i : Interface) (x : ℕ) → nanos_of i x < 2 ^ 32
nanos_small i x = by_units i.units refl where
  by_units : (u : ℕ) → i.units ≡ u → nanos_of i x < 2 ^ 32
  by_units zero is = rw (is, div-zero) (omega arith)
  by_units (suc v) is =
      let small = below_second (x % suc v) (suc v) (omega arith) (omega arith) in rw is (omega (arith, small))

in_32_bits_small : (z : ℤ) (n : ℕ) → in_32_bits z ≡ Some n → n < 2 ^ 32
in_32_bits_small (pos m) n is = by_test (nat_lt m (2 ^ 32)) refl is where
  by_test : (b : Bool) → nat_lt m (2 ^ 32) ≡ b → (if b then Some m else None) ≡ Some n → n < 2 ^ 32
  by_test true test some = let same : m ≡ n = cc in omega (arith, ltb-true m (2 ^ 32) test)
  by_test false test some = cc
in_32_bits_small (negsuc m) n is = cc

number_small : (o : Order) (n : ℕ) (xs : List ℕ) → AreBytes xs → number o n xs < 256 ^ n
number_small Little n xs octets = little_from-lt 0 n xs octets
number_small Big n xs octets = big_from-lt 0 n xs octets

no_more : (captured before : ℕ) (body : List ℕ) → passes_body captured before body ≡ false → captured ≤ 262144
no_more captured before body within =
    first_test (nat_lt 262144 captured) (nat_lt (length body) (before + captured)) refl within
  where
    first_test : (a b : Bool) → nat_lt 262144 captured ≡ a → a || b ≡ false → captured ≤ 262144
    first_test true b test is = cc
    first_test false b test is = ltb-false 262144 captured test

-- a packet that a record can have, and of bytes
abbrev pub IsWhole : Packet → Type 0
IsWhole p = IsRecorded p × IsOfBytes p

module _ (o : Order) (i : Interface) (body : List ℕ) (octets : AreBytes body) (p : Packet) where
  enhanced_whole : enhanced_on o body (Some i) ≡ Ok p → IsWhole p
  enhanced_whole is = by_test (passes_body (number o 4 (drop 12 body)) 20 body) refl is where
    by_time : passes_body (number o 4 (drop 12 body)) 20 body ≡ false → (t : Option ℕ)
        → seconds_of i (enhanced_time o body) ≡ t → enhanced_at o i body t ≡ Ok p → IsWhole p
    by_time within None time is = cc
    by_time within (Some seconds) time is =
        let made : ◌≡◌ {A = Packet} (record {
          seconds = seconds;
          fraction = nanos_of i (enhanced_time o body);
          original = number o 4 (drop 16 body);
          bytes = take (number o 4 (drop 12 body)) (drop 20 body);
        }) p = cc in
        subst IsWhole made (
          record {
            seconds = in_32_bits_small (pos (enhanced_time o body / i.units) +ℤ i.offset) seconds time;
            fraction = nanos_small i (enhanced_time o body);
            original = omega (arith, number_small o 4 (drop 16 body) (AreBytes-drop 16 body octets));
            captured = omega (
              arith,
              no_more (number o 4 (drop 12 body)) 20 body within,
              length-take (number o 4 (drop 12 body)) (drop 20 body),
            );
          },
          AreBytes-take (number o 4 (drop 12 body)) (drop 20 body) (AreBytes-drop 20 body octets),
        )

    by_test : (b : Bool) → passes_body (number o 4 (drop 12 body)) 20 body ≡ b
        → (if b then Err BadPacket else enhanced_at o i body (seconds_of i (enhanced_time o body))) ≡ Ok p → IsWhole p
    by_test true test is = cc
    by_test false test is = by_time test (seconds_of i (enhanced_time o body)) refl is

  simple_whole : simple_on o body (Some i) ≡ Ok p → IsWhole p
  simple_whole is = by_test (passes_body (captured_of i (number o 4 body)) 4 body) refl is where
    by_test : (b : Bool) → passes_body (captured_of i (number o 4 body)) 4 body ≡ b
        → (if b then Err BadPacket else Ok (record {
          seconds = 0;
          fraction = 0;
          original = number o 4 body;
          bytes = take (captured_of i (number o 4 body)) (drop 4 body);
        }))
        ≡ Ok p → IsWhole p
    by_test true test is = cc
    by_test false test is =
        let made : ◌≡◌ {A = Packet} (record {
          seconds = 0;
          fraction = 0;
          original = number o 4 body;
          bytes = take (captured_of i (number o 4 body)) (drop 4 body);
        }) p = cc in
        subst IsWhole made (
          record {
            seconds = omega arith;
            fraction = omega arith;
            original = omega (arith, number_small o 4 body octets);
            captured = omega (
              arith,
              no_more (captured_of i (number o 4 body)) 4 body test,
              length-take (captured_of i (number o 4 body)) (drop 4 body),
            );
          },
          AreBytes-take (captured_of i (number o 4 body)) (drop 4 body) (AreBytes-drop 4 body octets),
        )

given_is : (interfaces : List Interface) (r : Result Packet NgCause) (c : Content) (p : Packet)
    → gives interfaces r ≡ Ok c → c.packet ≡ Some p → r ≡ Ok p
given_is interfaces (Ok q) c p is some =
    let same : record { interfaces = interfaces; packet = Some q } ≡ c = cc in
    let packets : ◌≡◌ {A = Option Packet} (Some q) (Some p) = ap (λ (d : Content). d.packet) same ∙ some in
    let both : q ≡ p = cc in
    ap Ok both
given_is interfaces (Err cause) c p is some = cc

enhanced_found : (o : Order) (body : List ℕ) → AreBytes body → (p : Packet) (found : Option Interface)
    → enhanced_on o body found ≡ Ok p → IsWhole p
enhanced_found o body octets p None is = cc
enhanced_found o body octets p (Some i) is = enhanced_whole o i body octets p is

simple_found : (o : Order) (body : List ℕ) → AreBytes body → (p : Packet) (found : Option Interface)
    → simple_on o body found ≡ Ok p → IsWhole p
simple_found o body octets p None is = cc
simple_found o body octets p (Some i) is = simple_whole o i body octets p is

pub content_whole : (o : Order) (interfaces : List Interface) (k : BlockKind) (body : List ℕ) (c : Content) (p : Packet)
    → AreBytes body → content o interfaces k body ≡ Ok c → c.packet ≡ Some p → IsWhole p
content_whole o interfaces kind.Section body c p octets is some =
    let none : None ≡ c.packet = ap (λ (d : Content). d.packet)
    (one_content (number o 2 (drop 4 body) == 1) (record { interfaces = []; packet = None }) BadVersion c is) in
    cc
content_whole o interfaces kind.Interface body c p octets is some =
    let none = described_none interfaces (interface_in o body) c is in cc
content_whole o interfaces kind.Simple body c p octets is some =
    simple_found o body octets p (slice_get interfaces 0) (given_is interfaces _ c p is some)
content_whole o interfaces kind.Enhanced body c p octets is some =
    enhanced_found o body octets p (slice_get interfaces (number o 4 body)) (given_is interfaces _ c p is some)
content_whole o interfaces kind.Other body c p octets is some =
    let same : record { interfaces = interfaces; packet = None } ≡ c = cc in
    let none : None ≡ c.packet = ap (λ (d : Content). d.packet) same in cc

more_whole : (packet : Option Packet) (others : List Packet) → ((p : Packet) → packet ≡ Some p → IsWhole p)
    → AreRecorded others × AllByRecursion IsOfBytes others
    → AreRecorded (option_to_list packet ++ others) × AllByRecursion IsOfBytes (option_to_list packet ++ others)
more_whole None others one rest = rest
more_whole (Some p) others one rest = (((one p refl).0, rest.0), ((one p refl).1, rest.1))

pub lead_whole : (s t : Section) (bs : List Block) (ps : List Packet) → Lead s bs ps t
    → AreRecorded ps × AllByRecursion IsOfBytes ps
lead_whole s t [] ps lead =
    let Whole : List Packet → Type 0 = λ l. AreRecorded l × AllByRecursion IsOfBytes l in
    subst Whole (sym lead.0) (tt, tt)
lead_whole s t (b ∷ bs) ps lead =
    let Whole : List Packet → Type 0 = λ l. AreRecorded l × AllByRecursion IsOfBytes l in
    let follows = lead.3 in
    subst Whole (sym lead.5) (more_whole lead.0 lead.2
    (λ p some. content_whole b.order s.interfaces (kind_of b.number) b.body
    (record { interfaces = lead.1.interfaces; packet = lead.0 }) p follows.framed.octets follows.content some)
    (lead_whole lead.1 t bs lead.2 lead.4))

pub ng_whole : (all : List ℕ) (ps : List Packet) → IsNg all ps → AreRecorded ps × All IsOfBytes ps
ng_whole all ps c =
    let whole = lead_whole _ c.last c.passes.blocks ps c.passes.lead in
    (whole.0, All-from_recursion IsOfBytes ps whole.1)

-- a reader that moved by one packet
pub moves_whole : {S : Type 0} (reads : S → List ℕ → S → Type 0) (old new : S) (from to : NgReading) (p : Packet)
    → Moves reads old new from to (p ∷ []) → IsWhole p
moves_whole reads old new from to p moves =
    let whole = lead_whole (section_of from) (section_of to) moves.passes.blocks (p ∷ []) moves.passes.lead in
    (whole.0.0, whole.1.0)

-- an answer of the reader of savefiles
pub any_gives : (room : ℕ) (n : Next) → IsGiven room n → GivesBytes n → GivesAny (any_next n)
any_gives room (capture.Packet p) given octets = (given.0, octets)
any_gives room capture.End given octets = tt
any_gives room (capture.Refused f) given octets = tt
any_gives room (capture.TooLarge l) given octets = tt
any_gives room capture.ReadFault given octets = tt
any_gives room capture.NoMemory given octets = tt
any_gives room capture.Over given octets = tt
