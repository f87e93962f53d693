-- A capture of either format that is read packet by packet.
use Rattle.std.proofs.Common.{◌≡◌, ℕ, ◌≤◌, true, false, List, [], ◌∷◌, ◌++◌, length, refl, sym, ap, subst, ◌∙◌, arith}
use Rattle.std.proofs.Common.{append_assoc, length-append, inl}
use Rattle.std.proofs.lemmas.List.{append-nil}
use Rattle.plain_text.specs.declared.limit.Limit.{Limit}
use Rattle.plain_text.specs.declared.packet.Packet.{Packet}
use Rattle.plain_text.specs.declared.packet.Unit.{Unit as TimeUnit}
use Rattle.plain_text.specs.declared.packet.Unit.TheVariants.{Nano}
use Rattle.pcap_io.specs.declared.capture.Captured.{Captured}
use Rattle.pcap_io.specs.declared.capture.Captured.TheVariants as captured
use Rattle.pcap_io.specs.declared.next.Next.{Next}
use Rattle.pcap_io.specs.declared.next.Next.TheVariants as capture
use Rattle.pcap_io.specs.Capture.{Begins, AreRecorded}
use Rattle.pcap_io.specs.Captured.{Says}
use Rattle.pcap_io.specs.Limits.{room_at}
use Rattle.pcap_io.specs.Reader.{Takes, IsGiven, after, AnswersAt}
use Rattle.pcap_io.specs.Reading.{Reading}
use Rattle.pcap_io.proofs.Captures.{StandsAt, HasRead, stands_on, has_read_on, refused_says, too_large_says}
use Rattle.pcap_io.proofs.Captures.{begun_capture, begins_read}
use Rattle.pcap_io.proofs.Verdicts.{header_passes_none}
use Rattle.pcapng_io.specs.declared.any.Format.{Format}
use Rattle.pcapng_io.specs.declared.any.Format.TheVariants as form
use Rattle.pcapng_io.specs.declared.any.AnyStarted.TheVariants as started
use Rattle.pcapng_io.specs.declared.capture.AnyCaptured.{AnyCaptured}
use Rattle.pcapng_io.specs.declared.capture.AnyCaptured.TheVariants as any
use Rattle.pcapng_io.specs.declared.fault.AnyFault.{AnyFault}
use Rattle.pcapng_io.specs.declared.fault.AnyFault.TheVariants as fault
use Rattle.pcapng_io.specs.declared.fault.NgFault.{NgFault}
use Rattle.pcapng_io.specs.declared.next.AnyNext.{AnyNext}
use Rattle.pcapng_io.specs.declared.next.AnyNext.TheVariants as next
use Rattle.pcapng_io.specs.declared.place.Stop.{Stop}
use Rattle.pcapng_io.specs.declared.place.Stop.TheVariants as stop
use Rattle.pcapng_io.specs.Any.{any_next, first_reading, unit_of, StartsAny, TakesStart, AnswersAny, TakesAny}
use Rattle.pcapng_io.specs.Capture.{Section, Passes, Reaches, no_section, begins_ng, IsNgFault}
use Rattle.pcapng_io.specs.Limits.{limit_behind}
use Rattle.pcapng_io.specs.Captured.{SaysNg, SaysAny, any_captured}
use Rattle.pcapng_io.specs.Reader.{NgReading, Moves, section_of, StopsAt, StopsBehind}
use Rattle.pcapng_io.specs.Stops.{held_type}
use Rattle.pcapng_io.proofs.Readings.{Moves-none, Moves-more, Passes-more}
use Rattle.pcapng_io.proofs.Recorded.{lead_whole}
use Rattle.pcapng_io.proofs.Verdicts.{fault_passes_none}

-- from the first type on, these packets were read
pub record HasReadNg {S : Type 0} (reads : S → List ℕ → S → Type 0) (old now : S) (r : NgReading)
    (ps : List Packet) : Type 0 where
  pub begun : S
  pub first : reads old (held_type true) begun
  pub moves : Moves reads begun now first_reading r ps
  pub running : r.over ≡ false
  pub few : r.count ≤ 65536
  pub small : r.offset ≤ 67108864

pub record HasReadSavefile {S : Type 0} (reads : S → List ℕ → S → Type 0) (old now : S) (r : Reading)
    (ps : List Packet) : Type 0 where
  pub stands : StandsAt r ps
  pub taken : HasRead reads old now r.order r.unit ps

abbrev pub HasReadAny : {S : Type 0} → (S → List ℕ → S → Type 0) → S → S → Format → List Packet → Type 0
HasReadAny reads old now (form.Capture r) ps = HasReadSavefile reads old now r ps
HasReadAny reads old now (form.Ng r) ps = HasReadNg reads old now r ps

-- the format is that of the first bytes
abbrev pub IsFormatOf : List ℕ → Format → Type 0
IsFormatOf all (form.Capture r) = begins_ng all ≡ false
IsFormatOf all (form.Ng r) = begins_ng all ≡ true

packet_next : (p : Packet) (n : Next) → next.Packet p ≡ any_next n → n ≡ capture.Packet p
packet_next p (capture.Packet q) is = let same : p ≡ q = cc in ap capture.Packet (sym same)
packet_next p capture.End is = cc
packet_next p (capture.Refused f) is = cc
packet_next p (capture.TooLarge l) is = cc
packet_next p capture.ReadFault is = cc
packet_next p capture.NoMemory is = cc
packet_next p capture.Over is = cc

module _ {S : Type 0} (reads : S → List ℕ → S → Type 0) (reads_nothing : (s : S) → reads s [] s) (reads_more : (a
    b c : S) (first more : List ℕ) → reads a first b → reads b more c → reads a (first ++ more) c) where
  -- a reader that begins
  pub any_begins : (old new : S) (f : Format) → TakesStart reads (started.Reader f) old new
      → HasReadAny reads old new f []
  any_begins old new (form.Capture r) takes =
      let header = takes.0 in
      let fresh = takes.1 in
      let Taken : List ℕ → Type 0 = λ l. reads old l new in
      record {
        stands = record {
          count = fresh.1;
          offset = omega (arith, fresh.0);
          each = tt;
          within = (omega arith, omega arith);
          running = fresh.2;
        };
        taken =
            record { unused = header.0; unused_length = header.1; taken = subst Taken (sym (append-nil _)) header.2 };
      }
  any_begins old new (form.Ng r) takes =
      let Has : NgReading → Type 0 = λ q. HasReadNg reads old new q [] in
      subst Has (sym takes.1) (record {
        begun = new;
        first = takes.0;
        moves = Moves-none reads reads_nothing new first_reading;
        running = refl;
        few = omega arith;
        small = omega arith;
      })

  -- one packet on
  pub any_on : (old now new : S) (f g : Format) (ps qs : List Packet) (p : Packet) → qs ≡ ps ++ p ∷ []
      → HasReadAny reads old now f ps → TakesAny reads (next.Packet p) now new f g → HasReadAny reads old new g qs
  any_on old now new (form.Capture r) g ps qs p qs_is has (n, is, takes, to, given) =
      let same = packet_next p n is in
      let Took : Next → Type 0 = λ m. Takes reads r.order m now new in
      let Given : Next → Type 0 = λ m. IsGiven (room_at r.count r.offset) m in
      let Has : Format → Type 0 = λ h. HasReadAny reads old new h qs in
      subst Has (sym (to ∙ ap (λ m. form.Capture (after r m)) same)) (record {
        stands = stands_on r (after r (capture.Packet p)) ps qs p has.stands refl qs_is (subst Given same given);
        taken = has_read_on reads reads_more old now new r (after r (capture.Packet p)) ps qs p has.taken refl qs_is
            (subst Took same takes);
      })
  any_on old now new (form.Ng r) g ps qs p qs_is has (q, to, takes, few, small) =
      let Has : Format → Type 0 = λ h. HasReadAny reads old new h qs in
      let Packets : List Packet → Type 0 = λ l. HasReadNg reads old new q l in
      let on : HasReadNg reads old new q (ps ++ p ∷ []) = record {
        begun = has.begun;
        first = has.first;
        moves = Moves-more reads reads_more has.begun now new first_reading r q ps (p ∷ []) has.moves takes.0;
        running = takes.1;
        few = few;
        small = small;
      } in
      subst Has (sym to) (subst Packets (sym qs_is) on)

-- no more packets than the limit
pub any_few : {S : Type 0} (reads : S → List ℕ → S → Type 0) (old now : S) (f : Format) (ps : List Packet)
    → HasReadAny reads old now f ps → length ps ≤ 65536
any_few reads old now (form.Capture r) ps has = has.stands.within.0
any_few reads old now (form.Ng r) ps has = omega (arith, has.few, has.moves.count)

pub format_start : (all : List ℕ) (f : Format) → StartsAny all (started.Reader f) → IsFormatOf all f
format_start all (form.Capture r) starts = starts.0
format_start all (form.Ng r) starts = starts

pub format_on : {S : Type 0} (reads : S → List ℕ → S → Type 0) (now new : S) (all : List ℕ) (f g : Format)
    (answer : AnyNext) → IsFormatOf all f → TakesAny reads answer now new f g → IsFormatOf all g
format_on reads now new all (form.Capture r) g answer is takes =
    let Is : Format → Type 0 = λ h. IsFormatOf all h in subst Is (sym takes.3) is
format_on reads now new all (form.Ng r) g answer is takes =
    let Is : Format → Type 0 = λ h. IsFormatOf all h in subst Is (sym takes.1) is

other_format : (all : List ℕ) → begins_ng all ≡ true → begins_ng all ≡ false → ⊥
other_format all is_ng is_other = cc

ng_says : (all : List ℕ) (answer : AnyCaptured) → begins_ng all ≡ true → SaysNg all answer → SaysAny all answer
ng_says all answer is_ng says =
    record { ng = λ _. says; savefile = λ is_other. absurd (other_format all is_ng is_other) }

pub refused_start : (all : List ℕ) (f : AnyFault) → StartsAny all (started.Refused f) → SaysAny all (any.Refused f)
refused_start all (fault.Capture f) starts = record {
  ng = λ is_ng. absurd (other_format all is_ng starts.0);
  savefile =
      λ _. (captured.Refused f, refl, (inl starts.1, λ limit passes. header_passes_none all f limit starts.1 passes));
}
refused_start all (fault.Ng f) starts = absurd starts

-- the place that a reader of a pcapng capture has reached
record ReachedNg (all : List ℕ) (r : NgReading) (ps : List Packet) (left : List ℕ) : Type 0 where
  begins : begins_ng all ≡ true
  passed : List ℕ
  passes : Passes no_section passed ps (section_of r)
  parts : all ≡ passed ++ (held_type r.typed ++ left)
  offset : r.offset ≡ length passed
  count : r.count ≡ length ps
  few : r.count ≤ 65536

-- the place where it stops
record StoppedNg (all : List ℕ) (ps : List Packet) (offset : ℕ) (why : Stop) : Type 0 where
  last : Section
  passed : List ℕ
  rest : List ℕ
  reaches : Reaches all ps last passed rest
  place : offset ≡ length passed
  within : offset ≤ 67108864
  few : length ps ≤ 65536
  stops : StopsAt last (length ps) offset rest why

stopped : (all : List ℕ) (r : NgReading) (ps : List Packet) (left : List ℕ) (offset : ℕ) (why : Stop)
    → ReachedNg all r ps left → StopsBehind r (held_type r.typed ++ left) offset why → StoppedNg all ps offset why
stopped all r ps left offset why at behind =
    let Gives : List Packet → Type 0 = λ l. Passes no_section (at.passed ++ behind.passed) l behind.last in
    let Stops : ℕ → Type 0 = λ n. StopsAt behind.last n offset behind.rest why in
    record {
      last = behind.last;
      passed = at.passed ++ behind.passed;
      rest = behind.rest;
      reaches = record {
        begins = at.begins;
        passes = subst Gives (append-nil ps)
            (Passes-more no_section (section_of r) behind.last at.passed behind.passed ps [] at.passes behind.passes);
        parts =
            at.parts ∙ ap (λ l. at.passed ++ l) behind.parts ∙ sym (append_assoc at.passed behind.passed behind.rest);
      };
      place = omega (arith, behind.place, at.offset, length-append at.passed behind.passed);
      within = behind.within;
      few = omega (arith, at.few, at.count);
      stops = subst Stops at.count behind.stops;
    }

says_fault : (all : List ℕ) (ps : List Packet) (f : NgFault) → StoppedNg all ps f.offset (stop.Refused f.cause)
    → SaysNg all (any.Refused (fault.Ng f))
says_fault all ps f at =
    let n : IsNgFault all f = record {
      before = ps;
      section = at.last;
      passed = at.passed;
      rest = at.rest;
      reaches = at.reaches;
      some = at.stops.0;
      faulty = at.stops.1;
      place = at.place;
    } in
    let none = ap (λ k. limit_behind at.last (length ps) k at.rest) (sym at.place) ∙ at.stops.2 in
    (n, λ limit passes. fault_passes_none all f limit n at.few (omega (arith, at.within, at.place)) none passes)

says_limit : (all : List ℕ) (ps : List Packet) (offset : ℕ) (limit : Limit)
    → StoppedNg all ps offset (stop.TooLarge limit) → SaysNg all (any.TooLarge limit)
says_limit all ps offset limit at = record {
  before = ps;
  section = at.last;
  passed = at.passed;
  rest = at.rest;
  reaches = at.reaches;
  count = at.few;
  size = omega (arith, at.within, at.place);
  limited = ap (λ k. limit_behind at.last (length ps) k at.rest) (sym at.place) ∙ at.stops;
}

says_end : (all : List ℕ) (ps : List Packet) (offset : ℕ) → StoppedNg all ps offset stop.End
    → SaysNg all (any.Capture Nano ps)
says_end all ps offset at =
    let whole : all ≡ at.passed = at.reaches.parts ∙ ap (λ l. at.passed ++ l) at.stops ∙ append-nil at.passed in
    let At : List ℕ → Type 0 = λ l. Passes no_section l ps at.last in
    record {
      unit = refl;
      capture = record { begins = at.reaches.begins; last = at.last; passes = subst At (sym whole) at.reaches.passes };
      count = at.few;
      size = omega (arith, at.within, at.place, ap length whole);
    }

unit_kept : (r : Reading) (n : Next) → (after r n).unit ≡ r.unit
unit_kept r (capture.Packet p) = refl
unit_kept r capture.End = refl
unit_kept r (capture.Refused f) = refl
unit_kept r (capture.TooLarge l) = refl
unit_kept r capture.ReadFault = refl
unit_kept r capture.NoMemory = refl
unit_kept r capture.Over = refl

-- where the answers are honest here, and so before
module _ {S : Type 0} (reads : S → List ℕ → S → Type 0) (left_of : S → List ℕ) (honest : S → Type 0)
    (before : (a b : S) (taken : List ℕ) → honest b → reads a taken b → honest a)
    (told : (a b : S) (taken : List ℕ) → honest b → reads a taken b → left_of a ≡ taken ++ left_of b)
    (old now : S) (here : honest now) where
  reached : (r : NgReading) (ps : List Packet) → begins_ng (left_of old) ≡ true → HasReadNg reads old now r ps
      → ReachedNg (left_of old) r ps (left_of now)
  reached r ps begins has =
      let moves = has.moves in record {
        begins = begins;
        passed = moves.passed;
        passes = moves.passes;
        parts =
            told old has.begun (held_type true) (before has.begun now moves.taken here moves.read) has.first
            ∙ ap (λ l. held_type true ++ l) (told has.begun now moves.taken here moves.read)
            ∙ sym (append_assoc (held_type true) moves.taken (left_of now))
            ∙ ap (λ l. l ++ left_of now) moves.parts
            ∙ append_assoc moves.passed (held_type r.typed) (left_of now);
        offset = omega (arith, moves.offset);
        count = omega (arith, moves.count);
        few = has.few;
      }

  module _ (r : Reading) (ps : List Packet) (has : HasReadSavefile reads old now r ps) where
    started_at : Begins (left_of old) r.order r.unit ps (left_of now)
    started_at = begins_read r.order r.unit ps has.taken.unused (left_of old) (left_of now) has.taken.unused_length
        has.stands.each (told old now _ here has.taken.taken)

    savefile_refused : (f : AnyFault) (n : Next) → next.Refused f ≡ any_next n → AnswersAt r (left_of now) n
        → (c : Captured) × (any.Refused f ≡ any_captured c) × Says (left_of old) c
    savefile_refused f (capture.Refused g) is answers =
        let same : f ≡ fault.Capture g = cc in (
          captured.Refused g,
          ap any.Refused same,
          refused_says r ps (left_of old) (left_of now) has.stands started_at g answers,
        )
    savefile_refused f (capture.Packet p) is answers = cc
    savefile_refused f capture.End is answers = cc
    savefile_refused f (capture.TooLarge l) is answers = cc
    savefile_refused f capture.ReadFault is answers = cc
    savefile_refused f capture.NoMemory is answers = cc
    savefile_refused f capture.Over is answers = cc

    savefile_large : (limit : Limit) (n : Next) → next.TooLarge limit ≡ any_next n → AnswersAt r (left_of now) n
        → (c : Captured) × (any.TooLarge limit ≡ any_captured c) × Says (left_of old) c
    savefile_large limit (capture.TooLarge l) is answers =
        let same : limit ≡ l = cc in (
          captured.TooLarge l,
          ap any.TooLarge same,
          too_large_says r ps (left_of old) (left_of now) has.stands started_at l answers,
        )
    savefile_large limit (capture.Packet p) is answers = cc
    savefile_large limit capture.End is answers = cc
    savefile_large limit (capture.Refused g) is answers = cc
    savefile_large limit capture.ReadFault is answers = cc
    savefile_large limit capture.NoMemory is answers = cc
    savefile_large limit capture.Over is answers = cc

    savefile_end : (n : Next) → next.End ≡ any_next n → AnswersAt r (left_of now) n
        → (c : Captured) × (any.Capture r.unit ps ≡ any_captured c) × Says (left_of old) c
    savefile_end capture.End is answers =
        (captured.Capture r.unit ps, refl, begun_capture r ps (left_of old) (left_of now) has.stands started_at answers)
    savefile_end (capture.TooLarge l) is answers = cc
    savefile_end (capture.Packet p) is answers = cc
    savefile_end (capture.Refused g) is answers = cc
    savefile_end capture.ReadFault is answers = cc
    savefile_end capture.NoMemory is answers = cc
    savefile_end capture.Over is answers = cc

  pub any_refused : (f : Format) (ps : List Packet) (why : AnyFault) → IsFormatOf (left_of old) f
      → HasReadAny reads old now f ps → AnswersAny f (left_of now) (next.Refused why)
      → SaysAny (left_of old) (any.Refused why)
  any_refused (form.Capture r) ps why is has (n, answer, answers) = record {
    ng = λ is_ng. absurd (other_format (left_of old) is_ng is);
    savefile = λ _. savefile_refused r ps has why n answer answers;
  }
  any_refused (form.Ng r) ps (fault.Capture f) is has behind = absurd behind
  any_refused (form.Ng r) ps (fault.Ng f) is has behind =
      ng_says (left_of old) (any.Refused (fault.Ng f)) is (says_fault (left_of old) ps f
      (stopped (left_of old) r ps (left_of now) f.offset (stop.Refused f.cause) (reached r ps is has) behind))

  pub any_large : (f : Format) (ps : List Packet) (limit : Limit) → IsFormatOf (left_of old) f
      → HasReadAny reads old now f ps → AnswersAny f (left_of now) (next.TooLarge limit)
      → SaysAny (left_of old) (any.TooLarge limit)
  any_large (form.Capture r) ps limit is has (n, answer, answers) = record {
    ng = λ is_ng. absurd (other_format (left_of old) is_ng is);
    savefile = λ _. savefile_large r ps has limit n answer answers;
  }
  any_large (form.Ng r) ps limit is has (offset, behind) =
      ng_says (left_of old) (any.TooLarge limit) is (says_limit (left_of old) ps offset limit
      (stopped (left_of old) r ps (left_of now) offset (stop.TooLarge limit) (reached r ps is has) behind))

  pub any_end : (f g : Format) (ps : List Packet) (new : S) → IsFormatOf (left_of old) f → HasReadAny reads old now f ps
      → AnswersAny f (left_of now) next.End → TakesAny reads next.End now new f g
      → SaysAny (left_of old) (any.Capture (unit_of g) ps)
  any_end (form.Capture r) g ps new is has (n, answer, answers) takes =
      let Unit_of : Format → Type 0 = λ h. SaysAny (left_of old) (any.Capture (unit_of h) ps) in
      let same : (after r takes.0).unit ≡ r.unit = unit_kept r takes.0 in
      let Says_unit : TimeUnit → Type 0 = λ u. SaysAny (left_of old) (any.Capture u ps) in
      subst Unit_of (sym takes.3) (subst Says_unit (sym same) (record {
        ng = λ is_ng. absurd (other_format (left_of old) is_ng is);
        savefile = λ _. savefile_end r ps has n answer answers;
      }))
  any_end (form.Ng r) g ps new is has (offset, behind) takes =
      let Unit_of : Format → Type 0 = λ h. SaysAny (left_of old) (any.Capture (unit_of h) ps) in
      subst Unit_of (sym takes.1) (ng_says (left_of old) (any.Capture Nano ps) is (says_end (left_of old) ps offset
      (stopped (left_of old) r ps (left_of now) offset stop.End (reached r ps is has) behind)))

pub any_recorded : {S : Type 0} (reads : S → List ℕ → S → Type 0) (old now : S) (f : Format) (ps : List Packet)
    → HasReadAny reads old now f ps → AreRecorded ps
any_recorded reads old now (form.Capture r) ps has = has.stands.each
any_recorded reads old now (form.Ng r) ps has =
    (lead_whole (section_of first_reading) (section_of r) has.moves.passes.blocks ps has.moves.passes.lead).0
