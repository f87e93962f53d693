-- A capture that is shown packet by packet.
use Rattle.std.proofs.Common.{◌≡◌, ℕ, List, ◌++◌, length, sym, ap, ◌∙◌, append_assoc}
use Rattle.std.proofs.Common.{inl, inr, true}
use Rattle.std.specs.Prelude.{All}
use Rattle.plain_text.specs.Octets.{IsOfBytes}
use Rattle.plain_text.specs.declared.packet.Packet.{Packet}
use Rattle.pcap_io.proofs.Captures.{begins_read}
use Rattle.pcapng_io.specs.declared.any.Format.{Format}
use Rattle.pcapng_io.specs.declared.any.Format.TheVariants as form
use Rattle.pcapng_io.specs.Reader.{section_of}
use Rattle.pcapng_io.specs.Stops.{held_type}
use Rattle.pcapng_io.proofs.Captures.{HasReadAny, IsFormatOf}
use Rattle.world_io.specs.Stream.{GoesOn}
use Rattle.world_io.specs.Taking.{TakesSome}
use Rattle.world_io.specs.World.{Start}
use Rattle.packet_taps.specs.declared.place.Place.{Place}
use Rattle.packet_taps.specs.Places.{AreShown}
use Rattle.packet_taps.specs.Watching.{AreFirst}

-- These packets were read, and shown to the taps.
pub record HasWatched {S T : Type 0} (reads : S → List ℕ → S → Type 0) (honest : Start → S → Type 0)
    (remains : Start → S → List ℕ) (source_faults : S → ℕ) (healthy : S → Type 0)
    (saw missed : T → List Packet → Type 0) (faults lacks : T → ℕ) (old now : S) (reader : Format)
    (before after : List (Place T)) (count : ℕ) : Type 0 where
  pub packets : List Packet
  pub read : HasReadAny reads old now reader packets
  pub format : (p : Start) → honest p now → IsFormatOf (remains p old) reader
  pub some : TakesSome reads old now
  pub octets : All IsOfBytes packets
  pub goes_on : GoesOn source_faults healthy old now
  pub shown : AreShown saw missed faults lacks packets before after
  pub counted : count ≡ length packets

-- what was read are the first packets, where the answers are honest here
pub are_first : {S : Type 0} (reads : S → List ℕ → S → Type 0) (left_of : S → List ℕ) (honest : S → Type 0)
    (before : (a b : S) (taken : List ℕ) → honest b → reads a taken b → honest a)
    (told : (a b : S) (taken : List ℕ) → honest b → reads a taken b → left_of a ≡ taken ++ left_of b)
    (old now : S) → honest now → (f : Format) (ps : List Packet) → IsFormatOf (left_of old) f
    → HasReadAny reads old now f ps → AreFirst (left_of old) ps
are_first reads left_of honest before told old now here (form.Capture r) ps is has = inr (inl (record {
  savefile = is;
  order = r.order;
  unit = r.unit;
  rest = left_of now;
  begins = begins_read r.order r.unit ps has.taken.unused (left_of old) (left_of now) has.taken.unused_length
      has.stands.each (told old now _ here has.taken.taken);
}))
are_first reads left_of honest before told old now here (form.Ng r) ps is has =
    let moves = has.moves in
    inr (inr (record {
      section = section_of r;
      passed = moves.passed;
      rest = held_type r.typed ++ left_of now;
      reaches = record {
        begins = is;
        passes = moves.passes;
        parts =
            told old has.begun (held_type true) (before has.begun now moves.taken here moves.read) has.first
            ∙ ap (λ l. held_type true ++ l) (told has.begun now moves.taken here moves.read)
            ∙ sym (append_assoc (held_type true) moves.taken (left_of now))
            ∙ ap (λ l. l ++ left_of now) moves.parts
            ∙ append_assoc moves.passed (held_type r.typed) (left_of now);
      };
    }))
