-- A reader that passes blocks.
use Rattle.std.proofs.Common.{◌≡◌, ℕ, ◌+◌, ◌-◌, ◌≤◌, ◌==◌, ◌&&◌, Bool, true, false, List, [], ◌∷◌, ◌++◌, length, Option}
use Rattle.std.proofs.Common.{Some, None, refl, sym, ap, subst, ◌∙◌, arith, append_assoc, length-append}
use Rattle.std.specs.Prelude.{Ok, Err, is_some, option_to_list}
use Rattle.std.specs.Int.{from_bool}
use Rattle.std.specs.List.{flat_map}
use Rattle.std.proofs.lemmas.Bool.{eqb-false}
use Rattle.std.proofs.lemmas.List.{append-nil}
use Rattle.std.proofs.lemmas.Grind.{flat_map-append}
use Rattle.plain_text.specs.declared.packet.Packet.{Packet}
use Rattle.pcap_io.specs.declared.order.Order.{Order}
use Rattle.pcapng_io.specs.declared.block.Block.{Block}
use Rattle.pcapng_io.specs.declared.fault.NgCause.{NgCause}
use Rattle.pcapng_io.specs.declared.interface.Interface.{Interface}
use Rattle.pcapng_io.specs.declared.place.Place.{Place}
use Rattle.pcapng_io.specs.declared.place.Stop.{Stop}
use Rattle.pcapng_io.specs.declared.place.Stop.TheVariants as stop
use Rattle.pcapng_io.specs.Blocks.{block_bytes, kind_of, gives_packet}
use Rattle.pcapng_io.specs.Capture.{Section, Lead, Passes, Follows, framed_fault, content_fault, block_fault}
use Rattle.pcapng_io.specs.Contents.{content}
use Rattle.pcapng_io.specs.Frames.{IsFramed}
use Rattle.pcapng_io.specs.Limits.{limit_behind}
use Rattle.pcapng_io.specs.Reader.{NgReading, Moves, section_of, StopsAt, StopsBehind, AnswersNg, TakesNg, answer_of}
use Rattle.pcapng_io.specs.Stops.{StandsHere, held_type}
use Rattle.pcapng_io.proofs.Blocks.{length-block_bytes}
use Rattle.pcapng_io.proofs.Standing.{framed_block, block_limit}

-- one block leads on
pub Passes-block : (s : Section) (b : Block) (packet : Option Packet) (t : Section) → Follows s b packet t
    → Passes s (block_bytes b) (option_to_list packet) t
Passes-block s b packet t follows = record {
  blocks = b ∷ [];
  parts = sym (append-nil (block_bytes b));
  lead = (packet, t, [], follows, (refl, refl), sym (append-nil (option_to_list packet)));
}

-- a place is the reader's
pub record IsPlaceOf (p : Place) (r : NgReading) : Type 0 where
  pub order : p.order ≡ r.order
  pub typed : p.typed ≡ r.typed
  pub room : p.room ≡ 67108864 - r.offset
  pub full : p.full ≡ (r.count == 65536)

module _ {S : Type 0} (reads : S → List ℕ → S → Type 0) (old new : S) (p : Place) (r : NgReading) (at : IsPlaceOf p r)
    (b : Block) (stands : StandsHere p b) where
  pub moves_block : (interfaces : List Interface) (packet : Option Packet) (offset count : ℕ) (over : Bool)
      → content b.order r.interfaces (kind_of b.number) b.body
      ≡ Ok (record { interfaces = interfaces; packet = packet }) → (taken : List ℕ) → reads old taken new
      → held_type p.typed ++ taken ≡ block_bytes b → offset ≡ r.offset + (12 + length b.body)
      → count ≡ r.count + length (option_to_list packet)
      → Moves reads old new r
      (record { order = b.order; interfaces = interfaces; typed = false; offset = offset; count = count; over = over })
      (option_to_list packet)
  moves_block interfaces packet offset count over content_is taken read parts offset_is count_is =
      let Framed : Order → Type 0 = λ o. IsFramed o b in
      let follows : Follows (section_of r) b packet (record { order = b.order; interfaces = interfaces }) =
      record { framed = subst Framed at.order stands.framed; content = content_is; order = refl } in
      record {
        taken = taken;
        passed = block_bytes b;
        read = read;
        parts = ap (λ t. held_type t ++ taken) (sym at.typed) ∙ parts ∙ sym (append-nil (block_bytes b));
        passes = Passes-block (section_of r) b packet (record { order = b.order; interfaces = interfaces }) follows;
        offset = omega (arith, offset_is, length-block_bytes b);
        count = count_is;
      }

  pub stops_content : (bytes more : List ℕ) (cause : NgCause) → bytes ≡ block_bytes b ++ more
      → content b.order r.interfaces (kind_of b.number) b.body ≡ Err cause
      → StopsAt (section_of r) r.count r.offset bytes (stop.Refused cause)
  stops_content bytes more cause bytes_is content_is =
      let Framed : Order → Type 0 = λ o. IsFramed o b in
      let is_framed : IsFramed r.order b = subst Framed at.order stands.framed in
      let room : length (block_bytes b) ≤ 67108864 - r.offset = omega (arith, stands.room, at.room) in
      let few : (r.count == 65536) && gives_packet (kind_of b.number) ≡ false =
      ap (λ f. f && gives_packet (kind_of b.number)) (sym at.full) ∙ stands.few in
      let fault : block_fault (section_of r) (block_bytes b ++ more) ≡ Some cause =
      ap (framed_fault (section_of r)) (framed_block r.order b more is_framed) ∙ ap content_fault content_is in
      let limit : limit_behind (section_of r) r.count r.offset (block_bytes b ++ more) ≡ None =
      block_limit r.order (r.count == 65536) (67108864 - r.offset) b more is_framed room few in
      rw bytes_is (omega (arith, length-append (block_bytes b) more, length-block_bytes b), fault, limit)

and_true : (a : Bool) → a && true ≡ a
and_true true = refl
and_true false = refl

-- a block of a packet is passed only where there is room for one more
pub count_room : (count : ℕ) (full g : Bool) → full ≡ (count == 65536) → full && g ≡ false → count ≤ 65536
    → count + from_bool g ≤ 65536
count_room count full false full_is few within = omega (arith, within)
count_room count full true full_is few within =
    let below : count ≡ 65536 → ⊥ = eqb-false count 65536 (sym full_is ∙ sym (and_true full) ∙ few) in
    omega (arith, below)

pub one_or_none : (packet : Option Packet) → length (option_to_list packet) ≡ from_bool (is_some packet)
one_or_none None = refl
one_or_none (Some p) = refl

Lead-more : (s t u : Section) (first more : List Block) (ps qs : List Packet) → Lead s first ps t → Lead t more qs u
    → Lead s (first ++ more) (ps ++ qs) u
Lead-more s t u [] more ps qs lead next =
    let Leads : Section → Type 0 = λ v. Lead v more qs u in
    let Gives : List Packet → Type 0 = λ l. Lead s more (l ++ qs) u in
    subst Gives (sym lead.0) (subst Leads lead.1 next)
Lead-more s t u (b ∷ bs) more ps qs lead next = (
  lead.0,
  lead.1,
  lead.2 ++ qs,
  lead.3,
  Lead-more lead.1 t u bs more lead.2 qs lead.4 next,
  ap (λ l. l ++ qs) lead.5 ∙ append_assoc (option_to_list lead.0) lead.2 qs,
)

pub Passes-more : (s t u : Section) (first more : List ℕ) (ps qs : List Packet) → Passes s first ps t
    → Passes t more qs u → Passes s (first ++ more) (ps ++ qs) u
Passes-more s t u first more ps qs a b = record {
  blocks = a.blocks ++ b.blocks;
  parts =
      ap (λ l. l ++ more) a.parts
      ∙ ap (λ l. flat_map block_bytes a.blocks ++ l) b.parts
      ∙ sym (flat_map-append block_bytes a.blocks b.blocks);
  lead = Lead-more s t u a.blocks b.blocks ps qs a.lead b.lead;
}

pub Passes-none : (s : Section) → Passes s [] [] s
Passes-none s = record { blocks = []; parts = refl; lead = (refl, refl) }

module _ {S : Type 0} (reads : S → List ℕ → S → Type 0) where
  pub Moves-none : (reads_nothing : (s : S) → reads s [] s) (s : S) (r : NgReading) → Moves reads s s r r []
  Moves-none reads_nothing s r = record {
    taken = [];
    passed = [];
    read = reads_nothing s;
    parts = append-nil (held_type r.typed);
    passes = Passes-none (section_of r);
    offset = omega arith;
    count = omega arith;
  }

  module _
      (reads_more : (a b c : S) (first more : List ℕ) → reads a first b → reads b more c → reads a (first ++ more) c)
      (old now new : S) (from mid to : NgReading) where
    pub Moves-more : (ps qs : List Packet) → Moves reads old now from mid ps → Moves reads now new mid to qs
        → Moves reads old new from to (ps ++ qs)
    Moves-more ps qs a b = record {
      taken = a.taken ++ b.taken;
      passed = a.passed ++ b.passed;
      read = reads_more old now new a.taken b.taken a.read b.read;
      parts =
          sym (append_assoc (held_type from.typed) a.taken b.taken) ∙ ap (λ l. l ++ b.taken) a.parts
          ∙ append_assoc a.passed (held_type mid.typed) b.taken ∙ ap (λ l. a.passed ++ l) b.parts
          ∙ sym (append_assoc a.passed b.passed (held_type to.typed));
      passes = Passes-more (section_of from) (section_of mid) (section_of to) a.passed b.passed ps qs a.passes b.passes;
      offset = omega (arith, a.offset, b.offset, length-append a.passed b.passed);
      count = omega (arith, a.count, b.count, length-append ps qs);
    }

-- a reader that moved without packets, and stops
module _ {S : Type 0} (reads : S → List ℕ → S → Type 0) (old now : S) (from mid : NgReading)
    (moves : Moves reads old now from mid []) where
  pub stops_behind : (bytes left : List ℕ) (why : Stop) → bytes ≡ moves.taken ++ left → mid.offset ≤ 67108864
      → StopsAt (section_of mid) mid.count mid.offset (held_type mid.typed ++ left) why
      → StopsBehind from (held_type from.typed ++ bytes) mid.offset why
  stops_behind bytes left why bytes_is within stops =
      let count : mid.count ≡ from.count = omega (arith, moves.count) in
      let Stops : ℕ → Type 0 = λ n. StopsAt (section_of mid) n mid.offset (held_type mid.typed ++ left) why in
      record {
        passed = moves.passed;
        rest = held_type mid.typed ++ left;
        last = section_of mid;
        parts =
            ap (λ l. held_type from.typed ++ l) bytes_is ∙ sym (append_assoc (held_type from.typed) moves.taken left)
            ∙ ap (λ l. l ++ left) moves.parts ∙ append_assoc moves.passed (held_type mid.typed) left;
        passes = moves.passes;
        place = moves.offset;
        within = within;
        stops = subst Stops count stops;
      }

pub answers_stop : (r : NgReading) (bytes : List ℕ) (offset : ℕ) (why : Stop) → StopsBehind r bytes offset why
    → AnswersNg r bytes (answer_of why offset)
answers_stop r bytes offset stop.End behind = (offset, behind)
answers_stop r bytes offset (stop.Refused cause) behind = behind
answers_stop r bytes offset (stop.TooLarge limit) behind = (offset, behind)
answers_stop r bytes offset stop.ReadFault behind = tt
answers_stop r bytes offset stop.NoMemory behind = tt

module _ {S : Type 0} (reads : S → List ℕ → S → Type 0)
    (reads_more : (a b c : S) (first more : List ℕ) → reads a first b → reads b more c → reads a (first ++ more) c)
    (old now new : S) (from mid to : NgReading) (moves : Moves reads old now from mid [])
    (same : to ≡ record mid { over = true }) where
  pub takes_stop : (why : Stop) (offset : ℕ) → ((taken : List ℕ) × reads now taken new)
      → (why ≡ stop.End → (mid.typed ≡ false) × reads now [] new) → TakesNg reads (answer_of why offset) old new from to
  takes_stop stop.End offset more ends =
      let End : NgReading → Type 0 = λ r. Moves reads old new from r [] × (r.over ≡ true) × (r.typed ≡ false) in
      let Taken : List ℕ → Type 0 = λ l. reads old l new in
      subst End (sym same) (
        record {
          taken = moves.taken;
          passed = moves.passed;
          read = subst Taken (append-nil moves.taken) (reads_more old now new moves.taken [] moves.read (ends refl).1);
          parts = moves.parts;
          passes = moves.passes;
          offset = moves.offset;
          count = moves.count;
        },
        refl,
        (ends refl).0,
      )
  takes_stop (stop.Refused cause) offset more ends = (
    (moves.taken ++ more.0, reads_more old now new moves.taken more.0 moves.read more.1),
    ap (λ (r : NgReading). r.over) same,
  )
  takes_stop (stop.TooLarge limit) offset more ends = (
    (moves.taken ++ more.0, reads_more old now new moves.taken more.0 moves.read more.1),
    ap (λ (r : NgReading). r.over) same,
  )
  takes_stop stop.ReadFault offset more ends = (
    (moves.taken ++ more.0, reads_more old now new moves.taken more.0 moves.read more.1),
    ap (λ (r : NgReading). r.over) same,
  )
  takes_stop stop.NoMemory offset more ends = (
    (moves.taken ++ more.0, reads_more old now new moves.taken more.0 moves.read more.1),
    ap (λ (r : NgReading). r.over) same,
  )
