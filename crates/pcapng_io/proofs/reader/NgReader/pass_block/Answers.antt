use Rattle.std.proofs.Common.{◌≡◌, ◌+◌, ◌==◌, ◌++◌, length, ap, sym, subst, ◌∙◌, arith, append_assoc}
use Rattle.std.specs.Prelude.{Err, is_some, option_to_list}
use Rattle.std.specs.Int.{from_bool}
use Rattle.pcapng_io.specs.Blocks.{kind_of, gives_packet, block_bytes}
use Rattle.pcapng_io.specs.Contents.{TellsContent, content}
use Rattle.pcapng_io.specs.declared.packet.BlockError.{BlockError}
use Rattle.pcapng_io.specs.Reader.{NgReading}
use Rattle.pcapng_io.specs.Stops.{held_type}
use Rattle.pcapng_io.proofs.Blocks.{length-block_bytes}
use Rattle.pcapng_io.proofs.Standing.{content_gives}
use Rattle.pcapng_io.proofs.Readings.{IsPlaceOf, moves_block, stops_content, count_room, one_or_none}
use Rattle.pcapng_io.proofs.reader.NgReader.pass_block.Goals as goal

pub invariant_of-self : goal.invariant_of-self
invariant_of-self g c =
    let inside = c.self.inside in
    let offset : inside.offset ≡ c.args.self.now.offset = ap (λ (r : NgReading). r.offset) c.self.view_is in
    let count : inside.count ≡ c.args.self.now.count = ap (λ (r : NgReading). r.count) c.self.view_is in
    let stands = c.in-Ok.ensures.stands in
    let gives : is_some c.in-Ok-read_content.packet ≡ gives_packet (kind_of c.in-Ok.block.number) =
    content_gives c.in-Ok.block.order inside.interfaces (kind_of c.in-Ok.block.number) c.in-Ok.block.body _
    c.in-Ok-read_content.ensures.content in
    let byte : c.from.result ≡ from_bool (gives_packet (kind_of c.in-Ok.block.number)) =
    c.from.ensures ∙ ap from_bool (c.is_some.ensures ∙ gives) in
    let room = count_room inside.count c.place.result.full (gives_packet (kind_of c.in-Ok.block.number))
    (c.place.ensures.full ∙ ap (λ n. n == 65536) (sym count)) stands.few c.self.invariant.1 in (
      omega (
        arith,
        stands.room,
        length-block_bytes c.in-Ok.block,
        c.place.ensures.room,
        c.len.ensures,
        offset,
        c.self.invariant.0,
      ),
      omega (arith, byte, room),
      c.in-Ok-read_content.ensures.units,
    )

pub returns-in-Err-Fault-clause-shows : goal.returns-in-Err-Fault-clause-shows
returns-in-Err-Fault-clause-shows g c = λ p h.
    let r = c.args.self.now in
    let at : IsPlaceOf c.place.result r = record {
      order = c.place.ensures.order;
      typed = c.place.ensures.typed;
      room = c.place.ensures.room;
      full = c.place.ensures.full;
    } in
    let taken = c.in-Ok.ensures.taken in
    let left = g.S.Source.remains p c.read_block.new.source in
    let interfaces : c.self.inside.interfaces ≡ r.interfaces = ap (λ (r : NgReading). r.interfaces) c.self.view_is in
    let bytes : held_type r.typed ++ g.S.Source.remains p c.args.source.now ≡ block_bytes c.in-Ok.block ++ left =
    ap (λ l. held_type r.typed ++ l) (g.met.S.Source.reads_shown p _ _ _ h taken.1)
    ∙ sym (append_assoc (held_type r.typed) taken.0 left)
    ∙ ap (λ t. (held_type t ++ taken.0) ++ left) (sym c.place.ensures.typed)
    ∙ ap (λ l. l ++ left) taken.2 in
    let Told : BlockError → Type 0 = λ e. TellsContent
    (content c.in-Ok.block.order c.self.inside.interfaces (kind_of c.in-Ok.block.number) c.in-Ok.block.body) (Err e)
    c.self.inside.interfaces c.read_content.new.interfaces in
    stops_content g.S.Source.reads c.args.source.now c.read_block.new.source c.place.result r at c.in-Ok.block
    c.in-Ok.ensures.stands _ left c.in-Err-Fault.cause bytes
    (ap (λ is. content c.in-Ok.block.order is (kind_of c.in-Ok.block.number) c.in-Ok.block.body) (sym interfaces)
    ∙ (subst Told c.in-Err-Fault.field-0-is c.in-Err-Fault.ensures.content).0)

pub returns-in-Ok-read_content-clause-moves : goal.returns-in-Ok-read_content-clause-moves
returns-in-Ok-read_content-clause-moves g c =
    let r = c.args.self.now in
    let at : IsPlaceOf c.place.result r = record {
      order = c.place.ensures.order;
      typed = c.place.ensures.typed;
      room = c.place.ensures.room;
      full = c.place.ensures.full;
    } in
    let taken = c.in-Ok.ensures.taken in
    let interfaces : c.self.inside.interfaces ≡ r.interfaces = ap (λ (r : NgReading). r.interfaces) c.self.view_is in
    let offset : c.self.inside.offset ≡ r.offset = ap (λ (r : NgReading). r.offset) c.self.view_is in
    let count : c.self.inside.count ≡ r.count = ap (λ (r : NgReading). r.count) c.self.view_is in
    let given : length (option_to_list c.in-Ok-read_content.packet) ≡ c.from.result =
    one_or_none c.in-Ok-read_content.packet ∙ ap from_bool (sym c.is_some.ensures) ∙ sym c.from.ensures in (
      moves_block g.S.Source.reads c.args.source.now c.read_block.new.source c.place.result r at c.in-Ok.block
          c.in-Ok.ensures.stands c.read_content.new.interfaces c.in-Ok-read_content.packet
          (c.self.inside.offset + (12 + c.len.result)) (c.self.inside.count + c.from.result) c.self.inside.over
          (ap (λ is. content c.in-Ok.block.order is (kind_of c.in-Ok.block.number) c.in-Ok.block.body) (sym interfaces)
          ∙ c.in-Ok-read_content.ensures.content) taken.0 taken.1 taken.2 (omega (arith, offset, c.len.ensures))
          (omega (arith, count, given)),
      ap (λ (r : NgReading). r.over) c.self.view_is,
    )
