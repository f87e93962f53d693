use Rattle.std.proofs.Common.{◌≡◌, ◌+◌, ◌-◌, ◌≤◌, ◌&&◌, ℕ, List, ◌++◌, length, drop, take, false, sym, ap, subst, ◌∙◌}
use Rattle.std.proofs.Common.{arith, Some, None, length-append}
use Rattle.std.proofs.lemmas.List.{take_rest}
use Rattle.plain_text.specs.Octets.{AreBytes}
use Rattle.pcap_io.specs.Capture.{number}
use Rattle.pcapng_io.specs.Blocks.{block_bytes, kind_of, order_of, is_bad_total, gives_packet}
use Rattle.pcapng_io.specs.Frames.{total_at, has_bad_length}
use Rattle.pcapng_io.specs.Stops.{PassesRest, StandsHere}
use Rattle.pcapng_io.proofs.Frames.{stops_magic, stops_short, stops_large, stops_bad, stops_passed}
use Rattle.pcapng_io.proofs.Blocks.{head_is, read_is, total_enough, block_parts, block_framed, block_bad, body_length}
use Rattle.pcapng_io.proofs.Blocks.{length-block_bytes, few_kind}
use Rattle.pcapng_io.proofs.place.Place.read_rest.Goals as goal

pub returns-in_default-clause-shows : goal.returns-in_default-clause-shows
returns-in_default-clause-shows g c = λ p h.
    let head = c.args.head.now in
    let none : order_of c.args.self.order (kind_of (number c.args.self.order 4 head)) (drop 8 head) ≡ None =
    ap (λ n. order_of c.args.self.order (kind_of n) (drop 8 head)) (sym c.read_u32-number.ensures)
    ∙ ap (λ k. order_of c.args.self.order k (drop 8 head)) (sym c.of-kind.ensures)
    ∙ ap (order_of c.args.self.order c.of-kind.result) (sym (take_rest head 8))
    ∙ sym c.order_of.ensures
    ∙ c.in_default.is in
    stops_magic c.args.self head (g.S.Source.remains p c.args.source.now) c.requires.head c.requires.room
    c.requires.few none

pub returns-then-is_bad_total-clause-shows : goal.returns-then-is_bad_total-clause-shows
returns-then-is_bad_total-clause-shows g c = λ p h.
    let head = c.args.head.now in
    let start = head_is c.args.self.order c.in-Some.order head c.read_u32-number.result c.read_u32-total.result
    c.of-kind.result c.order_of.result c.read_u32-number.ensures c.of-kind.ensures c.order_of.ensures c.in-Some.is
    c.read_u32-total.ensures in
    stops_passed c.args.self head (g.S.Source.remains p c.args.source.now) c.requires.head c.requires.room
    c.requires.few c.in-Some.order start.order c.pass_rest.result
    (ap (λ k. is_bad_total k (total_at c.in-Some.order head)) (sym start.kind)
    ∙ ap (is_bad_total c.of-kind.result) (sym start.total) ∙ sym c.is_bad_total.ensures ∙ c.if-is_bad_total.true)
    (let Passed : ℕ → Type 0 =
    λ total. PassesRest c.args.self.room total (g.S.Source.remains p c.args.source.now) c.pass_rest.result in
    subst Passed start.total (c.pass_rest.ensures.shows p h))

pub returns-then-len-self-clause-shows : goal.returns-then-len-self-clause-shows
returns-then-len-self-clause-shows g c = λ p h.
    let head = c.args.head.now in
    let start = head_is c.args.self.order c.in-Some.order head c.read_u32-number.result c.read_u32-total.result
    c.of-kind.result c.order_of.result c.read_u32-number.ensures c.of-kind.ensures c.order_of.ensures c.in-Some.is
    c.read_u32-total.ensures in
    let bytes = c.in-Ok.bytes in
    let taken = c.in-Ok.ensures.reads in
    let filled = read_is head taken.0 bytes c.requires.head taken.2 in
    let parts = g.met.S.Source.reads_shown p _ _ _ h taken.1 in
    let left : length (g.S.Source.remains p c.args.source.now)
    ≡ length taken.0 + length (g.S.Source.remains p c.read_behind.new.source) =
    ap length parts ∙ length-append taken.0 (g.S.Source.remains p c.read_behind.new.source) in
    stops_large c.args.self head (g.S.Source.remains p c.args.source.now) c.requires.head c.requires.room c.requires.few
    c.in-Some.order start.order (omega (arith, left, filled.1)) (omega (arith, start.total, c.in-Ok.ensures.within))

pub returns-then-len-total-clause-shows : goal.returns-then-len-total-clause-shows
returns-then-len-total-clause-shows g c = λ p h.
    let head = c.args.head.now in
    let start = head_is c.args.self.order c.in-Some.order head c.read_u32-number.result c.read_u32-total.result
    c.of-kind.result c.order_of.result c.read_u32-number.ensures c.of-kind.ensures c.order_of.ensures c.in-Some.is
    c.read_u32-total.ensures in
    let bytes = c.in-Ok.bytes in
    let taken = c.in-Ok.ensures.reads in
    let filled = read_is head taken.0 bytes c.requires.head taken.2 in
    let parts = g.met.S.Source.reads_shown p _ _ _ h taken.1 in
    let left : length (g.S.Source.remains p c.args.source.now)
    ≡ length taken.0 + length (g.S.Source.remains p c.read_behind.new.source) =
    ap length parts ∙ length-append taken.0 (g.S.Source.remains p c.read_behind.new.source) in
    let none = ap length (c.in-Ok.ensures.runs_out p h (omega arith)) in
    stops_short c.args.self head (g.S.Source.remains p c.args.source.now) c.requires.head c.requires.room c.requires.few
    c.in-Some.order start.order (omega (arith, left, none, filled.1, start.total)) (omega (arith, left, none, filled.1))

pub returns-then-read_u32-total-clause-shows : goal.returns-then-read_u32-total-clause-shows
returns-then-read_u32-total-clause-shows g c = λ p h.
    let head = c.args.head.now in
    let start = head_is c.args.self.order c.in-Some.order head c.read_u32-number.result c.read_u32-total.result
    c.of-kind.result c.order_of.result c.read_u32-number.ensures c.of-kind.ensures c.order_of.ensures c.in-Some.is
    c.read_u32-total.ensures in
    let bytes = c.in-Ok.bytes in
    let taken = c.in-Ok.ensures.reads in
    let filled = read_is head taken.0 bytes c.requires.head taken.2 in
    let parts = g.met.S.Source.reads_shown p _ _ _ h taken.1 in
    let left : length (g.S.Source.remains p c.args.source.now)
    ≡ length taken.0 + length (g.S.Source.remains p c.read_behind.new.source) =
    ap length parts ∙ length-append taken.0 (g.S.Source.remains p c.read_behind.new.source) in
    let good : is_bad_total (kind_of c.read_u32-number.result) c.read_u32-total.result ≡ false =
    ap (λ k. is_bad_total k c.read_u32-total.result) (sym c.of-kind.ensures)
    ∙ sym c.is_bad_total.ensures
    ∙ c.if-is_bad_total.false in
    let order : order_of c.args.self.order (kind_of c.read_u32-number.result) (drop 8 head) ≡ Some c.in-Some.order =
    ap (λ n. order_of c.args.self.order (kind_of n) (drop 8 head)) start.type ∙ start.order in
    let enough = total_enough (kind_of c.read_u32-number.result) c.read_u32-total.result good in
    let size : length bytes ≡ c.read_u32-total.result - 8 = omega (arith, c.in-Ok.ensures.within, enough) in
    let octets_head : AreBytes head = λ i. omega (arith, c.type_inv.head i) in
    let closing : c.read_u32.result ≡ number c.in-Some.order 4 (drop (c.read_u32-total.result - 12) bytes) =
    c.read_u32.ensures ∙ ap (number c.in-Some.order 4) (take_rest c.as_slice.result.now (c.read_u32-total.result - 12))
    ∙ ap (λ l. number c.in-Some.order 4 (drop (c.read_u32-total.result - 12) l)) c.as_slice.ensures in
    let bad = block_bad c.args.self.order c.in-Some.order c.read_u32-number.result c.read_u32-total.result head taken.0
    bytes c.requires.head start.type start.total order good filled.0 size octets_head c.in-Ok.ensures.bytes
    (g.S.Source.remains p c.read_behind.new.source) (λ same. c.if-read_u32-total.true (closing ∙ same)) in
    let long : c.read_u32-total.result ≤ 12 + length (g.S.Source.remains p c.args.source.now) =
    omega (arith, left, size, filled.1, enough) in
    let room : c.read_u32-total.result ≤ c.args.self.room = omega (arith, size, enough) in
    stops_bad c.args.self head (g.S.Source.remains p c.args.source.now) c.requires.head c.requires.room c.requires.few
    c.in-Some.order start.order (omega (arith, long, start.total)) (omega (arith, room, start.total))
    (ap (λ n. has_bad_length c.in-Some.order n (head ++ g.S.Source.remains p c.args.source.now)) (sym start.type)
    ∙ ap (λ l. has_bad_length c.in-Some.order c.read_u32-number.result (head ++ l)) parts
    ∙ bad)

pub returns-clause-taken : goal.returns-clause-taken
returns-clause-taken g c =
    let head = c.args.head.now in
    let start = head_is c.args.self.order c.in-Some.order head c.read_u32-number.result c.read_u32-total.result
    c.of-kind.result c.order_of.result c.read_u32-number.ensures c.of-kind.ensures c.order_of.ensures c.in-Some.is
    c.read_u32-total.ensures in
    let bytes = c.in-Ok.bytes in
    let taken = c.in-Ok.ensures.reads in
    let filled = read_is head taken.0 bytes c.requires.head taken.2 in
    let good : is_bad_total (kind_of c.read_u32-number.result) c.read_u32-total.result ≡ false =
    ap (λ k. is_bad_total k c.read_u32-total.result) (sym c.of-kind.ensures)
    ∙ sym c.is_bad_total.ensures
    ∙ c.if-is_bad_total.false in
    let order : order_of c.args.self.order (kind_of c.read_u32-number.result) (drop 8 head) ≡ Some c.in-Some.order =
    ap (λ n. order_of c.args.self.order (kind_of n) (drop 8 head)) start.type ∙ start.order in
    let enough = total_enough (kind_of c.read_u32-number.result) c.read_u32-total.result good in
    let size : length bytes ≡ c.read_u32-total.result - 8 = omega (arith, c.in-Ok.ensures.within, enough) in
    let octets_head : AreBytes head = λ i. omega (arith, c.type_inv.head i) in
    let closing : c.read_u32.result ≡ number c.in-Some.order 4 (drop (c.read_u32-total.result - 12) bytes) =
    c.read_u32.ensures ∙ ap (number c.in-Some.order 4) (take_rest c.as_slice.result.now (c.read_u32-total.result - 12))
    ∙ ap (λ l. number c.in-Some.order 4 (drop (c.read_u32-total.result - 12) l)) c.as_slice.ensures in
    let body : c.truncate.new.self ≡ take (c.read_u32-total.result - 12) bytes = c.truncate.ensures in (
      taken.0,
      taken.1,
      block_parts c.args.self.order c.in-Some.order c.read_u32-number.result c.read_u32-total.result head taken.0 bytes
          c.requires.head start.type start.total order good filled.0 size octets_head c.in-Ok.ensures.bytes
          (sym closing ∙ c.if-read_u32-total.false)
          ∙ ap (λ l. block_bytes (record { order = c.in-Some.order; number = c.read_u32-number.result; body = l }))
          (sym body),
    )

pub returns-clause-stands : goal.returns-clause-stands
returns-clause-stands g c =
    let head = c.args.head.now in
    let start = head_is c.args.self.order c.in-Some.order head c.read_u32-number.result c.read_u32-total.result
    c.of-kind.result c.order_of.result c.read_u32-number.ensures c.of-kind.ensures c.order_of.ensures c.in-Some.is
    c.read_u32-total.ensures in
    let bytes = c.in-Ok.bytes in
    let taken = c.in-Ok.ensures.reads in
    let filled = read_is head taken.0 bytes c.requires.head taken.2 in
    let good : is_bad_total (kind_of c.read_u32-number.result) c.read_u32-total.result ≡ false =
    ap (λ k. is_bad_total k c.read_u32-total.result) (sym c.of-kind.ensures)
    ∙ sym c.is_bad_total.ensures
    ∙ c.if-is_bad_total.false in
    let order : order_of c.args.self.order (kind_of c.read_u32-number.result) (drop 8 head) ≡ Some c.in-Some.order =
    ap (λ n. order_of c.args.self.order (kind_of n) (drop 8 head)) start.type ∙ start.order in
    let enough = total_enough (kind_of c.read_u32-number.result) c.read_u32-total.result good in
    let size : length bytes ≡ c.read_u32-total.result - 8 = omega (arith, c.in-Ok.ensures.within, enough) in
    let octets_head : AreBytes head = λ i. omega (arith, c.type_inv.head i) in
    let closing : c.read_u32.result ≡ number c.in-Some.order 4 (drop (c.read_u32-total.result - 12) bytes) =
    c.read_u32.ensures ∙ ap (number c.in-Some.order 4) (take_rest c.as_slice.result.now (c.read_u32-total.result - 12))
    ∙ ap (λ l. number c.in-Some.order 4 (drop (c.read_u32-total.result - 12) l)) c.as_slice.ensures in
    let body : c.truncate.new.self ≡ take (c.read_u32-total.result - 12) bytes = c.truncate.ensures in
    let long = body_length c.args.self.order c.in-Some.order c.read_u32-number.result c.read_u32-total.result head
    taken.0 bytes c.requires.head start.type start.total order good filled.0 size octets_head c.in-Ok.ensures.bytes in
    let framed = block_framed c.args.self.order c.in-Some.order c.read_u32-number.result c.read_u32-total.result head
    taken.0 bytes c.requires.head start.type start.total order good filled.0 size octets_head c.in-Ok.ensures.bytes
    (omega (arith, c.read_u32-number.type_inv)) in
    let few : c.args.self.full && gives_packet (kind_of c.read_u32-number.result) ≡ false =
    ap (λ n. c.args.self.full && gives_packet (kind_of n)) start.type
    ∙ few_kind c.args.self.order c.args.self.full c.args.self.room head c.requires.room c.requires.head
    c.requires.few in
    let Stands : List ℕ → Type 0 =
    λ l. StandsHere c.args.self (record { order = c.in-Some.order; number = c.read_u32-number.result; body = l }) in
    subst Stands (sym body) (record {
      framed = framed;
      room = omega (
        arith,
        length-block_bytes (record {
          order = c.in-Some.order;
          number = c.read_u32-number.result;
          body = take (c.read_u32-total.result - 12) bytes;
        }),
        long,
        size,
        enough,
      );
      few = few;
    })
