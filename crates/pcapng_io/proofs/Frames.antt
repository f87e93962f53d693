-- What stands in a block's frame.
use Rattle.std.proofs.Common.{◌≡◌, inl, inr, ℕ, ◌+◌, ◌-◌, ◌<◌, ◌≤◌, ◌&&◌, Bool, true, false, List, [], ◌++◌, length}
use Rattle.std.proofs.Common.{take, drop, Some, None, refl, sym, ap, ◌∙◌, arith, length-append}
use Rattle.std.specs.Prelude.{min, Err, nat_lt, if◌then◌else◌}
use Rattle.std.proofs.lemmas.Bool.{le-ltb, lt-ltb, cases_lt}
use Rattle.std.proofs.lemmas.List.{length-drop, length-take, drop-append-le, append-nil}
use Rattle.std.proofs.Math.Seq.{take-append-add}
use Rattle.plain_text.specs.declared.limit.Limit.TheVariants.{File, Packets, Events, Moves, OutputBytes}
use Rattle.pcap_io.specs.declared.order.Order.{Order}
use Rattle.pcap_io.specs.declared.order.Order.TheVariants.{Little, Big}
use Rattle.pcap_io.specs.Capture.{number}
use Rattle.pcap_io.proofs.Spelled.{number-append, number-drop}
use Rattle.pcapng_io.specs.declared.block.BlockKind.{BlockKind}
use Rattle.pcapng_io.specs.declared.block.BlockKind.TheVariants as kind
use Rattle.pcapng_io.specs.declared.fault.NgCause.TheVariants.{ShortBlock, BadLength, BadMagic, BadVersion, BadLinkType}
use Rattle.pcapng_io.specs.declared.fault.NgCause.TheVariants.{BadOption, NoInterface, BadPacket, BadTime}
use Rattle.pcapng_io.specs.declared.place.Place.{Place}
use Rattle.pcapng_io.specs.declared.place.Stop.{Stop}
use Rattle.pcapng_io.specs.declared.place.Stop.TheVariants as stop
use Rattle.pcapng_io.specs.Blocks.{kind_of, order_of, order_in, is_bad_total}
use Rattle.pcapng_io.specs.Frames.{framed, framed_in, total_at, has_bad_length}
use Rattle.pcapng_io.specs.Limits.{limit_here, is_short, shows_packet}
use Rattle.pcapng_io.specs.Stops.{StopsHere, PassesRest}

-- the first four bytes of a body tell its order
order_in-append : (xs ys : List ℕ) → 4 ≤ length xs → order_in (xs ++ ys) ≡ order_in xs
order_in-append xs ys long = rw (number-append Little 4 xs ys long, number-append Big 4 xs ys long) refl

pub order_of-append : (o : Order) (k : BlockKind) (xs ys : List ℕ) → 4 ≤ length xs
    → order_of o k (xs ++ ys) ≡ order_of o k xs
order_of-append o kind.Section xs ys long = order_in-append xs ys long
order_of-append o kind.Interface xs ys long = refl
order_of-append o kind.Simple xs ys long = refl
order_of-append o kind.Enhanced xs ys long = refl
order_of-append o kind.Other xs ys long = refl

module _ (o : Order) (head more : List ℕ) (twelve : length head ≡ 12) where
  behind_8 : drop 8 (head ++ more) ≡ drop 8 head ++ more
  behind_8 = drop-append-le 8 head more (omega arith)

  pub total_at-append : (p : Order) → total_at p (head ++ more) ≡ total_at p head
  total_at-append p = number-drop p 4 4 head more (omega arith)

  -- behind a whole head, what the frame is hangs on the order that its first bytes tell
  pub framed_behind : framed o (head ++ more)
      ≡ framed_in (order_of o (kind_of (number o 4 head)) (drop 8 head)) (number o 4 head) (head ++ more)
  framed_behind =
      let long : 12 ≤ length (head ++ more) = omega (arith, length-append head more) in
      let told : order_of o (kind_of (number o 4 head)) (drop 8 (head ++ more))
      ≡ order_of o (kind_of (number o 4 head)) (drop 8 head) =
      ap (order_of o (kind_of (number o 4 head))) behind_8
      ∙ order_of-append o (kind_of (number o 4 head)) (drop 8 head) more (omega (arith, length-drop 8 head)) in
      let first : framed o (head ++ more)
      ≡ framed_in (order_of o (kind_of (number o 4 (head ++ more))) (drop 8 (head ++ more))) (number o 4 (head ++ more))
      (head ++ more) =
      ap (λ (b : Bool).
      if b then Err ShortBlock else framed_in (order_of o (kind_of (number o 4 (head ++ more))) (drop 8 (head ++ more)))
      (number o 4 (head ++ more)) (head ++ more)) (le-ltb (length (head ++ more)) 12 long) in
      first
      ∙ ap (λ n. framed_in (order_of o (kind_of n) (drop 8 (head ++ more))) n (head ++ more))
      (number-append o 4 head more (omega arith))
      ∙ ap (λ p. framed_in p (number o 4 head) (head ++ more)) told

-- a frame of a known order, by its total length
module _ (o : Order) (n : ℕ) (bytes : List ℕ) where
  pub framed_short : length bytes < total_at o bytes → framed_in (Some o) n bytes ≡ Err ShortBlock
  framed_short few = rw (lt-ltb (length bytes) (total_at o bytes) few) refl

  pub framed_bad : total_at o bytes ≤ length bytes → has_bad_length o n bytes ≡ true
      → framed_in (Some o) n bytes ≡ Err BadLength
  framed_bad enough bad = rw (le-ltb (length bytes) (total_at o bytes) enough, bad) refl

  -- with all its bytes there it is not short
  pub framed_enough : total_at o bytes ≤ length bytes → is_short (framed_in (Some o) n bytes) ≡ false
  framed_enough enough = by_length (has_bad_length o n bytes) refl where
    by_length : (b : Bool) → has_bad_length o n bytes ≡ b → is_short (framed_in (Some o) n bytes) ≡ false
    by_length true is = rw (le-ltb (length bytes) (total_at o bytes) enough, is) refl
    by_length false is = rw (le-ltb (length bytes) (total_at o bytes) enough, is) refl

-- the limits of what begins here
module _ (o : Order) (full : Bool) (room : ℕ) (bytes : List ℕ) (few : full && shows_packet o room bytes ≡ false) where
  pub limit_fits : length bytes ≤ room → limit_here o full room bytes ≡ None
  limit_fits fits = rw (few, le-ltb room (length bytes) fits) refl

  pub limit_whole : is_short (framed o (take room bytes)) ≡ false → limit_here o full room bytes ≡ None
  limit_whole whole = by_length (nat_lt room (length bytes)) refl where
    by_length : (b : Bool) → nat_lt room (length bytes) ≡ b → limit_here o full room bytes ≡ None
    by_length true is = rw (few, is, whole) refl
    by_length false is = rw (few, is) refl

  pub limit_cut : room < length bytes → is_short (framed o (take room bytes)) ≡ true
      → limit_here o full room bytes ≡ Some File
  limit_cut past short = rw (few, lt-ltb room (length bytes) past, short) refl

pub shows_packet-append : (o : Order) (room : ℕ) (xs ys : List ℕ) → 4 ≤ length xs
    → shows_packet o room (xs ++ ys) ≡ shows_packet o room xs
shows_packet-append o room xs ys long =
    rw (
      number-append o 4 xs ys long,
      lt-ltb 3 (length (xs ++ ys)) (omega (arith, length-append xs ys)),
      lt-ltb 3 (length xs) (omega arith),
    ) refl

-- a head of 12 bytes within the room, which shows no packet too many, and what follows it
module _ (p : Place) (head more : List ℕ) (twelve : length head ≡ 12) (fits : 12 ≤ p.room)
    (head_few : p.full && shows_packet p.order p.room head ≡ false) where
  some : 0 < length (head ++ more)
  some = omega (arith, length-append head more)

  pub few_behind : p.full && shows_packet p.order p.room (head ++ more) ≡ false
  few_behind = ap (λ b. p.full && b) (shows_packet-append p.order p.room head more (omega arith)) ∙ head_few

  first_room : take p.room (head ++ more) ≡ head ++ take (p.room - 12) more
  first_room =
      let reach : length head + (p.room - 12) ≡ p.room = omega arith in
      ap (λ n. take n (head ++ more)) (sym reach) ∙ take-append-add head more (p.room - 12)

  -- what is there within the room
  framed_room : framed p.order (take p.room (head ++ more))
      ≡ framed_in (order_of p.order (kind_of (number p.order 4 head)) (drop 8 head)) (number p.order 4 head)
      (head ++ take (p.room - 12) more)
  framed_room = ap (framed p.order) first_room ∙ framed_behind p.order head (take (p.room - 12) more) twelve

  pub stops_magic : order_of p.order (kind_of (number p.order 4 head)) (drop 8 head) ≡ None
      → StopsHere p (head ++ more) (stop.Refused BadMagic)
  stops_magic none = (
    some,
    framed_behind p.order head more twelve ∙ ap (λ q. framed_in q (number p.order 4 head) (head ++ more)) none,
    limit_whole p.order p.full p.room (head ++ more) few_behind (ap is_short
        (framed_room ∙ ap (λ q. framed_in q (number p.order 4 head) (head ++ take (p.room - 12) more)) none)),
  )

  module _ (q : Order) (order : order_of p.order (kind_of (number p.order 4 head)) (drop 8 head) ≡ Some q) where
    all_framed : framed p.order (head ++ more) ≡ framed_in (Some q) (number p.order 4 head) (head ++ more)
    all_framed =
        framed_behind p.order head more twelve ∙ ap (λ r. framed_in r (number p.order 4 head) (head ++ more)) order

    room_framed : framed p.order (take p.room (head ++ more))
        ≡ framed_in (Some q) (number p.order 4 head) (head ++ take (p.room - 12) more)
    room_framed = framed_room ∙ ap (λ r. framed_in r (number p.order 4 head) (head ++ take (p.room - 12) more)) order

    room_length : length (head ++ take (p.room - 12) more) ≡ min p.room (12 + length more)
    room_length = omega (arith, length-append head (take (p.room - 12) more), length-take (p.room - 12) more)

    pub stops_short : 12 + length more < total_at q head → 12 + length more ≤ p.room
        → StopsHere p (head ++ more) (stop.Refused ShortBlock)
    stops_short few within =
        let total = total_at-append p.order head more twelve q in
        let size = length-append head more in (
          some,
          all_framed ∙ framed_short q (number p.order 4 head) (head ++ more) (omega arith),
          limit_fits p.order p.full p.room (head ++ more) few_behind (omega arith),
        )

    pub stops_large : p.room < 12 + length more → p.room < total_at q head
        → StopsHere p (head ++ more) (stop.TooLarge File)
    stops_large past needs =
        let total = total_at-append p.order head (take (p.room - 12) more) twelve q in
        let size = length-append head more in
        let cut : length (head ++ take (p.room - 12) more) < total_at q (head ++ take (p.room - 12) more) =
        omega (arith, room_length) in
        limit_cut p.order p.full p.room (head ++ more) few_behind (omega arith)
        (ap is_short (room_framed ∙ framed_short q (number p.order 4 head) (head ++ take (p.room - 12) more) cut))

    pub stops_bad : total_at q head ≤ 12 + length more → total_at q head ≤ p.room
        → has_bad_length q (number p.order 4 head) (head ++ more) ≡ true
        → StopsHere p (head ++ more) (stop.Refused BadLength)
    stops_bad enough within bad =
        let total = total_at-append p.order head more twelve q in
        let part = total_at-append p.order head (take (p.room - 12) more) twelve q in
        let size = length-append head more in
        let whole : total_at q (head ++ take (p.room - 12) more) ≤ length (head ++ take (p.room - 12) more) =
        omega (arith, room_length) in (
          some,
          all_framed ∙ framed_bad q (number p.order 4 head) (head ++ more) (omega arith) bad,
          limit_whole p.order p.full p.room (head ++ more) few_behind (ap is_short room_framed
              ∙ framed_enough q (number p.order 4 head) (head ++ take (p.room - 12) more) whole),
        )

    pub stops_passed : (why : Stop) → is_bad_total (kind_of (number p.order 4 head)) (total_at q head) ≡ true
        → PassesRest p.room (total_at q head) more why → StopsHere p (head ++ more) why
    stops_passed stop.End bad passes = absurd passes
    stops_passed (stop.Refused ShortBlock) bad passes = stops_short passes.0 passes.1
    stops_passed (stop.Refused BadLength) bad passes =
        let total = total_at-append p.order head more twelve q in
        stops_bad passes.0 passes.1 (rw (total, bad) refl)
    stops_passed (stop.Refused BadMagic) bad passes = absurd passes
    stops_passed (stop.Refused BadVersion) bad passes = absurd passes
    stops_passed (stop.Refused BadLinkType) bad passes = absurd passes
    stops_passed (stop.Refused BadOption) bad passes = absurd passes
    stops_passed (stop.Refused NoInterface) bad passes = absurd passes
    stops_passed (stop.Refused BadPacket) bad passes = absurd passes
    stops_passed (stop.Refused BadTime) bad passes = absurd passes
    stops_passed (stop.TooLarge File) bad passes = stops_large passes.0 passes.1
    stops_passed (stop.TooLarge Packets) bad passes = absurd passes
    stops_passed (stop.TooLarge Events) bad passes = absurd passes
    stops_passed (stop.TooLarge Moves) bad passes = absurd passes
    stops_passed (stop.TooLarge OutputBytes) bad passes = absurd passes
    stops_passed stop.ReadFault bad passes = tt
    stops_passed stop.NoMemory bad passes = tt

pub and_false : (a b : Bool) → b ≡ false → a && b ≡ false
and_false true b is = is
and_false false b is = refl

pub framed_few : (o : Order) (bytes : List ℕ) → length bytes < 12 → framed o bytes ≡ Err ShortBlock
framed_few o bytes few = rw (lt-ltb (length bytes) 12 few) refl

both_true : (a b c : Bool) → a && (b && c) ≡ true → b ≡ true
both_true true true c is = refl
both_true true false c is = is
both_true false true c is = refl
both_true false false c is = is

-- part of a head, of which fewer than 12 bytes are there only where nothing follows
module _ (p : Place) (head more : List ℕ) (ends : length head < 12 → more ≡ []) where
  shows_behind : shows_packet p.order p.room (head ++ more) ≡ shows_packet p.order p.room head
  shows_behind = elim (cases_lt (length head) 12) [
    | inl few ↦
        ap (λ l. shows_packet p.order p.room (head ++ l)) (ends few)
        ∙ ap (shows_packet p.order p.room) (append-nil head)
    | inr enough ↦ shows_packet-append p.order p.room head more (omega arith)
  ]

  pub head_packets : p.full ≡ true → shows_packet p.order p.room head ≡ true
      → limit_here p.order p.full p.room (head ++ more) ≡ Some Packets
  head_packets full shows =
      let both : p.full && shows_packet p.order p.room (head ++ more) ≡ true = rw (full, shows_behind) shows in
      rw both refl

  pub head_file : p.full && shows_packet p.order p.room head ≡ false → length head ≤ 12 → p.room < length head
      → limit_here p.order p.full p.room (head ++ more) ≡ Some File
  head_file few within past =
      let behind : p.full && shows_packet p.order p.room (head ++ more) ≡ false =
      ap (λ b. p.full && b) shows_behind ∙ few in
      let size = length-append head more in
      limit_cut p.order p.full p.room (head ++ more) behind (omega arith)
      (ap is_short (framed_few p.order (take p.room (head ++ more)) (omega (arith, length-take p.room (head ++ more)))))
