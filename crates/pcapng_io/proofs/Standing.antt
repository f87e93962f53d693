-- A block that stands somewhere: its frame is read as it is, and its content decides.
use Rattle.std.proofs.Common.{◌≡◌, ℕ, ◌+◌, ◌-◌, ◌≤◌, ◌==◌, ◌&&◌, Bool, true, false, List, [], ◌∷◌, ◌++◌, length, take}
use Rattle.std.proofs.Common.{drop, Option, Some, None, refl, sym, ap, ◌∙◌, arith, append_assoc, length-append}
use Rattle.std.proofs.Common.{drop-drop}
use Rattle.std.specs.Prelude.{if◌then◌else◌, Result, Ok, Err, is_some, option_to_list}
use Rattle.std.proofs.lemmas.Bool.{le-ltb, lt-ltb, eq-eqb}
use Rattle.std.proofs.lemmas.List.{take_at, drop_at}
use Rattle.std.proofs.Math.Seq.{take-append-add}
use Rattle.plain_text.specs.declared.packet.Packet.{Packet}
use Rattle.pcap_io.specs.declared.order.Order.{Order}
use Rattle.pcap_io.specs.Capture.{spelled, number}
use Rattle.pcap_io.proofs.Spelled.{number-spelled, drop-spelled}
use Rattle.pcapng_io.specs.declared.block.Block.{Block}
use Rattle.pcapng_io.specs.declared.block.BlockKind.{BlockKind}
use Rattle.pcapng_io.specs.declared.block.BlockKind.TheVariants as kind
use Rattle.pcapng_io.specs.declared.fault.NgCause.{NgCause}
use Rattle.pcapng_io.specs.declared.fault.NgCause.TheVariants.{ShortBlock, BadVersion}
use Rattle.pcapng_io.specs.declared.interface.Interface.{Interface}
use Rattle.pcapng_io.specs.Blocks.{block_bytes, kind_of, order_of, is_bad_total, gives_packet}
use Rattle.pcapng_io.specs.Contents.{Content, content, describes, gives}
use Rattle.pcapng_io.specs.Frames.{framed, framed_in, total_at, has_bad_length, IsFramed}
use Rattle.pcapng_io.specs.Interfaces.{interface_in}
use Rattle.pcapng_io.specs.Limits.{limit_here, is_short, shows_packet}
use Rattle.pcapng_io.proofs.Blocks.{spelled_type, total_enough, section_total, length-block_bytes, drop_sum}
use Rattle.pcapng_io.proofs.Frames.{order_of-append, limit_whole}

-- the order of a body is told by its first four bytes, where it tells one
order_of-behind : (o : Order) (k : BlockKind) (xs ys : List ℕ) → (k ≡ kind.Section → 4 ≤ length xs)
    → order_of o k (xs ++ ys) ≡ order_of o k xs
order_of-behind o kind.Section xs ys long = order_of-append o kind.Section xs ys (long refl)
order_of-behind o kind.Interface xs ys long = refl
order_of-behind o kind.Simple xs ys long = refl
order_of-behind o kind.Enhanced xs ys long = refl
order_of-behind o kind.Other xs ys long = refl

framed_ok : (q : Order) (n : ℕ) (bytes : List ℕ) → total_at q bytes ≤ length bytes → has_bad_length q n bytes ≡ false
    → framed_in (Some q) n bytes
    ≡ Ok (record { order = q; number = n; body = take (total_at q bytes - 12) (drop 8 bytes) })
framed_ok q n bytes enough good = rw (le-ltb (length bytes) (total_at q bytes) enough, good) refl

module _ (o : Order) (b : Block) (more : List ℕ) (f : IsFramed o b) where
  from_0 : block_bytes b ++ more
      ≡ spelled b.order 4 b.number
      ++ (spelled b.order 4 (12 + length b.body) ++ (b.body ++ (spelled b.order 4 (12 + length b.body) ++ more)))
  from_0 = simp append_assoc

  from_4 : drop 4 (block_bytes b ++ more)
      ≡ spelled b.order 4 (12 + length b.body) ++ (b.body ++ (spelled b.order 4 (12 + length b.body) ++ more))
  from_4 = ap (drop 4) from_0 ∙ drop-spelled b.order b.number _

  from_8 : drop 8 (block_bytes b ++ more) ≡ b.body ++ (spelled b.order 4 (12 + length b.body) ++ more)
  from_8 =
      sym (drop-drop 4 4 (block_bytes b ++ more)) ∙ ap (drop 4) from_4 ∙ drop-spelled b.order (12 + length b.body) _

  pub number_block : number o 4 (block_bytes b ++ more) ≡ b.number
  number_block =
      let same = spelled_type o b.order b.number b.body f.order in
      ap (number o 4) from_0
      ∙ ap (λ l. number o 4 (l
      ++ (spelled b.order 4 (12 + length b.body) ++ (b.body ++ (spelled b.order 4 (12 + length b.body) ++ more))))) same
      ∙ number-spelled o 4 b.number _ (omega (arith, f.number))

  bounds : (12 ≤ 12 + length b.body) × (12 + length b.body ≤ 16777216)
  bounds = total_enough (kind_of b.number) (12 + length b.body) f.total

  total_block : total_at b.order (block_bytes b ++ more) ≡ 12 + length b.body
  total_block = ap (number b.order 4) from_4 ∙ number-spelled b.order 4 (12 + length b.body) _ (omega (arith, bounds.1))

  order_block : order_of o (kind_of b.number) (drop 8 (block_bytes b ++ more)) ≡ Some b.order
  order_block =
      let long : (k : BlockKind) → is_bad_total k (12 + length b.body) ≡ false → k ≡ kind.Section → 4 ≤ length b.body =
      λ k fine is. omega
      (arith, section_total (12 + length b.body) (ap (λ j. is_bad_total j (12 + length b.body)) (sym is) ∙ fine)) in
      ap (order_of o (kind_of b.number)) from_8
      ∙ order_of-behind o (kind_of b.number) b.body _ (long (kind_of b.number) f.total)
      ∙ f.order

  closing_block : number b.order 4 (drop (12 + length b.body - 4) (block_bytes b ++ more)) ≡ 12 + length b.body
  closing_block =
      let at : 12 + length b.body - 4 ≡ 8 + length b.body = omega arith in
      ap (λ k. number b.order 4 (drop k (block_bytes b ++ more))) at
      ∙ ap (number b.order 4) (sym (drop_sum (length b.body) 8 (block_bytes b ++ more)))
      ∙ ap (λ l. number b.order 4 (drop (length b.body) l)) from_8
      ∙ ap (number b.order 4) (drop_at b.body (spelled b.order 4 (12 + length b.body) ++ more) (length b.body) refl)
      ∙ number-spelled b.order 4 (12 + length b.body) more (omega (arith, bounds.1))

  good_block : has_bad_length b.order b.number (block_bytes b ++ more) ≡ false
  good_block = rw (total_block, f.total, closing_block, eq-eqb (12 + length b.body) (12 + length b.body) refl) refl

  body_block : take (total_at b.order (block_bytes b ++ more) - 12) (drop 8 (block_bytes b ++ more)) ≡ b.body
  body_block =
      let size : total_at b.order (block_bytes b ++ more) - 12 ≡ length b.body = omega (arith, total_block) in
      ap (λ k. take k (drop 8 (block_bytes b ++ more))) size
      ∙ ap (take (length b.body)) from_8
      ∙ take_at b.body _ (length b.body) refl

  -- the bytes of a block are framed as that block, whatever follows
  pub framed_block : framed o (block_bytes b ++ more) ≡ Ok b
  framed_block =
      let size : length (block_bytes b ++ more) ≡ 12 + length b.body + length more =
      length-append (block_bytes b) more ∙ omega (arith, length-block_bytes b) in
      let first : framed o (block_bytes b ++ more)
      ≡ framed_in (order_of o (kind_of (number o 4 (block_bytes b ++ more))) (drop 8 (block_bytes b ++ more)))
      (number o 4 (block_bytes b ++ more)) (block_bytes b ++ more) =
      ap (λ (t : Bool).
      if t
      then Err ShortBlock
      else framed_in (order_of o (kind_of (number o 4 (block_bytes b ++ more))) (drop 8 (block_bytes b ++ more)))
      (number o 4 (block_bytes b ++ more)) (block_bytes b ++ more))
      (le-ltb (length (block_bytes b ++ more)) 12 (omega (arith, size))) in
      first
      ∙ ap (λ n. framed_in (order_of o (kind_of n) (drop 8 (block_bytes b ++ more))) n (block_bytes b ++ more))
      number_block
      ∙ ap (λ q. framed_in q b.number (block_bytes b ++ more)) order_block
      ∙ framed_ok b.order b.number (block_bytes b ++ more) (omega (arith, size, total_block)) good_block
      ∙ ap (λ body. Ok (record { order = b.order; number = b.number; body = body })) body_block

-- a block within its room passes no limit
pub block_limit : (o : Order) (full : Bool) (room : ℕ) (b : Block) (more : List ℕ) → IsFramed o b
    → length (block_bytes b) ≤ room → full && gives_packet (kind_of b.number) ≡ false
    → limit_here o full room (block_bytes b ++ more) ≡ None
block_limit o full room b more f fits few =
    let size = length-append (block_bytes b) more in
    let long = length-block_bytes b in
    let shows : shows_packet o room (block_bytes b ++ more) ≡ gives_packet (kind_of b.number) =
    rw (lt-ltb 3 room (omega arith), lt-ltb 3 (length (block_bytes b ++ more)) (omega arith))
    (ap (λ n. gives_packet (kind_of n)) (number_block o b more f)) in
    let reach : length (block_bytes b) + (room - length (block_bytes b)) ≡ room = omega arith in
    let within : framed o (take room (block_bytes b ++ more)) ≡ Ok b =
    ap (λ n. framed o (take n (block_bytes b ++ more))) (sym reach)
    ∙ ap (framed o) (take-append-add (block_bytes b) more (room - length (block_bytes b)))
    ∙ framed_block o b (take (room - length (block_bytes b)) more) f in
    limit_whole o full room (block_bytes b ++ more) (ap (λ t. full && t) shows ∙ few) (ap is_short within)

-- which kinds of block give a packet
pub one_content : (t : Bool) (given : Content) (cause : NgCause) (c : Content)
    → (if t then Ok given else Err cause) ≡ Ok c → given ≡ c
one_content true given cause c is = cc
one_content false given cause c is = cc

pub described_none : (interfaces : List Interface) (r : Result Interface NgCause) (c : Content)
    → describes interfaces r ≡ Ok c → c.packet ≡ None
described_none interfaces (Ok i) c is =
    let same : record { interfaces = interfaces ++ i ∷ []; packet = None } ≡ c = cc in
    sym (ap (λ (d : Content). d.packet) same)
described_none interfaces (Err cause) c is = cc

given_some : (interfaces : List Interface) (r : Result Packet NgCause) (c : Content) → gives interfaces r ≡ Ok c
    → is_some c.packet ≡ true
given_some interfaces (Ok p) c is =
    let same : record { interfaces = interfaces; packet = Some p } ≡ c = cc in
    sym (ap (λ (d : Content). is_some d.packet) same)
given_some interfaces (Err cause) c is = cc

pub content_gives : (o : Order) (interfaces : List Interface) (k : BlockKind) (body : List ℕ) (c : Content)
    → content o interfaces k body ≡ Ok c → is_some c.packet ≡ gives_packet k
content_gives o interfaces kind.Section body c is = ap (λ (d : Content). is_some d.packet)
    (sym (one_content (number o 2 (drop 4 body) == 1) (record { interfaces = []; packet = None }) BadVersion c is))
content_gives o interfaces kind.Interface body c is = ap is_some (described_none interfaces (interface_in o body) c is)
content_gives o interfaces kind.Simple body c is = given_some interfaces _ c is
content_gives o interfaces kind.Enhanced body c is = given_some interfaces _ c is
content_gives o interfaces kind.Other body c is =
    let same : record { interfaces = interfaces; packet = None } ≡ c = cc in
    sym (ap (λ (d : Content). is_some d.packet) same)

pub count_of : (packet : Option Packet) → length (option_to_list packet) ≡ (if is_some packet then 1 else 0)
count_of None = refl
count_of (Some p) = refl
