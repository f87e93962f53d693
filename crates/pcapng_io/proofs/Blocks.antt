-- A block's bytes, read from its head and what follows.
use Rattle.std.proofs.Common.{◌≡◌, ℕ, ◌+◌, ◌-◌, ◌%◌, ◌^◌, ◌<◌, ◌≤◌, ◌==◌, ◌&&◌, ◌||◌, Bool, true, false, not, List}
use Rattle.std.proofs.Common.{◌++◌, length, take, drop, Option, Some, refl, sym, ap, ◌∙◌, arith, append_assoc}
use Rattle.std.proofs.Common.{length-append, drop-drop}
use Rattle.std.specs.Prelude.{if◌then◌else◌, nat_lt}
use Rattle.std.proofs.lemmas.Bool.{lt-ltb, ltb-false, eqb-true, ne_eqb}
use Rattle.std.proofs.lemmas.List.{take_all, take_rest, take-append-drop, length-drop, length-take, drop-append-le}
use Rattle.plain_text.specs.Octets.{AreBytes}
use Rattle.plain_text.proofs.Octets.{AreBytes-take, AreBytes-drop}
use Rattle.pcap_io.specs.declared.order.Order.{Order}
use Rattle.pcap_io.specs.declared.order.Order.TheVariants.{Little, Big}
use Rattle.pcap_io.specs.Capture.{spelled, number}
use Rattle.pcap_io.proofs.Spelled.{spelled_4, length-spelled, number-drop}
use Rattle.pcapng_io.specs.declared.block.Block.{Block}
use Rattle.pcapng_io.specs.declared.block.BlockKind.{BlockKind}
use Rattle.pcapng_io.specs.declared.block.BlockKind.TheVariants as kind
use Rattle.pcapng_io.specs.Blocks.{block_bytes, kind_of, order_of, is_bad_total, gives_packet}
use Rattle.pcapng_io.specs.Frames.{IsFramed, has_bad_length, total_at}
use Rattle.pcapng_io.specs.Limits.{shows_packet}
use Rattle.pcapng_io.proofs.Frames.{order_of-append, total_at-append}

first_kind : (a b c d : Bool)
    → (if a then kind.Section else if b then kind.Interface else if c then kind.Simple else if d then kind.Enhanced
    else kind.Other)
    ≡ kind.Section → a ≡ true
first_kind true b c d is = refl
first_kind false true c d is = cc
first_kind false false true d is = cc
first_kind false false false true is = cc
first_kind false false false false is = cc

pub kind_section : (n : ℕ) → kind_of n ≡ kind.Section → n ≡ 0x0a0d0d0a
kind_section n is = eqb-true n 0x0a0d0d0a (first_kind (n == 0x0a0d0d0a) (n == 1) (n == 3) (n == 6) is)

-- the type of a section header reads alike in both byte orders
pub spelled_section : (o q : Order) → spelled q 4 0x0a0d0d0a ≡ spelled o 4 0x0a0d0d0a
spelled_section Little Little = refl
spelled_section Little Big = refl
spelled_section Big Little = refl
spelled_section Big Big = refl

-- a block's type is spelled in the order of its section, or in its own
pub spelled_type : (o q : Order) (n : ℕ) (body : List ℕ) → order_of o (kind_of n) body ≡ Some q
    → spelled q 4 n ≡ spelled o 4 n
spelled_type o q n body order = by_kind (kind_of n) refl order where
  by_kind : (k : BlockKind) → kind_of n ≡ k → order_of o k body ≡ Some q → spelled q 4 n ≡ spelled o 4 n
  by_kind kind.Section is own = rw (kind_section n is) (spelled_section o q)
  by_kind kind.Interface is own = let same : o ≡ q = cc in ap (λ p. spelled p 4 n) (sym same)
  by_kind kind.Simple is own = let same : o ≡ q = cc in ap (λ p. spelled p 4 n) (sym same)
  by_kind kind.Enhanced is own = let same : o ≡ q = cc in ap (λ p. spelled p 4 n) (sym same)
  by_kind kind.Other is own = let same : o ≡ q = cc in ap (λ p. spelled p 4 n) (sym same)

no_bad : (a b c : Bool) → a || (b || c) ≡ false → (a ≡ false) × (b ≡ false) × (c ≡ false)
no_bad true b c is = cc
no_bad false true c is = cc
no_bad false false true is = cc
no_bad false false false is = (refl, refl, refl)

-- a total length that a kind can have
pub total_enough : (k : BlockKind) (total : ℕ) → is_bad_total k total ≡ false → (12 ≤ total) × (total ≤ 16777216)
total_enough kind.Section total good =
    let parts = no_bad (not (total % 4 == 0)) (nat_lt total 28) (nat_lt 16777216 total) good in
    (omega (arith, ltb-false total 28 parts.1), omega (arith, ltb-false 16777216 total parts.2))
total_enough kind.Interface total good =
    let parts = no_bad (not (total % 4 == 0)) (nat_lt total 20) (nat_lt 16777216 total) good in
    (omega (arith, ltb-false total 20 parts.1), omega (arith, ltb-false 16777216 total parts.2))
total_enough kind.Simple total good =
    let parts = no_bad (not (total % 4 == 0)) (nat_lt total 16) (nat_lt 16777216 total) good in
    (omega (arith, ltb-false total 16 parts.1), omega (arith, ltb-false 16777216 total parts.2))
total_enough kind.Enhanced total good =
    let parts = no_bad (not (total % 4 == 0)) (nat_lt total 32) (nat_lt 16777216 total) good in
    (omega (arith, ltb-false total 32 parts.1), omega (arith, ltb-false 16777216 total parts.2))
total_enough kind.Other total good =
    let parts = no_bad (not (total % 4 == 0)) (nat_lt total 12) (nat_lt 16777216 total) good in
    (omega (arith, ltb-false total 12 parts.1), omega (arith, ltb-false 16777216 total parts.2))

pub section_total : (total : ℕ) → is_bad_total kind.Section total ≡ false → 28 ≤ total
section_total total good =
    ltb-false total 28 (no_bad (not (total % 4 == 0)) (nat_lt total 28) (nat_lt 16777216 total) good).1

-- the order of a body is told by its first four bytes, where it tells one
pub order_of-take : (o : Order) (k : BlockKind) (m : ℕ) (xs : List ℕ) → (k ≡ kind.Section → 4 ≤ length (take m xs))
    → order_of o k (take m xs) ≡ order_of o k xs
order_of-take o kind.Section m xs long =
    sym (order_of-append o kind.Section (take m xs) (drop m xs) (long refl))
    ∙ ap (order_of o kind.Section) (take-append-drop m xs)
order_of-take o kind.Interface m xs long = refl
order_of-take o kind.Simple m xs long = refl
order_of-take o kind.Enhanced m xs long = refl
order_of-take o kind.Other m xs long = refl

pub length-block_bytes : (b : Block) → length (block_bytes b) ≡ 12 + length b.body
length-block_bytes b = simp (length-append, length-spelled) (omega arith)

or_true : (a b : Bool) → b ≡ true → a || b ≡ true
or_true true b is = refl
or_true false b is = is

pub drop_sum : (a b : ℕ) (xs : List ℕ) → drop a (drop b xs) ≡ drop (b + a) xs
drop_sum a b xs = drop-drop a b xs

-- a block, from the 12 bytes of its head and the bytes behind its first eight
module _ (o q : Order) (n total : ℕ) (head taken bytes : List ℕ) (twelve : length head ≡ 12)
    (n_is : n ≡ number o 4 head) (total_is : total ≡ number q 4 (drop 4 head))
    (order : order_of o (kind_of n) (drop 8 head) ≡ Some q) (good : is_bad_total (kind_of n) total ≡ false)
    (parts : bytes ≡ drop 8 head ++ taken) (long : length bytes ≡ total - 8) (head_octets : AreBytes head)
    (octets : AreBytes bytes) where
  enough : 12 ≤ total
  enough = (total_enough (kind_of n) total good).0

  pub body_length : 12 + length (take (total - 12) bytes) ≡ total
  body_length = omega (arith, length-take (total - 12) bytes, enough)

  pub block_framed : n < 2 ^ 32 → IsFramed o (record { order = q; number = n; body = take (total - 12) bytes })
  block_framed fits =
      let told : order_of o (kind_of n) (drop 8 head ++ taken) ≡ order_of o (kind_of n) (drop 8 head) =
      order_of-append o (kind_of n) (drop 8 head) taken (omega (arith, length-drop 8 head)) in
      let whole : (k : BlockKind) → is_bad_total k total ≡ false → k ≡ kind.Section
      → 4 ≤ length (take (total - 12) bytes) =
      λ k fine is. omega (arith, body_length, section_total total (ap (λ j. is_bad_total j total) (sym is) ∙ fine)) in
      record {
        number = fits;
        total = ap (is_bad_total (kind_of n)) body_length ∙ good;
        octets = AreBytes-take (total - 12) bytes octets;
        order =
            order_of-take o (kind_of n) (total - 12) bytes (whole (kind_of n) good) ∙ ap (order_of o (kind_of n)) parts
            ∙ told ∙ order;
      }

  pub block_parts : number q 4 (drop (total - 12) bytes) ≡ total
      → head ++ taken ≡ block_bytes (record { order = q; number = n; body = take (total - 12) bytes })
  block_parts closing =
      let type_is : spelled q 4 n ≡ take 4 head =
      spelled_type o q n (drop 8 head) order ∙ ap (spelled o 4) n_is ∙ spelled_4 o head (omega arith) head_octets in
      let total_first : spelled q 4 (12 + length (take (total - 12) bytes)) ≡ take 4 (drop 4 head) =
      ap (spelled q 4) (body_length ∙ total_is)
      ∙ spelled_4 q (drop 4 head) (omega (arith, length-drop 4 head)) (AreBytes-drop 4 head head_octets) in
      let last_long : length (drop (total - 12) bytes) ≡ 4 = omega (arith, length-drop (total - 12) bytes, enough) in
      let total_last : spelled q 4 (12 + length (take (total - 12) bytes)) ≡ drop (total - 12) bytes =
      ap (spelled q 4) (body_length ∙ sym closing)
      ∙ spelled_4 q (drop (total - 12) bytes) (omega arith) (AreBytes-drop (total - 12) bytes octets)
      ∙ take_all 4 (drop (total - 12) bytes) (omega arith) in
      let rest : take (total - 12) bytes ++ spelled q 4 (12 + length (take (total - 12) bytes)) ≡ drop 8 head ++ taken =
      ap (λ l. take (total - 12) bytes ++ l) total_last ∙ take-append-drop (total - 12) bytes ∙ parts in
      let second : take 4 (drop 4 head) ++ (drop 8 head ++ taken) ≡ drop 4 head ++ taken =
      sym (append_assoc (take 4 (drop 4 head)) (drop 8 head) taken)
      ∙ ap (λ l. (take 4 (drop 4 head) ++ l) ++ taken) (sym (drop-drop 4 4 head))
      ∙ ap (λ l. l ++ taken) (take-append-drop 4 (drop 4 head)) in
      let first : take 4 head ++ (drop 4 head ++ taken) ≡ head ++ taken =
      sym (append_assoc (take 4 head) (drop 4 head) taken) ∙ ap (λ l. l ++ taken) (take-append-drop 4 head) in
      let whole : spelled q 4 n
      ++ (spelled q 4 (12 + length (take (total - 12) bytes))
      ++ (take (total - 12) bytes ++ spelled q 4 (12 + length (take (total - 12) bytes))))
      ≡ head ++ taken =
      ap (λ l.
      l
      ++ (spelled q 4 (12 + length (take (total - 12) bytes))
      ++ (take (total - 12) bytes ++ spelled q 4 (12 + length (take (total - 12) bytes))))) type_is
      ∙ ap (λ l. take 4 head ++ (l ++ (take (total - 12) bytes ++ spelled q 4 (12 + length (take (total - 12) bytes)))))
      total_first ∙ ap (λ l. take 4 head ++ (take 4 (drop 4 head) ++ l)) rest
      ∙ ap (λ l. take 4 head ++ l) second ∙ first in
      sym whole

  -- another total length at the block's end
  pub block_bad : (more : List ℕ) → (number q 4 (drop (total - 12) bytes) ≡ total → ⊥)
      → has_bad_length q n (head ++ (taken ++ more)) ≡ true
  block_bad more other =
      let all = head ++ (taken ++ more) in
      let total_of : total_at q all ≡ total = total_at-append o head (taken ++ more) twelve q ∙ sym total_is in
      let at : total - 4 ≡ 8 + (total - 12) = omega (arith, enough) in
      let behind : drop 8 all ≡ bytes ++ more =
      drop-append-le 8 head (taken ++ more) (omega arith)
      ∙ sym (append_assoc (drop 8 head) taken more)
      ∙ ap (λ l. l ++ more) (sym parts) in
      let last : number q 4 (drop (total - 4) all) ≡ number q 4 (drop (total - 12) bytes) =
      ap (λ k. number q 4 (drop k all)) at
      ∙ ap (number q 4) (sym (drop_sum (total - 12) 8 all))
      ∙ ap (λ l. number q 4 (drop (total - 12) l)) behind
      ∙ number-drop q 4 (total - 12) bytes more (omega (arith, enough)) in
      let differs : (number q 4 (drop (total - 4) all) == total) ≡ false =
      ne_eqb (number q 4 (drop (total - 4) all)) total (λ same. other (sym last ∙ same)) in
      rw total_of (or_true (is_bad_total (kind_of n) total) _ (ap not differs))

-- a packet within a room is seen in its head
pub few_kind : (o : Order) (full : Bool) (room : ℕ) (head : List ℕ) → 12 ≤ room → length head ≡ 12
    → full && shows_packet o room head ≡ false → full && gives_packet (kind_of (number o 4 head)) ≡ false
few_kind o full room head fits twelve few =
    let shows : shows_packet o room head ≡ gives_packet (kind_of (number o 4 head)) =
    rw (lt-ltb 3 room (omega arith), lt-ltb 3 (length head) (omega arith)) refl in
    ap (λ b. full && b) (sym shows) ∙ few

-- what was read of a head
pub record IsHead (o q : Order) (head : List ℕ) (n size : ℕ) (k : BlockKind) : Type 0 where
  pub type : n ≡ number o 4 head
  pub kind : k ≡ kind_of (number o 4 head)
  pub order : order_of o (kind_of (number o 4 head)) (drop 8 head) ≡ Some q
  pub total : size ≡ total_at q head

pub head_is : (o q : Order) (head : List ℕ) (n total : ℕ) (k : BlockKind) (told : Option Order) → n ≡ number o 4 head
    → k ≡ kind_of n → told ≡ order_of o k (take (length head - 8) (drop 8 head)) → told ≡ Some q
    → total ≡ number q 4 (take (length head - 4) (drop 4 head)) → IsHead o q head n total k
head_is o q head n total k told n_is k_is told_is q_is total_is =
    let same : k ≡ kind_of (number o 4 head) = k_is ∙ ap kind_of n_is in
    record {
      type = n_is;
      kind = same;
      order =
          ap (λ j. order_of o j (drop 8 head)) (sym same) ∙ ap (order_of o k) (sym (take_rest head 8))
          ∙ sym told_is ∙ q_is;
      total = total_is ∙ ap (number q 4) (take_rest head 4);
    }

-- what was read behind the last four bytes of a head
pub read_is : (head taken bytes : List ℕ) → length head ≡ 12 → bytes ≡ take (length head - 8) (drop 8 head) ++ taken
    → (bytes ≡ drop 8 head ++ taken) × (4 + length taken ≡ length bytes)
read_is head taken bytes twelve is =
    let parts : bytes ≡ drop 8 head ++ taken = is ∙ ap (λ l. l ++ taken) (take_rest head 8) in
    (parts, omega (arith, ap length parts, length-append (drop 8 head) taken, length-drop 8 head))
