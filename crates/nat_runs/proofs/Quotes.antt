-- What an error of ICMP keeps of the packet that it quotes.
use Rattle.std.proofs.Common.{◌≡◌, ◌≢◌, ◌⊎◌, ℕ, ◌+◌, ◌-◌, ◌*◌, ◌/◌, ◌%◌, ◌<◌, ◌≤◌, ◌==◌, Bool, true, false, ◌&&◌, ◌||◌}
use Rattle.std.proofs.Common.{nat_le, if◌then◌else◌, List, ◌++◌, length, get_or, take, drop, sum, inl, inr, Some, refl}
use Rattle.std.proofs.Common.{sym, ap, ◌∙◌, subst, arith}
use Rattle.std.proofs.lemmas.List.Sums.{sum_by_from}
use Rattle.std.proofs.lemmas.Bool.Decides.{nat_tests}
use Rattle.inet_checksum.specs.OnesComplement.{words, AreAsRight, adjusted_16, adjusted_32}
use Rattle.inet_checksum.proofs.AdjustedSums.{are_as_right, adjusted_16-residue, adjusted_32-le}
use Rattle.inet_checksum.proofs.AdjustedSums.{adjusted_32-residue}
use Rattle.packet_headers.specs.Fields.{AreBytes, word_at, long_at}
use Rattle.packet_headers.specs.View.{is_tcp, is_udp}
use Rattle.packet_headers.specs.Rewriting.{written_checksum, adjusted_checksum}
use Rattle.packet_headers.proofs.Places.{length-put_word, word_behind}
use Rattle.packet_headers.proofs.Weights.{weight, weight_inside, weight_before}
use Rattle.packet_headers.proofs.Laws.{word_at-le, long_at-lt}
use Rattle.packet_headers.specs.Fields.{put_word}
use Rattle.icmp_errors.specs.declared.error.IcmpError.{IcmpError}
use Rattle.icmp_errors.specs.ErrorFields.{quoted_version, quoted_ihl, quoted_offset, quoted_protocol, quoted_end}
use Rattle.icmp_errors.specs.ErrorFields.{error_end}
use Rattle.icmp_errors.specs.ErrorView.{quotes_flow, viewed_error}
use Rattle.icmp_errors.specs.ErrorRewriting.{exchanged_word, exchanged_long, icmp_checksum, quoted_checksum}
use Rattle.icmp_errors.specs.ErrorRewriting.{source_place, dest_place, transport_checksum, has_transport_checksum}
use Rattle.icmp_errors.specs.ErrorRewriting.{transport_sum, header_sum, with_quoted_address}
use Rattle.icmp_errors.proofs.Exchanges.{length-exchanged, byte_beside, exchanged_there}
use Rattle.icmp_errors.proofs.Bytes.{long_leaves, message_leaves, word_same}
use Rattle.icmp_errors.proofs.Steps.{Stands, ChecksumStands, checksum_stands, checksum_quoted}
use Rattle.icmp_errors.proofs.Known.{Known, known, stands, seen_is, both}
use Rattle.icmp_errors.proofs.Whole.{Task, source_task, dest_task, Targets, source_targets, dest_targets, done}
use Rattle.icmp_errors.proofs.Whole.{quoted_there, quoted_other}
use Rattle.nat_runs.specs.Quotes.{quoted_words, checksum_there, KeepsQuoted, KeepsNone}
use Rattle.nat_runs.specs.Quotes.{QuotedSourceKeeps, QuotedDestKeeps}

-- One exchanged word and the sum of a piece behind its checksum, whatever follows the piece

before_piece : (frame more : List ℕ) (from to checksum place word : ℕ) → checksum + 1 < from → place + 1 < from
    → weight (exchanged_word frame checksum place word) from to more ≡ weight frame from to more
before_piece frame more from to checksum place word first second =
    let adjusted = adjusted_16 (word_at frame checksum) (word_at frame place) word in
    weight_before (put_word frame checksum adjusted) more from to place word second
    ∙ weight_before frame more from to checksum adjusted first

moved : (w0 w1 w2 old old' word : ℕ) → w1 ≡ w0 → w2 + old' ≡ w1 + word → old' ≡ old → w2 + old ≡ w0 + word
moved w0 w1 w2 old old' word a b c = omega arith

in_piece : (frame more : List ℕ) (from to n checksum place word : ℕ) → checksum + 1 < from → place ≡ from + 2 * n
    → place + 1 < to → to ≤ length frame
    → weight (exchanged_word frame checksum place word) from to more + word_at frame place
    ≡ weight frame from to more + word
in_piece frame more from to n checksum place word first place_is inside in_frame =
    let old = word_at frame place in
    let adjusted = adjusted_16 (word_at frame checksum) old word in
    let half = put_word frame checksum adjusted in
    let before = weight_before frame more from to checksum adjusted first in
    let second =
    weight_inside half more from to n place word place_is inside (rw length-put_word (omega arith)) in
    let same = word_behind frame checksum adjusted place (omega arith) in
    moved (weight frame from to more) (weight half from to more)
    (weight (exchanged_word frame checksum place word) from to more) old (word_at half place) word before second same

-- a word that is not written
other_word : (frame : List ℕ) (checksum place word other : ℕ) → checksum + 2 ≤ other
    → (other + 2 ≤ place) ⊎ (place + 2 ≤ other)
    → word_at (exchanged_word frame checksum place word) other ≡ word_at frame other
other_word frame checksum place word other behind (inl low) =
    word_same (exchanged_word frame checksum place word) frame other
    (byte_beside frame checksum place word other (inr behind) (inl (omega arith)))
    (byte_beside frame checksum place word (other + 1) (inr (omega arith)) (inl (omega arith)))
other_word frame checksum place word other behind (inr high) =
    word_same (exchanged_word frame checksum place word) frame other
    (byte_beside frame checksum place word other (inr behind) (inr (omega arith)))
    (byte_beside frame checksum place word (other + 1) (inr (omega arith)) (inr (omega arith)))

-- The frame after each step, where the quote goes as far as the checksum

abbrev with_outer : List ℕ → Task → List ℕ
with_outer frame w = exchanged_long frame 24 w.outer w.address

abbrev sum_by : List ℕ → IcmpError → Task → ℕ
sum_by frame error w =
    transport_sum (with_outer frame w) error (long_at frame w.quoted) w.address w.port_place w.port

abbrev with_sum : List ℕ → IcmpError → Task → List ℕ
with_sum frame error w =
    exchanged_word (with_outer frame w) (icmp_checksum error) (transport_checksum error) (sum_by frame error w)

abbrev with_port : List ℕ → IcmpError → Task → List ℕ
with_port frame error w = exchanged_word (with_sum frame error w) (icmp_checksum error) w.port_place w.port

abbrev all_done : List ℕ → IcmpError → Task → List ℕ
all_done frame error w =
    with_quoted_address (with_port frame error w) error w.quoted (long_at frame w.quoted) w.address

done_is : (frame : List ℕ) (error : IcmpError) (w : Task) → has_transport_checksum error ≡ true
    → done frame error w ≡ all_done frame error w
done_is frame error w has =
    ap (λ (b : Bool).
    with_quoted_address (exchanged_word (if b then with_sum frame error w else with_outer frame w) (icmp_checksum error)
    w.port_place w.port) error w.quoted (long_at frame w.quoted) w.address) has

module _ (frame : List ℕ) (error : IcmpError) (w : Task) (parts : Stands (length frame) error)
    (targets : Targets error w) (has : has_transport_checksum error ≡ true) where
  at : ChecksumStands error
  at = checksum_stands (length frame) error parts

  -- words of the transport are as they were when the outer address is written, and as they are when the quoted one is

  outer_word : (place : ℕ) → error.transport_at ≤ place → word_at (with_outer frame w) place ≡ word_at frame place
  outer_word place from =
      let half = exchanged_word frame 24 w.outer (w.address / 65536) in
      let ends : w.outer + 4 ≤ 34 = omega (arith, targets.outer_is, targets.outer_to) in
      let begins : 34 + 28 ≤ place = omega (arith, parts.behind, parts.quoted_header) in
      other_word half 24 (w.outer + 2) (w.address % 65536) place (omega (arith, begins))
      (inr (omega (arith, begins, ends)))
      ∙ other_word frame 24 w.outer (w.address / 65536) place (omega (arith, begins))
      (inr (omega (arith, begins, ends)))

  last_word : (place : ℕ) → error.transport_at ≤ place
      → word_at (all_done frame error w) place ≡ word_at (with_port frame error w) place
  last_word place from =
      let f4 = with_port frame error w in
      let c = icmp_checksum error in
      let new = header_sum f4 error (long_at frame w.quoted) w.address in
      let a = exchanged_word f4 c (quoted_checksum error) new in
      let b = exchanged_word a c w.quoted (w.address / 65536) in
      let begins : error.icmp_at + 28 ≤ place = omega (arith, parts.quoted_header, from) in
      let ends : w.quoted + 4 ≤ error.icmp_at + 28 = omega (arith, targets.quoted_is, targets.quoted_to) in
      other_word b c (w.quoted + 2) (w.address % 65536) place (omega (arith, begins))
      (inr (omega (arith, begins, ends)))
      ∙ other_word a c w.quoted (w.address / 65536) place (omega (arith, begins)) (inr (omega (arith, begins, ends)))
      ∙ other_word f4 c (quoted_checksum error) new place (omega (arith, begins)) (inr (omega (arith, begins)))

  checksum_apart : (w.port_place + 2 ≤ transport_checksum error) × (error.transport_at ≤ w.port_place)
  checksum_apart =
      (omega (arith, at.behind_ports, targets.port_is, targets.port_to), omega (arith, targets.port_is))

  -- the sum that is written, by what stood in the frame
  sum_is : sum_by frame error w
      ≡ adjusted_checksum error.protocol (word_at frame (transport_checksum error)) (long_at frame w.quoted) w.address
      (word_at frame w.port_place) w.port
  sum_is =
      ap (λ (old : ℕ).
      adjusted_checksum error.protocol old (long_at frame w.quoted) w.address
      (word_at (with_outer frame w) w.port_place) w.port)
      (outer_word (transport_checksum error) (omega (arith, at.behind_ports)))
      ∙ ap (λ (port : ℕ).
      adjusted_checksum error.protocol (word_at frame (transport_checksum error)) (long_at frame w.quoted) w.address
      port w.port) (outer_word w.port_place checksum_apart.1)

  long_sum : length (with_sum frame error w) ≡ length frame
  long_sum =
      length-exchanged (with_outer frame w) (icmp_checksum error) (transport_checksum error) (sum_by frame error w)
      ∙ length-exchanged (exchanged_word frame 24 w.outer (w.address / 65536)) 24 (w.outer + 2) (w.address % 65536)
      ∙ length-exchanged frame 24 w.outer (w.address / 65536)

  long_outer : length (with_outer frame w) ≡ length frame
  long_outer =
      length-exchanged (exchanged_word frame 24 w.outer (w.address / 65536)) 24 (w.outer + 2) (w.address % 65536)
      ∙ length-exchanged frame 24 w.outer (w.address / 65536)

  -- the checksum that is there then
  checksum_then : word_at (all_done frame error w) (transport_checksum error) ≡ sum_by frame error w
  checksum_then =
      let inside = checksum_quoted error has in
      let c = icmp_checksum error in
      let behind : c + 2 ≤ transport_checksum error = omega (arith, at.behind_ports, parts.quoted_header) in
      last_word (transport_checksum error) (omega (arith, at.behind_ports))
      ∙ other_word (with_sum frame error w) c w.port_place w.port (transport_checksum error) behind
      (inr checksum_apart.0)
      ∙ exchanged_there (with_outer frame w) c (transport_checksum error) (sum_by frame error w)
      (omega (arith, long_outer, inside, parts.in_frame))

  -- what the transport's sum changes by
  module _ (more : List ℕ) where
    abbrev piece : List ℕ → ℕ
    piece f = weight f error.transport_at error.end more

    outer_piece : piece (with_outer frame w) ≡ piece frame
    outer_piece =
        let half = exchanged_word frame 24 w.outer (w.address / 65536) in
        let ends : w.outer + 4 ≤ 34 = omega (arith, targets.outer_is, targets.outer_to) in
        let begins : 34 + 28 ≤ error.transport_at = omega (arith, parts.behind, parts.quoted_header) in
        before_piece half more error.transport_at error.end 24 (w.outer + 2) (w.address % 65536)
        (omega (arith, begins)) (omega (arith, begins, ends))
        ∙ before_piece frame more error.transport_at error.end 24 w.outer (w.address / 65536) (omega (arith, begins))
        (omega (arith, begins, ends))

    sum_piece : piece (with_sum frame error w) + word_at frame (transport_checksum error)
        ≡ piece frame + sum_by frame error w
    sum_piece =
        let inside = checksum_quoted error has in
        let c = icmp_checksum error in
        let cs = transport_checksum error in
        let first : c + 1 < error.transport_at = omega (arith, parts.quoted_header) in
        let cs_is : cs ≡ error.transport_at + 2 * (at.words_in - parts.quoted_words) =
        omega (arith, at.is, at.behind_ports, parts.transport_is) in
        let step = in_piece (with_outer frame w) more error.transport_at error.end (at.words_in - parts.quoted_words) c
        cs (sum_by frame error w) first cs_is (omega (arith, inside)) (omega (arith, long_outer, parts.in_frame)) in
        moved (piece frame) (piece (with_outer frame w)) (piece (with_sum frame error w)) (word_at frame cs)
        (word_at (with_outer frame w) cs) (sum_by frame error w) outer_piece step
        (outer_word cs (omega (arith, at.behind_ports)))

    port_piece : piece (with_port frame error w) + word_at frame w.port_place
        ≡ piece (with_sum frame error w) + w.port
    port_piece =
        let c = icmp_checksum error in
        let first : c + 1 < error.transport_at = omega (arith, parts.quoted_header) in
        let behind : c + 2 ≤ w.port_place = omega (arith, first, checksum_apart.1) in
        let step = in_piece (with_sum frame error w) more error.transport_at error.end targets.port_words c w.port_place
        w.port first targets.port_is (omega (arith, targets.port_is, targets.port_to, parts.ends))
        (omega (arith, long_sum, parts.in_frame)) in
        let same =
        other_word (with_outer frame w) c (transport_checksum error) (sum_by frame error w) w.port_place behind
        (inl checksum_apart.0)
        ∙ outer_word w.port_place checksum_apart.1 in
        moved (piece (with_sum frame error w)) (piece (with_sum frame error w)) (piece (with_port frame error w))
        (word_at frame w.port_place) (word_at (with_sum frame error w) w.port_place) w.port refl step same

    last_piece : piece (all_done frame error w) ≡ piece (with_port frame error w)
    last_piece =
        let f4 = with_port frame error w in
        let c = icmp_checksum error in
        let new = header_sum f4 error (long_at frame w.quoted) w.address in
        let a = exchanged_word f4 c (quoted_checksum error) new in
        let b = exchanged_word a c w.quoted (w.address / 65536) in
        let first : c + 1 < error.transport_at = omega (arith, parts.quoted_header) in
        let ends : w.quoted + 4 ≤ error.transport_at =
        omega (arith, targets.quoted_is, targets.quoted_to, parts.quoted_header) in
        before_piece b more error.transport_at error.end c (w.quoted + 2) (w.address % 65536) first
        (omega (arith, ends))
        ∙ before_piece a more error.transport_at error.end c w.quoted (w.address / 65536) first (omega (arith, ends))
        ∙ before_piece f4 more error.transport_at error.end c (quoted_checksum error) new first
        (omega (arith, parts.quoted_header))

    two_moves : (w0 w1 w2 w3 old new old_port port : ℕ) → w1 + old ≡ w0 + new → w2 + old_port ≡ w1 + port → w3 ≡ w2
        → w3 + (old + old_port) ≡ w0 + (new + port)
    two_moves w0 w1 w2 w3 old new old_port port a b c = omega arith

    whole_piece : piece (all_done frame error w)
        + (word_at frame (transport_checksum error) + word_at frame w.port_place)
        ≡ piece frame + (sum_by frame error w + w.port)
    whole_piece =
        two_moves (piece frame) (piece (with_sum frame error w)) (piece (with_port frame error w))
        (piece (all_done frame error w)) (word_at frame (transport_checksum error)) (sum_by frame error w)
        (word_at frame w.port_place) w.port sum_piece port_piece last_piece

-- The pseudo-header

abbrev addresses : List ℕ → IcmpError → ℕ
addresses frame error =
    word_at frame (source_place error) + word_at frame (source_place error + 2) + word_at frame (dest_place error)
    + word_at frame (dest_place error + 2)

abbrev protocol_byte : List ℕ → IcmpError → ℕ
protocol_byte frame error = get_or frame (error.icmp_at + 8 + 9) 0

quoted_total : (frame : List ℕ) (error : IcmpError) (size : ℕ) (more : List ℕ)
    → sum (quoted_words frame error size more)
    ≡ addresses frame error + protocol_byte frame error + size + weight frame error.transport_at error.end more
quoted_total frame error size more =
    sum_by_from (λ x. x)
    (0 + word_at frame (source_place error) + word_at frame (source_place error + 2) + word_at frame (dest_place error)
    + word_at frame (dest_place error + 2) + protocol_byte frame error + size)
    (words (take (error.end - error.transport_at) (drop error.transport_at frame) ++ more))
    ∙ omega arith

-- what came and what went balance
balances : (addresses_new addresses_old weight_new weight_old checksum was is old_port port transport first second : ℕ)
    → (addresses_new + was) % 65535 ≡ (addresses_old + is) % 65535
    → weight_new + (checksum + old_port) ≡ weight_old + (transport + port)
    → (first + is) % 65535 ≡ (checksum + was) % 65535
    → (second + port) % 65535 ≡ (first + old_port) % 65535
    → transport % 65535 ≡ second % 65535
    → (addresses_new + weight_new) % 65535 ≡ (addresses_old + weight_old) % 65535
balances addresses_new addresses_old weight_new weight_old checksum was is old_port port transport first second a b c
    d e = omega arith

right_with : (addresses_new addresses_old protocol_new protocol_old size weight_new weight_old : ℕ) (new old : List ℕ)
    → sum new ≡ addresses_new + protocol_new + size + weight_new
    → sum old ≡ addresses_old + protocol_old + size + weight_old → protocol_new ≡ protocol_old → 0 < protocol_old
    → (addresses_new + weight_new) % 65535 ≡ (addresses_old + weight_old) % 65535 → AreAsRight old new
right_with addresses_new addresses_old protocol_new protocol_old size weight_new weight_old new old a b c d e =
    are_as_right old new (omega arith) (omega arith) (omega arith)

written_mod : (number old adjusted : ℕ) → (is_tcp number ≡ false → old ≢ 0)
    → written_checksum number old adjusted % 65535 ≡ adjusted % 65535
written_mod number old adjusted has_checksum = grind (arith, nat_tests)

not_tcp : (number : ℕ) → number ≢ 6 → is_tcp number ≡ false
not_tcp number udp = grind (arith, nat_tests)

is_not_tcp : (number : ℕ) → is_tcp number ≡ false → number ≢ 6
is_not_tcp number udp = grind (arith, nat_tests)

at_most : (a b : ℕ) → a ≤ b → nat_le a b ≡ true
at_most a b order = grind (arith, nat_tests)

-- what is written where there was none, and where there was one
written_none : (number old adjusted : ℕ) → is_tcp number ≡ false → old ≡ 0 → written_checksum number old adjusted ≡ 0
written_none number old adjusted udp none = grind (arith, nat_tests)

written_some : (number old adjusted : ℕ) → is_tcp number ≡ false → written_checksum number old adjusted ≡ 0 → old ≡ 0
written_some number old adjusted udp none = grind (arith, nat_tests)

some_protocol : (number : ℕ) → (is_tcp number || is_udp number) ≡ true → 0 < number
some_protocol number test = grind (arith, nat_tests)

quoted_some : (frame : List ℕ) → quotes_flow frame ≡ true → 0 < quoted_protocol frame
quoted_some frame quotes =
    let a = quoted_version frame == 4 in
    let b = nat_le 5 (quoted_ihl frame) in
    let c = quoted_offset frame == 0 in
    let d = is_tcp (quoted_protocol frame) || is_udp (quoted_protocol frame) in
    let outer = both (a && b && c && d) (nat_le (quoted_end frame + 8) (error_end frame)) quotes in
    some_protocol (quoted_protocol frame) (both (a && b && c) d outer.0).1

module _ (frame : List ℕ) (error : IcmpError) (w : Task) (bytes : AreBytes frame) (parts : Stands (length frame) error)
    (targets : Targets error w) (has : has_transport_checksum error ≡ true) (some : 0 < protocol_byte frame error) where
  abbrev new : List ℕ
  new = done frame error w

  abbrev checksum : ℕ
  checksum = word_at frame (transport_checksum error)

  abbrev old_address : ℕ
  old_address = long_at frame w.quoted

  abbrev old_port : ℕ
  old_port = word_at frame w.port_place

  abbrev first : ℕ
  first = adjusted_32 checksum old_address w.address

  abbrev second : ℕ
  second = adjusted_16 first old_port w.port

  number_kept : protocol_byte new error ≡ protocol_byte frame error
  number_kept =
      let at = checksum_stands (length frame) error parts in
      let header : error.icmp_at + 28 ≤ error.transport_at = parts.quoted_header in
      let beyond : error.transport_at + 6 ≤ transport_checksum error = at.behind_ports in
      let outer : w.outer + 4 ≤ 34 = omega (arith, targets.outer_is, targets.outer_to) in
      let behind : 34 ≤ error.icmp_at = parts.behind in
      let quoted : error.icmp_at + 20 ≤ w.quoted = omega (arith, targets.quoted_is, targets.quoted_from) in
      let ports : error.transport_at ≤ w.port_place = omega (arith, targets.port_is) in
      message_leaves (with_outer frame w) error w.quoted w.port_place old_address w.address w.port
      (error.icmp_at + 8 + 9)
      (record {
        icmp = inr (omega arith);
        header = inl (omega arith);
        address = inl (omega (arith, quoted));
        port = inl (omega (arith, ports, header));
        transport = λ has. inl (omega (arith, beyond, header));
      })
      ∙ long_leaves frame 24 w.outer w.address (error.icmp_at + 8 + 9) (inr (omega (arith, behind)))
      (inr (omega (arith, behind, outer)))

  now_is : checksum_there new error ≡ written_checksum error.protocol checksum second
  now_is =
      ap (λ (f : List ℕ). word_at f (transport_checksum error)) (done_is frame error w has)
      ∙ checksum_then frame error w parts targets has
      ∙ sum_is frame error w parts targets has

  keeps_none : KeepsNone frame new error
  keeps_none udp = (
    λ none. written_some error.protocol checksum second (not_tcp error.protocol udp) (sym now_is ∙ none),
    λ none. now_is ∙ written_none error.protocol checksum second (not_tcp error.protocol udp) none,
  )

  weighs : (more : List ℕ)
      → weight new error.transport_at error.end more + (checksum + old_port)
      ≡ weight frame error.transport_at error.end more + (written_checksum error.protocol checksum second + w.port)
  weighs more =
      ap (λ (f : List ℕ). weight f error.transport_at error.end more + (checksum + old_port))
      (done_is frame error w has)
      ∙ whole_piece frame error w parts targets has more
      ∙ ap (λ (sum : ℕ). weight frame error.transport_at error.end more + (sum + w.port))
      (sum_is frame error w parts targets has)

  keeps_quoted : (addresses new error + old_address) % 65535 ≡ (addresses frame error + w.address) % 65535
      → KeepsQuoted frame new error
  keeps_quoted balance size more has_checksum =
      let first_balance = adjusted_32-residue checksum old_address w.address
      (word_at-le frame (transport_checksum error) bytes) (long_at-lt frame w.quoted bytes) in
      let second_balance = adjusted_16-residue first old_port w.port (adjusted_32-le checksum old_address w.address)
      (word_at-le frame w.port_place bytes) in
      let all =
      balances (addresses new error) (addresses frame error) (weight new error.transport_at error.end more)
      (weight frame error.transport_at error.end more) checksum old_address w.address old_port w.port
      (written_checksum error.protocol checksum second) first second balance (weighs more) first_balance second_balance
      (written_mod error.protocol checksum second (λ udp. has_checksum (is_not_tcp error.protocol udp))) in
      right_with (addresses new error) (addresses frame error) (protocol_byte new error) (protocol_byte frame error)
      size (weight new error.transport_at error.end more) (weight frame error.transport_at error.end more)
      (quoted_words new error size more) (quoted_words frame error size more) (quoted_total new error size more)
      (quoted_total frame error size more) number_kept some all

-- Both directions

source_balance : (new old : List ℕ) (error : IcmpError) (address : ℕ) → long_at new (source_place error) ≡ address
    → long_at new (dest_place error) ≡ long_at old (dest_place error)
    → (addresses new error + long_at old (source_place error)) % 65535 ≡ (addresses old error + address) % 65535
source_balance new old error address there same =
    changed (word_at new (source_place error)) (word_at new (source_place error + 2)) (word_at new (dest_place error))
    (word_at new (dest_place error + 2)) (word_at old (source_place error)) (word_at old (source_place error + 2))
    (word_at old (dest_place error)) (word_at old (dest_place error + 2)) address there same
  where
    changed : (a b c d e f g h address : ℕ) → 65536 * a + b ≡ address → 65536 * c + d ≡ 65536 * g + h
        → (a + b + c + d + (65536 * e + f)) % 65535 ≡ (e + f + g + h + address) % 65535
    changed a b c d e f g h address p q = omega arith

dest_balance : (new old : List ℕ) (error : IcmpError) (address : ℕ) → long_at new (dest_place error) ≡ address
    → long_at new (source_place error) ≡ long_at old (source_place error)
    → (addresses new error + long_at old (dest_place error)) % 65535 ≡ (addresses old error + address) % 65535
dest_balance new old error address there same =
    changed (word_at new (source_place error)) (word_at new (source_place error + 2)) (word_at new (dest_place error))
    (word_at new (dest_place error + 2)) (word_at old (source_place error)) (word_at old (source_place error + 2))
    (word_at old (dest_place error)) (word_at old (dest_place error + 2)) address there same
  where
    changed : (a b c d e f g h address : ℕ) → 65536 * c + d ≡ address → 65536 * a + b ≡ 65536 * e + f
        → (a + b + c + d + (65536 * g + h)) % 65535 ≡ (e + f + g + h + address) % 65535
    changed a b c d e f g h address p q = omega arith

-- what is known of a frame that is seen as an error
record IsSeen (frame : List ℕ) (error : IcmpError) : Type 0 where
  parts : Stands (length frame) error
  number : 0 < protocol_byte frame error

seen_as : (frame : List ℕ) (original : ℕ) (error : IcmpError) → viewed_error frame original ≡ Some error
    → IsSeen frame error
seen_as frame original error seen =
    let is = seen_is frame original error seen in
    let k : Known frame original = known frame original is.0 in
    subst (IsSeen frame) is.1 (record { parts = stands frame original k; number = quoted_some frame k.quotes })

pub quoted_source_keeps : QuotedSourceKeeps
quoted_source_keeps frame original error address port bytes seen goes small narrow =
    let has = at_most (transport_checksum error + 2) error.end goes in
    let is = seen_as frame original error seen in
    let w : Task = source_task error address port in
    let targets = source_targets error address port small narrow in
    let there = quoted_there frame error w is.parts bytes targets in
    let other = quoted_other frame error w (dest_place error) is.parts targets (omega arith) (omega arith)
    (inr (omega arith)) in (
      keeps_quoted frame error w bytes is.parts targets has is.number
          (source_balance (done frame error w) frame error address there other),
      keeps_none frame error w bytes is.parts targets has is.number,
    )

pub quoted_dest_keeps : QuotedDestKeeps
quoted_dest_keeps frame original error address port bytes seen goes small narrow =
    let has = at_most (transport_checksum error + 2) error.end goes in
    let is = seen_as frame original error seen in
    let w : Task = dest_task error address port in
    let targets = dest_targets error address port small narrow in
    let there = quoted_there frame error w is.parts bytes targets in
    let other = quoted_other frame error w (source_place error) is.parts targets (omega arith) (omega arith)
    (inl (omega arith)) in (
      keeps_quoted frame error w bytes is.parts targets has is.number
          (dest_balance (done frame error w) frame error address there other),
      keeps_none frame error w bytes is.parts targets has is.number,
    )
