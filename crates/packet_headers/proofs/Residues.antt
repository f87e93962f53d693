-- Five words that are put into a frame: what is read afterwards, and how the sums of words change.
use Rattle.std.proofs.Common.{◌≡◌, ◌⊎◌, ℕ, ◌+◌, ◌*◌, ◌/◌, ◌%◌, ◌<◌, ◌≤◌, List, [], length, get_or, inl, inr, ◌∙◌, arith}
use Rattle.std.proofs.Common.{refl}
use Rattle.packet_headers.specs.Fields.{word_at, long_at, put_word}
use Rattle.packet_headers.proofs.Places.{length-put_word, get_or-put_word_other, word_before, word_behind, word_there}
use Rattle.packet_headers.proofs.Weights.{weight, weight_inside, weight_before, weight_behind}

-- the two checksums, the halves of an address, and a port, and where they go
pub record Write : Type 0 where
  pub header : ℕ
  pub transport : ℕ
  pub address : ℕ
  pub port : ℕ
  pub checksum_place : ℕ
  pub address_place : ℕ
  pub port_place : ℕ

abbrev pub with_header : List ℕ → Write → List ℕ
with_header frame w = put_word frame 24 w.header

abbrev pub with_transport : List ℕ → Write → List ℕ
with_transport frame w = put_word (with_header frame w) w.checksum_place w.transport

abbrev pub with_high : List ℕ → Write → List ℕ
with_high frame w = put_word (with_transport frame w) w.address_place (w.address / 65536)

abbrev pub with_low : List ℕ → Write → List ℕ
with_low frame w = put_word (with_high frame w) (w.address_place + 2) (w.address % 65536)

abbrev pub written : List ℕ → Write → List ℕ
written frame w = put_word (with_low frame w) w.port_place w.port

-- they stand in a header that begins at 14 and a transport that begins at `at`, with whole words before them
pub record Layout (frame : List ℕ) (at least : ℕ) (w : Write) : Type 0 where
  pub address_words : ℕ
  pub checksum_words : ℕ
  pub port_words : ℕ
  pub behind : 34 ≤ at
  pub in_frame : at + least ≤ length frame
  pub address_is : w.address_place ≡ 14 + 2 * address_words
  pub address_from : 6 ≤ address_words
  pub address_to : address_words ≤ 8
  pub checksum_is : w.checksum_place ≡ at + 2 * checksum_words
  pub checksum_in : 2 * checksum_words + 1 < least
  pub port_is : w.port_place ≡ at + 2 * port_words
  pub port_before : port_words < checksum_words

pub length-written : (frame : List ℕ) (w : Write) → length (written frame w) ≡ length frame
length-written frame w = simp length-put_word refl

-- the header's sum changes with its checksum and with the address
pub header_weight : (frame : List ℕ) (at least : ℕ) (w : Write) → Layout frame at least w
    → weight (written frame w) 14 at []
    + (word_at frame 24 + word_at frame w.address_place + word_at frame (w.address_place + 2))
    ≡ weight frame 14 at [] + (w.header + w.address / 65536 + w.address % 65536)
header_weight frame at least w layout =
    let n = layout.address_words in
    let first = weight_inside frame [] 14 at 5 24 w.header refl (omega arith) (omega arith) in
    let second =
    weight_behind (with_header frame w) [] 14 at w.checksum_place w.transport (omega arith) (omega arith) in
    let third = weight_inside (with_transport frame w) [] 14 at n w.address_place (w.address / 65536) layout.address_is
    (omega arith) (simp length-put_word (omega arith)) in
    let fourth = weight_inside (with_high frame w) [] 14 at (n + 1) (w.address_place + 2) (w.address % 65536)
    (omega arith) (omega arith) (simp length-put_word (omega arith)) in
    let fifth = weight_behind (with_low frame w) [] 14 at w.port_place w.port (omega arith) (omega arith) in
    let high =
    word_before (with_header frame w) w.checksum_place w.transport w.address_place (omega arith)
    ∙ word_behind frame 24 w.header w.address_place (omega arith) in
    let low =
    word_behind (with_transport frame w) w.address_place (w.address / 65536) (w.address_place + 2) (omega arith)
    ∙ word_before (with_header frame w) w.checksum_place w.transport (w.address_place + 2) (omega arith)
    ∙ word_behind frame 24 w.header (w.address_place + 2) (omega arith) in
    omega arith

-- the transport's sum changes with its checksum and with the port
pub transport_weight : (frame more : List ℕ) (at least end : ℕ) (w : Write) → Layout frame at least w → at + least ≤ end
    → weight (written frame w) at end more + (word_at frame w.checksum_place + word_at frame w.port_place)
    ≡ weight frame at end more + (w.transport + w.port)
transport_weight frame more at least end w layout ends =
    let first = weight_before frame more at end 24 w.header (omega arith) in
    let second = weight_inside (with_header frame w) more at end layout.checksum_words w.checksum_place w.transport
    layout.checksum_is (omega arith) (simp length-put_word (omega arith)) in
    let third = weight_before (with_transport frame w) more at end w.address_place (w.address / 65536) (omega arith) in
    let fourth =
    weight_before (with_high frame w) more at end (w.address_place + 2) (w.address % 65536) (omega arith) in
    let fifth = weight_inside (with_low frame w) more at end layout.port_words w.port_place w.port layout.port_is
    (omega arith) (simp length-put_word (omega arith)) in
    let checksum = word_behind frame 24 w.header w.checksum_place (omega arith) in
    let port =
    word_behind (with_high frame w) (w.address_place + 2) (w.address % 65536) w.port_place (omega arith)
    ∙ word_behind (with_transport frame w) w.address_place (w.address / 65536) w.port_place (omega arith)
    ∙ word_before (with_header frame w) w.checksum_place w.transport w.port_place (omega arith)
    ∙ word_behind frame 24 w.header w.port_place (omega arith) in
    omega arith

-- the address and the port are there
pub address_there : (frame : List ℕ) (at least : ℕ) (w : Write) → Layout frame at least w
    → long_at (written frame w) w.address_place ≡ w.address
address_there frame at least w layout =
    let high =
    word_before (with_low frame w) w.port_place w.port w.address_place (omega arith)
    ∙ word_before (with_high frame w) (w.address_place + 2) (w.address % 65536) w.address_place (omega arith)
    ∙ word_there (with_transport frame w) w.address_place (w.address / 65536) (simp length-put_word (omega arith)) in
    let low =
    word_before (with_low frame w) w.port_place w.port (w.address_place + 2) (omega arith)
    ∙ word_there (with_high frame w) (w.address_place + 2) (w.address % 65536) (simp length-put_word (omega arith)) in
    omega arith

pub port_there : (frame : List ℕ) (at least : ℕ) (w : Write) → Layout frame at least w
    → word_at (written frame w) w.port_place ≡ w.port
port_there frame at least w layout =
    word_there (with_low frame w) w.port_place w.port (simp length-put_word (omega arith))

-- a byte in none of these places
pub record Elsewhere (w : Write) (k : ℕ) : Type 0 where
  pub header : (k < 24) ⊎ (26 ≤ k)
  pub checksum : (k < w.checksum_place) ⊎ (w.checksum_place + 2 ≤ k)
  pub address : (k < w.address_place) ⊎ (w.address_place + 4 ≤ k)
  pub port : (k < w.port_place) ⊎ (w.port_place + 2 ≤ k)

-- is as it was
pub byte_elsewhere : (frame : List ℕ) (w : Write) (k : ℕ) → Elsewhere w k
    → get_or (written frame w) k 0 ≡ get_or frame k 0
byte_elsewhere frame w k apart =
    get_or-put_word_other (with_low frame w) w.port_place w.port k (λ e. omega arith) (λ e. omega arith)
    ∙ get_or-put_word_other (with_high frame w) (w.address_place + 2) (w.address % 65536) k (λ e. omega arith)
    (λ e. omega arith)
    ∙ get_or-put_word_other (with_transport frame w) w.address_place (w.address / 65536) k (λ e. omega arith)
    (λ e. omega arith)
    ∙ get_or-put_word_other (with_header frame w) w.checksum_place w.transport k (λ e. omega arith) (λ e. omega arith)
    ∙ get_or-put_word_other frame 24 w.header k (λ e. omega arith) (λ e. omega arith)

-- as are those before the checksum of the header, of the other address, and of the transport but for its port and
-- checksum
pub early_byte : (frame : List ℕ) (at least : ℕ) (w : Write) (k : ℕ) → Layout frame at least w → k < 24
    → get_or (written frame w) k 0 ≡ get_or frame k 0
early_byte frame at least w k layout early =
    byte_elsewhere frame w k
    (record { header = inl early; checksum = inl (omega arith); address = inl (omega arith); port = inl (omega arith) })

pub other_side : {A B C D : Type 0} → A ⊎ B → (A → C) → (B → D) → C ⊎ D
other_side (inl a) f g = inl (f a)
other_side (inr b) f g = inr (g b)

pub other_address : (frame : List ℕ) (at least : ℕ) (w : Write) (place : ℕ) → Layout frame at least w → 26 ≤ place
    → place + 4 ≤ 34 → (place + 4 ≤ w.address_place) ⊎ (w.address_place + 4 ≤ place)
    → long_at (written frame w) place ≡ long_at frame place
other_address frame at least w place layout from to apart =
    let kept : (k : ℕ) → place ≤ k → k < place + 4 → get_or (written frame w) k 0 ≡ get_or frame k 0 =
    λ k low high. byte_elsewhere frame w k (record {
      header = inr (omega arith);
      checksum = inl (omega arith);
      address = other_side apart (λ h. omega arith) (λ h. omega arith);
      port = inl (omega arith);
    }) in
    let a = kept place (omega arith) (omega arith) in
    let b = kept (place + 1) (omega arith) (omega arith) in
    let c = kept (place + 2) (omega arith) (omega arith) in
    let d = kept (place + 2 + 1) (omega arith) (omega arith) in
    omega arith

pub transport_byte : (frame : List ℕ) (at least : ℕ) (w : Write) (k : ℕ) → Layout frame at least w → at ≤ k
    → (k < w.checksum_place) ⊎ (w.checksum_place + 2 ≤ k) → (k < w.port_place) ⊎ (w.port_place + 2 ≤ k)
    → get_or (written frame w) k 0 ≡ get_or frame k 0
transport_byte frame at least w k layout from checksum port =
    byte_elsewhere frame w k
    (record { header = inr (omega arith); checksum = checksum; address = inr (omega arith); port = port })
