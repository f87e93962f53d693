-- What is hashed of packets, piece by piece, and that it is that of no other packets.
use Rattle.std.proofs.Common.{◌≡◌, ℕ, ◌<◌, ◌≤◌, ◌^◌, ◌++◌, ◌+◌, ◌∙◌, List, [], ◌∷◌, append_assoc, append-nil, arith}
use Rattle.std.proofs.Common.{get_or, ap, length, refl, sym, take, drop}
use Rattle.std.specs.Prelude.{All, Bool, Some, codes, false, nat_lt, slice_get, suc, true, zero}
use Rattle.std.proofs.lemmas.Bool.Decides.{nat_tests}
use Rattle.std.specs.Int.{from_be_bytes, to_be_bytes, w32, w64}
use Rattle.std.specs.List.{flat_map}
use Rattle.std.proofs.lemmas.List.{take_at, drop_at, take_more}
use Rattle.std.proofs.lemmas.Grind.{flat_map-append}
use Rattle.std.proofs.lemmas.List.Elements.{All-head, All-tail}
use Rattle.std.proofs.lemmas.Nat.{from_be_bytes-to_be_bytes_4, from_be_bytes-to_be_bytes_8}
use Rattle.plain_text.specs.declared.packet.Packet.{Packet}
use Rattle.plain_text.specs.declared.packet.Unit.{Unit as TimeUnit}
use Rattle.plain_text.specs.declared.packet.Unit.TheVariants.{Micro, Nano}
use Rattle.handover_seal.specs.Packets.{FitsText, packet_text, packets_text, unit_text}

pub five : {A : Type 0} (t a b c d e : List A)
    → t ++ a ++ b ++ c ++ d ++ e ≡ t ++ (a ++ (b ++ (c ++ (d ++ e))))
five t a b c d e =
    append_assoc (t ++ a ++ b ++ c) d e
    ∙ append_assoc (t ++ a ++ b) c (d ++ e)
    ∙ append_assoc (t ++ a) b (c ++ (d ++ e))
    ∙ append_assoc t a (b ++ (c ++ (d ++ e)))

-- two texts that begin with lists of one length
split : (n : ℕ) (a b c d : List ℕ) → length a ≡ n → length b ≡ n → a ++ c ≡ b ++ d → (a ≡ b) × (c ≡ d)
split n a b c d la lb e = (
  sym (take_at a c n la) ∙ ap (take n) e ∙ take_at b d n lb,
  sym (drop_at a c n la) ∙ ap (drop n) e ∙ drop_at b d n lb,
)

narrow : (a b : ℕ) (c d : List ℕ) → a < 2 ^ 32 → b < 2 ^ 32
    → to_be_bytes w32 a ++ c ≡ to_be_bytes w32 b ++ d → (a ≡ b) × (c ≡ d)
narrow a b c d x y e =
    let parts = split 4 (to_be_bytes w32 a) (to_be_bytes w32 b) c d refl refl e in (
      sym (from_be_bytes-to_be_bytes_4 a x) ∙ ap (from_be_bytes w32) parts.0 ∙ from_be_bytes-to_be_bytes_4 b y,
      parts.1,
    )

wide : (a b : ℕ) (c d : List ℕ) → a < 2 ^ 64 → b < 2 ^ 64
    → to_be_bytes w64 a ++ c ≡ to_be_bytes w64 b ++ d → (a ≡ b) × (c ≡ d)
wide a b c d x y e =
    let parts = split 8 (to_be_bytes w64 a) (to_be_bytes w64 b) c d refl refl e in (
      sym (from_be_bytes-to_be_bytes_8 a x) ∙ ap (from_be_bytes w64) parts.0 ∙ from_be_bytes-to_be_bytes_8 b y,
      parts.1,
    )

nested : (a b c d e t : List ℕ)
    → (a ++ (b ++ (c ++ (d ++ e)))) ++ t ≡ a ++ (b ++ (c ++ (d ++ (e ++ t))))
nested a b c d e t =
    append_assoc a (b ++ (c ++ (d ++ e))) t
    ∙ ap (λ l. a ++ l) (append_assoc b (c ++ (d ++ e)) t
    ∙ ap (λ l. b ++ l) (append_assoc c (d ++ e) t
    ∙ ap (λ l. c ++ l) (append_assoc d e t)))

packet : ℕ → ℕ → ℕ → List ℕ → Packet
packet seconds fraction original bytes =
    record { seconds = seconds; fraction = fraction; original = original; bytes = bytes }

one_packet : (p q : Packet) (c d : List ℕ) → FitsText p → FitsText q
    → packet_text p ++ c ≡ packet_text q ++ d → (p ≡ q) × (c ≡ d)
unfolding packet
one_packet p q c d x y e =
    let whole = sym (nested (to_be_bytes w32 p.seconds) (to_be_bytes w32 p.fraction) (to_be_bytes w32 p.original)
    (to_be_bytes w64 (length p.bytes)) p.bytes c) ∙ e
    ∙ nested (to_be_bytes w32 q.seconds) (to_be_bytes w32 q.fraction) (to_be_bytes w32 q.original)
    (to_be_bytes w64 (length q.bytes)) q.bytes d in
    let seconds = narrow p.seconds q.seconds _ _ x.0 y.0 whole in
    let fraction = narrow p.fraction q.fraction _ _ x.1 y.1 seconds.1 in
    let original = narrow p.original q.original _ _ x.2 y.2 fraction.1 in
    let many = wide (length p.bytes) (length q.bytes) _ _ x.3 y.3 original.1 in
    let bytes = split (length q.bytes) p.bytes q.bytes c d many.0 refl many.1 in (
      ap (λ n. packet n p.fraction p.original p.bytes) seconds.0
          ∙ ap (λ n. packet q.seconds n p.original p.bytes) fraction.0
          ∙ ap (λ n. packet q.seconds q.fraction n p.bytes) original.0
          ∙ ap (λ l. packet q.seconds q.fraction q.original l) bytes.0,
      bytes.1,
    )

no_more : (p : Packet) (c : List ℕ) → [] ≡ packet_text p ++ c → ⊥
no_more p c e = absurd (cc)

all_packets : (ps qs : List Packet) → All FitsText ps → All FitsText qs
    → flat_map packet_text ps ≡ flat_map packet_text qs → ps ≡ qs
all_packets [] [] x y e = refl
all_packets [] (q ∷ qs) x y e = absurd (no_more q (flat_map packet_text qs) e)
all_packets (p ∷ ps) [] x y e = absurd (no_more p (flat_map packet_text ps) (sym e))
all_packets (p ∷ ps) (q ∷ qs) x y e =
    let parts = one_packet p q (flat_map packet_text ps) (flat_map packet_text qs) (All-head FitsText p ps x)
    (All-head FitsText q qs y) e in
    let rest = all_packets ps qs (All-tail FitsText p ps x) (All-tail FitsText q qs y) parts.1 in
    cc

differ : codes "u" ≡ codes "n" → ⊥
differ e = below (ap (λ l. get_or l 0 0) e)
  where
    below : ◌≡◌ {A = ℕ} 117 110 → ⊥
    below bad = omega (arith, bad)

pub told_apart : (a b : TimeUnit) (ps qs : List Packet) → All FitsText ps → All FitsText qs
    → packets_text a ps ≡ packets_text b qs → (a ≡ b) × (ps ≡ qs)
told_apart Micro Micro ps qs x y e =
    (refl, all_packets ps qs x y (split 1 (codes "u") (codes "u") _ _ refl refl e).1)
told_apart Nano Nano ps qs x y e =
    (refl, all_packets ps qs x y (split 1 (codes "n") (codes "n") _ _ refl refl e).1)
told_apart Micro Nano ps qs x y e =
    absurd (differ (split 1 (codes "u") (codes "n") _ _ refl refl e).0)
told_apart Nano Micro ps qs x y e =
    absurd (differ (sym (split 1 (codes "n") (codes "u") _ _ refl refl e).0))

-- one more packet
pub more_text : (u : TimeUnit) (ps : List Packet) (k : ℕ) (p : Packet) → k < length ps → get_or ps k p ≡ p
    → packets_text u (take k ps) ++ packet_text p ≡ packets_text u (take (k + 1) ps)
more_text u ps k p low at =
    append_assoc (unit_text u) (flat_map packet_text (take k ps)) (packet_text p)
    ∙ ap (λ l. unit_text u ++ l) (
    ap (λ l. flat_map packet_text (take k ps) ++ l) (sym (append-nil (packet_text p)))
    ∙ sym (flat_map-append packet_text (take k ps) (p ∷ []))
    ∙ ap (λ l. flat_map packet_text l) (ap (λ x. take k ps ++ x ∷ []) (sym at) ∙ sym (take_more ps k p low)))

-- one more of a list of values

get_more : {A : Type 0} (ds : List A) (d : A) (k : ℕ) → k < length ds → slice_get (ds ++ d ∷ []) k ≡ slice_get ds k
get_more [] d k low = absurd (omega (arith, low))
get_more (x ∷ ds) d zero low = refl
get_more (x ∷ ds) d (suc k) low = get_more ds d k (omega (arith, low))

get_last : {A : Type 0} (ds : List A) (d : A) (k : ℕ) → k ≡ length ds → slice_get (ds ++ d ∷ []) k ≡ Some d
get_last [] d zero e = refl
get_last [] d (suc k) e = absurd (omega (arith, e))
get_last (x ∷ ds) d zero e = absurd (omega (arith, e))
get_last (x ∷ ds) d (suc k) e = get_last ds d k (omega (arith, e))

pub each_more : {A : Type 0} (f : ℕ → A) (ds : List A) (d : A) (n : ℕ) → length ds ≡ n + 1
    → ((k : ℕ) → k ≤ n → slice_get ds k ≡ Some (f k)) → d ≡ f (n + 1) → (k : ℕ) → k ≤ n + 1
    → slice_get (ds ++ d ∷ []) k ≡ Some (f k)
each_more f ds d n long each is k low = by (nat_lt k (n + 1)) refl
  where
    by : (b : Bool) → nat_lt k (n + 1) ≡ b → slice_get (ds ++ d ∷ []) k ≡ Some (f k)
    by true e =
        let below : k < n + 1 = grind (arith, nat_tests) in
        get_more ds d k (omega (arith, below, long)) ∙ each k (omega (arith, below))
    by false e =
        let above : n + 1 ≤ k = grind (arith, nat_tests) in
        let same : k ≡ n + 1 = omega (arith, above, low) in
        get_last ds d k (omega (arith, same, long)) ∙ ap Some is ∙ ap (λ m. Some (f m)) (sym same)
