-- How the packets that are the same as a packet are counted: by a table of contents with their counts.
use Rattle.std.specs.Prelude.{◌≡◌, ℕ, ◌+◌, ◌==◌, ◌&&◌, Bool, true, false, List, [], ◌∷◌}
use Rattle.std.specs.Option.{unwrap_or}
use Rattle.std.specs.Map.{lookup}
use Rattle.std.specs.Str.{bytes_eq}
use Rattle.plain_text.specs.declared.packet.Packet.{Packet}
use Rattle.plain_text.specs.declared.packet.Unit.{Unit as FractionUnit}
use Rattle.plain_machine.specs.declared.emission.Emission.{Emission}
use Rattle.schedule_check.specs.declared.content.Content.{Content}
use Rattle.recovery_world.specs.Matching.{nanoseconds}

-- the content of a packet whose fraction is in this unit
pub record IsContentOf (u : FractionUnit) (p : Packet) (c : Content) : Type 0 where
  pub seconds : c.seconds ≡ p.seconds
  pub nanoseconds : c.nanoseconds ≡ nanoseconds u p
  pub original : c.original ≡ p.original
  pub bytes : c.bytes.now ≡ p.bytes

-- whether it is the content of this packet
abbrev pub is_content : FractionUnit → Packet → Content → Bool
is_content u p c =
    (p.seconds == c.seconds)
    && ((nanoseconds u p == c.nanoseconds) && ((p.original == c.original) && bytes_eq p.bytes c.bytes.now))

-- whether two packets are the same
abbrev pub same : FractionUnit → Packet → FractionUnit → Packet → Bool
same u p v q =
    (p.seconds == q.seconds)
    && ((nanoseconds u p == nanoseconds v q) && ((p.original == q.original) && bytes_eq p.bytes q.bytes))

-- how many items pass a test
abbrev pub one_if : Bool → ℕ
one_if true = 1
one_if false = 0

abbrev pub how_many : {X : Type 0} → (X → Bool) → List X → ℕ
how_many test [] = 0
how_many test (x ∷ xs) = one_if (test x) + how_many test xs

-- how many packets, or emissions, are the same as a packet
abbrev pub packets_like : FractionUnit → Packet → List Packet → ℕ
packets_like u p packets = how_many (same u p u) packets

abbrev pub sent_like : FractionUnit → Packet → FractionUnit → List Emission → ℕ
sent_like u p v sent = how_many (λ o. same u p v o.packet) sent

-- the count under the first content that passes a test
abbrev pub count_under : (Content → Bool) → List (Content × ℕ) → ℕ
count_under test counts = unwrap_or (lookup test counts) 0

-- the count under the content of a packet
abbrev pub count_in : FractionUnit → Packet → List (Content × ℕ) → ℕ
count_in u p counts = count_under (is_content u p) counts
