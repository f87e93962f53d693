-- What is noted in a Local is read from it again.
use Rattle.std.specs.Prelude.{◌≡◌, ℕ, ◌+◌, ◌*◌, ◌/◌, ◌%◌, ◌^◌, ◌<◌, refl}
use Rattle.std.proofs.Common.{arith, ap, ◌∙◌}
use Rattle.plain_machine.specs.declared.local.Local.{Local}
use Rattle.nat_box.specs.declared.place.Place.{Place}
use Rattle.nat_box.specs.declared.place.Place.TheVariants.{HearsTime, FindsMapping, UnbindsFreed, GivesBackFreed}
use Rattle.nat_box.specs.declared.place.Place.TheVariants.{DrawsWord, ReservesPort, BindsPort, FindsOrBinds}
use Rattle.nat_box.specs.declared.place.Place.TheVariants.{UnbindsLost, GivesBackLost, FindsEndpoint, AsksIfLives}
use Rattle.nat_box.specs.declared.place.Place.TheVariants.{CountsDrop, SendsOut, Ends, FindsPort}
use Rattle.nat_box.specs.declared.place.Class.{Class}
use Rattle.nat_box.specs.declared.place.Class.TheVariants.{Outbound, Hairpin, Inbound, OutboundError}
use Rattle.nat_box.specs.declared.place.Noted.{Noted}
use Rattle.nat_tables.specs.declared.phase.Segment.{Segment}
use Rattle.nat_tables.specs.declared.phase.Segment.TheVariants.{Silent, Opens, Carries, Closes}
use Rattle.nat_box.specs.Places.{number_of, place_numbered, number_of_class, class_of, noted, local_of}
use Rattle.nat_box.specs.Places.{number_of_segment, segment_numbered, packed, packed_port, packed_segment}

pub place_again : (p : Place) → place_numbered (number_of p) ≡ p
place_again HearsTime = refl
place_again FindsMapping = refl
place_again UnbindsFreed = refl
place_again GivesBackFreed = refl
place_again DrawsWord = refl
place_again ReservesPort = refl
place_again BindsPort = refl
place_again FindsOrBinds = refl
place_again UnbindsLost = refl
place_again GivesBackLost = refl
place_again FindsEndpoint = refl
place_again AsksIfLives = refl
place_again CountsDrop = refl
place_again SendsOut = refl
place_again Ends = refl
place_again FindsPort = refl

pub class_again : (c : Class) → class_of (number_of_class c) ≡ c
class_again Outbound = refl
class_again Hairpin = refl
class_again Inbound = refl
class_again OutboundError = refl

pub segment_again : (g : Segment) → segment_numbered (number_of_segment g) ≡ g
segment_again Silent = refl
segment_again Opens = refl
segment_again Carries = refl
segment_again Closes = refl

-- and so are the port and the kind of segments that are packed into one register

pub packed_port_again : (port : ℕ) (g : Segment) → port < 2 ^ 16 → packed_port (packed port g) ≡ port
packed_port_again port g low = omega arith

pub packed_segment_again : (port : ℕ) (g : Segment) → port < 2 ^ 16 → packed_segment (packed port g) ≡ g
packed_segment_again port g low =
    let above : packed port g / 2 ^ 16 ≡ number_of_segment g = omega arith in
    ap segment_numbered above ∙ segment_again g

-- each number fits its field
pub record IsNoted (n : Noted) : Type 0 where
  pub protocol : n.source.protocol < 2 ^ 8
  pub address : n.source.address < 2 ^ 32
  pub source_port : n.source.port < 2 ^ 16
  pub dest_port : n.dest_port < 2 ^ 16
  pub port : n.port < 2 ^ 16
  pub freed_protocol : n.freed.protocol < 2 ^ 8
  pub freed_port : n.freed.port < 2 ^ 16
  pub target_protocol : n.target.protocol ≡ n.source.protocol
  pub target_address : n.target.address < 2 ^ 32
  pub target_port : n.target.port < 2 ^ 16

pub is_noted : (l : Local) → IsNoted (noted l)
is_noted l = record {
  protocol = omega arith;
  address = omega arith;
  source_port = omega arith;
  dest_port = omega arith;
  port = omega arith;
  freed_protocol = omega arith;
  freed_port = omega arith;
  target_protocol = refl;
  target_address = omega arith;
  target_port = omega arith;
}

pub noted_again : (p : Place) (n : Noted) → IsNoted n → noted (local_of p n) ≡ n
noted_again p n is =
    let c : class_of (number_of_class n.class) ≡ n.class = class_again n.class in
    let a1 : n.source.protocol % 2 ^ 8 ≡ n.source.protocol = omega (arith, is.protocol) in
    let a2 : n.source.address % 2 ^ 32 ≡ n.source.address = omega (arith, is.address) in
    let a3 : n.source.port % 2 ^ 16 ≡ n.source.port = omega (arith, is.source_port) in
    let a4 : packed_port (packed n.dest_port n.segment) ≡ n.dest_port =
    packed_port_again n.dest_port n.segment is.dest_port in
    let g : packed_segment (packed n.dest_port n.segment) ≡ n.segment =
    packed_segment_again n.dest_port n.segment is.dest_port in
    let a5 : n.port % 2 ^ 16 ≡ n.port = omega (arith, is.port) in
    let a6 : n.freed.protocol % 2 ^ 8 ≡ n.freed.protocol = omega (arith, is.freed_protocol) in
    let a7 : n.freed.port % 2 ^ 16 ≡ n.freed.port = omega (arith, is.freed_port) in
    let a8 : n.source.protocol % 2 ^ 8 ≡ n.target.protocol = omega (arith, is.protocol, is.target_protocol) in
    let a9 : n.target.address % 2 ^ 32 ≡ n.target.address = omega (arith, is.target_address) in
    let a10 : n.target.port % 2 ^ 16 ≡ n.target.port = omega (arith, is.target_port) in
    λ i. record {
      class = c i;
      source = record { protocol = a1 i; address = a2 i; port = a3 i };
      dest_port = a4 i;
      segment = g i;
      time = n.time;
      word_or_reason = n.word_or_reason;
      port = a5 i;
      freed = record { protocol = a6 i; port = a7 i };
      target = record { protocol = a8 i; address = a9 i; port = a10 i };
    }
