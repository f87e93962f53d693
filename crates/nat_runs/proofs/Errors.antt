-- Without errors a packet is what its frame is as a flow.
use Rattle.std.proofs.Common.{◌≡◌, Bool, true, false, refl, sym, ap, ◌∙◌, subst, Some, None}
use Rattle.std.specs.Prelude.{if◌then◌else◌, Result, Ok, Err}
use Rattle.plain_text.specs.declared.packet.Packet.{Packet}
use Rattle.packet_headers.specs.declared.flow.Flow.{Flow}
use Rattle.packet_headers.specs.declared.flow.NotFlow.{NotFlow}
use Rattle.packet_headers.specs.View.{viewed}
use Rattle.icmp_errors.specs.ErrorView.{viewed_error}
use Rattle.nat_box.specs.declared.place.Class.{Class}
use Rattle.nat_box.specs.declared.place.Place.{Place}
use Rattle.nat_box.specs.declared.place.Place.TheVariants.{FindsPort}
use Rattle.nat_box.specs.declared.seeing.Seen.{Seen}
use Rattle.nat_box.specs.Places.{noted}
use Rattle.nat_box.specs.Settings.{Settings}
use Rattle.nat_box.specs.Nat.{error_or, seen_as, seen_by, begun, bytes_out, local_at}
use Rattle.nat_box.proofs.SeenAs.{lets_errors}
use Rattle.nat_runs.specs.Met.{met_of}
use Rattle.nat_runs.specs.Errors.{flow_alone, BeginsByFlow, SendsByFlow, OtherMovesAreTheSame, NoneFindsPort}
use Rattle.nat_runs.proofs.Known.{KnownAt, Known}
use Rattle.nat_runs.proofs.Knowing.{run_known}

seen_alone : (s : Settings) (p : Packet) → s.errors ≡ false → seen_by s p ≡ flow_alone (viewed p.bytes p.original)
seen_alone s p none = by (viewed p.bytes p.original)
  where
    by : (r : Result Flow NotFlow) → seen_as s p.bytes p.original r ≡ flow_alone r
    by (Ok flow) = refl
    by (Err answer) =
        ap (λ (b : Bool). error_or answer (if b then viewed_error p.bytes p.original else None)) none

pub begins_by_flow : BeginsByFlow
begins_by_flow s none p = ap (λ (seen : Seen). local_at (begun s seen)) (seen_alone s p none)

pub sends_by_flow : SendsByFlow
sends_by_flow s none p l = ap (λ (seen : Seen). bytes_out s p.bytes (noted l) seen) (seen_alone s p none)

pub other_moves_are_the_same : OtherMovesAreTheSame
other_moves_are_the_same s errors = refl

pub none_finds_port : NoneFindsPort
none_finds_port s threads inputs steps t h is history none there at =
    let known = subst (Known s (met_of s t steps)) there (run_known s threads inputs steps is history t) in
    let k : KnownAt s (met_of s t steps) h.packet FindsPort (noted h.place) =
    subst (λ (place : Place). KnownAt s (met_of s t steps) h.packet place (noted h.place)) at known in
    let let_in : s.errors ≡ true = lets_errors s h.packet (k.0.0.class ∙ ap (λ (c : Class). Some c) k.1) in
    let both : false ≡ true = sym none ∙ let_in in
    absurd (cc)
