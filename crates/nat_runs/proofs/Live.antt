-- What comes in found a live mapping.
use Rattle.std.proofs.Common.{ℕ, List, Option, Some, None}
use Rattle.plain_text.specs.declared.packet.Packet.{Packet}
use Rattle.nat_tables.specs.declared.entries.Endpoint.{Endpoint}
use Rattle.nat_box.specs.declared.place.Class.{Class}
use Rattle.nat_box.specs.declared.place.Class.TheVariants.{Outbound, Hairpin, Inbound, OutboundError}
use Rattle.flow_boxes.specs.Flows.{source_of}
use Rattle.nat_box.specs.declared.seeing.Seen.{Seen}
use Rattle.nat_box.specs.declared.seeing.Seen.TheVariants.{OfFlow, OfError, OfNeither}
use Rattle.nat_box.specs.Settings.{Settings}
use Rattle.nat_box.specs.Nat.{flow_of_error, seen_by}
use Rattle.nat_box.specs.Emissions.{Trail, trail_of, Lived, IsTranslated, IsTranslationOf}
use Rattle.nat_box.proofs.Emissions.{emissions_translate}
use Rattle.std.specs.Prelude.{◌-◌, slice_get}
use Rattle.nat_runs.specs.Live.{FoundLive, GoesToLive, WentToLive, ComesInByLive}
use Rattle.nat_runs.proofs.TableEntries.{lives_is}

found_live : (r : Trail) (key : Endpoint) (port : ℕ) → Lived r key port → FoundLive r key port
found_live r key port lived =
    let used = lives_is key port lived.1 lived.0 lived.4 in
    (lived.0, used.0, lived.1, lived.2, lived.3, used.1, used.2, used.3)

goes_to_live : (s : Settings) (bytes : List ℕ) (seen : Seen) (r : Trail) (sent : List ℕ) (class : Class)
    → IsTranslated s bytes seen r sent class → GoesToLive s bytes seen r sent class
goes_to_live s bytes (OfFlow flow) r sent Outbound is = tt
goes_to_live s bytes (OfFlow flow) r sent Inbound is = (is.0, is.1, found_live r is.0 flow.dest_port is.2, is.3)
goes_to_live s bytes (OfFlow flow) r sent Hairpin is =
    (is.0, is.1, is.3, found_live r is.1 flow.dest_port is.4, is.5)
goes_to_live s bytes (OfFlow flow) r sent OutboundError is = is
goes_to_live s bytes (OfError error) r sent Inbound is =
    (is.0, is.1, found_live r is.0 error.quoted_source_port is.2, is.3)
goes_to_live s bytes (OfError error) r sent OutboundError is =
    (is.0, found_live r (source_of (flow_of_error error)) is.0 is.1, is.2)
goes_to_live s bytes (OfError error) r sent Outbound is = is
goes_to_live s bytes (OfError error) r sent Hairpin is = is
goes_to_live s bytes (OfNeither answer) r sent class is = is

went_to_live : (s : Settings) (r : Trail) (sent : List ℕ) (input : Option Packet) → IsTranslationOf s r sent input
    → WentToLive s r sent input
went_to_live s r sent None is = is
went_to_live s r sent (Some p) is =
    (is.0, is.1, goes_to_live s p.bytes (seen_by s p) r sent is.0 is.2)

pub comes_in_by_live : ComesInByLive
comes_in_by_live s threads inputs x earlier o is bytes h sent =
    went_to_live s (trail_of s x.thread earlier) o.packet.bytes (slice_get (inputs x.thread) (o.input - 1))
    (emissions_translate s threads inputs x earlier o is bytes h sent).1
