-- The balancer leaves the first twelve bytes that it sees.
use Rattle.std.proofs.Common.{◌≡◌, ℕ, ◌≤◌, List, take, Option, Some, None, Result, Ok, Err, refl}
use Rattle.std.specs.Prelude.{slice_get}
use Rattle.plain_text.specs.declared.packet.Packet.{Packet}
use Rattle.plain_machine.specs.declared.local.Local.{Local}
use Rattle.packet_headers.specs.declared.flow.Flow.{Flow}
use Rattle.packet_headers.specs.declared.flow.NotFlow.{NotFlow}
use Rattle.packet_headers.specs.View.{viewed}
use Rattle.balancer_box.specs.declared.settings.Backend.{Backend}
use Rattle.balancer_box.specs.declared.place.Class.{Class}
use Rattle.balancer_box.specs.declared.place.Class.TheVariants.{Client, Answer}
use Rattle.balancer_box.specs.declared.place.Noted.{Noted}
use Rattle.balancer_box.specs.Settings.{Settings}
use Rattle.balancer_box.specs.Balancer.{frame_to, frame_out, bytes_out, noted_by, balancer_meaning}
use Rattle.kept_tags.proofs.Seeing.{flow_behind, source_leaves, dest_leaves}

to_leaves : (bytes : List ℕ) (flow : Flow) (backend : Option Backend) → 12 ≤ flow.transport_at
    → take 12 (frame_to bytes flow backend) ≡ take 12 bytes
to_leaves bytes flow (Some backend) behind = dest_leaves bytes flow backend.address backend.port behind
to_leaves bytes flow None behind = refl

flow_leaves : (s : Settings) (class : Class) (bytes : List ℕ) (flow : Flow) (n : Noted) → 12 ≤ flow.transport_at
    → take 12 (frame_out s class bytes flow n) ≡ take 12 bytes
flow_leaves s Client bytes flow n behind = to_leaves bytes flow (slice_get s.backends n.backend) behind
flow_leaves s Answer bytes flow n behind = source_leaves bytes flow s.address s.port behind

view_leaves : (s : Settings) (bytes : List ℕ) (original : ℕ) (n : Noted) (view : Result Flow NotFlow)
    → viewed bytes original ≡ view → take 12 (bytes_out s bytes n view) ≡ take 12 bytes
view_leaves s bytes original n (Ok flow) is = flow_leaves s n.class bytes flow n (flow_behind bytes original flow is)
view_leaves s bytes original n (Err answer) is = refl

pub balancer_leaves : (s : Settings) (p : Packet) (l : Local)
    → take 12 ((balancer_meaning s).out p l) ≡ take 12 p.bytes
balancer_leaves s p l = view_leaves s p.bytes p.original (noted_by s l) (viewed p.bytes p.original) refl
