use Rattle.std.proofs.Common.{true, refl}
use Rattle.std.specs.Prelude.{slice_index}
use Rattle.tagged_frames.specs.Tags.{behind_tag}
use Rattle.nat_box.specs.Boxes as nat
use Rattle.balancer_box.specs.Boxes as balancer
use Rattle.monitor_box.specs.Boxes as monitor
use Rattle.kept_tags.proofs.TagBytes.{addresses_and_tag_stay}
use Rattle.kept_tags.proofs.NatBytes.{nat_leaves}
use Rattle.kept_tags.proofs.BalancerBytes.{balancer_leaves}
use Rattle.kept_tags.proofs.CountBytes.{count_leaves}
use Rattle.kept_tags.proofs.laws.tags_go_out_as_they_came.Goals as goal

pub returns-clause-nat : goal.returns-clause-nat
returns-clause-nat c = λ b p l tagged.
    addresses_and_tag_stay (nat.box_meaning b) p l tagged (nat_leaves b.settings (behind_tag true p) l)

pub returns-clause-balancer : goal.returns-clause-balancer
returns-clause-balancer c = λ b p l tagged.
    addresses_and_tag_stay (balancer.box_meaning b) p l tagged
    (balancer_leaves b.settings (behind_tag true p) l)

pub returns-clause-monitor : goal.returns-clause-monitor
returns-clause-monitor c = λ b p l tagged. addresses_and_tag_stay (monitor.box_meaning b) p l tagged refl

pub returns-clause-count : goal.returns-clause-count
returns-clause-count c = λ p l tagged. count_leaves p.bytes (slice_index l.regs 0) tagged
