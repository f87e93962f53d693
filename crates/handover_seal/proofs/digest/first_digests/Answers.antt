use Rattle.std.proofs.Common.{ℕ, ◌+◌, ◌∷◌, ◌∙◌, [], List, ap, length, length-append, subst, sym, take}
use Rattle.std.specs.Prelude.{slice_get}
use Rattle.sha2.specs.Hashers.{Holds256}
use Rattle.handover_seal.specs.Packets.{packets_digest, packets_text}
use Rattle.handover_seal.proofs.Hashed.{each_more, more_text}
use Rattle.handover_seal.proofs.digest.first_digests.Goals as goal

pub loop-packet-preserved : goal.loop-packet-preserved
loop-packet-preserved c =
    let k : ℕ = c.loop-packet.packet-index in
    let holds : Holds256 c.take_packet.new.hasher (packets_text c.args.unit (take (k + 1) c.args.packets.now)) =
    subst (Holds256 c.take_packet.new.hasher) (more_text c.args.unit c.args.packets.now k c.packet-item.result
    c.loop-packet-test.true (sym c.packet-item.is))
    (c.take_packet.ensures _ c.loop-packet.invariant.holds) in
    let pushed = c.in_ok-push-2.ensures.ok in
    record {
      holds = holds;
      many =
          ap length pushed ∙ length-append c.loop-packet.digests (c.in_ok-digest_so_far-2.field-0 ∷ [])
          ∙ ap (λ (n : ℕ). n + 1) c.loop-packet.invariant.many;
      each = λ m low.
          ap (λ (l : List (List ℕ)). slice_get l m) pushed
          ∙ each_more (λ (m : ℕ). packets_digest c.args.unit (take m c.args.packets.now)) c.loop-packet.digests
          c.in_ok-digest_so_far-2.field-0 k c.loop-packet.invariant.many c.loop-packet.invariant.each
          (c.in_ok-digest_so_far-2.ensures _ holds) m low;
    }
