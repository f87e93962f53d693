-- The inputs of a thread behind their tags are those of the packets behind their tags.
use Rattle.std.proofs.Common.{◌≡◌, ℕ, ◌-◌, Bool, true, false, List, [], ◌∷◌, refl, sym, ap, ◌∙◌, cond, arith}
use Rattle.std.specs.Prelude.{map, ◌==◌}
use Rattle.tagged_frames.specs.FromPlainText.{Packet}
use Rattle.tagged_frames.specs.Tags.{behind_tag}
use Rattle.tagged_frames.specs.FromPacketHeaders.{viewed}
use Rattle.input_logger.specs.Inputs.{thread_of, thread_of_view, inputs_of}

behind_none : (p : Packet) → behind_tag false p ≡ p
behind_none p =
    let same : p.original - 0 ≡ p.original = omega arith in ap (λ (n : ℕ). record p { original = n }) same

-- what stands behind a packet's tag is steered as the packet is
thread_behind : (tags : Bool) (p : Packet) (threads : ℕ)
    → thread_of tags p threads ≡ thread_of false (behind_tag tags p) threads
thread_behind tags p threads =
    ap (λ (q : Packet). thread_of_view (viewed q.bytes q.original) threads) (sym (behind_none (behind_tag tags p)))

mapped : (f : Packet → Packet) (b : Bool) (p : Packet) (kept : List Packet)
    → map f (cond b (p ∷ kept) kept) ≡ cond b (f p ∷ map f kept) (map f kept)
mapped f true p kept = refl
mapped f false p kept = refl

pub inputs_behind : (threads : ℕ) (tags : Bool) (t : ℕ) (packets : List Packet)
    → map (behind_tag tags) (inputs_of (record { threads = threads; tags = tags; packets = packets }) t)
    ≡ inputs_of (record { threads = threads; tags = false; packets = map (behind_tag tags) packets }) t
inputs_behind threads tags t [] = refl
inputs_behind threads tags t (p ∷ packets) =
    mapped (behind_tag tags) (thread_of tags p threads == t) p
    (inputs_of (record { threads = threads; tags = tags; packets = packets }) t)
    ∙ (ap (λ (kept : List Packet). cond (thread_of tags p threads == t) (behind_tag tags p ∷ kept) kept)
    (inputs_behind threads tags t packets)
    ∙ ap (λ (n : ℕ). cond (n == t)
    (behind_tag tags p ∷ inputs_of (record {
      threads = threads;
      tags = false;
      packets = map (behind_tag tags) packets;
    }) t) (inputs_of (record { threads = threads; tags = false; packets = map (behind_tag tags) packets }) t))
    (thread_behind tags p threads))
