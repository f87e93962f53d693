-- A settling has counted the capture, with the monitor.
use Rattle.std.proofs.Common.{◌≡◌, ℕ, ◌<◌, ◌≤◌, ◌%◌, ◌^◌, false, List, [], ◌∷◌, ◌++◌, length, refl, sym, ap, ◌∙◌}
use Rattle.std.proofs.Common.{subst, arith, None}
use Rattle.std.specs.Prelude.{All, map}
use Rattle.std.proofs.lemmas.List.{take_all, length-map}
use mathlib.Core.Path.{fun_ext}
use Rattle.plain_text.specs.Octets.{IsOfBytes}
use Rattle.plain_text.specs.declared.packet.Packet.{Packet}
use Rattle.tagged_frames.specs.Tags.{behind_tag}
use Rattle.entry_order.proofs.Weights.{sum_below_same}
use Rattle.plain_machine.specs.declared.plain_move.PlainMove.{PlainMove}
use Rattle.plain_machine.specs.Program.{Meaning}
use Rattle.plain_machine.specs.Machine.{Thread}
use Rattle.plain_machine.specs.History.{Step, thread_after, value_after, IsHistory}
use Rattle.tagged_box.specs.Tagged.{tagged_meaning}
use Rattle.tagged_box.specs.Tags.{inputs_behind, hand_behind, steps_behind}
use Rattle.tagged_box.proofs.Moves.{values_same, thread_same}
use Rattle.tagged_box.proofs.Runs.{run_behind}
use Rattle.tagged_box.proofs.InputBytes.{input_bytes}
use Rattle.input_logger.specs.Inputs.{Fed, inputs_of}
use Rattle.input_logger.proofs.InputsBehind.{inputs_behind as fed_behind}
use Rattle.monitor_box.specs.declared.value.MonitorValue.{MonitorValue}
use Rattle.monitor_box.specs.Monitor.{monitor_meaning}
use Rattle.monitor_box.specs.FlowStanding.{HaveBytes}
use Rattle.monitor_box.specs.Arrivals.{share, other_share, shares, taken_sum}
use Rattle.monitor_box.proofs.MatchedTotals.{packets_counted, bytes_counted}
use Rattle.monitor_box.proofs.CountedPackets.{counts_flow_at_rest, counts_others_at_rest}
use Rattle.recovery_world.specs.declared.event.Event.{Event}
use Rattle.recovery_world.specs.declared.event.Event.TheVariants.{Settle}
use Rattle.recovery_world.specs.World.{Setting, World, all_inputs}
use Rattle.recovery_world.specs.Files.{Leaves}
use Rattle.recovery_laws.specs.Settled.{IsSettled}
use Rattle.recovery_laws.proofs.Settlings.{script_settled}
use Rattle.settled_boxes.specs.Counted.{flow_share, CountsCapture}
use Rattle.settled_boxes.proofs.SteeredSums.{steered_sum, inputs_have_bytes}
use Rattle.settled_boxes.proofs.TotalCounts.{totals_count}

-- These inputs are those of the packets that were fed; each thread has taken all of its own, and ended them.
record IsTaken {V : Type 0} (fed : Fed) (inputs : ℕ → List Packet) (steps : List (Step V)) : Type 0 where
  steered : (t : ℕ) → inputs t ≡ inputs_of fed t
  taken : (t : ℕ) → t < fed.threads → (thread_after steps t).taken ≡ length (inputs t)
  ended : (t : ℕ) → t < fed.threads → (thread_after steps t).hand ≡ None

-- what was taken is what was fed
taken_all : {V : Type 0} (fed : Fed) (inputs : ℕ → List Packet) (steps : List (Step V)) (number : Packet → ℕ)
    → 1 ≤ fed.threads → IsTaken fed inputs steps
    → taken_sum number fed.threads inputs (thread_after steps) ≡ shares number fed.packets
taken_all fed inputs steps number some all =
    sum_below_same fed.threads _ (λ t. shares number (inputs_of fed t))
    (λ t low. ap (shares number)
    (take_all (thread_after steps t).taken (inputs t) (few t (all.taken t low)) ∙ all.steered t))
    ∙ steered_sum number fed.tags fed.threads fed.packets some
  where
    few : (t : ℕ) → (thread_after steps t).taken ≡ length (inputs t) → length (inputs t) ≤ (thread_after steps t).taken
    few t e = omega arith

capture_counted : (tables : ℕ) (fed : Fed) (inputs : ℕ → List Packet) (steps : List (Step MonitorValue)) → 1 ≤ tables
    → tables ≤ 64 → 1 ≤ fed.threads → HaveBytes inputs
    → IsHistory (monitor_meaning tables) inputs fed.threads steps → IsTaken fed inputs steps
    → CountsCapture tables fed.packets (value_after (monitor_meaning tables) steps)
capture_counted tables fed inputs steps some few threads bytes legal all = record {
  flow_packets = λ flow.
      counts_flow_at_rest _ _ _ packets_counted (λ count is. is.0) tables fed.threads inputs steps some few bytes legal
      all.ended flow
      ∙ captured (share (λ packet. 1) flow);
  flow_bytes = λ flow.
      counts_flow_at_rest _ _ _ bytes_counted (λ count is. is.1) tables fed.threads inputs steps some few bytes legal
      all.ended flow
      ∙ captured (share (λ packet. packet.original) flow);
  total_packets =
      totals_count _ _ _ packets_counted tables fed.threads inputs steps some few legal all.ended
      ∙ captured (flow_share (λ packet. 1));
  total_bytes =
      totals_count _ _ _ bytes_counted tables fed.threads inputs steps some few legal all.ended
      ∙ captured (flow_share (λ packet. packet.original));
  others = counts_others_at_rest tables fed.threads inputs steps some few legal all.ended ∙ captured other_share;
}
  where
    captured : (number : Packet → ℕ)
        → taken_sum number fed.threads inputs (thread_after steps) % 2 ^ 64 ≡ shares number fed.packets % 2 ^ 64
    captured number = ap (λ n. n % 2 ^ 64) (taken_all fed inputs steps number threads all)

-- A settling has each thread take and end all its inputs, and so behind their tags.
settled_taken : {V : Type 0} (s : Setting V) (w : World V) (steps : List (Step V)) → IsSettled s w steps
    → IsTaken (record { threads = s.threads; tags = s.tags; packets = s.packets }) (all_inputs s) steps
settled_taken s w steps settled = record {
  steered = λ t. refl;
  taken = settled.taken;
  ended = settled.ended;
}

taken_behind : {V : Type 0} (s : Setting V) (w : World V) (steps : List (Step V)) → IsSettled s w steps
    → IsTaken (record { threads = s.threads; tags = false; packets = map (behind_tag s.tags) s.packets })
    (inputs_behind s.tags (all_inputs s)) (steps_behind s.tags steps)
taken_behind s w steps settled = record {
  steered = λ t. fed_behind s.threads s.tags t s.packets;
  taken = λ t low.
      ap (λ (th : Thread). th.taken) (thread_same s.tags steps t)
      ∙ (settled.taken t low ∙ sym (length-map (all_inputs s t) (behind_tag s.tags)));
  ended = λ t low.
      ap (λ (th : Thread). th.hand) (thread_same s.tags steps t) ∙ ap (hand_behind s.tags) (settled.ended t low);
}

pub script_counts : (tables : ℕ) (s : Setting MonitorValue) (events : List Event) (report : List ℕ)
    (released : List Packet) (schedule : List PlainMove) → s.meaning ≡ monitor_meaning tables → 1 ≤ tables → tables ≤ 64
    → 1 ≤ s.threads → All IsOfBytes s.packets → (l : Leaves s (events ++ Settle ∷ []) report released schedule)
    → CountsCapture tables s.packets (value_after (monitor_meaning tables) l.steps)
script_counts tables s events report released schedule is some few threads bytes l =
    capture_counted tables (record { threads = s.threads; tags = s.tags; packets = s.packets }) (all_inputs s) l.steps
    some few threads (inputs_have_bytes s bytes)
    (subst (λ (x : Meaning MonitorValue). IsHistory x (all_inputs s) s.threads l.steps) is l.finish.history)
    (settled_taken s l.world l.steps (script_settled s events report released schedule l))

-- Of a box that looks through tags, the run behind them has counted the packets behind their tags, and leaves the same
-- values.
pub script_counts_behind : (tables : ℕ) (s : Setting MonitorValue) (events : List Event) (report : List ℕ)
    (released : List Packet) (schedule : List PlainMove) → s.meaning ≡ tagged_meaning s.tags (monitor_meaning tables)
    → 1 ≤ tables → tables ≤ 64 → 1 ≤ s.threads → All IsOfBytes s.packets
    → (l : Leaves s (events ++ Settle ∷ []) report released schedule)
    → CountsCapture tables (map (behind_tag s.tags) s.packets)
    (value_after (tagged_meaning s.tags (monitor_meaning tables)) l.steps)
script_counts_behind tables s events report released schedule is some few threads bytes l =
    subst (λ (value : ℕ → MonitorValue). CountsCapture tables (map (behind_tag s.tags) s.packets) value)
    (fun_ext (values_same s.tags (monitor_meaning tables) l.steps))
    (capture_counted tables
    (record { threads = s.threads; tags = false; packets = map (behind_tag s.tags) s.packets })
    (inputs_behind s.tags (all_inputs s)) (steps_behind s.tags l.steps) some few threads
    (input_bytes s.tags (all_inputs s) (inputs_have_bytes s bytes))
    (run_behind s.tags (monitor_meaning tables) (all_inputs s) s.threads l.steps
    (subst (λ (x : Meaning MonitorValue). IsHistory x (all_inputs s) s.threads l.steps) is l.finish.history))
    (taken_behind s l.world l.steps (script_settled s events report released schedule l)))
