-- A number summed over the inputs of all threads is its sum over the packets of the capture.
use Rattle.std.proofs.Common.{◌≡◌, ◌≢◌, ℕ, ◌+◌, ◌<◌, ◌≤◌, Bool, true, false, List, [], ◌∷◌, refl, sym, ◌∙◌, subst}
use Rattle.std.proofs.Common.{arith}
use Rattle.std.specs.Prelude.{All, filter, ◌==◌}
use Rattle.std.proofs.lemmas.Bool.Decides.{nat_tests}
use Rattle.std.proofs.lemmas.List.Elements.{All-filter}
use Rattle.std.proofs.lemmas.Option.{slice_get_within, get_or_from_slice_get}
use Rattle.plain_text.specs.Octets.{IsOfBytes}
use Rattle.plain_text.specs.declared.packet.Packet.{Packet}
use Rattle.entry_order.specs.Stamps.{sum_below}
use Rattle.input_logger.specs.Inputs.{thread_of, view_of}
use Rattle.input_logger.proofs.PlaceLists.{thread_of_view-lt}
use Rattle.recovery_world.specs.World.{Setting, all_inputs}
use Rattle.monitor_box.specs.FlowStanding.{HaveBytes}
use Rattle.monitor_box.specs.Arrivals.{shares}
use Rattle.monitor_box.proofs.ChangedSums.{one_changes, sum_of_none}

-- the packets that are steered to one thread
abbrev of_thread : Bool → ℕ → List Packet → ℕ → List Packet
of_thread tags threads packets t = filter (λ packet. thread_of tags packet threads == t) packets

-- one more packet counts with its own thread, and with no other
share_of_own : (number : Packet → ℕ) (tags : Bool) (threads t : ℕ) (p : Packet) (ps : List Packet)
    → thread_of tags p threads ≡ t
    → shares number (of_thread tags threads (p ∷ ps) t) ≡ number p + shares number (of_thread tags threads ps t)
share_of_own number tags threads t p ps own =
    let k : (thread_of tags p threads == t) ≡ true = grind (arith, nat_tests) in rw k refl

share_of_other : (number : Packet → ℕ) (tags : Bool) (threads t : ℕ) (p : Packet) (ps : List Packet)
    → thread_of tags p threads ≢ t
    → shares number (of_thread tags threads (p ∷ ps) t) ≡ shares number (of_thread tags threads ps t)
share_of_other number tags threads t p ps other =
    let k : (thread_of tags p threads == t) ≡ false = grind (arith, nat_tests) in rw k refl

pub steered_sum : (number : Packet → ℕ) (tags : Bool) (threads : ℕ) (packets : List Packet) → 1 ≤ threads
    → sum_below threads (λ t. shares number (of_thread tags threads packets t)) ≡ shares number packets
steered_sum number tags threads [] some = sum_of_none threads _ (λ t low. refl)
steered_sum number tags threads (p ∷ ps) some = more (thread_of tags p threads) refl
    (thread_of_view-lt (view_of tags p) threads some) (steered_sum number tags threads ps some)
  where
    more : (u : ℕ) → thread_of tags p threads ≡ u → u < threads
        → sum_below threads (λ t. shares number (of_thread tags threads ps t)) ≡ shares number ps
        → sum_below threads (λ t. shares number (of_thread tags threads (p ∷ ps) t)) ≡ number p + shares number ps
    more u is low rest =
        let one = one_changes threads u (λ t. shares number (of_thread tags threads (p ∷ ps) t))
        (λ t. shares number (of_thread tags threads ps t)) low
        (λ k other. share_of_other number tags threads k p ps (λ e. other (sym e ∙ is))) in
        let own = share_of_own number tags threads u p ps is in
        omega arith

-- where the packets of a capture are of bytes, so are the inputs of each thread
pub inputs_have_bytes : {V : Type 0} (s : Setting V) → All IsOfBytes s.packets → HaveBytes (all_inputs s)
inputs_have_bytes s all t k p e =
    let kept : All IsOfBytes (all_inputs s t) =
    All-filter (λ packet. thread_of s.tags packet s.threads == t) IsOfBytes s.packets all in
    subst IsOfBytes (get_or_from_slice_get (all_inputs s t) k p p e)
    (kept k p (slice_get_within (all_inputs s t) k p e))
