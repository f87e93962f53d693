-- A number summed over the packets in hand at a place, after a move of one thread.
use Rattle.std.proofs.Common.{◌≡◌, ◌≢◌, ℕ, ◌+◌, ◌<◌, false, List, refl, sym, ap, arith}
use Rattle.std.specs.Prelude.{nat_eq, cond, ◌==◌}
use Rattle.std.proofs.lemmas.Bool.Decides.{nat_tests}
use Rattle.plain_text.specs.declared.packet.Packet.{Packet}
use Rattle.entry_order.specs.Stamps.{sum_below}
use Rattle.plain_machine.specs.declared.local.Local.{Local}
use Rattle.plain_machine.specs.Machine.{Thread}
use Rattle.plain_machine.specs.History.{Step, thread_after}
use Rattle.plain_machine.proofs.Histories.{not_eq, is_eq}
use Rattle.monitor_box.specs.declared.value.MonitorValue.{MonitorValue}
use Rattle.monitor_box.specs.Coming.{coming_by, coming_sum}
use Rattle.monitor_box.specs.Sums.{IsAtRest}
use Rattle.monitor_box.proofs.ChangedSums.{one_changes, sum_of_none}
use Rattle.monitor_box.proofs.ThreadMoves.{hand_of}

module _ (place : ℕ) (number : Packet → ℕ) where
  not_there : (at : ℕ) → at ≢ place → (at == place) ≡ false
  not_there at h = grind (arith, nat_tests)

  pub comes_none : (p : Packet) (l : Local) → l.at ≢ place → coming_by place number (hand_of p l) ≡ 0
  comes_none p l h = rw (not_there l.at h) refl

  pub coming_step : (threads t : ℕ) (after : Thread) (thread : ℕ → Thread) → t < threads
      → coming_sum place number threads (λ u. cond (nat_eq t u) after (thread u))
      + coming_by place number (thread t).hand
      ≡ coming_sum place number threads thread + coming_by place number after.hand
  coming_step threads t after thread low =
      let f : ℕ → ℕ = λ u. coming_by place number (cond (nat_eq t u) after (thread u)).hand in
      let g : ℕ → ℕ = λ u. coming_by place number (thread u).hand in
      let one : sum_below threads f + g t ≡ sum_below threads g + f t =
      one_changes threads t f g low (λ u h. rw (not_eq t u (λ k. h (sym k))) refl) in
      let new : f t ≡ coming_by place number after.hand = rw (is_eq t t refl) refl in
      omega arith

  -- where no packet is in hand, nothing comes
  pub comes_nothing : (threads : ℕ) (steps : List (Step MonitorValue)) → IsAtRest threads steps
      → coming_sum place number threads (thread_after steps) ≡ 0
  comes_nothing threads steps rest = sum_of_none threads _ (λ t low. ap (coming_by place number) (rest t low))
