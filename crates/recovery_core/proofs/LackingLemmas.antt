-- What an output lacks: by its number, by what was released, and by its frame.
use Rattle.std.proofs.Common.{◌≡◌, ℕ, ◌<◌, ◌≤◌, sym, ap, ◌∙◌, subst, inl, inr, ◌⊎◌, Option, Some, None}
use Rattle.std.proofs.Common.{arith}
use Rattle.access_log.specs.declared.entry.Output.{Output}
use Rattle.access_log.specs.Held.{IsFirstMissing, IsWithin}
use Rattle.dup_filter.specs.Numbers.{WasMarked}
use Rattle.link_store.specs.Links.{frame_at}
use Rattle.plain_machine.specs.declared.emission.Emission.{Emission}
use Rattle.plain_machine.specs.Program.{Meaning}
use Rattle.plain_machine.specs.History.{log_of, sent_of, outputs, IsHistory}
use Rattle.plain_machine.specs.Agree.{SendsAfter}
use Rattle.recovery_world.specs.World.{Setting, Sent, World, inputs_fed}
use Rattle.recovery_world.specs.Events.{HasNumber, IsOutputOf}
use Rattle.recovery_laws.proofs.Settlings.{number_high}
use Rattle.link_store.specs.Sending.{output_address, HasOutputFrame}
use Rattle.system_parts.specs.Parts.{Parts}
use Rattle.system_parts.specs.SystemStanding.{IsSentOutput, StandsFor}
use Rattle.system_parts.proofs.OutputNumbers.{output_from_one}
use Rattle.system_parts.proofs.OutputsSent.{there_sent}
use Rattle.system_images.proofs.FromMessageArrivals.{IsSentByPast, out_is, may_go, lacks}
use Rattle.recovery_core.specs.declared.lacking.Lacks.TheVariants as lacks_of
use Rattle.recovery_core.specs.Lacking.{OutputLacks, WasReleased}

pub seen_as : {P V : Type 0} (m : Meaning V) (s : Setting V) (w : World V) {y old : Parts P V} → y ≡ old
    → StandsFor m s w old → StandsFor m s w y
seen_as {P} {V} m s w is st = subst (λ (q : Parts P V). StandsFor m s w q) (sym is) st

module _ {P V : Type 0} (m : Meaning V) (s : Setting V) (w : World V) (y : Parts P V) (st : StandsFor m s w y) (t j : ℕ)
  where
    legal : IsHistory s.meaning (inputs_fed s w.fed) s.threads w.past
    legal = st.sound.firm.legal

    -- no output has this number
    pub not_numbered : (j ≡ 0) ⊎ (outputs t (sent_of w.past) < j) → OutputLacks w t j lacks_of.NotSent
    not_numbered none = inr (never none)
      where
        never : (j ≡ 0) ⊎ (outputs t (sent_of w.past) < j) → (o : Sent) → IsOutputOf w t j o → ⊥
        never (inl zero) o of =
            let k = output_from_one s.meaning (inputs_fed s w.fed) s.threads w.past o.emission o.after legal of.0 in
            absurd (omega (arith, k, of.1.1, zero))
        never (inr high) o of =
            let k = number_high s.meaning (inputs_fed s w.fed) s.threads w.past o.emission o.after legal of.0 in
            let same : outputs o.emission.thread (sent_of w.past) ≡ outputs t (sent_of w.past) =
            ap (λ (u : ℕ). outputs u (sent_of w.past)) of.1.0 in
            absurd (omega (arith, k, of.1.1, high, same))

    -- it was released
    pub was_released : WasMarked y.logger.released t j → OutputLacks w t j lacks_of.NotSent
    was_released marked = inl ((st.logger.released t j).0 marked)

    -- it was not, so its frame is there
    pub frame_lost : (found : Option Output) → (WasMarked y.logger.released t j → ⊥)
        → ((o : Output) → HasOutputFrame y.sent o → o.thread ≡ t → o.number ≡ j → found ≡ Some o) → found ≡ None → 1 ≤ j
        → j ≤ outputs t (sent_of w.past) → OutputLacks w t j lacks_of.NotSent
    frame_lost found fresh gives none from_one few = go (there_sent m s w y st t j from_one few)
      where
        go : (o : Sent) × SendsAfter w.past o.emission o.after × HasNumber t j o
            × IsSentOutput (log_of w.past) y.logger.released y.sent o → OutputLacks w t j lacks_of.NotSent
        go (o, sends, named, sent) = at sent.there
          where
            at : HasOutputFrame y.sent sent.stamped
                ⊎ ((frame_at y.sent.frames (output_address y.sent o.emission.thread o.emission.number) ≡ None)
                × WasMarked y.logger.released o.emission.thread o.emission.number) → OutputLacks w t j lacks_of.NotSent
            at (inl h) =
                let q = gives sent.stamped h (ap (λ (z : Emission). z.thread) sent.plain ∙ named.0)
                (ap (λ (z : Emission). z.number) sent.plain ∙ named.1) in
                absurd cc
            at (inr (gone, was)) =
                absurd (fresh (subst (λ (k : ℕ). WasMarked y.logger.released t k) named.1
                (subst (λ (u : ℕ). WasMarked y.logger.released u o.emission.number) named.0 was)))

    -- it is that of its frame, and this is missing for it, or nothing
    module _ (low : t < y.inputs.threads) (found : Option Output) (x : Output)
        (fresh : WasMarked y.logger.released t j → ⊥)
        (gives : (o : Output) → HasOutputFrame y.sent o → o.thread ≡ t → o.number ≡ j → found ≡ Some o)
        (forgotten : frame_at y.sent.frames (output_address y.sent t j) ≡ None → found ≡ None) (some : found ≡ Some x)
        (from_one : 1 ≤ j) (few : j ≤ outputs t (sent_of w.past)) where
      of : IsSentByPast w t j x
      of = out_is m s w y st t j low found x gives forgotten some from_one few

      unreleased : WasReleased w t j → ⊥
      unreleased was = fresh ((st.logger.released t j).1 was)

      pub lacks_entry : (u k : ℕ) → IsFirstMissing y.logger.held x.stamp u k → OutputLacks w t j (lacks_of.Entry u k)
      lacks_entry u k first =
          let e = lacks m s w y st t j low x of u k first in
          (of.sent, e.0, (of.sends, of.named), unreleased, e.1, e.2, e.3)

      pub lacks_arrival : IsWithin y.logger.held x.stamp → OutputLacks w t j lacks_of.Arrival
      lacks_arrival within =
          (of.sent, (of.sends, of.named), unreleased, may_go m s w y st t j low x of within)
