-- What was released is made of its input, in each run in which a world ends.
use Rattle.std.proofs.Common.{◌≡◌, ℕ, ◌+◌, ◌≤◌, List, ◌∷◌, sym, ap, ◌∙◌, subst, arith, Some}
use Rattle.std.specs.Prelude.{◌-◌, All, take, slice_get, option_map}
use Rattle.std.proofs.lemmas.List.Elements.{All-take}
use Rattle.std.proofs.lemmas.Option.{slice_get-map}
use Rattle.plain_text.specs.Octets.{IsOfBytes}
use Rattle.plain_text.specs.declared.packet.Packet.{Packet}
use Rattle.entry_order.specs.Log.{entries}
use Rattle.plain_machine.specs.declared.emission.Emission.{Emission}
use Rattle.plain_machine.specs.Program.{Meaning}
use Rattle.plain_machine.specs.History.{Act, Emitted, Step, log_of, sent_more, sent_of, IsHistory}
use Rattle.plain_machine.specs.Agree.{IsEarlier}
use Rattle.plain_machine.proofs.Histories.{earlier_history, did_emission}
use Rattle.plain_machine.proofs.Agreement.{sends_at}
use Rattle.tagged_frames.specs.Tags.{without_first, behind_tag, with_behind}
use Rattle.tagged_box.specs.Tagged.{tagged_meaning}
use Rattle.tagged_box.specs.Tags.{inputs_behind, hand_tag, act_behind, step_behind, steps_behind, KeepsTag, KeepTags}
use Rattle.tagged_box.proofs.Emissions.{sent_keep}
use Rattle.tagged_box.proofs.InputBytes.{input_bytes}
use Rattle.flow_boxes.specs.Flows.{HaveBytes}
use Rattle.recovery_world.specs.World.{Setting, Sent, World, inputs_fed}
use Rattle.recovery_world.specs.Events.{IsAmong}
use Rattle.recovery_world.specs.Finish.{IsFinish}
use Rattle.recovery_laws.proofs.Finishes.{finish_ends}
use Rattle.nat_box.specs.declared.value.NatValue.{NatValue}
use Rattle.nat_box.specs.declared.settings.NatSettings.{NatSettings}
use Rattle.nat_box.specs.Nat as nat
use Rattle.nat_box.proofs.Emissions.{emissions_translate}
use Rattle.nat_box.specs.Emissions as nat_emissions
use Rattle.nat_box.specs.Settings as nat_settings
use Rattle.balancer_box.specs.declared.value.BalancerValue.{BalancerValue}
use Rattle.balancer_box.specs.declared.settings.BalancerSettings.{BalancerSettings}
use Rattle.balancer_box.specs.Balancer as balancer
use Rattle.balancer_box.specs.Emissions as balancer_emissions
use Rattle.balancer_box.specs.Settings as balancer_settings
use Rattle.balancer_box.proofs.Emissions.{emissions_follow}
use Rattle.settled_boxes.proofs.SteeredSums.{inputs_have_bytes}
use Rattle.box_worlds.specs.Worlds.{IsLedTo}
use Rattle.box_worlds.specs.Boxes.{IsNat, IsBalancer}
use Rattle.box_worlds.specs.Releases.{IsMadeOfInput, Translated, SentOn}
use Rattle.box_worlds.proofs.WorldHistories.{led_sound, end_legal}
use Rattle.box_worlds.proofs.BehindTags.{history_behind}

pub fed_bytes : {V : Type 0} (s : Setting V) (n : ℕ) → All IsOfBytes s.packets → HaveBytes (inputs_fed s n)
fed_bytes s n all = inputs_have_bytes (record s { packets = take n s.packets }) (All-take IsOfBytes n s.packets all)

-- What each emission of a history of the box is made of.
abbrev Makes : {V : Type 0} → Meaning V → ℕ → (ℕ → List (Step V) → List ℕ → Packet → Type 0) → Type 0
Makes {V} m threads SentAs =
    (inputs : ℕ → List Packet) (x : Step V) (earlier : List (Step V)) (o : Emission) (p : Packet) → HaveBytes inputs
    → IsHistory m inputs threads (x ∷ earlier) → x.act ≡ Emitted o → slice_get (inputs x.thread) (o.input - 1) ≡ Some p
    → SentAs x.thread earlier o.packet.bytes p

module _ {V : Type 0} (s : Setting V) (m : Meaning V) (SentAs : ℕ → List (Step V) → List ℕ → Packet → Type 0)
    (makes : Makes m s.threads SentAs) (is : s.meaning ≡ tagged_meaning s.tags m) where
  -- the newest step of a history
  newest : (inputs : ℕ → List Packet) (x : Step V) (earlier : List (Step V)) (o : Emission) → HaveBytes inputs
      → IsHistory s.meaning inputs s.threads (x ∷ earlier) → x.act ≡ Emitted o
      → (input : Packet) × (1 ≤ o.input) × (slice_get (inputs o.thread) (o.input - 1) ≡ Some input)
      × SentAs o.thread (steps_behind s.tags earlier) (without_first (hand_tag s.tags x.after.hand) o.packet).bytes
      (behind_tag s.tags input)
      × (o.packet
      ≡ with_behind s.tags input (without_first (hand_tag s.tags x.after.hand) o.packet).bytes)
  newest inputs x earlier o bytes h act = (
    kept.input,
    omega (arith, number),
    given,
    subst (λ (t : ℕ).
        SentAs t (steps_behind s.tags earlier) (without_first (hand_tag s.tags x.after.hand) o.packet).bytes
        (behind_tag s.tags kept.input)) (sym thread)
        (makes (inputs_behind s.tags inputs) (step_behind s.tags x) (steps_behind s.tags earlier) behind
        (behind_tag s.tags kept.input) (input_bytes s.tags inputs bytes)
        (history_behind s m inputs (x ∷ earlier) is h)
        (ap (act_behind (hand_tag s.tags x.after.hand)) act) seen),
    kept.packet,
  )
    where
      behind : Emission
      behind = record o { packet = without_first (hand_tag s.tags x.after.hand) o.packet }

      kept : KeepsTag s.tags inputs o (record o { packet = without_first (hand_tag s.tags x.after.hand) o.packet })
      kept = (subst (λ (a : Act V).
          KeepTags s.tags inputs (sent_more a (sent_of earlier))
          (sent_more (act_behind (hand_tag s.tags x.after.hand) a) (sent_of (steps_behind s.tags earlier)))) act
          (sent_keep s.tags m inputs s.threads (x ∷ earlier)
          (subst (λ (y : Meaning V). IsHistory y inputs s.threads (x ∷ earlier)) is h))).0

      thread : o.thread ≡ x.thread
      thread = (did_emission x.thread x.after.taken earlier h.0.2 o (sym h.0.4 ∙ act)).0

      number : o.input ≡ kept.earlier + 1
      number = kept.number

      place : kept.earlier ≡ o.input - 1
      place = omega (arith, number)

      given : slice_get (inputs o.thread) (o.input - 1) ≡ Some kept.input
      given = subst (λ (k : ℕ). slice_get (inputs o.thread) k ≡ Some kept.input) place kept.given

      seen : slice_get (inputs_behind s.tags inputs x.thread) (o.input - 1) ≡ Some (behind_tag s.tags kept.input)
      seen =
          slice_get-map (behind_tag s.tags) (inputs x.thread) (o.input - 1)
          ∙ ap (option_map (behind_tag s.tags))
          (subst (λ (t : ℕ). slice_get (inputs t) (o.input - 1) ≡ Some kept.input) thread given)

  pub made_of_input : (w : World V) (o : Sent) (run : List (Step V)) → All IsOfBytes s.packets → IsLedTo s w
      → IsAmong o w.released → IsFinish s w run → IsMadeOfInput s w o SentAs run
  made_of_input w o run bytes led among finish =
      at (sends_at run o.emission o.after ((finish_ends s w run (led_sound s w led) finish).emits o among))
    where
      at : (x : Step V) × (earlier : List (Step V)) × IsEarlier (x ∷ earlier) run × (x.act ≡ Emitted o.emission)
          × (entries o.emission.thread (log_of earlier) ≡ o.after)
          → IsMadeOfInput s w o SentAs run
      at (x, earlier, early, act, after) =
          let h = earlier_history s.meaning (inputs_fed s w.fed) s.threads (x ∷ earlier) run early
          (end_legal s w run led finish) in
          let r = newest (inputs_fed s w.fed) x earlier o.emission (fed_bytes s w.fed bytes) h act in
          record {
            earlier = earlier;
            step = x;
            moment = early;
            sends = act;
            input = r.0;
            numbered = r.1;
            given = r.2;
            bytes = (without_first (hand_tag s.tags x.after.hand) o.emission.packet).bytes;
            made = r.3;
            packet = r.4;
          }

nat_makes : (n : NatSettings) → nat_settings.AreSettings n → (threads : ℕ)
    → Makes (nat.nat_meaning n) threads (Translated n)
nat_makes n is threads inputs x earlier o p bytes h act given =
    subst (nat_emissions.IsTranslationOf n (nat_emissions.trail_of n x.thread earlier) o.packet.bytes) given
    (emissions_translate n threads inputs x earlier o is bytes h act).1

pub nat_translated : (n : NatSettings) (s : Setting NatValue) (w : World NatValue) (o : Sent)
    (run : List (Step NatValue)) → IsNat n s → All IsOfBytes s.packets → IsLedTo s w → IsAmong o w.released
    → IsFinish s w run → IsMadeOfInput s w o (Translated n) run
nat_translated n s w o run is bytes led among finish =
    made_of_input s (nat.nat_meaning n) (Translated n) (nat_makes n is.0 s.threads) is.1 w o run bytes led among finish

balancer_makes : (b : BalancerSettings) → balancer_settings.AreSettings b → (threads : ℕ)
    → Makes (balancer.balancer_meaning b) threads (SentOn b)
balancer_makes b is threads inputs x earlier o p bytes h act given =
    subst (balancer_emissions.IsSentOnOf b (balancer_emissions.trail_of b x.thread earlier) o.packet.bytes) given
    (emissions_follow b threads inputs x earlier o is bytes h act).1

pub balancer_sent_on : (b : BalancerSettings) (s : Setting BalancerValue) (w : World BalancerValue) (o : Sent)
    (run : List (Step BalancerValue)) → IsBalancer b s → All IsOfBytes s.packets → IsLedTo s w → IsAmong o w.released
    → IsFinish s w run → IsMadeOfInput s w o (SentOn b) run
balancer_sent_on b s w o run is bytes led among finish =
    made_of_input s (balancer.balancer_meaning b) (SentOn b) (balancer_makes b is.0 s.threads) is.1 w o run bytes led
    among finish
