-- Each drop that is counted in a history of a world has its cause.
use Rattle.std.proofs.Common.{◌≡◌, ℕ, List, ◌∷◌, refl, arith, sym, ap, ◌∙◌, subst, Option, Some, None}
use Rattle.std.specs.Prelude.{All}
use Rattle.plain_text.specs.Octets.{IsOfBytes}
use Rattle.plain_text.specs.declared.packet.Packet.{Packet}
use Rattle.entry_order.specs.Log.{Entry}
use Rattle.entry_order.specs.declared.what.What.TheVariants.{Access}
use Rattle.plain_machine.specs.Program.{Meaning}
use Rattle.plain_machine.specs.Machine.{Hand, Thread}
use Rattle.plain_machine.specs.History.{Act, Did, Step, thread_after, IsHistory}
use Rattle.plain_machine.proofs.Hands.{hand_input}
use Rattle.tagged_frames.specs.Tags.{behind_tag}
use Rattle.tagged_box.specs.Tagged.{tagged_meaning}
use Rattle.tagged_box.specs.Tags.{inputs_behind, hand_tag, hand_behind, act_behind, step_behind, steps_behind}
use Rattle.tagged_box.proofs.Moves.{thread_same}
use Rattle.tagged_box.proofs.InputBytes.{input_bytes}
use Rattle.flow_boxes.specs.Flows.{HaveBytes}
use Rattle.recovery_world.specs.World.{Setting, World, inputs_fed}
use Rattle.nat_box.specs.declared.value.NatValue.{NatValue}
use Rattle.nat_box.specs.declared.settings.NatSettings.{NatSettings}
use Rattle.nat_box.specs.Nat as nat
use Rattle.nat_runs.proofs.Causes.{drops_have_causes}
use Rattle.balancer_box.specs.declared.value.BalancerValue.{BalancerValue}
use Rattle.balancer_box.specs.declared.settings.BalancerSettings.{BalancerSettings}
use Rattle.balancer_box.specs.Balancer as balancer
use Rattle.balancer_runs.proofs.DropCauses.{drops_have}
use Rattle.box_worlds.specs.Worlds.{IsLedTo, IsOfWorld}
use Rattle.box_worlds.specs.Boxes.{IsNat, IsBalancer}
use Rattle.box_worlds.specs.Drops.{DropsAreCaused, NatCause, BalancerCause}
use Rattle.box_worlds.proofs.WorldHistories.{moment_legal}
use Rattle.box_worlds.proofs.BehindTags.{history_behind}
use Rattle.box_worlds.proofs.Translations.{fed_bytes}
use Rattle.box_worlds.proofs.WholeCapture.{takes_by, taken_more}

-- what is in hand behind its tag
seen_hand : {V : Type 0} (s : Setting V) (hand : Option Hand) (seen : Hand) → hand_behind s.tags hand ≡ Some seen
    → (h : Hand) × (hand ≡ Some h) × (seen.packet ≡ behind_tag s.tags h.packet)
seen_hand s None seen e = absurd (cc)
seen_hand s (Some h) seen e =
    let same : record { packet = behind_tag s.tags h.packet; place = h.place } ≡ seen = cc in
    (h, refl, ap (λ (g : Hand). g.packet) (sym same))

-- a touch takes nothing
touch_takes : {V : Type 0} (m : Meaning V) (inputs : ℕ → List Packet) (threads : ℕ) (x : Step V)
    (earlier : List (Step V)) (entry : Entry) (left : Option V) → IsHistory m inputs threads (x ∷ earlier)
    → x.act ≡ Did entry left → x.after.taken ≡ (thread_after earlier x.thread).taken
touch_takes {V} m inputs threads x earlier entry left h act =
    let more = taken_more m inputs threads x earlier h in
    let none : takes_by x.act ≡ 0 = ap (λ (a : Act V). takes_by a) act in omega (arith, more, none)

drops_caused : {V : Type 0} (s : Setting V) (m : Meaning V) (Caused : ℕ → List (Step V) → Packet → ℕ → Type 0)
    → ((inputs : ℕ → List Packet) (x : Step V) (earlier : List (Step V)) (entry : Entry) (left : V) (place : ℕ)
    → HaveBytes inputs → IsHistory m inputs s.threads (x ∷ earlier) → x.act ≡ Did entry (Some left)
    → entry.what ≡ Access 0 place
    → (h : Hand) × (reason : ℕ) × ((thread_after earlier x.thread).hand ≡ Some h)
    × Caused x.thread earlier h.packet reason)
    → s.meaning ≡ tagged_meaning s.tags m → All IsOfBytes s.packets → (w : World V) (steps : List (Step V))
    → IsLedTo s w → IsOfWorld s w steps → DropsAreCaused s w Caused steps
drops_caused s m Caused law is bytes w steps led of x earlier entry left place early act what =
    let inputs = inputs_fed s w.fed in
    let h = moment_legal s w steps (x ∷ earlier) led of early in
    let r = law (inputs_behind s.tags inputs) (step_behind s.tags x) (steps_behind s.tags earlier) entry left place
    (input_bytes s.tags inputs (fed_bytes s w.fed bytes)) (history_behind s m inputs (x ∷ earlier) is h)
    (ap (act_behind (hand_tag s.tags x.after.hand)) act) what in
    let g = seen_hand s (thread_after earlier x.thread).hand r.0
    (sym (ap (λ (th : Thread). th.hand) (thread_same s.tags earlier x.thread)) ∙ r.2) in
    let last = hand_input s.meaning inputs s.threads earlier h.1 x.thread g.0 g.1 in (
      last.0,
      g.0.packet,
      r.1,
      touch_takes s.meaning inputs s.threads x earlier entry (Some left) h act ∙ last.1,
      last.2,
      subst (λ (p : Packet). Caused x.thread (steps_behind s.tags earlier) p r.1) g.2 r.3,
    )

pub nat_drops : (n : NatSettings) (s : Setting NatValue) (w : World NatValue) (steps : List (Step NatValue))
    → IsNat n s → All IsOfBytes s.packets → IsLedTo s w → IsOfWorld s w steps → DropsAreCaused s w (NatCause n) steps
nat_drops n s w steps is bytes led of =
    drops_caused s (nat.nat_meaning n) (NatCause n)
    (λ inputs x earlier entry left place have h act what.
    let r = drops_have_causes n s.threads inputs x earlier entry (Some left) place is.0 have h act what in
    (r.0, r.2, r.3, r.6)) is.1 bytes w steps led of

pub balancer_drops : (b : BalancerSettings) (s : Setting BalancerValue) (w : World BalancerValue)
    (steps : List (Step BalancerValue)) → IsBalancer b s → All IsOfBytes s.packets → IsLedTo s w → IsOfWorld s w steps
    → DropsAreCaused s w (BalancerCause b) steps
balancer_drops b s w steps is bytes led of =
    drops_caused s (balancer.balancer_meaning b) (BalancerCause b)
    (λ inputs x earlier entry left place have h act what.
    let r = drops_have b s.threads inputs x earlier entry place left is.0 have h act what in
    (r.0, r.1, r.2, r.3)) is.1 bytes w steps led of
