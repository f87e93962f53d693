-- A packet goes out with as many bytes as its input has, so what is released is short enough for a record.
use Rattle.std.proofs.Common.{◌≡◌, ℕ, List, [], ◌∷◌, length, refl, sym, ap, ◌∙◌, subst, arith, zero, suc, inl, inr}
use Rattle.std.specs.Prelude.{All, take, drop}
use Rattle.std.proofs.lemmas.List.Elements.{All-filter, All-take, All-drop, All-cons}
use Rattle.plain_text.specs.Packets.{IsShort}
use Rattle.plain_text.specs.declared.packet.Packet.{Packet}
use Rattle.plain_machine.specs.declared.emission.Emission.{Emission}
use Rattle.plain_machine.specs.Program.{Meaning, IsLawful}
use Rattle.plain_machine.specs.Machine.{Effect, Takes, Touches, Looks, HearsClock, HearsDraw, Sends, Ends, Moves}
use Rattle.plain_machine.specs.History.{Emitted, Step, act_of, emission_of, sent_of, thread_after, value_after}
use Rattle.plain_machine.specs.History.{IsHistory}
use Rattle.plain_machine.specs.Agree.{SendsAfter}
use Rattle.plain_machine.proofs.Histories.{earlier_history}
use Rattle.plain_machine.proofs.Agreement.{sends_at}
use Rattle.plain_machine.proofs.Hands.{hand_input, held_sends}
use Rattle.recovery_world.specs.World.{Setting, Sent, World as SystemWorld, inputs_fed}
use Rattle.recovery_world.specs.Events.{IsAmong}
use Rattle.recovery_world.specs.Files.{packets_of}
use Rattle.recovery_laws.specs.Sound.{Sound}
use Rattle.input_logger.proofs.PlaceLists.{found_has}

-- an emission is that of a packet sent out
sends_packet : {V : Type 0} (t taken : ℕ) (A : List (Step V)) (d : Effect V) (o : Emission)
    → act_of t A taken d ≡ Emitted o → (p : Packet) × (d ≡ Sends p) × (p ≡ o.packet)
sends_packet t taken A Takes o e = absurd (cc)
sends_packet t taken A (Touches v left) o e = absurd (cc)
sends_packet t taken A (Looks v) o e = absurd (cc)
sends_packet t taken A (HearsClock a) o e = absurd (cc)
sends_packet t taken A (HearsDraw a) o e = absurd (cc)
sends_packet t taken A (Sends p) o e =
    let q : emission_of t (sent_of A) taken p ≡ o = cc in (p, refl, ap (λ (x : Emission). x.packet) q)
sends_packet t taken A Ends o e = absurd (cc)

-- what a run on short inputs sends out is short
sent_short : {V : Type 0} (m : Meaning V) (fits : ℕ → V → Type 0) (inputs : ℕ → List Packet) (threads : ℕ)
    (steps : List (Step V)) (o : Emission) (n : ℕ) → IsLawful m fits → ((t : ℕ) → All IsShort (inputs t))
    → IsHistory m inputs threads steps → SendsAfter steps o n → IsShort o.packet
sent_short m fits inputs threads steps o n lawful short history sends =
    let at = sends_at steps o n sends in
    let here = earlier_history m inputs threads (at.0 ∷ at.1) steps at.2 history in
    let sent = sends_packet at.0.thread at.0.after.taken at.1 here.0.2 o (sym here.0.4 ∙ at.3) in
    let hand = held_sends m (inputs at.0.thread) (value_after m at.1) (thread_after at.1 at.0.thread).taken here.0.1
    (thread_after at.1 at.0.thread).hand at.0.after sent.0 (here.0.3 ∙ ap (Moves at.0.after) sent.1) in
    let input = hand_input m inputs threads at.1 here.1 at.0.thread hand.0 hand.1 in
    let long : IsShort hand.0.packet =
    found_has IsShort (inputs at.0.thread) input.0 hand.0.packet (short at.0.thread) input.2 in
    let same : length sent.0.bytes ≡ length hand.0.packet.bytes =
    ap (λ (p : Packet). length p.bytes) hand.3 ∙ lawful.as_long hand.0.packet hand.0.place hand.2 in
    subst IsShort sent.2 (omega (arith, same, long))

-- what was released in a sound world is short, where the packets of the capture are
among_short : {V : Type 0} (s : Setting V) (fits : ℕ → V → Type 0) (w : SystemWorld V) → IsLawful s.meaning fits
    → All IsShort s.packets → Sound s w → (o : Sent) → IsAmong o w.released → IsShort o.emission.packet
among_short s fits w lawful short sound o is =
    let kept = sound.firm.released o is in
    sent_short s.meaning fits (inputs_fed s w.fed) s.threads kept.run o.emission o.after lawful
    (λ t. All-filter _ IsShort (take w.fed s.packets) (All-take IsShort w.fed s.packets short)) kept.history kept.sends

all_short : (sent : List Sent) → ((o : Sent) → IsAmong o sent → IsShort o.emission.packet)
    → All IsShort (packets_of sent)
all_short [] each = λ k d low. absurd (omega arith)
all_short (o ∷ sent) each =
    All-cons IsShort o.emission.packet (packets_of sent) (each o (inl refl)) (all_short sent (λ x is. each x (inr is)))

packets_drop : (n : ℕ) (sent : List Sent) → packets_of (drop n sent) ≡ drop n (packets_of sent)
packets_drop zero sent = refl
packets_drop (suc n) [] = refl
packets_drop (suc n) (o ∷ sent) = packets_drop n sent

pub released_short : {V : Type 0} (s : Setting V) (fits : ℕ → V → Type 0) (w : SystemWorld V) (n : ℕ)
    → IsLawful s.meaning fits → All IsShort s.packets → Sound s w → All IsShort (packets_of (drop n w.released))
released_short s fits w n lawful short sound =
    subst (All IsShort) (sym (packets_drop n w.released))
    (All-drop IsShort n (packets_of w.released) (all_short w.released (among_short s fits w lawful short sound)))
