-- A packet that goes out has the first bytes of its input where this has a tag: the packet in hand is the input that
-- was taken last.
use Rattle.std.proofs.Common.{◌≡◌, ◌≢◌, ℕ, ◌+◌, Bool, false, List, [], ◌∷◌, refl, sym, ap, ◌∙◌, subst, cond}
use Rattle.std.proofs.Common.{inl, inr, ◌⊎◌, Option, Some, None, take}
use Rattle.std.specs.Prelude.{nat_eq, slice_get}
use Rattle.plain_text.specs.declared.packet.Packet.{Packet}
use Rattle.entry_order.proofs.Order.{is_or}
use Rattle.plain_machine.specs.declared.local.Move.{Move}
use Rattle.plain_machine.specs.declared.local.Move.TheVariants.{Access, Read, Clock, Draw, Emit, End}
use Rattle.plain_machine.specs.Program.{Meaning}
use Rattle.plain_machine.specs.Machine.{Hand, Thread, Effect, Takes, Touches, Looks, HearsClock, HearsDraw, Sends, Ends}
use Rattle.plain_machine.specs.Machine.{Moves, holding, sent_packet, take_move, hand_move, held_move}
use Rattle.plain_machine.specs.History.{Act, Step, sent_more, sent_of, outputs, thread_after, value_after, act_of}
use Rattle.plain_machine.specs.History.{IsStep, IsHistory}
use Rattle.plain_machine.proofs.Histories.{is_eq, not_eq}
use Rattle.tagged_frames.specs.Tags.{tag_length, without_first, behind_tag, with_behind}
use Rattle.tagged_frames.proofs.TagLemmas.{drop_first, tag_within}
use Rattle.tagged_box.specs.Tagged.{tagged_meaning}
use Rattle.tagged_box.specs.Tags.{hand_tag, act_behind, steps_behind, KeepsTag, KeepTags}

-- The packet in hand is the input that was taken last.
abbrev pub IsGiven : List Packet → ℕ → Option Hand → Type 0
IsGiven packets taken None = Unit {0}
IsGiven packets taken (Some h) = (earlier : ℕ) × (taken ≡ earlier + 1) × (slice_get packets earlier ≡ Some h.packet)

module _ {V : Type 0} (m : Meaning V) (packets : List Packet) (value : ℕ → V) (taken : ℕ) where
  stays : (h : Hand) (place : _) (after : Thread) → holding taken h.packet place ≡ after
      → IsGiven packets taken (Some h) → IsGiven packets after.taken after.hand
  stays h place after e g = subst (λ (th : Thread). IsGiven packets th.taken th.hand) e g

  hand_given : (h : Hand) (a : Option ℕ) (w : Move) (after : Thread) (d : Effect V)
      → hand_move m value taken h a w ≡ Moves after d → IsGiven packets taken (Some h)
      → IsGiven packets after.taken after.hand
  hand_given h None (Access v) after d e g = stays h (m.touch v (value v) h.place).1 after (cc) g
  hand_given h None (Read v) after d e g = stays h (m.look v (value v) h.place) after (cc) g
  hand_given h None Clock after d e g = absurd (cc)
  hand_given h None Draw after d e g = absurd (cc)
  hand_given h None Emit after d e g = stays h (m.emitted h.place) after (cc) g
  hand_given h None End after d e g =
      let k : record { taken = taken; hand = None } ≡ after = cc in
      subst (λ (th : Thread). IsGiven packets th.taken th.hand) k tt
  hand_given h (Some a) (Access v) after d e g = absurd (cc)
  hand_given h (Some a) (Read v) after d e g = absurd (cc)
  hand_given h (Some a) Clock after d e g = stays h (m.told a h.place) after (cc) g
  hand_given h (Some a) Draw after d e g = stays h (m.told a h.place) after (cc) g
  hand_given h (Some a) Emit after d e g = absurd (cc)
  hand_given h (Some a) End after d e g = absurd (cc)

  take_given : (a : Option ℕ) (input : Option Packet) (after : Thread) (d : Effect V)
      → slice_get packets taken ≡ input → take_move m taken a input ≡ Moves after d
      → IsGiven packets after.taken after.hand
  take_given (Some a) input after d is e = absurd (cc)
  take_given None None after d is e = absurd (cc)
  take_given None (Some p) after d is e =
      let k : holding (taken + 1) p (m.begin p) ≡ after = cc in
      subst (λ (th : Thread). IsGiven packets th.taken th.hand) k (taken, refl, is)

  held_given : (a : Option ℕ) (hand : Option Hand) (after : Thread) (d : Effect V)
      → held_move m packets value taken a hand ≡ Moves after d → IsGiven packets taken hand
      → IsGiven packets after.taken after.hand
  held_given a None after d e g = take_given a (slice_get packets taken) after d refl e
  held_given a (Some h) after d e g = hand_given h a (m.next h.place) after d e g

  -- what goes out is what the program makes of the packet in hand, which stays there
  record Sent (hand : Option Hand) (after : Thread) (p : Packet) : Type 0 where
    h : Hand
    in_hand : hand ≡ Some h
    stays_in : after ≡ holding taken h.packet (m.emitted h.place)
    sent : p ≡ sent_packet m h

  hand_sends : (h : Hand) (a : Option ℕ) (w : Move) (after : Thread) (p : Packet)
      → hand_move m value taken h a w ≡ Moves after (Sends p) → Sent (Some h) after p
  hand_sends h None (Access v) after p e = absurd (cc)
  hand_sends h None (Read v) after p e = absurd (cc)
  hand_sends h None Clock after p e = absurd (cc)
  hand_sends h None Draw after p e = absurd (cc)
  hand_sends h None Emit after p e = record {
    h = h;
    in_hand = refl;
    stays_in = cc;
    sent = cc;
  }
  hand_sends h None End after p e = absurd (cc)
  hand_sends h (Some a) (Access v) after p e = absurd (cc)
  hand_sends h (Some a) (Read v) after p e = absurd (cc)
  hand_sends h (Some a) Clock after p e = absurd (cc)
  hand_sends h (Some a) Draw after p e = absurd (cc)
  hand_sends h (Some a) Emit after p e = absurd (cc)
  hand_sends h (Some a) End after p e = absurd (cc)

  held_sends : (a : Option ℕ) (hand : Option Hand) (after : Thread) (p : Packet)
      → held_move m packets value taken a hand ≡ Moves after (Sends p) → Sent hand after p
  held_sends a None after p e = take a (slice_get packets taken) e
    where
      take : (a : Option ℕ) (input : Option Packet) → take_move m taken a input ≡ Moves after (Sends p)
          → Sent None after p
      take (Some a) input e = absurd (cc)
      take None None e = absurd (cc)
      take None (Some q) e = absurd (cc)
  held_sends a (Some h) after p e = hand_sends h a (m.next h.place) after p e

-- where a step leaves its thread
step_given : {V : Type 0} (m : Meaning V) (inputs : ℕ → List Packet) (threads : ℕ) (x : Step V)
    (earlier : List (Step V)) → IsStep m inputs threads earlier x
    → IsGiven (inputs x.thread) (thread_after earlier x.thread).taken (thread_after earlier x.thread).hand
    → IsGiven (inputs x.thread) x.after.taken x.after.hand
step_given m inputs threads x earlier h given =
    held_given m (inputs x.thread) (value_after m earlier) (thread_after earlier x.thread).taken h.1
    (thread_after earlier x.thread).hand x.after h.2 h.3 given

-- After each history of a machine, the packet that a thread has in hand is the input that it took last.
pub given_after : {V : Type 0} (m : Meaning V) (inputs : ℕ → List Packet) (threads : ℕ) (steps : List (Step V))
    → IsHistory m inputs threads steps → (t : ℕ)
    → IsGiven (inputs t) (thread_after steps t).taken (thread_after steps t).hand
given_after m inputs threads [] h t = tt
given_after m inputs threads (x ∷ earlier) h t =
    go (step_given m inputs threads x earlier h.0 (given_after m inputs threads earlier h.1 x.thread))
    (given_after m inputs threads earlier h.1 t) (is_or x.thread t)
  where
    At : Bool → Type 0
    At b =
        IsGiven (inputs t) (cond b x.after (thread_after earlier t)).taken
        (cond b x.after (thread_after earlier t)).hand

    go : IsGiven (inputs x.thread) x.after.taken x.after.hand → At false → ((x.thread ≡ t) ⊎ (x.thread ≢ t))
        → At (nat_eq x.thread t)
    go moved stays (inl same) = subst (λ (b : Bool). At b) (sym (is_eq x.thread t same))
        (subst (λ (u : ℕ). IsGiven (inputs u) x.after.taken x.after.hand) same moved)
    go moved stays (inr other) = subst (λ (b : Bool). At b) (sym (not_eq x.thread t other)) stays

-- So it is for the newest step's thread.
pub newest_given : {V : Type 0} (m : Meaning V) (inputs : ℕ → List Packet) (threads : ℕ) (x : Step V)
    (earlier : List (Step V)) → IsHistory m inputs threads (x ∷ earlier)
    → IsGiven (inputs x.thread) x.after.taken x.after.hand
newest_given m inputs threads x earlier h =
    step_given m inputs threads x earlier h.0 (given_after m inputs threads earlier h.1 x.thread)

-- the tag of the input in front of what goes out behind it
emission_keeps : (tags : Bool) (inputs : ℕ → List Packet) (t number taken : ℕ) (input : Packet) (bytes : List ℕ)
    (hand : Option Hand) (place : _) → hand ≡ Some (record { packet = input; place = place })
    → IsGiven (inputs t) taken (Some (record { packet = input; place = place }))
    → KeepsTag tags inputs
    (record { thread = t; number = number; input = taken; packet = with_behind tags input bytes })
    (record {
      thread = t;
      number = number;
      input = taken;
      packet = without_first (hand_tag tags hand) (with_behind tags input bytes);
    })
emission_keeps tags inputs t number taken input bytes hand place is g = rw is (record {
  input = input;
  earlier = g.0;
  number = g.1;
  given = g.2;
  packet = ap (λ (b : List ℕ). with_behind tags input b)
      (sym (drop_first (tag_length tags input.bytes) input.bytes bytes (tag_within tags input.bytes)));
  same = refl;
})

module _ {V : Type 0} (tags : Bool) (m : Meaning V) (inputs : ℕ → List Packet) where
  -- with one more step
  more_keep : (t : ℕ) (after : Thread) (earlier : List (Step V)) (d : Effect V)
      → ((p : Packet) → d ≡ Sends p
      → Sent (tagged_meaning tags m) (inputs t) (value_after (tagged_meaning tags m) earlier)
      (thread_after earlier t).taken (thread_after earlier t).hand after p)
      → IsGiven (inputs t) (thread_after earlier t).taken (thread_after earlier t).hand
      → KeepTags tags inputs (sent_of earlier) (sent_of (steps_behind tags earlier))
      → KeepTags tags inputs (sent_more (act_of t earlier after.taken d) (sent_of earlier))
      (sent_more (act_behind (hand_tag tags after.hand) (act_of t earlier after.taken d))
      (sent_of (steps_behind tags earlier)))
  more_keep t after earlier Takes s g rest = rest
  more_keep t after earlier (Touches v left) s g rest = rest
  more_keep t after earlier (Looks v) s g rest = rest
  more_keep t after earlier (HearsClock a) s g rest = rest
  more_keep t after earlier (HearsDraw a) s g rest = rest
  more_keep t after earlier (Sends p) s g rest = (keeps, rest)
    where
      c : Sent (tagged_meaning tags m) (inputs t) (value_after (tagged_meaning tags m) earlier)
          (thread_after earlier t).taken (thread_after earlier t).hand after p
      c = s p refl

      held : IsGiven (inputs t) (thread_after earlier t).taken (Some c.h)
      held = subst (λ (hand : Option Hand). IsGiven (inputs t) (thread_after earlier t).taken hand) c.in_hand g

      bytes : List ℕ
      bytes = m.out (behind_tag tags c.h.packet) c.h.place

      keeps : KeepsTag tags inputs
          (record {
            thread = t;
            number = outputs t (sent_of earlier) + 1;
            input = after.taken;
            packet = p;
          })
          (record {
            thread = t;
            number = outputs t (sent_of earlier) + 1;
            input = after.taken;
            packet = without_first (hand_tag tags after.hand) p;
          })
      keeps = subst (λ (q : Packet). KeepsTag tags inputs
          (record { thread = t; number = outputs t (sent_of earlier) + 1; input = after.taken; packet = q })
          (record {
            thread = t;
            number = outputs t (sent_of earlier) + 1;
            input = after.taken;
            packet = without_first (hand_tag tags after.hand) q;
          })) (sym c.sent)
          (emission_keeps tags inputs t (outputs t (sent_of earlier) + 1) after.taken c.h.packet bytes after.hand
          (m.emitted c.h.place) (ap (λ (th : Thread). th.hand) c.stays_in)
          (subst (λ (n : ℕ). IsGiven (inputs t) n (Some c.h)) (sym (ap (λ (th : Thread). th.taken) c.stays_in)) held))
  more_keep t after earlier Ends s g rest = rest

  -- Each packet that went out has its input's tag.
  pub sent_keep : (threads : ℕ) (steps : List (Step V)) → IsHistory (tagged_meaning tags m) inputs threads steps
      → KeepTags tags inputs (sent_of steps) (sent_of (steps_behind tags steps))
  sent_keep threads [] h = tt
  sent_keep threads (x ∷ earlier) h = subst (λ (a : Act V). KeepTags tags inputs (sent_more a (sent_of earlier))
      (sent_more (act_behind (hand_tag tags x.after.hand) a) (sent_of (steps_behind tags earlier)))) (sym h.0.4)
      (more_keep x.thread x.after earlier h.0.2 sends
      (given_after (tagged_meaning tags m) inputs threads earlier h.1 x.thread) (sent_keep threads earlier h.1))
    where
      sends : (p : Packet) → h.0.2 ≡ Sends p
          → Sent (tagged_meaning tags m) (inputs x.thread) (value_after (tagged_meaning tags m) earlier)
          (thread_after earlier x.thread).taken (thread_after earlier x.thread).hand x.after p
      sends p e = held_sends (tagged_meaning tags m) (inputs x.thread) (value_after (tagged_meaning tags m) earlier)
          (thread_after earlier x.thread).taken h.0.1 (thread_after earlier x.thread).hand x.after p
          (h.0.3 ∙ ap (λ (d : Effect V). Moves x.after d) e)
