-- What a schedule sends out is as long as the inputs.
use Rattle.std.proofs.Common.{◌≡◌, ℕ, ◌≤◌, List, [], ◌∷◌, ◌++◌, length, ap, ◌∙◌, arith, Result, Ok, Err}
use Rattle.std.specs.Prelude.{All, reverse}
use Rattle.std.proofs.lemmas.List.{reverse-append}
use Rattle.std.proofs.lemmas.List.Elements.{All-nil, All-cons, All-head, All-tail, All-same, All-push, All-map}
use Rattle.plain_text.specs.declared.packet.Packet.{Packet}
use Rattle.input_logger.specs.Inputs.{Fed, inputs_of}
use Rattle.input_logger.proofs.PlaceLists.{input_has}
use Rattle.plain_machine.specs.declared.emission.Emission.{Emission}
use Rattle.plain_machine.specs.declared.plain_move.PlainMove.{PlainMove}
use Rattle.plain_machine.specs.declared.plain_move.PlayFault.{PlayFault}
use Rattle.plain_machine.specs.Program.{Meaning, IsLawful}
use Rattle.plain_machine.specs.Machine.{Effect, Takes, Touches, Looks, HearsClock, HearsDraw, Sends, Ends, Moves}
use Rattle.plain_machine.specs.Machine.{held_move}
use Rattle.plain_machine.specs.History.{Step, sent_more, sent_of, emissions, thread_after, value_after, act_of, play}
use Rattle.plain_machine.specs.History.{IsHistory}
use Rattle.plain_machine.proofs.PlayedLists.{play_history}
use Rattle.plain_machine.proofs.Hands.{hand_input, held_sends}
use Rattle.plain_player.specs.declared.whole.Played.{Played}
use Rattle.plain_player.specs.Played.{IsPlayed}
use Rattle.schedule_check.specs.Checking.{packets_of}

all_reversed : {X : Type 0} (P : X → Type 0) (xs : List X) → All P xs → All P (reverse xs)
all_reversed P [] all = all
all_reversed P (x ∷ xs) all =
    All-same P (reverse (x ∷ xs)) (reverse xs ++ x ∷ []) (reverse-append (x ∷ []) xs)
    (All-push P (reverse xs) x (all_reversed P xs (All-tail P x xs all)) (All-head P x xs all))

module _ {V : Type 0} (m : Meaning V) (fits : ℕ → V → Type 0) (lawful : IsLawful m fits) (fed : Fed) (most : ℕ)
    (few : All (λ packet. length packet.bytes ≤ most) fed.packets) where
  sent_short : (steps : List (Step V)) → IsHistory m (inputs_of fed) fed.threads steps
      → All (λ (o : Emission). length o.packet.bytes ≤ most) (sent_of steps)
  sent_short [] h = All-nil (λ (o : Emission). length o.packet.bytes ≤ most)
  sent_short (x ∷ earlier) h = rw h.0.4 (by h.0.2 h.0.3 (sent_short earlier h.1))
    where
      out_short : (p : Packet)
          → held_move m (inputs_of fed x.thread) (value_after m earlier) (thread_after earlier x.thread).taken h.0.1
          (thread_after earlier x.thread).hand
          ≡ Moves x.after (Sends p) → length p.bytes ≤ most
      out_short p e =
          let s = held_sends m (inputs_of fed x.thread) (value_after m earlier) (thread_after earlier x.thread).taken
          h.0.1 (thread_after earlier x.thread).hand x.after p e in
          let last = hand_input m (inputs_of fed) fed.threads earlier h.1 x.thread s.0 s.1 in
          let short = input_has (λ (q : Packet). length q.bytes ≤ most) fed x.thread last.0 s.0.packet few last.2 in
          let long : length p.bytes ≡ length s.0.packet.bytes =
          ap (λ (q : Packet). length q.bytes) s.3 ∙ lawful.as_long s.0.packet s.0.place s.2 in
          omega arith

      by : (d : Effect V)
          → held_move m (inputs_of fed x.thread) (value_after m earlier) (thread_after earlier x.thread).taken h.0.1
          (thread_after earlier x.thread).hand
          ≡ Moves x.after d → All (λ (o : Emission). length o.packet.bytes ≤ most) (sent_of earlier)
          → All (λ (o : Emission). length o.packet.bytes ≤ most)
          (sent_more (act_of x.thread earlier x.after.taken d) (sent_of earlier))
      by Takes e older = older
      by (Touches v left) e older = older
      by (Looks v) e older = older
      by (HearsClock a) e older = older
      by (HearsDraw a) e older = older
      by (Sends p) e older =
          All-cons (λ (o : Emission). length o.packet.bytes ≤ most) _ (sent_of earlier) (out_short p e) older
      by Ends e older = older

  pub emitted_short : (moves : List PlainMove) (o : Result (List (Step V)) PlayFault)
      → play m (inputs_of fed) fed.threads moves ≡ o → (played : Played) (packets : List Packet)
      → IsPlayed o (Ok played) → packets ≡ packets_of played.emissions
      → All (λ packet. length packet.bytes ≤ most) packets
  emitted_short moves (Err fault) is played packets sent same = absurd sent
  emitted_short moves (Ok steps) is played packets sent same =
      let all = all_reversed (λ (o : Emission). length o.packet.bytes ≤ most) (sent_of steps)
      (sent_short steps (play_history m (inputs_of fed) fed.threads moves steps is).0) in
      let packets_short =
      All-map (λ (p : Packet). length p.bytes ≤ most) (λ (o : Emission). o.packet) (emissions steps) all in
      All-same (λ (p : Packet). length p.bytes ≤ most) packets (packets_of (emissions steps))
      (same ∙ ap packets_of sent) packets_short
