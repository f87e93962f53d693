-- A schedule is followed: the player and the lists stand for the same first moves.
use Rattle.std.proofs.Common.{◌≡◌, ◌≢◌, ◌⊎◌, inl, inr, ℕ, ◌+◌, ◌<◌, ◌≤◌, List, [], ◌∷◌, ◌++◌, length, take, refl}
use Rattle.std.proofs.Common.{sym, ap, ◌∙◌, subst, arith, Option, Some, None, Result, Ok, Err, true, false, get_or, set}
use Rattle.std.proofs.Common.{length-set, replicate}
use Rattle.std.specs.Prelude.{nat_lt, option_to_list, reverse, slice_set}
use Rattle.std.proofs.lemmas.Bool.{cases_lt}
use Rattle.std.proofs.lemmas.Bool.Decides.{nat_tests}
use Rattle.std.proofs.lemmas.List.{get_or-set_same, get_or-set_other, reverse-append, reverse-reverse, take_all}
use Rattle.std.proofs.lemmas.List.{take_more}
use Rattle.std.proofs.lemmas.Option.{slice_get-get_or}
use Rattle.plain_text.specs.declared.packet.Packet.{Packet}
use Rattle.input_logger.specs.Inputs.{Fed, inputs_of, input_at}
use Rattle.entry_order.proofs.Order.{is_or}
use Rattle.plain_machine.specs.declared.emission.Emission.{Emission}
use Rattle.plain_machine.specs.declared.local.Local.{Local}
use Rattle.plain_machine.specs.declared.plain_move.PlainMove.{PlainMove}
use Rattle.plain_machine.specs.declared.plain_move.PlayCause.{PlayCause}
use Rattle.plain_machine.specs.declared.plain_move.PlayCause.TheVariants.{NoSuchThread}
use Rattle.plain_machine.specs.declared.plain_move.PlayFault.{PlayFault}
use Rattle.plain_machine.specs.Program.{Meaning}
use Rattle.plain_machine.specs.Machine.{Thread, Effect, Moved, Moves, Illegal, thread_move}
use Rattle.plain_machine.specs.History.{Step, after_moved, and_moves, emissions, numbered, plain_move, play, sent_of}
use Rattle.plain_machine.specs.History.{step_of, thread_after, value_after}
use Rattle.plain_machine.proofs.Histories.{moved_thread}
use Rattle.plain_machine.proofs.PlayedLists.{play_append}
use Rattle.box_program.specs.Hands.{IsInputAfter, hand_of, local_in}
use Rattle.plain_player.specs.declared.hand.MoveError.{MoveError}
use Rattle.plain_player.specs.declared.seat.Seat.{Seat}
use Rattle.plain_player.specs.Playing.{Follows, Playing, Stands, next_input, place_in_hand}
use Rattle.plain_player.proofs.PlayedOn.{SoFar, made_more}
use Rattle.noted_runs.specs.declared.trace.rows.Became.{Became}
use Rattle.noted_runs.specs.Following.{HasBecome, ListsInputs, after_made, made_of}
use Rattle.noted_runs.proofs.Noted.{empty_here, empty_long, noted, other_stays}

-- A legal move is an effect of its thread.
record IsMoved {V : Type 0} (m : Meaning V) (inputs : ℕ → List Packet) (threads : ℕ) (steps next : List (Step V))
    (move : PlainMove) : Type 0 where
  pub low : move.thread < threads
  pub after : Thread
  pub effect : Effect V
  pub moves :
      thread_move m (inputs move.thread) (value_after m steps) (thread_after steps move.thread) move.answer
      ≡ Moves after effect
  pub next_is : next ≡ step_of move.thread steps after effect ∷ steps

is_moved : {V : Type 0} (m : Meaning V) (inputs : ℕ → List Packet) (threads : ℕ) (steps next : List (Step V))
    (move : PlainMove) → plain_move m inputs threads steps move ≡ Ok next
    → IsMoved m inputs threads steps next move
is_moved {V} m inputs threads steps next move e = by (cases_lt move.thread threads)
  where
    moved : Moved V
    moved = thread_move m (inputs move.thread) (value_after m steps) (thread_after steps move.thread) move.answer

    go : move.thread < threads → (w : Moved V) → moved ≡ w → after_moved steps move.thread w ≡ Ok next
        → IsMoved m inputs threads steps next move
    go low (Illegal cause) is e = absurd (cc)
    go low (Moves after effect) is e =
        let same : step_of move.thread steps after effect ∷ steps ≡ next = cc in
        record { low = low; after = after; effect = effect; moves = is; next_is = sym same }

    by : (move.thread < threads) ⊎ (threads ≤ move.thread) → IsMoved m inputs threads steps next move
    by (inl low) =
        let yes : nat_lt move.thread threads ≡ true = grind (arith, nat_tests) in
        go low moved refl (rw yes at e)
    by (inr high) =
        let no : nat_lt move.thread threads ≡ false = grind (arith, nat_tests) in
        let bad : Err NoSuchThread ≡ Ok next = rw no at e in absurd (cc)

-- where a player has the packet in hand of a thread
none_seat : Seat
none_seat = record { taken = 0; outputs = 0; hand = None }

place_is : {V : Type 0} (m : Meaning V) (threads : ℕ) (steps : List (Step V)) (p : Playing V) (t : ℕ)
    → Stands m threads steps p → t < threads → place_in_hand p t ≡ local_in (thread_after steps t).hand
place_is m threads steps p t stands low =
    let count = stands.threads_are in
    ap (hand_of (λ (seat : Seat). seat.hand)) (slice_get-get_or p.seats t none_seat (omega (arith, count, low)))
    ∙ (stands.seat t none_seat low).hand

-- the lists behind a move of this thread
become_next : {V : Type 0} (register : Option ℕ) (threads : ℕ) (steps : List (Step V)) (t : ℕ) (after : Thread)
    (effect : Effect V) (lists : List (List Became)) (list : List Became) → t < threads
    → HasBecome register threads steps lists → ListsInputs register (step_of t steps after effect ∷ steps) t list
    → HasBecome register threads (step_of t steps after effect ∷ steps) (slice_set lists t list)
become_next register threads steps t after effect lists list low h new = record {
  count = simp length-set h.count;
  each = λ u under. at u under (is_or t u);
}
  where
    at : (u : ℕ) → u < threads → (t ≡ u) ⊎ (t ≢ u)
        → ListsInputs register (step_of t steps after effect ∷ steps) u (get_or (set lists t list) u [])
    at u under (inl e) = subst
        (λ (v : ℕ). ListsInputs register (step_of t steps after effect ∷ steps) v (get_or (set lists t list) v [])) e
        (subst (ListsInputs register (step_of t steps after effect ∷ steps) t)
        (sym (get_or-set_same lists t list [] (let c = h.count in omega (arith, c, low)))) new)
    at u under (inr ne) =
        subst (ListsInputs register (step_of t steps after effect ∷ steps) u)
        (sym (get_or-set_other lists t u list [] (λ q. ne (sym q))))
        (other_stays register steps t u after effect (get_or lists u []) ne (h.each u under))

-- no thread took anything
none_became : {V : Type 0} (register : Option ℕ) (threads : ℕ) (lists : List (List Became))
    → lists ≡ replicate threads [] → HasBecome {V = V} register threads [] lists
none_became {V} register threads lists e = subst (HasBecome {V = V} register threads []) (sym e) (record {
  count = empty_long Became threads;
  each = λ t low. subst (ListsInputs {V = V} register [] t) (sym (empty_here Became threads t))
      (record { long = refl; each = λ k. refl });
})

module _ {V : Type 0} (register : Option ℕ) (m : Meaning V) (fed : Fed) (moves : List PlainMove) where
  pub record Followed (i : ℕ) (p : Playing V) (lists : List (List Became)) : Type 0 where
    pub sent : List Emission
    pub so : SoFar m fed moves i p sent
    pub became : HasBecome register fed.threads so.steps lists

  pub none_followed : (p : Playing V) (lists : List (List Became)) → Stands m fed.threads [] p
      → lists ≡ replicate fed.threads [] → Followed 0 p lists
  none_followed p lists stands e = record {
    sent = [];
    so = record { steps = []; plays = refl; stands = stands; sends = refl };
    became = none_became register fed.threads lists e;
  }

  -- One move

  module _ (i : ℕ) (less : i < length moves) (move d : PlainMove) (is : move ≡ get_or moves i d) (p q : Playing V)
      (lists : List (List Became)) (h : Followed i p lists) (r : Result (Option Emission) MoveError)
      (follows : (inputs : ℕ → List Packet) (threads : ℕ) (steps : List (Step V)) → Stands m threads steps p
      → IsInputAfter inputs move.thread steps (input_at fed move.thread (next_input p move.thread))
      → Follows m inputs threads steps move r q) (out : Option Emission) (ok : r ≡ Ok out) where
    next : SoFar m fed moves (i + 1) q (h.sent ++ option_to_list out)
    next = made_more m fed moves i less move d is p q h.sent h.so r follows out ok

    more : play m (inputs_of fed) fed.threads (take (i + 1) moves)
        ≡ numbered (length h.so.steps) (plain_move m (inputs_of fed) fed.threads h.so.steps move)
    more =
        ap (play m (inputs_of fed) fed.threads)
        (take_more moves i d less ∙ ap (λ (x : PlainMove). take i moves ++ x ∷ []) (sym is))
        ∙ (play_append m (inputs_of fed) fed.threads (Ok []) (take i moves) (move ∷ [])
        ∙ ap (λ (o : Result (List (Step V)) PlayFault). and_moves m (inputs_of fed) fed.threads o (move ∷ []))
        h.so.plays)

    plain : plain_move m (inputs_of fed) fed.threads h.so.steps move ≡ Ok next.steps
    plain = go (plain_move m (inputs_of fed) fed.threads h.so.steps move) (sym more ∙ next.plays)
      where
        go : (w : Result (List (Step V)) PlayCause) → numbered (length h.so.steps) w ≡ Ok next.steps
            → w ≡ Ok next.steps
        go (Ok steps) e = let same : steps ≡ next.steps = cc in ap Ok same
        go (Err cause) e = absurd (cc)

    moved : IsMoved m (inputs_of fed) fed.threads h.so.steps next.steps move
    moved = is_moved m (inputs_of fed) fed.threads h.so.steps next.steps move plain

    sends : sent_of next.steps ≡ option_to_list out ++ sent_of h.so.steps
    sends =
        sym (reverse-reverse (sent_of next.steps))
        ∙ (ap reverse (sym next.sends ∙ ap (λ (l : List Emission). l ++ option_to_list out) h.so.sends)
        ∙ (reverse-append (emissions h.so.steps) (option_to_list out)
        ∙ (ap (λ (l : List Emission). l ++ reverse (emissions h.so.steps)) (turned out)
        ∙ ap (λ (l : List Emission). option_to_list out ++ l) (reverse-reverse (sent_of h.so.steps)))))
      where
        turned : (o : Option Emission) → reverse (option_to_list o) ≡ option_to_list o
        turned None = refl
        turned (Some x) = refl

    -- what is noted of it
    pub followed_on : (before after : Option Local) (new : List (List Became))
        → before ≡ place_in_hand p move.thread → after ≡ place_in_hand q move.thread
        → new
        ≡ slice_set lists move.thread
        (after_made (made_of register before out after) (get_or lists move.thread []))
        → Followed (i + 1) q new
    followed_on before after new was now new_is = record {
      sent = h.sent ++ option_to_list out;
      so = next;
      became = subst (HasBecome register fed.threads next.steps) (sym (new_is ∙ made))
          (subst (λ (l : List (Step V)). HasBecome register fed.threads l (slice_set lists t here)) (sym moved.next_is)
          (become_next register fed.threads h.so.steps t moved.after moved.effect lists here moved.low h.became
          (noted register h.so.steps t (get_or lists t []) (h.became.each t moved.low) m (inputs_of fed t) move.answer
          moved.after moved.effect out moved.moves
          (subst (λ (l : List (Step V)). sent_of l ≡ option_to_list out ++ sent_of h.so.steps) moved.next_is sends))));
    }
      where
        t : ℕ
        t = move.thread

        here : List Became
        here = after_made
            (made_of register (local_in (thread_after h.so.steps t).hand) out (local_in moved.after.hand))
            (get_or lists t [])

        at_first : before ≡ local_in (thread_after h.so.steps t).hand
        at_first = was ∙ place_is m fed.threads h.so.steps p t h.so.stands moved.low

        at_last : after ≡ local_in moved.after.hand
        at_last =
            now
            ∙ (place_is m fed.threads next.steps q t next.stands moved.low
            ∙ (ap (λ (l : List (Step V)). local_in (thread_after l t).hand) moved.next_is
            ∙ ap (λ (th : Thread). local_in th.hand) (moved_thread h.so.steps t moved.after moved.effect)))

        made : slice_set lists t (after_made (made_of register before out after) (get_or lists t []))
            ≡ slice_set lists t here
        made =
            ap (λ (x : Option Local).
            slice_set lists t (after_made (made_of register x out after) (get_or lists t []))) at_first
            ∙ ap (λ (x : Option Local). slice_set lists t
            (after_made (made_of register (local_in (thread_after h.so.steps t).hand) out x) (get_or lists t [])))
            at_last

  -- all moves
  pub followed_all : (i : ℕ) (p : Playing V) (lists : List (List Became)) → length moves ≤ i → Followed i p lists
      → (steps : List (Step V)) → play m (inputs_of fed) fed.threads moves ≡ Ok steps
      → HasBecome register fed.threads steps lists
  followed_all i p lists all h steps plays =
      let mine : play m (inputs_of fed) fed.threads moves ≡ Ok h.so.steps =
      ap (play m (inputs_of fed) fed.threads) (sym (take_all i moves all)) ∙ h.so.plays in
      let both : Ok h.so.steps ≡ Ok steps = sym mine ∙ plays in
      let same : h.so.steps ≡ steps = cc in
      subst (λ (l : List (Step V)). HasBecome register fed.threads l lists) same h.became
