-- One move behind the tags is the move that looks through them.
use Rattle.std.proofs.Common.{◌≡◌, ℕ, suc, ◌+◌, Bool, true, false, List, [], ◌∷◌, length, refl, sym, ap, ◌∙◌, cond}
use Rattle.std.proofs.Common.{Option, Some, None}
use Rattle.std.specs.Prelude.{nat_eq, nat_lt, slice_get, option_map, map, Ok, Err, if◌then◌else◌}
use Rattle.std.proofs.lemmas.Option.{slice_get-map}
use mathlib.Core.Path.{fun_ext}
use Rattle.plain_text.specs.declared.packet.Packet.{Packet}
use Rattle.entry_order.specs.declared.what.What.TheVariants as what
use Rattle.entry_order.specs.Log.{Entry, places}
use Rattle.plain_machine.specs.declared.emission.Emission.{Emission}
use Rattle.plain_machine.specs.declared.local.Move.{Move}
use Rattle.plain_machine.specs.declared.local.Move.TheVariants.{Access, Read, Clock, Draw, Emit, End}
use Rattle.plain_machine.specs.declared.plain_move.PlainMove.{PlainMove}
use Rattle.plain_machine.specs.declared.plain_move.PlayCause.TheVariants.{NoSuchThread}
use Rattle.plain_machine.specs.Program.{Meaning}
use Rattle.plain_machine.specs.Machine.{Hand, Thread, Effect, Takes, Touches, Looks, HearsClock, HearsDraw, Sends, Ends}
use Rattle.plain_machine.specs.Machine.{Moved, Moves, Illegal, holding, take_move, hand_move, held_move}
use Rattle.plain_machine.specs.Machine.{thread_move}
use Rattle.plain_machine.specs.History.{Act, Took, Did, Emitted, Ended, Step, log_more, log_of, sent_more, sent_of}
use Rattle.plain_machine.specs.History.{outputs, thread_after, left_by, value_after, entry_of, act_of}
use Rattle.plain_machine.specs.History.{after_moved, plain_move}
use Rattle.tagged_frames.specs.Tags.{without_first, behind_tag}
use Rattle.tagged_frames.proofs.TagLemmas.{put_behind}
use Rattle.tagged_box.specs.Tagged.{tagged_meaning}
use Rattle.tagged_box.specs.Tags.{inputs_behind, hand_tag, hand_behind, thread_behind, act_behind}
use Rattle.tagged_box.specs.Tags.{steps_behind, played_behind}

-- what a move does, where a packet that goes out is without this many of its first bytes
abbrev pub effect_behind : {V : Type 0} → ℕ → Effect V → Effect V
effect_behind k Takes = Takes
effect_behind k (Touches v left) = Touches v left
effect_behind k (Looks v) = Looks v
effect_behind k (HearsClock a) = HearsClock a
effect_behind k (HearsDraw a) = HearsDraw a
effect_behind k (Sends p) = Sends (without_first k p)
effect_behind k Ends = Ends

abbrev pub moved_behind : {V : Type 0} → Bool → Moved V → Moved V
moved_behind tags (Moves after d) = Moves (thread_behind tags after) (effect_behind (hand_tag tags after.hand) d)
moved_behind tags (Illegal cause) = Illegal cause

-- The state after the steps

left_same : {V : Type 0} (k v : ℕ) (a : Act V) (x : V) → left_by v (act_behind k a) x ≡ left_by v a x
left_same k v (Took i) x = refl
left_same k v (Did e left) x = refl
left_same k v (Emitted o) x = refl
left_same k v (Ended i) x = refl

pub values_same : {V : Type 0} (tags : Bool) (m : Meaning V) (steps : List (Step V)) (v : ℕ)
    → value_after m (steps_behind tags steps) v ≡ value_after (tagged_meaning tags m) steps v
values_same tags m [] v = refl
values_same {V} tags m (x ∷ earlier) v =
    left_same (hand_tag tags x.after.hand) v x.act (value_after m (steps_behind tags earlier) v)
    ∙ ap (λ (y : V). left_by v x.act y) (values_same tags m earlier v)

cond_behind : (tags b : Bool) (th other : Thread)
    → cond b (thread_behind tags th) (thread_behind tags other) ≡ thread_behind tags (cond b th other)
cond_behind tags true th other = refl
cond_behind tags false th other = refl

pub thread_same : {V : Type 0} (tags : Bool) (steps : List (Step V)) (t : ℕ)
    → thread_after (steps_behind tags steps) t ≡ thread_behind tags (thread_after steps t)
thread_same tags [] t = refl
thread_same tags (x ∷ earlier) t =
    ap (λ (th : Thread). cond (nat_eq x.thread t) (thread_behind tags x.after) th) (thread_same tags earlier t)
    ∙ cond_behind tags (nat_eq x.thread t) x.after (thread_after earlier t)

log_more_same : {V : Type 0} (k : ℕ) (a : Act V) (log : List Entry) → log_more (act_behind k a) log ≡ log_more a log
log_more_same k (Took i) log = refl
log_more_same k (Did e left) log = refl
log_more_same k (Emitted o) log = refl
log_more_same k (Ended i) log = refl

pub log_same : {V : Type 0} (tags : Bool) (steps : List (Step V)) → log_of (steps_behind tags steps) ≡ log_of steps
log_same tags [] = refl
log_same tags (x ∷ earlier) =
    log_more_same (hand_tag tags x.after.hand) x.act (log_of (steps_behind tags earlier))
    ∙ ap (λ (log : List Entry). log_more x.act log) (log_same tags earlier)

outputs_more : {V : Type 0} (t k : ℕ) (a : Act V) (sent other : List Emission) → outputs t other ≡ outputs t sent
    → outputs t (sent_more (act_behind k a) other) ≡ outputs t (sent_more a sent)
outputs_more t k (Took i) sent other e = e
outputs_more t k (Did g left) sent other e = e
outputs_more t k (Emitted o) sent other e = ap (λ (n : ℕ). cond (nat_eq o.thread t) (n + 1) n) e
outputs_more t k (Ended i) sent other e = e

pub outputs_same : {V : Type 0} (t : ℕ) (tags : Bool) (steps : List (Step V))
    → outputs t (sent_of (steps_behind tags steps)) ≡ outputs t (sent_of steps)
outputs_same t tags [] = refl
outputs_same t tags (x ∷ earlier) =
    outputs_more t (hand_tag tags x.after.hand) x.act (sent_of earlier) (sent_of (steps_behind tags earlier))
    (outputs_same t tags earlier)

pub length_same : {V : Type 0} (tags : Bool) (steps : List (Step V)) → length (steps_behind tags steps) ≡ length steps
length_same tags [] = refl
length_same tags (x ∷ earlier) = ap suc (length_same tags earlier)

-- Moves

hand_same : {V : Type 0} (tags : Bool) (m : Meaning V) (value : ℕ → V) (taken : ℕ) (h : Hand) (a : Option ℕ) (w : Move)
    → hand_move m value taken (record { packet = behind_tag tags h.packet; place = h.place }) a w
    ≡ moved_behind tags (hand_move (tagged_meaning tags m) value taken h a w)
hand_same tags m value taken h None (Access v) = refl
hand_same tags m value taken h None (Read v) = refl
hand_same tags m value taken h None Clock = refl
hand_same tags m value taken h None Draw = refl
hand_same tags m value taken h None Emit =
    ap (λ (p : Packet). Moves (holding taken (behind_tag tags h.packet) (m.emitted h.place)) (Sends p))
    (sym (put_behind tags h.packet (m.out (behind_tag tags h.packet) h.place)))
hand_same tags m value taken h None End = refl
hand_same tags m value taken h (Some a) (Access v) = refl
hand_same tags m value taken h (Some a) (Read v) = refl
hand_same tags m value taken h (Some a) Clock = refl
hand_same tags m value taken h (Some a) Draw = refl
hand_same tags m value taken h (Some a) Emit = refl
hand_same tags m value taken h (Some a) End = refl

take_same : {V : Type 0} (tags : Bool) (m : Meaning V) (taken : ℕ) (a : Option ℕ) (input : Option Packet)
    → take_move m taken a (option_map (behind_tag tags) input)
    ≡ moved_behind tags (take_move (tagged_meaning tags m) taken a input)
take_same tags m taken (Some a) input = refl
take_same tags m taken None None = refl
take_same tags m taken None (Some p) = refl

held_same : {V : Type 0} (tags : Bool) (m : Meaning V) (packets : List Packet) (value : ℕ → V) (taken : ℕ)
    (a : Option ℕ) (hand : Option Hand)
    → held_move m (map (behind_tag tags) packets) value taken a (hand_behind tags hand)
    ≡ moved_behind tags (held_move (tagged_meaning tags m) packets value taken a hand)
held_same tags m packets value taken a None =
    ap (λ (i : Option Packet). take_move m taken a i) (slice_get-map (behind_tag tags) packets taken)
    ∙ take_same tags m taken a (slice_get packets taken)
held_same tags m packets value taken a (Some h) = hand_same tags m value taken h a (m.next h.place)

act_same : {V : Type 0} (tags : Bool) (t taken k : ℕ) (earlier : List (Step V)) (d : Effect V)
    → act_of t (steps_behind tags earlier) taken (effect_behind k d) ≡ act_behind k (act_of t earlier taken d)
act_same tags t taken k earlier Takes = refl
act_same {V} tags t taken k earlier (Touches v left) =
    ap (λ (log : List Entry). Did (entry_of t log (what.Access v (places v log + 1))) (Some left))
    (log_same tags earlier)
act_same tags t taken k earlier (Looks v) =
    ap (λ (log : List Entry). Did (entry_of t log (what.Read v (places v log))) None) (log_same tags earlier)
act_same tags t taken k earlier (HearsClock a) =
    ap (λ (log : List Entry). Did (entry_of t log (what.Clock a)) None) (log_same tags earlier)
act_same tags t taken k earlier (HearsDraw a) =
    ap (λ (log : List Entry). Did (entry_of t log (what.Draw a)) None) (log_same tags earlier)
act_same tags t taken k earlier (Sends p) =
    ap (λ (n : ℕ). Emitted (record { thread = t; number = n + 1; input = taken; packet = without_first k p }))
    (outputs_same t tags earlier)
act_same tags t taken k earlier Ends = refl

moved_same : {V : Type 0} (tags : Bool) (steps : List (Step V)) (t : ℕ) (w : Moved V)
    → after_moved (steps_behind tags steps) t (moved_behind tags w) ≡ played_behind tags (after_moved steps t w)
moved_same tags steps t (Illegal cause) = refl
moved_same {V} tags steps t (Moves after d) =
    ap (λ (a : Act V). Ok (record { thread = t; act = a; after = thread_behind tags after } ∷ steps_behind tags steps))
    (act_same tags t after.taken (hand_tag tags after.hand) steps d)

-- One move behind the tags after the steps behind them gives what the move that looks through them gives.
pub move_same : {V : Type 0} (tags : Bool) (m : Meaning V) (inputs : ℕ → List Packet) (threads : ℕ)
    (steps : List (Step V)) (move : PlainMove)
    → plain_move m (inputs_behind tags inputs) threads (steps_behind tags steps) move
    ≡ played_behind tags (plain_move (tagged_meaning tags m) inputs threads steps move)
move_same {V} tags m inputs threads steps move = go (nat_lt move.thread threads)
  where
    t : ℕ
    t = move.thread

    here : thread_move m (inputs_behind tags inputs t) (value_after m (steps_behind tags steps))
        (thread_after (steps_behind tags steps) t) move.answer
        ≡ moved_behind tags (thread_move (tagged_meaning tags m) (inputs t) (value_after (tagged_meaning tags m) steps)
        (thread_after steps t) move.answer)
    here =
        ap (λ (th : Thread). thread_move m (inputs_behind tags inputs t) (value_after m (steps_behind tags steps)) th
        move.answer) (thread_same tags steps t)
        ∙ (ap (λ (value : ℕ → V). thread_move m (inputs_behind tags inputs t) value
        (thread_behind tags (thread_after steps t)) move.answer) (fun_ext (values_same tags m steps))
        ∙ held_same tags m (inputs t) (value_after (tagged_meaning tags m) steps) (thread_after steps t).taken
        move.answer (thread_after steps t).hand)

    go : (b : Bool)
        → (if b then after_moved (steps_behind tags steps) t
        (thread_move m (inputs_behind tags inputs t) (value_after m (steps_behind tags steps))
        (thread_after (steps_behind tags steps) t) move.answer) else Err NoSuchThread)
        ≡ played_behind tags (if b then after_moved steps t
        (thread_move (tagged_meaning tags m) (inputs t) (value_after (tagged_meaning tags m) steps)
        (thread_after steps t) move.answer) else Err NoSuchThread)
    go true = ap (λ (w : Moved V). after_moved (steps_behind tags steps) t w) here ∙ moved_same tags steps t _
    go false = refl
