-- What became of the inputs of a thread, behind one move more.
use Rattle.std.proofs.Common.{◌≡◌, ◌≢◌, ◌⊎◌, inl, inr, ℕ, zero, suc, ◌+◌, ◌-◌, List, [], ◌∷◌, ◌++◌, length, take}
use Rattle.std.proofs.Common.{drop, map, refl, sym, ap, ◌∙◌, subst, arith, Option, Some, None, true, false, get_or}
use Rattle.std.proofs.Common.{length-append, replicate}
use Rattle.std.specs.Prelude.{nat_eq, option_to_list, slice_get}
use Rattle.std.proofs.lemmas.Bool.Decides.{nat_tests}
use Rattle.plain_text.specs.declared.packet.Packet.{Packet}
use Rattle.entry_order.proofs.Order.{is_or}
use Rattle.plain_machine.specs.declared.emission.Emission.{Emission}
use Rattle.plain_machine.specs.declared.local.Local.{Local}
use Rattle.plain_machine.specs.declared.local.Move.{Move}
use Rattle.plain_machine.specs.declared.local.Move.TheVariants.{Access, Read, Clock, Draw, Emit, End}
use Rattle.plain_machine.specs.Program.{Meaning}
use Rattle.plain_machine.specs.Machine.{Hand, Thread, Effect, Takes, Touches, Looks, HearsClock, HearsDraw, Sends, Ends}
use Rattle.plain_machine.specs.Machine.{Moved, Moves, Illegal, take_move, hand_move, held_move, thread_move}
use Rattle.plain_machine.specs.History.{Step, emission_of, sent_of, step_of, thread_after, value_after}
use Rattle.plain_machine.proofs.Histories.{moved_thread}
use Rattle.box_program.specs.Hands.{local_in}
use Rattle.noted_runs.specs.declared.trace.following.Made.{Made}
use Rattle.noted_runs.specs.declared.trace.following.Made.TheVariants as made
use Rattle.noted_runs.specs.declared.trace.rows.Became.{Became}
use Rattle.noted_runs.specs.declared.trace.rows.Became.TheVariants.{Untaken, InHand}
use Rattle.noted_runs.specs.Became.{became, reason_in, with_end, with_output}
use Rattle.noted_runs.specs.Following.{ListsInputs, after_made, made_of, with_last}

-- Lists with one element more, or with another last one

pub snoc_here : {A : Type 0} (l : List A) (x d : A) (k : ℕ) → k ≡ length l → get_or (l ++ x ∷ []) k d ≡ x
snoc_here [] x d zero e = refl
snoc_here [] x d (suc k) e = absurd (omega arith)
snoc_here (y ∷ l) x d zero e = absurd (omega arith)
snoc_here (y ∷ l) x d (suc k) e = snoc_here l x d k (omega arith)

pub snoc_other : {A : Type 0} (l : List A) (x d : A) (k : ℕ) → k ≢ length l → get_or (l ++ x ∷ []) k d ≡ get_or l k d
snoc_other [] x d zero ne = absurd (ne refl)
snoc_other [] x d (suc k) ne = refl
snoc_other (y ∷ l) x d zero ne = refl
snoc_other (y ∷ l) x d (suc k) ne = snoc_other l x d k (λ e. ne (ap suc e))

pub empty_here : (A : Type 0) (n t : ℕ) → get_or {A = List A} (replicate n []) t [] ≡ []
empty_here A zero t = refl
empty_here A (suc n) zero = refl
empty_here A (suc n) (suc t) = empty_here A n t

pub empty_long : (A : Type 0) (n : ℕ) → length {A = List A} (replicate n []) ≡ n
empty_long A zero = refl
empty_long A (suc n) = ap suc (empty_long A n)

last_more : (f : Became → Became) (x y : Became) (l : List Became)
    → with_last f (x ∷ y ∷ l) ≡ x ∷ with_last f (y ∷ l)
last_more f x y l =
    let e : length (x ∷ y ∷ l) - 1 ≡ suc (length (y ∷ l) - 1) = omega arith in
    ap (λ (n : ℕ). take n (x ∷ y ∷ l) ++ map f (drop n (x ∷ y ∷ l))) e

last_one : (f : Became → Became) (x : Became) → with_last f (x ∷ []) ≡ f x ∷ []
last_one f x =
    let e : length (x ∷ []) - 1 ≡ 0 = omega arith in
    ap (λ (n : ℕ). take n (x ∷ []) ++ map f (drop n (x ∷ []))) e

last_long : (f : Became → Became) (l : List Became) → length (with_last f l) ≡ length l
last_long f [] = refl
last_long f (x ∷ []) = ap (λ (z : List Became). length z) (last_one f x)
last_long f (x ∷ y ∷ l) =
    ap (λ (z : List Became). length z) (last_more f x y l) ∙ ap suc (last_long f (y ∷ l))

last_here : (f : Became → Became) (l : List Became) (d : Became) (k : ℕ) → length l ≡ k + 1
    → get_or (with_last f l) k d ≡ f (get_or l k d)
last_here f [] d k e = absurd (omega arith)
last_here f (x ∷ []) d zero e = ap (λ (z : List Became). get_or z 0 d) (last_one f x)
last_here f (x ∷ []) d (suc k) e = absurd (omega arith)
last_here f (x ∷ y ∷ l) d zero e = absurd (omega arith)
last_here f (x ∷ y ∷ l) d (suc k) e =
    ap (λ (z : List Became). get_or z (suc k) d) (last_more f x y l) ∙ last_here f (y ∷ l) d k (omega arith)

last_other : (f : Became → Became) (l : List Became) (d : Became) (k : ℕ) → length l ≢ k + 1
    → get_or (with_last f l) k d ≡ get_or l k d
last_other f [] d k ne = refl
last_other f (x ∷ []) d zero ne = absurd (ne (omega arith))
last_other f (x ∷ []) d (suc k) ne = ap (λ (z : List Became). get_or z (suc k) d) (last_one f x)
last_other f (x ∷ y ∷ l) d zero ne = ap (λ (z : List Became). get_or z 0 d) (last_more f x y l)
last_other f (x ∷ y ∷ l) d (suc k) ne =
    ap (λ (z : List Became). get_or z (suc k) d) (last_more f x y l)
    ∙ last_other f (y ∷ l) d k (λ e. ne (omega (arith, e)))

-- What a move does with its thread

abbrev HandGoes : {V : Type 0} → ℕ → Thread → Effect V → Type 0
HandGoes taken after Takes = ⊥
HandGoes taken after (Touches v left) = (after.taken ≡ taken) × ((n : Hand) × (after.hand ≡ Some n))
HandGoes taken after (Looks v) = (after.taken ≡ taken) × ((n : Hand) × (after.hand ≡ Some n))
HandGoes taken after (HearsClock a) = (after.taken ≡ taken) × ((n : Hand) × (after.hand ≡ Some n))
HandGoes taken after (HearsDraw a) = (after.taken ≡ taken) × ((n : Hand) × (after.hand ≡ Some n))
HandGoes taken after (Sends packet) = after.taken ≡ taken
HandGoes taken after Ends = (after.taken ≡ taken) × (after.hand ≡ None)

abbrev Goes : {V : Type 0} → ℕ → Moved V → Type 0
Goes taken (Moves after effect) = HandGoes taken after effect
Goes taken (Illegal cause) = Unit {0}

hand_goes : {V : Type 0} (m : Meaning V) (value : ℕ → V) (taken : ℕ) (h : Hand) (a : Option ℕ) (w : Move)
    → Goes taken (hand_move m value taken h a w)
hand_goes m value taken h None (Access v) = (refl, (_, refl))
hand_goes m value taken h None (Read v) = (refl, (_, refl))
hand_goes m value taken h None Clock = tt
hand_goes m value taken h None Draw = tt
hand_goes m value taken h None Emit = refl
hand_goes m value taken h None End = (refl, refl)
hand_goes m value taken h (Some a) (Access v) = tt
hand_goes m value taken h (Some a) (Read v) = tt
hand_goes m value taken h (Some a) Clock = (refl, (_, refl))
hand_goes m value taken h (Some a) Draw = (refl, (_, refl))
hand_goes m value taken h (Some a) Emit = tt
hand_goes m value taken h (Some a) End = tt

abbrev TakeGoes : {V : Type 0} → ℕ → Moved V → Type 0
TakeGoes taken (Moves after Takes) = after.taken ≡ taken + 1
TakeGoes taken (Moves after (Touches v left)) = ⊥
TakeGoes taken (Moves after (Looks v)) = ⊥
TakeGoes taken (Moves after (HearsClock a)) = ⊥
TakeGoes taken (Moves after (HearsDraw a)) = ⊥
TakeGoes taken (Moves after (Sends packet)) = ⊥
TakeGoes taken (Moves after Ends) = ⊥
TakeGoes taken (Illegal cause) = Unit {0}

take_goes : {V : Type 0} (m : Meaning V) (taken : ℕ) (a : Option ℕ) (input : Option Packet)
    → TakeGoes taken (take_move m taken a input)
take_goes m taken (Some a) input = tt
take_goes m taken None None = tt
take_goes m taken None (Some p) = refl

-- what was sent out

none_out : (out : Option Emission) (sent : List Emission) → sent ≡ option_to_list out ++ sent → out ≡ None
none_out None sent e = refl
none_out (Some o) sent e =
    let long : length sent ≡ length (o ∷ sent) = ap (λ (l : List Emission). length l) e in absurd (omega arith)

some_out : (out : Option Emission) (o : Emission) (sent : List Emission) → o ∷ sent ≡ option_to_list out ++ sent
    → out ≡ Some o
some_out None o sent e =
    let long : length (o ∷ sent) ≡ length sent = ap (λ (l : List Emission). length l) e in absurd (omega arith)
some_out (Some x) o sent e = let same : x ≡ o = cc in ap Some same

-- One move

module _ {V : Type 0} (register : Option ℕ) (steps : List (Step V)) (t : ℕ) (list : List Became)
    (h : ListsInputs register steps t list) where
  mine : nat_eq t t ≡ true
  mine = grind (arith, nat_tests)

  here : (after : Thread) (effect : Effect V) → (thread_after (step_of t steps after effect ∷ steps) t).taken
      ≡ after.taken
  here after effect = ap (λ (th : Thread). th.taken) (moved_thread steps t after effect)

  took : (after : Thread) → after.taken ≡ (thread_after steps t).taken + 1
      → ListsInputs register (step_of t steps after Takes ∷ steps) t (list ++ InHand ∷ [])
  took after more = record {
    long = let n = length-append list (InHand ∷ []) in let k = here after Takes in let l = h.long in
        omega (arith, n, k, l, more);
    each = λ k. at k (is_or k (length list));
  }
    where
      at : (k : ℕ) → (k ≡ length list) ⊎ (k ≢ length list)
          → get_or (list ++ InHand ∷ []) k Untaken ≡ became register (step_of t steps after Takes ∷ steps) t (k + 1)
      at k (inl e) =
          let l = h.long in
          let q : after.taken ≡ k + 1 = omega (arith, l, more, e) in
          let yes : nat_eq after.taken (k + 1) ≡ true = grind (arith, nat_tests, q) in
          rw (mine, yes) (snoc_here list InHand Untaken k e)
      at k (inr ne) =
          let l = h.long in
          let q : after.taken ≢ k + 1 = λ e. ne (omega (arith, l, more, e)) in
          let no : nat_eq after.taken (k + 1) ≡ false = grind (arith, nat_tests, q) in
          rw (mine, no) (snoc_other list InHand Untaken k ne ∙ h.each k)

  -- a move that does nothing with the input
  went : (after : Thread) (effect : Effect V) → after.taken ≡ (thread_after steps t).taken
      → ((k : ℕ) → became register (step_of t steps after effect ∷ steps) t (k + 1) ≡ became register steps t (k + 1))
      → ListsInputs register (step_of t steps after effect ∷ steps) t list
  went after effect same stays = record {
    long = h.long ∙ (sym same ∙ sym (here after effect));
    each = λ k. h.each k ∙ sym (stays k);
  }

  -- a move that does this with the input that was taken last
  changed : (after : Thread) (effect : Effect V) (change : Became → Became)
      → after.taken ≡ (thread_after steps t).taken
      → ((k : ℕ) → (thread_after steps t).taken ≡ k + 1
      → became register (step_of t steps after effect ∷ steps) t (k + 1) ≡ change (became register steps t (k + 1)))
      → ((k : ℕ) → (thread_after steps t).taken ≢ k + 1
      → became register (step_of t steps after effect ∷ steps) t (k + 1) ≡ became register steps t (k + 1))
      → ListsInputs register (step_of t steps after effect ∷ steps) t (with_last change list)
  changed after effect change same this other = record {
    long = last_long change list ∙ (h.long ∙ (sym same ∙ sym (here after effect)));
    each = λ k. at k (is_or (length list) (k + 1));
  }
    where
      at : (k : ℕ) → (length list ≡ k + 1) ⊎ (length list ≢ k + 1)
          → get_or (with_last change list) k Untaken ≡ became register (step_of t steps after effect ∷ steps) t (k + 1)
      at k (inl e) =
          last_here change list Untaken k e ∙ (ap change (h.each k) ∙ sym (this k (sym h.long ∙ e)))
      at k (inr ne) =
          last_other change list Untaken k ne ∙ (h.each k ∙ sym (other k (λ e. ne (h.long ∙ e))))

  sent_out : (after : Thread) (packet : Packet) → after.taken ≡ (thread_after steps t).taken
      → ListsInputs register (step_of t steps after (Sends packet) ∷ steps) t
      (with_last (with_output (emission_of t (sent_of steps) after.taken packet).number) list)
  sent_out after packet same = changed after (Sends packet) _ same
      (λ k e. let q : after.taken ≡ k + 1 = same ∙ e in
      let yes : nat_eq after.taken (k + 1) ≡ true = grind (arith, nat_tests, q) in rw (mine, yes) refl)
      (λ k ne. let q : after.taken ≢ k + 1 = λ e. ne (sym same ∙ e) in
      let no : nat_eq after.taken (k + 1) ≡ false = grind (arith, nat_tests, q) in rw (mine, no) refl)

  ended : (after : Thread) → after.taken ≡ (thread_after steps t).taken
      → ListsInputs register (step_of t steps after Ends ∷ steps) t
      (with_last (with_end (reason_in register (local_in (thread_after steps t).hand))) list)
  ended after same = changed after Ends _ same
      (λ k e. let q : after.taken ≡ k + 1 = same ∙ e in
      let yes : nat_eq after.taken (k + 1) ≡ true = grind (arith, nat_tests, q) in rw (mine, yes) refl)
      (λ k ne. let q : after.taken ≢ k + 1 = λ e. ne (sym same ∙ e) in
      let no : nat_eq after.taken (k + 1) ≡ false = grind (arith, nat_tests, q) in rw (mine, no) refl)

  -- what was made of the list
  abbrev Notes : Thread → Effect V → Made → Type 0
  Notes after effect x = ListsInputs register (step_of t steps after effect ∷ steps) t (after_made x list)

  -- a logged move
  logged : (after : Thread) (effect : Effect V) (out : Option Emission) (place : Local) (n : Hand)
      → after.taken ≡ (thread_after steps t).taken → local_in (thread_after steps t).hand ≡ Some place
      → after.hand ≡ Some n → out ≡ None
      → ((k : ℕ) → became register (step_of t steps after effect ∷ steps) t (k + 1) ≡ became register steps t (k + 1))
      → Notes after effect (made_of register (local_in (thread_after steps t).hand) out (local_in after.hand))
  logged after effect out place n same at on none stays =
      subst (Notes after effect)
      (sym (ap (λ (q : Option Local). made_of register q out (local_in after.hand)) at
      ∙ (ap (λ (q : Option Emission). made_of register (Some place) q (local_in after.hand)) none
      ∙ ap (λ (q : Option Hand). made_of register (Some place) None (local_in q)) on)))
      (went after effect same stays)

  with_hand : (after : Thread) (effect : Effect V) (out : Option Emission) (hand : Hand)
      → (thread_after steps t).hand ≡ Some hand → HandGoes (thread_after steps t).taken after effect
      → sent_of (step_of t steps after effect ∷ steps) ≡ option_to_list out ++ sent_of steps
      → Notes after effect (made_of register (local_in (thread_after steps t).hand) out (local_in after.hand))
  with_hand after Takes out hand is goes sends = absurd goes
  with_hand after (Touches v left) out hand is goes sends =
      logged after (Touches v left) out hand.place goes.1.0 goes.0 (ap local_in is) goes.1.1
      (none_out out (sent_of steps) sends) (λ k. rw mine refl)
  with_hand after (Looks v) out hand is goes sends =
      logged after (Looks v) out hand.place goes.1.0 goes.0 (ap local_in is) goes.1.1
      (none_out out (sent_of steps) sends) (λ k. rw mine refl)
  with_hand after (HearsClock a) out hand is goes sends =
      logged after (HearsClock a) out hand.place goes.1.0 goes.0 (ap local_in is) goes.1.1
      (none_out out (sent_of steps) sends) (λ k. rw mine refl)
  with_hand after (HearsDraw a) out hand is goes sends =
      logged after (HearsDraw a) out hand.place goes.1.0 goes.0 (ap local_in is) goes.1.1
      (none_out out (sent_of steps) sends) (λ k. rw mine refl)
  with_hand after (Sends packet) out hand is goes sends =
      subst (Notes after (Sends packet))
      (sym (ap (λ (q : Option Hand). made_of register (local_in q) out (local_in after.hand)) is
      ∙ ap (λ (q : Option Emission). made_of register (Some hand.place) q (local_in after.hand))
      (some_out out (emission_of t (sent_of steps) after.taken packet) (sent_of steps) sends)))
      (sent_out after packet goes)
  with_hand after Ends out hand is goes sends =
      subst (Notes after Ends)
      (ap (λ (q : Option Hand). made.Ended (reason_in register (local_in q))) is
      ∙ sym (ap (λ (q : Option Hand). made_of register (local_in q) out (local_in after.hand)) is
      ∙ (ap (λ (q : Option Emission). made_of register (Some hand.place) q (local_in after.hand))
      (none_out out (sent_of steps) sends)
      ∙ ap (λ (q : Option Hand). made_of register (Some hand.place) None (local_in q)) goes.1)))
      (ended after goes.0)

  no_hand : (after : Thread) (effect : Effect V) (out : Option Emission) → (thread_after steps t).hand ≡ None
      → TakeGoes (thread_after steps t).taken (Moves after effect)
      → Notes after effect (made_of register (local_in (thread_after steps t).hand) out (local_in after.hand))
  no_hand after Takes out is goes =
      subst (Notes after Takes)
      (sym (ap (λ (q : Option Hand). made_of register (local_in q) out (local_in after.hand)) is)) (took after goes)
  no_hand after (Touches v left) out is goes = absurd goes
  no_hand after (Looks v) out is goes = absurd goes
  no_hand after (HearsClock a) out is goes = absurd goes
  no_hand after (HearsDraw a) out is goes = absurd goes
  no_hand after (Sends packet) out is goes = absurd goes
  no_hand after Ends out is goes = absurd goes

  -- the list behind a move of the thread
  pub noted : (m : Meaning V) (packets : List Packet) (a : Option ℕ) (after : Thread) (effect : Effect V)
      (out : Option Emission)
      → thread_move m packets (value_after m steps) (thread_after steps t) a ≡ Moves after effect
      → sent_of (step_of t steps after effect ∷ steps) ≡ option_to_list out ++ sent_of steps
      → Notes after effect (made_of register (local_in (thread_after steps t).hand) out (local_in after.hand))
  noted m packets a after effect out moves sends = go (thread_after steps t).hand refl
    where
      moved : (hand : Option Hand) → (thread_after steps t).hand ≡ hand
          → held_move m packets (value_after m steps) (thread_after steps t).taken a hand ≡ Moves after effect
      moved hand is = ap (held_move m packets (value_after m steps) (thread_after steps t).taken a) (sym is) ∙ moves

      go : (hand : Option Hand) → (thread_after steps t).hand ≡ hand
          → Notes after effect (made_of register (local_in (thread_after steps t).hand) out (local_in after.hand))
      go None is = no_hand after effect out is
          (subst (TakeGoes (thread_after steps t).taken) (moved None is)
          (take_goes m (thread_after steps t).taken a (slice_get packets (thread_after steps t).taken)))
      go (Some hand) is = with_hand after effect out hand is
          (subst (Goes (thread_after steps t).taken) (moved (Some hand) is)
          (hand_goes m (value_after m steps) (thread_after steps t).taken hand a (m.next hand.place))) sends

-- the other threads stay as they are
pub other_stays : {V : Type 0} (register : Option ℕ) (steps : List (Step V)) (t u : ℕ) (after : Thread)
    (effect : Effect V) (list : List Became) → t ≢ u → ListsInputs register steps u list
    → ListsInputs register (step_of t steps after effect ∷ steps) u list
other_stays register steps t u after effect list other h =
    let no : nat_eq t u ≡ false = grind (arith, nat_tests, other) in
    record { long = rw no h.long; each = λ k. rw no (h.each k) }
