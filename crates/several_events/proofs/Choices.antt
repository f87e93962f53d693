-- What the strategy chooses next, and that less is to be done behind it.
use Rattle.std.proofs.Common.{◌≡◌, ℕ, suc, ◌+◌, ◌-◌, ◌*◌, ◌<◌, ◌≤◌, ◌⊎◌, ◌||◌, nat_lt, not, if◌then◌else◌, Bool, true}
use Rattle.std.proofs.Common.{false, List, length, length-drop, Some, None, refl, sym, ap, ◌∙◌, subst, inl, inr, arith}
use Rattle.plain_text.specs.declared.kind.Kind.{Kind}
use Rattle.plain_text.specs.declared.kind.Kind.TheVariants as kind
use Rattle.plain_text.specs.declared.limit.TheConstants.{MOST_MOVES}
use Rattle.plain_machine.specs.Program.{Meaning}
use Rattle.random_words.specs.Words.{generator_after}
use Rattle.rand_pcg.specs.Lcg.{Lcg}
use Rattle.recovery_world.specs.declared.event.Event.{Event}
use Rattle.recovery_world.specs.declared.event.Event.TheVariants as event
use Rattle.recovery_world.specs.declared.event.Outcome.{Outcome}
use Rattle.recovery_world.specs.World.{Setting, Sent, World}
use Rattle.recovery_world.specs.Events.{On, OnRecover}
use Rattle.recovery_world.specs.Many.{arrival_of, Phase, Steps, Arrives, Chooses, rests, after_step, first_of, at_rest}
use Rattle.recovery_world.specs.Many.{chosen, goes_on}
use Rattle.recovery_laws.proofs.Rounds.{lt_true, lt_false, step_kind, few_moves}
use Rattle.recovery_laws.proofs.Settlings.{log_keeps, out_keeps}
use Rattle.system_parts.specs.Parts.{Parts}
use Rattle.system_parts.specs.SystemStanding.{StandsFor}
use Rattle.system_parts.proofs.EventChains.{threads_of_setting}
use Rattle.several_events.specs.declared.progress.Progress.{Progress}
use Rattle.several_events.specs.declared.progress.Progress.TheVariants as progress
use Rattle.single_events.specs.Single.{IsSingle}
use Rattle.several_events.specs.Progressing.{messages_from, to_arrive, to_do, after_turn, after_of, IsInPhase, IsOver}
use Rattle.several_events.specs.Progressing.{IsNext, IsMessage, NoMessage, IsOfTurns, IsOfEntries, Leads}
use Rattle.early_arrivals.specs.Early.{OfThread, OfPackets}
use Rattle.several_events.proofs.MessageLists.{messages_whole}

-- What arrives leaves the past and the moves

arrival_past : {V : Type 0} (s : Setting V) (w : World V) (k : Kind) (t n : ℕ) (to : Outcome) (freed : List Sent)
    (new : World V) → On s w (arrival_of k t n) to freed new → new.past ≡ w.past
arrival_past s w kind.Log t n to freed new h = (log_keeps s w new t n to freed h).past
arrival_past s w kind.Out t n to freed new h = (out_keeps s w new t n to freed h).past

-- what is to come depends on the past alone
pub messages_same : {V : Type 0} (s : Setting V) (w new : World V) (k : Kind) (t arrived : ℕ) → new.past ≡ w.past
    → messages_from s new k t arrived ≡ messages_from s w k t arrived
messages_same {V} s w new kind.Log t arrived same = rw same refl
messages_same {V} s w new kind.Out t arrived same = rw same refl

after_arrival : (n : ℕ) (k i : Kind) (t j u m : ℕ) (to : Outcome)
    → after_of n (progress.Arrives k t j) (arrival_of i u m) to ≡ progress.Arrives k t j
after_arrival n k i t j u m to = refl

-- a message comes next
pub next_arrival : {P V : Type 0} (m : Meaning V) (y : Parts P V) (k : Kind) (t arrived : ℕ) (which : Kind)
    (u number : ℕ) (ev : Event) → ev ≡ arrival_of which u number
    → ((s : Setting V) (w : World V) → StandsFor m s w y → IsMessage s w k t arrived (which, u, number))
    → IsNext m y (progress.Arrives k t arrived) ev (progress.Arrives which u number)
next_arrival {P} {V} m y k t arrived which u number ev is message =
    subst (λ (e : Event). IsNext m y (progress.Arrives k t arrived) e (progress.Arrives which u number))
    (sym is) (record {
      chosen = λ s w q st at.
          let next = message s w st in (
            record { event = arrival_of which u number; leads_to = λ to. Arrives (messages_from s w which u number) },
            ap (λ (p : Phase). goes_on s p w) at ∙ ap first_of next.messages,
            refl,
            λ to freed new on. ap Arrives
                (sym (messages_same s w new which u number (arrival_past s w which u number to freed new on.0))),
          );
      falls = λ s w q st at to freed new on packets.
          let threads = threads_of_setting m s w y st in
          subst (λ (n : ℕ). to_arrive n which u number < to_arrive n k t arrived) (sym threads) (message s w st).less;
      turn = tt;
      leads = leads_arrival k;
      single = single_arrival y.up which u number;
    })
  where
    leads_arrival : (i : Kind)
        → Leads (progress.Arrives i t arrived) (arrival_of which u number) (progress.Arrives which u number)
    leads_arrival kind.Log = refl
    leads_arrival kind.Out = tt

    single_arrival : (up : Bool) (i : Kind) (v n : ℕ) → IsSingle up (arrival_of i v n)
    single_arrival up kind.Log v n = tt
    single_arrival up kind.Out v n = tt

-- none comes
pub over_arrivals : {P V : Type 0} (m : Meaning V) (y : Parts P V) (k : Kind) (t arrived : ℕ)
    → ((s : Setting V) (w : World V) → StandsFor m s w y → NoMessage s w k t arrived)
    → IsOver m y (progress.Arrives k t arrived)
over_arrivals {P} {V} m y k t arrived none =
    λ s w q st at. ap (λ (p : Phase). goes_on s p w) at ∙ ap first_of (none s w st)

-- Threads step

pub next_step : {P V : Type 0} (m : Meaning V) (y : Parts P V) (left t u : ℕ) (moved : Bool) → u ≡ t
    → t < y.inputs.threads → y.inputs.threads ≤ 16
    → IsNext m y (progress.Steps left t moved) (event.Step u None) (progress.Steps left t moved)
next_step {P} {V} m y left t u moved same low few =
    subst (λ (i : ℕ). IsNext m y (progress.Steps left t moved) (event.Step i None) (progress.Steps left t moved))
    (sym same) (record {
      chosen = λ s w q st at.
          let here : t < s.threads = subst (λ (n : ℕ). t < n) (threads_of_setting m s w y st) low in (
            record { event = event.Step t None; leads_to = after_step s.threads left t moved },
            ap (λ (p : Phase). goes_on s p w) at.0 ∙ goes s w here,
            refl,
            λ to freed new on.
                subst (λ (n : ℕ). IsInPhase s new (after_turn n left t moved to) (after_step s.threads left t moved to))
                (sym (threads_of_setting m s w y st))
                (arrives s new to (rests to) refl (up w new to at.1 (step_kind s w new t to here at.1 on.0.0))),
          );
      falls = λ s w q st at to freed new on packets.
          let here : t < s.threads = subst (λ (n : ℕ). t < n) (threads_of_setting m s w y st) low in
          let most = few_moves new.moves new.bytes on.1 in
          less w.moves new.moves to most (kinds w new to (step_kind s w new t to here at.1 on.0.0)) packets;
      turn = low;
      leads = OfThread t None;
      single = tt;
    })
  where
    goes : (s : Setting V) (w : World V) → t < s.threads
        → goes_on s (Steps left t moved) w
        ≡ Some (record { event = event.Step t None; leads_to = after_step s.threads left t moved })
    goes s w here = let b : nat_lt t s.threads ≡ true = lt_true t s.threads here in rw b refl

    up : (w new : World V) (to : Outcome) → w.up ≡ true
        → ((rests to ≡ true) × (new ≡ w)) ⊎ ((rests to ≡ false) × (new.moves ≡ w.moves + 1) × (new.up ≡ true))
        → new.up ≡ true
    up w new to at (inl k) = ap (λ (z : World V). z.up) k.1 ∙ at
    up w new to at (inr k) = k.2

    turns : (s : Setting V) (new : World V) (b : Bool) → new.up ≡ true
        → IsInPhase s new (if b then progress.Steps left (t + 1) moved else progress.Steps left 0 false)
        (if b then Steps left (t + 1) moved else Steps left 0 false)
    turns s new true is_up = (refl, is_up)
    turns s new false is_up = (refl, is_up)

    arrives : (s : Setting V) (new : World V) (to : Outcome) (r : Bool) → rests to ≡ r → new.up ≡ true
        → IsInPhase s new (after_turn s.threads left t moved to) (after_step s.threads left t moved to)
    arrives s new to true is is_up = rw is (turns s new (nat_lt (t + 1) s.threads || not moved) is_up)
    arrives s new to false is is_up = rw is (refl, is_up)

    kinds : (w new : World V) (to : Outcome)
        → ((rests to ≡ true) × (new ≡ w)) ⊎ ((rests to ≡ false) × (new.moves ≡ w.moves + 1) × (new.up ≡ true))
        → ((rests to ≡ true) × (new.moves ≡ w.moves)) ⊎ ((rests to ≡ false) × (new.moves ≡ w.moves + 1))
    kinds w new to (inl k) = inl (k.0, ap (λ (z : World V). z.moves) k.1)
    kinds w new to (inr k) = inr (k.0, k.1)

    rest_less : (before after packets all : ℕ) (was low_next : Bool) → after ≡ before → t < all → all ≤ 16
        → to_do all packets after
        (if low_next || not was then progress.Steps left (t + 1) was else progress.Steps left 0 false)
        < to_do all packets before (progress.Steps left t was)
    rest_less before after packets all true true is here fits = omega (arith, is, here, fits)
    rest_less before after packets all true false is here fits = omega (arith, is, here, fits)
    rest_less before after packets all false true is here fits = omega (arith, is, here, fits)
    rest_less before after packets all false false is here fits = omega (arith, is, here, fits)

    move_less : (before after packets all : ℕ) (was : Bool) → after ≡ before + 1 → after ≤ MOST_MOVES
        → to_do all packets after (progress.Steps left t true) < to_do all packets before (progress.Steps left t was)
    move_less before after packets all true is most = omega (arith, is, most)
    move_less before after packets all false is most = omega (arith, is, most)

    less : (before after : ℕ) (to : Outcome) → after ≤ MOST_MOVES
        → ((rests to ≡ true) × (after ≡ before)) ⊎ ((rests to ≡ false) × (after ≡ before + 1)) → (packets : ℕ)
        → to_do y.inputs.threads packets after (after_turn y.inputs.threads left t moved to)
        < to_do y.inputs.threads (length y.left) before (progress.Steps left t moved)
    less before after to most (inl k) packets =
        rw k.0 (rest_less before after packets y.inputs.threads moved (nat_lt (t + 1) y.inputs.threads) k.1 low few)
    less before after to most (inr k) packets = rw k.0 (move_less before after packets y.inputs.threads moved k.1 most)

-- Behind the last thread

rests_at : {V : Type 0} (s : Setting V) (w : World V) (left t : ℕ) (moved : Bool) → s.threads ≤ t
    → goes_on s (Steps left t moved) w ≡ at_rest s w left
rests_at s w left t moved over = let b : nat_lt t s.threads ≡ false = lt_false t s.threads over in rw b refl

at_threads : {P V : Type 0} (m : Meaning V) (s : Setting V) (w : World V) (y : Parts P V) (t : ℕ) → StandsFor m s w y
    → y.inputs.threads ≤ t → s.threads ≤ t
at_threads m s w y t st over = subst (λ (n : ℕ). n ≤ t) (threads_of_setting m s w y st) over

-- the next packet comes in
pub next_feed : {P V : Type 0} (m : Meaning V) (y : Parts P V) (left t : ℕ) (moved : Bool) → y.inputs.threads ≤ t
    → 1 ≤ y.inputs.threads → y.inputs.threads ≤ 16 → 0 < left
    → IsNext m y (progress.Steps left t moved) (event.Feed 1) (progress.Steps (left - 1) 0 false)
next_feed {P} {V} m y left t moved over some few more = record {
  chosen = λ s w q st at. (
    record { event = event.Feed 1; leads_to = λ to. Steps (left - 1) 0 false },
    ap (λ (p : Phase). goes_on s p w) at.0
        ∙ (rests_at s w left t moved (at_threads m s w y t st over) ∙ ap (at_rest s w) one),
    refl,
    λ to freed new on. (refl, ap (λ (z : World V). z.up) on.0.2 ∙ at.1),
  );
  falls = λ s w q st at to freed new on packets.
      less w.moves new.moves packets moved (ap (λ (z : World V). z.moves) on.0.2);
  turn = omega (arith, some);
  leads = OfPackets 1;
  single = tt;
}
  where
    one : left ≡ suc (left - 1)
    one = omega (arith, more)

    less : (before after packets : ℕ) (was : Bool) → after ≡ before
        → to_do y.inputs.threads packets after (progress.Steps (left - 1) 0 false)
        < to_do y.inputs.threads (length y.left) before (progress.Steps left t was)
    less before after packets true is = omega (arith, is, few, more)
    less before after packets false is = omega (arith, is, few, more)

-- all that was made arrives
same_at_rest : {P V : Type 0} (m : Meaning V) (y : Parts P V) (left t : ℕ) (moved : Bool) (s : Setting V) (w : World V)
    (q : Phase) → StandsFor m s w y → y.inputs.threads ≤ t → left ≡ 0 → IsInPhase s w (progress.Steps left t moved) q
    → goes_on s q w ≡ goes_on s (Arrives (messages_from s w kind.Log 0 0)) w
same_at_rest {P} {V} m y left t moved s w q st over none at =
    ap (λ (p : Phase). goes_on s p w) at.0
    ∙ (rests_at s w left t moved (at_threads m s w y t st over)
    ∙ (ap (at_rest s w) none ∙ sym (ap first_of (messages_whole s w))))

pub next_at_rest : {P V : Type 0} (m : Meaning V) (y : Parts P V) (left t : ℕ) (moved : Bool) (ev : Event)
    (further : Progress) → y.inputs.threads ≤ t → left ≡ 0 → IsNext m y (progress.Arrives kind.Log 0 0) ev further
    → IsNext m y (progress.Steps left t moved) ev further
next_at_rest {P} {V} m y left t moved ev further over none next = record {
  chosen = λ s w q st at.
      let k = next.chosen s w (Arrives (messages_from s w kind.Log 0 0)) st refl in
      (k.0, same_at_rest m y left t moved s w q st over none at ∙ k.1, k.2, k.3);
  falls = λ s w q st at to freed new on packets.
      let k = next.falls s w (Arrives (messages_from s w kind.Log 0 0)) st refl to freed new on packets in
      less w.moves (to_do y.inputs.threads packets new.moves (after_of y.inputs.threads further ev to)) moved k;
  turn = next.turn;
  leads = of_turns further next.leads;
  single = next.single;
}
  where
    of_turns : (there : Progress) → IsOfEntries ev there → IsOfTurns ev there
    of_turns progress.Wakes h = absurd h
    of_turns (progress.Steps other u was) h = absurd h
    of_turns (progress.Arrives k u n) h = h
    of_turns (progress.Chooses words many) h = absurd h

    less : (moves n : ℕ) (was : Bool) → n < to_do y.inputs.threads (length y.left) moves (progress.Arrives kind.Log 0 0)
        → n < to_do y.inputs.threads (length y.left) moves (progress.Steps left t was)
    less moves n true h = omega (arith, h)
    less moves n false h = omega (arith, h)

pub over_at_rest : {P V : Type 0} (m : Meaning V) (y : Parts P V) (left t : ℕ) (moved : Bool) → y.inputs.threads ≤ t
    → left ≡ 0 → IsOver m y (progress.Arrives kind.Log 0 0) → IsOver m y (progress.Steps left t moved)
over_at_rest m y left t moved over none is = λ s w q st at.
    same_at_rest m y left t moved s w q st over none at ∙ is s w (Arrives (messages_from s w kind.Log 0 0)) st refl

-- The master is to be up

recover_up : {V : Type 0} (w : World V) (to : Outcome) (new : World V) → OnRecover w to new
    → (new.up ≡ true) × (new.moves ≡ w.moves)
recover_up {V} w to new (inl k) = (ap (λ (z : World V). z.up) k.2 ∙ k.0, ap (λ (z : World V). z.moves) k.2)
recover_up {V} w to new (inr k) = (ap (λ (z : World V). z.up) k.1.new_is, ap (λ (z : World V). z.moves) k.1.new_is)

pub next_wake : {P V : Type 0} (m : Meaning V) (y : Parts P V) (left : ℕ) → left ≡ length y.left → 1 ≤ y.inputs.threads
    → y.inputs.threads ≤ 16 → IsNext m y progress.Wakes event.Recover (progress.Steps left 0 false)
next_wake {P} {V} m y left is some few = record {
  chosen = λ s w q st at. (
    record { event = event.Recover; leads_to = λ to. Steps (length s.packets - w.fed) 0 false },
    ap (λ (p : Phase). goes_on s p w) at,
    refl,
    λ to freed new on. (
      ap (λ (n : ℕ). Steps n 0 false) (sym (is ∙ (ap length st.inputs.left ∙ length-drop w.fed s.packets))),
      (recover_up w to new on.0.0).0,
    ),
  );
  falls = λ s w q st at to freed new on packets. less w.moves new.moves packets (recover_up w to new on.0.0).1;
  turn = omega (arith, some);
  leads = tt;
  single = tt;
}
  where
    less : (before after packets : ℕ) → after ≡ before
        → to_do y.inputs.threads packets after (progress.Steps left 0 false)
        < to_do y.inputs.threads (length y.left) before progress.Wakes
    less before after packets same = omega (arith, same, few, is)

-- Events chosen by words

pub next_chosen : {P V : Type 0} (m : Meaning V) (y : Parts P V) (words further : Lcg) (left : ℕ) (ev : Event)
    → 0 < left
    → ((s : Setting V) (w : World V) (seed k : ℕ) → StandsFor m s w y → words ≡ generator_after seed (2 * k)
    → ev ≡ chosen s seed k w)
    → ((seed k : ℕ) → words ≡ generator_after seed (2 * k) → further ≡ generator_after seed (2 * (k + 1)))
    → ((up : Bool) → IsSingle up ev) → IsNext m y (progress.Chooses words left) ev (progress.Chooses further (left - 1))
next_chosen {P} {V} m y words further left ev more which further_is single = record {
  chosen = λ s w q st at.
      let seed = at.0 in
      let k = at.1 in (
        record { event = chosen s seed k w; leads_to = λ to. Chooses seed (k + 1) (k + left) },
        ap (λ (p : Phase). goes_on s p w) at.2 ∙ goes s w seed k,
        sym (which s w seed k st at.3),
        λ to freed new on. subst (λ (g : Progress). IsInPhase s new g (Chooses seed (k + 1) (k + left)))
            (sym (same ev to)) (seed, k + 1, ap (Chooses seed (k + 1)) (count k), further_is seed k at.3),
      );
  falls = λ s w q st at to freed new on packets.
      subst (λ (g : Progress). to_do y.inputs.threads packets new.moves g < left) (sym (same ev to))
      (omega (arith, more));
  turn = tt;
  leads = tt;
  single = single y.up;
}
  where
    goes : (s : Setting V) (w : World V) (seed k : ℕ)
        → goes_on s (Chooses seed k (k + left)) w
        ≡ Some (record { event = chosen s seed k w; leads_to = λ to. Chooses seed (k + 1) (k + left) })
    goes s w seed k = let b : nat_lt k (k + left) ≡ true = lt_true k (k + left) (omega (arith, more)) in rw b refl

    count : (k : ℕ) → k + left ≡ k + 1 + (left - 1)
    count k = omega (arith, more)

    same : (e : Event) (to : Outcome)
        → after_of y.inputs.threads (progress.Chooses further (left - 1)) e to ≡ progress.Chooses further (left - 1)
    same e to = refl

pub over_chosen : {P V : Type 0} (m : Meaning V) (y : Parts P V) (words : Lcg) (left : ℕ) → left ≡ 0
    → IsOver m y (progress.Chooses words left)
over_chosen {P} {V} m y words left none = λ s w q st at. ap (λ (p : Phase). goes_on s p w) at.2 ∙ goes s w at.0 at.1
  where
    goes : (s : Setting V) (w : World V) (seed k : ℕ) → goes_on s (Chooses seed k (k + left)) w ≡ None
    goes s w seed k = let b : nat_lt k (k + left) ≡ false = lt_false k (k + left) (omega (arith, none)) in rw b refl
