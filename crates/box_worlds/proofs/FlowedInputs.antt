-- A flow, while the master is up, leaves a world whose run ends where its past does: so what was released is what the
-- past sent out.
use Rattle.std.proofs.Common.{◌≡◌, ℕ, zero, suc, ◌+◌, ◌≤◌, ◌<◌, true, false, List, [], ◌∷◌, length, refl, sym, ap}
use Rattle.std.proofs.Common.{◌∙◌, subst, inl, inr, arith, Option, Some, None}
use Rattle.std.specs.Prelude.{◌-◌, min, slice_get}
use Rattle.plain_text.specs.declared.limit.Limit.{Limit}
use Rattle.plain_text.specs.declared.kind.Kind.{Kind}
use Rattle.plain_text.specs.declared.kind.Kind.TheVariants as kind
use Rattle.plain_text.specs.declared.packet.Packet.{Packet}
use Rattle.entry_order.specs.Log.{Entry, IsIn}
use Rattle.plain_machine.specs.Program.{Meaning}
use Rattle.plain_machine.specs.History.{Step, thread_after, IsStep, IsHistory}
use Rattle.plain_machine.specs.Agree.{IsEarlier, SendsAfter}
use Rattle.plain_machine.specs.Continue.{IsLed}
use Rattle.plain_machine.proofs.Histories.{earlier_refl, earlier_trans}
use Rattle.plain_machine.proofs.QuietMoves.{quiet_later}
use Rattle.recovery_world.specs.declared.event.Event.{Event}
use Rattle.recovery_world.specs.declared.event.Event.TheVariants as event
use Rattle.recovery_world.specs.declared.event.Outcome.{Outcome}
use Rattle.recovery_world.specs.World.{Setting, Sent, World, inputs_fed}
use Rattle.recovery_world.specs.Events.{IsAmong, Wakes, On}
use Rattle.recovery_world.specs.Finish.{IsToCome, AllGoOn, IsFinish}
use Rattle.recovery_world.specs.Limits.{OnWithin}
use Rattle.recovery_world.specs.Strategies.{Choice, Follows, Ends as NoneIs, Halts, Goes}
use Rattle.recovery_world.specs.Many.{Message, arrival_of, arrival, Phase, Steps, Arrives, first_of, goes_on, begins}
use Rattle.recovery_world.specs.Many.{OnAny, Single, Several, all_messages}
use Rattle.recovery_laws.specs.Sound.{Sound}
use Rattle.recovery_laws.specs.Settled.{HasFlowed}
use Rattle.recovery_laws.proofs.Finishes.{finish_there, finish_ends}
use Rattle.recovery_laws.proofs.Replays.{no_step}
use Rattle.recovery_laws.proofs.Rounds.{Rested, comes_to_rest}
use Rattle.recovery_laws.proofs.Settlings.{log_keeps, out_keeps, new_sound, past_hand, past_input}
use Rattle.recovery_laws.proofs.Settlings.{new_none, flow_flows}
use Rattle.box_worlds.specs.Outcomes.{LeftOrCounted}
use Rattle.box_worlds.proofs.EachInput.{all_went}
use Rattle.box_worlds.proofs.SettledInputs.{left_or_counted}

-- What arrives keeps the master up

arrival_up : {V : Type 0} (s : Setting V) (w new : World V) (k : Kind) (t n : ℕ) (to : Outcome) (freed : List Sent)
    → On s w (arrival_of k t n) to freed new → new.up ≡ w.up
arrival_up s w new kind.Log t n to freed on = (log_keeps s w new t n to freed on).up
arrival_up s w new kind.Out t n to freed on = (out_keeps s w new t n to freed on).up

arrivals_up : {V : Type 0} (s : Setting V) (q : Phase) (w new : World V) (end : Option Limit) (messages : List Message)
    → Follows s (goes_on s) q w end new → q ≡ Arrives messages → new.up ≡ w.up
arrivals_up s q w new end messages (NoneIs p same none) at = refl
arrivals_up s q w new end messages (Halts p same c limit some passes) at = refl
arrivals_up s q w new end [] (Goes {mid = mid} p same c to freed some on rest) at =
    let j : goes_on s q w ≡ None = ap (λ (x : Phase). goes_on s x w) at in absurd (cc)
arrivals_up {V} s q w new end (m ∷ messages) (Goes {mid = mid} p same c to freed some on rest) at =
    let j : goes_on s q w ≡ first_of (m ∷ messages) = ap (λ (x : Phase). goes_on s x w) at in
    let k : c ≡ record { event = arrival m; leads_to = λ to. Arrives messages } = let i = sym some ∙ j in cc in
    arrivals_up s (c.leads_to to) mid new end messages rest (ap (λ (x : Choice Phase). x.leads_to to) k)
    ∙ arrival_up s w mid m.kind m.thread m.number to freed
    (subst (λ (x : Choice Phase). OnWithin s w x.event to freed mid) k on).0

-- A flow comes to rest

flow_rests : {V : Type 0} (s : Setting V) (w new : World V) (n : ℕ) (ev : Event) (to : Outcome) (freed : List Sent)
    → Sound s w → w.up ≡ true → ev ≡ event.Flow n → OnAny s w ev to freed new
    → Rested s (min n (length s.packets - w.fed) + w.fed) new
flow_rests {V} s w new n ev to freed h up is (Single e o f z on) =
    let a = (subst (λ (x : Event). On s w x to freed new) is on.0).0 in absurd (cc)
flow_rests {V} s w new n ev to freed h up is (Several e q o z at f same) =
    comes_to_rest s (min n (length s.packets - w.fed) + w.fed) w new (min n (length s.packets - w.fed)) most h up refl
    (subst (λ (x : Phase). Follows s (goes_on s) x w None new) k f)
  where
    most : min n (length s.packets - w.fed) + w.fed ≤ length s.packets
    most = let k = h.firm.fed in omega (arith, k)

    k : q ≡ Steps (min n (length s.packets - w.fed)) 0 false
    k = let j : begins s w (event.Flow n) ≡ Some (Steps (min n (length s.packets - w.fed)) 0 false) = rw up refl in
        let i : begins s w ev ≡ begins s w (event.Flow n) = ap (λ (x : Event). begins s w x) is in cc

-- At rest the run in which the world ends is the past

led_none : {V : Type 0} (past : List (Step V)) (more : List Entry) (line : List (Step V))
    → ((e : Entry) → IsIn e more → ⊥) → IsLed past more line → line ≡ past
led_none past [] line none led = led
led_none past (e ∷ more) line none led = absurd (none e (inl refl))

go_later : {V : Type 0} (released : List Sent) (n : ℕ) (line steps : List (Step V)) → AllGoOn released n line steps
    → IsEarlier line steps
go_later {V} released zero line steps h = subst (λ (l : List (Step V)). IsEarlier line l) (sym h) (earlier_refl line)
go_later released (suc n) line steps h =
    earlier_trans line h.0 steps (go_later released n line h.0 h.1) (quiet_later h.0 n steps h.2.quiet)

-- where each thread has ended all its inputs, none goes on
none_later : {V : Type 0} (m : Meaning V) (inputs : ℕ → List Packet) (threads : ℕ) (past steps : List (Step V))
    → ((t : ℕ) → t < threads → (thread_after past t).hand ≡ None)
    → ((t : ℕ) → t < threads → slice_get (inputs t) (thread_after past t).taken ≡ None) → IsEarlier past steps
    → IsHistory m inputs threads steps → steps ≡ past
none_later m inputs threads past [] hand input early h = sym early
none_later m inputs threads past (x ∷ steps) hand input (inl same) h = sym same
none_later {V} m inputs threads past (x ∷ steps) hand input (inr early) h =
    let same : steps ≡ past = none_later m inputs threads past steps hand input early h.1 in
    absurd (no_step m inputs threads past x.thread x
    (subst (λ (l : List (Step V)). IsStep m inputs threads l x) same h.0) refl (hand x.thread h.0.0)
    (input x.thread h.0.0))

module _ {V : Type 0} (s : Setting V) (total : ℕ) (new : World V) (r : Rested s total new) where
  is_up : new.up ≡ true
  is_up = arrivals_up s (Arrives (all_messages s r.ran)) r.ran new None (all_messages s r.ran) r.arrive refl ∙ r.up

  ends_there : (steps : List (Step V)) → IsFinish s new steps → steps ≡ new.past
  ends_there steps f = none_later s.meaning (inputs_fed s new.fed) s.threads new.past steps
      (past_hand s total new r) (past_input s total new r)
      (subst (λ (l : List (Step V)). IsEarlier l steps) line (go_later f.up.released s.threads f.line steps f.goes_on))
      (finish_ends s new steps (new_sound s total new r) f).fed
    where
      up : f.up ≡ new
      up = go f.up_is
        where
          go : Wakes new f.up → f.up ≡ new
          go (inl a) = a.1
          go (inr a) = let p : new.up ≡ false = a.0 in let q : new.up ≡ true = is_up in absurd (cc)

      none : (e : Entry) → IsIn e f.line_is.more → ⊥
      none e i =
          new_none s total new r e (subst (λ (z : World V). IsToCome z e) up ((f.line_is.to_come e).0 i))

      line : f.line ≡ new.past
      line = led_none f.up.past f.line_is.more f.line none f.line_is.led ∙ ap (λ (z : World V). z.past) up

  pub released_only : (o : Sent) → IsAmong o new.released → SendsAfter new.past o.emission o.after
  released_only o i =
      let f = finish_there s new (new_sound s total new r) in
      subst (λ (l : List (Step V)). SendsAfter l o.emission o.after) (ends_there f.0 f.1)
      ((finish_ends s new f.0 (new_sound s total new r) f.1).emits o i)

pub flow_left : {V : Type 0} (s : Setting V) (w new : World V) (n : ℕ) (to : Outcome) (freed : List Sent) → Sound s w
    → w.up ≡ true → OnAny s w (event.Flow n) to freed new
    → ((run : List (Step V)) → IsHistory s.meaning (inputs_fed s new.fed) s.threads run → (t : ℕ)
    → (thread_after run t).hand ≡ None → all_went t run ≡ (thread_after run t).taken)
    → LeftOrCounted s.threads (inputs_fed s new.fed) new.released new.past
flow_left s w new n to freed h up on rests =
    left_or_counted s.meaning (inputs_fed s new.fed) s.threads new.released new.past rests sound.firm.legal flowed.taken
    flowed.ended flowed.released (released_only s (min n (length s.packets - w.fed) + w.fed) new r)
    (λ t j. let k = sound.firm.once t j in omega (arith, k))
  where
    r : Rested s (min n (length s.packets - w.fed) + w.fed) new
    r = flow_rests s w new n (event.Flow n) to freed h up refl on

    sound : Sound s new
    sound = new_sound s (min n (length s.packets - w.fed) + w.fed) new r

    flowed : HasFlowed s w n new
    flowed = flow_flows s w new n (event.Flow n) to freed h up refl on
