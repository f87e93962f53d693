-- On a longer capture each world is as sound, and each single event comes to the same.
use Rattle.std.proofs.Common.{◌≡◌, ℕ, zero, suc, ◌+◌, ◌-◌, ◌≤◌, List, [], ◌∷◌, ◌++◌, length, take, drop, refl, sym, ap}
use Rattle.std.proofs.Common.{◌∙◌, subst, inl, inr, ◌⊎◌, arith, Option, Some, None, append_assoc}
use Rattle.std.specs.Prelude.{Ok, slice_get}
use Rattle.std.proofs.lemmas.List.{take-append-le, length-append}
use Rattle.plain_text.specs.declared.limit.Limit.{Limit}
use Rattle.plain_text.specs.declared.kind.Kind.TheVariants as kind
use Rattle.plain_text.specs.declared.packet.Packet.{Packet}
use Rattle.input_logger.specs.Inputs.{inputs_of}
use Rattle.entry_order.specs.Log.{Entry}
use Rattle.plain_machine.specs.declared.local.Move.{Move}
use Rattle.plain_machine.specs.declared.local.Move.TheVariants.{Access, Read, Clock, Draw, Emit, End}
use Rattle.plain_machine.specs.Machine.{Hand}
use Rattle.plain_machine.specs.History.{Step, thread_after, plain_move, IsHistory}
use Rattle.recovery_world.specs.declared.event.Event.{Event}
use Rattle.recovery_world.specs.declared.event.Event.TheVariants as event
use Rattle.recovery_world.specs.declared.event.Outcome.{Outcome}
use Rattle.recovery_world.specs.declared.event.Outcome.TheVariants as outcome
use Rattle.recovery_world.specs.World.{Setting, Sent, World, opening, inputs_fed, time_after}
use Rattle.recovery_world.specs.Events.{Tells, TellsHand, MakesMove, WaitsFor, OnStep, fed_after, after_feed, On}
use Rattle.recovery_world.specs.Limits.{OnWithin}
use Rattle.recovery_world.specs.Strategies.{Strategy, Follows, Ends, Halts, Goes as GoesOn}
use Rattle.recovery_world.specs.Many.{Phase, goes_on, OnAny, Single, Several, Stops, SingleStops, SeveralStops}
use Rattle.recovery_world.specs.Files.{Performs, Rests, Goes, reply_line}
use Rattle.recovery_laws.specs.Sound.{IsKept, Firm, Sound}
use Rattle.recovery_laws.proofs.KeptWorlds.{opening_sound, within_sound, any_sound, performs_sound}
use Rattle.longer_captures.specs.Longer.{with_more, as_fed, IsPerformed}

-- what stands at these places of a list stands there in a longer one
window : {X : Type 0} (i j : ℕ) (xs ys : List X) → i + j ≤ length xs
    → take j (drop i (xs ++ ys)) ≡ take j (drop i xs)
window zero j xs ys low = take-append-le j xs ys (omega (arith, low))
window (suc i) j [] ys low = absurd (omega (arith, low))
window (suc i) j (x ∷ xs) ys low = window i j xs ys (omega (arith, low))

-- the inputs of each thread among the packets that were fed are the same
pub same_inputs : {V : Type 0} (s : Setting V) (more : List Packet) (n : ℕ) → n ≤ length s.packets
    → inputs_fed (with_more s more) n ≡ inputs_fed s n
same_inputs s more n low =
    ap (λ (l : List Packet). λ (t : ℕ). inputs_of (record { threads = s.threads; tags = s.tags; packets = l }) t)
    (take-append-le n s.packets more low)

module _ {V : Type 0} (s : Setting V) (w : World V) (more : List Packet) where
  history_there : w.fed ≤ length s.packets → (steps : List (Step V))
      → IsHistory s.meaning (inputs_fed s w.fed) s.threads steps
      → IsHistory s.meaning (inputs_fed (with_more s more) w.fed) s.threads steps
  history_there low steps h =
      subst (λ (f : ℕ → List Packet). IsHistory s.meaning f s.threads steps) (sym (same_inputs s more w.fed low)) h

  kept_there : w.fed ≤ length s.packets → (log : List Entry) (o : Sent) → IsKept s w log o
      → IsKept (with_more s more) w log o
  kept_there low log o k = record {
    run = k.run;
    history = history_there low k.run k.history;
    sends = k.sends;
    before = k.before;
    precedes = k.precedes;
    of_run = k.of_run;
    closed_there = k.closed_there;
    known = k.known;
    closed_here = k.closed_here;
  }

  firm_there : Firm s w → Firm (with_more s more) w
  firm_there h = record {
    fed = let n = length-append s.packets more in let low = h.fed in omega (arith, n, low);
    legal = history_there h.fed w.past h.legal;
    stored = h.stored;
    copied = h.copied;
    down = h.down;
    more = h.more;
    to_come = h.to_come;
    log = h.log;
    known = h.known;
    closed = h.closed;
    here = h.here;
    follows = h.follows;
    only = h.only;
    origin = h.origin;
    origin_is = history_there h.fed h.origin h.origin_is;
    made = h.made;
    held = h.held;
    held_once = h.held_once;
    held_on = h.held_on;
    released = λ o i. kept_there h.fed (h.more ++ _) o (h.released o i);
    sent = h.sent;
    once = h.once;
  }

  pub sound_there : Sound s w → Sound (with_more s more) w
  sound_there h = record { firm = firm_there h.firm; waits = h.waits }

  -- A step of a thread

  tells_there : (t : ℕ) (given answer : Option ℕ) (drawn : ℕ) (next : Move) → Tells s w t given answer drawn next
      → Tells (with_more s more) w t given answer drawn next
  tells_there t given answer drawn (Access v) h = h
  tells_there t given answer drawn (Read v) h = h
  tells_there t given answer drawn Clock h = h
  tells_there t given answer drawn Draw h = h
  tells_there t given answer drawn Emit h = h
  tells_there t given answer drawn End h = h

  hand_there : (t : ℕ) (given answer : Option ℕ) (drawn : ℕ) (hand : Option Hand)
      → TellsHand s w t given answer drawn hand → TellsHand (with_more s more) w t given answer drawn hand
  hand_there t given answer drawn None h = h
  hand_there t given answer drawn (Some hand) h = tells_there t given answer drawn (s.meaning.next hand.place) h

  step_there : w.fed ≤ length s.packets → (t : ℕ) (given : Option ℕ) (to : Outcome) (new : World V)
      → OnStep s w t given to new → OnStep (with_more s more) w t given to new
  step_there low t given to new (inl none) = inl none
  step_there low t given to new (inr (inl down)) = inr (inl down)
  step_there low t given to new (inr (inr (inl (few, up, wants, is, same)))) =
      inr (inr (inl (
        few,
        up,
        (
          wants.0,
          subst (λ (f : ℕ → List Packet).
              slice_get (f t) (thread_after w.past t).taken ≡ None) (sym (same_inputs s more w.fed low)) wants.1,
        ),
        is,
        same,
      )))
  step_there low t given to new (inr (inr (inr (inl (few, up, waits, same))))) = inr (inr (inr (inl (
    few,
    up,
    record {
      hand = waits.hand;
      hand_is = waits.hand_is;
      entry = waits.entry;
      awaits = waits.awaits;
      to_is = waits.to_is;
    },
    same,
  ))))
  step_there low t given to new (inr (inr (inr (inr (few, up, makes))))) = inr (inr (inr (inr (
    few,
    up,
    record {
      turn = makes.turn;
      answer = makes.answer;
      drawn = makes.drawn;
      tells = hand_there t given makes.answer makes.drawn (thread_after w.past t).hand makes.tells;
      step = makes.step;
      moves = subst (λ (f : ℕ → List Packet). plain_move s.meaning f s.threads w.past (record {
        thread = t;
        answer = makes.answer;
      }) ≡ Ok (makes.step ∷ w.past)) (sym (same_inputs s more w.fed low)) makes.moves;
      to_is = makes.to_is;
      new_is = makes.new_is;
    },
  ))))

  -- A feeding

  -- as many are fed
  fed_there : w.fed ≤ length s.packets → (n : ℕ)
      → fed_after (with_more s more) w (fed_after s w n - w.fed) ≡ fed_after s w n
  fed_there low n = let long = length-append s.packets more in omega (arith, low, long)

  feed_there : w.fed ≤ length s.packets → (n : ℕ)
      → after_feed (with_more s more) w (fed_after s w n - w.fed) ≡ after_feed s w n
  feed_there low n =
      ap (λ (j : ℕ). record w {
        fed = j;
        clock = time_after s.fractions w.clock (take (j - w.fed) (drop w.fed (s.packets ++ more)));
      }) (fed_there low n)
      ∙ ap (λ (l : List Packet). record w { fed = fed_after s w n; clock = time_after s.fractions w.clock l })
      (window w.fed (fed_after s w n - w.fed) s.packets more (omega (arith, low)))

  on_there : w.fed ≤ length s.packets → (ev : Event) (to : Outcome) (freed : List Sent) (new : World V)
      → On s w ev to freed new → On (with_more s more) w (as_fed s w ev) to freed new
  on_there low (event.Feed n) to freed new (is, none, same) =
      (is ∙ ap outcome.Total (sym (fed_there low n)), none, same ∙ sym (feed_there low n))
  on_there low (event.Time n) to freed new h = h
  on_there low (event.Step t given) to freed new h = (step_there low t given to new h.0, h.1)
  on_there low (event.Log t n) to freed new h = h
  on_there low (event.Out t n) to freed new h = h
  on_there low (event.Late e k t n) to freed new h = h
  on_there low (event.Cut kind.Log t n len) to freed new h = h
  on_there low (event.Cut kind.Out t n len) to freed new h = h
  on_there low event.Snap to freed new h = h
  on_there low event.Store to freed new h = h
  on_there low event.Crash to freed new h = h
  on_there low event.Recover to freed new h = h
  on_there low (event.Show v) to freed new h = h
  on_there low event.Settle to freed new h = h
  on_there low (event.Flow n) to freed new h = h
  on_there low (event.Auto seed n) to freed new h = h

  pub single_there : (ev : Event) (to : Outcome) (freed : List Sent) (new : World V) → Sound s w
      → OnWithin s w ev to freed new → OnWithin (with_more s more) w (as_fed s w ev) to freed new
  single_there ev to freed new h on = (on_there h.firm.fed ev to freed new on.0, on.1)

-- Scripts

-- some events lead from the one world to the other
pub record Leads {V : Type 0} (s : Setting V) (w new : World V) : Type 0 where
  pub events : List Event
  pub lines : List ℕ
  pub performs : Performs s w events lines new

-- what each single event does in the one setting, some event does in the other
abbrev pub Serves : {V : Type 0} → Setting V → Setting V → Type 0
Serves {V} s r =
    (w : World V) (ev : Event) (to : Outcome) (freed : List Sent) (new : World V) → Sound s w
    → OnWithin s w ev to freed new → (again : Event) × OnWithin r w again to freed new

performs_both : {V : Type 0} (s : Setting V) (w mid new : World V) (events more : List Event) (lines rest : List ℕ)
    → Performs s w events lines mid → Performs s mid more rest new
    → Performs s w (events ++ more) (lines ++ rest) new
performs_both s w mid new events more lines rest (Rests same) then = then
performs_both s w mid new events more lines rest (Goes {mid = next} {events = later} {lines = said} ev to freed on go)
    then =
    subst (λ (l : List ℕ). Performs s w (ev ∷ later ++ more) l new)
    (sym (append_assoc (reply_line ev to freed) said rest))
    (Goes ev to freed on (performs_both s next mid new later more said rest go then))

pub leads_on : {V : Type 0} (s : Setting V) (w mid new : World V) → Leads s w mid → Leads s mid new → Leads s w new
leads_on s w mid new first then = record {
  events = first.events ++ then.events;
  lines = first.lines ++ then.lines;
  performs = performs_both s w mid new first.events then.events first.lines then.lines first.performs then.performs;
}

pub leads_once : {V : Type 0} (s : Setting V) (w new : World V) (ev : Event) (to : Outcome) (freed : List Sent)
    → OnAny s w ev to freed new → Leads s w new
leads_once s w new ev to freed on =
    record { events = ev ∷ []; lines = reply_line ev to freed ++ []; performs = Goes ev to freed on (Rests new) }

leads_none : {V : Type 0} (s : Setting V) (w : World V) → Leads s w w
leads_none s w = record { events = []; lines = []; performs = Rests w }

serves_once : {V : Type 0} (s r : Setting V) → Serves s r → (w new : World V) (ev : Event) (to : Outcome)
    (freed : List Sent) → Sound s w → OnWithin s w ev to freed new → Leads r w new
serves_once s r serves w new ev to freed h on =
    let there = serves w ev to freed new h on in
    leads_once r w new there.0 to freed (Single there.0 to freed new there.1)

-- what a strategy comes to, single events come to
pub follow_leads : {Q V : Type 0} (s r : Setting V) → Serves s r → (next : Strategy Q V) (q : Q) (w new : World V)
    (end : Option Limit) → Sound s w → Follows s next q w end new → Leads r w new
follow_leads s r serves next q w new end h (Ends p same none) = leads_none r w
follow_leads s r serves next q w new end h (Halts p same c limit some passes) = leads_none r w
follow_leads s r serves next q w new end h (GoesOn {mid = mid} p same c to freed some on rest) =
    leads_on r w mid new (serves_once s r serves w mid c.event to freed h on)
    (follow_leads s r serves next (c.leads_to to) mid new end (within_sound s w c.event to freed mid h on) rest)

any_leads : {V : Type 0} (s r : Setting V) → Serves s r → (w new : World V) (ev : Event) (to : Outcome)
    (freed : List Sent) → Sound s w → OnAny s w ev to freed new → Leads r w new
any_leads s r serves w new ev to freed h (Single e o f n on) = serves_once s r serves w new ev to freed h on
any_leads s r serves w new ev to freed h (Several e q o n at f is) =
    follow_leads s r serves (goes_on s) q w new None h f

pub performs_leads : {V : Type 0} (s r : Setting V) → Serves s r → (w new : World V) (events : List Event)
    (lines : List ℕ) → Sound s w → Performs s w events lines new → Leads r w new
performs_leads s r serves w new events lines h (Rests same) = leads_none r w
performs_leads s r serves w new events lines h (Goes {mid = mid} {events = later} {lines = said} ev to freed on rest) =
    leads_on r w mid new (any_leads s r serves w mid ev to freed h on)
    (performs_leads s r serves mid new later said (any_sound s w h ev to freed mid on) rest)

-- each setting serves itself
itself : {V : Type 0} (s : Setting V) → Serves s s
itself s w ev to freed new h on = (ev, on)

longer_serves : {V : Type 0} (s : Setting V) (more : List Packet) → Serves s (with_more s more)
longer_serves s more w ev to freed new h on = (as_fed s w ev, single_there s w more ev to freed new h on)

is_performed : {V : Type 0} (s : Setting V) (w : World V) → Leads s (opening V) w → IsPerformed s w
is_performed s w l = record { events = l.events; lines = l.lines; performs = l.performs }

leads_to : {V : Type 0} (s : Setting V) (w : World V) → IsPerformed s w → Leads s (opening V) w
leads_to s w l = record { events = l.events; lines = l.lines; performs = l.performs }

pub performed_there : {V : Type 0} (s : Setting V) (w : World V) (more : List Packet) → IsPerformed s w
    → IsPerformed (with_more s more) w
performed_there {V} s w more p = is_performed (with_more s more) w
    (performs_leads s (with_more s more) (longer_serves s more) (opening V) w p.events p.lines (opening_sound s)
    p.performs)

pub performed_on : {V : Type 0} (s : Setting V) (w : World V) (ev : Event) (to : Outcome) (freed : List Sent)
    (new : World V) → IsPerformed s w → OnAny s w ev to freed new → IsPerformed s new
performed_on {V} s w ev to freed new p on =
    is_performed s new (leads_on s (opening V) w new (leads_to s w p) (leads_once s w new ev to freed on))

pub performed_stop : {V : Type 0} (s : Setting V) (w : World V) (ev : Event) (limit : Limit) (new : World V)
    → IsPerformed s w → Stops s w ev limit new → IsPerformed s new
performed_stop s w ev limit new p (SingleStops e l passes) = p
performed_stop {V} s w ev limit new p (SeveralStops e q l n at f) =
    is_performed s new (leads_on s (opening V) w new (leads_to s w p) (follow_leads s s (itself s) (goes_on s) q w new
    (Some limit) (performs_sound s (opening V) w p.events p.lines (opening_sound s) p.performs) f))
