-- Each system of a chain is a system alone.
use Rattle.std.proofs.Common.{◌≡◌, ℕ, List, [], ◌∷◌, ◌++◌, map, append-nil, refl, sym, ap, ◌∙◌, subst, inl, inr, cond}
use Rattle.std.specs.Prelude.{nat_eq, Ok}
use Rattle.std.proofs.lemmas.List.{map-append}
use Rattle.plain_text.specs.declared.packet.Packet.{Packet}
use Rattle.entry_order.specs.Log.{Entry}
use Rattle.plain_machine.specs.declared.plain_move.PlainMove.{PlainMove}
use Rattle.plain_machine.specs.History.{Step}
use Rattle.recovery_world.specs.declared.event.Event.{Event}
use Rattle.recovery_world.specs.declared.event.Outcome.{Outcome}
use Rattle.recovery_world.specs.World.{Setting, Sent, World, opening}
use Rattle.recovery_world.specs.Finish.{IsFinish}
use Rattle.recovery_world.specs.Files.{Performs, Rests, Goes, Leaves, reply_line, done_line, packets_of}
use Rattle.recovery_laws.specs.Sound.{Sound}
use Rattle.recovery_laws.proofs.KeptWorlds.{opening_sound, any_sound, performs_sound}
use Rattle.recovery_laws.proofs.ReleasedOutputs.{Grows, any_grows}
use Rattle.recovery_laws.proofs.Finishes.{finish_there, finish_ends}
use Rattle.recovery_laws.proofs.ScriptFiles.{leaves_ends, leaves_accepted}
use Rattle.longer_captures.specs.Longer.{with_more, IsPerformed}
use Rattle.longer_captures.proofs.LongerLemmas.{performed_there, performed_on}
use Rattle.chain_world.specs.declared.chain_event.ChainEvent.{ChainEvent}
use Rattle.chain_world.specs.Chain.{Chained, chain_opening, behind, events_of, OnChain, PerformsChain, ChainRests}
use Rattle.chain_world.specs.Chain.{ChainGoes, LeavesChain}
use Rattle.chain_world.specs.Promise.{IsLeftBySome, KeepsOne, WaitsForMissing, KeepsBoth}

-- Worlds

packets_added : (released more : List Sent) → packets_of (released ++ more) ≡ packets_of released ++ packets_of more
packets_added released more = map-append (λ (o : Sent). o.emission.packet) released more

-- the setting of the second system, once the first has released more
behind_more : {V U : Type 0} (r : Setting U) (w new : World V) → (g : Grows w new)
    → behind r new ≡ with_more (behind r w) (packets_of g.0)
behind_more {V} {U} r w new g =
    ap (λ (l : List Packet). let x : Setting U = record r { packets = l } in x)
    (ap packets_of g.1 ∙ packets_added w.released g.0)

-- the first world is sound, and a script leads to the second on what the first released until now
pub record Stands {V U : Type 0} (s : Setting V) (r : Setting U) (c : Chained V U) : Type 0 where
  pub sound : Sound s c.first
  pub performed : IsPerformed (behind r c.first) c.second

pub on_stands : {V U : Type 0} (s : Setting V) (r : Setting U) (c new : Chained V U) (ev : ChainEvent) (to : Outcome)
    (freed : List Sent) → Stands s r c → OnChain s r c ev to freed new → Stands s r new
on_stands {V} {U} s r c new ev to freed h (inl (one, on, same)) =
    let g = any_grows s c.first ev.event to freed new.first on in
    let longer = performed_there (behind r c.first) c.second (packets_of g.0) h.performed in
    let there : IsPerformed (behind r new.first) c.second =
    subst (λ (x : Setting U). IsPerformed x c.second) (sym (behind_more r c.first new.first g)) longer in record {
      sound = any_sound s c.first h.sound ev.event to freed new.first on;
      performed = subst (λ (w : World U). IsPerformed (behind r new.first) w) (sym same) there;
    }
on_stands {V} {U} s r c new ev to freed h (inr (two, on, same)) = record {
  sound = subst (λ (w : World V). Sound s w) (sym same) h.sound;
  performed = subst (λ (w : World V). IsPerformed (behind r w) new.second) (sym same)
      (performed_on (behind r c.first) c.second ev.event to freed new.second h.performed on);
}

all_stand : {V U : Type 0} (s : Setting V) (r : Setting U) (c new : Chained V U) (events : List ChainEvent)
    (lines : List ℕ) → Stands s r c → PerformsChain s r c events lines new → Stands s r new
all_stand s r c new events lines h (ChainRests same) = h
all_stand s r c new events lines h (ChainGoes {mid = mid} {events = later} {lines = said} ev to freed on rest) =
    all_stand s r mid new later said (on_stands s r c mid ev to freed h on) rest

pub opening_stands : {V U : Type 0} (s : Setting V) (r : Setting U) → Stands s r (chain_opening V U)
opening_stands {V} {U} s r = record {
  sound = opening_sound s;
  performed = record { events = []; lines = []; performs = Rests (opening U) };
}

pub stands : {V U : Type 0} (s : Setting V) (r : Setting U) (events : List ChainEvent) (lines : List ℕ)
    (c : Chained V U) → PerformsChain s r (chain_opening V U) events lines c → Stands s r c
stands {V} {U} s r events lines c p = all_stand s r (chain_opening V U) c events lines (opening_stands s r) p

pub second_sound : {V U : Type 0} (s : Setting V) (r : Setting U) (c : Chained V U) → Stands s r c
    → Sound (behind r c.first) c.second
second_sound {V} {U} s r c h = performs_sound (behind r c.first) (opening U) c.second h.performed.events
    h.performed.lines (opening_sound (behind r c.first)) h.performed.performs

-- The events of the first system

first_from : {V U : Type 0} (s : Setting V) (r : Setting U) (c new : Chained V U) (events : List ChainEvent)
    (lines : List ℕ) → PerformsChain s r c events lines new
    → (said : List ℕ) × Performs s c.first (events_of 1 events) said new.first
first_from s r c new events lines (ChainRests same) = ([], Rests c.first)
first_from {V} s r c new events lines (ChainGoes {mid = mid} {events = later} {lines = rest_lines} ev to freed
    (inl (one, on, same)) rest) =
    let tail = first_from s r mid new later rest_lines rest in (
      reply_line ev.event to freed ++ tail.0,
      subst (λ (n : ℕ). Performs s c.first (cond (nat_eq n 1) (ev.event ∷ events_of 1 later) (events_of 1 later))
          (reply_line ev.event to freed ++ tail.0) new.first) (sym one) (Goes ev.event to freed on tail.1),
    )
first_from {V} s r c new events lines (ChainGoes {mid = mid} {events = later} {lines = rest_lines} ev to freed
    (inr (two, on, same)) rest) =
    let tail = first_from s r mid new later rest_lines rest in (
      tail.0,
      subst (λ (n : ℕ). Performs s c.first (cond (nat_eq n 1) (ev.event ∷ events_of 1 later) (events_of 1 later))
          tail.0 new.first) (sym two)
          (subst (λ (w : World V). Performs s w (events_of 1 later) tail.0 new.first) same tail.1),
    )

pub first_alone : {V U : Type 0} (s : Setting V) (r : Setting U) (events : List ChainEvent) (lines : List ℕ)
    (c : Chained V U) → PerformsChain s r (chain_opening V U) events lines c
    → (said : List ℕ) × Performs s (opening V) (events_of 1 events) said c.first
first_alone {V} {U} s r events lines c p = first_from s r (chain_opening V U) c events lines p

-- The promises

pub waits_well : {V : Type 0} (s : Setting V) (w : World V) → Sound s w → WaitsForMissing w
waits_well s w h o among =
    let steps = finish_there s w h in (finish_ends s w steps.0 h steps.1).waits o among

pub keeps_one : {V : Type 0} (s : Setting V) (events : List Event) (report : List ℕ) (released : List Packet)
    (moves : List PlainMove) → (l : Leaves s events report released moves) → KeepsOne s l.world released moves
keeps_one s events report released moves l =
    let r = leaves_ends s events report released moves l in record {
      steps = l.steps;
      plays = r.0;
      ends = r.1;
      released_is = l.released_is;
      accepted = leaves_accepted s events report released moves l;
      alone = (events, report, l);
    }

module _ {V U : Type 0} (s : Setting V) (r : Setting U) (events : List ChainEvent) (report : List ℕ)
    (middle released : List Packet) (first_moves second_moves : List PlainMove)
    (l : LeavesChain s r events report middle released first_moves second_moves) where
  abbrev pub first_leaves : (said : List ℕ) → Performs s (opening V) (events_of 1 events) said l.worlds.first
      → Leaves s (events_of 1 events) (said ++ done_line l.worlds.first) middle first_moves
  first_leaves said performs = record {
    world = l.worlds.first;
    lines = said;
    performs = performs;
    report_is = refl;
    released_is = l.middle_is;
    steps = l.first_steps;
    finish = l.first_finish;
    schedule_is = l.first_moves_are;
  }

  abbrev pub second_leaves : (p : IsPerformed (behind r l.worlds.first) l.worlds.second)
      → Leaves (behind r l.worlds.first) p.events (p.lines ++ done_line l.worlds.second) released second_moves
  second_leaves p = record {
    world = l.worlds.second;
    lines = p.lines;
    performs = p.performs;
    report_is = refl;
    released_is = l.released_is;
    steps = l.second_steps;
    finish = l.second_finish;
    schedule_is = l.second_moves_are;
  }

  pub keeps_both : KeepsBoth s r events middle released first_moves second_moves
  keeps_both =
      let h = stands s r events l.lines l.worlds l.performs in
      let p = first_alone s r events l.lines l.worlds l.performs in
      let k = keeps_one (behind r l.worlds.first) h.performed.events (h.performed.lines ++ done_line l.worlds.second)
      released second_moves (second_leaves h.performed) in record {
        worlds = l.worlds;
        first = keeps_one s (events_of 1 events) (p.0 ++ done_line l.worlds.first) middle first_moves
            (first_leaves p.0 p.1);
        second = subst (λ (packets : List Packet). KeepsOne (record r { packets = packets }) l.worlds.second released
            second_moves) (sym l.middle_is) k;
        waits_always = λ part rest is early c performs.
            let now = stands s r part early c performs in (
              waits_well s c.first now.sound,
              waits_well (behind r c.first) c.second (second_sound s r c now),
            );
      }

-- What is passed on

packets_grow : {V : Type 0} (w new : World V) → Grows w new
    → (more : List Packet) × (packets_of new.released ≡ packets_of w.released ++ more)
packets_grow w new g = (packets_of g.0, ap packets_of g.1 ∙ packets_added w.released g.0)

packets_stay : {V : Type 0} (w new : World V) → new ≡ w
    → (more : List Packet) × (packets_of new.released ≡ packets_of w.released ++ more)
packets_stay {V} w new same =
    ([], ap (λ (z : World V). packets_of z.released) same ∙ sym (append-nil (packets_of w.released)))

pub middle_grows : {V U : Type 0} (s : Setting V) (r : Setting U) (c : Chained V U) (ev : ChainEvent) (to : Outcome)
    (freed : List Sent) (new : Chained V U) → OnChain s r c ev to freed new
    → (more : List Packet) × (packets_of new.first.released ≡ packets_of c.first.released ++ more)
middle_grows s r c ev to freed new (inl (one, on, same)) =
    packets_grow c.first new.first (any_grows s c.first ev.event to freed new.first on)
middle_grows s r c ev to freed new (inr (two, on, same)) = packets_stay c.first new.first same

pub released_grow : {V U : Type 0} (s : Setting V) (r : Setting U) (c : Chained V U) (ev : ChainEvent) (to : Outcome)
    (freed : List Sent) (new : Chained V U) → OnChain s r c ev to freed new
    → (more : List Packet) × (packets_of new.second.released ≡ packets_of c.second.released ++ more)
released_grow s r c ev to freed new (inl (one, on, same)) = packets_stay c.second new.second same
released_grow s r c ev to freed new (inr (two, on, same)) =
    packets_grow c.second new.second (any_grows (behind r c.first) c.second ev.event to freed new.second on)
