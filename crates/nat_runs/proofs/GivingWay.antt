-- Idle mappings give way.
use Rattle.std.proofs.Common.{◌≡◌, ℕ, ◌+◌, ◌*◌, ◌-◌, ◌<◌, ◌≤◌, max, Bool, true, false, List, [], ◌∷◌, ◌++◌, refl, sym}
use Rattle.std.proofs.Common.{ap, ◌∙◌, subst, ◌⊎◌, inl, inr, arith, Option, Some, None}
use Rattle.std.specs.Prelude.{cond, nat_eq, ◌&&◌, ◌==◌, if◌then◌else◌, Ok}
use Rattle.std.proofs.lemmas.Bool.{cases_lt}
use Rattle.std.proofs.lemmas.Bool.Decides.{nat_tests}
use Rattle.plain_text.specs.declared.packet.Packet.{Packet}
use Rattle.entry_order.specs.Log.{Entry, places}
use Rattle.entry_order.specs.declared.what.What.{What}
use Rattle.entry_order.specs.declared.what.What.TheVariants.{Access as Accessed, Read as WasRead, Clock as Heard}
use Rattle.entry_order.specs.declared.what.What.TheVariants.{Draw as Drew}
use Rattle.entry_order.proofs.Order.{touch_only}
use Rattle.packet_headers.specs.View.{viewed}
use Rattle.plain_machine.specs.declared.local.Move.TheVariants.{Access}
use Rattle.plain_machine.specs.Machine.{Hand, Thread, Effect, Touches, Moves, held_move}
use Rattle.plain_machine.specs.History.{Act, Did, Step, act_of, entry_of, log_of, left_by, thread_after, value_after}
use Rattle.plain_machine.proofs.Histories.{is_eq}
use Rattle.plain_machine.proofs.Bounds.{values_fit}
use Rattle.nat_tables.specs.declared.entries.Endpoint.{Endpoint}
use Rattle.nat_tables.specs.declared.slot.Slot.{Slot}
use Rattle.nat_tables.specs.declared.phase.Phase.TheVariants.{Plain}
use Rattle.nat_tables.specs.declared.entries.Bind.{Bind}
use Rattle.nat_tables.specs.Keys.{same_endpoint}
use Rattle.nat_tables.specs.Forwards.{Forwards, is_idle, slot_of, first_idle, without, without_idle, refresh, refreshed}
use Rattle.nat_tables.specs.Forwards.{found_there, found, find, bound, find_or_bind, Misses, AreMappings}
use Rattle.nat_tables.specs.Hosts.{is_of_host, is_full, first_idle_of, given_up, found_within, find_within, bind_within}
use Rattle.nat_tables.proofs.Counting.{same_is}
use Rattle.flow_boxes.specs.Flows.{source_of}
use Rattle.flow_boxes.proofs.Fitting.{same_self}
use Rattle.flow_boxes.proofs.HeldInputs.{IsHeld, run_holds}
use Rattle.nat_box.specs.declared.place.Place.{Place}
use Rattle.nat_box.specs.declared.place.Noted.{Noted}
use Rattle.nat_box.specs.declared.value.NatValue.{NatValue}
use Rattle.nat_box.specs.declared.value.NatValue.TheVariants.{Mapped}
use Rattle.nat_box.specs.Places.{noted}
use Rattle.nat_box.specs.Settings.{Settings, AreSettings}
use Rattle.nat_box.specs.Nat.{flow_seen, touched_by, followed_by, followed, nat_meaning, MayMap, Fits}
use Rattle.nat_box.specs.Lawful.{nat_lawful}
use Rattle.nat_box.specs.Sentences.{Has, mappings_in}
use Rattle.nat_box.proofs.Making.{comes_to}
use Rattle.nat_box.proofs.SeenAs.{same_flow, flow_is_seen}
use Rattle.nat_runs.specs.Met.{Met, met_of}
use Rattle.nat_runs.specs.Idle.{IsIdle, IsLive}
use Rattle.nat_runs.specs.FullHosts.{has_drawn, HasChangedNothing}
use Rattle.nat_runs.specs.GivingWay.{AreDated, MayGiveWay, GiveWay, IdleGiveWay}
use Rattle.nat_runs.proofs.MarkedEntries.{followed_had}
use Rattle.nat_runs.proofs.Within.{by_bind, full_has, idle_of_host}
use Rattle.nat_runs.proofs.TableEntries.{idle_is, live_is, missed, slot_in, not_there, without_was, without_idle_was}
use Rattle.nat_runs.proofs.ThreadMoves.{TouchKind, finds, unbinds_freed, gives_freed, reserves, binds, finds_or_binds}
use Rattle.nat_runs.proofs.ThreadMoves.{unbinds_lost, gives_lost, counts, touch_kind, at, touched_below, by_move}
use Rattle.nat_runs.proofs.ThreadMoves.{entry_is}
use Rattle.nat_runs.proofs.Known.{IsBase, IsOnWay, KnownAt, Known}
use Rattle.nat_runs.proofs.Knowing.{run_known}
use Rattle.nat_runs.proofs.FullHosts.{FullAt, Full, run_full}

-- Which mappings are idle

idle_true : (now : ℕ) (e : Endpoint × Slot) → IsIdle now e.0 e.1 → is_idle now e ≡ true
idle_true now e idle = by (is_idle now e) refl
  where
    used : IsLive now e.0 e.1 → is_idle now e ≡ true
    used (inl kept) = absurd (idle.0 kept)
    used (inr later) = let past = idle.1 in absurd (omega (arith, later, past))

    by : (b : Bool) → is_idle now e ≡ b → is_idle now e ≡ true
    by true q = q
    by false q = used (live_is now e q)

none_idle : (now : ℕ) (es : Forwards) (e : Endpoint × Slot) → first_idle now es ≡ None → Has es e
    → is_idle now e ≡ true → ⊥
none_idle now [] e none h idle = absurd h
none_idle now (x ∷ es) e none h idle = by (is_idle now x) refl none h (λ q k. none_idle now es e q k idle)
  where
    by : (b : Bool) → is_idle now x ≡ b → (if b then Some x else first_idle now es) ≡ None → Has (x ∷ es) e
        → (first_idle now es ≡ None → Has es e → ⊥) → ⊥
    by true q none h rest = absurd (cc)
    by false q none (inl p) rest =
        let same : is_idle now x ≡ true = subst (λ (z : Endpoint × Slot). is_idle now z ≡ true) (sym p) idle in
        absurd (cc)
    by false q none (inr h) rest = rest none h

none_of_host_idle : (key : Endpoint) (now : ℕ) (es : Forwards) (e : Endpoint × Slot) → first_idle_of key now es ≡ None
    → Has es e → is_of_host key.protocol key.address e.0 ≡ true → is_idle now e ≡ true → ⊥
none_of_host_idle key now [] e none h of idle = absurd h
none_of_host_idle key now (x ∷ es) e none h of idle =
    by (is_of_host key.protocol key.address x.0) (is_idle now x) refl refl none h
    (λ q k. none_of_host_idle key now es e q k of idle)
  where
    by : (a b : Bool) → is_of_host key.protocol key.address x.0 ≡ a → is_idle now x ≡ b
        → (if a && b then Some x else first_idle_of key now es) ≡ None → Has (x ∷ es) e
        → (first_idle_of key now es ≡ None → Has es e → ⊥) → ⊥
    by true true p q none h rest = absurd (cc)
    by true false p q none (inl r) rest =
        let same : is_idle now x ≡ true = subst (λ (z : Endpoint × Slot). is_idle now z ≡ true) (sym r) idle in
        absurd (cc)
    by true false p q none (inr h) rest = rest none h
    by false b p q none (inl r) rest =
        let same : is_of_host key.protocol key.address x.0 ≡ true =
        subst (λ (z : Endpoint × Slot). is_of_host key.protocol key.address z.0 ≡ true) (sym r) of in
        absurd (cc)
    by false b p q none (inr h) rest = rest none h

first_has : (now : ℕ) (es : Forwards) (e : Endpoint × Slot) → first_idle now es ≡ Some e
    → Has es e × (is_idle now e ≡ true)
first_has now [] e q = absurd (cc)
first_has now (x ∷ es) e q = by (is_idle now x) refl q (first_has now es e)
  where
    by : (b : Bool) → is_idle now x ≡ b → (if b then Some x else first_idle now es) ≡ Some e
        → (first_idle now es ≡ Some e → Has es e × (is_idle now e ≡ true)) → Has (x ∷ es) e × (is_idle now e ≡ true)
    by true i q rest =
        let same : x ≡ e = cc in (inl same, subst (λ (z : Endpoint × Slot). is_idle now z ≡ true) same i)
    by false i q rest = let r = rest q in (inr r.0, r.1)

-- What was removed is gone

module _ (May : Endpoint → Slot → Type 0) where
  missed_own : (es : Forwards) (key : Endpoint) (slot : Slot) → Misses es key → Has es (key, slot) → ⊥
  missed_own es key slot misses h =
      let apart : same_endpoint key key ≡ false = missed es key (key, slot) misses h in
      let same : same_endpoint key key ≡ true = same_self key in
      absurd (cc)

  gone : (es : Forwards) (key : Endpoint) (slot : Slot) → AreMappings May es → Has (without key es) (key, slot) → ⊥
  gone [] key slot all h = absurd h
  gone (x ∷ es) key slot all h = by (same_endpoint key x.0) refl h (λ k. gone es key slot all.2 k)
    where
      by : (b : Bool) → same_endpoint key x.0 ≡ b → Has (if b then es else x ∷ without key es) (key, slot)
          → (Has (without key es) (key, slot) → ⊥) → ⊥
      by true q h rest =
          missed_own es key slot (subst (λ (own : Endpoint). Misses es own) (sym (same_is key x.0 q)) all.1) h
      by false q (inl p) rest =
          let same : same_endpoint key x.0 ≡ true =
          subst (λ (z : Endpoint × Slot). same_endpoint key z.0 ≡ true) (sym p) (same_self key) in
          absurd (cc)
      by false q (inr h) rest = rest h

  idle_gone : (now : ℕ) (es : Forwards) (e : Endpoint × Slot) (slot : Slot) → AreMappings May es
      → first_idle now es ≡ Some e → Has (without_idle now es) (e.0, slot) → ⊥
  idle_gone now [] e slot all first h = absurd h
  idle_gone now (x ∷ es) e slot all first h =
      by (is_idle now x) first h (λ q k. idle_gone now es e slot all.2 q k)
    where
      by : (b : Bool) → (if b then Some x else first_idle now es) ≡ Some e
          → Has (if b then es else x ∷ without_idle now es) (e.0, slot)
          → (first_idle now es ≡ Some e → Has (without_idle now es) (e.0, slot) → ⊥) → ⊥
      by true q h rest =
          let same : x ≡ e = cc in
          missed_own es e.0 slot (subst (λ (z : Endpoint × Slot). Misses es z.0) same all.1) h
      by false q (inl p) rest =
          let own : x.0 ≡ e.0 = ap (λ (z : Endpoint × Slot). z.0) p in
          missed_own es e.0 e.1 (subst (λ (k : Endpoint). Misses es k) own all.1) (first_has now es e q).0
      by false q (inr h) rest = rest q h

-- When a mapping was last used

later_or : (last now : ℕ) → (max last now ≡ now) ⊎ ((max last now ≡ last) × (now ≤ last))
later_or last now = by (cases_lt last now)
  where
    by : (last < now) ⊎ (now ≤ last) → (max last now ≡ now) ⊎ ((max last now ≡ last) × (now ≤ last))
    by (inl less) = inl (omega (arith, less))
    by (inr more) = inr (omega (arith, more), more)

abbrev IsDated : Endpoint → ℕ → Forwards → ℕ → Type 0
IsDated key now es last =
    (last ≡ now) ⊎ ((old : Slot) × Has es (key, old) × (last ≡ old.last) × (now ≤ old.last))

module _ (May : Endpoint → Slot → Type 0) (key : Endpoint) (now : ℕ) where
  refresh_dated : (es : Forwards) (slot : Slot) → AreMappings May es → Has (refresh key now es) (key, slot)
      → IsDated key now es slot.last
  refresh_dated [] slot all h = absurd h
  refresh_dated (x ∷ es) slot all h =
      by (same_endpoint key x.0) refl h (λ k. refresh_dated es slot all.2 k)
    where
      on : IsDated key now es slot.last → IsDated key now (x ∷ es) slot.last
      on (inl k) = inl k
      on (inr k) = inr (k.0, inr k.1, k.2, k.3)

      by : (b : Bool) → same_endpoint key x.0 ≡ b
          → Has (if b then (x.0, refreshed now x.1) ∷ es else x ∷ refresh key now es) (key, slot)
          → (Has (refresh key now es) (key, slot) → IsDated key now es slot.last) → IsDated key now (x ∷ es) slot.last
      by true q (inl p) rest = use_of (later_or x.1.last now)
        where
          last : max x.1.last now ≡ slot.last
          last = ap (λ (z : Endpoint × Slot). z.1.last) p

          own : x.0 ≡ key
          own = sym (same_is key x.0 q)

          use_of : (max x.1.last now ≡ now) ⊎ ((max x.1.last now ≡ x.1.last) × (now ≤ x.1.last))
              → IsDated key now (x ∷ es) slot.last
          use_of (inl k) = inl (sym last ∙ k)
          use_of (inr k) = inr (x.1, inl (λ i. (own i, x.1)), sym last ∙ k.0, k.1)
      by true q (inr h) rest =
          absurd (missed_own May es key slot (subst (λ (k : Endpoint). Misses es k) (sym (same_is key x.0 q)) all.1) h)
      by false q (inl p) rest =
          let same : same_endpoint key x.0 ≡ true =
          subst (λ (z : Endpoint × Slot). same_endpoint key z.0 ≡ true) (sym p) (same_self key) in
          absurd (cc)
      by false q (inr h) rest = on (rest h)

  added_dated : (slot new : Slot) (es : Forwards) → slot_of key es ≡ None → new.last ≡ now
      → Has (es ++ (key, new) ∷ []) (key, slot) → slot.last ≡ now
  added_dated slot new [] none dated (inl p) = ap (λ (z : Endpoint × Slot). z.1.last) (sym p) ∙ dated
  added_dated slot new [] none dated (inr h) = absurd h
  added_dated slot new (x ∷ es) none dated (inl p) = absurd (not_there key (x ∷ es) none slot (inl p))
  added_dated slot new (x ∷ es) none dated (inr h) =
      by (same_endpoint key x.0) none (λ q. added_dated slot new es q dated h)
    where
      by : (b : Bool) → (if b then Some x.1 else slot_of key es) ≡ None → (slot_of key es ≡ None → slot.last ≡ now)
          → slot.last ≡ now
      by true none rest = absurd (cc)
      by false none rest = rest none

-- A find, and a bind, before the segment is noted
module _ (May : Endpoint → Slot → Type 0) (limit : Option ℕ) (key : Endpoint) (now : ℕ) (es : Forwards)
    (all : AreMappings May es) where
  abbrev Found : Forwards → Type 0
  Found after = AreDated key now es after × GiveWay limit key now es after

  -- where the source has none, all that is left was there
  absent : (after : Forwards) → slot_of key es ≡ None → ((e : Endpoint × Slot) → Has after e → Has es e)
      → ((e : Endpoint × Slot) → Has es e → IsIdle now e.0 e.1 → MayGiveWay limit key es e.0
      → (gone : Endpoint × Slot) × Has es gone × IsIdle now gone.0 gone.1
      × ((slot : Slot) → Has after (gone.0, slot) → ⊥)) → Found after
  absent after none was other = (
    λ slot h. absurd (not_there key es none slot (was (key, slot) h)),
    record {
      own = λ slot h. absurd (not_there key es none slot (was (key, slot) h));
      other = λ missing e h idle may. other e h idle may;
    },
  )

  there : (slot : Slot) (idle : Bool) → slot_of key es ≡ Some slot → is_idle now (key, slot) ≡ idle
      → Found (found_there key now es slot idle).1
  there slot true q i = (
    λ later h. absurd (gone May es key later all h),
    record {
      own = λ later h. absurd (gone May es key later all h);
      other = λ missing e h idle may. absurd (missing slot (slot_in key slot es q));
    },
  )
  there slot false q i = (
    λ later h. refresh_dated May key now es later all h,
    record {
      own = λ later h. (slot, slot_in key slot es q, live_is now (key, slot) i);
      other = λ missing e h idle may. absurd (missing slot (slot_in key slot es q));
    },
  )

  first : (b : Option (Endpoint × Slot)) → slot_of key es ≡ None → first_idle now es ≡ b
      → Found (found key now es None b).1
  first (Some e) none q =
      absent (without_idle now es) none (λ f h. without_idle_was now es f h)
      (λ f h idle may. (
        e,
        (first_has now es e q).0,
        idle_is now e (first_has now es e q).1,
        λ slot h. idle_gone May now es e slot all q h,
      ))
  first None none q =
      absent es none (λ f h. h) (λ f h idle may. absurd (none_idle now es f q h (idle_true now f idle)))

  pub find_gives : (a : Option Slot) → slot_of key es ≡ a → Found (found key now es a (first_idle now es)).1
  find_gives (Some slot) q = there slot (is_idle now (key, slot)) q refl
  find_gives None q = first (first_idle now es) q refl

  pub bind_dated : (port : ℕ) (a : Option Slot) → slot_of key es ≡ a → AreDated key now es (bound key port now es a).1
  bind_dated port (Some slot) q = λ later h. refresh_dated May key now es later all h
  bind_dated port None q =
      λ later h. inl (added_dated May key now later (record { port = port; last = now; phase = Plain }) es q refl h)

  plain_find : Found (find key now es).1
  plain_find = find_gives (slot_of key es) refl

-- the same where hosts have a limit
module _ (May : Endpoint → Slot → Type 0) (most : ℕ) (key : Endpoint) (now : ℕ) (es : Forwards)
    (all : AreMappings May es) where
  of_host_true : (own : Endpoint) → (own.protocol ≡ key.protocol) × (own.address ≡ key.address)
      → is_of_host key.protocol key.address own ≡ true
  of_host_true own same =
      let a : (own.protocol == key.protocol) ≡ true = (let p = same.0 in grind (arith, nat_tests)) in
      let b : (own.address == key.address) ≡ true = (let q = same.1 in grind (arith, nat_tests)) in
      rw (a, b) refl

  full : (b : Option (Endpoint × Slot)) → slot_of key es ≡ None → is_full most key es ≡ true
      → first_idle_of key now es ≡ b → Found May (Some most) key now es all (given_up es b).1
  full (Some e) none is q =
      absent May (Some most) key now es all (without e.0 es) none (λ f h. without_was e.0 es f h)
      (λ f h idle may. (
        e,
        (idle_of_host key now es e q).0,
        idle_is now e (idle_of_host key now es e q).1,
        λ slot h. gone May es e.0 slot all h,
      ))
  full None none is q =
      absent May (Some most) key now es all es none (λ f h. h)
      (λ f h idle may.
      absurd (none_of_host_idle key now es f q h (of_host_true f.0 (may (full_has most key es is)))
      (idle_true now f idle)))

  pub within_gives : (a : Option Slot) → slot_of key es ≡ a
      → Found May (Some most) key now es all (found_within most key now es a).1
  within_gives (Some slot) q = plain_find May (Some most) key now es all
  within_gives None q = by (is_full most key es) refl
    where
      by : (b : Bool) → is_full most key es ≡ b
          → Found May (Some most) key now es all
          (if b then given_up es (first_idle_of key now es) else find key now es).1
      by true is = full (first_idle_of key now es) q is refl
      by false is = plain_find May (Some most) key now es all

-- and after the segment was noted
module _ (limit c : Option ℕ) (n : Noted) (es after : Forwards) where
  dated_on : AreDated n.source n.time es after → AreDated n.source n.time es (followed_by c n after)
  dated_on dated slot h =
      let old = followed_had c n after n.source slot h in
      subst (λ (last : ℕ). IsDated n.source n.time es last) (sym old.2) (dated old.0 old.1)

  give_on : GiveWay limit n.source n.time es after → GiveWay limit n.source n.time es (followed_by c n after)
  give_on way = record {
    own = λ slot h. let old = followed_had c n after n.source slot h in way.own old.0 old.1;
    other = λ missing e h idle may.
        let g = way.other missing e h idle may in (
          g.0,
          g.1,
          g.2,
          λ slot h. let old = followed_had c n after g.0.0 slot h in g.3 old.0 old.1,
        );
  }

-- Each touch
module _ (s : Settings) (m : Met) (p : Packet) (U : Type 0) (d : Bool) (v : ℕ) where
  abbrev Gives : NatValue → Noted → NatValue → Type 0
  Gives x n left =
      IsOnWay s m p n × AreDated n.source n.time (mappings_in x) (mappings_in left)
      × (d ≡ false → GiveWay s.limit n.source n.time (mappings_in x) (mappings_in left))

  give : (n : Noted) (es after : Forwards) → IsOnWay s m p n
      → AreDated n.source n.time es after × GiveWay s.limit n.source n.time es after
      → Gives (Mapped es) n (Mapped (followed_by s.closing n after))
  give n es after k both = (
    k,
    dated_on s.limit s.closing n es after both.0,
    λ first. give_on s.limit s.closing n es after both.1,
  )

  bind : (n : Noted) (es after : Forwards) → IsOnWay s m p n → d ≡ true → AreDated n.source n.time es after
      → Gives (Mapped es) n (Mapped (followed_by s.closing n after))
  bind n es after k drew dated = (
    k,
    dated_on s.limit s.closing n es after dated,
    λ first. let both : true ≡ false = sym drew ∙ first in absurd (cc),
  )

  touch_gives : (place : Place) (x : NatValue) (n : Noted) (limit : Option ℕ) → s.limit ≡ limit → TouchKind place x
      → (es : Forwards) → x ≡ Mapped es → Fits s v x → KnownAt s m p place n → FullAt s m U d place n
      → Gives x n (followed s n (touched_by limit place x n).0)
  touch_gives _ _ n None limit (finds es) fs is fits k full =
      give n es (find n.source n.time es).1 k (plain_find (MayMap s v) s.limit n.source n.time es fits.2)
  touch_gives _ _ n (Some most) limit (finds es) fs is fits k full =
      give n es (find_within most n.source n.time es).1 k
      (subst (λ (l : Option ℕ). AreDated n.source n.time es (find_within most n.source n.time es).1
      × GiveWay l n.source n.time es (find_within most n.source n.time es).1) (sym limit)
      (within_gives (MayMap s v) most n.source n.time es fits.2 (slot_of n.source es) refl))
  touch_gives _ _ n limit same (unbinds_freed bs) fs is fits k full = absurd (cc)
  touch_gives _ _ n limit same (gives_freed pool) fs is fits k full = absurd (cc)
  touch_gives _ _ n limit same (reserves pool) fs is fits k full = absurd (cc)
  touch_gives _ _ n limit same (binds bs) fs is fits k full = absurd (cc)
  touch_gives _ _ n None limit (finds_or_binds es) fs is fits k full =
      bind n es (find_or_bind n.source n.port n.time es).1 k full
      (bind_dated (MayMap s v) s.limit n.source n.time es fits.2 n.port (slot_of n.source es) refl)
  touch_gives _ _ n (Some most) limit (finds_or_binds es) fs is fits k full =
      bind n es (bind_within most n.source n.port n.time es).1 k full
      (by_bind most n.source n.time es n.port
      (λ (r : Option Bind × Forwards). AreDated n.source n.time es r.1)
      (bind_dated (MayMap s v) s.limit n.source n.time es fits.2 n.port (slot_of n.source es) refl)
      (λ none full slot h. absurd (not_there n.source es none slot h)))
  touch_gives _ _ n limit same (unbinds_lost bs) fs is fits k full = absurd (cc)
  touch_gives _ _ n limit same (gives_lost pool) fs is fits k full = absurd (cc)
  touch_gives _ _ n limit same (counts drops) fs is fits k full = absurd (cc)

-- Of a step
module _ (s : Settings) (is : AreSettings s) (packets : List Packet) (value : ℕ → NatValue) (t : ℕ)
    (earlier : List (Step NatValue)) (taken taken_then : ℕ)
    (fits : (v : ℕ) → v < 2 + 2 * s.shards → Fits s v (value v)) (m : Met) (U : Type 0) (d : Bool) (entry : Entry)
    (left : Option NatValue) (v place : ℕ) (what : entry.what ≡ Accessed v place) (es : Forwards)
    (table : value v ≡ Mapped es) where
  abbrev Looks : Option Hand → Option Hand → Effect NatValue → Type 0
  Looks before after e =
      Known s m before → Full s m U d before → act_of t earlier taken_then e ≡ Did entry left
      → (h : Hand) × (before ≡ Some h)
      × Gives s m h.packet U d v (value v) (noted h.place) (left_by v (act_of t earlier taken_then e) (value v))

  at_touch : (h : Hand) (w : ℕ) (after : NatValue)
      → after ≡ followed s (noted h.place) (touched_by s.limit (at h) (value w) (noted h.place)).0
      → comes_to s h (Access w) → Known s m (Some h) → Full s m U d (Some h)
      → act_of t earlier taken_then (Touches w after) ≡ Did entry left
      → Gives s m h.packet U d v (value v) (noted h.place) (cond (nat_eq w v) after (value v))
  at_touch h w after q move k full e =
      let this : Entry = entry_of t (log_of earlier) (Accessed w (places w (log_of earlier) + 1)) in
      let both : Accessed w (places w (log_of earlier) + 1) ≡ Accessed v place =
      entry_is this entry (Some after) left e ∙ what in
      let one : w ≡ v = (touch_only _ _ _ _ both).0 in
      let below = touched_below s is h w move in
      let kind = touch_kind s is.some (noted h.place) w (value w) (fits w below) (at h) move in
      let g : Gives s m h.packet U d w (value w) (noted h.place) after =
      subst (Gives s m h.packet U d w (value w) (noted h.place)) (sym q)
      (touch_gives s m h.packet U d w (at h) (value w) (noted h.place) s.limit refl kind es (ap value one ∙ table)
      (fits w below) k full) in
      subst (λ (b : Bool). Gives s m h.packet U d v (value v) (noted h.place) (cond b after (value v)))
      (sym (is_eq w v one)) (subst (λ (u : ℕ). Gives s m h.packet U d u (value u) (noted h.place) after) one g)

  not_read : (w after : ℕ) → WasRead w after ≡ Accessed v place → ⊥
  not_read w after e = absurd (cc)

  not_heard : (a : ℕ) → Heard a ≡ Accessed v place → ⊥
  not_heard a e = absurd (cc)

  not_drew : (a : ℕ) → Drew a ≡ Accessed v place → ⊥
  not_drew a e = absurd (cc)

  what_of : (w : What) → Did (entry_of t (log_of earlier) w) None ≡ Did entry left → w ≡ Accessed v place
  what_of w e = entry_is (entry_of t (log_of earlier) w) entry None left e ∙ what

  move_gives : (after : Thread) (e : Effect NatValue) (hand : Option Hand) (a : Option ℕ)
      → held_move (nat_meaning s) packets value taken a hand ≡ Moves after e → Looks hand after.hand e
  move_gives after e hand a move = by_move s packets value taken Looks (λ p input k u e. absurd (cc)) (λ h w c k u e. (
    h,
    refl,
    at_touch h w (followed s (noted h.place) (touched_by s.limit (at h) (value w) (noted h.place)).0) refl c k u e,
  )) (λ h w c k u e. absurd (not_read w (places w (log_of earlier)) (what_of (WasRead w (places w (log_of earlier)))
      e)))
      (λ h x c k u e. absurd (not_heard x (what_of (Heard x) e)))
      (λ h x c k u e. absurd (not_drew x (what_of (Drew x) e))) (λ h c k u e. absurd (cc)) (λ h c k u e. absurd (cc))
      after e hand a move

pub idle_give_way : IdleGiveWay
idle_give_way s threads inputs x earlier entry left v place h flow es is bytes run act what there viewed_as table =
    let fits = values_fit (nat_meaning s) (Fits s) (nat_lawful s is) inputs threads earlier run.1 in
    let m : Met = met_of s x.thread earlier in
    let value : ℕ → NatValue = value_after (nat_meaning s) earlier in
    let before : Thread = thread_after earlier x.thread in
    let c = move_gives s is (inputs x.thread) value x.thread earlier before.taken x.after.taken fits m
    (HasChangedNothing s x.thread earlier) (has_drawn x.thread earlier) entry left v place what es table x.after run.0.2
    before.hand run.0.1 run.0.3 (run_known s threads inputs earlier is run.1 x.thread)
    (run_full s threads inputs earlier is run.1 x.thread) (sym run.0.4 ∙ act) in
    let same : c.0 ≡ h = (let both : Some c.0 ≡ Some h = sym c.1 ∙ there in cc) in
    let held : IsHeld (inputs x.thread) before.taken (Some c.0) =
    subst (IsHeld (inputs x.thread) before.taken) c.1
    (run_holds (nat_meaning s) threads inputs earlier run.1 x.thread) in
    let n : Noted = noted c.0.place in
    let seen : viewed c.0.packet.bytes c.0.packet.original ≡ Ok flow =
    subst (λ (g : Hand). viewed g.packet.bytes g.packet.original ≡ Ok flow) (sym same) viewed_as in
    let base : IsBase s c.0.packet n = c.2.0.0 in
    let one : base.flow ≡ flow =
    same_flow (flow_seen s c.0.packet) base.flow flow base.seen (flow_is_seen s c.0.packet flow seen) in
    let source : n.source ≡ source_of flow =
    base.source (bytes x.thread (before.taken - 1) c.0.packet held.1) ∙ ap source_of one in
    let after : left_by v (act_of x.thread earlier x.after.taken run.0.2) (value v) ≡ left_by v x.act (value v) =
    ap (λ (y : Act NatValue). left_by v y (value v)) (sym run.0.4) in
    let given = subst (λ (left : NatValue).
    AreDated n.source n.time (mappings_in (value v)) (mappings_in left)
    × (has_drawn x.thread earlier ≡ false → GiveWay s.limit n.source n.time (mappings_in (value v)) (mappings_in left)))
    after (c.2.1, c.2.2) in
    let own = subst (λ (key : Endpoint).
    AreDated key n.time (mappings_in (value v)) (mappings_in (left_by v x.act (value v)))
    × (has_drawn x.thread earlier ≡ false
    → GiveWay s.limit key n.time (mappings_in (value v)) (mappings_in (left_by v x.act (value v))))) source given in
    let all = subst (λ (y : NatValue).
    AreDated (source_of flow) n.time (mappings_in y) (mappings_in (left_by v x.act (value v)))
    × (has_drawn x.thread earlier ≡ false
    → GiveWay s.limit (source_of flow) n.time (mappings_in y) (mappings_in (left_by v x.act (value v))))) table own in
    (n.time, c.2.0.1, all.0, all.1)
