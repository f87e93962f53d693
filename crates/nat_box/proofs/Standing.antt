-- Each port stands in its one place after each move of each run.
use Rattle.std.proofs.Common.{◌≡◌, ◌≢◌, ℕ, ◌+◌, ◌*◌, ◌<◌, ◌≤◌, Bool, true, false, List, [], ◌∷◌, refl, sym, ap, ◌∙◌}
use Rattle.std.proofs.Common.{subst, arith, Option, Some, None}
use Rattle.std.specs.Prelude.{nat_eq, cond, ◌==◌, ◌&&◌}
use Rattle.std.proofs.lemmas.Bool.{eqb-true}
use Rattle.std.proofs.lemmas.Bool.Decides.{nat_tests}
use Rattle.plain_text.specs.declared.packet.Packet.{Packet}
use Rattle.entry_order.specs.Stamps.{sum_below}
use Rattle.plain_machine.specs.Machine.{Hand, Thread, Effect, Takes, Touches, Looks, HearsClock, HearsDraw, Sends, Ends}
use Rattle.plain_machine.specs.History.{Step, act_of, left_by, thread_after, value_after}
use Rattle.plain_machine.proofs.Histories.{not_eq, is_eq}
use Rattle.plain_machine.proofs.Bounds.{values_fit}
use Rattle.nat_tables.specs.declared.entries.Endpoint.{Endpoint}
use Rattle.nat_tables.specs.declared.entries.PortKey.{PortKey}
use Rattle.nat_tables.specs.Ports.{one_if, has_port}
use Rattle.nat_tables.specs.Keys.{same_endpoint, same_port, port_key}
use Rattle.nat_tables.proofs.Counting.{total_below}
use Rattle.nat_box.specs.declared.place.Place.{Place}
use Rattle.nat_box.specs.declared.place.Place.TheVariants.{HearsTime, FindsMapping, UnbindsFreed, GivesBackFreed}
use Rattle.nat_box.specs.declared.place.Place.TheVariants.{DrawsWord, ReservesPort, BindsPort, FindsOrBinds}
use Rattle.nat_box.specs.declared.place.Place.TheVariants.{UnbindsLost, GivesBackLost, FindsEndpoint, AsksIfLives}
use Rattle.nat_box.specs.declared.place.Place.TheVariants.{CountsDrop, SendsOut, Ends as AtEnd, FindsPort}
use Rattle.nat_box.specs.declared.place.Noted.{Noted}
use Rattle.nat_box.specs.declared.value.NatValue.{NatValue}
use Rattle.nat_box.specs.declared.value.NatValue.TheVariants.{Dropped, Free, Mapped, Taken}
use Rattle.nat_box.specs.Places.{place_numbered, noted, source_key}
use Rattle.nat_box.specs.declared.place.Goes.{Goes}
use Rattle.nat_box.specs.Settings.{Settings, AreSettings}
use Rattle.nat_box.specs.Nat.{touched_by, followed, reverse_table, local_at, fresh_value, nat_meaning, Fits}
use Rattle.nat_box.specs.Noting.{place_again, IsNoted, is_noted, noted_again}
use Rattle.nat_box.specs.Ranks.{var_of, touches_it, below_all}
use Rattle.nat_box.specs.Lawful.{nat_lawful}
use Rattle.nat_box.specs.PortStanding.{free_at, maps, maps_for, mapped_at, binds, binds_for, taken_at, bare, queued}
use Rattle.nat_box.specs.PortStanding.{queued_for, loose, in_values, in_hand, in_hands, Tally, tally_of, IsSound}
use Rattle.nat_box.specs.PortStanding.{places_of, PortsStand}
use Rattle.nat_box.specs.Statics.{kept, outside_ports}
use Rattle.nat_box.specs.StaticLaws.{kept_apart}
use Rattle.nat_box.proofs.StaticPlaces.{places_one, range_left, fresh_mapped, fresh_taken, ports_once, fresh_free}
use Rattle.flow_boxes.proofs.Summing.{one_changes, sum_of_none, term_of_sum, sums_below}
use Rattle.nat_box.proofs.Effects.{holds_none, seen, Shifts, IsPart, IsUnder, Own, limited_sound}
use Rattle.nat_box.proofs.Following.{seen_followed}
use Rattle.nat_box.proofs.Noting.{touched_noted}
use Rattle.nat_box.specs.LimitLaws.{touch_comes}
use Rattle.nat_box.proofs.Moving.{HandNone, touching, Outcome, outcome}

-- a hand that goes on as this: its numbers are those of where it goes
hand_number : (number : Place → Noted → ℕ) (p : Packet) (g : Goes) → IsNoted g.noted
    → in_hand number (Some (record { packet = p; place = local_at g })) ≡ number g.place g.noted
hand_number number p g is =
    let a : place_numbered (local_at g).at ≡ g.place = place_again g.place in
    let b : noted (local_at g) ≡ g.noted = noted_again g.place g.noted is in
    rw (a, b) refl

pub for_below : (a b : Bool) → one_if (a && b) ≤ one_if a
for_below true true = omega arith
for_below true false = omega arith
for_below false b = omega arith

queued_below : (k : PortKey) (e : Endpoint) (p : Place) (n : Noted) → queued_for k e p n ≤ queued k p n
queued_below k e HearsTime n = omega arith
queued_below k e FindsMapping n = omega arith
queued_below k e UnbindsFreed n = omega arith
queued_below k e GivesBackFreed n = omega arith
queued_below k e DrawsWord n = omega arith
queued_below k e ReservesPort n = omega arith
queued_below k e BindsPort n = omega arith
queued_below k e FindsOrBinds n = for_below (same_port k (source_key n)) (same_endpoint e n.source)
queued_below k e UnbindsLost n = omega arith
queued_below k e GivesBackLost n = omega arith
queued_below k e FindsEndpoint n = omega arith
queued_below k e AsksIfLives n = omega arith
queued_below k e CountsDrop n = omega arith
queued_below k e SendsOut n = omega arith
queued_below k e AtEnd n = omega arith
queued_below k e FindsPort n = omega arith

mapped_below : (k : PortKey) (e : Endpoint) (x : NatValue) → mapped_at (maps_for k e) x ≤ mapped_at (maps k) x
mapped_below k e (Dropped d) = omega arith
mapped_below k e (Free pool) = omega arith
mapped_below k e (Mapped es) = total_below (maps_for k e) (maps k) es
    (λ key port. for_below (same_port k (port_key key.protocol port)) (same_endpoint e key))
mapped_below k e (Taken bs) = omega arith

hand_below : (k : PortKey) (e : Endpoint) (h : Option Hand) → in_hand (queued_for k e) h ≤ in_hand (queued k) h
hand_below k e None = omega arith
hand_below k e (Some h) = queued_below k e (place_numbered h.place.at) (noted h.place)

free_numbers : (k : PortKey) (e : Endpoint) (h : Option Hand) → HandNone h
    → (in_hand (bare k) h ≡ 0) × (in_hand (queued k) h ≡ 0) × (in_hand (queued_for k e) h ≡ 0)
    × (in_hand (loose k) h ≡ 0)
free_numbers k e None h = (refl, refl, refl, refl)
free_numbers k e (Some x) h = holds_none k e (place_numbered x.place.at) (noted x.place) h

module _ (s : Settings) (is : AreSettings s) (threads : ℕ) (k : PortKey) (e : Endpoint) (value : ℕ → NatValue)
    (thread : ℕ → Thread) where
  under : IsUnder (tally_of s threads k e value thread)
  under = record {
    mapped = sums_below (2 + 2 * s.shards) (λ v. mapped_at (maps_for k e) (value v)) (λ v. mapped_at (maps k) (value v))
        (λ v. mapped_below k e (value v));
    queued = sums_below threads (λ t. in_hand (queued_for k e) (thread t).hand)
        (λ t. in_hand (queued k) (thread t).hand) (λ t. hand_below k e (thread t).hand);
  }

  -- a move of one thread
  module _ (t : ℕ) (after : Thread) (low : t < threads) where
    abbrev next_thread : ℕ → Thread
    next_thread u = cond (nat_eq t u) after (thread u)

    hands_step : (number : Place → Noted → ℕ)
        → in_hands number threads next_thread + in_hand number (thread t).hand
        ≡ in_hands number threads thread + in_hand number after.hand
    hands_step number =
        let f : ℕ → ℕ = λ u. in_hand number (next_thread u).hand in
        let g : ℕ → ℕ = λ u. in_hand number (thread u).hand in
        let one : sum_below threads f + g t ≡ sum_below threads g + f t =
        one_changes threads t f g low (λ u h. rw (not_eq t u (λ q. h (sym q))) refl) in
        let new : f t ≡ in_hand number after.hand = rw (is_eq t t refl) refl in
        omega arith

    -- that touches nothing
    still_sound : HandNone (thread t).hand → HandNone after.hand
        → IsSound (places_of s k) (tally_of s threads k e value thread)
        → IsSound (places_of s k) (tally_of s threads k e value next_thread)
    still_sound before later sound =
        let x = free_numbers k e (thread t).hand before in
        let y = free_numbers k e after.hand later in
        let b : in_hands (bare k) threads next_thread ≡ in_hands (bare k) threads thread =
        omega (arith, hands_step (bare k), x.0, y.0) in
        let q : in_hands (queued k) threads next_thread ≡ in_hands (queued k) threads thread =
        omega (arith, hands_step (queued k), x.1, y.1) in
        let qf : in_hands (queued_for k e) threads next_thread ≡ in_hands (queued_for k e) threads thread =
        omega (arith, hands_step (queued_for k e), x.2, y.2) in
        let l : in_hands (loose k) threads next_thread ≡ in_hands (loose k) threads thread =
        omega (arith, hands_step (loose k), x.3, y.3) in
        record {
          one = omega (arith, sound.one, b, q, l);
          bound = omega (arith, sound.bound, q, l);
          same = omega (arith, sound.same, qf);
        }

    -- that touches a variable
    module _ (w : ℕ) (left : NatValue) (below : w < 2 + 2 * s.shards) where
      abbrev next_value : ℕ → NatValue
      next_value v = cond (nat_eq w v) left (value v)

      values_step : (number : NatValue → ℕ)
          → in_values s number next_value + number (value w) ≡ in_values s number value + number left
      values_step number =
          let f : ℕ → ℕ = λ v. number (next_value v) in
          let g : ℕ → ℕ = λ v. number (value v) in
          let one : sum_below (2 + 2 * s.shards) f + g w ≡ sum_below (2 + 2 * s.shards) g + f w =
          one_changes (2 + 2 * s.shards) w f g below (λ v h. rw (not_eq w v (λ q. h (sym q))) refl) in
          let new : f w ≡ number left = rw (is_eq w w refl) refl in
          omega arith

      -- the values and the hands of a touch
      module _ (p : Place) (n : Noted) (g : Goes)
          (was : (number : Place → Noted → ℕ) → in_hand number (thread t).hand ≡ number p n)
          (goes_on : (number : Place → Noted → ℕ) → in_hand number after.hand ≡ number g.place g.noted) where
        shifts : Shifts (tally_of s threads k e value thread) (tally_of s threads k e next_value next_thread)
            (seen k e (value w) p n) (seen k e left g.place g.noted)
        shifts = record {
          free = values_step (free_at k);
          mapped = values_step (mapped_at (maps k));
          mapped_for = values_step (mapped_at (maps_for k e));
          bare = omega (arith, hands_step (bare k), was (bare k), goes_on (bare k));
          queued = omega (arith, hands_step (queued k), was (queued k), goes_on (queued k));
          queued_for = omega (arith, hands_step (queued_for k e), was (queued_for k e), goes_on (queued_for k e));
          loose = omega (arith, hands_step (loose k), was (loose k), goes_on (loose k));
        }

        hand_part : (number : Place → Noted → ℕ) → number p n ≤ in_hands number threads thread
        hand_part number =
            let a = term_of_sum threads t (λ u. in_hand number (thread u).hand) low in omega (arith, was number)

        part : IsPart (seen k e (value w) p n) (tally_of s threads k e value thread)
        part = record {
          free = term_of_sum (2 + 2 * s.shards) w (λ v. free_at k (value v)) below;
          mapped = term_of_sum (2 + 2 * s.shards) w (λ v. mapped_at (maps k) (value v)) below;
          bare = hand_part (bare k);
          queued = hand_part (queued k);
          loose = hand_part (loose k);
        }

        own : (b : Bool) → (w == reverse_table s k) ≡ b
            → Own b (tally_of s threads k e value thread) (tally_of s threads k e next_value next_thread)
            (seen k e (value w) p n) (seen k e left g.place g.noted)
        own true is =
            let at : w ≡ reverse_table s k = eqb-true _ _ is in
            let same : value (reverse_table s k) ≡ value w = ap value (sym at) in
            let new : next_value (reverse_table s k) ≡ left = rw (is_eq w (reverse_table s k) at) refl in (
              ap (taken_at (binds k)) same,
              ap (taken_at (binds k)) new,
              ap (taken_at (binds_for k e)) same,
              ap (taken_at (binds_for k e)) new,
            )
        own false is =
            let same : next_value (reverse_table s k) ≡ value (reverse_table s k) =
            rw (not_eq w (reverse_table s k) (λ q. differ q)) refl in
            (ap (taken_at (binds k)) same, ap (taken_at (binds_for k e)) same)
          where
            differ : w ≢ reverse_table s k
            differ q = absurd (grind (arith, nat_tests))

    deed_sound : (earlier : List (Step NatValue)) (d : Effect NatValue)
        → ((v : ℕ) → v < 2 + 2 * s.shards → Fits s v (value v)) → Outcome s value (thread t).hand after.hand d
        → IsSound (places_of s k) (tally_of s threads k e value thread)
        → IsSound (places_of s k)
        (tally_of s threads k e (λ v. left_by v (act_of t earlier after.taken d) (value v)) next_thread)
    deed_sound earlier Takes fits o sound = still_sound o.0 o.1 sound
    deed_sound earlier (Looks v) fits o sound = still_sound o.0 o.1 sound
    deed_sound earlier (HearsClock a) fits o sound = still_sound o.0 o.1 sound
    deed_sound earlier (HearsDraw a) fits o sound = still_sound o.0 o.1 sound
    deed_sound earlier (Sends q) fits o sound = still_sound o.0 o.1 sound
    deed_sound earlier Ends fits o sound = still_sound o.0 o.1 sound
    deed_sound earlier (Touches w left) fits o sound =
        let h : Hand = o.0 in
        let p : Place = place_numbered h.place.at in
        let n : Noted = noted h.place in
        let r : NatValue × Goes = touched_by s.limit p (value w) n in
        let at : var_of s p n ≡ w = touches_it s p n w o.2 in
        let below : w < 2 + 2 * s.shards = subst (λ (u : ℕ). u < 2 + 2 * s.shards) at (below_all s p n is.some) in
        let was : (number : Place → Noted → ℕ) → in_hand number (thread t).hand ≡ number p n =
        λ number. ap (in_hand number) o.1 in
        let fit : IsNoted r.1.noted = touched_noted s p (value w) n w (is_noted h.place) (fits w below) in
        let goes_on : (number : Place → Noted → ℕ) → in_hand number after.hand ≡ number r.1.place r.1.noted =
        λ number. ap (in_hand number) o.4 ∙ hand_number number h.packet r.1 fit in
        let own_is : Bool = w == reverse_table s k in
        let y : Tally = tally_of s threads k e value thread in
        let left : NatValue = followed s n r.0 in
        let z : Tally = tally_of s threads k e (λ v. cond (nat_eq w v) left (value v)) next_thread in
        let same : seen k e left r.1.place r.1.noted ≡ seen k e r.0 r.1.place r.1.noted =
        seen_followed k e s n r.0 r.1.place r.1.noted in
        let done : IsSound (places_of s k) z =
        limited_sound s is.some k e (places_of s k) (places_one s k) own_is y z sound under p (value w) n w r at refl
        (fits w below) (range_left s is value fits k) (
          part w left below p n r.1 was goes_on,
          subst (λ (a : Tally). Shifts y z (seen k e (value w) p n) a) same (shifts w left below p n r.1 was goes_on),
          subst (λ (a : Tally). Own own_is y z (seen k e (value w) p n) a) same
              (own w left below p n r.1 was goes_on own_is refl),
        ) (touching s p n w o.2) (touch_comes s w s.limit p (value w) n (fits w below)) in
        subst (λ (x : NatValue).
        IsSound (places_of s k) (tally_of s threads k e (λ v. cond (nat_eq w v) x (value v)) next_thread))
        (sym o.3) done

-- At the start the static ports have their places, and all others are free.
pub ports_stand : PortsStand
ports_stand s threads inputs [] is h k e =
    let hands : (number : Place → Noted → ℕ) → in_hands number threads (thread_after {V = NatValue} []) ≡ 0 =
    λ number. sum_of_none threads _ (λ t. refl) in
    let free = fresh_free s k is in
    let once = ports_once k (kept s.statics) (kept_apart s.statics) in
    let mapped : in_values s (mapped_at (maps k)) (fresh_value s)
    ≡ one_if (has_port k (outside_ports (kept s.statics))) = fresh_mapped s is.some (maps k) ∙ once in
    let taken : taken_at (binds k) (fresh_value s (reverse_table s k))
    ≡ one_if (has_port k (outside_ports (kept s.statics))) =
    fresh_taken s k (binds k) (λ port key other. ap one_if other) ∙ once in
    let same : in_values s (mapped_at (maps_for k e)) (fresh_value s)
    ≡ taken_at (binds_for k e) (fresh_value s (reverse_table s k)) =
    fresh_mapped s is.some (maps_for k e)
    ∙ sym (fresh_taken s k (binds_for k e) (λ port key other. rw other refl)) in
    record {
      one = omega (arith, hands (bare k), hands (queued k), hands (loose k), free, mapped);
      bound = omega (arith, hands (queued k), hands (loose k), mapped, taken);
      same = omega (arith, hands (queued_for k e), same);
    }
ports_stand s threads inputs (x ∷ earlier) is h k e =
    let value : ℕ → NatValue = value_after (nat_meaning s) earlier in
    let thread : ℕ → Thread = thread_after earlier in
    let old : IsSound (places_of s k) (tally_of s threads k e value thread) =
    ports_stand s threads inputs earlier is h.1 k e in
    let o =
    outcome s (inputs x.thread) value (thread x.thread).taken x.after h.0.2 (thread x.thread).hand h.0.1 h.0.3 in
    let fits = values_fit (nat_meaning s) (Fits s) (nat_lawful s is) inputs threads earlier h.1 in
    rw h.0.4 (deed_sound s is threads k e value thread x.thread x.after h.0.0 earlier h.0.2 fits o old)
