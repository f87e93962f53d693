-- The load of each backend is its charge after each move of each run.
use Rattle.std.proofs.Common.{◌≡◌, ℕ, ◌+◌, ◌-◌, ◌%◌, ◌^◌, ◌<◌, Bool, true, false, List, [], ◌∷◌, length, refl, sym, ap}
use Rattle.std.proofs.Common.{◌∙◌, subst, inl, inr, arith, Option, Some, None}
use Rattle.std.specs.Prelude.{nat_eq, cond, ◌==◌, slice_index}
use Rattle.std.proofs.lemmas.Bool.{eqb-true}
use Rattle.std.proofs.lemmas.List.{get_or-replicate}
use Rattle.plain_text.specs.declared.packet.Packet.{Packet}
use Rattle.packet_headers.specs.View.{viewed}
use Rattle.entry_order.specs.Stamps.{sum_below}
use Rattle.plain_machine.specs.declared.local.Move.TheVariants.{Access}
use Rattle.plain_machine.specs.Machine.{Hand, Thread, Effect, Takes, Touches, Looks, HearsClock, HearsDraw, Sends}
use Rattle.plain_machine.specs.Machine.{Ends as EndsIt}
use Rattle.plain_machine.specs.History.{Step, act_of, left_by, thread_after, value_after}
use Rattle.plain_machine.proofs.Histories.{not_eq, is_eq}
use Rattle.plain_machine.proofs.Bounds.{values_fit}
use Rattle.nat_tables.specs.Ports.{one_if}
use Rattle.nat_tables.specs.Forwards.{Forwards, slot_of, first_idle, lives, AreMappings}
use Rattle.nat_tables.proofs.Keeping.{may_slot, may_idle}
use Rattle.flow_boxes.proofs.Summing.{one_changes, sum_of_none}
use Rattle.nat_tables.specs.declared.entries.Endpoint.{Endpoint}
use Rattle.nat_tables.specs.declared.slot.Slot.{Slot}
use Rattle.nat_tables.specs.declared.phase.Phase.TheVariants.{Plain}
use Rattle.balancer_box.specs.declared.place.Place.{Place}
use Rattle.balancer_box.specs.declared.place.Place.TheVariants.{HearsTime, FindsConnection, LowersIdle, RaisesLeast}
use Rattle.balancer_box.specs.declared.place.Place.TheVariants.{Connects, LowersSpare, ChecksConnection, CountsDrop}
use Rattle.balancer_box.specs.declared.place.Place.TheVariants.{SendsOut, LowersVain, Ends}
use Rattle.balancer_box.specs.declared.place.Noted.{Noted}
use Rattle.balancer_box.specs.declared.value.BalancerValue.{BalancerValue}
use Rattle.balancer_box.specs.declared.value.BalancerValue.TheVariants.{Dropped, Loaded, Connected}
use Rattle.balancer_box.specs.declared.place.Goes.{Goes}
use Rattle.balancer_box.specs.Loads.{raised, lowered, least_loaded, no_loads}
use Rattle.balancer_box.specs.Places.{place_numbered}
use Rattle.balancer_box.specs.Settings.{Settings, AreSettings}
use Rattle.balancer_box.specs.Balancer.{next_move, begun, begins, touched, told, finds, connects, checks, MayConnect}
use Rattle.balancer_box.specs.Balancer.{local_at, fresh_value, noted_by, balancer_meaning, Fits}
use Rattle.balancer_box.specs.Noting.{place_again, IsNoted, is_noted, noted_again}
use Rattle.balancer_box.specs.Ranks.{var_of, touches_it, below_all}
use Rattle.balancer_box.specs.Lawful.{balancer_lawful}
use Rattle.balancer_box.specs.Charges.{load_in, counted, connections_of, owed, in_hand, in_values, in_hands, charge}
use Rattle.balancer_box.specs.Charges.{IsCharged, LoadsAreCharges}
use Rattle.balancer_box.proofs.LoadLemmas.{raised_here, raised_other, lowered_here, lowered_other, one_up, one_down}
use Rattle.balancer_box.proofs.CountLemmas.{plain_of}
use Rattle.balancer_box.proofs.Noting.{touched_noted}
use Rattle.balancer_box.proofs.Making.{goes_on, Made, made}
use Rattle.balancer_box.proofs.TableCharges.{OwesNone, owes_none, clock_owes_none, emit_owes_none, end_owes_none}
use Rattle.balancer_box.proofs.TableCharges.{told_owes_none, begun_owes_none, Balanced, sum_none, begins_even, CountTo}
use Rattle.balancer_box.proofs.TableCharges.{found_even, bound_even, check_even, met_by_even, connected_even}
use Rattle.balancer_box.proofs.TableCharges.{checked_even}

module _ (s : Settings) (i v : ℕ) (n : Noted) (es : Forwards) (all : AreMappings (MayConnect s v) es) where
  plain_slot : s.closing ≡ None → (slot : Slot) → slot_of n.client es ≡ Some slot → slot.phase ≡ Plain
  plain_slot none slot at =
      plain_of s.closing n.client.protocol slot.phase none (may_slot (MayConnect s v) n.client slot es at all).3

  plain_first : s.closing ≡ None → (e : Endpoint × Slot) → first_idle n.time es ≡ Some e → e.1.phase ≡ Plain
  plain_first none e first =
      plain_of s.closing e.0.protocol e.1.phase none (may_idle (MayConnect s v) n.time e es first all).3

  finds_even : (c : Option ℕ) → s.closing ≡ c → CountTo i (counted i es) (finds c n es)
  finds_even None none =
      found_even i n es (plain_slot none) (plain_first none) (slot_of n.client es) (first_idle n.time es) refl refl
  finds_even (Some seconds) is = met_by_even i seconds n es (slot_of n.client es) (first_idle n.time es) refl refl

  connects_even : (c : Option ℕ) → s.closing ≡ c
      → CountTo i (counted i es + one_if (n.backend == i)) (connects c n es)
  connects_even None none = bound_even i n es (plain_slot none) (plain_first none) (slot_of n.client es) refl
  connects_even (Some seconds) is = connected_even i seconds n es (slot_of n.client es) refl

  checks_even : (c : Option ℕ) → s.closing ≡ c → CountTo i (counted i es) (checks c n es)
  checks_even None none =
      check_even i n es (plain_slot none) (plain_first none) (lives n.client n.backend n.time es) refl
  checks_even (Some seconds) is = checked_even i seconds n es (slot_of n.client es) refl

module _ (s : Settings) (i : ℕ) (n : Noted) (loads : List ℕ) (low : i < length loads) where
  -- the load of the backend that the packet owes is lowered
  lowered_balanced : (p : Place) (g : Goes) → owed i p n ≡ one_if (n.spare == i) + owed i g.place g.noted
      → (b : Bool) → (n.spare == i) ≡ b → Balanced 1 i (Loaded loads) p n (Loaded (lowered n.spare loads), g)
  lowered_balanced p g was true q =
      let same : n.spare ≡ i = eqb-true _ _ q in
      let one : one_if (n.spare == i) ≡ 1 = ap one_if q in
      let here : slice_index (lowered n.spare loads) i ≡ (slice_index loads i + (2 ^ 64 - 1)) % 2 ^ 64 =
      ap (λ (k : ℕ). slice_index (lowered k loads) i) same ∙ lowered_here i loads low in
      inr (refl, inr (here, omega (arith, was, one)))
  lowered_balanced p g was false q =
      let none : one_if (n.spare == i) ≡ 0 = ap one_if q in
      inl (lowered_other n.spare i loads q, omega (arith, was, none))

  raised_balanced : (k : ℕ) → (b : Bool) → (k == i) ≡ b
      → Balanced 1 i (Loaded loads) RaisesLeast n
      (Loaded (raised k loads), record { place = Connects; noted = record n { backend = k } })
  raised_balanced k true q =
      let same : k ≡ i = eqb-true _ _ q in
      let one : one_if (k == i) ≡ 1 = ap one_if q in
      let here : slice_index (raised k loads) i ≡ (slice_index loads i + 1) % 2 ^ 64 =
      ap (λ (k : ℕ). slice_index (raised k loads) i) same ∙ raised_here i loads low in
      inr (refl, inl (here, omega arith))
  raised_balanced k false q =
      let none : one_if (k == i) ≡ 0 = ap one_if q in
      inl (raised_other k i loads q, omega arith)

-- each touch
touch_balanced : (s : Settings) (is : AreSettings s) (i : ℕ) → i < length s.backends → (p : Place) (x : BalancerValue)
    (n : Noted) (v : ℕ) → next_move s p n ≡ Access v → var_of s p n ≡ v → Fits s v x
    → Balanced v i x p n (touched s.closing p x n)
touch_balanced s is i low HearsTime x n v e at fits = absurd (cc)
touch_balanced s is i low FindsConnection (Dropped d) n v e at fits = absurd (omega (arith, at, fits, is.some))
touch_balanced s is i low FindsConnection (Loaded loads) n v e at fits = absurd (omega (arith, at, fits.0, is.some))
touch_balanced s is i low FindsConnection (Connected es) n v e at fits =
    inl (refl, finds_even s i v n es fits.2 s.closing refl ∙ sym (sum_none (counted i es)))
touch_balanced s is i low LowersIdle (Dropped d) n v e at fits = absurd (omega (arith, at, fits, is.some))
touch_balanced s is i low LowersIdle (Loaded loads) n v e at fits =
    let one : v ≡ 1 = fits.0 in
    subst (λ (k : ℕ). Balanced k i (Loaded loads) LowersIdle n (touched s.closing LowersIdle (Loaded loads) n))
    (sym one) (lowered_balanced s i n loads (omega (arith, fits.1)) LowersIdle (begins n n.resets)
    (let none = begins_even i n n.resets in
    sym (sum_none (one_if (n.spare == i))) ∙ ap (λ (k : ℕ). one_if (n.spare == i) + k) (sym none)) (n.spare == i) refl)
touch_balanced s is i low LowersIdle (Connected es) n v e at fits = absurd (omega (arith, at, fits.0, fits.1, is.some))
touch_balanced s is i low RaisesLeast (Dropped d) n v e at fits = absurd (omega (arith, at, fits, is.some))
touch_balanced s is i low RaisesLeast (Loaded loads) n v e at fits =
    let one : v ≡ 1 = fits.0 in
    subst (λ (k : ℕ). Balanced k i (Loaded loads) RaisesLeast n (touched s.closing RaisesLeast (Loaded loads) n))
    (sym one) (raised_balanced s i n loads (omega (arith, fits.1)) (least_loaded loads) (least_loaded loads == i) refl)
touch_balanced s is i low RaisesLeast (Connected es) n v e at fits = absurd (omega (arith, at, fits.0, fits.1, is.some))
touch_balanced s is i low Connects (Dropped d) n v e at fits = absurd (omega (arith, at, fits, is.some))
touch_balanced s is i low Connects (Loaded loads) n v e at fits = absurd (omega (arith, at, fits.0, is.some))
touch_balanced s is i low Connects (Connected es) n v e at fits =
    inl (refl, connects_even s i v n es fits.2 s.closing refl)
touch_balanced s is i low LowersVain (Dropped d) n v e at fits = absurd (omega (arith, at, fits, is.some))
touch_balanced s is i low LowersSpare (Dropped d) n v e at fits = absurd (omega (arith, at, fits, is.some))
touch_balanced s is i low LowersVain (Loaded loads) n v e at fits =
    let one : v ≡ 1 = fits.0 in
    subst (λ (k : ℕ). Balanced k i (Loaded loads) LowersVain n (touched s.closing LowersVain (Loaded loads) n))
    (sym one) (lowered_balanced s i n loads (omega (arith, fits.1)) LowersVain
    (record { place = LowersSpare; noted = record n { spare = n.backend } }) refl (n.spare == i) refl)
touch_balanced s is i low LowersSpare (Loaded loads) n v e at fits =
    let one : v ≡ 1 = fits.0 in
    subst (λ (k : ℕ). Balanced k i (Loaded loads) LowersSpare n (touched s.closing LowersSpare (Loaded loads) n))
    (sym one) (lowered_balanced s i n loads (omega (arith, fits.1)) LowersSpare
    (record { place = SendsOut; noted = n }) (sym (sum_none (one_if (n.spare == i)))) (n.spare == i) refl)
touch_balanced s is i low LowersVain (Connected es) n v e at fits = absurd (omega (arith, at, fits.0, fits.1, is.some))
touch_balanced s is i low LowersSpare (Connected es) n v e at fits = absurd (omega (arith, at, fits.0, fits.1, is.some))
touch_balanced s is i low ChecksConnection (Dropped d) n v e at fits = absurd (omega (arith, at, fits, is.some))
touch_balanced s is i low ChecksConnection (Loaded loads) n v e at fits = absurd (omega (arith, at, fits.0, is.some))
touch_balanced s is i low ChecksConnection (Connected es) n v e at fits =
    inl (refl, checks_even s i v n es fits.2 s.closing refl ∙ sym (sum_none (counted i es)))
touch_balanced s is i low CountsDrop (Dropped d) n v e at fits = inl (refl, refl)
touch_balanced s is i low CountsDrop (Loaded loads) n v e at fits = absurd (omega (arith, at, fits.0, is.some))
touch_balanced s is i low CountsDrop (Connected es) n v e at fits = absurd (omega (arith, at, fits.0, fits.1, is.some))
touch_balanced s is i low SendsOut x n v e at fits = absurd (cc)
touch_balanced s is i low Ends x n v e at fits = absurd (cc)

-- a hand that goes on as this: its numbers are those of where it goes
hand_number : (s : Settings) (number : Place → Noted → ℕ) (p : Packet) (g : Goes) → IsNoted (length s.backends) g.noted
    → in_hand s number (Some (record { packet = p; place = local_at g })) ≡ number g.place g.noted
hand_number s number p g is =
    let a : place_numbered (local_at g).at ≡ g.place = place_again g.place in
    let b : noted_by s (local_at g) ≡ g.noted = noted_again (length s.backends) g.place g.noted is in
    rw (a, b) refl

-- a hand that goes on owing nothing
hand_owes_none : (s : Settings) (i : ℕ) (p : Packet) (g : Goes) → OwesNone g.place
    → in_hand s (owed i) (Some (record { packet = p; place = local_at g })) ≡ 0
hand_owes_none s i p g none = owes_none i (place_numbered (local_at g).at) (noted_by s (local_at g))
    (subst OwesNone (sym (place_again g.place)) none)

module _ (s : Settings) (is : AreSettings s) (threads : ℕ) (i : ℕ) (in_number : i < length s.backends)
    (value : ℕ → BalancerValue) (thread : ℕ → Thread) (sound : IsCharged s threads i value thread) where
  -- a move of one thread
  module _ (t : ℕ) (after : Thread) (low : t < threads) where
    abbrev next_thread : ℕ → Thread
    next_thread u = cond (nat_eq t u) after (thread u)

    hands_step : in_hands s (owed i) threads next_thread + in_hand s (owed i) (thread t).hand
        ≡ in_hands s (owed i) threads thread + in_hand s (owed i) after.hand
    hands_step =
        let f : ℕ → ℕ = λ u. in_hand s (owed i) (next_thread u).hand in
        let g : ℕ → ℕ = λ u. in_hand s (owed i) (thread u).hand in
        let one : sum_below threads f + g t ≡ sum_below threads g + f t =
        one_changes threads t f g low (λ u h. rw (not_eq t u (λ q. h (sym q))) refl) in
        let new : f t ≡ in_hand s (owed i) after.hand = rw (is_eq t t refl) refl in
        omega arith

    -- that touches nothing
    still_charged : in_hand s (owed i) (thread t).hand ≡ 0 → in_hand s (owed i) after.hand ≡ 0
        → IsCharged s threads i value next_thread
    still_charged before later =
        let same : in_hands s (owed i) threads next_thread ≡ in_hands s (owed i) threads thread =
        omega (arith, hands_step, before, later) in
        sound ∙ ap (λ (k : ℕ). (in_values s (connections_of i) value + k) % 2 ^ 64) (sym same)

    -- that touches a variable
    module _ (w : ℕ) (left : BalancerValue) (below : w < 2 + s.shards) where
      abbrev next_value : ℕ → BalancerValue
      next_value v = cond (nat_eq w v) left (value v)

      values_step : in_values s (connections_of i) next_value + connections_of i (value w)
          ≡ in_values s (connections_of i) value + connections_of i left
      values_step =
          let f : ℕ → ℕ = λ v. connections_of i (next_value v) in
          let g : ℕ → ℕ = λ v. connections_of i (value v) in
          let one : sum_below (2 + s.shards) f + g w ≡ sum_below (2 + s.shards) g + f w =
          one_changes (2 + s.shards) w f g below (λ v h. rw (not_eq w v (λ q. h (sym q))) refl) in
          let new : f w ≡ connections_of i left = rw (is_eq w w refl) refl in
          omega arith

      load_same : load_in i left ≡ load_in i (value w) → (b : Bool) → nat_eq w 1 ≡ b
          → load_in i (cond b left (value 1)) ≡ load_in i (value 1)
      load_same same true q = let e : w ≡ 1 = eqb-true _ _ q in same ∙ ap (λ (v : ℕ). load_in i (value v)) e
      load_same same false q = refl

      load_new : w ≡ 1 → load_in i (next_value 1) ≡ load_in i left
      load_new e = rw (is_eq w 1 e) refl

      touch_charged : (p : Place) (n : Noted) (g : Goes) → in_hand s (owed i) (thread t).hand ≡ owed i p n
          → in_hand s (owed i) after.hand ≡ owed i g.place g.noted → Balanced w i (value w) p n (left, g)
          → IsCharged s threads i next_value next_thread
      touch_charged p n g was goes_on (inl even) =
          let same : charge s threads i next_value next_thread ≡ charge s threads i value thread =
          omega (arith, values_step, hands_step, was, goes_on, even.1) in
          load_same even.0 (nat_eq w 1) refl ∙ sound ∙ ap (λ (k : ℕ). k % 2 ^ 64) (sym same)
      touch_charged p n g was goes_on (inr (at, inl up)) =
          let more : charge s threads i next_value next_thread ≡ charge s threads i value thread + 1 =
          omega (arith, values_step, hands_step, was, goes_on, up.1) in
          let old : load_in i (value w) ≡ charge s threads i value thread % 2 ^ 64 =
          ap (λ (v : ℕ). load_in i (value v)) at ∙ sound in
          load_new at ∙ up.0 ∙ one_up (load_in i (value w)) (charge s threads i value thread)
          (charge s threads i next_value next_thread) old more
      touch_charged p n g was goes_on (inr (at, inr down)) =
          let less : charge s threads i next_value next_thread + 1 ≡ charge s threads i value thread =
          omega (arith, values_step, hands_step, was, goes_on, down.1) in
          let old : load_in i (value w) ≡ charge s threads i value thread % 2 ^ 64 =
          ap (λ (v : ℕ). load_in i (value v)) at ∙ sound in
          load_new at ∙ down.0 ∙ one_down (load_in i (value w)) (charge s threads i value thread)
          (charge s threads i next_value next_thread) old less

    deed_charged : (packets : List Packet) (taken : ℕ) (earlier : List (Step BalancerValue)) (d : Effect BalancerValue)
        → ((v : ℕ) → v < 2 + s.shards → Fits s v (value v)) → Made s packets taken value (thread t).hand after.hand d
        → IsCharged s threads i (λ v. left_by v (act_of t earlier after.taken d) (value v)) next_thread
    deed_charged packets taken earlier Takes fits m =
        let p : Packet = m.1 in
        still_charged (ap (in_hand s (owed i)) m.0) (ap (in_hand s (owed i)) m.3
        ∙ hand_owes_none s i p (begun s (viewed p.bytes p.original)) (begun_owes_none s (viewed p.bytes p.original)))
    deed_charged packets taken earlier (Looks v) fits m = absurd m
    deed_charged packets taken earlier (HearsDraw a) fits m = absurd m
    deed_charged packets taken earlier (HearsClock a) fits m =
        let h : Hand = m.0 in
        let p : Place = place_numbered h.place.at in
        let n : Noted = noted_by s h.place in
        still_charged (ap (in_hand s (owed i)) m.1 ∙ owes_none i p n (clock_owes_none s p n m.2))
        (ap (in_hand s (owed i)) m.3 ∙ hand_owes_none s i h.packet (told p a n) (told_owes_none p a n))
    deed_charged packets taken earlier (Sends q) fits m =
        let h : Hand = m.0 in
        let p : Place = place_numbered h.place.at in
        let n : Noted = noted_by s h.place in
        still_charged (ap (in_hand s (owed i)) m.1 ∙ owes_none i p n (emit_owes_none s p n m.2))
        (ap (in_hand s (owed i)) m.4 ∙ hand_owes_none s i h.packet (record { place = Ends; noted = n }) tt)
    deed_charged packets taken earlier EndsIt fits m =
        let h : Hand = m.0 in
        let p : Place = place_numbered h.place.at in
        let n : Noted = noted_by s h.place in
        still_charged (ap (in_hand s (owed i)) m.1 ∙ owes_none i p n (end_owes_none s p n m.2))
        (ap (in_hand s (owed i)) m.3)
    deed_charged packets taken earlier (Touches w left) fits m =
        let h : Hand = m.0 in
        let p : Place = place_numbered h.place.at in
        let n : Noted = noted_by s h.place in
        let r : BalancerValue × Goes = touched s.closing p (value w) n in
        let at : var_of s p n ≡ w = touches_it s p n w m.2 in
        let below : w < 2 + s.shards = subst (λ (u : ℕ). u < 2 + s.shards) at (below_all s p n is.some) in
        let noted : IsNoted (length s.backends) n = is_noted (length s.backends) h.place is.some_backends in
        let fit : IsNoted (length s.backends) r.1.noted =
        touched_noted s p (value w) n w is.some_backends noted (fits w below) in
        let balanced : Balanced w i (value w) p n r =
        touch_balanced s is i in_number p (value w) n w m.2 at (fits w below) in
        let done : IsCharged s threads i (λ v. cond (nat_eq w v) r.0 (value v)) next_thread =
        touch_charged w r.0 below p n r.1 (ap (in_hand s (owed i)) m.1)
        (ap (in_hand s (owed i)) m.4 ∙ hand_number s (owed i) h.packet r.1 fit) balanced in
        subst (λ (x : BalancerValue). IsCharged s threads i (λ v. cond (nat_eq w v) x (value v)) next_thread)
        (sym m.3) done

-- at the start no load is there, no connection and no packet

none_of : (i count : ℕ) → i < count → slice_index (no_loads count) i ≡ 0
none_of i count low = get_or-replicate count i 0 0 low

fresh_connections : (s : Settings) (i v : ℕ) → connections_of i (fresh_value s v) ≡ 0
fresh_connections s i v = by (v == 0) (v == 1) refl refl
  where
    by : (a b : Bool) → (v == 0) ≡ a → (v == 1) ≡ b → connections_of i (fresh_value s v) ≡ 0
    by true b x y = rw x refl
    by false true x y = rw (x, y) refl
    by false false x y = rw (x, y) refl

pub loads_are_charges : LoadsAreCharges
loads_are_charges s threads inputs [] is h i low =
    let hands : in_hands s (owed i) threads (thread_after {V = BalancerValue} []) ≡ 0 =
    sum_of_none threads _ (λ t. refl) in
    let connections : in_values s (connections_of i) (fresh_value s) ≡ 0 =
    sum_of_none (2 + s.shards) _ (fresh_connections s i) in
    let none : charge s threads i (fresh_value s) (thread_after {V = BalancerValue} []) ≡ 0 =
    omega (arith, hands, connections) in
    none_of i (length s.backends) low ∙ ap (λ (k : ℕ). k % 2 ^ 64) (sym none)
loads_are_charges s threads inputs (x ∷ earlier) is h i low =
    let value : ℕ → BalancerValue = value_after (balancer_meaning s) earlier in
    let thread : ℕ → Thread = thread_after earlier in
    let old : IsCharged s threads i value thread = loads_are_charges s threads inputs earlier is h.1 i low in
    let m = made s (inputs x.thread) value (thread x.thread).taken x.after h.0.2 (thread x.thread).hand h.0.1 h.0.3 in
    let fits = values_fit (balancer_meaning s) (Fits s) (balancer_lawful s is) inputs threads earlier h.1 in
    rw h.0.4 (deed_charged s is threads i low value thread old x.thread x.after h.0.0 (inputs x.thread)
    (thread x.thread).taken earlier h.0.2 fits m)
