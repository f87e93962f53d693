-- The touches where hosts have a limit: which ones differ, and that no host comes to more mappings than it may have.
use Rattle.std.specs.Prelude.{◌≡◌, ℕ, ◌+◌, ◌<◌, ◌≤◌, max, Bool, true, false, ◌&&◌, ◌==◌, if◌then◌else◌}
use Rattle.std.specs.Prelude.{[], ◌∷◌, ◌++◌, refl, Option, Some, None, ◌⊎◌}
use Rattle.std.proofs.Common.{arith, ap, subst, ◌∙◌, inl, inr}
use Rattle.std.proofs.lemmas.Bool.{eqb-true}
use Rattle.std.proofs.lemmas.Bool.Decides.{nat_tests}
use Rattle.nat_tables.specs.declared.entries.Endpoint.{Endpoint}
use Rattle.nat_tables.specs.declared.slot.Slot.{Slot}
use Rattle.nat_tables.specs.declared.phase.Phase.TheVariants.{Plain}
use Rattle.nat_tables.specs.declared.entries.Find.{Find}
use Rattle.nat_tables.specs.declared.entries.Find.TheVariants.{Live, Absent}
use Rattle.nat_tables.specs.declared.entries.Bind.{Bind}
use Rattle.nat_tables.specs.Keys.{same_endpoint}
use Rattle.nat_tables.specs.Ports.{one_if, give_back, PoolPorts}
use Rattle.nat_tables.specs.Forwards.{Forwards, is_idle, port_of, slot_of, first_idle, refresh, without}
use Rattle.nat_tables.specs.Forwards.{found_there, found, find, bound, find_or_bind, mark, total, Misses, AreMappings}
use Rattle.nat_tables.specs.Hosts.{is_of_host, count_of, is_full, first_idle_of, given_up, found_within, find_within}
use Rattle.nat_tables.specs.Hosts.{bound_within}
use Rattle.nat_tables.proofs.Counting.{same_is, total_refresh, total_marked, total_without, total_without_idle}
use Rattle.nat_tables.proofs.Counting.{total_append}
use Rattle.flow_boxes.proofs.Fitting.{same_self}
use Rattle.nat_box.specs.declared.place.Place.{Place}
use Rattle.nat_box.specs.declared.place.Place.TheVariants.{HearsTime, FindsMapping, UnbindsFreed, GivesBackFreed}
use Rattle.nat_box.specs.declared.place.Place.TheVariants.{DrawsWord, ReservesPort, BindsPort, FindsOrBinds}
use Rattle.nat_box.specs.declared.place.Place.TheVariants.{UnbindsLost, GivesBackLost, FindsEndpoint, AsksIfLives}
use Rattle.nat_box.specs.declared.place.Place.TheVariants.{CountsDrop, SendsOut, Ends, FindsPort}
use Rattle.nat_box.specs.declared.place.Noted.{Noted}
use Rattle.nat_box.specs.declared.place.Goes.{Goes}
use Rattle.nat_box.specs.declared.value.NatValue.{NatValue}
use Rattle.nat_box.specs.declared.value.NatValue.TheVariants.{Dropped, Free, Mapped, Taken}
use Rattle.nat_box.specs.Places.{source_key, no_port, is_refused}
use Rattle.nat_box.specs.Settings.{Settings}
use Rattle.nat_box.specs.Nat.{goes, dropped, over_limit, after_find, touched, after_find_within}
use Rattle.nat_box.specs.Nat.{after_bind_within, after_lost, limited, touched_by, followed_by, MayMap, AreWithin, Fits}

-- How many mappings a host has is a sum over the mappings

abbrev of_host : ℕ → ℕ → Endpoint → ℕ → ℕ
of_host protocol address key port = one_if (is_of_host protocol address key)

count_total : (protocol address : ℕ) (es : Forwards)
    → count_of protocol address es ≡ total (of_host protocol address) es
count_total protocol address [] = refl
count_total protocol address (e ∷ es) = by (is_of_host protocol address e.0) refl (count_total protocol address es)
  where
    by : (b : Bool) → is_of_host protocol address e.0 ≡ b
        → count_of protocol address es ≡ total (of_host protocol address) es
        → count_of protocol address (e ∷ es) ≡ total (of_host protocol address) (e ∷ es)
    by true q rest = rw q (omega arith)
    by false q rest = rw q (omega arith)

abbrev AreFewer : Forwards → Forwards → Type 0
AreFewer fs es = (w : Endpoint → ℕ → ℕ) → total w fs ≤ total w es

within_fewer : (limit : Option ℕ) (statics es fs : Forwards) → AreFewer fs es → AreWithin limit statics es
    → AreWithin limit statics fs
within_fewer None statics es fs fewer within = tt
within_fewer (Some most) statics es fs fewer within = λ protocol address.
    let a = count_total protocol address es in
    let b = count_total protocol address fs in
    let c = fewer (of_host protocol address) in
    let d = within protocol address in
    omega (arith, a, b, c, d)

pub within_fresh : (limit : Option ℕ) (statics : Forwards) → AreWithin limit statics statics
within_fresh None statics = tt
within_fresh (Some most) statics = λ protocol address. omega arith

pub within_followed : (limit : Option ℕ) (statics : Forwards) (closing : Option ℕ) (n : Noted) (es : Forwards)
    → AreWithin limit statics es → AreWithin limit statics (followed_by closing n es)
within_followed limit statics None n es within = within
within_followed limit statics (Some seconds) n es within = by (n.source.protocol == 6)
  where
    by : (b : Bool) → AreWithin limit statics (if b then mark n.source seconds n.segment es else es)
    by true = within_fewer limit statics es (mark n.source seconds n.segment es)
        (λ w. let a = total_marked w n.source seconds n.segment es in omega (arith, a)) within
    by false = within

fewer_found : (key : Endpoint) (now : ℕ) (es : Forwards) (a : Option Slot) (b : Option (Endpoint × Slot))
    → slot_of key es ≡ a → first_idle now es ≡ b → AreFewer (found key now es a b).1 es
fewer_found key now es (Some slot) b at first = by (is_idle now (key, slot))
  where
    by : (t : Bool) → AreFewer (found_there key now es slot t).1 es
    by true = λ w. let a = total_without w key slot es at in omega (arith, a)
    by false = λ w. let a = total_refresh w key now es in omega (arith, a)
fewer_found key now es None (Some e) at first = λ w. let a = total_without_idle w now e es first in omega (arith, a)
fewer_found key now es None None at first = λ w. omega arith

pub fewer_find : (key : Endpoint) (now : ℕ) (es : Forwards) → AreFewer (find key now es).1 es
fewer_find key now es = fewer_found key now es (slot_of key es) (first_idle now es) refl refl

-- The first idle mapping of a host is that of its endpoint, as no endpoint has two

missed_other : (key other : Endpoint) (slot : Slot) (es : Forwards) → Misses es other → slot_of key es ≡ Some slot
    → same_endpoint key other ≡ false
missed_other key other slot [] misses is = absurd (cc)
missed_other key other slot (e ∷ es) misses is =
    by (same_endpoint key e.0) refl is (λ h. missed_other key other slot es misses.1 h)
  where
    by : (b : Bool) → same_endpoint key e.0 ≡ b → (if b then Some e.1 else slot_of key es) ≡ Some slot
        → (slot_of key es ≡ Some slot → same_endpoint key other ≡ false) → same_endpoint key other ≡ false
    by true q is rest = rw (same_is key e.0 q) misses.0
    by false q is rest = rest is

and_right : (a b : Bool) → (a && b) ≡ true → b ≡ true
and_right true b e = e
and_right false b e = absurd (cc)

first_is : (May : Endpoint → Slot → Type 0) (key : Endpoint) (now : ℕ) (es : Forwards) (gone : Endpoint × Slot)
    → AreMappings May es → first_idle_of key now es ≡ Some gone
    → (slot_of gone.0 es ≡ Some gone.1) × (is_idle now gone ≡ true)
first_is May key now [] gone all is = absurd (cc)
first_is May key now (e ∷ es) gone all is =
    by (is_of_host key.protocol key.address e.0 && is_idle now e) refl is
    (λ h. first_is May key now es gone all.2 h)
  where
    by : (b : Bool) → (is_of_host key.protocol key.address e.0 && is_idle now e) ≡ b
        → (if b then Some e else first_idle_of key now es) ≡ Some gone
        → (first_idle_of key now es ≡ Some gone → (slot_of gone.0 es ≡ Some gone.1) × (is_idle now gone ≡ true))
        → (slot_of gone.0 (e ∷ es) ≡ Some gone.1) × (is_idle now gone ≡ true)
    by true q is rest =
        let same : e ≡ gone = cc in
        let idle : is_idle now e ≡ true = and_right _ _ q in
        subst (λ (g : Endpoint × Slot). (slot_of g.0 (e ∷ es) ≡ Some g.1) × (is_idle now g ≡ true)) same
        (rw (same_self e.0) refl, idle)
    by false q is rest =
        let later = rest is in
        let apart : same_endpoint gone.0 e.0 ≡ false = missed_other gone.0 e.0 gone.1 es all.1 later.0 in
        (rw apart later.0, later.1)

-- A bind within the limit adds a mapping to a host that has fewer than it may have

grown : (most : ℕ) (statics : Forwards) (key : Endpoint) (slot : Slot) (es : Forwards)
    → is_full most key es ≡ false → AreWithin (Some most) statics es
    → AreWithin (Some most) statics (es ++ (key, slot) ∷ [])
grown most statics key slot es room within = λ protocol address.
    by protocol address (key.protocol == protocol) (key.address == address) refl refl
  where
    fewer : count_of key.protocol key.address es < most
    fewer = grind (arith, nat_tests)

    by : (protocol address : ℕ) (a b : Bool) → (key.protocol == protocol) ≡ a → (key.address == address) ≡ b
        → count_of protocol address (es ++ (key, slot) ∷ []) ≤ max most (count_of protocol address statics)
    by protocol address true true p q =
        let pp : key.protocol ≡ protocol = eqb-true _ _ p in
        let qq : key.address ≡ address = eqb-true _ _ q in
        let one : of_host protocol address key slot.port ≡ 1 = rw (p, q) refl in
        let c = count_total protocol address es in
        let d = count_total protocol address (es ++ (key, slot) ∷ []) in
        let f = total_append (of_host protocol address) key slot es in
        let g : count_of protocol address es < most =
        subst (λ (x : ℕ). count_of x address es < most) pp
        (subst (λ (y : ℕ). count_of key.protocol y es < most) qq fewer) in
        omega (arith, one, c, d, f, g)
    by protocol address true false p q =
        let none : of_host protocol address key slot.port ≡ 0 = rw (p, q) refl in
        let c = count_total protocol address es in
        let d = count_total protocol address (es ++ (key, slot) ∷ []) in
        let f = total_append (of_host protocol address) key slot es in
        let g = within protocol address in
        omega (arith, none, c, d, f, g)
    by protocol address false b p q =
        let none : of_host protocol address key slot.port ≡ 0 = rw p refl in
        let c = count_total protocol address es in
        let d = count_total protocol address (es ++ (key, slot) ∷ []) in
        let f = total_append (of_host protocol address) key slot es in
        let g = within protocol address in
        omega (arith, none, c, d, f, g)

bound_is_within : (most : ℕ) (statics : Forwards) (key : Endpoint) (port now : ℕ) (es : Forwards) (a : Option Slot)
    → slot_of key es ≡ a → AreWithin (Some most) statics es
    → AreWithin (Some most) statics (bound_within most key port now es a).1
bound_is_within most statics key port now es (Some slot) is within =
    rw is (within_fewer (Some most) statics es (refresh key now es)
    (λ w. let a = total_refresh w key now es in omega (arith, a)) within)
bound_is_within most statics key port now es None is within = by (is_full most key es) refl
  where
    by : (b : Bool) → is_full most key es ≡ b
        → AreWithin (Some most) statics (bound_within most key port now es None).1
    by true q = rw q within
    by false q = rw (q, is) (grown most statics key (record { port = port; last = now; phase = Plain }) es q within)

-- How a touch differs where hosts have a limit

-- a host that has as many mappings as it may have gives up one that is idle
pub record GivesUp (p : Place) (x : NatValue) (n : Noted) (r : NatValue × Goes) : Type 0 where
  pub es : Forwards
  pub gone : Endpoint × Slot
  pub at : p ≡ FindsMapping
  pub value : x ≡ Mapped es
  pub goes_on : r ≡ (Mapped (without gone.0 es), goes UnbindsFreed (record n { freed = port_of gone }))
  pub there : slot_of gone.0 es ≡ Some gone.1
  pub idle : is_idle n.time gone ≡ true

-- or it has none that is idle, and the packet is dropped
pub record DropsFull (p : Place) (x : NatValue) (n : Noted) (r : NatValue × Goes) : Type 0 where
  pub es : Forwards
  pub at : p ≡ FindsMapping
  pub value : x ≡ Mapped es
  pub goes_on : r ≡ (Mapped es, dropped n over_limit)

-- another packet was quicker, and the port in hand is given back
pub record RefusesBind (limit : Option ℕ) (p : Place) (x : NatValue) (n : Noted) (r : NatValue × Goes) : Type 0 where
  pub es : Forwards
  pub most : ℕ
  pub within : limit ≡ Some most
  pub at : p ≡ FindsOrBinds
  pub value : x ≡ Mapped es
  pub goes_on : r ≡ (Mapped es, goes UnbindsLost (record n { port = no_port; freed = source_key n }))

-- and then the packet is dropped
pub record DropsLate (p : Place) (x : NatValue) (n : Noted) (r : NatValue × Goes) : Type 0 where
  pub pool : PoolPorts
  pub at : p ≡ GivesBackLost
  pub value : x ≡ Free pool
  pub goes_on : r ≡ (Free (give_back n.freed.protocol n.freed.port pool), dropped n over_limit)

-- where hosts have a limit, this is a mapping's port
abbrev pub IsPort : Option ℕ → ℕ → Type 0
IsPort None port = Unit {0}
IsPort (Some most) port = (port == no_port) ≡ false

-- or the touch is the same, and of a lost port the packet's source has its mapping
pub record Agrees (limit : Option ℕ) (p : Place) (x : NatValue) (n : Noted) (r : NatValue × Goes) : Type 0 where
  pub same : r ≡ touched p x n
  pub port : (pool : PoolPorts) → p ≡ GivesBackLost → x ≡ Free pool → IsPort limit n.port

abbrev pub Comes : Option ℕ → Place → NatValue → Noted → NatValue × Goes → Type 0
Comes limit p x n r =
    Agrees limit p x n r ⊎ ((GivesUp p x n r ⊎ DropsFull p x n r) ⊎ (RefusesBind limit p x n r ⊎ DropsLate p x n r))

none_found : (key : Endpoint) (now : ℕ) (es : Forwards) (a : Option Slot) (b : Option (Endpoint × Slot))
    → (found key now es a b).0 ≡ Absent None → (found key now es a b).1 ≡ es
none_found key now es (Some slot) b is = by (is_idle now (key, slot)) is
  where
    by : (t : Bool) → (found_there key now es slot t).0 ≡ Absent None → (found_there key now es slot t).1 ≡ es
    by true is = absurd (cc)
    by false is = absurd (cc)
none_found key now es None (Some e) is = absurd (cc)
none_found key now es None None is = refl

after_same : (most : ℕ) (n : Noted) (f : Find) (es : Forwards)
    → (after_find_within most n f es ≡ after_find n f)
    ⊎ ((f ≡ Absent None) × (after_find_within most n f es ≡ dropped n over_limit))
after_same most n (Live port) es = inl refl
after_same most n (Absent (Some freed)) es = inl refl
after_same most n (Absent None) es = by (is_full most n.source es)
  where
    by : (b : Bool)
        → ((if b then dropped n over_limit else goes DrawsWord n) ≡ goes DrawsWord n)
        ⊎ ((Absent None ≡ Absent None)
        × ((if b then dropped n over_limit else goes DrawsWord n) ≡ dropped n over_limit))
    by true = inr (refl, refl)
    by false = inl refl

module _ (May : Endpoint → Slot → Type 0) (most : ℕ) (n : Noted) (es : Forwards) (all : AreMappings May es) where
  abbrev FindComes : Find × Forwards → Type 0
  FindComes r =
      Comes (Some most) FindsMapping (Mapped es) n (Mapped r.1, after_find_within most n r.0 r.1)

  abbrev r : Find × Forwards
  r = find n.source n.time es

  as_found : FindComes r
  as_found = by (after_same most n r.0 r.1)
    where
      by : (after_find_within most n r.0 r.1 ≡ after_find n r.0)
          ⊎ ((r.0 ≡ Absent None) × (after_find_within most n r.0 r.1 ≡ dropped n over_limit)) → FindComes r
      by (inl same) =
          inl (record { same = ap (λ (g : Goes). (Mapped r.1, g)) same; port = λ pool at value. absurd (cc) })
      by (inr (none, to)) =
          let left : r.1 ≡ es =
          none_found n.source n.time es (slot_of n.source es) (first_idle n.time es) none in
          inr (inl (inr (record {
            es = es;
            at = refl;
            value = refl;
            goes_on =
                ap (λ (g : Goes). (Mapped r.1, g)) to
                ∙ ap (λ (fs : Forwards). (Mapped fs, dropped n over_limit)) left;
          })))

  up_by : (o : Option (Endpoint × Slot)) → is_full most n.source es ≡ true → first_idle_of n.source n.time es ≡ o
      → FindComes (given_up es o)
  up_by None full is =
      rw full (inr (inl (inr (record { es = es; at = refl; value = refl; goes_on = refl }))))
  up_by (Some gone) full is =
      let first = first_is May n.source n.time es gone all is in
      inr (inl (inl (record {
        es = es;
        gone = gone;
        at = refl;
        value = refl;
        goes_on = refl;
        there = first.0;
        idle = first.1;
      })))

  full_by : (b : Bool) → is_full most n.source es ≡ b
      → FindComes (if b then given_up es (first_idle_of n.source n.time es) else find n.source n.time es)
  full_by true full = up_by (first_idle_of n.source n.time es) full refl
  full_by false full = as_found

  found_by : (a : Option Slot) → FindComes (found_within most n.source n.time es a)
  found_by (Some slot) = as_found
  found_by None = full_by (is_full most n.source es) refl

bind_comes : (most : ℕ) (n : Noted) (es : Forwards) (a : Option Slot)
    → (let r = bound_within most n.source n.port n.time es a in
    Comes (Some most) FindsOrBinds (Mapped es) n (Mapped r.1, after_bind_within n r.0))
bind_comes most n es (Some slot) = inl (record { same = refl; port = λ pool at value. absurd (cc) })
bind_comes most n es None = by (is_full most n.source es)
  where
    by : (b : Bool)
        → (let bound : Option Bind × Forwards =
        (let f = find_or_bind n.source n.port n.time es in (Some f.0, f.1)) in
        let none : Option Bind × Forwards = (None, es) in
        let r : Option Bind × Forwards = if b then none else bound in
        Comes (Some most) FindsOrBinds (Mapped es) n (Mapped r.1, after_bind_within n r.0))
    by true = inr (inr (inl (record {
      es = es;
      most = most;
      within = refl;
      at = refl;
      value = refl;
      goes_on = refl;
    })))
    by false = inl (record { same = refl; port = λ pool at value. absurd (cc) })

lost_comes : (most : ℕ) (n : Noted) (pool : PoolPorts) (b : Bool) → (is_refused n) ≡ b
    → Comes (Some most) GivesBackLost (Free pool) n
    (Free (give_back n.freed.protocol n.freed.port pool), after_lost n b)
lost_comes most n pool true is = inr (inr (inr (record { pool = pool; at = refl; value = refl; goes_on = refl })))
lost_comes most n pool false is = inl (record { same = refl; port = λ pool at value. is })

limited_comes : (May : Endpoint → Slot → Type 0) (most : ℕ) (p : Place) (x : NatValue) (n : Noted)
    → ((es : Forwards) → x ≡ Mapped es → AreMappings May es) → Comes (Some most) p x n (limited most p x n)
limited_comes May most HearsTime x n all =
    inl (record { same = refl; port = λ pool at value. absurd (cc) })
limited_comes May most FindsMapping (Dropped d) n all =
    inl (record { same = refl; port = λ pool at value. absurd (cc) })
limited_comes May most FindsMapping (Free pool) n all =
    inl (record { same = refl; port = λ pool at value. absurd (cc) })
limited_comes May most FindsMapping (Mapped es) n all =
    found_by May most n es (all es refl) (slot_of n.source es)
limited_comes May most FindsMapping (Taken bs) n all =
    inl (record { same = refl; port = λ pool at value. absurd (cc) })
limited_comes May most UnbindsFreed x n all =
    inl (record { same = refl; port = λ pool at value. absurd (cc) })
limited_comes May most GivesBackFreed x n all =
    inl (record { same = refl; port = λ pool at value. absurd (cc) })
limited_comes May most DrawsWord x n all =
    inl (record { same = refl; port = λ pool at value. absurd (cc) })
limited_comes May most ReservesPort x n all =
    inl (record { same = refl; port = λ pool at value. absurd (cc) })
limited_comes May most BindsPort x n all =
    inl (record { same = refl; port = λ pool at value. absurd (cc) })
limited_comes May most FindsOrBinds (Dropped d) n all =
    inl (record { same = refl; port = λ pool at value. absurd (cc) })
limited_comes May most FindsOrBinds (Free pool) n all =
    inl (record { same = refl; port = λ pool at value. absurd (cc) })
limited_comes May most FindsOrBinds (Mapped es) n all = bind_comes most n es (slot_of n.source es)
limited_comes May most FindsOrBinds (Taken bs) n all =
    inl (record { same = refl; port = λ pool at value. absurd (cc) })
limited_comes May most UnbindsLost x n all =
    inl (record { same = refl; port = λ pool at value. absurd (cc) })
limited_comes May most GivesBackLost (Dropped d) n all =
    inl (record { same = refl; port = λ pool at value. absurd (cc) })
limited_comes May most GivesBackLost (Free pool) n all = lost_comes most n pool (is_refused n) refl
limited_comes May most GivesBackLost (Mapped es) n all =
    inl (record { same = refl; port = λ pool at value. absurd (cc) })
limited_comes May most GivesBackLost (Taken bs) n all =
    inl (record { same = refl; port = λ pool at value. absurd (cc) })
limited_comes May most FindsEndpoint x n all =
    inl (record { same = refl; port = λ pool at value. absurd (cc) })
limited_comes May most AsksIfLives x n all =
    inl (record { same = refl; port = λ pool at value. absurd (cc) })
limited_comes May most CountsDrop x n all =
    inl (record { same = refl; port = λ pool at value. absurd (cc) })
limited_comes May most SendsOut x n all =
    inl (record { same = refl; port = λ pool at value. absurd (cc) })
limited_comes May most Ends x n all =
    inl (record { same = refl; port = λ pool at value. absurd (cc) })
limited_comes May most FindsPort x n all =
    inl (record { same = refl; port = λ pool at value. absurd (cc) })

-- each touch
pub touch_comes : (s : Settings) (v : ℕ) (limit : Option ℕ) (p : Place) (x : NatValue) (n : Noted) → Fits s v x
    → Comes limit p x n (touched_by limit p x n)
touch_comes s v None p x n fits = inl (record { same = refl; port = λ pool at value. tt })
touch_comes s v (Some most) p x n fits =
    limited_comes (MayMap s v) most p x n (λ es is. (subst (Fits s v) is fits).2)

-- what is said of the hosts of a value
abbrev pub IsWithin : Option ℕ → Forwards → NatValue → Type 0
IsWithin limit statics (Dropped d) = Unit {0}
IsWithin limit statics (Free pool) = Unit {0}
IsWithin limit statics (Mapped es) = AreWithin limit statics es
IsWithin limit statics (Taken bs) = Unit {0}

none_within : (statics : Forwards) (x : NatValue) → IsWithin None statics x
none_within statics (Dropped d) = tt
none_within statics (Free pool) = tt
none_within statics (Mapped es) = tt
none_within statics (Taken bs) = tt

find_is_within : (May : Endpoint → Slot → Type 0) (most : ℕ) (statics : Forwards) (n : Noted) (es : Forwards)
    → AreMappings May es → AreWithin (Some most) statics es
    → AreWithin (Some most) statics (find_within most n.source n.time es).1
find_is_within May most statics n es all within = by (slot_of n.source es)
  where
    plain : AreWithin (Some most) statics (find n.source n.time es).1
    plain = within_fewer (Some most) statics es (find n.source n.time es).1 (fewer_find n.source n.time es) within

    up_by : (o : Option (Endpoint × Slot)) → first_idle_of n.source n.time es ≡ o
        → AreWithin (Some most) statics (given_up es o).1
    up_by None is = within
    up_by (Some gone) is =
        let first = first_is May n.source n.time es gone all is in
        within_fewer (Some most) statics es (without gone.0 es)
        (λ w. let a = total_without w gone.0 gone.1 es first.0 in omega (arith, a)) within

    full_by : (b : Bool)
        → AreWithin (Some most) statics
        (if b then given_up es (first_idle_of n.source n.time es) else find n.source n.time es).1
    full_by true = up_by (first_idle_of n.source n.time es) refl
    full_by false = plain

    by : (a : Option Slot) → AreWithin (Some most) statics (found_within most n.source n.time es a).1
    by (Some slot) = plain
    by None = full_by (is_full most n.source es)

limited_within : (May : Endpoint → Slot → Type 0) (most : ℕ) (statics : Forwards) (p : Place) (x : NatValue)
    (n : Noted) → ((es : Forwards) → x ≡ Mapped es → AreMappings May es) → IsWithin (Some most) statics x
    → IsWithin (Some most) statics (limited most p x n).0
limited_within May most statics HearsTime x n all within = within
limited_within May most statics FindsMapping (Dropped d) n all within = tt
limited_within May most statics FindsMapping (Free pool) n all within = tt
limited_within May most statics FindsMapping (Mapped es) n all within =
    find_is_within May most statics n es (all es refl) within
limited_within May most statics FindsMapping (Taken bs) n all within = tt
limited_within May most statics UnbindsFreed (Dropped d) n all within = tt
limited_within May most statics UnbindsFreed (Free pool) n all within = tt
limited_within May most statics UnbindsFreed (Mapped es) n all within = within
limited_within May most statics UnbindsFreed (Taken bs) n all within = tt
limited_within May most statics GivesBackFreed (Dropped d) n all within = tt
limited_within May most statics GivesBackFreed (Free pool) n all within = tt
limited_within May most statics GivesBackFreed (Mapped es) n all within = within
limited_within May most statics GivesBackFreed (Taken bs) n all within = tt
limited_within May most statics DrawsWord x n all within = within
limited_within May most statics ReservesPort (Dropped d) n all within = tt
limited_within May most statics ReservesPort (Free pool) n all within = tt
limited_within May most statics ReservesPort (Mapped es) n all within = within
limited_within May most statics ReservesPort (Taken bs) n all within = tt
limited_within May most statics BindsPort (Dropped d) n all within = tt
limited_within May most statics BindsPort (Free pool) n all within = tt
limited_within May most statics BindsPort (Mapped es) n all within = within
limited_within May most statics BindsPort (Taken bs) n all within = tt
limited_within May most statics FindsOrBinds (Dropped d) n all within = tt
limited_within May most statics FindsOrBinds (Free pool) n all within = tt
limited_within May most statics FindsOrBinds (Mapped es) n all within =
    bound_is_within most statics n.source n.port n.time es (slot_of n.source es) refl within
limited_within May most statics FindsOrBinds (Taken bs) n all within = tt
limited_within May most statics UnbindsLost (Dropped d) n all within = tt
limited_within May most statics UnbindsLost (Free pool) n all within = tt
limited_within May most statics UnbindsLost (Mapped es) n all within = within
limited_within May most statics UnbindsLost (Taken bs) n all within = tt
limited_within May most statics GivesBackLost (Dropped d) n all within = tt
limited_within May most statics GivesBackLost (Free pool) n all within = tt
limited_within May most statics GivesBackLost (Mapped es) n all within = within
limited_within May most statics GivesBackLost (Taken bs) n all within = tt
limited_within May most statics FindsEndpoint x n all within = within
limited_within May most statics AsksIfLives x n all within = within
limited_within May most statics CountsDrop (Dropped d) n all within = tt
limited_within May most statics CountsDrop (Free pool) n all within = tt
limited_within May most statics CountsDrop (Mapped es) n all within = within
limited_within May most statics CountsDrop (Taken bs) n all within = tt
limited_within May most statics SendsOut x n all within = within
limited_within May most statics Ends x n all within = within
limited_within May most statics FindsPort x n all within = within

pub touch_within : (s : Settings) (v : ℕ) (limit : Option ℕ) (statics : Forwards) (p : Place) (x : NatValue)
    (n : Noted) → Fits s v x → IsWithin limit statics x → IsWithin limit statics (touched_by limit p x n).0
touch_within s v None statics p x n fits within = none_within statics (touched p x n).0
touch_within s v (Some most) statics p x n fits within =
    limited_within (MayMap s v) most statics p x n (λ es is. (subst (Fits s v) is fits).2) within
