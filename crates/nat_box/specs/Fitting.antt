-- Each touch leaves a value that fits its variable.
use Rattle.std.specs.Prelude.{◌≡◌, ℕ, zero, suc, ◌+◌, ◌-◌, ◌%◌, ◌^◌, ◌<◌, ◌≤◌, Bool, true, false, List, [], ◌∷◌, ◌++◌}
use Rattle.std.specs.Prelude.{length, take, drop, slice_index, Option, Some, None, ◌==◌, nat_lt, refl, if◌then◌else◌}
use Rattle.std.specs.List.{remove}
use Rattle.std.proofs.Common.{arith, sym, subst, inl, inr}
use Rattle.std.proofs.lemmas.Bool.Decides.{nat_tests}
use Rattle.nat_tables.specs.declared.entries.Endpoint.{Endpoint}
use Rattle.nat_tables.specs.declared.entries.PortKey.{PortKey}
use Rattle.nat_tables.specs.declared.slot.Slot.{Slot}
use Rattle.nat_tables.specs.Ports.{Ports, PoolPorts, chosen, of_even, of_odd, is_even, reserved_of, with_port}
use Rattle.nat_tables.specs.Ports.{given_back_to, reserve, is_in_range, give_back, IsBelow, AreOfParity, ArePorts}
use Rattle.nat_tables.specs.Ports.{has_port, ports_without}
use Rattle.nat_tables.specs.Keys.{port_key}
use Rattle.nat_tables.specs.Forwards.{Forwards, is_idle, slot_of, first_idle, found, bound}
use Rattle.nat_tables.specs.declared.phase.Phase.{Phase}
use Rattle.nat_tables.specs.declared.phase.Phase.TheVariants.{Plain, Opening, Established, Closing, EndedByClient}
use Rattle.nat_tables.specs.declared.phase.Phase.TheVariants.{EndedByServer, Kept}
use Rattle.nat_tables.specs.declared.phase.Segment.{Segment}
use Rattle.nat_tables.specs.declared.phase.Segment.TheVariants.{Silent, Opens, Carries, Closes}
use Rattle.nat_tables.specs.Phases.{phase_after}
use Rattle.nat_tables.specs.Forwards.{refreshed, mark, AreMappings, HasKept, found_there, without}
use Rattle.nat_tables.proofs.Keeping.{keeps_refreshed, keeps_without, keeps_without_idle, keeps_bound, keeps_bind}
use Rattle.nat_tables.proofs.Keeping.{keeps_unbind, keeps_marked}
use Rattle.nat_tables.proofs.Keepings.{kept_found, kept_bound, kept_marked}
use Rattle.nat_box.specs.declared.place.Place.{Place}
use Rattle.nat_box.specs.declared.place.Place.TheVariants.{HearsTime, FindsMapping, UnbindsFreed, GivesBackFreed}
use Rattle.nat_box.specs.declared.place.Place.TheVariants.{DrawsWord, ReservesPort, BindsPort, FindsOrBinds}
use Rattle.nat_box.specs.declared.place.Place.TheVariants.{UnbindsLost, GivesBackLost, FindsEndpoint, AsksIfLives}
use Rattle.nat_box.specs.declared.place.Place.TheVariants.{CountsDrop, SendsOut, Ends, FindsPort}
use Rattle.nat_box.specs.declared.place.Noted.{Noted}
use Rattle.nat_box.specs.declared.value.NatValue.{NatValue}
use Rattle.nat_box.specs.declared.value.NatValue.TheVariants.{Dropped, Free, Mapped, Taken}
use Rattle.nat_box.specs.Places.{source_key, drawn_word}
use Rattle.nat_box.specs.declared.place.Goes.{Goes}
use Rattle.nat_box.specs.Settings.{Settings, AreSettings}
use Rattle.nat_box.specs.Nat.{touched, fresh_value, MayMap, MayBind, HaveKept, Fits, HasPhase, followed_by, followed}
use Rattle.nat_box.specs.Nat.{touched_by, kept_mappings}
use Rattle.nat_box.specs.LimitLaws.{Comes, touch_comes, IsWithin, touch_within, within_fresh, within_followed}
use Rattle.nat_box.specs.Statics.{inside_of, kept, outside_ports}
use Rattle.nat_box.specs.StaticLaws.{fresh_mappings, fresh_kept, fresh_bound}
use Rattle.nat_box.specs.Noting.{IsNoted}
use Rattle.nat_box.specs.Ranks.{var_of}

-- Values fit

below_removed : (p i : ℕ) (ps : List ℕ) → IsBelow p ps → IsBelow p (take i ps ++ drop (suc i) ps)
below_removed p zero [] below = tt
below_removed p (suc i) [] below = tt
below_removed p zero (q ∷ qs) below = below.1
below_removed p (suc i) (q ∷ qs) below = (below.0, below_removed p i qs below.1)

small_removed : (r i : ℕ) (ps : List ℕ) → AreOfParity r ps → AreOfParity r (take i ps ++ drop (suc i) ps)
small_removed r zero [] small = tt
small_removed r (suc i) [] small = tt
small_removed r zero (p ∷ ps) small = small.3
small_removed r (suc i) (p ∷ ps) small = (small.0, small.1, below_removed p i ps small.2, small_removed r i ps small.3)

small_chosen : (r draw : ℕ) (ps : List ℕ) (c : ℕ × List ℕ) → chosen draw ps ≡ Some c → AreOfParity r ps
    → AreOfParity r c.1
small_chosen r draw [] c is small = absurd (cc)
small_chosen r draw (p ∷ ps) c is small =
    let at : ℕ = draw % length (p ∷ ps) in
    let same : (slice_index (p ∷ ps) at, remove (p ∷ ps) at) ≡ c = cc in
    subst (λ (c : ℕ × List ℕ). AreOfParity r c.1) same (small_removed r at (p ∷ ps) small)

abbrev SmallPorts : Ports → Type 0
SmallPorts ports = AreOfParity 0 ports.even × AreOfParity 1 ports.odd

small_of_even : (draw : ℕ) (ports : Ports) (a b : Option (ℕ × List ℕ)) → chosen draw ports.even ≡ a
    → chosen draw ports.odd ≡ b → SmallPorts ports → SmallPorts (of_even ports a b).1
small_of_even draw ports (Some c) b p q small = (small_chosen 0 draw ports.even c p small.0, small.1)
small_of_even draw ports None (Some c) p q small = (small.0, small_chosen 1 draw ports.odd c q small.1)
small_of_even draw ports None None p q small = small

small_of_odd : (draw : ℕ) (ports : Ports) (a b : Option (ℕ × List ℕ)) → chosen draw ports.even ≡ a
    → chosen draw ports.odd ≡ b → SmallPorts ports → SmallPorts (of_odd ports a b).1
small_of_odd draw ports None (Some c) p q small = (small.0, small_chosen 1 draw ports.odd c q small.1)
small_of_odd draw ports (Some d) (Some c) p q small = (small.0, small_chosen 1 draw ports.odd c q small.1)
small_of_odd draw ports (Some c) None p q small = (small_chosen 0 draw ports.even c p small.0, small.1)
small_of_odd draw ports None None p q small = small

small_reserved : (port draw : ℕ) (ports : Ports) → SmallPorts ports → SmallPorts (reserved_of port draw ports).1
small_reserved port draw ports small = by (is_even port) refl
  where
    by : (b : Bool) → is_even port ≡ b → SmallPorts (reserved_of port draw ports).1
    by true q = rw q (small_of_even draw ports (chosen draw ports.even) (chosen draw ports.odd) refl refl small)
    by false q = rw q (small_of_odd draw ports (chosen draw ports.even) (chosen draw ports.odd) refl refl small)

below_with : (a p : ℕ) (qs : List ℕ) → a < p → IsBelow a qs → IsBelow a (with_port p qs)
below_with a p [] low below = (low, tt)
below_with a p (q ∷ qs) low below = by (nat_lt p q) (p == q) refl refl (below_with a p qs low below.1)
  where
    by : (b c : Bool) → nat_lt p q ≡ b → (p == q) ≡ c → IsBelow a (with_port p qs) → IsBelow a (with_port p (q ∷ qs))
    by true c e f behind = rw e (low, below)
    by false true e f behind = rw (e, f) below
    by false false e f behind = rw (e, f) (below.0, behind)

below_lower : (p q : ℕ) (qs : List ℕ) → p < q → IsBelow q qs → IsBelow p qs
below_lower p q [] low below = tt
below_lower p q (x ∷ qs) low below = (omega (arith, below.0), below_lower p q qs low below.1)

small_with : (r p : ℕ) (qs : List ℕ) → p < 2 ^ 16 → p % 2 ≡ r → AreOfParity r qs → AreOfParity r (with_port p qs)
small_with r p [] low parity small = (low, parity, tt, tt)
small_with r p (q ∷ qs) low parity small = by (nat_lt p q) (p == q) refl refl (small_with r p qs low parity small.3)
  where
    by : (b c : Bool) → nat_lt p q ≡ b → (p == q) ≡ c → AreOfParity r (with_port p qs)
        → AreOfParity r (with_port p (q ∷ qs))
    by true c e f behind =
        let lower : p < q = grind (arith, nat_tests) in
        rw e (low, parity, (lower, below_lower p q qs lower small.2), small)
    by false true e f behind = rw (e, f) small
    by false false e f behind =
        let higher : q < p = grind (arith, nat_tests) in
        rw (e, f) (small.0, small.1, below_with q p qs higher small.2, behind)

small_given : (p : ℕ) (ports : Ports) → p < 2 ^ 16 → SmallPorts ports → SmallPorts (given_back_to p ports)
small_given p ports low small = by (is_even p) refl
  where
    by : (b : Bool) → is_even p ≡ b → SmallPorts (given_back_to p ports)
    by true q = let e : p % 2 ≡ 0 = grind (arith, nat_tests) in rw q (small_with 0 p ports.even low e small.0, small.1)
    by false q = let e : p % 2 ≡ 1 = grind (arith, nat_tests) in rw q (small.0, small_with 1 p ports.odd low e small.1)

small_without : (out : List PortKey) (protocol low n : ℕ) → low + n ≤ 2 ^ 16
    → SmallPorts (ports_without out protocol low n)
small_without out protocol low zero fit = (tt, tt)
small_without out protocol low (suc n) fit =
    by (has_port (port_key protocol (low + n)) out) refl (small_without out protocol low n (omega arith))
  where
    by : (b : Bool) → has_port (port_key protocol (low + n)) out ≡ b → SmallPorts (ports_without out protocol low n)
        → SmallPorts (ports_without out protocol low (suc n))
    by true e rest = rw e rest
    by false e rest = rw e (small_given (low + n) (ports_without out protocol low n) (omega arith) rest)

-- the pool stays one of this range
abbrev FitsPool : Settings → PoolPorts → Type 0
FitsPool s pool = (pool.low ≡ s.low) × (pool.high ≡ s.high) × ArePorts pool

fits_reserved : (s : Settings) (protocol port draw : ℕ) (pool : PoolPorts) → FitsPool s pool
    → FitsPool s (reserve protocol port draw pool).1
fits_reserved s protocol port draw pool fits = by (protocol == 6) (protocol == 17) refl refl
  where
    by : (b c : Bool) → (protocol == 6) ≡ b → (protocol == 17) ≡ c → FitsPool s (reserve protocol port draw pool).1
    by true c e f =
        let a = small_reserved port draw pool.tcp (fits.2.0, fits.2.1) in
        rw e (fits.0, fits.1, (a.0, a.1, fits.2.2, fits.2.3))
    by false true e f =
        let a = small_reserved port draw pool.udp (fits.2.2, fits.2.3) in
        rw (e, f) (fits.0, fits.1, (fits.2.0, fits.2.1, a.0, a.1))
    by false false e f = rw (e, f) fits

fits_given : (s : Settings) (protocol p : ℕ) (pool : PoolPorts) → p < 2 ^ 16 → FitsPool s pool
    → FitsPool s (give_back protocol p pool)
fits_given s protocol p pool low fits = by (is_in_range p pool) (protocol == 6) (protocol == 17) refl refl refl
  where
    by : (r b c : Bool) → is_in_range p pool ≡ r → (protocol == 6) ≡ b → (protocol == 17) ≡ c
        → FitsPool s (give_back protocol p pool)
    by false b c d e f = rw d fits
    by true true c d e f =
        let a = small_given p pool.tcp low (fits.2.0, fits.2.1) in
        rw (d, e) (fits.0, fits.1, (a.0, a.1, fits.2.2, fits.2.3))
    by true false true d e f =
        let a = small_given p pool.udp low (fits.2.2, fits.2.3) in
        rw (d, e, f) (fits.0, fits.1, (fits.2.0, fits.2.1, a.0, a.1))
    by true false false d e f = rw (d, e, f) fits

module _ (May : Endpoint → Slot → Type 0) where
  fits_found : (key : Endpoint) (now : ℕ) (es : Forwards) (a : Option Slot) (b : Option (Endpoint × Slot))
      → ((slot : Slot) → May key slot → May key (refreshed now slot)) → AreMappings May es
      → AreMappings May (found key now es a b).1
  fits_found key now es (Some slot) b may all = by (is_idle now (key, slot)) refl
    where
      by : (t : Bool) → is_idle now (key, slot) ≡ t → AreMappings May (found key now es (Some slot) b).1
      by true q = rw q (keeps_without May key es all)
      by false q = rw q (keeps_refreshed May key now es may all)
  fits_found key now es None (Some e) may all = keeps_without_idle May now es all
  fits_found key now es None None may all = all

  fits_bound : (key : Endpoint) (port now : ℕ) (es : Forwards) (a : Option Slot) → slot_of key es ≡ a
      → ((slot : Slot) → May key slot → May key (refreshed now slot))
      → May key (record { port = port; last = now; phase = Plain }) → AreMappings May es
      → AreMappings May (bound key port now es a).1
  fits_bound key port now es (Some slot) is again may all = keeps_refreshed May key now es again all
  fits_bound key port now es None is again may all =
      keeps_bound May key (record { port = port; last = now; phase = Plain }) es is may all

-- how many mappings the hosts of the settings may have in a table
abbrev AreHostsWithin : Settings → ℕ → NatValue → Type 0
AreHostsWithin s v x = IsWithin s.limit (kept_mappings s v (kept s.statics)) x

touched_fits : (s : Settings) (p : Place) (x : NatValue) (n : Noted) (v : ℕ) → IsNoted n → var_of s p n ≡ v → Fits s v x
    → AreHostsWithin s v (touched p x n).0 → Fits s v (touched p x n).0
touched_fits s HearsTime x n v is e fits within = fits
touched_fits s FindsMapping (Dropped d) n v is e fits within = fits
touched_fits s FindsMapping (Free pool) n v is e fits within = fits
touched_fits s FindsMapping (Mapped es) n v is e fits within = (
  fits.0,
  fits.1,
  fits_found (MayMap s v) n.source n.time es (slot_of n.source es) (first_idle n.time es)
      (λ slot may. may) fits.2,
  λ p is at. kept_found (inside_of p) p.outside n.source n.time es (slot_of n.source es) (first_idle n.time es) refl
      (fits.3 p is at),
  within,
)
touched_fits s FindsMapping (Taken bs) n v is e fits within = fits
touched_fits s UnbindsFreed (Dropped d) n v is e fits within = fits
touched_fits s UnbindsFreed (Free pool) n v is e fits within = fits
touched_fits s UnbindsFreed (Mapped es) n v is e fits within = fits
touched_fits s UnbindsFreed (Taken bs) n v is e fits within = (fits.0, keeps_unbind (MayBind s v) n.freed bs fits.1)
touched_fits s GivesBackFreed (Dropped d) n v is e fits within = fits
touched_fits s GivesBackFreed (Free pool) n v is e fits within =
    let a = fits_given s n.freed.protocol n.freed.port pool is.freed_port (fits.1, fits.2, fits.3) in
    (fits.0, a.0, a.1, a.2)
touched_fits s GivesBackFreed (Mapped es) n v is e fits within = fits
touched_fits s GivesBackFreed (Taken bs) n v is e fits within = fits
touched_fits s DrawsWord x n v is e fits within = fits
touched_fits s ReservesPort (Dropped d) n v is e fits within = fits
touched_fits s ReservesPort (Free pool) n v is e fits within =
    let a = fits_reserved s n.source.protocol n.source.port (drawn_word n) pool (fits.1, fits.2, fits.3) in
    (fits.0, a.0, a.1, a.2)
touched_fits s ReservesPort (Mapped es) n v is e fits within = fits
touched_fits s ReservesPort (Taken bs) n v is e fits within = fits
touched_fits s BindsPort (Dropped d) n v is e fits within = fits
touched_fits s BindsPort (Free pool) n v is e fits within = fits
touched_fits s BindsPort (Mapped es) n v is e fits within = fits
touched_fits s BindsPort (Taken bs) n v is e fits within =
    (fits.0, keeps_bind (MayBind s v) (source_key n) n.source bs (sym e, is.address, is.source_port) fits.1)
touched_fits s FindsOrBinds (Dropped d) n v is e fits within = fits
touched_fits s FindsOrBinds (Free pool) n v is e fits within = fits
touched_fits s FindsOrBinds (Mapped es) n v is e fits within = (
  fits.0,
  fits.1,
  fits_bound (MayMap s v) n.source n.port n.time es (slot_of n.source es) refl (λ slot may. may)
      (sym e, is.protocol, is.port, tt, λ q. absurd (cc)) fits.2,
  λ p is at. kept_bound (inside_of p) p.outside n.source n.port n.time es (slot_of n.source es) (fits.3 p is at),
  within,
)
touched_fits s FindsOrBinds (Taken bs) n v is e fits within = fits
touched_fits s UnbindsLost (Dropped d) n v is e fits within = fits
touched_fits s UnbindsLost (Free pool) n v is e fits within = fits
touched_fits s UnbindsLost (Mapped es) n v is e fits within = fits
touched_fits s UnbindsLost (Taken bs) n v is e fits within = (fits.0, keeps_unbind (MayBind s v) n.freed bs fits.1)
touched_fits s GivesBackLost (Dropped d) n v is e fits within = fits
touched_fits s GivesBackLost (Free pool) n v is e fits within =
    let a = fits_given s n.freed.protocol n.freed.port pool is.freed_port (fits.1, fits.2, fits.3) in
    (fits.0, a.0, a.1, a.2)
touched_fits s GivesBackLost (Mapped es) n v is e fits within = fits
touched_fits s GivesBackLost (Taken bs) n v is e fits within = fits
touched_fits s FindsEndpoint x n v is e fits within = fits
touched_fits s AsksIfLives x n v is e fits within = fits
touched_fits s CountsDrop (Dropped d) n v is e fits within = fits
touched_fits s CountsDrop (Free pool) n v is e fits within = fits
touched_fits s CountsDrop (Mapped es) n v is e fits within = fits
touched_fits s CountsDrop (Taken bs) n v is e fits within = fits
touched_fits s SendsOut x n v is e fits within = fits
touched_fits s Ends x n v is e fits within = fits
touched_fits s FindsPort x n v is e fits within = fits

-- a mapping that is idle is given up: it is of no static port
up_kept : (key : Endpoint) (port : ℕ) (now : ℕ) (gone : Endpoint × Slot) (es : Forwards)
    → slot_of gone.0 es ≡ Some gone.1 → is_idle now gone ≡ true → HasKept key port es
    → HasKept key port (without gone.0 es)
up_kept key port now gone es there idle has =
    let first : Option (Endpoint × Slot) = first_idle now es in
    subst (λ (t : Bool). HasKept key port (found_there gone.0 now es gone.1 t).1) idle
    (kept_found key port gone.0 now es (Some gone.1) first there has)

limited_fits : (s : Settings) (p : Place) (x : NatValue) (n : Noted) (v : ℕ) (r : NatValue × Goes) → IsNoted n
    → var_of s p n ≡ v → Fits s v x → AreHostsWithin s v r.0 → Comes s.limit p x n r → Fits s v r.0
limited_fits s p x n v r is e fits within (inl agrees) =
    let w : AreHostsWithin s v (touched p x n).0 =
    subst (λ (t : NatValue × Goes). AreHostsWithin s v t.0) agrees.same within in
    rw agrees.same (touched_fits s p x n v is e fits w)
limited_fits s p x n v r is e fits within (inr (inl (inl up))) =
    let f : Fits s v (Mapped up.es) = subst (Fits s v) up.value fits in
    let w : AreHostsWithin s v (Mapped (without up.gone.0 up.es)) =
    subst (λ (t : NatValue × Goes). AreHostsWithin s v t.0) up.goes_on within in
    rw up.goes_on (
      f.0,
      f.1,
      keeps_without (MayMap s v) up.gone.0 up.es f.2,
      λ q is at. up_kept (inside_of q) q.outside n.time up.gone up.es up.there up.idle (f.3 q is at),
      w,
    )
limited_fits s p x n v r is e fits within (inr (inl (inr full))) =
    rw full.goes_on (subst (Fits s v) full.value fits)
limited_fits s p x n v r is e fits within (inr (inr (inl refused))) =
    rw refused.goes_on (subst (Fits s v) refused.value fits)
limited_fits s p x n v r is e fits within (inr (inr (inr late))) =
    let f : Fits s v (Free late.pool) = subst (Fits s v) late.value fits in
    let a = fits_given s n.freed.protocol n.freed.port late.pool is.freed_port (f.1, f.2, f.3) in
    rw late.goes_on (f.0, a.0, a.1, a.2)

hosts_within : (s : Settings) (v : ℕ) (x : NatValue) → Fits s v x → AreHostsWithin s v x
hosts_within s v (Dropped d) fits = tt
hosts_within s v (Free pool) fits = tt
hosts_within s v (Mapped es) fits = fits.4
hosts_within s v (Taken bs) fits = tt

pub touch_by_fits : (s : Settings) (p : Place) (x : NatValue) (n : Noted) (v : ℕ) → IsNoted n → var_of s p n ≡ v
    → Fits s v x → Fits s v (touched_by s.limit p x n).0
touch_by_fits s p x n v is e fits =
    let within = touch_within s v s.limit (kept_mappings s v (kept s.statics)) p x n fits (hosts_within s v x fits) in
    limited_fits s p x n v (touched_by s.limit p x n) is e fits within (touch_comes s v s.limit p x n fits)

-- the segment that is noted in a mapping

phase_fits : (closing : Option ℕ) (protocol seconds : ℕ) (segment : Segment) (phase : Phase) → closing ≡ Some seconds
    → protocol ≡ 6 → HasPhase closing protocol (phase_after seconds segment phase)
phase_fits closing protocol seconds Silent Plain is tcp = (is, tcp)
phase_fits closing protocol seconds Silent (Opening old) is tcp = (is, tcp)
phase_fits closing protocol seconds Silent Established is tcp = (seconds, is, tcp)
phase_fits closing protocol seconds Silent (Closing old) is tcp = (is, tcp)
phase_fits closing protocol seconds Silent EndedByClient is tcp = (is, tcp)
phase_fits closing protocol seconds Silent EndedByServer is tcp = (is, tcp)
phase_fits closing protocol seconds Silent Kept is tcp = tt
phase_fits closing protocol seconds Opens Plain is tcp = (is, tcp)
phase_fits closing protocol seconds Opens (Opening old) is tcp = (is, tcp)
phase_fits closing protocol seconds Opens Established is tcp = (is, tcp)
phase_fits closing protocol seconds Opens (Closing old) is tcp = (is, tcp)
phase_fits closing protocol seconds Opens EndedByClient is tcp = (is, tcp)
phase_fits closing protocol seconds Opens EndedByServer is tcp = (is, tcp)
phase_fits closing protocol seconds Opens Kept is tcp = tt
phase_fits closing protocol seconds Carries Plain is tcp = (seconds, is, tcp)
phase_fits closing protocol seconds Carries (Opening old) is tcp = (seconds, is, tcp)
phase_fits closing protocol seconds Carries Established is tcp = (seconds, is, tcp)
phase_fits closing protocol seconds Carries (Closing old) is tcp = (is, tcp)
phase_fits closing protocol seconds Carries EndedByClient is tcp = (is, tcp)
phase_fits closing protocol seconds Carries EndedByServer is tcp = (is, tcp)
phase_fits closing protocol seconds Carries Kept is tcp = tt
phase_fits closing protocol seconds Closes Plain is tcp = (is, tcp)
phase_fits closing protocol seconds Closes (Opening old) is tcp = (is, tcp)
phase_fits closing protocol seconds Closes Established is tcp = (is, tcp)
phase_fits closing protocol seconds Closes (Closing old) is tcp = (is, tcp)
phase_fits closing protocol seconds Closes EndedByClient is tcp = (is, tcp)
phase_fits closing protocol seconds Closes EndedByServer is tcp = (is, tcp)
phase_fits closing protocol seconds Closes Kept is tcp = tt

-- no segment makes a mapping one that is kept for good
was_kept : (seconds : ℕ) (segment : Segment) (phase : Phase) → phase_after seconds segment phase ≡ Kept → phase ≡ Kept
was_kept seconds Silent Plain is = absurd (cc)
was_kept seconds Silent (Opening old) is = absurd (cc)
was_kept seconds Silent Established is = absurd (cc)
was_kept seconds Silent (Closing old) is = absurd (cc)
was_kept seconds Silent EndedByClient is = absurd (cc)
was_kept seconds Silent EndedByServer is = absurd (cc)
was_kept seconds Silent Kept is = refl
was_kept seconds Opens Plain is = absurd (cc)
was_kept seconds Opens (Opening old) is = absurd (cc)
was_kept seconds Opens Established is = absurd (cc)
was_kept seconds Opens (Closing old) is = absurd (cc)
was_kept seconds Opens EndedByClient is = absurd (cc)
was_kept seconds Opens EndedByServer is = absurd (cc)
was_kept seconds Opens Kept is = refl
was_kept seconds Carries Plain is = absurd (cc)
was_kept seconds Carries (Opening old) is = absurd (cc)
was_kept seconds Carries Established is = absurd (cc)
was_kept seconds Carries (Closing old) is = absurd (cc)
was_kept seconds Carries EndedByClient is = absurd (cc)
was_kept seconds Carries EndedByServer is = absurd (cc)
was_kept seconds Carries Kept is = refl
was_kept seconds Closes Plain is = absurd (cc)
was_kept seconds Closes (Opening old) is = absurd (cc)
was_kept seconds Closes Established is = absurd (cc)
was_kept seconds Closes (Closing old) is = absurd (cc)
was_kept seconds Closes EndedByClient is = absurd (cc)
was_kept seconds Closes EndedByServer is = absurd (cc)
was_kept seconds Closes Kept is = refl

followed_fit : (s : Settings) (v : ℕ) (n : Noted) (es : Forwards) (c : Option ℕ) → s.closing ≡ c
    → AreMappings (MayMap s v) es → AreMappings (MayMap s v) (followed_by c n es)
followed_fit s v n es None is all = all
followed_fit s v n es (Some seconds) is all = by (n.source.protocol == 6) refl
  where
    by : (b : Bool) → (n.source.protocol == 6) ≡ b
        → AreMappings (MayMap s v) (if b then mark n.source seconds n.segment es else es)
    by true q =
        let tcp : n.source.protocol ≡ 6 = grind (arith, nat_tests) in
        keeps_marked (MayMap s v) n.source seconds n.segment es
        (λ slot may. (
          may.0,
          may.1,
          may.2,
          phase_fits s.closing n.source.protocol seconds n.segment slot.phase is tcp,
          λ k. may.4 (was_kept seconds n.segment slot.phase k),
        )) all
    by false q = all

followed_kept : (s : Settings) (v : ℕ) (n : Noted) (es : Forwards) (c : Option ℕ) → HaveKept s v es
    → HaveKept s v (followed_by c n es)
followed_kept s v n es None all = all
followed_kept s v n es (Some seconds) all = by (n.source.protocol == 6)
  where
    by : (b : Bool) → HaveKept s v (if b then mark n.source seconds n.segment es else es)
    by true = λ p is at. kept_marked (inside_of p) p.outside n.source seconds n.segment es (all p is at)
    by false = all

pub value_fits : (s : Settings) (v : ℕ) (n : Noted) (x : NatValue) → Fits s v x → Fits s v (followed s n x)
value_fits s v n (Dropped d) fits = fits
value_fits s v n (Free pool) fits = fits
value_fits s v n (Mapped es) fits = (
  fits.0,
  fits.1,
  followed_fit s v n es s.closing refl fits.2,
  followed_kept s v n es s.closing fits.3,
  within_followed s.limit (kept_mappings s v (kept s.statics)) s.closing n es fits.4,
)
value_fits s v n (Taken bs) fits = fits

pub fresh_fits_at : (s : Settings) → AreSettings s → (v : ℕ) → Fits s v (fresh_value s v)
fresh_fits_at s is v = by (v == 0) (v == 1) (nat_lt v (2 + s.shards)) refl refl refl
  where
    by : (a b c : Bool) → (v == 0) ≡ a → (v == 1) ≡ b → nat_lt v (2 + s.shards) ≡ c → Fits s v (fresh_value s v)
    by true b c e f g = rw e (grind (arith, nat_tests))
    by false true c e f g =
        let a = start 6 in let b = start 17 in rw (e, f) (grind (arith, nat_tests), refl, refl, (a.0, a.1, b.0, b.1))
      where
        start : (protocol : ℕ)
            → SmallPorts (ports_without (outside_ports (kept s.statics)) protocol s.low (s.high + 1 - s.low))
        start protocol =
            small_without (outside_ports (kept s.statics)) protocol s.low (s.high + 1 - s.low)
            (omega (arith, is.order, is.high))
    by false false true e f g =
        rw (e, f, g) (
          grind (arith, nat_tests),
          grind (arith, nat_tests),
          fresh_mappings s v,
          fresh_kept s v,
          within_fresh s.limit (kept_mappings s v (kept s.statics)),
        )
    by false false false e f g = rw (e, f, g) (grind (arith, nat_tests), fresh_bound s v)
