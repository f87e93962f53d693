-- The moves of a thread of the box: where its packet is before each, and the kind of the value that it finds.
use Rattle.std.proofs.Common.{◌≡◌, ℕ, ◌+◌, ◌*◌, ◌<◌, ◌≤◌, List, refl, ap, subst, arith, Option, Some, None}
use Rattle.std.specs.Prelude.{slice_get}
use Rattle.plain_text.specs.declared.packet.Packet.{Packet}
use Rattle.entry_order.specs.Log.{Entry}
use Rattle.plain_machine.specs.declared.local.Move.{Move}
use Rattle.plain_machine.specs.declared.local.Move.TheVariants.{Access, Read, Clock, Draw, Emit, End}
use Rattle.plain_machine.specs.Machine.{Hand, Thread, Effect, Takes, Touches, Looks, HearsClock, HearsDraw, Sends}
use Rattle.plain_machine.specs.History.{Did}
use Rattle.plain_machine.specs.Machine.{Ends as EndsIt, Moves, holding, sent_packet, take_move, hand_move, held_move}
use Rattle.nat_tables.specs.Ports.{PoolPorts}
use Rattle.nat_tables.specs.Forwards.{Forwards}
use Rattle.nat_tables.specs.Reverses.{Reverses}
use Rattle.nat_box.specs.declared.place.Place.{Place}
use Rattle.nat_box.specs.declared.place.Place.TheVariants.{HearsTime, FindsMapping, UnbindsFreed, GivesBackFreed}
use Rattle.nat_box.specs.declared.place.Place.TheVariants.{DrawsWord, ReservesPort, BindsPort, FindsOrBinds}
use Rattle.nat_box.specs.declared.place.Place.TheVariants.{UnbindsLost, GivesBackLost, FindsEndpoint, AsksIfLives}
use Rattle.nat_box.specs.declared.place.Place.TheVariants.{CountsDrop, SendsOut, Ends, FindsPort}
use Rattle.nat_box.specs.declared.place.Noted.{Noted}
use Rattle.flow_boxes.specs.declared.drops.Drops.{Drops}
use Rattle.nat_box.specs.declared.value.NatValue.{NatValue}
use Rattle.nat_box.specs.declared.value.NatValue.TheVariants.{Dropped, Free, Mapped, Taken}
use Rattle.nat_box.specs.Places.{place_numbered, noted}
use Rattle.nat_box.specs.Settings.{Settings, AreSettings}
use Rattle.nat_box.specs.Nat.{goes, next_move, seen_by, begun, touched_by, followed, looked, told, local_at}
use Rattle.nat_box.specs.Nat.{nat_meaning, Fits}
use Rattle.nat_box.specs.Ranks.{var_of, touches_it, reads_it, below_all}
use Rattle.nat_box.proofs.Making.{goes_on, comes_to}

-- Where a touch is made, and of which value

pub data TouchKind : Place → NatValue → Type 0 where
  finds : (es : Forwards) → TouchKind FindsMapping (Mapped es)
  unbinds_freed : (bs : Reverses) → TouchKind UnbindsFreed (Taken bs)
  gives_freed : (pool : PoolPorts) → TouchKind GivesBackFreed (Free pool)
  reserves : (pool : PoolPorts) → TouchKind ReservesPort (Free pool)
  binds : (bs : Reverses) → TouchKind BindsPort (Taken bs)
  finds_or_binds : (es : Forwards) → TouchKind FindsOrBinds (Mapped es)
  unbinds_lost : (bs : Reverses) → TouchKind UnbindsLost (Taken bs)
  gives_lost : (pool : PoolPorts) → TouchKind GivesBackLost (Free pool)
  counts : (d : Drops) → TouchKind CountsDrop (Dropped d)

pub data LookKind : Place → NatValue → Type 0 where
  finds_endpoint : (bs : Reverses) → LookKind FindsEndpoint (Taken bs)
  asks : (es : Forwards) → LookKind AsksIfLives (Mapped es)
  finds_port : (es : Forwards) → LookKind FindsPort (Mapped es)

is_dropped : (s : Settings) (v : ℕ) (x : NatValue) → v ≡ 0 → Fits s v x → (d : Drops) × (Dropped d ≡ x)
is_dropped s v (Dropped d) e fits = (d, refl)
is_dropped s v (Free pool) e fits = let a = fits.0 in absurd (omega arith)
is_dropped s v (Mapped es) e fits = let a = fits.0 in absurd (omega arith)
is_dropped s v (Taken bs) e fits = let a = fits.0 in absurd (omega arith)

is_free : (s : Settings) (v : ℕ) (x : NatValue) → v ≡ 1 → Fits s v x → (pool : PoolPorts) × (Free pool ≡ x)
is_free s v (Dropped d) e fits = absurd (omega arith)
is_free s v (Free pool) e fits = (pool, refl)
is_free s v (Mapped es) e fits = let a = fits.0 in absurd (omega arith)
is_free s v (Taken bs) e fits = let a = fits.0 in absurd (omega arith)

is_mapped : (s : Settings) (v : ℕ) (x : NatValue) → 2 ≤ v → v < 2 + s.shards → Fits s v x
    → (es : Forwards) × (Mapped es ≡ x)
is_mapped s v (Dropped d) low high fits = absurd (omega arith)
is_mapped s v (Free pool) low high fits = let a = fits.0 in absurd (omega arith)
is_mapped s v (Mapped es) low high fits = (es, refl)
is_mapped s v (Taken bs) low high fits = let a = fits.0 in absurd (omega arith)

is_taken : (s : Settings) (v : ℕ) (x : NatValue) → 2 + s.shards ≤ v → Fits s v x → (bs : Reverses) × (Taken bs ≡ x)
is_taken s v (Dropped d) low fits = absurd (omega arith)
is_taken s v (Free pool) low fits = let a = fits.0 in absurd (omega arith)
is_taken s v (Mapped es) low fits = let a = fits.1 in absurd (omega arith)
is_taken s v (Taken bs) low fits = (bs, refl)

module _ (s : Settings) (some : 1 ≤ s.shards) (n : Noted) (v : ℕ) (x : NatValue) (fits : Fits s v x) where
  mapped_kind : (p : Place) → (2 ≤ v) × (v < 2 + s.shards) → ((es : Forwards) → TouchKind p (Mapped es)) → TouchKind p x
  mapped_kind p at kind = let a = is_mapped s v x at.0 at.1 fits in subst (TouchKind p) a.1 (kind a.0)

  taken_kind : (p : Place) → 2 + s.shards ≤ v → ((bs : Reverses) → TouchKind p (Taken bs)) → TouchKind p x
  taken_kind p at kind = let a = is_taken s v x at fits in subst (TouchKind p) a.1 (kind a.0)

  free_kind : (p : Place) → v ≡ 1 → ((pool : PoolPorts) → TouchKind p (Free pool)) → TouchKind p x
  free_kind p at kind = let a = is_free s v x at fits in subst (TouchKind p) a.1 (kind a.0)

  dropped_kind : (p : Place) → v ≡ 0 → ((d : Drops) → TouchKind p (Dropped d)) → TouchKind p x
  dropped_kind p at kind = let a = is_dropped s v x at fits in subst (TouchKind p) a.1 (kind a.0)

  kind_at : (p : Place) → next_move s p n ≡ Access v → var_of s p n ≡ v → TouchKind p x
  kind_at HearsTime e at = absurd (cc)
  kind_at FindsMapping e at = mapped_kind FindsMapping (omega arith, omega arith) (λ es. finds es)
  kind_at UnbindsFreed e at = taken_kind UnbindsFreed (omega arith) (λ bs. unbinds_freed bs)
  kind_at GivesBackFreed e at = free_kind GivesBackFreed (omega arith) (λ pool. gives_freed pool)
  kind_at DrawsWord e at = absurd (cc)
  kind_at ReservesPort e at = free_kind ReservesPort (omega arith) (λ pool. reserves pool)
  kind_at BindsPort e at = taken_kind BindsPort (omega arith) (λ bs. binds bs)
  kind_at FindsOrBinds e at = mapped_kind FindsOrBinds (omega arith, omega arith) (λ es. finds_or_binds es)
  kind_at UnbindsLost e at = taken_kind UnbindsLost (omega arith) (λ bs. unbinds_lost bs)
  kind_at GivesBackLost e at = free_kind GivesBackLost (omega arith) (λ pool. gives_lost pool)
  kind_at FindsEndpoint e at = absurd (cc)
  kind_at AsksIfLives e at = absurd (cc)
  kind_at CountsDrop e at = dropped_kind CountsDrop (omega arith) (λ d. counts d)
  kind_at SendsOut e at = absurd (cc)
  kind_at Ends e at = absurd (cc)
  kind_at FindsPort e at = absurd (cc)

  pub touch_kind : (p : Place) → next_move s p n ≡ Access v → TouchKind p x
  touch_kind p e = kind_at p e (touches_it s p n v e)

  read_at : (p : Place) → next_move s p n ≡ Read v → var_of s p n ≡ v → LookKind p x
  read_at HearsTime e at = absurd (cc)
  read_at FindsMapping e at = absurd (cc)
  read_at UnbindsFreed e at = absurd (cc)
  read_at GivesBackFreed e at = absurd (cc)
  read_at DrawsWord e at = absurd (cc)
  read_at ReservesPort e at = absurd (cc)
  read_at BindsPort e at = absurd (cc)
  read_at FindsOrBinds e at = absurd (cc)
  read_at UnbindsLost e at = absurd (cc)
  read_at GivesBackLost e at = absurd (cc)
  read_at FindsEndpoint e at =
      let a = is_taken s v x (omega arith) fits in subst (LookKind FindsEndpoint) a.1 (finds_endpoint a.0)
  read_at AsksIfLives e at =
      let a = is_mapped s v x (omega arith) (omega arith) fits in subst (LookKind AsksIfLives) a.1 (asks a.0)
  read_at CountsDrop e at = absurd (cc)
  read_at SendsOut e at = absurd (cc)
  read_at Ends e at = absurd (cc)
  read_at FindsPort e at =
      let a = is_mapped s v x (omega arith) (omega arith) fits in subst (LookKind FindsPort) a.1 (finds_port a.0)

  pub look_kind : (p : Place) → next_move s p n ≡ Read v → LookKind p x
  look_kind p e = read_at p e (reads_it s p n v e)

-- Where the other moves are made

pub at_clock : (s : Settings) (p : Place) (n : Noted) → next_move s p n ≡ Clock → p ≡ HearsTime
at_clock s HearsTime n e = refl
at_clock s FindsMapping n e = absurd (cc)
at_clock s UnbindsFreed n e = absurd (cc)
at_clock s GivesBackFreed n e = absurd (cc)
at_clock s DrawsWord n e = absurd (cc)
at_clock s ReservesPort n e = absurd (cc)
at_clock s BindsPort n e = absurd (cc)
at_clock s FindsOrBinds n e = absurd (cc)
at_clock s UnbindsLost n e = absurd (cc)
at_clock s GivesBackLost n e = absurd (cc)
at_clock s FindsEndpoint n e = absurd (cc)
at_clock s AsksIfLives n e = absurd (cc)
at_clock s CountsDrop n e = absurd (cc)
at_clock s SendsOut n e = absurd (cc)
at_clock s Ends n e = absurd (cc)
at_clock s FindsPort n e = absurd (cc)

pub at_draw : (s : Settings) (p : Place) (n : Noted) → next_move s p n ≡ Draw → p ≡ DrawsWord
at_draw s HearsTime n e = absurd (cc)
at_draw s FindsMapping n e = absurd (cc)
at_draw s UnbindsFreed n e = absurd (cc)
at_draw s GivesBackFreed n e = absurd (cc)
at_draw s DrawsWord n e = refl
at_draw s ReservesPort n e = absurd (cc)
at_draw s BindsPort n e = absurd (cc)
at_draw s FindsOrBinds n e = absurd (cc)
at_draw s UnbindsLost n e = absurd (cc)
at_draw s GivesBackLost n e = absurd (cc)
at_draw s FindsEndpoint n e = absurd (cc)
at_draw s AsksIfLives n e = absurd (cc)
at_draw s CountsDrop n e = absurd (cc)
at_draw s SendsOut n e = absurd (cc)
at_draw s Ends n e = absurd (cc)
at_draw s FindsPort n e = absurd (cc)

pub at_emit : (s : Settings) (p : Place) (n : Noted) → next_move s p n ≡ Emit → p ≡ SendsOut
at_emit s HearsTime n e = absurd (cc)
at_emit s FindsMapping n e = absurd (cc)
at_emit s UnbindsFreed n e = absurd (cc)
at_emit s GivesBackFreed n e = absurd (cc)
at_emit s DrawsWord n e = absurd (cc)
at_emit s ReservesPort n e = absurd (cc)
at_emit s BindsPort n e = absurd (cc)
at_emit s FindsOrBinds n e = absurd (cc)
at_emit s UnbindsLost n e = absurd (cc)
at_emit s GivesBackLost n e = absurd (cc)
at_emit s FindsEndpoint n e = absurd (cc)
at_emit s AsksIfLives n e = absurd (cc)
at_emit s CountsDrop n e = absurd (cc)
at_emit s SendsOut n e = refl
at_emit s Ends n e = absurd (cc)
at_emit s FindsPort n e = absurd (cc)

pub at_end : (s : Settings) (p : Place) (n : Noted) → next_move s p n ≡ End → p ≡ Ends
at_end s HearsTime n e = absurd (cc)
at_end s FindsMapping n e = absurd (cc)
at_end s UnbindsFreed n e = absurd (cc)
at_end s GivesBackFreed n e = absurd (cc)
at_end s DrawsWord n e = absurd (cc)
at_end s ReservesPort n e = absurd (cc)
at_end s BindsPort n e = absurd (cc)
at_end s FindsOrBinds n e = absurd (cc)
at_end s UnbindsLost n e = absurd (cc)
at_end s GivesBackLost n e = absurd (cc)
at_end s FindsEndpoint n e = absurd (cc)
at_end s AsksIfLives n e = absurd (cc)
at_end s CountsDrop n e = absurd (cc)
at_end s SendsOut n e = absurd (cc)
at_end s Ends n e = refl
at_end s FindsPort n e = absurd (cc)

-- What is so of each move of a thread is so of the one that was made.

abbrev pub at : Hand → Place
at h = place_numbered h.place.at

pub touched_below : (s : Settings) → AreSettings s → (h : Hand) (v : ℕ) → comes_to s h (Access v) → v < 2 + 2 * s.shards
touched_below s is h v e = subst (λ (u : ℕ). u < 2 + 2 * s.shards) (touches_it s (at h) (noted h.place) v e)
    (below_all s (at h) (noted h.place) is.some)

pub read_below : (s : Settings) → AreSettings s → (h : Hand) (v : ℕ) → comes_to s h (Read v) → v < 2 + 2 * s.shards
read_below s is h v e = subst (λ (u : ℕ). u < 2 + 2 * s.shards) (reads_it s (at h) (noted h.place) v e)
    (below_all s (at h) (noted h.place) is.some)

abbrev pub begins_with : Settings → Packet → Option Hand
begins_with s p = Some (record { packet = p; place = local_at (begun s (seen_by s p)) })

-- Of the thread after it
module _ (s : Settings) (packets : List Packet) (value : ℕ → NatValue) (taken : ℕ)
    (P : Option Hand → Thread → Effect NatValue → Type 0)
    (take : (p : Packet) → slice_get packets taken ≡ Some p
    → P None (holding (taken + 1) p (local_at (begun s (seen_by s p)))) Takes)
    (touch : (h : Hand) (v : ℕ) → comes_to s h (Access v)
    → P (Some h) (holding taken h.packet (local_at (touched_by s.limit (at h) (value v) (noted h.place)).1))
    (Touches v (followed s (noted h.place) (touched_by s.limit (at h) (value v) (noted h.place)).0)))
    (look : (h : Hand) (v : ℕ) → comes_to s h (Read v)
    → P (Some h) (holding taken h.packet (local_at (looked (at h) (value v) (noted h.place)))) (Looks v))
    (clock : (h : Hand) (a : ℕ) → comes_to s h Clock
    → P (Some h) (holding taken h.packet (local_at (told (at h) a (noted h.place)))) (HearsClock a))
    (draw : (h : Hand) (a : ℕ) → comes_to s h Draw
    → P (Some h) (holding taken h.packet (local_at (told (at h) a (noted h.place)))) (HearsDraw a))
    (send : (h : Hand) → comes_to s h Emit
    → P (Some h) (holding taken h.packet (local_at (goes Ends (noted h.place))))
    (Sends (sent_packet (nat_meaning s) h)))
    (end : (h : Hand) → comes_to s h End → P (Some h) (record { taken = taken; hand = None }) EndsIt) where
  module _ (after : Thread) (d : Effect NatValue) where
    along : (before : Option Hand) (th : Thread) (u : Effect NatValue) → th ≡ after → u ≡ d → P before th u
        → P before after d
    along before th u q r h =
        subst (λ (x : Effect NatValue). P before after x) r (subst (λ (x : Thread). P before x u) q h)

    of_hand : (h : Hand) (a : Option ℕ) (w : Move) → comes_to s h w
        → hand_move (nat_meaning s) value taken h a w ≡ Moves after d → P (Some h) after d
    of_hand h None (Access v) w e =
        along (Some h) (holding taken h.packet ((nat_meaning s).touch v (value v) h.place).1)
        (Touches v ((nat_meaning s).touch v (value v) h.place).0) (cc) (cc) (touch h v w)
    of_hand h None (Read v) w e = along (Some h) (holding taken h.packet ((nat_meaning s).look v (value v) h.place))
        (Looks v) (cc) (cc) (look h v w)
    of_hand h (Some x) Clock w e = along (Some h) (holding taken h.packet ((nat_meaning s).told x h.place))
        (HearsClock x) (cc) (cc) (clock h x w)
    of_hand h (Some x) Draw w e = along (Some h) (holding taken h.packet ((nat_meaning s).told x h.place))
        (HearsDraw x) (cc) (cc) (draw h x w)
    of_hand h None Emit w e =
        along (Some h) (holding taken h.packet ((nat_meaning s).emitted h.place))
        (Sends (sent_packet (nat_meaning s) h)) (cc) (cc) (send h w)
    of_hand h None End w e = along (Some h) (record { taken = taken; hand = None }) EndsIt (cc) (cc) (end h w)
    of_hand h (Some x) (Access v) w e = absurd (cc)
    of_hand h (Some x) (Read v) w e = absurd (cc)
    of_hand h (Some x) Emit w e = absurd (cc)
    of_hand h (Some x) End w e = absurd (cc)
    of_hand h None Clock w e = absurd (cc)
    of_hand h None Draw w e = absurd (cc)

    of_none : (a : Option ℕ) (i : Option Packet) → slice_get packets taken ≡ i
        → take_move (nat_meaning s) taken a i ≡ Moves after d → P None after d
    of_none (Some a) i is e = absurd (cc)
    of_none None None is e = absurd (cc)
    of_none None (Some p) is e =
        along None (holding (taken + 1) p ((nat_meaning s).begin p)) Takes (cc) (cc) (take p is)

    pub by_thread_move : (hand : Option Hand) (a : Option ℕ)
        → held_move (nat_meaning s) packets value taken a hand ≡ Moves after d → P hand after d
    by_thread_move None a e = of_none a (slice_get packets taken) refl e
    by_thread_move (Some h) a e = of_hand h a (next_move s (place_numbered h.place.at) (noted h.place)) refl e

-- and of the hand after it
module _ (s : Settings) (packets : List Packet) (value : ℕ → NatValue) (taken : ℕ)
    (P : Option Hand → Option Hand → Effect NatValue → Type 0)
    (take : (p : Packet) → slice_get packets taken ≡ Some p → P None (begins_with s p) Takes)
    (touch : (h : Hand) (v : ℕ) → comes_to s h (Access v)
    → P (Some h) (goes_on h (touched_by s.limit (at h) (value v) (noted h.place)).1)
    (Touches v (followed s (noted h.place) (touched_by s.limit (at h) (value v) (noted h.place)).0)))
    (look : (h : Hand) (v : ℕ) → comes_to s h (Read v)
    → P (Some h) (goes_on h (looked (at h) (value v) (noted h.place))) (Looks v))
    (clock : (h : Hand) (a : ℕ) → comes_to s h Clock
    → P (Some h) (goes_on h (told (at h) a (noted h.place))) (HearsClock a))
    (draw : (h : Hand) (a : ℕ) → comes_to s h Draw
    → P (Some h) (goes_on h (told (at h) a (noted h.place))) (HearsDraw a))
    (send : (h : Hand) → comes_to s h Emit
    → P (Some h) (goes_on h (goes Ends (noted h.place))) (Sends (sent_packet (nat_meaning s) h)))
    (end : (h : Hand) → comes_to s h End → P (Some h) None EndsIt) where
  pub by_move : (after : Thread) (d : Effect NatValue) (hand : Option Hand) (a : Option ℕ)
      → held_move (nat_meaning s) packets value taken a hand ≡ Moves after d → P hand after.hand d
  by_move after d hand a e =
      by_thread_move s packets value taken (λ before th u. P before th.hand u) take touch look clock draw send end after
      d hand a e

-- the entry of a move is this one
pub entry_is : (a b : Entry) (left right : Option NatValue) → Did a left ≡ Did b right → a.what ≡ b.what
entry_is a b left right e = let same : a ≡ b = cc in ap (λ (x : Entry). x.what) same
