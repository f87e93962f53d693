-- The laws of programs, of the box with 1 to 64 tables and 1 to 64 backends.
use Rattle.std.specs.Prelude.{◌≡◌, ℕ, ◌+◌, ◌<◌, Bool, true, false, List, length, Option, Some, None, Result, Ok, Err}
use Rattle.std.specs.Prelude.{◌==◌, ◌&&◌, if◌then◌else◌, nat_lt, slice_get, refl, [], ◌∷◌, ◌++◌}
use Rattle.std.proofs.Common.{arith, sym, subst, ◌∙◌}
use Rattle.std.proofs.lemmas.Grind.{common_steps}
use Rattle.std.proofs.lemmas.Bool.Decides.{nat_tests}
use Rattle.packet_headers.specs.declared.flow.Flow.{Flow}
use Rattle.packet_headers.specs.declared.flow.NotFlow.{NotFlow}
use Rattle.packet_headers.specs.View.{viewed}
use Rattle.packet_headers.specs.Fields.{put_word, put_long}
use Rattle.packet_headers.specs.Rewriting.{rewritten}
use Rattle.plain_machine.specs.Program.{IsLawful}
use Rattle.nat_tables.specs.declared.entries.Endpoint.{Endpoint}
use Rattle.nat_tables.specs.declared.slot.Slot.{Slot}
use Rattle.nat_tables.specs.declared.phase.Phase.{Phase}
use Rattle.nat_tables.specs.declared.phase.Phase.TheVariants.{Plain, Opening, Established, Closing, EndedByClient}
use Rattle.nat_tables.specs.declared.phase.Phase.TheVariants.{EndedByServer, Kept}
use Rattle.nat_tables.specs.Forwards.{refreshed}
use Rattle.nat_tables.specs.declared.entries.Find.{Find}
use Rattle.nat_tables.specs.declared.entries.Find.TheVariants.{Live, Absent}
use Rattle.nat_tables.specs.Forwards.{Forwards, is_idle, slot_of, first_idle, found, find, bound, lives, AreMappings}
use Rattle.nat_tables.specs.Forwards.{refresh, lives_at}
use Rattle.nat_tables.proofs.Keeping.{keeps_refreshed, keeps_without, keeps_without_idle, keeps_bound, keeps_in_phase}
use Rattle.nat_tables.proofs.Keeping.{may_slot}
use Rattle.balancer_box.specs.declared.settings.Backend.{Backend}
use Rattle.balancer_box.specs.declared.place.Place.{Place}
use Rattle.balancer_box.specs.declared.place.Place.TheVariants.{HearsTime, FindsConnection, LowersIdle, RaisesLeast}
use Rattle.balancer_box.specs.declared.place.Place.TheVariants.{Connects, LowersSpare, ChecksConnection, CountsDrop}
use Rattle.balancer_box.specs.declared.place.Place.TheVariants.{SendsOut, LowersVain, Ends}
use Rattle.balancer_box.specs.declared.place.Class.{Class}
use Rattle.balancer_box.specs.declared.place.Class.TheVariants.{Client, Answer}
use Rattle.balancer_box.specs.declared.place.Tells.{Tells}
use Rattle.balancer_box.specs.declared.place.Tells.TheVariants.{Nothing, Opens, Finishes, Resets}
use Rattle.balancer_box.specs.declared.place.Noted.{Noted}
use Rattle.balancer_box.specs.declared.value.BalancerValue.{BalancerValue}
use Rattle.balancer_box.specs.declared.value.BalancerValue.TheVariants.{Dropped, Loaded, Connected}
use Rattle.balancer_box.specs.Loads.{raised, lowered, least_loaded, no_loads}
use Rattle.balancer_box.specs.Connections.{closed, find_connection, without_if, phase_finished, phase_told}
use Rattle.balancer_box.specs.Places.{place_numbered}
use Rattle.balancer_box.specs.Settings.{Settings, AreSettings}
use Rattle.balancer_box.specs.Balancer.{table_of, begun, begins, touched, told, frame_to, frame_out, bytes_out}
use Rattle.balancer_box.specs.Balancer.{fresh_value, phase_then, ends, noting, gives_way, met, met_there, met_by}
use Rattle.balancer_box.specs.Balancer.{new_slot, connected_by, checked_there, checked_by, finds, connects, checks}
use Rattle.balancer_box.specs.Balancer.{noted_by, balancer_meaning, HasPhase, MayConnect, Fits}
use Rattle.balancer_box.specs.Noting.{IsNoted, is_noted}
use Rattle.balancer_box.specs.Ranks.{var_of, touches_it, reads_none, draws_none, below_all, rank_at, touch_falls_at}
use Rattle.balancer_box.specs.Ranks.{clock_falls_at, emit_falls_at, ends_at, few_to_make}

-- Values fit

pub long_raised : (number : ℕ) (loads : List ℕ) → length (raised number loads) ≡ length loads
long_raised number loads = by (nat_lt number (length loads)) refl
  where
    by : (b : Bool) → nat_lt number (length loads) ≡ b → length (raised number loads) ≡ length loads
    by true q = rw q (grind (arith, common_steps))
    by false q = rw q refl

pub long_lowered : (number : ℕ) (loads : List ℕ) → length (lowered number loads) ≡ length loads
long_lowered number loads = by (nat_lt number (length loads)) refl
  where
    by : (b : Bool) → nat_lt number (length loads) ≡ b → length (lowered number loads) ≡ length loads
    by true q = rw q (grind (arith, common_steps))
    by false q = rw q refl

module _ (May : Endpoint → Slot → Type 0) (again : (key : Endpoint) (now : ℕ) (slot : Slot) → May key slot
    → May key (refreshed now slot)) where
  fits_found : (key : Endpoint) (now : ℕ) (es : Forwards) (a : Option Slot) (b : Option (Endpoint × Slot))
      → AreMappings May es → AreMappings May (found key now es a b).1
  fits_found key now es (Some slot) b all = by (is_idle now (key, slot)) refl
    where
      by : (t : Bool) → is_idle now (key, slot) ≡ t → AreMappings May (found key now es (Some slot) b).1
      by true q = rw q (keeps_without May key es all)
      by false q = rw q (keeps_refreshed May key now es (again key now) all)
  fits_found key now es None (Some e) all = keeps_without_idle May now es all
  fits_found key now es None None all = all

  fits_without_if : (b : Bool) (key : Endpoint) (es : Forwards) → AreMappings May es
      → AreMappings May (without_if b key es)
  fits_without_if true key es all = keeps_without May key es all
  fits_without_if false key es all = all

  fits_closed : (f : Find) (resets : Bool) (key : Endpoint) (es : Forwards) → AreMappings May es
      → AreMappings May (closed f resets key es)
  fits_closed (Live backend) resets key es all = fits_without_if resets key es all
  fits_closed (Absent idle) resets key es all = all

  pub fits_find : (resets : Bool) (key : Endpoint) (now : ℕ) (es : Forwards) → AreMappings May es
      → AreMappings May (find_connection resets key now es).1
  fits_find resets key now es all =
      let r = find key now es in
      fits_closed r.0 resets key r.1 (fits_found key now es (slot_of key es) (first_idle now es) all)

  fits_bound : (key : Endpoint) (backend now : ℕ) (es : Forwards) (a : Option Slot) → slot_of key es ≡ a
      → May key (record { port = backend; last = now; phase = Plain }) → AreMappings May es
      → AreMappings May (bound key backend now es a).1
  fits_bound key backend now es (Some slot) is may all = keeps_refreshed May key now es (again key now) all
  fits_bound key backend now es None is may all =
      keeps_bound May key (record { port = backend; last = now; phase = Plain }) es is may all

-- the phase after a packet

finished_fits : (closing : Option ℕ) (protocol seconds : ℕ) (side : Class) (phase : Phase) → closing ≡ Some seconds
    → protocol ≡ 6 → HasPhase closing protocol phase → HasPhase closing protocol (phase_finished seconds side phase)
finished_fits closing protocol seconds Client Plain is tcp has = (seconds, is, tcp)
finished_fits closing protocol seconds Client (Opening old) is tcp has = has
finished_fits closing protocol seconds Client Established is tcp has = has
finished_fits closing protocol seconds Client (Closing old) is tcp has = has
finished_fits closing protocol seconds Client EndedByClient is tcp has = has
finished_fits closing protocol seconds Client EndedByServer is tcp has = (is, tcp)
finished_fits closing protocol seconds Client Kept is tcp has = has
finished_fits closing protocol seconds Answer Plain is tcp has = (seconds, is, tcp)
finished_fits closing protocol seconds Answer (Opening old) is tcp has = has
finished_fits closing protocol seconds Answer Established is tcp has = has
finished_fits closing protocol seconds Answer (Closing old) is tcp has = has
finished_fits closing protocol seconds Answer EndedByClient is tcp has = (is, tcp)
finished_fits closing protocol seconds Answer EndedByServer is tcp has = has
finished_fits closing protocol seconds Answer Kept is tcp has = has

told_fits : (closing : Option ℕ) (protocol seconds : ℕ) (side : Class) (t : Tells) (phase : Phase)
    → closing ≡ Some seconds → protocol ≡ 6 → HasPhase closing protocol phase
    → HasPhase closing protocol (phase_told seconds side t phase)
told_fits closing protocol seconds side Nothing phase is tcp has = has
told_fits closing protocol seconds side Opens phase is tcp has = has
told_fits closing protocol seconds side Finishes phase is tcp has =
    finished_fits closing protocol seconds side phase is tcp has
told_fits closing protocol seconds side Resets phase is tcp has = (is, tcp)

phase_fits : (closing : Option ℕ) (seconds : ℕ) (n : Noted) (phase : Phase) → closing ≡ Some seconds
    → HasPhase closing n.client.protocol phase → HasPhase closing n.client.protocol (phase_then seconds n phase)
phase_fits closing seconds n phase is has = by (n.client.protocol == 6) refl
  where
    by : (b : Bool) → (n.client.protocol == 6) ≡ b
        → HasPhase closing n.client.protocol (phase_told seconds n.class (if b then n.tells else Nothing) phase)
    by true q =
        let tcp : n.client.protocol ≡ 6 = grind (arith, nat_tests) in
        told_fits closing n.client.protocol seconds n.class n.tells phase is tcp has
    by false q = has

module _ (s : Settings) (v : ℕ) (n : Noted) (es : Forwards) (all : AreMappings (MayConnect s v) es) where
  may_refresh : AreMappings (MayConnect s v) (refresh n.client n.time es)
  may_refresh = keeps_refreshed (MayConnect s v) n.client n.time es (λ slot may. may) all

  noting_fits : (seconds : ℕ) (slot : Slot) (left : Forwards) → s.closing ≡ Some seconds
      → HasPhase s.closing n.client.protocol slot.phase → AreMappings (MayConnect s v) left
      → AreMappings (MayConnect s v) (noting seconds n slot left)
  noting_fits seconds slot left is has fit =
      keeps_in_phase (MayConnect s v) n.client (phase_then seconds n slot.phase) left
      (λ other may. (may.0, may.1, may.2, phase_fits s.closing seconds n slot.phase is has)) fit

  has_phase : (slot : Slot) → slot_of n.client es ≡ Some slot → HasPhase s.closing n.client.protocol slot.phase
  has_phase slot at = (may_slot (MayConnect s v) n.client slot es at all).3

  finds_fit : (c : Option ℕ) → s.closing ≡ c → AreMappings (MayConnect s v) (finds c n es).0
  finds_fit None is = fits_find (MayConnect s v) (λ key now slot may. may) n.resets n.client n.time es all
  finds_fit (Some seconds) is = by (slot_of n.client es) (first_idle n.time es) refl
    where
      met_fits : (slot : Slot) (b : Bool) → slot_of n.client es ≡ Some slot
          → AreMappings (MayConnect s v) (met seconds n es slot b).0
      met_fits slot true at = keeps_without (MayConnect s v) n.client es all
      met_fits slot false at =
          noting_fits seconds slot (refresh n.client n.time es) is (has_phase slot at) may_refresh

      there_fits : (slot : Slot) (b : Bool) → slot_of n.client es ≡ Some slot
          → AreMappings (MayConnect s v) (met_there seconds n es slot b).0
      there_fits slot true at = keeps_without (MayConnect s v) n.client es all
      there_fits slot false at = met_fits slot (gives_way n slot) at

      by : (o : Option Slot) (idle : Option (Endpoint × Slot)) → slot_of n.client es ≡ o
          → AreMappings (MayConnect s v) (met_by seconds n es o idle).0
      by (Some slot) idle at = there_fits slot (is_idle n.time (n.client, slot)) at
      by None (Some e) at = keeps_without_idle (MayConnect s v) n.time es all
      by None None at = all

  connects_fit : (c : Option ℕ) → s.closing ≡ c → IsNoted (length s.backends) n → v ≡ table_of s n.client
      → AreMappings (MayConnect s v) (connects c n es).0
  connects_fit None is noted at = fits_bound (MayConnect s v) (λ key now slot may. may) n.client n.backend n.time es
      (slot_of n.client es) refl (at, noted.protocol, noted.backend, tt) all
  connects_fit (Some seconds) is noted at = by (slot_of n.client es) refl
    where
      by : (o : Option Slot) → slot_of n.client es ≡ o → AreMappings (MayConnect s v) (connected_by seconds n es o).0
      by (Some slot) there =
          noting_fits seconds slot (refresh n.client n.time es) is (has_phase slot there) may_refresh
      by None there = noting_fits seconds (new_slot n) (es ++ (n.client, new_slot n) ∷ []) is tt
          (keeps_bound (MayConnect s v) n.client (new_slot n) es there (at, noted.protocol, noted.backend, tt) all)

  checks_fit : (c : Option ℕ) → s.closing ≡ c → AreMappings (MayConnect s v) (checks c n es).0
  checks_fit None is =
      fits_without_if (MayConnect s v) (λ key now slot may. may) (lives n.client n.backend n.time es && n.resets)
      n.client es all
  checks_fit (Some seconds) is = by (slot_of n.client es) refl
    where
      there_fits : (slot : Slot) (b : Bool) → slot_of n.client es ≡ Some slot
          → AreMappings (MayConnect s v) (checked_there seconds n es slot b).0
      there_fits slot true at = noting_fits seconds slot es is (has_phase slot at) all
      there_fits slot false at = all

      by : (o : Option Slot) → slot_of n.client es ≡ o → AreMappings (MayConnect s v) (checked_by seconds n es o).0
      by (Some slot) at = there_fits slot (lives_at n.client n.backend n.time (Some slot)) at
      by None at = all

touched_fits : (s : Settings) (p : Place) (x : BalancerValue) (n : Noted) (v : ℕ) → IsNoted (length s.backends) n
    → var_of s p n ≡ v → Fits s v x → Fits s v (touched s.closing p x n).0
touched_fits s HearsTime x n v is e fits = fits
touched_fits s FindsConnection (Dropped d) n v is e fits = fits
touched_fits s FindsConnection (Loaded loads) n v is e fits = fits
touched_fits s FindsConnection (Connected es) n v is e fits =
    (fits.0, fits.1, finds_fit s v n es fits.2 s.closing refl)
touched_fits s LowersIdle (Dropped d) n v is e fits = fits
touched_fits s LowersIdle (Loaded loads) n v is e fits = (fits.0, long_lowered n.spare loads ∙ fits.1)
touched_fits s LowersIdle (Connected es) n v is e fits = fits
touched_fits s RaisesLeast (Dropped d) n v is e fits = fits
touched_fits s RaisesLeast (Loaded loads) n v is e fits = (fits.0, long_raised (least_loaded loads) loads ∙ fits.1)
touched_fits s RaisesLeast (Connected es) n v is e fits = fits
touched_fits s Connects (Dropped d) n v is e fits = fits
touched_fits s Connects (Loaded loads) n v is e fits = fits
touched_fits s Connects (Connected es) n v is e fits =
    (fits.0, fits.1, connects_fit s v n es fits.2 s.closing refl is (sym e))
touched_fits s LowersVain (Dropped d) n v is e fits = fits
touched_fits s LowersSpare (Dropped d) n v is e fits = fits
touched_fits s LowersVain (Loaded loads) n v is e fits = (fits.0, long_lowered n.spare loads ∙ fits.1)
touched_fits s LowersSpare (Loaded loads) n v is e fits = (fits.0, long_lowered n.spare loads ∙ fits.1)
touched_fits s LowersVain (Connected es) n v is e fits = fits
touched_fits s LowersSpare (Connected es) n v is e fits = fits
touched_fits s ChecksConnection (Dropped d) n v is e fits = fits
touched_fits s ChecksConnection (Loaded loads) n v is e fits = fits
touched_fits s ChecksConnection (Connected es) n v is e fits =
    (fits.0, fits.1, checks_fit s v n es fits.2 s.closing refl)
touched_fits s CountsDrop (Dropped d) n v is e fits = fits
touched_fits s CountsDrop (Loaded loads) n v is e fits = fits
touched_fits s CountsDrop (Connected es) n v is e fits = fits
touched_fits s SendsOut x n v is e fits = fits
touched_fits s Ends x n v is e fits = fits

long_none : (count : ℕ) → length (no_loads count) ≡ count
long_none count = grind (arith, common_steps)

fresh_fits_at : (s : Settings) (v : ℕ) → v < 2 + s.shards → Fits s v (fresh_value s v)
fresh_fits_at s v low = by (v == 0) (v == 1) refl refl
  where
    by : (a b : Bool) → (v == 0) ≡ a → (v == 1) ≡ b → Fits s v (fresh_value s v)
    by true b e f = rw e (grind (arith, nat_tests))
    by false true e f = rw (e, f) (grind (arith, nat_tests), long_none (length s.backends))
    by false false e f = rw (e, f) (grind (arith, nat_tests), low, tt)

-- Frames keep their length

long_word : (frame : List ℕ) (place word : ℕ) → length (put_word frame place word) ≡ length frame
long_word frame place word = grind (arith, common_steps)

long_long : (frame : List ℕ) (place number : ℕ) → length (put_long frame place number) ≡ length frame
long_long frame place number = long_word _ _ _ ∙ long_word _ _ _

long_rewritten : (frame : List ℕ) (flow : Flow) (address_place port_place address port : ℕ)
    → length (rewritten frame flow address_place port_place address port) ≡ length frame
long_rewritten frame flow address_place port_place address port =
    long_word _ _ _ ∙ long_long _ _ _ ∙ long_word _ _ _ ∙ long_word _ _ _

long_to : (bytes : List ℕ) (flow : Flow) (o : Option Backend) → length (frame_to bytes flow o) ≡ length bytes
long_to bytes flow (Some b) = long_rewritten bytes flow 30 (flow.transport_at + 2) b.address b.port
long_to bytes flow None = refl

long_out : (s : Settings) (bytes : List ℕ) (n : Noted) (seen : Result Flow NotFlow)
    → length (bytes_out s bytes n seen) ≡ length bytes
long_out s bytes n (Err answer) = refl
long_out s bytes n (Ok flow) = by n.class
  where
    by : (c : Class) → length (frame_out s c bytes flow n) ≡ length bytes
    by Client = long_to bytes flow (slice_get s.backends n.backend)
    by Answer = long_rewritten bytes flow 26 flow.transport_at s.address s.port

pub balancer_lawful : (s : Settings) → AreSettings s → IsLawful (balancer_meaning s) (Fits s)
balancer_lawful s is = record {
  some_vars = omega arith;
  few_vars = omega (arith, is.few);
  touches_var = λ l v e. subst (λ (u : ℕ). u < 2 + s.shards) (touches_it s (place_numbered l.at) (noted_by s l) v e)
      (below_all s (place_numbered l.at) (noted_by s l) is.some);
  reads_var = λ l v e. absurd (reads_none s (place_numbered l.at) (noted_by s l) v e);
  begins = λ p. rw (rank_at (begun s (viewed p.bytes p.original))) (few_to_make s (viewed p.bytes p.original));
  touch_falls = λ v x l e f. rw (rank_at (touched s.closing (place_numbered l.at) x (noted_by s l)).1)
      (touch_falls_at s (place_numbered l.at) x (noted_by s l) v e);
  look_falls = λ v x l e f. absurd (reads_none s (place_numbered l.at) (noted_by s l) v e);
  clock_falls = λ a l e. rw (rank_at (told (place_numbered l.at) a (noted_by s l)))
      (clock_falls_at s (place_numbered l.at) a (noted_by s l) e);
  draw_falls = λ a l e. absurd (draws_none s (place_numbered l.at) (noted_by s l) e);
  emit_falls = λ l e. emit_falls_at s (place_numbered l.at) (noted_by s l) e;
  ends = λ l e. ends_at s (place_numbered l.at) (noted_by s l) e;
  fresh_fits = λ v low. fresh_fits_at s v low;
  touch_fits = λ v x l e f. touched_fits s (place_numbered l.at) x (noted_by s l) v
      (is_noted (length s.backends) l is.some_backends) (touches_it s (place_numbered l.at) (noted_by s l) v e) f;
  as_long = λ p l e. long_out s p.bytes (noted_by s l) (viewed p.bytes p.original);
}
