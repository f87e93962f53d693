-- What becomes of taps in their places when packets are shown.
use Rattle.std.specs.Prelude.{◌≡◌, ℕ, suc, ◌<◌, ◌≤◌, true, false, List, ◌++◌, Option, Some, None, length, take}
use Rattle.std.specs.Prelude.{slice_get, slice_set}
use Rattle.plain_text.specs.declared.packet.Packet.{Packet}
use Rattle.world_io.specs.Stream.{Rose}
use Rattle.packet_taps.specs.declared.place.Taken.{Taken}
use Rattle.packet_taps.specs.declared.place.LostPacket.{LostPacket}
use Rattle.packet_taps.specs.declared.place.Place.{Place}
use Rattle.packet_taps.specs.declared.place.Place.TheVariants.{Seated, Lost, Out}
use Rattle.packet_taps.specs.Windows.{window, skip_behind, quota_behind}

abbrev pub IsSeatedAt : {T : Type 0} → List (Place T) → ℕ → Type 0
IsSeatedAt {T} places seat = (taken : Taken T) × (slice_get places seat ≡ Some (Seated taken))

abbrev pub IsLostAt : {T : Type 0} → List (Place T) → ℕ → Type 0
IsLostAt {T} places seat = (lost : LostPacket T) × (slice_get places seat ≡ Some (Lost lost))

-- the tap that sits there is taken out; none comes exactly where none sits there, and then all stays
abbrev pub TakesOut : {T : Type 0} → ℕ → Option (Taken T) → List (Place T) → List (Place T) → Type 0
TakesOut seat None old new = ¬ IsSeatedAt old seat × (new ≡ old)
TakesOut seat (Some taken) old new = (slice_get old seat ≡ Some (Seated taken)) × (new ≡ slice_set old seat Out)

module _ {T : Type 0} (saw missed : T → List Packet → Type 0) (faults lacks : T → ℕ) where
  -- A tap that stays was shown, after what it had, the window of these packets by its numbers. They go on after them.
  pub record Stays (packets : List Packet) (old new : Taken T) : Type 0 where
    pub saw_window : (before : List Packet) → saw old.tap before
        → saw new.tap (before ++ window old.skip old.quota packets)
    pub faults_kept : faults old.tap ≤ faults new.tap
    pub lacks_kept : lacks old.tap ≤ lacks new.tap
    pub skip : new.skip ≡ skip_behind old.skip (length packets)
    pub quota : new.quota ≡ quota_behind old.skip old.quota (length packets)

  -- A tap that is lost was shown a first part of the window, and did not take the packet after it. It counted why.
  pub record IsLost (packets : List Packet) (old : Taken T) (lost : LostPacket T) : Type 0 where
    pub count : ℕ
    pub within : count < length (window old.skip old.quota packets)
    pub missed_next : (before : List Packet) → saw old.tap before
        → missed lost.object (before ++ take (suc count) (window old.skip old.quota packets))
    pub failed : lost.memory ≡ false → Rose (faults old.tap) (faults lost.object)
    pub lacked : lost.memory ≡ true → Rose (lacks old.tap) (lacks lost.object)

  -- what becomes of a tap that sits in a seat
  abbrev pub Follows : List Packet → Taken T → Place T → Type 0
  Follows packets old (Seated new) = Stays packets old new
  Follows packets old (Lost lost) = IsLost packets old lost
  Follows packets old Out = ⊥

  -- these packets were shown to the tap that sat in this place; a place without one stays as it was
  abbrev pub IsShown : List Packet → Place T → Place T → Type 0
  IsShown packets (Seated old) new = Follows packets old new
  IsShown packets (Lost lost) new = new ≡ Lost lost
  IsShown packets Out new = new ≡ Out

  -- these packets were shown to the taps of all places
  pub record AreShown (packets : List Packet) (old new : List (Place T)) : Type 0 where
    pub count : length new ≡ length old
    pub each : (k : ℕ) (place : Place T) → slice_get new k ≡ Some place
        → (was : Place T) × (slice_get old k ≡ Some was) × IsShown packets was place

  -- some packets were shown, and this is said of them
  pub record HasShown (said : List Packet → Type 0) (old new : List (Place T)) : Type 0 where
    pub packets : List Packet
    pub shown : AreShown packets old new
    pub told : said packets
