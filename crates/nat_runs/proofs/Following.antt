-- Connections are followed as the settings say.
use Rattle.std.proofs.Common.{◌≡◌, ℕ, refl, sym, ap, ◌∙◌, ◌⊎◌, inl, inr, Option, Some, None}
use Rattle.std.specs.Prelude.{Result, Ok, Err}
use Rattle.packet_headers.specs.declared.flow.NotFlow.{NotFlow}
use Rattle.packet_headers.specs.declared.flow.Flow.{Flow}
use Rattle.plain_machine.specs.History.{value_after}
use Rattle.plain_machine.proofs.Bounds.{values_fit}
use Rattle.nat_tables.specs.declared.entries.Endpoint.{Endpoint}
use Rattle.nat_tables.specs.declared.slot.Slot.{Slot}
use Rattle.nat_tables.specs.declared.phase.Phase.{Phase}
use Rattle.nat_tables.specs.declared.phase.Phase.TheVariants.{Plain, Opening, Established, Closing}
use Rattle.nat_tables.specs.declared.phase.Phase.TheVariants.{EndedByClient, EndedByServer, Kept}
use Rattle.nat_tables.specs.declared.phase.Segment.TheVariants.{Silent}
use Rattle.nat_box.specs.declared.place.Class.{Class}
use Rattle.nat_box.specs.declared.place.Noted.{Noted}
use Rattle.nat_box.specs.declared.value.NatValue.{NatValue}
use Rattle.nat_box.specs.declared.value.NatValue.TheVariants.{Dropped, Free, Mapped, Taken}
use Rattle.nat_box.specs.Places.{place_numbered, noted}
use Rattle.nat_box.specs.Settings.{Settings}
use Rattle.nat_box.specs.Nat.{flow_in, class_in, segment_told, begun_by, touched_by, followed_by}
use Rattle.nat_box.specs.Nat.{followed}
use Rattle.nat_box.specs.Nat.{local_at, nat_meaning, HasPhase, MayMap, Fits}
use Rattle.nat_box.specs.Lawful.{nat_lawful}
use Rattle.nat_box.specs.Sentences.{Has, mappings_in}
use Rattle.nat_runs.specs.Following.{IsFollowedBy, FollowedByTheLine, NoneFollowedWithoutIt, TouchesAsBefore}
use Rattle.nat_runs.specs.Following.{BeginsAsBefore}
use Rattle.nat_runs.proofs.TableEntries.{may_mapping}

phase_is : (closing : Option ℕ) (protocol : ℕ) (phase : Phase) → HasPhase closing protocol phase
    → IsFollowedBy closing protocol phase
phase_is closing protocol Plain is = tt
phase_is closing protocol (Opening seconds) is = is
phase_is closing protocol Established is = is
phase_is closing protocol (Closing seconds) is = is
phase_is closing protocol EndedByClient is = is
phase_is closing protocol EndedByServer is = is
phase_is closing protocol Kept is = tt

mapping_phase : (s : Settings) (v : ℕ) (x : NatValue) (key : Endpoint) (slot : Slot) → Fits s v x
    → Has (mappings_in x) (key, slot) → HasPhase s.closing key.protocol slot.phase
mapping_phase s v (Dropped d) key slot fits h = absurd h
mapping_phase s v (Free pool) key slot fits h = absurd h
mapping_phase s v (Mapped es) key slot fits h = (may_mapping (MayMap s v) key slot es fits.2 h).3
mapping_phase s v (Taken bs) key slot fits h = absurd h

pub followed_by_the_line : FollowedByTheLine
followed_by_the_line s threads inputs steps v key slot is h there =
    let fits = values_fit (nat_meaning s) (Fits s) (nat_lawful s is) inputs threads steps h in
    phase_is s.closing key.protocol slot.phase
    (mapping_phase s v (value_after (nat_meaning s) steps v) key slot (fits v there.0) there.1)

none_followed : (closing : Option ℕ) (protocol : ℕ) (phase : Phase) → closing ≡ None
    → IsFollowedBy closing protocol phase → (phase ≡ Plain) ⊎ (phase ≡ Kept)
none_followed closing protocol Plain none is = inl refl
none_followed closing protocol (Opening seconds) none is = absurd (let e : None ≡ Some seconds = sym none ∙ is.0 in cc)
none_followed closing protocol Established none is = absurd (let e : None ≡ Some is.0 = sym none ∙ is.1 in cc)
none_followed closing protocol (Closing seconds) none is = absurd (let e : None ≡ Some seconds = sym none ∙ is.0 in cc)
none_followed closing protocol EndedByClient none is = absurd is
none_followed closing protocol EndedByServer none is = absurd is
none_followed closing protocol Kept none is = inr refl

pub none_followed_without_it : NoneFollowedWithoutIt
none_followed_without_it s threads inputs steps v key slot is h none there =
    none_followed s.closing key.protocol slot.phase none
    (followed_by_the_line s threads inputs steps v key slot is h there)

-- without a number

not_followed : (s : Settings) (n : Noted) (x : NatValue) → s.closing ≡ None → followed s n x ≡ x
not_followed s n (Dropped d) none = refl
not_followed s n (Free pool) none = refl
not_followed s n (Mapped es) none = ap (λ (c : Option ℕ). Mapped (followed_by c n es)) none
not_followed s n (Taken bs) none = refl

pub touches_as_before : TouchesAsBefore
touches_as_before s none v x l =
    let r = touched_by s.limit (place_numbered l.at) x (noted l) in
    ap (λ (left : NatValue). (left, local_at r.1)) (not_followed s (noted l) r.0 none)

pub begins_as_before : BeginsAsBefore
begins_as_before s none seen = by (flow_in seen) (class_in s seen)
  where
    by : (r : Result Flow NotFlow) (o : Option Class) → (begun_by s r o).noted.segment ≡ Silent
    by (Err answer) o = refl
    by (Ok flow) None = refl
    by (Ok flow) (Some class) = ap (λ (c : Option ℕ). segment_told c flow.flags) none
