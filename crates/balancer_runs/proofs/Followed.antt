-- Whose connections are followed, and what a segment tells of one.
use Rattle.std.proofs.Common.{◌≡◌, ◌≢◌, ℕ, ◌+◌, ◌<◌, Bool, true, false, List, [], refl, ap, ◌∙◌, ◌⊎◌, inl, inr, Option}
use Rattle.std.proofs.Common.{Some, None}
use Rattle.std.specs.Prelude.{◌==◌, if◌then◌else◌, bit_and}
use Rattle.std.proofs.lemmas.Bool.{eqb-true}
use Rattle.plain_text.specs.declared.packet.Packet.{Packet}
use Rattle.plain_machine.specs.History.{Step, value_after, IsHistory}
use Rattle.plain_machine.proofs.Histories.{is_eq}
use Rattle.plain_machine.proofs.Bounds.{values_fit}
use Rattle.nat_tables.specs.declared.entries.Endpoint.{Endpoint}
use Rattle.nat_tables.specs.declared.slot.Slot.{Slot}
use Rattle.nat_tables.specs.declared.phase.Phase.{Phase}
use Rattle.nat_tables.specs.declared.phase.Phase.TheVariants.{Plain, Opening, Established, Closing, EndedByClient}
use Rattle.nat_tables.specs.declared.phase.Phase.TheVariants.{EndedByServer, Kept}
use Rattle.nat_tables.specs.Forwards.{Forwards, slot_of, is_idle, first_idle, found_there, found, bound, lives}
use Rattle.nat_tables.proofs.Keeping.{may_slot}
use Rattle.balancer_box.specs.declared.place.Place.{Place}
use Rattle.balancer_box.specs.declared.place.Place.TheVariants.{HearsTime, FindsConnection, LowersIdle, RaisesLeast}
use Rattle.balancer_box.specs.declared.place.Place.TheVariants.{Connects, LowersSpare, ChecksConnection, CountsDrop}
use Rattle.balancer_box.specs.declared.place.Place.TheVariants.{SendsOut, LowersVain, Ends}
use Rattle.balancer_box.specs.declared.place.Class.{Class}
use Rattle.balancer_box.specs.declared.place.Class.TheVariants.{Client, Answer}
use Rattle.balancer_box.specs.declared.place.Tells.{Tells}
use Rattle.balancer_box.specs.declared.place.Tells.TheVariants.{Nothing, Opens, Finishes, Resets}
use Rattle.balancer_box.specs.declared.place.Noted.{Noted}
use Rattle.balancer_box.specs.declared.value.BalancerValue.{BalancerValue}
use Rattle.balancer_box.specs.declared.value.BalancerValue.TheVariants.{Dropped, Loaded, Connected}
use Rattle.balancer_box.specs.declared.place.Goes.{Goes}
use Rattle.balancer_box.specs.Connections.{phase_finished, phase_told}
use Rattle.balancer_box.specs.Places.{place_numbered}
use Rattle.balancer_box.specs.Settings.{Settings, AreSettings}
use Rattle.balancer_box.specs.Balancer.{is_virtual, backend_at, tells_of, tells_by, begun_answer, begun_flow, begins}
use Rattle.balancer_box.specs.Balancer.{goes_to, after_find, after_bind, after_check, touched, local_at, noted_by}
use Rattle.balancer_box.specs.Balancer.{balancer_meaning, HasPhase, MayConnect, Fits}
use Rattle.balancer_box.specs.Lawful.{balancer_lawful}
use Rattle.balancer_box.specs.Entries.{connections_in}
use Rattle.balancer_box.proofs.CountLemmas.{plain_of}
use Rattle.balancer_runs.specs.Following.{IsFollowedBy, FollowedByTheLine, NoneFollowedWithoutIt, touched_before}
use Rattle.balancer_runs.specs.Following.{WasPlace, TouchesAsBefore, BeginsAsBefore, IsSet, IsClear, other_side}
use Rattle.balancer_runs.specs.Following.{half_closed, Follows as SegmentFollows}

-- Whose connections are followed

phase_is : (closing : Option ℕ) (protocol : ℕ) (phase : Phase) → HasPhase closing protocol phase
    → IsFollowedBy closing protocol phase
phase_is closing protocol Plain is = tt
phase_is closing protocol (Opening seconds) is = is
phase_is closing protocol Established is = is
phase_is closing protocol (Closing seconds) is = is
phase_is closing protocol EndedByClient is = is
phase_is closing protocol EndedByServer is = is
phase_is closing protocol Kept is = is

pub connection_phase : (s : Settings) (v : ℕ) (x : BalancerValue) (client : Endpoint) (slot : Slot) → Fits s v x
    → slot_of client (connections_in x) ≡ Some slot → HasPhase s.closing client.protocol slot.phase
connection_phase s v (Dropped d) client slot fits at = absurd (cc)
connection_phase s v (Loaded loads) client slot fits at = absurd (cc)
connection_phase s v (Connected es) client slot fits at = (may_slot (MayConnect s v) client slot es at fits.2).3

run_phase : (s : Settings) (threads : ℕ) (inputs : ℕ → List Packet) (steps : List (Step BalancerValue)) (v : ℕ)
    (client : Endpoint) (slot : Slot) → AreSettings s → IsHistory (balancer_meaning s) inputs threads steps
    → v < 2 + s.shards → slot_of client (connections_in (value_after (balancer_meaning s) steps v)) ≡ Some slot
    → HasPhase s.closing client.protocol slot.phase
run_phase s threads inputs steps v client slot is h low at =
    let fits = values_fit (balancer_meaning s) (Fits s) (balancer_lawful s is) inputs threads steps h in
    connection_phase s v (value_after (balancer_meaning s) steps v) client slot (fits v low) at

pub followed_by_the_line : FollowedByTheLine
followed_by_the_line s threads inputs steps v client slot is h low at =
    phase_is s.closing client.protocol slot.phase (run_phase s threads inputs steps v client slot is h low at)

pub none_followed_without_it : NoneFollowedWithoutIt
none_followed_without_it s threads inputs steps v client slot is h none low at =
    plain_of s.closing client.protocol slot.phase none (run_phase s threads inputs steps v client slot is h low at)

-- Without a number

touched_same : (p : Place) (x : BalancerValue) (n : Noted) → WasPlace p → touched None p x n ≡ touched_before p x n
touched_same HearsTime x n was = refl
touched_same FindsConnection (Dropped d) n was = refl
touched_same FindsConnection (Loaded loads) n was = refl
touched_same FindsConnection (Connected es) n was = refl
touched_same LowersIdle (Dropped d) n was = refl
touched_same LowersIdle (Loaded loads) n was = refl
touched_same LowersIdle (Connected es) n was = refl
touched_same RaisesLeast (Dropped d) n was = refl
touched_same RaisesLeast (Loaded loads) n was = refl
touched_same RaisesLeast (Connected es) n was = refl
touched_same Connects (Dropped d) n was = refl
touched_same Connects (Loaded loads) n was = refl
touched_same Connects (Connected es) n was = refl
touched_same LowersVain x n was = absurd was
touched_same LowersSpare (Dropped d) n was = refl
touched_same LowersSpare (Loaded loads) n was = refl
touched_same LowersSpare (Connected es) n was = refl
touched_same ChecksConnection (Dropped d) n was = refl
touched_same ChecksConnection (Loaded loads) n was = refl
touched_same ChecksConnection (Connected es) n was = refl
touched_same CountsDrop (Dropped d) n was = refl
touched_same CountsDrop (Loaded loads) n was = refl
touched_same CountsDrop (Connected es) n was = refl
touched_same SendsOut x n was = refl
touched_same Ends x n was = refl

begins_was : (n : Noted) (b : Bool) → WasPlace (begins n b).place
begins_was n true = tt
begins_was n false = tt

goes_was : (n : Noted) (b : Bool) (backend : ℕ) → WasPlace (goes_to n b backend).place
goes_was n true backend = tt
goes_was n false backend = tt

find_was : (n : Noted) (es : Forwards) (o : Option Slot) (idle : Option (Endpoint × Slot))
    → WasPlace (after_find n (found n.client n.time es o idle).0).place
find_was n es (Some slot) idle = by (is_idle n.time (n.client, slot))
  where
    by : (b : Bool) → WasPlace (after_find n (found_there n.client n.time es slot b).0).place
    by true = tt
    by false = goes_was n n.resets slot.port
find_was n es None (Some e) = tt
find_was n es None None = begins_was n n.resets

bind_was : (n : Noted) (es : Forwards) (o : Option Slot)
    → WasPlace (after_bind n (bound n.client n.backend n.time es o).0).place
bind_was n es (Some slot) = tt
bind_was n es None = tt

check_was : (n : Noted) (b : Bool) → WasPlace (after_check n b).place
check_was n true = goes_was n n.resets n.backend
check_was n false = tt

touched_was : (p : Place) (x : BalancerValue) (n : Noted) → WasPlace p → WasPlace (touched_before p x n).1.place
touched_was HearsTime x n was = tt
touched_was FindsConnection (Dropped d) n was = tt
touched_was FindsConnection (Loaded loads) n was = tt
touched_was FindsConnection (Connected es) n was = find_was n es (slot_of n.client es) (first_idle n.time es)
touched_was LowersIdle (Dropped d) n was = tt
touched_was LowersIdle (Loaded loads) n was = begins_was n n.resets
touched_was LowersIdle (Connected es) n was = tt
touched_was RaisesLeast (Dropped d) n was = tt
touched_was RaisesLeast (Loaded loads) n was = tt
touched_was RaisesLeast (Connected es) n was = tt
touched_was Connects (Dropped d) n was = tt
touched_was Connects (Loaded loads) n was = tt
touched_was Connects (Connected es) n was = bind_was n es (slot_of n.client es)
touched_was LowersVain x n was = absurd was
touched_was LowersSpare (Dropped d) n was = tt
touched_was LowersSpare (Loaded loads) n was = tt
touched_was LowersSpare (Connected es) n was = tt
touched_was ChecksConnection (Dropped d) n was = tt
touched_was ChecksConnection (Loaded loads) n was = tt
touched_was ChecksConnection (Connected es) n was = check_was n (lives n.client n.backend n.time es)
touched_was CountsDrop (Dropped d) n was = tt
touched_was CountsDrop (Loaded loads) n was = tt
touched_was CountsDrop (Connected es) n was = tt
touched_was SendsOut x n was = tt
touched_was Ends x n was = tt

pub touches_as_before : TouchesAsBefore
touches_as_before s none v x l was =
    let p : Place = place_numbered l.at in
    let n : Noted = noted_by s l in
    let same : touched s.closing p x n ≡ touched_before p x n =
    ap (λ (c : Option ℕ). touched c p x n) none ∙ touched_same p x n was in
    (ap (λ (r : BalancerValue × Goes). (r.0, local_at r.1)) same, touched_was p x n was)

pub begins_as_before : BeginsAsBefore
begins_as_before s none flow = by (is_virtual s flow.dest flow.dest_port) refl
  where
    tells : Tells
    tells = tells_by s.closing flow.flags

    nothing : tells ≡ Nothing
    nothing = ap (λ (c : Option ℕ). tells_by c flow.flags) none

    by_backend : (o : Option ℕ) → (begun_answer tells flow o).noted.tells ≡ Nothing
    by_backend (Some backend) = nothing
    by_backend None = refl

    by : (b : Bool) → is_virtual s flow.dest flow.dest_port ≡ b → (begun_flow s tells flow).noted.tells ≡ Nothing
    by true q = rw q nothing
    by false q = rw q (by_backend (backend_at s.backends flow.source flow.source_port))

-- What a segment tells, by its control bits

not_zero : (k : ℕ) → k ≢ 0 → (k == 0) ≡ false
not_zero k some = by (k == 0) refl
  where
    by : (b : Bool) → (k == 0) ≡ b → (k == 0) ≡ false
    by true q = absurd (some (eqb-true _ _ q))
    by false q = q

tells_reset : (flags : ℕ) → IsSet 4 flags → tells_of flags ≡ Resets
tells_reset flags rst = rw (not_zero (bit_and flags 4) rst) refl

tells_finish : (flags : ℕ) → IsClear 4 flags → IsSet 1 flags → tells_of flags ≡ Finishes
tells_finish flags rst fin = rw (is_eq (bit_and flags 4) 0 rst, not_zero (bit_and flags 1) fin) refl

pub tells_open : (flags : ℕ) → IsClear 4 flags → IsClear 1 flags → IsSet 2 flags → IsClear 16 flags
    → tells_of flags ≡ Opens
tells_open flags rst fin syn ack = rw (
  is_eq (bit_and flags 4) 0 rst,
  is_eq (bit_and flags 1) 0 fin,
  not_zero (bit_and flags 2) syn,
  is_eq (bit_and flags 16) 0 ack,
) refl

abbrev OpensOrNothing : Tells → Type 0
OpensOrNothing t = (t ≡ Opens) ⊎ (t ≡ Nothing)

tells_else : (flags : ℕ) → IsClear 4 flags → IsClear 1 flags → OpensOrNothing (tells_of flags)
tells_else flags rst fin = rw (is_eq (bit_and flags 4) 0 rst, is_eq (bit_and flags 1) 0 fin)
    (by (bit_and flags 2 == 0) (bit_and flags 16 == 0))
  where
    by : (c d : Bool) → OpensOrNothing (if c then Nothing else if d then Opens else Nothing)
    by true d = inr refl
    by false true = inl refl
    by false false = inr refl

tells_clear : (flags : ℕ) → IsClear 4 flags → (tells_of flags ≡ Finishes) ⊎ OpensOrNothing (tells_of flags)
tells_clear flags rst = by (bit_and flags 1 == 0) refl
  where
    by : (b : Bool) → (bit_and flags 1 == 0) ≡ b → (tells_of flags ≡ Finishes) ⊎ OpensOrNothing (tells_of flags)
    by true q = inr (tells_else flags rst (eqb-true _ _ q))
    by false q = inl (rw (is_eq (bit_and flags 4) 0 rst, q) refl)

-- and what becomes of a phase

module _ (seconds : ℕ) where
  finished_first : (side : Class) → phase_finished seconds side Plain ≡ half_closed side
  finished_first Client = refl
  finished_first Answer = refl

  finished_second : (side : Class) → phase_finished seconds side (half_closed (other_side side)) ≡ Closing seconds
  finished_second Client = refl
  finished_second Answer = refl

  finished_again : (side : Class) → phase_finished seconds side (half_closed side) ≡ half_closed side
  finished_again Client = refl
  finished_again Answer = refl

  finished_ended : (side : Class) → phase_finished seconds side (Closing seconds) ≡ Closing seconds
  finished_ended Client = refl
  finished_ended Answer = refl

  told_ended : (side : Class) (t : Tells) → phase_told seconds side t (Closing seconds) ≡ Closing seconds
  told_ended side Nothing = refl
  told_ended side Opens = refl
  told_ended side Finishes = finished_ended side
  told_ended side Resets = refl

  same_told : (side : Class) (t : Tells) (old : Phase) → OpensOrNothing t → phase_told seconds side t old ≡ old
  same_told side t old (inl q) = ap (λ (u : Tells). phase_told seconds side u old) q
  same_told side t old (inr q) = ap (λ (u : Tells). phase_told seconds side u old) q

  module _ (side : Class) (flags : ℕ) (old : Phase) where
    abbrev new_phase : Phase
    new_phase = phase_told seconds side (tells_of flags) old

    finishes : tells_of flags ≡ Finishes → new_phase ≡ phase_finished seconds side old
    finishes q = ap (λ (t : Tells). phase_told seconds side t old) q

    again : (tells_of flags ≡ Finishes) ⊎ OpensOrNothing (tells_of flags) → old ≡ half_closed side
        → new_phase ≡ half_closed side
    again (inl q) is = finishes q ∙ ap (phase_finished seconds side) is ∙ finished_again side
    again (inr q) is = same_told side (tells_of flags) old q ∙ is

    pub segment_follows : SegmentFollows seconds flags side old new_phase
    segment_follows = record {
      reset = λ rst. ap (λ (t : Tells). phase_told seconds side t old) (tells_reset flags rst);
      first = λ rst fin is.
          finishes (tells_finish flags rst fin) ∙ ap (phase_finished seconds side) is ∙ finished_first side;
      second = λ rst fin is.
          finishes (tells_finish flags rst fin) ∙ ap (phase_finished seconds side) is ∙ finished_second side;
      again = λ rst is. again (tells_clear flags rst) is;
      stays = λ rst fin. same_told side (tells_of flags) old (tells_else flags rst fin);
      ended = λ is.
          ap (phase_told seconds side (tells_of flags)) is ∙ told_ended side (tells_of flags);
    }
