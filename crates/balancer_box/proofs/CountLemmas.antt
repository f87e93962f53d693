-- How the changes of a connection table change the number of connections of a backend that have not ended.
use Rattle.std.proofs.Common.{◌≡◌, ℕ, ◌+◌, Bool, true, false, [], ◌∷◌, ◌++◌, refl, ap, arith, Option, Some, None}
use Rattle.std.specs.Prelude.{◌==◌, if◌then◌else◌}
use Rattle.nat_tables.specs.declared.entries.Endpoint.{Endpoint}
use Rattle.nat_tables.specs.declared.slot.Slot.{Slot}
use Rattle.nat_tables.specs.declared.phase.Phase.{Phase}
use Rattle.nat_tables.specs.declared.phase.Phase.TheVariants.{Plain, Opening, Established, Closing}
use Rattle.nat_tables.specs.declared.phase.Phase.TheVariants.{EndedByClient, EndedByServer, Kept}
use Rattle.nat_tables.specs.Keys.{same_endpoint}
use Rattle.nat_tables.specs.Ports.{one_if}
use Rattle.nat_tables.specs.Forwards.{Forwards, is_idle, slot_of, refresh, in_phase, with_phase, without, first_idle}
use Rattle.nat_tables.specs.Forwards.{without_idle}
use Rattle.balancer_box.specs.declared.place.Class.{Class}
use Rattle.balancer_box.specs.declared.place.Class.TheVariants.{Client, Answer}
use Rattle.balancer_box.specs.declared.place.Tells.{Tells}
use Rattle.balancer_box.specs.declared.place.Tells.TheVariants.{Nothing, Opens, Finishes, Resets}
use Rattle.balancer_box.specs.declared.place.Noted.{Noted}
use Rattle.balancer_box.specs.Connections.{has_ended, phase_finished, phase_told}
use Rattle.balancer_box.specs.Balancer.{heard, phase_then, HasPhase}
use Rattle.balancer_box.specs.Charges.{of_backend, counted}

-- one that has not ended counts for its backend, and one that has for none

pub counts_for : (i : ℕ) (slot : Slot) → has_ended slot.phase ≡ false → of_backend i slot ≡ one_if (slot.port == i)
counts_for i slot q = rw q refl

pub counts_none : (i : ℕ) (slot : Slot) → has_ended slot.phase ≡ true → of_backend i slot ≡ 0
counts_none i slot q = rw q refl

pub counts_plain : (i : ℕ) (slot : Slot) → slot.phase ≡ Plain → of_backend i slot ≡ one_if (slot.port == i)
counts_plain i slot plain = counts_for i slot (ap has_ended plain)

-- where connections are not followed they have one phase
pub plain_of : (closing : Option ℕ) (protocol : ℕ) (phase : Phase) → closing ≡ None → HasPhase closing protocol phase
    → phase ≡ Plain
plain_of closing protocol Plain none has = refl
plain_of closing protocol (Opening seconds) none has = absurd has
plain_of closing protocol Established none has = absurd has
plain_of closing protocol (Closing seconds) none has = absurd (let e : closing ≡ Some seconds = has.0 in cc)
plain_of closing protocol EndedByClient none has = absurd (let e : closing ≡ Some has.0 = has.1 in cc)
plain_of closing protocol EndedByServer none has = absurd (let e : closing ≡ Some has.0 = has.1 in cc)
plain_of closing protocol Kept none has = absurd has

-- what has ended stays so

finished_stays : (seconds : ℕ) (side : Class) (phase : Phase) → has_ended phase ≡ true
    → has_ended (phase_finished seconds side phase) ≡ true
finished_stays seconds Client Plain is = absurd (cc)
finished_stays seconds Client (Opening old) is = absurd (cc)
finished_stays seconds Client Established is = absurd (cc)
finished_stays seconds Client (Closing old) is = refl
finished_stays seconds Client EndedByClient is = absurd (cc)
finished_stays seconds Client EndedByServer is = absurd (cc)
finished_stays seconds Client Kept is = absurd (cc)
finished_stays seconds Answer Plain is = absurd (cc)
finished_stays seconds Answer (Opening old) is = absurd (cc)
finished_stays seconds Answer Established is = absurd (cc)
finished_stays seconds Answer (Closing old) is = refl
finished_stays seconds Answer EndedByClient is = absurd (cc)
finished_stays seconds Answer EndedByServer is = absurd (cc)
finished_stays seconds Answer Kept is = absurd (cc)

told_stays : (seconds : ℕ) (side : Class) (t : Tells) (phase : Phase) → has_ended phase ≡ true
    → has_ended (phase_told seconds side t phase) ≡ true
told_stays seconds side Nothing phase is = is
told_stays seconds side Opens phase is = is
told_stays seconds side Finishes phase is = finished_stays seconds side phase is
told_stays seconds side Resets phase is = refl

pub stays_ended : (seconds : ℕ) (n : Noted) (phase : Phase) → has_ended phase ≡ true
    → has_ended (phase_then seconds n phase) ≡ true
stays_ended seconds n phase is = told_stays seconds n.class (heard n) phase is

-- the changes

pub counted_refresh : (i : ℕ) (key : Endpoint) (now : ℕ) (es : Forwards) → counted i (refresh key now es) ≡ counted i es
counted_refresh i key now [] = refl
counted_refresh i key now (e ∷ es) = by (same_endpoint key e.0) refl (counted_refresh i key now es)
  where
    by : (b : Bool) → same_endpoint key e.0 ≡ b → counted i (refresh key now es) ≡ counted i es
        → counted i (refresh key now (e ∷ es)) ≡ counted i (e ∷ es)
    by true q behind = rw q refl
    by false q behind = rw q (ap (λ (k : ℕ). of_backend i e.1 + k) behind)

pub counted_in_phase : (i : ℕ) (key : Endpoint) (phase : Phase) (slot : Slot) (es : Forwards)
    → slot_of key es ≡ Some slot
    → counted i (with_phase key phase es) + of_backend i slot ≡ counted i es + of_backend i (in_phase phase slot)
counted_in_phase i key phase slot [] is = absurd (cc)
counted_in_phase i key phase slot (e ∷ es) is =
    by (same_endpoint key e.0) refl is (counted_in_phase i key phase slot es)
  where
    by : (b : Bool) → same_endpoint key e.0 ≡ b → (if b then Some e.1 else slot_of key es) ≡ Some slot
        → (slot_of key es ≡ Some slot
        → counted i (with_phase key phase es) + of_backend i slot ≡ counted i es + of_backend i (in_phase phase slot))
        → counted i (with_phase key phase (e ∷ es)) + of_backend i slot
        ≡ counted i (e ∷ es) + of_backend i (in_phase phase slot)
    by true q is behind =
        let s : e.1 ≡ slot = cc in
        let a : of_backend i e.1 ≡ of_backend i slot = ap (of_backend i) s in
        let b : of_backend i (in_phase phase e.1) ≡ of_backend i (in_phase phase slot) =
        ap (λ (x : Slot). of_backend i (in_phase phase x)) s in
        let c : counted i (with_phase key phase (e ∷ es)) ≡ of_backend i (in_phase phase e.1) + counted i es =
        rw q refl in
        let d : counted i (e ∷ es) ≡ of_backend i e.1 + counted i es = refl in
        sums (counted i (with_phase key phase (e ∷ es))) (counted i (e ∷ es)) (of_backend i (in_phase phase e.1))
        (of_backend i e.1) (counted i es) (of_backend i slot) (of_backend i (in_phase phase slot)) c d a b
      where
        sums : (new old x y rest k l : ℕ) → new ≡ x + rest → old ≡ y + rest → y ≡ k → x ≡ l → new + k ≡ old + l
        sums new old x y rest k l c d a b = omega arith
    by false q is behind =
        let a = behind is in
        let c : counted i (with_phase key phase (e ∷ es)) ≡ of_backend i e.1 + counted i (with_phase key phase es) =
        rw q refl in
        let d : counted i (e ∷ es) ≡ of_backend i e.1 + counted i es = refl in
        sums (counted i (with_phase key phase (e ∷ es))) (counted i (e ∷ es)) (counted i (with_phase key phase es))
        (counted i es) (of_backend i e.1) (of_backend i slot) (of_backend i (in_phase phase slot)) c d a
      where
        sums : (new old x y rest k l : ℕ) → new ≡ rest + x → old ≡ rest + y → x + k ≡ y + l → new + k ≡ old + l
        sums new old x y rest k l c d a = omega arith

pub counted_without : (i : ℕ) (key : Endpoint) (slot : Slot) (es : Forwards) → slot_of key es ≡ Some slot
    → counted i (without key es) + of_backend i slot ≡ counted i es
counted_without i key slot [] is = absurd (cc)
counted_without i key slot (e ∷ es) is = by (same_endpoint key e.0) refl is (counted_without i key slot es)
  where
    by : (b : Bool) → same_endpoint key e.0 ≡ b → (if b then Some e.1 else slot_of key es) ≡ Some slot
        → (slot_of key es ≡ Some slot → counted i (without key es) + of_backend i slot ≡ counted i es)
        → counted i (without key (e ∷ es)) + of_backend i slot ≡ counted i (e ∷ es)
    by true q is behind =
        let s : e.1 ≡ slot = cc in
        let a : of_backend i e.1 ≡ of_backend i slot = ap (of_backend i) s in
        let c : counted i (without key (e ∷ es)) ≡ counted i es = rw q refl in
        sums (counted i (without key (e ∷ es))) (counted i es) (of_backend i e.1) (of_backend i slot) a c
      where
        sums : (new rest x k : ℕ) → x ≡ k → new ≡ rest → new + k ≡ x + rest
        sums new rest x k a c = omega arith
    by false q is behind =
        let a = behind is in
        let c : counted i (without key (e ∷ es)) ≡ of_backend i e.1 + counted i (without key es) = rw q refl in
        sums (counted i (without key (e ∷ es))) (counted i (without key es)) (counted i es) (of_backend i e.1)
        (of_backend i slot) a c
      where
        sums : (new x y front k : ℕ) → x + k ≡ y → new ≡ front + x → new + k ≡ front + y
        sums new x y front k a c = omega arith

pub counted_without_idle : (i now : ℕ) (idle : Endpoint × Slot) (es : Forwards) → first_idle now es ≡ Some idle
    → counted i (without_idle now es) + of_backend i idle.1 ≡ counted i es
counted_without_idle i now idle [] is = absurd (cc)
counted_without_idle i now idle (e ∷ es) is = by (is_idle now e) refl is (counted_without_idle i now idle es)
  where
    by : (b : Bool) → is_idle now e ≡ b → (if b then Some e else first_idle now es) ≡ Some idle
        → (first_idle now es ≡ Some idle → counted i (without_idle now es) + of_backend i idle.1 ≡ counted i es)
        → counted i (without_idle now (e ∷ es)) + of_backend i idle.1 ≡ counted i (e ∷ es)
    by true q is behind =
        let s : e ≡ idle = cc in
        let a : of_backend i e.1 ≡ of_backend i idle.1 = ap (λ (x : Endpoint × Slot). of_backend i x.1) s in
        let c : counted i (without_idle now (e ∷ es)) ≡ counted i es = rw q refl in
        sums (counted i (without_idle now (e ∷ es))) (counted i es) (of_backend i e.1) (of_backend i idle.1) a c
      where
        sums : (new rest x k : ℕ) → x ≡ k → new ≡ rest → new + k ≡ x + rest
        sums new rest x k a c = omega arith
    by false q is behind =
        let a = behind is in
        let c : counted i (without_idle now (e ∷ es)) ≡ of_backend i e.1 + counted i (without_idle now es) =
        rw q refl in
        sums (counted i (without_idle now (e ∷ es))) (counted i (without_idle now es)) (counted i es)
        (of_backend i e.1) (of_backend i idle.1) a c
      where
        sums : (new x y front k : ℕ) → x + k ≡ y → new ≡ front + x → new + k ≡ front + y
        sums new x y front k a c = omega arith

pub counted_append : (i : ℕ) (key : Endpoint) (slot : Slot) (es : Forwards)
    → counted i (es ++ (key, slot) ∷ []) ≡ counted i es + of_backend i slot
counted_append i key slot [] = sums (of_backend i slot)
  where
    sums : (k : ℕ) → k + 0 ≡ 0 + k
    sums k = omega arith
counted_append i key slot (e ∷ es) =
    sums (of_backend i e.1) (counted i (es ++ (key, slot) ∷ [])) (counted i es) (of_backend i slot)
    (counted_append i key slot es)
  where
    sums : (front x y k : ℕ) → x ≡ y + k → front + x ≡ front + y + k
    sums front x y k a = omega arith
