-- What a touch of a connection table changes of what a backend is charged with.
use Rattle.std.proofs.Common.{◌≡◌, ℕ, ◌+◌, ◌-◌, ◌%◌, ◌^◌, Bool, true, false, [], ◌∷◌, refl, sym, ap, ◌∙◌, subst, ◌⊎◌}
use Rattle.std.proofs.Common.{arith, Option, Some, None}
use Rattle.std.specs.Prelude.{◌==◌, ◌&&◌, if◌then◌else◌, ◌++◌, Result, Ok, Err}
use Rattle.packet_headers.specs.declared.flow.Flow.{Flow}
use Rattle.packet_headers.specs.declared.flow.NotFlow.{NotFlow}
use Rattle.plain_machine.specs.declared.local.Move.TheVariants.{Clock, Emit, End}
use Rattle.nat_tables.specs.Ports.{one_if}
use Rattle.nat_tables.specs.Forwards.{Forwards, is_idle, slot_of, refreshed, refresh, first_idle, found_there, found}
use Rattle.nat_tables.specs.Forwards.{bound, lives, lives_at, in_phase, without, without_idle}
use Rattle.flow_boxes.proofs.Fitting.{same_self}
use Rattle.nat_tables.specs.declared.entries.Endpoint.{Endpoint}
use Rattle.nat_tables.specs.declared.slot.Slot.{Slot}
use Rattle.nat_tables.specs.declared.phase.Phase.{Phase}
use Rattle.nat_tables.specs.declared.phase.Phase.TheVariants.{Plain}
use Rattle.balancer_box.specs.declared.place.Place.{Place}
use Rattle.balancer_box.specs.declared.place.Place.TheVariants.{HearsTime, FindsConnection, LowersIdle, RaisesLeast}
use Rattle.balancer_box.specs.declared.place.Place.TheVariants.{Connects, LowersSpare, ChecksConnection, CountsDrop}
use Rattle.balancer_box.specs.declared.place.Place.TheVariants.{SendsOut, LowersVain, Ends}
use Rattle.balancer_box.specs.declared.place.Class.{Class}
use Rattle.balancer_box.specs.declared.place.Class.TheVariants.{Client, Answer}
use Rattle.balancer_box.specs.declared.place.Tells.{Tells}
use Rattle.balancer_box.specs.declared.place.Noted.{Noted}
use Rattle.balancer_box.specs.declared.value.BalancerValue.{BalancerValue}
use Rattle.balancer_box.specs.declared.place.Goes.{Goes}
use Rattle.balancer_box.specs.Connections.{closed, without_if, has_ended}
use Rattle.balancer_box.specs.Settings.{Settings}
use Rattle.balancer_box.specs.Balancer.{next_move, is_virtual, backend_at, begun_answer, begun_flow, begun, begins}
use Rattle.balancer_box.specs.Balancer.{goes_to, after_find, after_bind, after_check, after_time, told, tells_by, heard}
use Rattle.balancer_box.specs.Balancer.{phase_then, ends, noting, after_idle, opens, gives_way, met, met_there, met_by}
use Rattle.balancer_box.specs.Balancer.{new_slot, gives_up, connected_by, checked_there, checked_by}
use Rattle.balancer_box.specs.Charges.{load_in, of_backend, counted, connections_of, owed}
use Rattle.balancer_box.proofs.ConnectionLemmas.{slot_refreshed, slot_appended, lives_there}
use Rattle.balancer_box.proofs.CountLemmas.{counts_for, counts_none, counts_plain, stays_ended, counted_refresh}
use Rattle.balancer_box.proofs.CountLemmas.{counted_in_phase, counted_without, counted_without_idle, counted_append}

-- a packet at this place owes nothing
abbrev pub OwesNone : Place → Type 0
OwesNone LowersIdle = ⊥
OwesNone Connects = ⊥
OwesNone LowersVain = ⊥
OwesNone LowersSpare = ⊥
OwesNone _ = Unit {0}

pub owes_none : (i : ℕ) (p : Place) (n : Noted) → OwesNone p → owed i p n ≡ 0
owes_none i HearsTime n h = refl
owes_none i FindsConnection n h = refl
owes_none i LowersIdle n h = absurd h
owes_none i RaisesLeast n h = refl
owes_none i Connects n h = absurd h
owes_none i LowersVain n h = absurd h
owes_none i LowersSpare n h = absurd h
owes_none i ChecksConnection n h = refl
owes_none i CountsDrop n h = refl
owes_none i SendsOut n h = refl
owes_none i Ends n h = refl

pub clock_owes_none : (s : Settings) (p : Place) (n : Noted) → next_move s p n ≡ Clock → OwesNone p
clock_owes_none s HearsTime n e = tt
clock_owes_none s FindsConnection n e = absurd (cc)
clock_owes_none s LowersIdle n e = absurd (cc)
clock_owes_none s RaisesLeast n e = absurd (cc)
clock_owes_none s Connects n e = absurd (cc)
clock_owes_none s LowersVain n e = absurd (cc)
clock_owes_none s LowersSpare n e = absurd (cc)
clock_owes_none s ChecksConnection n e = absurd (cc)
clock_owes_none s CountsDrop n e = absurd (cc)
clock_owes_none s SendsOut n e = absurd (cc)
clock_owes_none s Ends n e = absurd (cc)

pub emit_owes_none : (s : Settings) (p : Place) (n : Noted) → next_move s p n ≡ Emit → OwesNone p
emit_owes_none s HearsTime n e = absurd (cc)
emit_owes_none s FindsConnection n e = absurd (cc)
emit_owes_none s LowersIdle n e = absurd (cc)
emit_owes_none s RaisesLeast n e = absurd (cc)
emit_owes_none s Connects n e = absurd (cc)
emit_owes_none s LowersVain n e = absurd (cc)
emit_owes_none s LowersSpare n e = absurd (cc)
emit_owes_none s ChecksConnection n e = absurd (cc)
emit_owes_none s CountsDrop n e = absurd (cc)
emit_owes_none s SendsOut n e = tt
emit_owes_none s Ends n e = absurd (cc)

pub end_owes_none : (s : Settings) (p : Place) (n : Noted) → next_move s p n ≡ End → OwesNone p
end_owes_none s HearsTime n e = absurd (cc)
end_owes_none s FindsConnection n e = absurd (cc)
end_owes_none s LowersIdle n e = absurd (cc)
end_owes_none s RaisesLeast n e = absurd (cc)
end_owes_none s Connects n e = absurd (cc)
end_owes_none s LowersVain n e = absurd (cc)
end_owes_none s LowersSpare n e = absurd (cc)
end_owes_none s ChecksConnection n e = absurd (cc)
end_owes_none s CountsDrop n e = absurd (cc)
end_owes_none s SendsOut n e = absurd (cc)
end_owes_none s Ends n e = tt

time_owes_none : (n : Noted) (c : Class) → OwesNone (after_time n c).place
time_owes_none n Client = tt
time_owes_none n Answer = tt

pub told_owes_none : (p : Place) (a : ℕ) (n : Noted) → OwesNone (told p a n).place
told_owes_none HearsTime a n = time_owes_none (record n { time = a }) n.class
told_owes_none FindsConnection a n = tt
told_owes_none LowersIdle a n = tt
told_owes_none RaisesLeast a n = tt
told_owes_none Connects a n = tt
told_owes_none LowersVain a n = tt
told_owes_none LowersSpare a n = tt
told_owes_none ChecksConnection a n = tt
told_owes_none CountsDrop a n = tt
told_owes_none SendsOut a n = tt
told_owes_none Ends a n = tt

pub begun_owes_none : (s : Settings) (seen : Result Flow NotFlow) → OwesNone (begun s seen).place
begun_owes_none s (Err answer) = tt
begun_owes_none s (Ok flow) = by (is_virtual s flow.dest flow.dest_port) refl
  where
    tells : Tells
    tells = tells_by s.closing flow.flags

    by_backend : (o : Option ℕ) → OwesNone (begun_answer tells flow o).place
    by_backend (Some backend) = tt
    by_backend None = tt

    by : (b : Bool) → is_virtual s flow.dest flow.dest_port ≡ b → OwesNone (begun_flow s tells flow).place
    by true q = rw q tt
    by false q = rw q (by_backend (backend_at s.backends flow.source flow.source_port))

-- What a touch changes. Where it changes no load, the connections of the backend and what the packet owes come to the
-- same; where a load grows or falls, what the packet owes does too.

abbrev Even : ℕ → BalancerValue → Place → Noted → BalancerValue × Goes → Type 0
Even i x p n r =
    (load_in i r.0 ≡ load_in i x)
    × (connections_of i r.0 + owed i r.1.place r.1.noted ≡ connections_of i x + owed i p n)

abbrev Up : ℕ → BalancerValue → Place → Noted → BalancerValue × Goes → Type 0
Up i x p n r =
    (load_in i r.0 ≡ (load_in i x + 1) % 2 ^ 64)
    × (connections_of i r.0 + owed i r.1.place r.1.noted ≡ connections_of i x + owed i p n + 1)

abbrev Down : ℕ → BalancerValue → Place → Noted → BalancerValue × Goes → Type 0
Down i x p n r =
    (load_in i r.0 ≡ (load_in i x + (2 ^ 64 - 1)) % 2 ^ 64)
    × (connections_of i r.0 + owed i r.1.place r.1.noted + 1 ≡ connections_of i x + owed i p n)

abbrev pub Balanced : ℕ → ℕ → BalancerValue → Place → Noted → BalancerValue × Goes → Type 0
Balanced v i x p n r = Even i x p n r ⊎ ((v ≡ 1) × (Up i x p n r ⊎ Down i x p n r))

pub sum_none : (k : ℕ) → k + 0 ≡ k
sum_none k = omega arith

and_left : (a b : Bool) → (a && b) ≡ true → a ≡ true
and_left true b e = refl
and_left false b e = absurd (cc)

pub begins_even : (i : ℕ) (n : Noted) (b : Bool) → owed i (begins n b).place (begins n b).noted ≡ 0
begins_even i n true = refl
begins_even i n false = refl

-- A touch of a connection table: the connections of the backend after it, and what the packet owes then, come to this

abbrev pub CountTo : ℕ → ℕ → Forwards × Goes → Type 0
CountTo i sum r = counted i r.0 + owed i r.1.place r.1.noted ≡ sum

-- where connections are not followed, none has ended
module _ (i : ℕ) (n : Noted) (es : Forwards)
    (plain : (slot : Slot) → slot_of n.client es ≡ Some slot → slot.phase ≡ Plain)
    (plain_idle : (e : Endpoint × Slot) → first_idle n.time es ≡ Some e → e.1.phase ≡ Plain) where
  -- a connection that was found is used, and closed where the packet resets it
  closed_even : (slot : Slot) (b : Bool) (left : Forwards) → slot_of n.client left ≡ Some slot → slot.phase ≡ Plain
      → counted i left ≡ counted i es
      → CountTo i (counted i es) (without_if b n.client left, goes_to n b slot.port)
  closed_even slot true left at is same =
      let a = counted_without i n.client slot left at in
      let c = counts_plain i slot is in ap (λ (k : ℕ). counted i (without n.client left) + k) (sym c) ∙ a ∙ same
  closed_even slot false left at is same = sum_none (counted i left) ∙ same

  there_even : (slot : Slot) (idle : Bool) → slot_of n.client es ≡ Some slot
      → (let f = found_there n.client n.time es slot idle in
      CountTo i (counted i es) (closed f.0 n.resets n.client f.1, after_find n f.0))
  there_even slot true at =
      let a = counted_without i n.client slot es at in
      let c = counts_plain i slot (plain slot at) in
      ap (λ (k : ℕ). counted i (without n.client es) + k) (sym c) ∙ a
  there_even slot false at =
      closed_even (refreshed n.time slot) n.resets (refresh n.client n.time es)
      (slot_refreshed n.client n.time slot es at) (plain slot at) (counted_refresh i n.client n.time es)

  pub found_even : (a : Option Slot) (b : Option (Endpoint × Slot)) → slot_of n.client es ≡ a → first_idle n.time es ≡ b
      → (let f = found n.client n.time es a b in
      CountTo i (counted i es) (closed f.0 n.resets n.client f.1, after_find n f.0))
  found_even (Some slot) b at first = there_even slot (is_idle n.time (n.client, slot)) at
  found_even None (Some gone) at first =
      let a = counted_without_idle i n.time gone es first in
      let c = counts_plain i gone.1 (plain_idle gone first) in
      ap (λ (k : ℕ). counted i (without_idle n.time es) + k) (sym c) ∙ a
  found_even None None at first =
      ap (λ (k : ℕ). counted i es + k) (begins_even i n n.resets) ∙ sum_none (counted i es)

  pub bound_even : (a : Option Slot) → slot_of n.client es ≡ a
      → (let b = bound n.client n.backend n.time es a in
      CountTo i (counted i es + one_if (n.backend == i)) (b.1, after_bind n b.0))
  bound_even (Some slot) at =
      ap (λ (k : ℕ). k + one_if (n.backend == i)) (counted_refresh i n.client n.time es)
  bound_even None at =
      sum_none (counted i (es ++ (n.client, new_slot n) ∷ [])) ∙ counted_append i n.client (new_slot n) es

  live_even : (slot : Slot) → slot_of n.client es ≡ Some slot → slot.port ≡ n.backend
      → CountTo i (counted i es) (without_if n.resets n.client es, goes_to n n.resets n.backend)
  live_even slot at is =
      subst (λ (k : ℕ). CountTo i (counted i es) (without_if n.resets n.client es, goes_to n n.resets k)) is
      (closed_even slot n.resets es at (plain slot at) refl)

  pub check_even : (b : Bool) → lives n.client n.backend n.time es ≡ b
      → CountTo i (counted i es) (without_if (b && n.resets) n.client es, after_check n b)
  check_even false is = sum_none (counted i es)
  check_even true is =
      let there = lives_there n.client n.backend n.time es (slot_of n.client es) refl is in
      live_even there.0 there.1 there.2

-- where they are followed
module _ (i seconds : ℕ) (n : Noted) where
  abbrev owed_if : Bool → ℕ → ℕ
  owed_if b backend = if b then one_if (backend == i) else 0

  goes_owes : (b : Bool) (backend : ℕ) → owed i (goes_to n b backend).place (goes_to n b backend).noted
      ≡ owed_if b backend
  goes_owes true backend = refl
  goes_owes false backend = refl

  gives_owes : (b : Bool) (backend : ℕ) → owed i (gives_up n b backend).place (gives_up n b backend).noted
      ≡ one_if (n.backend == i) + owed_if b backend
  gives_owes true backend = refl
  gives_owes false backend = sym (sum_none (one_if (n.backend == i)))

  -- the connection notes what the packet tells: the packet owes where it ended the connection
  noting_even : (slot : Slot) (left : Forwards) → slot_of n.client left ≡ Some slot
      → counted i (noting seconds n slot left) + owed_if (ends seconds n slot) slot.port ≡ counted i left
  noting_even slot left at = by (has_ended slot.phase) (has_ended new) refl refl
    where
      new : Phase
      new = phase_then seconds n slot.phase

      one : ℕ
      one = one_if (slot.port == i)

      sums : (before after old left_of owes : ℕ) → after + old ≡ before + left_of → left_of + owes ≡ old
          → after + owes ≡ before
      sums before after old left_of owes moved same = omega arith

      both : of_backend i (in_phase new slot) + owed_if (ends seconds n slot) slot.port ≡ of_backend i slot
          → counted i (noting seconds n slot left) + owed_if (ends seconds n slot) slot.port ≡ counted i left
      both same = sums (counted i left) (counted i (noting seconds n slot left)) (of_backend i slot)
          (of_backend i (in_phase new slot)) (owed_if (ends seconds n slot) slot.port)
          (counted_in_phase i n.client new slot left at) same

      by : (a b : Bool) → has_ended slot.phase ≡ a → has_ended new ≡ b
          → counted i (noting seconds n slot left) + owed_if (ends seconds n slot) slot.port ≡ counted i left
      by false false p q =
          let x : of_backend i slot ≡ one = counts_for i slot p in
          let y : of_backend i (in_phase new slot) ≡ one = counts_for i (in_phase new slot) q in
          let w : owed_if (ends seconds n slot) slot.port ≡ 0 = rw (p, q) refl in
          both (omega (arith, x, y, w))
      by false true p q =
          let x : of_backend i slot ≡ one = counts_for i slot p in
          let y : of_backend i (in_phase new slot) ≡ 0 = counts_none i (in_phase new slot) q in
          let w : owed_if (ends seconds n slot) slot.port ≡ one = rw (p, q) refl in
          both (omega (arith, x, y, w))
      by true true p q =
          let x : of_backend i slot ≡ 0 = counts_none i slot p in
          let y : of_backend i (in_phase new slot) ≡ 0 = counts_none i (in_phase new slot) q in
          let w : owed_if (ends seconds n slot) slot.port ≡ 0 = rw p refl in
          both (omega (arith, x, y, w))
      by true false p q = absurd (let z : has_ended new ≡ true = stays_ended seconds n slot.phase p in cc)

  -- a live connection, noted in a table that has as many
  used_even : (slot : Slot) (left : Forwards) (backend sum : ℕ) → slot_of n.client left ≡ Some slot
      → slot.port ≡ backend → counted i left ≡ sum
      → CountTo i sum (noting seconds n slot left, goes_to n (ends seconds n slot) backend)
  used_even slot left backend sum at is same =
      ap (λ (k : ℕ). counted i (noting seconds n slot left) + k)
      (goes_owes (ends seconds n slot) backend
      ∙ ap (λ (k : ℕ). owed_if (ends seconds n slot) k) (sym is)) ∙ noting_even slot left at ∙ same

  -- one that was removed, and had not ended, is owed
  idle_owes : (slot : Slot) → owed i (after_idle n slot.port (has_ended slot.phase)).place
      (after_idle n slot.port (has_ended slot.phase)).noted
      ≡ of_backend i slot
  idle_owes slot = by (has_ended slot.phase) refl
    where
      by : (b : Bool) → has_ended slot.phase ≡ b
          → owed i (after_idle n slot.port b).place (after_idle n slot.port b).noted ≡ of_backend i slot
      by true q = begins_even i n n.resets ∙ sym (counts_none i slot q)
      by false q = sym (counts_for i slot q)

  module _ (es : Forwards) where
    met_even : (slot : Slot) (b : Bool) → slot_of n.client es ≡ Some slot → gives_way n slot ≡ b
        → CountTo i (counted i es) (met seconds n es slot b)
    met_even slot true at way =
        let ended : has_ended slot.phase ≡ true = and_left (has_ended slot.phase) (opens (heard n)) way in
        ap (λ (k : ℕ). counted i (without n.client es) + k)
        (begins_even i n n.resets ∙ sym (counts_none i slot ended)) ∙ counted_without i n.client slot es at
    met_even slot false at way =
        used_even (refreshed n.time slot) (refresh n.client n.time es) slot.port (counted i es)
        (slot_refreshed n.client n.time slot es at) refl (counted_refresh i n.client n.time es)

    met_there_even : (slot : Slot) (b : Bool) → slot_of n.client es ≡ Some slot
        → CountTo i (counted i es) (met_there seconds n es slot b)
    met_there_even slot true at =
        ap (λ (k : ℕ). counted i (without n.client es) + k) (idle_owes slot) ∙ counted_without i n.client slot es at
    met_there_even slot false at = met_even slot (gives_way n slot) at refl

    pub met_by_even : (o : Option Slot) (idle : Option (Endpoint × Slot)) → slot_of n.client es ≡ o
        → first_idle n.time es ≡ idle → CountTo i (counted i es) (met_by seconds n es o idle)
    met_by_even (Some slot) idle at first = met_there_even slot (is_idle n.time (n.client, slot)) at
    met_by_even None (Some e) at first =
        ap (λ (k : ℕ). counted i (without_idle n.time es) + k) (idle_owes e.1)
        ∙ counted_without_idle i n.time e es first
    met_by_even None None at first =
        ap (λ (k : ℕ). counted i es + k) (begins_even i n n.resets) ∙ sum_none (counted i es)

    pub connected_even : (o : Option Slot) → slot_of n.client es ≡ o
        → CountTo i (counted i es + one_if (n.backend == i)) (connected_by seconds n es o)
    connected_even (Some slot) at =
        let left : Forwards = refresh n.client n.time es in
        let kept = noting_even (refreshed n.time slot) left (slot_refreshed n.client n.time slot es at) in
        sums (counted i (noting seconds n slot left)) (owed_if (ends seconds n slot) slot.port) (counted i left)
        (counted i es) (one_if (n.backend == i))
        (owed i (gives_up n (ends seconds n slot) slot.port).place
        (gives_up n (ends seconds n slot) slot.port).noted) kept (counted_refresh i n.client n.time es)
        (gives_owes (ends seconds n slot) slot.port)
      where
        sums : (new owes left before one given : ℕ) → new + owes ≡ left → left ≡ before → given ≡ one + owes
            → new + given ≡ before + one
        sums new owes left before one given kept same gives = omega arith
    connected_even None at =
        used_even (new_slot n) (es ++ (n.client, new_slot n) ∷ []) n.backend (counted i es + one_if (n.backend == i))
        (slot_appended n.client (new_slot n) es at (same_self n.client)) refl
        (counted_append i n.client (new_slot n) es)

    pub checked_even : (o : Option Slot) → slot_of n.client es ≡ o
        → CountTo i (counted i es) (checked_by seconds n es o)
    checked_even None at = sum_none (counted i es)
    checked_even (Some slot) at = by (lives_at n.client n.backend n.time (Some slot)) refl
      where
        by : (b : Bool) → lives_at n.client n.backend n.time (Some slot) ≡ b
            → CountTo i (counted i es) (checked_there seconds n es slot b)
        by false q = sum_none (counted i es)
        by true q =
            let there = lives_there n.client n.backend n.time es (Some slot) at q in
            let same : there.0 ≡ slot = cc (there.1, at) in
            let port : slot.port ≡ n.backend = ap (λ (x : Slot). x.port) (sym same) ∙ there.2 in
            used_even slot es n.backend (counted i es) at port refl
