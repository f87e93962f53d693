-- The events of a chain come to one thing.
use Rattle.std.proofs.Common.{◌≡◌, ℕ, List, [], ◌∷◌, ◌++◌, refl, sym, ap, ◌∙◌, subst, inl, inr, ◌⊎◌, arith}
use Rattle.plain_text.specs.declared.limit.Limit.{Limit}
use Rattle.plain_text.specs.declared.packet.Packet.{Packet}
use Rattle.plain_machine.specs.declared.plain_move.PlainMove.{PlainMove}
use Rattle.plain_machine.specs.History.{Step}
use Rattle.recovery_world.specs.declared.event.Event.{Event}
use Rattle.recovery_world.specs.declared.event.Outcome.{Outcome}
use Rattle.recovery_world.specs.World.{Setting, Sent, World}
use Rattle.recovery_world.specs.Limits.{IsWithin}
use Rattle.recovery_world.specs.Finish.{IsFinish}
use Rattle.recovery_world.specs.Many.{OnAny, Stops}
use Rattle.recovery_world.specs.Files.{moves_made, packets_of}
use Rattle.recovery_laws.specs.Sound.{Sound}
use Rattle.recovery_laws.proofs.Existence.{comes_to}
use Rattle.recovery_laws.proofs.OneFinish.{finish_one}
use Rattle.recovery_laws.proofs.Scripts.{any_one, stops_one, stops_not}
use Rattle.chain_world.specs.declared.chain_event.ChainEvent.{ChainEvent}
use Rattle.chain_world.specs.Chain.{Chained, chain_opening, behind, OnChain, StopsChain, PerformsChain, ChainRests}
use Rattle.chain_world.specs.Chain.{ChainGoes, LeavesChain, chain_line, chain_done}
use Rattle.chain_world.proofs.ChainLemmas.{Stands, on_stands, opening_stands, second_sound}

both_are : {V U : Type 0} (a b : Chained V U) → a.first ≡ b.first → a.second ≡ b.second → a ≡ b
both_are {V} {U} a b p q =
    ap (λ (w : World V). let x : Chained V U = record { first = w; second = a.second } in x) p
    ∙ ap (λ (w : World U). let x : Chained V U = record { first = b.first; second = w } in x) q

not_two : {P : Type 0} (n : ℕ) → n ≡ 1 → n ≡ 2 → P
not_two n one two = absurd (omega (arith, one, two))

-- the same outcome, the same outputs and the same worlds
pub record SameChain {V U : Type 0} (to other : Outcome) (freed rest : List Sent)
    (new next : Chained V U) : Type 0 where
  pub outcome_is : to ≡ other
  pub freed_is : freed ≡ rest
  pub new_is : new ≡ next

module _ {V U : Type 0} (s : Setting V) (r : Setting U) (c : Chained V U) (h : Stands s r c) (ev : ChainEvent) where
  pub on_one : (to other : Outcome) (freed rest : List Sent) (new next : Chained V U) → OnChain s r c ev to freed new
      → OnChain s r c ev other rest next → SameChain to other freed rest new next
  on_one to other freed rest new next (inl (one, on, same)) (inl (one2, on2, same2)) =
      let q = any_one s c.first ev.event to other freed rest new.first next.first h.sound on on2 in record {
        outcome_is = q.outcome_is;
        freed_is = q.freed_is;
        new_is = both_are new next q.new_is (same ∙ sym same2);
      }
  on_one to other freed rest new next (inr (two, on, same)) (inr (two2, on2, same2)) =
      let q = any_one (behind r c.first) c.second ev.event to other freed rest new.second next.second
      (second_sound s r c h) on on2 in record {
        outcome_is = q.outcome_is;
        freed_is = q.freed_is;
        new_is = both_are new next (same ∙ sym same2) q.new_is;
      }
  on_one to other freed rest new next (inl a) (inr b) = not_two ev.which a.0 b.0
  on_one to other freed rest new next (inr a) (inl b) = not_two ev.which b.0 a.0

  pub chain_stops_one : (limit other : Limit) (new next : Chained V U) → StopsChain s r c ev limit new
      → StopsChain s r c ev other next → (limit ≡ other) × (new ≡ next)
  chain_stops_one limit other new next (inl (one, stops, same)) (inl (one2, stops2, same2)) =
      let q = stops_one s c.first ev.event limit other new.first next.first h.sound stops stops2 in
      (q.0, both_are new next q.1 (same ∙ sym same2))
  chain_stops_one limit other new next (inr (two, stops, same)) (inr (two2, stops2, same2)) =
      let q = stops_one (behind r c.first) c.second ev.event limit other new.second next.second
      (second_sound s r c h) stops stops2 in (q.0, both_are new next (same ∙ sym same2) q.1)
  chain_stops_one limit other new next (inl a) (inr b) = not_two ev.which a.0 b.0
  chain_stops_one limit other new next (inr a) (inl b) = not_two ev.which b.0 a.0

  pub chain_stops_not : (limit : Limit) (to : Outcome) (freed : List Sent) (new next : Chained V U)
      → StopsChain s r c ev limit new → OnChain s r c ev to freed next → ⊥
  chain_stops_not limit to freed new next (inl (one, stops, same)) (inl (one2, on, same2)) =
      stops_not s c.first ev.event limit to freed new.first next.first h.sound stops on
  chain_stops_not limit to freed new next (inr (two, stops, same)) (inr (two2, on, same2)) =
      stops_not (behind r c.first) c.second ev.event limit to freed new.second next.second (second_sound s r c h)
      stops on
  chain_stops_not limit to freed new next (inl a) (inr b) = not_two ev.which a.0 b.0
  chain_stops_not limit to freed new next (inr a) (inl b) = not_two ev.which b.0 a.0

  pub chain_comes : IsWithin c.first → IsWithin c.second → (ev.which ≡ 1) ⊎ (ev.which ≡ 2)
      → ((to : Outcome) × (freed : List Sent) × (new : Chained V U) × OnChain s r c ev to freed new)
      ⊎ ((limit : Limit) × (new : Chained V U) × StopsChain s r c ev limit new)
  chain_comes low few (inl one) = go (comes_to s c.first ev.event h.sound low)
    where
      go : ((to : Outcome) × (freed : List Sent) × (new : World V) × OnAny s c.first ev.event to freed new)
          ⊎ ((limit : Limit) × (new : World V) × Stops s c.first ev.event limit new)
          → ((to : Outcome) × (freed : List Sent) × (new : Chained V U) × OnChain s r c ev to freed new)
          ⊎ ((limit : Limit) × (new : Chained V U) × StopsChain s r c ev limit new)
      go (inl a) = inl (a.0, a.1, record { first = a.2; second = c.second }, inl (one, a.3, refl))
      go (inr a) = inr (a.0, record { first = a.1; second = c.second }, inl (one, a.2, refl))
  chain_comes low few (inr two) = go (comes_to (behind r c.first) c.second ev.event (second_sound s r c h) few)
    where
      go : ((to : Outcome) × (freed : List Sent) × (new : World U)
          × OnAny (behind r c.first) c.second ev.event to freed new)
          ⊎ ((limit : Limit) × (new : World U) × Stops (behind r c.first) c.second ev.event limit new)
          → ((to : Outcome) × (freed : List Sent) × (new : Chained V U) × OnChain s r c ev to freed new)
          ⊎ ((limit : Limit) × (new : Chained V U) × StopsChain s r c ev limit new)
      go (inl a) = inl (a.0, a.1, record { first = c.first; second = a.2 }, inr (two, a.3, refl))
      go (inr a) = inr (a.0, record { first = c.first; second = a.1 }, inr (two, a.2, refl))

-- All events

all_one : {V U : Type 0} (s : Setting V) (r : Setting U) (c a b : Chained V U) (events : List ChainEvent)
    (lines other : List ℕ) → Stands s r c → PerformsChain s r c events lines a → PerformsChain s r c events other b
    → (lines ≡ other) × (a ≡ b)
all_one s r c a b events lines other h (ChainRests same) (ChainRests same2) = (refl, refl)
all_one {V} {U} s r c a b events lines other h
    (ChainGoes {mid = mid} {events = later} {lines = l} ev to freed on rest)
    (ChainGoes {mid = mid2} {lines = l2} ev2 to2 freed2 on2 rest2) =
    let q = on_one s r c h ev to to2 freed freed2 mid mid2 on on2 in
    let k = all_one s r mid a b later l l2 (on_stands s r c mid ev to freed h on) rest
    (subst (λ (z : Chained V U). PerformsChain s r z later l2 b) (sym q.new_is) rest2) in (
      ap (λ (o : Outcome). chain_line ev o freed ++ l) q.outcome_is
          ∙ (ap (λ (f : List Sent). chain_line ev to2 f ++ l) q.freed_is
          ∙ ap (λ (z : List ℕ). chain_line ev to2 freed2 ++ z) k.0),
      k.1,
    )

-- What the events leave is one: the report, what each system released, and the schedules.
pub files_one : {V U : Type 0} (s : Setting V) (r : Setting U) (events : List ChainEvent) (report other : List ℕ)
    (middle mid released rest : List Packet) (first moves second steps : List PlainMove)
    → LeavesChain s r events report middle released first second
    → LeavesChain s r events other mid rest moves steps
    → (report ≡ other) × (middle ≡ mid) × (released ≡ rest) × (first ≡ moves) × (second ≡ steps)
files_one {V} {U} s r events report other middle mid released rest first moves second steps a b =
    let k = all_one s r (chain_opening V U) a.worlds b.worlds events a.lines b.lines (opening_stands s r) a.performs
    b.performs in
    let one : a.first_steps ≡ b.first_steps =
    finish_one s b.worlds.first a.first_steps b.first_steps
    (subst (λ (z : Chained V U). IsFinish s z.first a.first_steps) k.1 a.first_finish) b.first_finish in
    let two : a.second_steps ≡ b.second_steps =
    finish_one (behind r b.worlds.first) b.worlds.second a.second_steps b.second_steps
    (subst (λ (z : Chained V U). IsFinish (behind r z.first) z.second a.second_steps) k.1 a.second_finish)
    b.second_finish in (
      a.report_is
          ∙ (ap (λ (l : List ℕ). l ++ chain_done a.worlds) k.0
          ∙ (ap (λ (z : Chained V U). b.lines ++ chain_done z) k.1 ∙ sym b.report_is)),
      a.middle_is ∙ (ap (λ (z : Chained V U). packets_of z.first.released) k.1 ∙ sym b.middle_is),
      a.released_is ∙ (ap (λ (z : Chained V U). packets_of z.second.released) k.1 ∙ sym b.released_is),
      a.first_moves_are ∙ (ap (λ (z : List (Step V)). moves_made z) one ∙ sym b.first_moves_are),
      a.second_moves_are ∙ (ap (λ (z : List (Step U)). moves_made z) two ∙ sym b.second_moves_are),
    )
