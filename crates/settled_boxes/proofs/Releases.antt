-- A settling has released each packet once, where the box sends each out once.
use Rattle.std.proofs.Common.{◌≡◌, ℕ, ◌+◌, ◌<◌, ◌≤◌, List, [], ◌∷◌, ◌++◌, length, refl, sym, ◌∙◌, subst, inl, inr}
use Rattle.std.proofs.Common.{arith, Some}
use Rattle.std.specs.Prelude.{slice_get}
use Rattle.std.proofs.lemmas.Option.{slice_get_within}
use Rattle.plain_text.specs.declared.packet.Packet.{Packet}
use Rattle.plain_machine.specs.declared.emission.Emission.{Emission}
use Rattle.plain_machine.specs.declared.local.Local.{Local}
use Rattle.plain_machine.specs.declared.plain_move.PlainMove.{PlainMove}
use Rattle.plain_machine.specs.Program.{Meaning}
use Rattle.plain_machine.specs.History.{Step, IsHistory, sent_of, outputs, thread_after}
use Rattle.plain_machine.specs.Agree.{SendsAfter}
use Rattle.recovery_world.specs.declared.event.Event.{Event}
use Rattle.recovery_world.specs.declared.event.Event.TheVariants.{Settle}
use Rattle.recovery_world.specs.World.{Setting, Sent, World, all_inputs}
use Rattle.recovery_world.specs.Events.{IsAmong}
use Rattle.recovery_world.specs.Files.{Leaves}
use Rattle.recovery_laws.specs.Sound.{times}
use Rattle.recovery_laws.specs.Settled.{IsSettled}
use Rattle.recovery_laws.proofs.Finishes.{sent_there}
use Rattle.recovery_laws.proofs.Settlings.{script_settled}
use Rattle.settled_boxes.specs.EachOnce.{times_sent, ReleasesEachOnce}
use Rattle.settled_boxes.proofs.OutputsOfInputs.{SendsOnce, rest_outputs, made_of_input}

-- where outputs have the numbers of their inputs, both are counted alike
sent_by_number : (t j : ℕ) (xs : List Sent) → ((o : Sent) → IsAmong o xs → o.emission.number ≡ o.emission.input)
    → times_sent t j xs ≡ times t j xs
sent_by_number t j [] own = refl
sent_by_number t j (x ∷ xs) own = rw (own x (inl refl), sent_by_number t j xs (λ o among. own o (inr among))) refl

module _ {V : Type 0} (m : Meaning V) (SentAs : Packet → Packet → Type 0) (Went : Local → Type 0)
    (box : SendsOnce m SentAs Went) (s : Setting V) (w : World V) (steps : List (Step V))
    (legal : IsHistory m (all_inputs s) s.threads steps) (settled : IsSettled s w steps) where
  -- what was released was made of the input of its number
  made : (o : Sent) → IsAmong o w.released
      → (k : ℕ) × (p : Packet) × (o.emission.number ≡ k + 1) × (o.emission.input ≡ k + 1)
      × (slice_get (all_inputs s o.emission.thread) k ≡ Some p) × SentAs p o.emission.packet
  made o among =
      made_of_input m SentAs Went box (all_inputs s) s.threads steps o.emission o.after legal (settled.only o among)

  own_number : (o : Sent) → IsAmong o w.released → o.emission.number ≡ o.emission.input
  own_number o among = let r = made o among in r.2 ∙ sym r.3

  -- the packet of one input is one
  one_packet : (t u k j : ℕ) (p q : Packet) → u ≡ t → j ≡ k → slice_get (all_inputs s u) j ≡ Some q
      → slice_get (all_inputs s t) k ≡ Some p → q ≡ p
  one_packet t u k j p q thread place there here =
      let a : slice_get (all_inputs s t) k ≡ Some q = subst (λ (i : ℕ). slice_get (all_inputs s t) i ≡ Some q) place
      (subst (λ (v : ℕ). slice_get (all_inputs s v) j ≡ Some q) thread there) in
      let b : Some q ≡ Some p = sym a ∙ here in cc

  -- an output of this number is of this input
  of_output : (o : Sent) (t k : ℕ) (p : Packet) → IsAmong o w.released → o.emission.thread ≡ t
      → o.emission.number ≡ k + 1 → slice_get (all_inputs s t) k ≡ Some p
      → ((j : ℕ) × (q : Packet) × (o.emission.number ≡ j + 1) × (o.emission.input ≡ j + 1)
      × (slice_get (all_inputs s o.emission.thread) j ≡ Some q) × SentAs q o.emission.packet)
      → (o : Sent) × IsAmong o w.released × (o.emission.thread ≡ t) × (o.emission.input ≡ k + 1)
      × SentAs p o.emission.packet
  of_output o t k p among thread number here (j, q, own, input, there, sent) =
      let same : j ≡ k = omega arith in (
        o,
        among,
        thread,
        omega arith,
        subst (λ (x : Packet). SentAs x o.emission.packet)
            (one_packet t o.emission.thread k j p q thread same there here) sent,
      )

  each : (t k : ℕ) (p : Packet) → t < s.threads → slice_get (all_inputs s t) k ≡ Some p
      → (o : Sent) × IsAmong o w.released × (o.emission.thread ≡ t) × (o.emission.input ≡ k + 1)
      × SentAs p o.emission.packet
  each t k p low is = go (sent_there m (all_inputs s) s.threads t (k + 1) steps legal (omega arith)
      (enough (slice_get_within (all_inputs s t) k p is)
      (rest_outputs m SentAs Went box (all_inputs s) s.threads steps legal t (settled.ended t low))
      (settled.taken t low)))
    where
      enough : k < length (all_inputs s t) → outputs t (sent_of steps) ≡ (thread_after steps t).taken
          → (thread_after steps t).taken ≡ length (all_inputs s t) → k + 1 ≤ outputs t (sent_of steps)
      enough within sent taken = omega arith

      go : ((o : Emission) × (n : ℕ) × SendsAfter steps o n × (o.thread ≡ t) × (o.number ≡ k + 1))
          → (o : Sent) × IsAmong o w.released × (o.emission.thread ≡ t) × (o.emission.input ≡ k + 1)
          × SentAs p o.emission.packet
      go (o, n, sends, thread, number) =
          let among : IsAmong (record { emission = o; after = n }) w.released =
          settled.released (record { emission = o; after = n }) sends in
          of_output (record { emission = o; after = n }) t k p among thread number is
          (made (record { emission = o; after = n }) among)

  pub releases_each_once : ReleasesEachOnce s w SentAs
  releases_each_once = record {
    each = each;
    only = λ o among. let r = made o among in (r.0, r.1, r.3, r.4, r.5);
    once = λ t j. rw (sent_by_number t j w.released own_number) (settled.once t j);
  }

-- the run in which the world of a script ends that ends in a settling
pub script_releases : {V : Type 0} (m : Meaning V) (SentAs : Packet → Packet → Type 0) (Went : Local → Type 0)
    → SendsOnce m SentAs Went → (s : Setting V) (events : List Event) (report : List ℕ) (released : List Packet)
    (schedule : List PlainMove) → s.meaning ≡ m → (l : Leaves s (events ++ Settle ∷ []) report released schedule)
    → ReleasesEachOnce s l.world SentAs
script_releases {V} m SentAs Went box s events report released schedule is l =
    releases_each_once m SentAs Went box s l.world l.steps
    (subst (λ (x : Meaning V). IsHistory x (all_inputs s) s.threads l.steps) is l.finish.history)
    (script_settled s events report released schedule l)
