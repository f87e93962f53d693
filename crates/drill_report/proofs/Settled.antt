-- Behind a settling nothing waits, and nothing is under way.
use Rattle.std.proofs.Common.{◌≡◌, Bool, true, false, List, [], ◌∷◌, refl, ap, inl, inr}
use Rattle.std.specs.Prelude.{◌&&◌, if◌then◌else◌}
use Rattle.plain_machine.proofs.Histories.{is_eq}
use Rattle.plain_machine.specs.History.{Act, Took, Did, Emitted, Ended, Step, log_of, sent_more, sent_of}
use Rattle.plain_machine.specs.Agree.{SendsAfter}
use Rattle.entry_order.specs.Log.{entries}
use Rattle.recovery_world.specs.World.{Sent}
use Rattle.recovery_world.specs.Events.{IsAmong}
use Rattle.drill_report.specs.Report.{is_among, count_waiting}

both : (a b rest : Bool) → a ≡ true → b ≡ true → (if a && b then true else rest) ≡ true
both true true rest one two = refl
both true false rest one two = absurd (cc)
both false b rest one two = absurd (cc)

there : (b : Bool) (rest : Bool) → rest ≡ true → (if b then true else rest) ≡ true
there true rest is = refl
there false rest is = is

pub among_is : (o : Sent) (released : List Sent) → IsAmong o released
    → is_among o.emission.thread o.emission.number released ≡ true
among_is o [] h = absurd h
among_is o (x ∷ released) (inl same) =
    both _ _ _ (is_eq x.emission.thread o.emission.thread (ap (λ (z : Sent). z.emission.thread) same))
    (is_eq x.emission.number o.emission.number (ap (λ (z : Sent). z.emission.number) same))
among_is o (x ∷ released) (inr h) = there _ _ (among_is o released h)

pub none_waiting : {V : Type 0} (steps : List (Step V)) (released : List Sent)
    → ((o : Sent) → SendsAfter steps o.emission o.after → IsAmong o released)
    → count_waiting (sent_of steps) released ≡ 0
none_waiting [] released all = refl
none_waiting {V} (x ∷ earlier) released all =
    go (none_waiting earlier released (λ o sends. all o (inr sends))) x.act refl
  where
    go : count_waiting (sent_of earlier) released ≡ 0 → (a : Act V) → x.act ≡ a
        → count_waiting (sent_more a (sent_of earlier)) released ≡ 0
    go rest (Took k) is = rest
    go rest (Did e left) is = rest
    go rest (Emitted o) is =
        rw (among_is (record { emission = o; after = entries o.thread (log_of earlier) }) released
        (all (record { emission = o; after = entries o.thread (log_of earlier) }) (inl (is, refl)))) rest
    go rest (Ended k) is = rest
