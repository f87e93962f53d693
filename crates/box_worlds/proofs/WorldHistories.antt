-- Each history of a world that events lead to is one of the plain machine, on the packets that were fed.
use Rattle.std.proofs.Common.{◌≡◌, List, sym, subst, inl, inr, Some}
use Rattle.plain_machine.specs.History.{Step, IsHistory}
use Rattle.plain_machine.specs.Agree.{IsEarlier, SendsAfter}
use Rattle.plain_machine.proofs.Histories.{earlier_history}
use Rattle.recovery_world.specs.World.{Setting, Sent, World, opening, inputs_fed}
use Rattle.recovery_world.specs.Events.{IsAmong}
use Rattle.recovery_world.specs.Finish.{IsFinish}
use Rattle.recovery_laws.specs.Sound.{Sound}
use Rattle.recovery_laws.proofs.KeptWorlds.{opening_sound, performs_sound, stops_sound}
use Rattle.recovery_laws.proofs.Finishes.{finish_there, finish_ends}
use Rattle.box_worlds.specs.Worlds.{IsLedTo, Performed, Stopped, IsOfWorld}

pub led_sound : {V : Type 0} (s : Setting V) (w : World V) → IsLedTo s w → Sound s w
led_sound {V} s w (Performed events lines performs) =
    performs_sound s (opening V) w events lines (opening_sound s) performs
led_sound {V} s w (Stopped {mid = mid} events lines event limit performs stops) =
    stops_sound s mid (performs_sound s (opening V) mid events lines (opening_sound s) performs) event limit w stops

pub past_legal : {V : Type 0} (s : Setting V) (w : World V) → IsLedTo s w
    → IsHistory s.meaning (inputs_fed s w.fed) s.threads w.past
past_legal s w led = (led_sound s w led).firm.legal

pub stored_legal : {V : Type 0} (s : Setting V) (w : World V) → IsLedTo s w
    → IsEarlier w.stored w.past × IsHistory s.meaning (inputs_fed s w.fed) s.threads w.stored
stored_legal s w led =
    let early = (led_sound s w led).firm.stored in
    (early, earlier_history s.meaning (inputs_fed s w.fed) s.threads w.stored w.past early (past_legal s w led))

pub copy_legal : {V : Type 0} (s : Setting V) (w : World V) (copy : List (Step V)) → IsLedTo s w → w.copy ≡ Some copy
    → IsEarlier copy w.past × IsHistory s.meaning (inputs_fed s w.fed) s.threads copy
copy_legal s w copy led is =
    let early = ((led_sound s w led).firm.copied copy is).1 in
    (early, earlier_history s.meaning (inputs_fed s w.fed) s.threads copy w.past early (past_legal s w led))

pub end_legal : {V : Type 0} (s : Setting V) (w : World V) (steps : List (Step V)) → IsLedTo s w → IsFinish s w steps
    → IsHistory s.meaning (inputs_fed s w.fed) s.threads steps
end_legal s w steps led f = (finish_ends s w steps (led_sound s w led) f).fed

pub legal_of_world : {V : Type 0} (s : Setting V) (w : World V) (steps : List (Step V)) → IsLedTo s w
    → IsOfWorld s w steps → IsHistory s.meaning (inputs_fed s w.fed) s.threads steps
legal_of_world {V} s w steps led (inl is) =
    subst (λ (l : List (Step V)). IsHistory s.meaning (inputs_fed s w.fed) s.threads l) (sym is) (past_legal s w led)
legal_of_world {V} s w steps led (inr (inl is)) =
    subst (λ (l : List (Step V)). IsHistory s.meaning (inputs_fed s w.fed) s.threads l) (sym is)
    (stored_legal s w led).1
legal_of_world s w steps led (inr (inr (inl is))) = (copy_legal s w steps led is).1
legal_of_world s w steps led (inr (inr (inr f))) = end_legal s w steps led f

pub moment_legal : {V : Type 0} (s : Setting V) (w : World V) (steps part : List (Step V)) → IsLedTo s w
    → IsOfWorld s w steps → IsEarlier part steps → IsHistory s.meaning (inputs_fed s w.fed) s.threads part
moment_legal s w steps part led of early =
    earlier_history s.meaning (inputs_fed s w.fed) s.threads part steps early (legal_of_world s w steps led of)

-- one run in which the world ends sends all that was released
pub sends_released : {V : Type 0} (s : Setting V) (w : World V) → IsLedTo s w
    → (run : List (Step V)) × IsFinish s w run
    × ((o : Sent) → IsAmong o w.released → SendsAfter run o.emission o.after)
sends_released s w led =
    let r = finish_there s w (led_sound s w led) in
    (r.0, r.1, (finish_ends s w r.0 (led_sound s w led) r.1).emits)
