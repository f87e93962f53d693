-- Events one after another: what they make of each world that a system stood for.
use Rattle.std.proofs.Common.{◌≡◌, refl, sym, ap, ◌∙◌, subst}
use Rattle.std.specs.Prelude.{Result, Err}
use Rattle.plain_machine.specs.Program.{Meaning}
use Rattle.recovery_world.specs.World.{Setting, World}
use Rattle.system_parts.specs.Parts.{Parts}
use Rattle.system_parts.specs.SystemStanding.{StandsFor, StandsForSome}
use Rattle.system_parts.specs.Performing.{MovesOn, StopsAt}

-- what an event makes of a world
abbrev pub Relation : Type 0 → Type 1
Relation V = Setting V → World V → World V → Type 0

-- nothing happened
pub moves_none : {P V : Type 0} (m : Meaning V) (R : Relation V) (y : Parts P V)
    → ((s : Setting V) (w : World V) → R s w w) → MovesOn m R y y
moves_none m R y rests = (refl, λ s w st. (w, rests s w, st))

-- the same, by another name for it
pub moves_as : {P V : Type 0} (m : Meaning V) (R T : Relation V) (old new : Parts P V)
    → ((s : Setting V) (w next : World V) → StandsFor m s w old → StandsFor m s next new → R s w next → T s w next)
    → MovesOn m R old new → MovesOn m T old new
moves_as m R T old new turn a = (a.0, λ s w st. let k = a.1 s w st in (k.0, turn s w k.0 st k.2 k.1, k.2))

-- one event after another
pub moves_then : {P V : Type 0} (m n : Meaning V) (R S T : Relation V) (old mid new : Parts P V) → n ≡ m
    → ((s : Setting V) (w here next : World V) → StandsFor m s w old → StandsFor m s here mid → StandsFor m s next new
    → R s w here → S s here next → T s w next) → MovesOn m R old mid → MovesOn n S mid new → MovesOn m T old new
moves_then {P} {V} m n R S T old mid new is join a b = (
  b.0 ∙ a.0,
  λ s w st.
      let k = a.1 s w st in
      let l = b.1 s k.0 (subst (λ (q : Meaning V). StandsFor q s k.0 mid) (sym is) k.2) in
      let now = subst (λ (q : Meaning V). StandsFor q s l.0 new) is l.2 in
      (l.0, join s w k.0 l.0 st k.2 now k.1 l.1, now),
)

-- the second stops
pub stops_then : {P V : Type 0} (m n : Meaning V) (R S T : Relation V) (old mid new : Parts P V) → n ≡ m
    → ((s : Setting V) (w here next : World V) → StandsFor m s w old → StandsFor m s here mid → R s w here
    → S s here next → T s w next) → MovesOn m R old mid → StopsAt n S mid new → StopsAt m T old new
stops_then {P} {V} m n R S T old mid new is join a b = λ s w st.
    let k = a.1 s w st in
    let l = b s k.0 (subst (λ (q : Meaning V). StandsFor q s k.0 mid) (sym is) k.2) in
    (l.0, join s w k.0 l.0 st k.2 k.1 l.1, l.2)

-- it stops, by another name for it
pub stops_as : {P V : Type 0} (m : Meaning V) (R T : Relation V) (old new : Parts P V)
    → ((s : Setting V) (w next : World V) → StandsFor m s w old → R s w next → T s w next) → StopsAt m R old new
    → StopsAt m T old new
stops_as m R T old new turn a = λ s w st. let k = a s w st in (k.0, turn s w k.0 st k.1, k.2)

-- it stands for some world afterwards
pub stands_then : {P V : Type 0} (m n : Meaning V) (R : Relation V) (old new : Parts P V) → n ≡ m → MovesOn m R old new
    → StandsForSome m old → StandsForSome n new
stands_then {P} {V} m n R old new is a some =
    let k = a.1 some.0 some.1 some.2 in
    (some.0, k.0, subst (λ (q : Meaning V). StandsFor q some.0 k.0 new) (sym is) k.2)

-- the number of threads is that of the setting
pub threads_of_setting : {P V : Type 0} (m : Meaning V) (s : Setting V) (w : World V) (y : Parts P V)
    → StandsFor m s w y → y.inputs.threads ≡ s.threads
threads_of_setting m s w y st = ap (λ i. i.threads) st.inputs.inputs

-- it stays as it is
pub threads_stay : {P V : Type 0} (m : Meaning V) (R : Relation V) (old new : Parts P V) → MovesOn m R old new
    → StandsForSome m old → new.inputs.threads ≡ old.inputs.threads
threads_stay m R old new a some =
    let k = a.1 some.0 some.1 some.2 in
    threads_of_setting m some.0 k.0 new k.2 ∙ sym (threads_of_setting m some.0 some.1 old some.2)

-- what a `?` answers is what the call answered
pub exits_as : {A B E : Type 0} (made : Result A E) (answered : Result B E) (e y limit : E) → made ≡ Err e
    → answered ≡ Err y → y ≡ e → answered ≡ Err limit → made ≡ Err limit
exits_as made answered e y limit a b c d = cc
