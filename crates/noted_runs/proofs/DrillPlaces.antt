-- The first elements of a list of events.
use Rattle.std.proofs.Common.{◌≡◌, ℕ, ◌<◌, ◌≤◌, List, [], ◌∷◌, ◌++◌, take, drop, length, refl, sym, ap}
use Rattle.std.proofs.Common.{zero, suc, arith, get_or}
use Rattle.recovery_world.specs.declared.event.Event.{Event}

-- the first events, with one more, and those behind it
pub split_here : (events : List Event) (i : ℕ) (x : Event) → i < length events → x ≡ get_or events i x
    → events ≡ (take i events ++ x ∷ []) ++ drop (suc i) events
split_here [] i x low is = absurd (omega arith)
split_here (y ∷ events) zero x low is = ap (λ (z : Event). z ∷ events) (sym is)
split_here (y ∷ events) (suc i) x low is = ap (λ l. y ∷ l) (split_here events i x (omega arith) is)

pub take_here : (events : List Event) (i : ℕ) (x : Event) → i < length events → x ≡ get_or events i x
    → take (suc i) events ≡ take i events ++ x ∷ []
take_here [] i x low is = absurd (omega arith)
take_here (y ∷ events) zero x low is = ap (λ (z : Event). z ∷ []) (sym is)
take_here (y ∷ events) (suc i) x low is = ap (λ l. y ∷ l) (take_here events i x (omega arith) is)

any_item : (l : List Event) (i : ℕ) (d e : Event) → i < length l → get_or l i d ≡ get_or l i e
any_item [] i d e low = absurd (omega arith)
any_item (y ∷ l) zero d e low = refl
any_item (y ∷ l) (suc i) d e low = any_item l i d e (omega arith)

-- an element is itself, whatever stands for one that is not there
pub same_item : (events : List Event) (i : ℕ) (d : Event) → i < length events
    → get_or events i d ≡ get_or events i (get_or events i d)
same_item events i d low = any_item events i d (get_or events i d) low

pub take_all : (events : List Event) (n : ℕ) → length events ≤ n → take n events ≡ events
take_all [] zero low = refl
take_all [] (suc n) low = refl
take_all (y ∷ events) zero low = absurd (omega arith)
take_all (y ∷ events) (suc n) low = ap (λ l. y ∷ l) (take_all events n (omega arith))
