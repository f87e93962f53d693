-- Which variable a thread wants.
use Rattle.std.proofs.Common.{◌≡◌, ℕ, zero, suc, ◌<◌, ◌≤◌, List, [], ◌∷◌, length, refl, sym, ap, ◌∙◌}
use Rattle.std.proofs.Common.{Bool, true, false, Option, Some, None, arith}
use Rattle.std.specs.Prelude.{slice_set, IsSome}
use Rattle.plain_machine.specs.declared.local.Local.{Local}
use Rattle.plain_machine.specs.declared.local.Move.{Move}
use Rattle.plain_machine.specs.declared.local.Move.TheVariants as move
use Rattle.plain_machine.specs.Program.{Meaning, IsLawful}
use Rattle.master_core.specs.declared.wants.Wants.{Wants}
use Rattle.var_locks.specs.Seats.{Seated}
use Rattle.var_locks.specs.TouchedParts.{wanted_move}
use Rattle.var_locks.specs.Wanting.{seat_wants, seat_wants_in, seat_wants_by, next_by, on_variable}

-- a change past the end is none
pub set_past : (l : List ℕ) (i a : ℕ) → length l ≤ i → slice_set l i a ≡ l
set_past [] i a above = refl
set_past (x ∷ xs) zero a above = absurd (omega (arith, above))
set_past (x ∷ xs) (suc i) a above = ap (λ (l : List ℕ). x ∷ l) (set_past xs i a (omega (arith, above)))

-- what the seat's thread wants, by what it has in hand
wants_with : {V : Type 0} (m : Meaning V) (x : Seated V) (w : Wants) (hand : Option Local) → x.part.hand ≡ hand
    → w ≡ seat_wants m x → w ≡ seat_wants_in m x.part.counts x.seen hand
wants_with m x w hand at is = is ∙ ap (λ (o : Option Local). seat_wants_in m x.part.counts x.seen o) at

-- the program's next move with the packet in hand is that which the seat's thread wants
pub next_wanted : {V : Type 0} (m : Meaning V) (x : Seated V) (place : Local) (w : Wants) → x.part.hand ≡ Some place
    → w ≡ seat_wants m x → next_by w ≡ Some (m.next place)
next_wanted m x place w hand is = ap next_by (wants_with m x w (Some place) hand is) ∙ go (m.next place)
  where
    go : (next : Move) → next_by (seat_wants_by x.part.counts x.seen next) ≡ Some next
    go (move.Access v) = refl
    go (move.Read v) = refl
    go move.Clock = refl
    go move.Draw = refl
    go move.Emit = refl
    go move.End = refl

-- it is this one
pub next_is : {V : Type 0} (m : Meaning V) (x : Seated V) (place : Local) (w : Wants) (next : Move)
    → x.part.hand ≡ Some place → w ≡ seat_wants m x → next_by w ≡ Some next → m.next place ≡ next
next_is m x place w next hand is known =
    let both : Some (m.next place) ≡ Some next = sym (next_wanted m x place w hand is) ∙ known in cc

-- who wants a touch or a read has a packet in hand
pub placed : {V : Type 0} (m : Meaning V) (x : Seated V) (w : Wants) → w ≡ seat_wants m x → on_variable w ≡ true
    → IsSome x.part.hand
placed m x w is on = go x.part.hand refl
  where
    go : (o : Option Local) → x.part.hand ≡ o → IsSome o
    go None none =
        let other : on_variable w ≡ false = ap on_variable (wants_with m x w None none is) in absurd (cc)
    go (Some place) some = refl

-- a touch or a read that is next is of one of the program's variables
pub low : {V : Type 0} (m : Meaning V) (fits : ℕ → V → Type 0) (place : Local) (v : ℕ) (read : Bool)
    → IsLawful m fits → m.next place ≡ wanted_move v read → v < m.vars
low m fits place v true lawful is = lawful.reads_var place v is
low m fits place v false lawful is = lawful.touches_var place v is
