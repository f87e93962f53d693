-- The value of a variable after a history: the fresh one, or the one that its newest touch left.
use Rattle.std.proofs.Common.{◌≡◌, ℕ, ◌+◌, ◌≢◌, List, [], ◌∷◌, refl, sym, ap, subst, inl, inr, ◌⊎◌, Some}
use Rattle.plain_text.specs.declared.packet.Packet.{Packet}
use Rattle.entry_order.specs.declared.what.What.TheVariants.{Access}
use Rattle.entry_order.specs.Log.{Entry, places}
use Rattle.entry_order.proofs.Order.{is_or}
use Rattle.plain_machine.specs.Program.{Meaning}
use Rattle.plain_machine.specs.Machine.{Effect, Takes, Touches, Looks, HearsClock, HearsDraw, Sends, Ends}
use Rattle.plain_machine.specs.History.{Act, Did, Step, log_more, log_of, entry_of, act_of, left_by, value_after}
use Rattle.plain_machine.specs.History.{IsHistory}
use Rattle.plain_machine.proofs.Histories.{Leaves, is_eq, not_eq}

-- the value of a variable is the fresh one, or the one that its newest touch left
abbrev pub IsValue : {V : Type 0} → Meaning V → ℕ → List (Step V) → Type 0
IsValue {V} m v xs =
    ((places v (log_of xs) ≡ 0) × (value_after m xs v ≡ m.fresh v))
    ⊎ ((g : Entry) × Leaves xs g (Some (value_after m xs v)) × (g.what ≡ Access v (places v (log_of xs))))

is_value_act : {V : Type 0} (m : Meaning V) (v t taken : ℕ) (x : Step V) (A : List (Step V)) (d : Effect V)
    → x.act ≡ act_of t A taken d → IsValue m v A → IsValue m v (x ∷ A)
is_value_act {V} m v t taken x A d e old = subst (λ (a : Act V).
    ((places v (log_more a (log_of A)) ≡ 0) × (left_by v a (value_after m A v) ≡ m.fresh v))
    ⊎ ((g : Entry)
    × ((x.act ≡ Did g (Some (left_by v a (value_after m A v)))) ⊎ Leaves A g (Some (left_by v a (value_after m A v))))
    × (g.what ≡ Access v (places v (log_more a (log_of A)))))) (sym e) (go d e old)
  where
    keep : IsValue m v A
        → ((places v (log_of A) ≡ 0) × (value_after m A v ≡ m.fresh v))
        ⊎ ((g : Entry)
        × ((x.act ≡ Did g (Some (value_after m A v))) ⊎ Leaves A g (Some (value_after m A v)))
        × (g.what ≡ Access v (places v (log_of A))))
    keep (inl h) = inl h
    keep (inr h) = inr (h.0, inr h.1, h.2)

    touch : (u : ℕ) (left : V) → x.act ≡ act_of t A taken (Touches u left) → IsValue m v A → ((u ≡ v) ⊎ (u ≢ v))
        → ((places v (log_more (act_of t A taken (Touches u left)) (log_of A)) ≡ 0)
        × (left_by v (act_of t A taken (Touches u left)) (value_after m A v) ≡ m.fresh v))
        ⊎ ((g : Entry)
        × ((x.act ≡ Did g (Some (left_by v (act_of t A taken (Touches u left)) (value_after m A v))))
        ⊎ Leaves A g (Some (left_by v (act_of t A taken (Touches u left)) (value_after m A v))))
        × (g.what ≡ Access v (places v (log_more (act_of t A taken (Touches u left)) (log_of A)))))
    touch u left e old (inl h) = rw (is_eq u v h) (inr (
      entry_of t (log_of A) (Access u (places u (log_of A) + 1)),
      inl e,
      ap (λ (n : ℕ). Access n (places n (log_of A) + 1)) h,
    ))
    touch u left e old (inr h) = rw (not_eq u v h) (keep old)

    go : (d : Effect V) → x.act ≡ act_of t A taken d → IsValue m v A
        → ((places v (log_more (act_of t A taken d) (log_of A)) ≡ 0)
        × (left_by v (act_of t A taken d) (value_after m A v) ≡ m.fresh v))
        ⊎ ((g : Entry)
        × ((x.act ≡ Did g (Some (left_by v (act_of t A taken d) (value_after m A v))))
        ⊎ Leaves A g (Some (left_by v (act_of t A taken d) (value_after m A v))))
        × (g.what ≡ Access v (places v (log_more (act_of t A taken d) (log_of A)))))
    go Takes e old = keep old
    go (Touches u left) e old = touch u left e old (is_or u v)
    go (Looks u) e old = keep old
    go (HearsClock a) e old = keep old
    go (HearsDraw a) e old = keep old
    go (Sends p) e old = keep old
    go Ends e old = keep old

-- The value is the fresh one where no touch was made, and else that of the touch at the last place.
pub is_value : {V : Type 0} (m : Meaning V) (inputs : ℕ → List Packet) (threads : ℕ) (v : ℕ) (xs : List (Step V))
    → IsHistory m inputs threads xs → IsValue m v xs
is_value m inputs threads v [] h = inl (refl, refl)
is_value m inputs threads v (x ∷ xs) h =
    is_value_act m v x.thread x.after.taken x xs h.0.2 h.0.4 (is_value m inputs threads v xs h.1)
