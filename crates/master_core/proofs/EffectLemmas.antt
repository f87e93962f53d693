-- What the code of each kind of move finds and leaves, in the words of the definitions.
use Rattle.std.proofs.Common.{◌≡◌, ℕ, ◌<◌, ◌≢◌, List, length, refl, sym, ap, ◌∙◌, subst, inl, inr, ◌⊎◌, arith, cond}
use Rattle.std.proofs.Common.{true, false}
use Rattle.std.specs.Prelude.{nat_eq, slice_index, slice_index_or, slice_set}
use Rattle.std.proofs.lemmas.Bool.Decides.{nat_tests}
use Rattle.std.proofs.lemmas.List.{get_or-set_same, get_or-set_other, get_or_default}
use Rattle.entry_order.specs.declared.what.What.{What}
use Rattle.entry_order.proofs.Order.{is_or}
use Rattle.access_log.specs.declared.entry.StampedEntry.{StampedEntry}
use Rattle.plain_machine.specs.declared.local.Local.{Local}
use Rattle.plain_machine.specs.Program.{Meaning}
use Rattle.master_core.specs.declared.parts.VarPart.{VarPart}
use Rattle.master_core.specs.declared.parts.ThreadPart.{ThreadPart}
use Rattle.master_core.specs.Mastered.{Mastered}
use Rattle.master_core.specs.Effects.{after_entry, after_touch, after_read, with_thread, with_parts, Touched, Looked}
use Rattle.master_core.specs.Effects.{Heard}

-- an item within a list, whatever stands for one outside
pub item_is : {X : Type 0} (xs : List X) (i : ℕ) (x d : X) → i < length xs → x ≡ slice_index_or xs i x
    → x ≡ slice_index_or xs i d
item_is xs i x d below is = is ∙ same
  where
    same : slice_index_or xs i x ≡ slice_index_or xs i d
    same = get_or_default xs i x d below

-- a fact of an item and of another list's item, whatever stands for those outside
pub of_items : {X Y : Type 0} (P : X → Y → Type 0) (xs : List X) (ys : List Y) (i j : ℕ) (x d : X) (y z : Y)
    → i < length xs → j < length ys → x ≡ slice_index_or xs i x → y ≡ slice_index_or ys j y → P x y
    → P (slice_index_or xs i d) (slice_index_or ys j z)
of_items {X} {Y} P xs ys i j x d y z low under x_is y_is h =
    subst (λ (a : X). P a (slice_index_or ys j z)) (item_is xs i x d low x_is)
    (subst (λ (b : Y). P x b) (item_is ys j y z under y_is) h)

-- a master with one thread changed
pub master_is : {V : Type 0} (vars new : List (VarPart V)) (threads : List ThreadPart) (t : ℕ) (a b : ThreadPart)
    → vars ≡ new → a ≡ b
    → (let p : Mastered V = record { vars = vars; threads = slice_set threads t a } in
    let q : Mastered V = record { vars = new; threads = slice_set threads t b } in p ≡ q)
master_is {V} vars new threads t a b same one =
    ap (λ (x : List (VarPart V)). let p : Mastered V = record { vars = x; threads = slice_set threads t a } in p) same
    ∙ ap (λ (x : ThreadPart). let p : Mastered V = record { vars = new; threads = slice_set threads t x } in p) one

-- the master after a touch, after a read, and after an answer, in the words of the definitions alone
pub touched_master : {V : Type 0} (m : Meaning V) (t v : ℕ) (place : Local) (part : ThreadPart) (x : VarPart V)
    (p : Mastered V) (e : StampedEntry) (q : Mastered V) → Touched m t v place part x p e q
    → q ≡ with_parts p t (after_entry part (m.touch v x.value place).1 e.stamp) v (after_touch m v place x e.stamp)
touched_master m t v place part x p e q done =
    done.master ∙ master_is _ _ p.threads t _ _ (ap (slice_set p.vars v) done.does.variable) done.does.logs.thread

pub looked_master : {V : Type 0} (m : Meaning V) (t v : ℕ) (place : Local) (part : ThreadPart) (x : VarPart V)
    (p : Mastered V) (e : StampedEntry) (q : Mastered V) → (done : Looked m t v place part x p e q)
    → q ≡ with_parts p t (after_entry part (m.look v x.value place) e.stamp) v (after_read x done.y.readers)
looked_master m t v place part x p e q done =
    done.master ∙ master_is _ _ p.threads t _ _ (ap (slice_set p.vars v) done.does.variable) done.does.logs.thread

pub heard_master : {V : Type 0} (m : Meaning V) (t : ℕ) (what : What) (answer : ℕ) (place : Local) (part : ThreadPart)
    (p : Mastered V) (e : StampedEntry) (q : Mastered V) → Heard m t what answer place part p e q
    → q ≡ with_thread p t (after_entry part (m.told answer place) e.stamp)
heard_master m t what answer place part p e q done =
    done.master ∙ master_is p.vars p.vars p.threads t _ _ refl done.does.thread
