-- Looking up a frame in a run.
use Rattle.std.proofs.Common.{◌≡◌, ℕ, zero, suc, ◌+◌, ◌-◌, ◌≤◌, ◌<◌, ◌≢◌, ◌↔◌, Bool, true, false, cond, List, []}
use Rattle.std.proofs.Common.{take, inl, inr, ◌⊎◌}
use Rattle.std.proofs.lemmas.List.{length-take}
use Rattle.std.proofs.Common.{◌∷◌, ◌++◌, Option, Some, None, Ordering, Less, Equal, Greater, Bor, IsSome, IfSome, drop}
use Rattle.std.proofs.Common.{length, slice_index_or, slice_set, min, refl, sym, ap, ◌∙◌, subst, ⊎_elim, arith}
use Rattle.std.specs.List.{slice_get}
use Rattle.std.specs.Option.{option_copied, option_map}
use Rattle.std.proofs.lemmas.Bool.{cases_lt}
use Rattle.std.proofs.lemmas.Option.{slice_get_past, slice_get_read}
use Rattle.std.proofs.Math.Nat.{min-le_left, min-le_right, min-eq_left, min-eq_right}
use Rattle.std.specs.BTreeMap.{is_at}
use Rattle.std.specs.Cmp.{nat_cmp_is}
use Rattle.std.specs.Ordering.{nat_cmp, is_eq, ordering_then}
use Rattle.link_store.specs.declared.address.Address.{Address}
use Rattle.plain_text.specs.declared.kind.Kind.{Kind}
use Rattle.plain_text.specs.declared.kind.Kind.TheVariants.{Log, Out}
use Rattle.plain_text.specs.contracts.kind.KindOrd.TheImpl as kind_order
use Rattle.link_store.specs.contracts.address.AddressOrd.TheImpl as address_order
use Rattle.link_store.specs.Beside.{IsBeside}
use Rattle.link_store.specs.declared.kept.Form.{Form}
use Rattle.link_store.specs.Kept.{bytes_of}
use Rattle.link_store.specs.Links.{address, frame_at, Sends, Forgets, IsUpTo, IsPast}
use Rattle.link_store.specs.Runs.{later, in_turn, Run, frames_of, Takes}

-- Which addresses are the same

record Same (P : Type 0) (r : Ordering) : Type 0 where
  same : P
  rest : is_eq r ≡ true

-- where the whole comparison is equal, so is its first part
equal_number : (x y : ℕ) (r : Ordering) → is_eq (ordering_then (nat_cmp x y) r) ≡ true → Same (x ≡ y) r
equal_number x y r e =
    ⊎_elim (λ below. let less = nat_cmp_is x y Less below in let no = rw (← less) at e in cc)
    (λ up_to. ⊎_elim (λ above. let greater = nat_cmp_is x y Greater above in let no = rw (← greater) at e in cc)
    (λ at_most. let same : x ≡ y = omega arith in
    let equal = nat_cmp_is x y Equal same in
    record { same = same; rest = rw (← equal) at e }) (cases_lt y x)) (cases_lt x y)

last_number : (x y : ℕ) → is_eq (nat_cmp x y) ≡ true → x ≡ y
last_number x y e =
    ⊎_elim (λ below. let less = nat_cmp_is x y Less below in let no = rw (← less) at e in cc)
    (λ up_to. ⊎_elim (λ above. let greater = nat_cmp_is x y Greater above in let no = rw (← greater) at e in cc)
    (λ at_most. omega arith) (cases_lt y x)) (cases_lt x y)

equal_kind : (k l : Kind) (r : Ordering) → is_eq (ordering_then ((kind_order.ghosts).cmp k l) r) ≡ true → Same (k ≡ l) r
equal_kind Log Log r e = record { same = refl; rest = e }
equal_kind Log Out r e = cc
equal_kind Out Log r e = cc
equal_kind Out Out r e = record { same = refl; rest = e }

pub same_address : (a b : Address) → a.epoch ≡ b.epoch → a.kind ≡ b.kind → a.thread ≡ b.thread
    → a.number ≡ b.number → a ≡ b
same_address a b e k t n =
    ap (λ (x : ℕ). address x a.kind a.thread a.number) e ∙ ap (λ (x : Kind). address b.epoch x a.thread a.number) k
    ∙ ap (λ (x : ℕ). address b.epoch b.kind x a.number) t ∙ ap (λ (x : ℕ). address b.epoch b.kind b.thread x) n

from_is_at : (a b : Address) → is_at ((address_order.ghosts).cmp a) b ≡ true → a ≡ b
from_is_at a b h =
    let e = equal_number a.epoch b.epoch _ h in
    let k = equal_kind a.kind b.kind _ e.rest in
    let t = equal_number a.thread b.thread _ k.rest in
    same_address a b e.same k.same t.same (last_number a.number b.number t.rest)

then_equal : (r s : Ordering) → r ≡ Equal → is_eq s ≡ true → is_eq (ordering_then r s) ≡ true
then_equal Less s e h = cc
then_equal Equal s e h = h
then_equal Greater s e h = cc

kind_itself : (k : Kind) → (kind_order.ghosts).cmp k k ≡ Equal
kind_itself Log = refl
kind_itself Out = refl

is_at-itself : (a : Address) → is_at ((address_order.ghosts).cmp a) a ≡ true
is_at-itself a =
    then_equal _ _ (sym (nat_cmp_is a.epoch a.epoch Equal refl)) (then_equal _ _ (kind_itself a.kind) (then_equal _ _
    (sym (nat_cmp_is a.thread a.thread Equal refl)) (ap is_eq (sym (nat_cmp_is a.number a.number Equal refl)))))

not_true : (b : Bool) → (b ≡ true → ⊥) → b ≡ false
not_true true h = absurd (h refl)
not_true false h = refl

pub is_at-apart : (a b : Address) → a ≢ b → is_at ((address_order.ghosts).cmp a) b ≡ false
is_at-apart a b apart = not_true _ (λ e. apart (from_is_at a b e))

-- The first frame and the others

pub at_head : (first : Address) (f : List ℕ) (rest : List (Address × List ℕ)) (b : Address) → b ≡ first
    → frame_at ((first, f) ∷ rest) b ≡ Some f
at_head first f rest b e = subst (λ (q : Address). frame_at ((first, f) ∷ rest) q ≡ Some f) (sym e)
    (ap (λ t. cond t (Some f) (frame_at rest first)) (is_at-itself first))

pub past_head : (first : Address) (f : List ℕ) (rest : List (Address × List ℕ)) (b : Address) → b ≢ first
    → frame_at ((first, f) ∷ rest) b ≡ frame_at rest b
past_head first f rest b apart = ap (λ t. cond t (Some f) (frame_at rest b)) (is_at-apart b first apart)

later_none : (a : Address) → later a 0 ≡ a
later_none a = same_address (later a 0) a refl refl refl (omega arith)

pub at_first : (first a : Address) (i : ℕ) → i ≡ 0 → a ≡ later first i → a ≡ first
at_first first a i none is = is ∙ ap (λ (k : ℕ). later first k) none ∙ later_none first

later_more : (a : Address) (i : ℕ) → later a (suc i) ≡ later (later a 1) i
later_more a i = same_address (later a (suc i)) (later (later a 1) i) refl refl refl (omega arith)

later_apart : (a : Address) (i : ℕ) → later a (suc i) ≢ a
later_apart a i e = let n = ap (λ (q : Address). q.number) e in omega arith

-- Where a run has its frames

pub run_in : (frames : List Form) (first : Address) (i : ℕ)
    → frame_at (in_turn first frames) (later first i) ≡ option_map (bytes_of first.epoch) (slice_get frames i)
run_in [] first i = refl
run_in (f ∷ frames) first zero = at_head first (bytes_of first.epoch f) _ (later first 0) (later_none first)
run_in (f ∷ frames) first (suc i) =
    past_head first (bytes_of first.epoch f) _ (later first (suc i)) (later_apart first i)
    ∙ ap (λ (b : Address). frame_at (in_turn (later first 1) frames) b) (later_more first i)
    ∙ run_in frames (later first 1) i

pub run_out : (frames : List Form) (first b : Address) → ((i : ℕ) → i < length frames → b ≡ later first i → ⊥)
    → frame_at (in_turn first frames) b ≡ None
run_out [] first b out = refl
run_out (f ∷ frames) first b out =
    past_head first (bytes_of first.epoch f) _ b (λ e. out 0 (omega arith) (e ∙ sym (later_none first)))
    ∙ run_out frames (later first 1) b (λ i low e. out (suc i) (omega arith) (e ∙ sym (later_more first i)))

pub not_taken : (run : Run) (a : Address) → (Takes run a → ⊥) → frame_at (frames_of run) a ≡ None
not_taken run a none =
    run_out run.frames run.first a (λ i low e. none (record { place = i; within = omega arith; is = e }))

-- the frame that a run is asked for
-- Putting a frame into a run

sends_behind : (first : Address) (f : List ℕ) (old new : List (Address × List ℕ)) (i : ℕ) (g : List ℕ)
    → Sends old new (later (later first 1) i) g → Sends ((first, f) ∷ old) ((first, f) ∷ new) (later first (suc i)) g
sends_behind first f old new i g s = record {
  sent =
      past_head first f new (later first (suc i)) (later_apart first i)
      ∙ ap (λ (b : Address). frame_at new b) (later_more first i)
      ∙ s.sent;
  others = λ b apart. ap (λ o. cond (is_at ((address_order.ghosts).cmp b) first) (Some f) o)
      (s.others b (λ e. apart (e ∙ sym (later_more first i))));
}

set_in : (frames : List Form) (first : Address) (i : ℕ) (g : Form) → i < length frames
    → Sends (in_turn first frames) (in_turn first (slice_set frames i g)) (later first i) (bytes_of first.epoch g)
set_in [] first i g low = absurd (omega arith)
set_in (f ∷ frames) first zero g low = record {
  sent = at_head first (bytes_of first.epoch g) _ (later first 0) (later_none first);
  others = λ b apart.
      let far : b ≢ first = λ e. apart (e ∙ sym (later_none first)) in
      past_head first (bytes_of first.epoch g) _ b far ∙ sym (past_head first (bytes_of first.epoch f) _ b far);
}
set_in (f ∷ frames) first (suc i) g low =
    sends_behind first (bytes_of first.epoch f) _ _ i (bytes_of first.epoch g)
    (set_in frames (later first 1) i g (omega arith))

push_in : (frames : List Form) (first : Address) (i : ℕ) (g : Form) → i ≡ length frames
    → Sends (in_turn first frames) (in_turn first (frames ++ g ∷ [])) (later first i) (bytes_of first.epoch g)
push_in [] first zero g e = record {
  sent = at_head first (bytes_of first.epoch g) [] (later first 0) (later_none first);
  others = λ b apart. past_head first (bytes_of first.epoch g) [] b (λ e. apart (e ∙ sym (later_none first)));
}
push_in [] first (suc i) g e = absurd (omega arith)
push_in (f ∷ frames) first zero g e = absurd (omega arith)
push_in (f ∷ frames) first (suc i) g e =
    sends_behind first (bytes_of first.epoch f) _ _ i (bytes_of first.epoch g)
    (push_in frames (later first 1) i g (omega arith))

-- a run of one frame, instead of nothing or of a run without frames
pub sends_alone : (run : Run) (a : Address) (g : Form) → run ≡ record { first = a; frames = g ∷ [] }
    → Sends [] (frames_of run) a (bytes_of a.epoch g)
sends_alone run a g is = subst (λ (r : Run). Sends [] (frames_of r) a (bytes_of a.epoch g)) (sym is) (record {
  sent = at_head a (bytes_of a.epoch g) [] a refl;
  others = λ b apart. past_head a (bytes_of a.epoch g) [] b apart;
})

pub sends_into_empty : (old run : Run) (a : Address) (g : Form) → old.frames ≡ []
    → run ≡ record { first = a; frames = g ∷ [] } → Sends (frames_of old) (frames_of run) a (bytes_of a.epoch g)
sends_into_empty old run a g none is =
    subst (λ (l : List Form). Sends (in_turn old.first l) (frames_of run) a (bytes_of a.epoch g)) (sym none)
    (sends_alone run a g is)

-- how far the address is behind the first
pub place_behind : (first a : Address) (i : ℕ) → a ≡ later first i → a.number - first.number ≡ i
place_behind first a i e = let n = ap (λ (q : Address). q.number) e in omega arith

pub puts_set : (first : Address) (frames : List Form) (a : Address) (g : Form)
    → Takes (record { first = first; frames = frames }) a → a.number - first.number < length frames
    → Sends (in_turn first frames) (in_turn first (slice_set frames (a.number - first.number) g)) a (bytes_of a.epoch g)
puts_set first frames a g t low =
    let i = place_behind first a t.place t.is in
    subst (λ (k : ℕ). Sends (in_turn first frames) (in_turn first (slice_set frames k g)) a (bytes_of a.epoch g)) (sym i)
    (subst (λ (b : Address).
    Sends (in_turn first frames) (in_turn first (slice_set frames t.place g)) b (bytes_of b.epoch g)) (sym t.is)
    (set_in frames first t.place g (omega arith)))

pub puts_next : (first : Address) (frames : List Form) (a : Address) (g : Form)
    → Takes (record { first = first; frames = frames }) a → length frames ≤ a.number - first.number
    → Sends (in_turn first frames) (in_turn first (frames ++ g ∷ [])) a (bytes_of a.epoch g)
puts_next first frames a g t high =
    let i = place_behind first a t.place t.is in
    let within = t.within in
    subst (λ (b : Address). Sends (in_turn first frames) (in_turn first (frames ++ g ∷ [])) b (bytes_of b.epoch g))
    (sym t.is) (push_in frames first t.place g (omega arith))

-- Forgetting frames of a run

-- the number after the first, which is not raised past the last one that there is
pub below_min : (x m r : ℕ) → r ≡ min x m → r ≤ x
below_min x m r e = let low = min-le_left x m in omega arith

pub is_min : (x m r : ℕ) → r ≡ min x m → x ≤ m → r ≡ x
is_min x m r e low = e ∙ min-eq_left low

pub none_beside : (frames : List Form) (first last : Address) → (IsBeside first last → ⊥)
    → Forgets (IsUpTo last) (in_turn first frames) (in_turn first frames)
none_beside frames first last far = record {
  forgotten = λ a up. run_out frames first a (λ i low e. far (record {
    epoch = sym (ap (λ (q : Address). q.epoch) e) ∙ up.epoch;
    kind = sym (ap (λ (q : Address). q.kind) e) ∙ up.kind;
    thread = sym (ap (λ (q : Address). q.thread) e) ∙ up.thread;
  }));
  others = λ a apart. refl;
}

-- none is up to the last any more
pub none_up_to : (frames : List Form) (first last a : Address) → (0 < length frames → last.number < first.number)
    → IsUpTo last a → frame_at (in_turn first frames) a ≡ None
none_up_to frames first last a past up = run_out frames first a (λ i low e.
    let n = ap (λ (q : Address). q.number) e in
    let high = past (omega arith) in
    let at_most = up.number in
    omega arith)

-- the first frame is forgotten, and the run begins with the next
pub drops_head : (frames : List Form) (first : Address) (next : ℕ)
    → (1 < length frames → next ≡ first.number + 1) → (a : Address) → a ≢ first
    → frame_at (in_turn (address first.epoch first.kind first.thread next) (drop 1 frames)) a
    ≡ frame_at (in_turn first frames) a
drops_head [] first next follows a far = refl
drops_head (f ∷ frames) first next follows a far =
    rest frames (λ more. follows (omega arith))
    ∙ sym (past_head first (bytes_of first.epoch f) (in_turn (later first 1) frames) a far)
  where
    rest : (frames : List Form) → (0 < length frames → next ≡ first.number + 1)
        → frame_at (in_turn (address first.epoch first.kind first.thread next) frames) a
        ≡ frame_at (in_turn (later first 1) frames) a
    rest [] follows = refl
    rest (g ∷ frames) follows =
        ap (λ (n : ℕ). frame_at (in_turn (address first.epoch first.kind first.thread n) (g ∷ frames)) a)
        (follows (omega arith))

pub drops_first : (frames : List Form) (first last : Address) (next : ℕ) → IsBeside first last
    → first.number ≤ last.number → (1 < length frames → next ≡ first.number + 1) → (a : Address) → (IsUpTo last a → ⊥)
    → frame_at (in_turn (address first.epoch first.kind first.thread next) (drop 1 frames)) a
    ≡ frame_at (in_turn first frames) a
drops_first frames first last next beside low follows a apart = drops_head frames first next follows a far
  where
    far : a ≢ first
    far e = apart (record {
      epoch = ap (λ (q : Address). q.epoch) e ∙ beside.epoch;
      kind = ap (λ (q : Address). q.kind) e ∙ beside.kind;
      thread = ap (λ (q : Address). q.thread) e ∙ beside.thread;
      number = let n = ap (λ (q : Address). q.number) e in omega arith;
    })

-- Frames past an address are forgotten

pub none_past : (frames : List Form) (first last : Address) → (IsBeside first last → ⊥)
    → Forgets (IsPast last) (in_turn first frames) (in_turn first frames)
none_past frames first last far = record {
  forgotten = λ a past. run_out frames first a (λ i low e. far (record {
    epoch = sym (ap (λ (q : Address). q.epoch) e) ∙ past.epoch;
    kind = sym (ap (λ (q : Address). q.kind) e) ∙ past.kind;
    thread = sym (ap (λ (q : Address). q.thread) e) ∙ past.thread;
  }));
  others = λ a apart. refl;
}

-- the numbers of the first ones
pub within_taken : (k i : ℕ) (frames : List Form) → i < length (take k frames) → (i < k) × (i < length frames)
within_taken k i frames low =
    let long = length-take k frames in
    let one = min-le_left k (length frames) in
    let other = min-le_right k (length frames) in
    (omega (arith, low, long, one), omega (arith, low, long, other))

-- where none of those after the first ones has the address, they are not missed
cut_at : (frames : List Form) (first a : Address) (k : ℕ)
    → ((i : ℕ) → i < length frames → k ≤ i → a ≡ later first i → ⊥)
    → frame_at (in_turn first (take k frames)) a ≡ frame_at (in_turn first frames) a
cut_at [] first a zero out = refl
cut_at [] first a (suc k) out = refl
cut_at (f ∷ frames) first a zero out = sym (run_out (f ∷ frames) first a (λ i low e. out i low (omega arith) e))
cut_at (f ∷ frames) first a (suc k) out =
    ap (λ o. cond (is_at ((address_order.ghosts).cmp a) first) (Some (bytes_of first.epoch f)) o)
    (cut_at frames (later first 1) a k
    (λ i low high e. out (suc i) (omega arith) (omega arith) (e ∙ sym (later_more first i))))

-- the first ones stay: those that are not past it
pub cuts_past : (frames : List Form) (first last : Address) (k : ℕ) → IsBeside first last
    → ((i : ℕ) → i < length frames → i < k → first.number + i ≤ last.number)
    → ((i : ℕ) → i < length frames → k ≤ i → last.number < first.number + i)
    → Forgets (IsPast last) (in_turn first frames) (in_turn first (take k frames))
cuts_past frames first last k beside kept cut = record {
  forgotten = λ a past. run_out (take k frames) first a (λ i low e.
      let n = ap (λ (q : Address). q.number) e in
      let there = within_taken k i frames low in
      let few = kept i there.1 there.0 in
      let high = past.number in
      omega (arith, n, few, high));
  others = λ a apart. cut_at frames first a k (λ i low high e.
      let n = ap (λ (q : Address). q.number) e in
      let past = cut i low high in
      apart (record {
        epoch = ap (λ (q : Address). q.epoch) e ∙ beside.epoch;
        kind = ap (λ (q : Address). q.kind) e ∙ beside.kind;
        thread = ap (λ (q : Address). q.thread) e ∙ beside.thread;
        number = omega (arith, n, past);
      }));
}

-- a number that is not below the lesser of two, and below the second, is not below the first
pub at_least_min : (x m r i : ℕ) → r ≡ min x m → r ≤ i → i < m → x ≤ i
at_least_min x m r i is high low = go (cases_lt m x)
  where
    go : (m < x) ⊎ (x ≤ m) → x ≤ i
    go (inl above) =
        let same : min x m ≡ m = min-eq_right (omega (arith, above)) in absurd (omega (arith, is, high, low, same))
    go (inr up_to) = let same = is_min x m r is up_to in omega (arith, same, high)

pub above_then : (first last i : ℕ) → (first ≤ last → ⊥) → last < first + i
above_then first last i above = go (cases_lt last first)
  where
    go : (last < first) ⊎ (first ≤ last) → last < first + i
    go (inl below) = omega (arith, below)
    go (inr up_to) = absurd (above up_to)
