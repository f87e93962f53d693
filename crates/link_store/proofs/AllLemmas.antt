-- Looking up a frame in several runs.
use Rattle.std.proofs.Common.{◌≡◌, ℕ, zero, suc, ◌+◌, ◌≤◌, ◌<◌, ◌≢◌, Bool, true, false, cond, List, [], ◌∷◌, ◌++◌}
use Rattle.std.proofs.Common.{Option, Some, None, Bor, IfNone, option_copied, length, length-set}
use Rattle.std.proofs.Common.{slice_index_or, slice_set, ⊎_elim, refl, sym, ap, ◌∙◌, subst, arith}
use Rattle.std.specs.BTreeMap.{is_at}
use Rattle.std.specs.Option.{option_map, is_some}
use Rattle.link_store.specs.declared.address.Address.{Address}
use Rattle.link_store.specs.contracts.address.AddressOrd.TheImpl as address_order
use Rattle.std.proofs.lemmas.List.{get_or-set_same, get_or-set_other, get_or_read}
use Rattle.std.proofs.lemmas.Bool.{cases_lt}
use Rattle.plain_text.specs.declared.kind.Kind.TheVariants.{Out}
use Rattle.link_store.specs.declared.kept.Form.{Form}
use Rattle.link_store.specs.declared.row.SeenFrame.{SeenFrame}
use Rattle.link_store.specs.Rows.{form_of}
use Rattle.link_store.specs.Kept.{bytes_of}
use Rattle.link_store.specs.Links.{address, frame_at, Sends, Forgets, GoesOn, TurnsEpoch}
use Rattle.link_store.specs.Runs.{Run, frames_of, all_of, IsFirstTaker, NoneTakes, IsEach, ForgetsIn, TurnsIn}
use Rattle.link_store.proofs.RunLemmas.{not_taken}

abbrev or_else : Option (List ℕ) → Option (List ℕ) → Option (List ℕ)
or_else None s = s
or_else (Some f) s = Some f

in_head : (b : Bool) (f : List ℕ) (r s t : Option (List ℕ)) → r ≡ or_else s t
    → cond b (Some f) r ≡ or_else (cond b (Some f) s) t
in_head true f r s t e = refl
in_head false f r s t e = e

-- what is not in the first list is looked up in the second
in_both : (xs ys : List (Address × List ℕ)) (a : Address)
    → frame_at (xs ++ ys) a ≡ or_else (frame_at xs a) (frame_at ys a)
in_both [] ys a = refl
in_both (x ∷ xs) ys a = in_head (is_at ((address_order.ghosts).cmp a) x.0) x.1 _ _ _ (in_both xs ys a)

first_none : (xs ys : List (Address × List ℕ)) (a : Address) → frame_at xs a ≡ None
    → frame_at (xs ++ ys) a ≡ frame_at ys a
first_none xs ys a none = in_both xs ys a ∙ ap (λ o. or_else o (frame_at ys a)) none

first_some : (xs ys : List (Address × List ℕ)) (a : Address) (f : List ℕ) → frame_at xs a ≡ Some f
    → frame_at (xs ++ ys) a ≡ Some f
first_some xs ys a f some = in_both xs ys a ∙ ap (λ o. or_else o (frame_at ys a)) some

both_same : (xs xs' ys ys' : List (Address × List ℕ)) (a : Address) → frame_at xs' a ≡ frame_at xs a
    → frame_at ys' a ≡ frame_at ys a → frame_at (xs' ++ ys') a ≡ frame_at (xs ++ ys) a
both_same xs xs' ys ys' a front back =
    in_both xs' ys' a ∙ ap (λ o. or_else o (frame_at ys' a)) front ∙ ap (λ o. or_else (frame_at xs a) o) back
    ∙ sym (in_both xs ys a)

-- A frame sent into the i-th run, where none before it has the address
sent_in : (runs : List Run) (i : ℕ) (a : Address) (run : Run) (g : List ℕ) (d : Run)
    → i < length runs → ((j : ℕ) → j < i → frame_at (frames_of (slice_index_or runs j d)) a ≡ None)
    → Sends (frames_of (slice_index_or runs i d)) (frames_of run) a g
    → Sends (all_of runs) (all_of (slice_set runs i run)) a g
sent_in [] i a run g d low before s = absurd (omega arith)
sent_in (r ∷ runs) zero a run g d low before s = record {
  sent = first_some (frames_of run) (all_of runs) a g s.sent;
  others = λ b apart.
      both_same (frames_of r) (frames_of run) (all_of runs) (all_of runs) b (s.others b apart) refl;
}
sent_in (r ∷ runs) (suc i) a run g d low before s =
    let rest = sent_in runs i a run g d (omega arith) (λ j under. before (suc j) (omega arith)) s in
    record {
      sent = first_none (frames_of r) (all_of (slice_set runs i run)) a (before 0 (omega arith)) ∙ rest.sent;
      others = λ b apart. both_same (frames_of r) (frames_of r) (all_of runs)
          (all_of (slice_set runs i run)) b refl (rest.others b apart);
    }

pub sent_to_taker : (runs : List Run) (i : ℕ) (a : Address) (run : Run) (g : List ℕ)
    (d : Run) → IsFirstTaker runs a i → Sends (frames_of (slice_index_or runs i d)) (frames_of run) a g
    → Sends (all_of runs) (all_of (slice_set runs i run)) a g
sent_to_taker runs i a run g d first s =
    sent_in runs i a run g d first.in_range (λ j under. not_taken _ a (first.before j d under)) s

-- into an empty run
pub sent_to_empty : (runs : List Run) (i : ℕ) (a : Address) (run : Run) (g : List ℕ)
    (d : Run) → NoneTakes runs a → i < length runs → Sends (frames_of (slice_index_or runs i d)) (frames_of run) a g
    → Sends (all_of runs) (all_of (slice_set runs i run)) a g
sent_to_empty runs i a run g d none low s =
    sent_in runs i a run g d low (λ j under. not_taken _ a (none j d (omega arith))) s

-- the frame of the first run that has it
pub found_in : (runs : List Run) (i : ℕ) (a : Address) (f : List ℕ) (d : Run)
    → i < length runs → ((j : ℕ) (e : Run) → j < i → frame_at (frames_of (slice_index_or runs j e)) a ≡ None)
    → frame_at (frames_of (slice_index_or runs i d)) a ≡ Some f → frame_at (all_of runs) a ≡ Some f
found_in [] i a f d low before some = absurd (omega arith)
found_in (r ∷ runs) zero a f d low before some = first_some (frames_of r) (all_of runs) a f some
found_in (r ∷ runs) (suc i) a f d low before some =
    first_none (frames_of r) (all_of runs) a (before 0 r (omega arith))
    ∙ found_in runs i a f d (omega arith) (λ j e under. before (suc j) e (omega arith)) some

-- read in the run that has it
pub found_if : (runs : List Run) (i : ℕ) (a : Address) (run : Run) (r : Option SeenFrame) → is_some r ≡ true → i < length runs
    → ((j : ℕ) (e : Run) → j < i → frame_at (frames_of (slice_index_or runs j e)) a ≡ None)
    → run ≡ slice_index_or runs i run
    → option_map (bytes_of a.epoch) (option_map form_of r) ≡ frame_at (frames_of run) a
    → option_map (bytes_of a.epoch) (option_map form_of r) ≡ frame_at (all_of runs) a
found_if runs i a run None some low before read is = absurd (cc)
found_if runs i a run (Some x) some low before read is =
    sym (found_in runs i a (bytes_of a.epoch (form_of x)) run low before
    (ap (λ (q : Run). frame_at (frames_of q) a) (sym read) ∙ sym is))

-- a change of the i-th run elsewhere
pub others_in : (runs : List Run) (i : ℕ) (run d : Run) (b : Address)
    → frame_at (frames_of run) b ≡ frame_at (frames_of (slice_index_or runs i d)) b
    → frame_at (all_of (slice_set runs i run)) b ≡ frame_at (all_of runs) b
others_in [] i run d b same = refl
others_in (r ∷ runs) zero run d b same =
    both_same (frames_of r) (frames_of run) (all_of runs) (all_of runs) b same refl
others_in (r ∷ runs) (suc i) run d b same =
    both_same (frames_of r) (frames_of r) (all_of runs) (all_of (slice_set runs i run)) b refl
    (others_in runs i run d b same)

pub if_none_then : {X P Q : Type 0} (r : Option X) → IfNone r P → (P → Q) → IfNone r Q
if_none_then None p f = f p
if_none_then (Some x) p f = tt

-- none of the runs has it
pub none_in_runs : (runs : List Run) (a : Address)
    → ((j : ℕ) (d : Run) → j < length runs → frame_at (frames_of (slice_index_or runs j d)) a ≡ None)
    → frame_at (all_of runs) a ≡ None
none_in_runs [] a none = refl
none_in_runs (r ∷ runs) a none =
    first_none (frames_of r) (all_of runs) a (none 0 r (omega arith))
    ∙ none_in_runs runs a (λ j d low. none (suc j) d (omega arith))

-- a run more
pub sent_to_new : (runs : List Run) (run : Run) (a : Address) (g : List ℕ) → NoneTakes runs a
    → Sends [] (frames_of run) a g → Sends (all_of runs) (all_of (runs ++ run ∷ [])) a g
sent_to_new [] run a g none s = record {
  sent = first_some (frames_of run) [] a g s.sent;
  others = λ b apart. both_same [] (frames_of run) [] [] b (s.others b apart) refl;
}
sent_to_new (r ∷ runs) run a g none s =
    let rest = sent_to_new runs run a g (λ j d low. none (suc j) d (omega arith)) s in
    record {
      sent = first_none (frames_of r) (all_of (runs ++ run ∷ [])) a (not_taken r a (none 0 r (omega arith))) ∙ rest.sent;
      others = λ b apart. both_same (frames_of r) (frames_of r) (all_of runs) (all_of (runs ++ run ∷ [])) b refl
          (rest.others b apart);
    }

-- Forgetting in each run
pub forgets_all : (P : Address → Type 0) (runs new : List Run) → IsEach (ForgetsIn P) runs new
    → Forgets P (all_of runs) (all_of new)
forgets_all P [] [] each = record { forgotten = λ a p. refl; others = λ a apart. refl }
forgets_all P [] (n ∷ new) each = absurd (let many = each.as_many in omega arith)
forgets_all P (r ∷ runs) [] each = absurd (let many = each.as_many in omega arith)
forgets_all P (r ∷ runs) (n ∷ new) each =
    let many = each.as_many in
    let front : Forgets P (frames_of r) (frames_of n) = each.each 0 r (omega arith) in
    let back = forgets_all P runs new
    (record { as_many = omega arith; each = λ j d low. each.each (suc j) d (omega arith) }) in
    record {
      forgotten = λ a p. first_none (frames_of n) (all_of new) a (front.forgotten a p) ∙ back.forgotten a p;
      others = λ a apart.
          both_same (frames_of r) (frames_of n) (all_of runs) (all_of new) a (front.others a apart) (back.others a apart);
    }

-- The next epoch in each run

on_both : (epoch : ℕ) (s t s' t' : Option (List ℕ)) → GoesOn epoch s s' → GoesOn epoch t t'
    → GoesOn epoch (or_else s t) (or_else s' t')
on_both epoch None t None t' one other = other
on_both epoch None t (Some g) t' one other = absurd one
on_both epoch (Some f) t None t' one other = absurd one
on_both epoch (Some f) t (Some g) t' one other = one

pub turns_all : (epoch : ℕ) (runs new : List Run) → IsEach (TurnsIn epoch) runs new
    → TurnsEpoch epoch (all_of runs) (all_of new)
turns_all epoch [] [] each = record { outputs = λ t n. tt; others = λ a apart. refl }
turns_all epoch [] (n ∷ new) each = absurd (let many = each.as_many in omega arith)
turns_all epoch (r ∷ runs) [] each = absurd (let many = each.as_many in omega arith)
turns_all epoch (r ∷ runs) (n ∷ new) each =
    let many = each.as_many in
    let front : TurnsEpoch epoch (frames_of r) (frames_of n) = each.each 0 r (omega arith) in
    let back = turns_all epoch runs new
    (record { as_many = omega arith; each = λ j d low. each.each (suc j) d (omega arith) }) in
    record {
      outputs = λ t k.
          let old = address epoch Out t k in
          let now = address (epoch + 1) Out t k in
          subst (λ (o : Option (List ℕ)). GoesOn epoch o (frame_at (frames_of n ++ all_of new) now))
          (sym (in_both (frames_of r) (all_of runs) old))
          (subst (λ (o : Option (List ℕ)).
          GoesOn epoch (or_else (frame_at (frames_of r) old) (frame_at (all_of runs) old)) o)
          (sym (in_both (frames_of n) (all_of new) now))
          (on_both epoch _ _ _ _ (front.outputs t k) (back.outputs t k)));
      others = λ a apart. first_none (frames_of n) (all_of new) a (front.others a apart) ∙ back.others a apart;
    }

-- The first runs stand so to those before, and the others are as they were
pub record IsFirst (R : Run → Run → Type 0) (old new : List Run) (i : ℕ) : Type 0 where
  pub as_many : length new ≡ length old
  pub done : (j : ℕ) (d : Run) → j < i → R (slice_index_or old j d) (slice_index_or new j d)
  pub rest : (j : ℕ) (d : Run) → i ≤ j → slice_index_or new j d ≡ slice_index_or old j d

pub none_yet : (R : Run → Run → Type 0) (runs : List Run) → IsFirst R runs runs 0
none_yet R runs = record { as_many = refl; done = λ j d low. absurd (omega arith); rest = λ j d high. refl }

pub one_more : (R : Run → Run → Type 0) (old now : List Run) (i : ℕ) (run new : Run) → IsFirst R old now i
    → i < length now → run ≡ slice_index_or now i run → R run new → IsFirst R old (slice_set now i new) (i + 1)
one_more R old now i run new first low is made = record {
  as_many = length-set now i new ∙ first.as_many;
  done = λ j d under. ⊎_elim
      (λ before.
      let apart : j ≢ i = λ e. omega arith in
      subst (λ (r : Run). R (slice_index_or old j d) r) (sym (get_or-set_other now i j new d apart))
      (first.done j d before))
      (λ at.
      let same : j ≡ i = omega arith in
      subst (λ (k : ℕ). R (slice_index_or old k d) (slice_index_or (slice_set now i new) k d)) (sym same) (this d))
      (cases_lt j i);
  rest = λ j d high.
      let apart : j ≢ i = λ e. omega arith in get_or-set_other now i j new d apart ∙ first.rest j d (omega arith);
}
  where
    this : (d : Run) → R (slice_index_or old i d) (slice_index_or (slice_set now i new) i d)
    this d =
        let read : slice_index_or now i d ≡ run = sym (get_or_read now i run low is d) in
        let before : slice_index_or old i d ≡ run = sym (first.rest i d (omega arith)) ∙ read in
        subst (λ (r : Run). R (slice_index_or old i d) r) (sym (get_or-set_same now i new d low))
        (subst (λ (r : Run). R r new) (sym before) made)

pub all_made : (R : Run → Run → Type 0) (old new : List Run) (i : ℕ) → IsFirst R old new i → length old ≤ i
    → IsEach R old new
all_made R old new i first all =
    record { as_many = first.as_many; each = λ j d low. first.done j d (omega (arith, low, all)) }
