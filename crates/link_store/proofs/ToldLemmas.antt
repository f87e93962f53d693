-- Frames that are kept as outputs, and how they go on in the next epoch.
use Rattle.std.proofs.Common.{◌≡◌, ◌≢◌, ℕ, zero, suc, ◌+◌, ◌-◌, ◌^◌, ◌<◌, ◌≤◌, List, [], ◌∷◌, ◌++◌, Option, Some, None}
use Rattle.std.proofs.Common.{Result, Ok, Err, OnOk, length, length-set, take, drop, min, refl, sym, ap, ◌∙◌, subst, inl, inr, ◌⊎◌}
use Rattle.std.proofs.Common.{slice_index_or, slice_set, arith}
use Rattle.std.specs.List.{slice_get}
use Rattle.std.specs.Option.{option_map}
use Rattle.std.proofs.lemmas.Bool.{cases_lt}
use Rattle.std.proofs.lemmas.List.{get_or-set_same, get_or-set_other, get_or_append_left, get_or-take}
use Rattle.std.proofs.lemmas.Grind.{get_or_after_one}
use Rattle.std.proofs.lemmas.Option.{slice_get_past, slice_get-get_or}
use Rattle.std.proofs.Math.Nat.{min-le_left, min-le_right}
use Rattle.plain_text.specs.declared.kind.Kind.TheVariants.{Out}
use Rattle.link_store.specs.declared.address.Address.{Address}
use Rattle.link_store.specs.declared.kept.Form.{Form}
use Rattle.link_store.specs.declared.kept.Form.TheVariants.{Spelled}
use Rattle.link_store.specs.Kept.{bytes_of, IsTold, Tells, AreTold, TellsEach}
use Rattle.link_store.specs.Rows.{TellsOne}
use Rattle.link_store.specs.Links.{address, frame_at, GoesOn, IsOutputOf, TurnsEpoch}
use Rattle.link_store.specs.Runs.{later, in_turn}
use Rattle.link_store.proofs.KeptLemmas.{told_same, tells_on}
use Rattle.link_store.proofs.RunLemmas.{same_address, run_in, run_out, within_taken}

-- The first frames stay kept as outputs

pub told_none : (frames : List Form) → AreTold 0 frames
told_none frames i d low long = absurd (omega (arith, low))

pub told_empty : (n : ℕ) → AreTold n []
told_empty n i d low long = absurd (omega (arith, long))

-- where one of those after them is another
pub told_set : (n place : ℕ) (g : Form) (frames : List Form) → AreTold n frames
    → AreTold (min n place) (slice_set frames place g)
told_set n place g frames told i d low long =
    let one = min-le_left n place in
    let other = min-le_right n place in
    let same = length-set frames place g in
    let apart : i ≢ place = omega (arith, low, other) in
    subst IsTold (sym (get_or-set_other frames place i g d apart))
    (told i d (omega (arith, low, one)) (omega (arith, long, same)))

-- or is added
pub told_push : (n place : ℕ) (g : Form) (frames : List Form) → place ≤ length frames → AreTold n frames
    → AreTold (min n place) (frames ++ g ∷ [])
told_push n place g frames few told i d low long =
    let one = min-le_left n place in
    let other = min-le_right n place in
    let there : i < length frames = omega (arith, low, other, few) in
    subst IsTold (sym (get_or_append_left frames (g ∷ []) d i there)) (told i d (omega (arith, low, one)) there)

pub told_less : (n m : ℕ) (frames : List Form) → m ≤ n → AreTold n frames → AreTold m frames
told_less n m frames few told i d low long = told i d (omega (arith, low, few)) long

-- or the first frame goes
pub told_drop : (n : ℕ) (frames : List Form) → AreTold n frames → AreTold (n - 1) (drop 1 frames)
told_drop n frames told i d low long =
    subst IsTold (sym (get_or_after_one frames i d)) (told (1 + i) d (omega (arith, low)) (further frames long))
  where
    further : (l : List Form) → i < length (drop 1 l) → 1 + i < length l
    further [] low = absurd (omega (arith, low))
    further (x ∷ l) low = omega (arith, low)

-- or some of the last ones
pub told_take : (n k : ℕ) (frames : List Form) → AreTold n frames → AreTold n (take k frames)
told_take n k frames told i d low long =
    let there = within_taken k i frames long in
    subst IsTold (sym (get_or-take k frames i d there.0)) (told i d low there.1)

-- One after the other is kept as an output

-- these are: those before this one
pub record ToldSoFar (old now : List Form) (n : ℕ) : Type 0 where
  pub as_many : length now ≡ length old
  pub told : AreTold n now
  pub same : (epoch i : ℕ) (d : Form) → i < n → i < length old
      → Tells epoch (slice_index_or old i d) (slice_index_or now i d)
  pub rest : (i : ℕ) (d : Form) → n ≤ i → slice_index_or now i d ≡ slice_index_or old i d

pub told_first : (n : ℕ) (frames : List Form) → AreTold n frames → ToldSoFar frames frames n
told_first n frames told = record {
  as_many = refl;
  told = told;
  same = λ epoch i d low long. told_same epoch (slice_index_or frames i d) (told i d low long);
  rest = λ i d high. refl;
}

pub told_more : (old now : List Form) (n : ℕ) (f g : Form) → ToldSoFar old now n → n < length now
    → f ≡ slice_index_or now n f → IsTold g → ((epoch : ℕ) → Tells epoch f g)
    → ToldSoFar old (slice_set now n g) (n + 1)
told_more old now n f g h low is told tells = record {
  as_many = length-set now n g ∙ h.as_many;
  told = λ i d few long. one i d few (cases_lt i n);
  same = λ epoch i d few long. other epoch i d few long (cases_lt i n);
  rest = λ i d high. get_or-set_other now n i g d (omega (arith, high)) ∙ h.rest i d (omega (arith, high));
}
  where
    at : (i : ℕ) (d : Form) → i ≡ n → slice_index_or (slice_set now n g) i d ≡ g
    at i d is =
        ap (λ (k : ℕ). slice_index_or (slice_set now n g) k d) is ∙ get_or-set_same now n g d low

    before : (d : Form) → slice_index_or old n d ≡ f
    before d = sym (h.rest n d (omega arith)) ∙ (read now n d low ∙ sym is)
      where
        read : (l : List Form) (k : ℕ) (d : Form) → k < length l → slice_index_or l k d ≡ slice_index_or l k f
        read [] k d low = absurd (omega (arith, low))
        read (x ∷ l) zero d low = refl
        read (x ∷ l) (suc k) d low = read l k d (omega (arith, low))

    one : (i : ℕ) (d : Form) → i < n + 1 → (i < n) ⊎ (n ≤ i) → IsTold (slice_index_or (slice_set now n g) i d)
    one i d few (inl first) =
        subst IsTold (sym (get_or-set_other now n i g d (omega (arith, first))))
        (h.told i d first (omega (arith, first, low)))
    one i d few (inr last) = subst IsTold (sym (at i d (omega (arith, few, last)))) told

    other : (epoch i : ℕ) (d : Form) → i < n + 1 → i < length old → (i < n) ⊎ (n ≤ i)
        → Tells epoch (slice_index_or old i d) (slice_index_or (slice_set now n g) i d)
    other epoch i d few long (inl first) =
        subst (λ (q : Form). Tells epoch (slice_index_or old i d) q)
        (sym (get_or-set_other now n i g d (omega (arith, first)))) (h.same epoch i d first long)
    other epoch i d few long (inr last) =
        let is : i ≡ n = omega (arith, few, last) in
        let was : slice_index_or old i d ≡ f = ap (λ (k : ℕ). slice_index_or old k d) is ∙ before d in
        subst (λ (q : Form). Tells epoch q (slice_index_or (slice_set now n g) i d)) (sym was)
        (subst (λ (q : Form). Tells epoch f q) (sym (at i d is)) (tells epoch))

any_default : (l : List Form) (k : ℕ) (d f : Form) → k < length l → slice_index_or l k d ≡ slice_index_or l k f
any_default [] k d f low = absurd (omega (arith, low))
any_default (x ∷ l) zero d f low = refl
any_default (x ∷ l) (suc k) d f low = any_default l k d f (omega (arith, low))

put_same : (l : List Form) (i : ℕ) (x : Form) → x ≡ slice_index_or l i x → l ≡ slice_set l i x
put_same [] i x is = refl
put_same (y ∷ l) zero x is = ap (λ (z : Form). z ∷ l) (sym is)
put_same (y ∷ l) (suc i) x is = ap (λ (m : List Form). y ∷ m) (put_same l i x is)

-- one of them is looked at
pub tells_still : (i : ℕ) (l : List Form) (x : Form) → x ≡ slice_index_or l i x → IsTold x → TellsOne i l l
tells_still i l x is told = record {
  form = x;
  put = put_same l i x is;
  told = told;
  same = λ epoch. subst (λ (f : Form). Tells epoch f x) is (told_same epoch x told);
}

-- or is kept as the output that it told
pub tells_set : (i : ℕ) (l : List Form) (x g : Form) → i < length l → x ≡ slice_index_or l i x → IsTold g
    → ((epoch : ℕ) → Tells epoch x g) → TellsOne i l (slice_set l i g)
tells_set i l x g low is told tells = record {
  form = g;
  put = refl;
  told = told;
  same = λ epoch. subst (λ (f : Form). Tells epoch f g) (is ∙ any_default l i x g low) (tells epoch);
}

pub on_ok_both : {T E P Q R : Type 0} (r : Result T E) → (P → Q → R) → OnOk r P → OnOk r Q → OnOk r R
on_ok_both (Ok x) f p q = f p q
on_ok_both (Err e) f p q = tt

pub told_one : (old now next : List Form) (n : ℕ) → ToldSoFar old now n → n < length now → TellsOne n now next
    → ToldSoFar old next (n + 1)
told_one old now next n h low t =
    let was = slice_index_or now n t.form in
    subst (λ (l : List Form). ToldSoFar old l (n + 1)) (sym t.put)
    (told_more old now n was t.form h low (any_default now n t.form was low) t.told t.same)

pub told_all : (old now : List Form) (n : ℕ) → length now ≤ n → ToldSoFar old now n → (epoch : ℕ)
    → TellsEach epoch old now
told_all old now n all h epoch = record {
  as_many = h.as_many;
  told = λ i d low long. h.told i d (omega (arith, low, all)) long;
  same = λ i d low. let many = h.as_many in h.same epoch i d (omega (arith, low, all, many)) low;
}

-- The frames of a run in the next epoch

on_none : (epoch : ℕ) (old new : Option (List ℕ)) → old ≡ None → new ≡ None → GoesOn epoch old new
on_none epoch None None p q = tt
on_none epoch None (Some new) p q = cc
on_none epoch (Some old) None p q = cc
on_none epoch (Some old) (Some new) p q = absurd (cc)

both_on : (epoch : ℕ) (old old' new new' : Option (List ℕ)) → old ≡ old' → new ≡ new' → GoesOn epoch old' new'
    → GoesOn epoch old new
both_on epoch old old' new new' p q on =
    subst (λ (o : Option (List ℕ)). GoesOn epoch o new) (sym p)
    (subst (λ (o : Option (List ℕ)). GoesOn epoch old' o) (sym q) on)

-- a run of another epoch, or of entries, is empty then
pub turns_away : (frames : List Form) (first next : Address) (epoch : ℕ) → (IsOutputOf epoch first → ⊥)
    → TurnsEpoch epoch (in_turn first frames) (in_turn next [])
turns_away frames first next epoch far = record {
  outputs = λ t n. on_none epoch _ None (run_out frames first (address epoch Out t n) (λ i low e.
      far (sym (ap (λ (q : Address). q.epoch) e), sym (ap (λ (q : Address). q.kind) e)))) refl;
  others = λ a apart. refl;
}

module _ (frames new : List Form) (first : Address) (few : first.epoch < 2 ^ 32 - 1) (out : first.kind ≡ Out)
    (tells : TellsEach first.epoch frames new) where
  abbrev next : Address
  next = record first { epoch = first.epoch + 1 }

  -- at the same place
  at_place : (i : ℕ) → GoesOn first.epoch (option_map (bytes_of first.epoch) (slice_get frames i))
      (option_map (bytes_of (first.epoch + 1)) (slice_get new i))
  at_place i = go (cases_lt i (length frames))
    where
      d : Form
      d = Spelled []

      go : (i < length frames) ⊎ (length frames ≤ i)
          → GoesOn first.epoch (option_map (bytes_of first.epoch) (slice_get frames i))
          (option_map (bytes_of (first.epoch + 1)) (slice_get new i))
      go (inl low) =
          let many = tells.as_many in
          let there : i < length new = omega (arith, low, many) in
          both_on first.epoch _ (Some (bytes_of first.epoch (slice_index_or frames i d))) _
          (Some (bytes_of (first.epoch + 1) (slice_index_or new i d)))
          (ap (λ o. option_map (bytes_of first.epoch) o) (slice_get-get_or frames i d low))
          (ap (λ o. option_map (bytes_of (first.epoch + 1)) o) (slice_get-get_or new i d there))
          (tells_on first.epoch (slice_index_or frames i d) (slice_index_or new i d) few (tells.told i d there there)
          (tells.same i d low))
      go (inr high) =
          let many = tells.as_many in
          on_none first.epoch _ _
          (ap (λ o. option_map (bytes_of first.epoch) o) (slice_get_past frames i high))
          (ap (λ o. option_map (bytes_of (first.epoch + 1)) o) (slice_get_past new i (omega (arith, high, many))))

  -- where the address is not one of the run's
  off : (t n : ℕ) → ((i : ℕ) → t ≡ first.thread → n ≡ first.number + i → ⊥)
      → GoesOn first.epoch (frame_at (in_turn first frames) (address first.epoch Out t n))
      (frame_at (in_turn next new) (address (first.epoch + 1) Out t n))
  off t n far = on_none first.epoch _ _
      (run_out frames first (address first.epoch Out t n) (λ i low e.
      far i (ap (λ (q : Address). q.thread) e) (ap (λ (q : Address). q.number) e)))
      (run_out new next (address (first.epoch + 1) Out t n) (λ i low e.
      far i (ap (λ (q : Address). q.thread) e) (ap (λ (q : Address). q.number) e)))

  goes : (t n : ℕ) → (t < first.thread) ⊎ (first.thread ≤ t) → (first.thread < t) ⊎ (t ≤ first.thread)
      → (n < first.number) ⊎ (first.number ≤ n)
      → GoesOn first.epoch (frame_at (in_turn first frames) (address first.epoch Out t n))
      (frame_at (in_turn next new) (address (first.epoch + 1) Out t n))
  goes t n (inl below) v w = off t n (λ i same e. omega (arith, below, same))
  goes t n (inr from) (inl above) w = off t n (λ i same e. omega (arith, above, same))
  goes t n (inr from) (inr to) (inl low) = off t n (λ i same e. omega (arith, low, e))
  goes t n (inr from) (inr to) (inr high) =
      let i = n - first.number in
      let same : t ≡ first.thread = omega (arith, from, to) in
      let number : n ≡ first.number + i = omega (arith, high) in
      let old : address first.epoch Out t n ≡ later first i = same_address _ _ refl (sym out) same number in
      let now : address (first.epoch + 1) Out t n ≡ later next i = same_address _ _ refl (sym out) same number in
      both_on first.epoch _ _ _ _
      (ap (λ (a : Address). frame_at (in_turn first frames) a) old ∙ run_in frames first i)
      (ap (λ (a : Address). frame_at (in_turn next new) a) now ∙ run_in new next i) (at_place i)

  turned : TurnsEpoch first.epoch (in_turn first frames) (in_turn next new)
  turned = record {
    outputs = λ t n. goes t n (cases_lt t first.thread) (cases_lt first.thread t) (cases_lt n first.number);
    others = λ a apart. run_out new next a (λ i low e.
        apart (ap (λ (q : Address). q.epoch) e, ap (λ (q : Address). q.kind) e ∙ out));
  }

pub turns_run : (frames new : List Form) (first : Address) (epoch : ℕ) → epoch < 2 ^ 32 - 1 → first.epoch ≡ epoch
    → first.kind ≡ Out → ((e : ℕ) → TellsEach e frames new)
    → TurnsEpoch epoch (in_turn first frames) (in_turn (record first { epoch = first.epoch + 1 }) new)
turns_run frames new first epoch few is out tells =
    subst
    (λ (e : ℕ). TurnsEpoch e (in_turn first frames) (in_turn (record first { epoch = first.epoch + 1 }) new)) is
    (turned frames new first (subst (λ (e : ℕ). e < 2 ^ 32 - 1) (sym is) few) out (tells first.epoch))
