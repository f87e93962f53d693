-- A world has one image, and the worlds at rest of one image differ in nothing but what is held.
use Rattle.std.proofs.Common.{◌≡◌, ℕ, zero, suc, ◌+◌, ◌≤◌, ◌<◌, ◌≢◌, List, [], ◌∷◌, length, refl, sym, ap, ◌∙◌, subst}
use Rattle.std.proofs.Common.{inl, inr, ◌⊎◌, arith, Option, Some, None, Result, Ok}
use Rattle.std.specs.Prelude.{slice_get}
use Rattle.std.proofs.lemmas.List.{length-append}
use Rattle.entry_order.proofs.Order.{is_or}
use Rattle.plain_machine.specs.declared.emission.Emission.{Emission}
use Rattle.plain_machine.specs.declared.plain_move.PlainMove.{PlainMove}
use Rattle.plain_machine.specs.declared.plain_move.PlayFault.{PlayFault}
use Rattle.plain_machine.specs.History.{Step, IsHistory}
use Rattle.plain_machine.specs.Agree.{SendsAfter}
use Rattle.recovery_world.specs.World.{Setting, Sent, Ended as EndedEpoch, World, inputs_fed}
use Rattle.recovery_world.specs.Events.{IsAmong}
use Rattle.recovery_world.specs.Files.{sent_names, moves_made}
use Rattle.recovery_laws.specs.Sound.{Sound}
use Rattle.handover.specs.declared.image.Ended.{Ended}
use Rattle.handover.specs.declared.image.Image.{Image}
use Rattle.handover_world.specs.Counted.{IsCounted}
use Rattle.handover_world.specs.Images.{rows_of, ended_rows, IsImageOf, IsAtRest}
use Rattle.handover_world.proofs.SentOutputs.{sends_one}
use Rattle.handover_world.proofs.SplitLists.{same_parts}
use Rattle.handover_world.proofs.WorldImages.{image_plays}

-- One image

same_image : {fed fed' clock clock' draws draws' epoch epoch' moves moves' bytes bytes' : ℕ} {ended ended' : List Ended}
    {released released' : List (ℕ × ℕ)} {past past' : List PlainMove} → fed ≡ fed' → clock ≡ clock' → draws ≡ draws'
    → epoch ≡ epoch' → moves ≡ moves' → bytes ≡ bytes' → ended ≡ ended' → released ≡ released' → past ≡ past'
    → ◌≡◌ {A = Image} (record {
      fed = fed;
      clock = clock;
      draws = draws;
      epoch = epoch;
      moves = moves;
      bytes = bytes;
      ended = ended;
      released = released;
      past = past;
    }) (record {
      fed = fed';
      clock = clock';
      draws = draws';
      epoch = epoch';
      moves = moves';
      bytes = bytes';
      ended = ended';
      released = released';
      past = past';
    })
same_image a b c d e f g h i = cc

pub image_one : {V : Type 0} (s : Setting V) (w : World V) (a b : Image) → IsImageOf s w a → IsImageOf s w b → a ≡ b
image_one s w a b x y = same_image (x.fed ∙ sym y.fed) (x.clock ∙ sym y.clock) (x.draws ∙ sym y.draws)
    (x.epoch ∙ sym y.epoch) (x.moves ∙ sym y.moves) (x.bytes ∙ sym y.bytes) (x.ended ∙ sym y.ended)
    (x.released ∙ sym y.released) (x.past ∙ sym y.past)

pub image_there : {V : Type 0} (s : Setting V) (w : World V) → IsCounted w → (image : Image) × IsImageOf s w image
image_there s w counted = (
  record {
    fed = w.fed;
    clock = w.clock;
    draws = w.drawn;
    epoch = w.epoch;
    moves = w.moves;
    bytes = w.bytes;
    ended = ended_rows s.threads w.ended;
    released = sent_names w.released;
    past = moves_made w.past;
  },
  record {
    fed = refl;
    clock = refl;
    draws = refl;
    epoch = refl;
    epochs = counted.epochs;
    moves = refl;
    bytes = refl;
    ended = refl;
    released = refl;
    past = refl;
  },
)

-- Rows

rows_length : (epoch : ℕ) (x : EndedEpoch) (t many : ℕ) → length (rows_of epoch x t many) ≡ many
rows_length epoch x t zero = refl
rows_length epoch x t (suc many) = let k = rows_length epoch x (t + 1) many in omega (arith, k)

rows_as_long : (threads : ℕ) (xs ys : List EndedEpoch) → length xs ≡ length ys
    → length (ended_rows threads xs) ≡ length (ended_rows threads ys)
rows_as_long threads [] [] e = refl
rows_as_long threads [] (y ∷ ys) e = absurd (omega (arith, e))
rows_as_long threads (x ∷ xs) [] e = absurd (omega (arith, e))
rows_as_long threads (x ∷ xs) (y ∷ ys) e =
    let before = rows_as_long threads xs ys (omega (arith, e)) in
    let a = length-append (ended_rows threads xs) (rows_of (length xs + 1) x 0 threads) in
    let b = length-append (ended_rows threads ys) (rows_of (length ys + 1) y 0 threads) in
    let c = rows_length (length xs + 1) x 0 threads in
    let d = rows_length (length ys + 1) y 0 threads in
    omega (arith, before, a, b, c, d)

-- the epochs ended alike for this thread
abbrev SameAt : EndedEpoch → EndedEpoch → ℕ → Type 0
SameAt x y t = (x.entries t ≡ y.entries t) × (x.outputs t ≡ y.outputs t)

rows_same : (epoch other : ℕ) (x y : EndedEpoch) (t many : ℕ) → rows_of epoch x t many ≡ rows_of other y t many
    → (u : ℕ) → t ≤ u → u < t + many → SameAt x y u
rows_same epoch other x y t zero e u low high = absurd (omega (arith, low, high))
rows_same epoch other x y t (suc many) e u low high = go (is_or t u) (rows_same epoch other x y (t + 1) many rest u)
  where
    first : ◌≡◌ {A = Ended} (record { epoch = epoch; thread = t; entries = x.entries t; outputs = x.outputs t })
        (record { epoch = other; thread = t; entries = y.entries t; outputs = y.outputs t })
    first = cc

    rest : rows_of epoch x (t + 1) many ≡ rows_of other y (t + 1) many
    rest = cc

    go : (t ≡ u) ⊎ (t ≢ u) → (t + 1 ≤ u → u < t + 1 + many → SameAt x y u) → SameAt x y u
    go (inl same) later = subst (λ (n : ℕ). SameAt x y n) same
        (ap (λ (r : Ended). r.entries) first, ap (λ (r : Ended). r.outputs) first)
    go (inr differs) later = later (omega (arith, low, differs)) (omega (arith, high))

pub ended_same : (threads : ℕ) (xs ys : List EndedEpoch) → length xs ≡ length ys
    → ended_rows threads xs ≡ ended_rows threads ys → (i t : ℕ) (x y : EndedEpoch) → slice_get xs i ≡ Some x
    → slice_get ys i ≡ Some y → t < threads → SameAt x y t
ended_same threads [] ys long e i t x y a b low =
    let none : ◌≡◌ {A = Option EndedEpoch} None (Some x) = a in absurd (cc)
ended_same threads (z ∷ xs) [] long e i t x y a b low =
    let none : ◌≡◌ {A = Option EndedEpoch} None (Some y) = b in absurd (cc)
ended_same threads (z ∷ xs) (v ∷ ys) long e i t x y a b low =
    go i a b (λ j. ended_same threads xs ys (omega (arith, long)) both.0 j t x y)
  where
    both : (ended_rows threads xs ≡ ended_rows threads ys)
        × (rows_of (length xs + 1) z 0 threads ≡ rows_of (length ys + 1) v 0 threads)
    both = same_parts (ended_rows threads xs) (rows_of (length xs + 1) z 0 threads) (ended_rows threads ys)
        (rows_of (length ys + 1) v 0 threads) (rows_as_long threads xs ys (omega (arith, long))) e

    go : (i : ℕ) → slice_get (z ∷ xs) i ≡ Some x → slice_get (v ∷ ys) i ≡ Some y
        → ((j : ℕ) → slice_get xs j ≡ Some x → slice_get ys j ≡ Some y → t < threads → SameAt x y t) → SameAt x y t
    go zero a b later =
        let here : ◌≡◌ {A = Option EndedEpoch} (Some z) (Some x) = a in
        let there : ◌≡◌ {A = Option EndedEpoch} (Some v) (Some y) = b in
        let p : z ≡ x = cc in
        let q : v ≡ y = cc in
        subst (λ (n : EndedEpoch). SameAt n y t) p (subst (λ (n : EndedEpoch). SameAt z n t) q
        (rows_same (length xs + 1) (length ys + 1) z v 0 threads both.1 t (omega arith) (omega (arith, low))))
    go (suc i) a b later = later i a b low

-- Outputs

-- lists of outputs of one past, with one list of names
outputs_same : {V : Type 0} (s : Setting V) (fed : ℕ) (past : List (Step V))
    → IsHistory s.meaning (inputs_fed s fed) s.threads past → (xs ys : List Sent)
    → ((o : Sent) → IsAmong o xs → SendsAfter past o.emission o.after)
    → ((o : Sent) → IsAmong o ys → SendsAfter past o.emission o.after)
    → sent_names xs ≡ sent_names ys → xs ≡ ys
outputs_same s fed past h [] [] a b e = refl
outputs_same s fed past h [] (y ∷ ys) a b e = absurd (cc)
outputs_same s fed past h (x ∷ xs) [] a b e = absurd (cc)
outputs_same s fed past h (x ∷ xs) (y ∷ ys) a b e =
    ap (λ (z : Sent). z ∷ xs) one
    ∙ ap (λ (l : List Sent). y ∷ l)
    (outputs_same s fed past h xs ys (λ o i. a o (inr i)) (λ o i. b o (inr i)) names)
  where
    name : ◌≡◌ {A = ℕ × ℕ} (x.emission.thread, x.emission.number) (y.emission.thread, y.emission.number)
    name =
        let k : ◌≡◌ {A = List (ℕ × ℕ)} ((x.emission.thread, x.emission.number) ∷ sent_names xs)
        ((y.emission.thread, y.emission.number) ∷ sent_names ys) = e in
        cc

    names : sent_names xs ≡ sent_names ys
    names =
        let k : ◌≡◌ {A = List (ℕ × ℕ)} ((x.emission.thread, x.emission.number) ∷ sent_names xs)
        ((y.emission.thread, y.emission.number) ∷ sent_names ys) = e in
        cc

    same : (x.emission ≡ y.emission) × (x.after ≡ y.after)
    same = sends_one s.meaning (inputs_fed s fed) s.threads past x.emission y.emission x.after y.after h
        (a x (inl refl)) (b y (inl refl)) (ap (λ (n : ℕ × ℕ). n.0) name) (ap (λ (n : ℕ × ℕ). n.1) name)

    one : x ≡ y
    one =
        ap (λ (o : Emission). let z : Sent = record { emission = o; after = x.after } in z) same.0
        ∙ ap (λ (n : ℕ). let z : Sent = record { emission = y.emission; after = n } in z) same.1

-- Two worlds

module _ {V : Type 0} (s : Setting V) (v w : World V) (image : Image) (a : IsImageOf s v image)
    (b : IsImageOf s w image) where
  pub past_one : Sound s v → Sound s w → v.past ≡ w.past
  past_one x y =
      let e : ◌≡◌ {A = Result (List (Step V)) PlayFault} (Ok v.past) (Ok w.past) =
      sym (image_plays s v x image a) ∙ image_plays s w y image b in
      cc

  pub released_one : Sound s v → Sound s w → IsAtRest v → IsAtRest w → v.released ≡ w.released
  released_one x y r q = outputs_same s w.fed w.past y.firm.legal v.released w.released
      (λ o i. subst (λ (l : List (Step V)). SendsAfter l o.emission o.after) (past_one x y) (r.sent o i)) q.sent
      (sym a.released ∙ b.released)

  pub ended_long : length v.ended ≡ length w.ended
  ended_long =
      let c = a.epochs in
      let d = b.epochs in
      let e : v.epoch ≡ w.epoch = sym a.epoch ∙ b.epoch in
      omega (arith, c, d, e)

  pub ended_one : (i t : ℕ) (x y : EndedEpoch) → slice_get v.ended i ≡ Some x → slice_get w.ended i ≡ Some y
      → t < s.threads → (x.entries t ≡ y.entries t) × (x.outputs t ≡ y.outputs t)
  ended_one i t x y = ended_same s.threads v.ended w.ended ended_long (sym a.ended ∙ b.ended) i t x y
