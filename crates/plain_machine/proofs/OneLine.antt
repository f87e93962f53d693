-- A line is led in one way, and a closed set has its order and its stamps in each log that keeps it.
use Rattle.std.proofs.Common.{◌≡◌, ℕ, ◌≤◌, true, false, List, [], ◌∷◌, refl, sym, ap, ◌∙◌, subst, inl, inr, ◌⊎◌, arith}
use Rattle.std.proofs.Common.{length, Option}
use Rattle.plain_machine.specs.FromPlainText.{Packet}
use Rattle.entry_order.specs.Log.{Entry, IsIn, IsClosed, Keeps, Precedes, AtOnce, Through, PrecedesOrIs}
use Rattle.entry_order.specs.Stamps.{IsStamp}
use Rattle.entry_order.proofs.Order.{closed_down, precedes_in}
use Rattle.plain_machine.specs.Program.{Meaning}
use Rattle.plain_machine.specs.Machine.{Effect, Takes, Touches, Looks, HearsClock, HearsDraw, Sends, Ends}
use Rattle.plain_machine.specs.History.{Act, Did, Step, act_of, thread_after, value_after, IsStep, IsHistory}
use Rattle.plain_machine.specs.Agree.{IsEarlier}
use Rattle.plain_machine.proofs.Histories.{earlier_refl, earlier_history, did_entry}
use Rattle.plain_machine.proofs.MoveLemmas.{is_logged, hand_logs, held_kind}
use Rattle.plain_machine.proofs.LoggedEffects.{makes_logged}
use Rattle.plain_machine.proofs.Seats.{SameSeat, same_step}
use Rattle.plain_machine.specs.Continue.{IsQuiet, GoesQuietly, IsLed}
use Rattle.plain_machine.proofs.QuietMoves.{quiet_later}

-- A closed set

-- what precedes a member of a set that is closed in the one log precedes it in the other
pub closed_precedes : (a b set : List Entry) (e f : Entry) → IsClosed a set → Keeps b set → IsIn f set → Precedes a e f
    → Precedes b e f
closed_precedes a b set e f closed here i (AtOnce he hf n) = AtOnce (here e (closed e f he i n)) (here f i) n
closed_precedes a b set e f closed here i (Through {g = g} he n p) =
    let ig : IsIn g set = closed_down a set g f closed p i in
    Through (here e (closed e g he ig n)) n (closed_precedes a b set g f closed here i p)

pub closed_or : (a b set : List Entry) (e f : Entry) → IsClosed a set → Keeps b set → IsIn f set → PrecedesOrIs a e f
    → PrecedesOrIs b e f
closed_or a b set e f closed here i (inl same) = inl same
closed_or a b set e f closed here i (inr p) = inr (closed_precedes a b set e f closed here i p)

-- Its members have one stamp in both.
pub closed_stamp : (a b set : List Entry) (e : Entry) (s : ℕ → ℕ) → IsClosed a set → Keeps a set → IsClosed b set
    → Keeps b set → IsIn e set → IsStamp a e s → IsStamp b e s
closed_stamp a b set e s ca ka cb kb i st = record {
  above = λ f hf r. let q = closed_or b a set f e cb ka i r in st.above f (within f r q) q;
  reached = λ u. go u (st.reached u);
}
  where
    within : (f : Entry) → PrecedesOrIs b f e → PrecedesOrIs a f e → IsIn f a
    within f r (inl same) = subst (λ (z : Entry). IsIn z a) (sym same) (ka e i)
    within f r (inr p) = precedes_in a f e p

    in_b : (f : Entry) → PrecedesOrIs b f e → IsIn f b
    in_b f (inl same) = subst (λ (z : Entry). IsIn z b) (sym same) (kb e i)
    in_b f (inr p) = precedes_in b f e p

    go : (u : ℕ) → (s u ≡ 0) ⊎ ((f : Entry) × IsIn f a × (f.thread ≡ u) × (f.number ≡ s u) × PrecedesOrIs a f e)
        → (s u ≡ 0) ⊎ ((f : Entry) × IsIn f b × (f.thread ≡ u) × (f.number ≡ s u) × PrecedesOrIs b f e)
    go u (inl z) = inl z
    go u (inr (f, hf, t, n, r)) = let q = closed_or a b set f e ca kb i r in inr (f, in_b f q, t, n, q)

-- A led line

-- a step by its act is quiet or logged, as its thread's place asks
quiet_or : {V : Type 0} (t taken : ℕ) (A : List (Step V)) (d : Effect V) → IsQuiet (act_of t A taken d)
    → is_logged d ≡ false
quiet_or t taken A Takes q = refl
quiet_or t taken A (Touches v x) q = absurd q
quiet_or t taken A (Looks v) q = absurd q
quiet_or t taken A (HearsClock a) q = absurd q
quiet_or t taken A (HearsDraw a) q = absurd q
quiet_or t taken A (Sends p) q = refl
quiet_or t taken A Ends q = refl

seat_refl : {V : Type 0} (t : ℕ) (A : List (Step V)) → SameSeat t A A
seat_refl t A = record { thread = refl; entries = refl; outputs = refl }

-- an earlier moment is no longer
pub earlier_length : {V : Type 0} (xs ys : List (Step V)) → IsEarlier xs ys → length xs ≤ length ys
earlier_length xs [] e = let n = ap length e in omega (arith, n)
earlier_length xs (y ∷ ys) (inl same) = let n = ap length same in omega (arith, n)
earlier_length xs (y ∷ ys) (inr e) = let n = earlier_length xs ys e in omega (arith, n)

module _ {X : Type 0} (m : Meaning X) (inputs : ℕ → List Packet) (threads : ℕ) where
  step_kind : (A : List (Step X)) (x : Step X) (t : ℕ) → (h : IsStep m inputs threads A x) → x.thread ≡ t
      → is_logged h.2 ≡ hand_logs m (thread_after A t).hand
  step_kind A x t h th =
      held_kind m (inputs x.thread) (value_after m A) (thread_after A x.thread).taken h.1 (thread_after A x.thread).hand
      x.after h.2 h.3
      ∙ ap (λ (u : ℕ). hand_logs m (thread_after A u).hand) th

  quiet_step : (A : List (Step X)) (x : Step X) → (h : IsStep m inputs threads A x) → IsQuiet x.act
      → is_logged h.2 ≡ false
  quiet_step A x h q = quiet_or x.thread x.after.taken A h.2 (subst (λ (a : Act X). IsQuiet a) h.4 q)

  not_both : (a : Act X) (e : Entry) (left : Option X) → IsQuiet a → a ≡ Did e left → ⊥
  not_both a e left q s = subst (λ (z : Act X). IsQuiet z) s q

  -- two quiet steps of one thread from one history are one
  quiet_one : (A : List (Step X)) (x y : Step X) (t : ℕ) → IsStep m inputs threads A x → IsStep m inputs threads A y
      → x.thread ≡ t → y.thread ≡ t → IsQuiet x.act → x ≡ y
  quiet_one A x y t hx hy tx ty q = same_step m inputs threads A A x y hx hy (tx ∙ sym ty) (seat_refl x.thread A)
      (λ e f lx ly a b. absurd (not_both x.act e lx q a))

  -- the next quiet step past a moment
  next_quiet : (t : ℕ) (from A B : List (Step X)) → GoesQuietly from t B → IsEarlier A B → IsEarlier from A
      → (A ≡ B) ⊎ ((z : Step X) × IsEarlier (z ∷ A) B × (z.thread ≡ t) × IsQuiet z.act)
  next_quiet t from A [] q a f = inl a
  next_quiet t from A (y ∷ B) q (inl a) f = inl a
  next_quiet t from A (y ∷ B) (inl q) (inr a) f =
      absurd (too_long A B (y ∷ B) a (subst (λ (l : List (Step X)). IsEarlier l A) q f))
    where
      too_long : (A B C : List (Step X)) → IsEarlier A B → IsEarlier (y ∷ B) A → ⊥
      too_long A B C a b = let k = earlier_length A B a in let l = earlier_length (y ∷ B) A b in omega (arith, k, l)
  next_quiet t from A (y ∷ B) (inr q) (inr a) f = go (next_quiet t from A B q.2 a f)
    where
      go : (A ≡ B) ⊎ ((z : Step X) × IsEarlier (z ∷ A) B × (z.thread ≡ t) × IsQuiet z.act)
          → (A ≡ y ∷ B) ⊎ ((z : Step X) × IsEarlier (z ∷ A) (y ∷ B) × (z.thread ≡ t) × IsQuiet z.act)
      go (inl same) = inr (y, inl (ap (λ (l : List (Step X)). y ∷ l) same), q.0, q.1)
      go (inr (z, e, th, k)) = inr (z, inr e, th, k)

  -- of two quiet ways from one history, one goes on from the other
  pub either_later : (t : ℕ) (from A B : List (Step X)) → IsHistory m inputs threads A → IsHistory m inputs threads B
      → GoesQuietly from t A → GoesQuietly from t B → IsEarlier A B ⊎ IsEarlier B A
  either_later t from [] B hA hB qA qB = inl (subst (λ (l : List (Step X)). IsEarlier l B) qA (quiet_later from t B qB))
  either_later t from (x ∷ A) B hA hB (inl qA) qB =
      inl (subst (λ (l : List (Step X)). IsEarlier l B) qA (quiet_later from t B qB))
  either_later t from (x ∷ A) B hA hB (inr qA) qB = go (either_later t from A B hA.1 hB qA.2 qB)
    where
      at : (A ≡ B) ⊎ ((z : Step X) × IsEarlier (z ∷ A) B × (z.thread ≡ t) × IsQuiet z.act)
          → IsEarlier (x ∷ A) B ⊎ IsEarlier B (x ∷ A)
      at (inl same) = inr (inr (subst (λ (l : List (Step X)). IsEarlier l A) same (earlier_refl A)))
      at (inr (z, e, th, k)) =
          let hz : IsStep m inputs threads A z = (earlier_history m inputs threads (z ∷ A) B e hB).0 in
          inl (subst (λ (y : Step X). IsEarlier (y ∷ A) B) (sym (quiet_one A x z t hA.0 hz qA.0 th qA.1)) e)

      go : IsEarlier A B ⊎ IsEarlier B A → IsEarlier (x ∷ A) B ⊎ IsEarlier B (x ∷ A)
      go (inl a) = at (next_quiet t from A B qB a (quiet_later from t A qA.2))
      go (inr b) = inr (inr b)

  -- the way on to an entry of the thread
  led_way : (t : ℕ) (from A B : List (Step X)) (x y : Step X) (e : Entry) (l k : Option X)
      → IsHistory m inputs threads (x ∷ A) → IsHistory m inputs threads (y ∷ B) → GoesQuietly from t A
      → GoesQuietly from t B → e.thread ≡ t → x.act ≡ Did e l → y.act ≡ Did e k → IsEarlier A B → A ≡ B
  led_way t from A B x y e l k hx hy qA qB th ax ay early =
      go (next_quiet t from A B qB early (quiet_later from t A qA))
    where
      tx : x.thread ≡ t
      tx = sym (did_entry x.thread x.after.taken A hx.0.2 e l (sym hx.0.4 ∙ ax)).0 ∙ th

      go : (A ≡ B) ⊎ ((z : Step X) × IsEarlier (z ∷ A) B × (z.thread ≡ t) × IsQuiet z.act) → A ≡ B
      go (inl same) = same
      go (inr (z, early_z, tz, q)) =
          let hz : IsStep m inputs threads A z = (earlier_history m inputs threads (z ∷ A) B early_z hy.1).0 in
          let on : is_logged hx.0.2 ≡ true = makes_logged x.thread x.after.taken A hx.0.2 e l (sym hx.0.4 ∙ ax) in
          let off : is_logged hz.2 ≡ false = quiet_step A z hz q in
          let same : is_logged hx.0.2 ≡ is_logged hz.2 = step_kind A x t hx.0 tx ∙ sym (step_kind A z t hz tz) in
          absurd (cc)

  -- A line is led by these entries in one way.
  pub led_unique : (past : List (Step X)) (more : List Entry) (a b : List (Step X)) → IsHistory m inputs threads a
      → IsHistory m inputs threads b → IsLed past more a → IsLed past more b → a ≡ b
  led_unique past [] a b ha hb la lb = la ∙ sym lb
  led_unique past (e ∷ more) [] b ha hb la lb = absurd la
  led_unique past (e ∷ more) (x ∷ A) [] ha hb la lb = absurd lb
  led_unique past (e ∷ more) (x ∷ A) (y ∷ B) ha hb la lb =
      go (led_unique past more la.1 lb.1
      (earlier_history m inputs threads la.1 A (quiet_later la.1 e.thread A la.2) ha.1)
      (earlier_history m inputs threads lb.1 B (quiet_later lb.1 e.thread B lb.2) hb.1) la.3 lb.3)
    where
      one : A ≡ B → x ∷ A ≡ y ∷ B
      one same =
          let hy : IsStep m inputs threads A y =
          subst (λ (l : List (Step X)). IsStep m inputs threads l y) (sym same) hb.0 in
          let tx = (did_entry x.thread x.after.taken A ha.0.2 e la.0.0 (sym ha.0.4 ∙ la.0.1)).0 in
          let ty = (did_entry y.thread y.after.taken B hb.0.2 e lb.0.0 (sym hb.0.4 ∙ lb.0.1)).0 in
          let xy : x ≡ y =
          same_step m inputs threads A A x y ha.0 hy (sym tx ∙ ty) (seat_refl x.thread A) (λ f g lx ly p q.
          (entry_one f e lx la.0.0 (sym p ∙ la.0.1) ∙ sym (entry_one g e ly lb.0.0 (sym q ∙ lb.0.1)), λ v s k. refl)) in
          ap (λ (z : Step X). z ∷ A) xy ∙ ap (λ (l : List (Step X)). y ∷ l) same
        where
          entry_one : (f g : Entry) (p q : Option X) → Did f p ≡ Did g q → f ≡ g
          entry_one f g p q h = cc

      go : la.1 ≡ lb.1 → x ∷ A ≡ y ∷ B
      go mid = at (either_later e.thread la.1 A B ha.1 hb.1 la.2 qB)
        where
          qB : GoesQuietly la.1 e.thread B
          qB = subst (λ (l : List (Step X)). GoesQuietly l e.thread B) (sym mid) lb.2

          at : IsEarlier A B ⊎ IsEarlier B A → x ∷ A ≡ y ∷ B
          at (inl k) = one (led_way e.thread la.1 A B x y e la.0.0 lb.0.0 ha hb la.2 qB refl la.0.1 lb.0.1 k)
          at (inr k) = one (sym (led_way e.thread la.1 B A y x e lb.0.0 la.0.0 hb ha qB la.2 refl lb.0.1 la.0.1 k))
