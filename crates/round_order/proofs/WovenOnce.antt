-- There is one woven list: what stands next in it is told by the receipts that are left.
use Rattle.std.proofs.Common.{◌≡◌, ℕ, ◌≤◌, ◌≢◌, List, [], ◌∷◌, ◌++◌, refl, sym, ap, ◌∙◌, subst, inl, inr, ◌⊎◌, arith}
use Rattle.entry_order.specs.Log.{Entry}
use Rattle.entry_order.proofs.Order.{is_or}
use Rattle.plain_machine.proofs.Histories.{not_eq, is_eq}
use Rattle.round_order.specs.Receipts.{Receipt, Receipts, Among, own, IsLogged, IsUnlogged}
use Rattle.round_order.specs.Woven.{GoesBefore, IsByWeight, LeadsTo, IsLedUp, IsByThread, IsWoven}
use Rattle.round_order.proofs.OwnReceipts.{among_own, own_among}

-- the same receipts of each thread
abbrev Same : {V : Type 0} → List (Receipt V) → List (Receipt V) → Type 0
Same xs ys = (t : ℕ) → own t xs ≡ own t ys

same_sym : {V : Type 0} (xs ys : List (Receipt V)) → Same xs ys → Same ys xs
same_sym xs ys h t = sym (h t)

same_among : {V : Type 0} (xs ys : List (Receipt V)) (x : Receipt V) → Same xs ys → Among x xs → Among x ys
same_among {V} xs ys x h a =
    own_among ys x.step.thread x (subst (λ (l : List (Receipt V)). Among x l) (h x.step.thread) (among_own xs x a))

first_same : {V : Type 0} {x y : Receipt V} {xs ys : List (Receipt V)} → x ∷ xs ≡ y ∷ ys → x ≡ y
first_same e = cc

rest_same : {V : Type 0} {x y : Receipt V} {xs ys : List (Receipt V)} → x ∷ xs ≡ y ∷ ys → xs ≡ ys
rest_same e = cc

-- two lists that begin with receipts of one thread begin with one receipt, and go on with the same
same_first : {V : Type 0} (x y : Receipt V) (xs ys : List (Receipt V)) → Same (x ∷ xs) (y ∷ ys)
    → x.step.thread ≡ y.step.thread → (x ≡ y) × Same xs ys
same_first {V} x y xs ys h same = (first_same heads, λ t. rest t (is_or x.step.thread t))
  where
    at : (t : ℕ) → x.step.thread ≡ t → x ∷ own t xs ≡ y ∷ own t ys
    at t e = subst (λ (l : List (Receipt V)). l ≡ y ∷ own t ys) (rw (is_eq x.step.thread t e) refl)
        (subst (λ (l : List (Receipt V)). own t (x ∷ xs) ≡ l) (rw (is_eq y.step.thread t (sym same ∙ e)) refl) (h t))

    heads : x ∷ own x.step.thread xs ≡ y ∷ own x.step.thread ys
    heads = at x.step.thread refl

    rest : (t : ℕ) → (x.step.thread ≡ t) ⊎ (x.step.thread ≢ t) → own t xs ≡ own t ys
    rest t (inl e) = rest_same (at t e)
    rest t (inr apart) = subst (λ (l : List (Receipt V)). l ≡ own t ys) (rw (not_eq x.step.thread t apart) refl) (subst
        (λ (l : List (Receipt V)). own t (x ∷ xs) ≡ l) (rw (not_eq y.step.thread t (λ e. apart (same ∙ e))) refl) (h t))

-- the newest receipt of a thread
abbrev IsNewest : {V : Type 0} → Receipt V → List (Receipt V) → Type 0
IsNewest {V} x xs = (rest : List (Receipt V)) × (own x.step.thread xs ≡ x ∷ rest)

head_newest : {V : Type 0} (x : Receipt V) (xs : List (Receipt V)) → IsNewest x (x ∷ xs)
head_newest x xs = (own x.step.thread xs, rw (is_eq x.step.thread x.step.thread refl) refl)

same_newest : {V : Type 0} (x : Receipt V) (xs ys : List (Receipt V)) → Same xs ys → IsNewest x xs → IsNewest x ys
same_newest x xs ys h (rest, is) = (rest, sym (h x.step.thread) ∙ is)

newest_tail : {V : Type 0} (x y : Receipt V) (ys : List (Receipt V)) → IsNewest x (y ∷ ys)
    → y.step.thread ≢ x.step.thread → IsNewest x ys
newest_tail {V} x y ys (rest, is) apart =
    (rest, subst (λ (l : List (Receipt V)). l ≡ x ∷ rest) (rw (not_eq y.step.thread x.step.thread apart) refl) is)

newest_head : {V : Type 0} (x y : Receipt V) (ys : List (Receipt V)) → IsNewest x (y ∷ ys)
    → y.step.thread ≡ x.step.thread → y ≡ x
newest_head {V} x y ys (rest, is) same = first_same {xs = own x.step.thread ys} {ys = rest}
    (subst (λ (l : List (Receipt V)). l ≡ x ∷ rest) (rw (is_eq y.step.thread x.step.thread same) refl) is)

-- An unlogged receipt that is the newest of its thread stands first of what leads to a receipt, or not in it: before it
-- would stand a newer one of its thread.
none_deeper : {V : Type 0} (r x : Receipt V) (ys : List (Receipt V)) → LeadsTo r ys → r.step.thread ≢ x.step.thread
    → IsUnlogged x → IsNewest x ys → ⊥
none_deeper {V} r x [] leads apart none (rest, is) = cc
none_deeper {V} r x (y ∷ ys) leads apart none newest = go leads.0 (is_or y.step.thread x.step.thread)
    (λ other. none_deeper y x ys leads.1 other none (newest_tail x y ys newest other))
  where
    go : (((e : Entry) × IsLogged y e) ⊎ (IsUnlogged y × (y.step.thread ≡ r.step.thread)))
        → (y.step.thread ≡ x.step.thread) ⊎ (y.step.thread ≢ x.step.thread) → (y.step.thread ≢ x.step.thread → ⊥) → ⊥
    go (inl (e, l)) (inl same) deeper =
        none e (subst (λ (z : Receipt V). IsLogged z e) (newest_head x y ys newest same) l)
    go (inr (quiet, of_r)) (inl same) deeper = apart (sym of_r ∙ same)
    go kind (inr other) deeper = deeper other

not_led : {V : Type 0} (x : Receipt V) (ys : List (Receipt V)) → IsLedUp ys → IsUnlogged x → IsNewest x ys → ⊥
not_led x [] leads none (rest, is) = cc
not_led {V} x (y ∷ ys) leads none newest = go (is_or y.step.thread x.step.thread)
  where
    go : (y.step.thread ≡ x.step.thread) ⊎ (y.step.thread ≢ x.step.thread) → ⊥
    go (inl same) =
        none leads.0.0 (subst (λ (z : Receipt V). IsLogged z leads.0.0) (newest_head x y ys newest same) leads.0.1)
    go (inr other) = none_deeper y x ys leads.1 other none (newest_tail x y ys newest other)

-- of two logged receipts that stand first in lists by weight, both are of one thread
one_thread : {V : Type 0} (x y : Receipt V) (e d : Entry) (xs ys : List (Receipt V)) → Same (x ∷ xs) (y ∷ ys)
    → IsLogged x e → IsLogged y d → IsByWeight (x ∷ xs) → IsByWeight (y ∷ ys) → x.step.thread ≡ y.step.thread
one_thread {V} x y e d xs ys h xe yd sx sy = go (is_or x.step.thread y.step.thread)
  where
    behind : (p q : Receipt V) (ps : List (Receipt V)) → Among p (q ∷ ps) → q.step.thread ≢ p.step.thread → Among p ps
    behind p q ps (inl same) apart = absurd (apart (ap (λ (z : Receipt V). z.step.thread) same))
    behind p q ps (inr a) apart = a

    against : GoesBefore x y → GoesBefore y x → ⊥
    against (inl a) (inl b) = omega (arith, a, b)
    against (inl a) (inr b) = omega (arith, a, b.0)
    against (inr a) (inl b) = omega (arith, a.0, b)
    against (inr a) (inr b) = omega (arith, a.1, b.1)

    go : (x.step.thread ≡ y.step.thread) ⊎ (x.step.thread ≢ y.step.thread) → x.step.thread ≡ y.step.thread
    go (inl same) = same
    go (inr apart) = absurd (against
        (sy.0 d e x yd (behind x y ys (same_among (x ∷ xs) (y ∷ ys) x h (inl refl)) (λ k. apart (sym k))) xe)
        (sx.0 e d y xe
        (behind y x xs (same_among (y ∷ ys) (x ∷ xs) y (same_sym (x ∷ xs) (y ∷ ys) h) (inl refl)) apart) yd))

empty_same : {V : Type 0} (y : Receipt V) (ys : List (Receipt V)) → Same [] (y ∷ ys) → ⊥
empty_same {V} y ys h =
    let k : [] ≡ y ∷ own y.step.thread ys = h y.step.thread ∙ rw (is_eq y.step.thread y.step.thread refl) refl in cc

-- what leads to a receipt is one list
leads_once : {V : Type 0} (r : Receipt V) (xs ys : List (Receipt V)) → Same xs ys → LeadsTo r xs → LeadsTo r ys
    → IsByWeight xs → IsByWeight ys → xs ≡ ys
leads_once r [] [] h lx ly sx sy = refl
leads_once r [] (y ∷ ys) h lx ly sx sy = absurd (empty_same y ys h)
leads_once r (x ∷ xs) [] h lx ly sx sy = absurd (empty_same x xs (same_sym (x ∷ xs) [] h))
leads_once {V} r (x ∷ xs) (y ∷ ys) h lx ly sx sy = join (same_first x y xs ys h thread)
    (λ same rest. leads_once x xs ys rest lx.1 (subst (λ (z : Receipt V). LeadsTo z ys) (sym same) ly.1) sx.1 sy.1)
  where
    -- an unlogged first one of the one list is the first of the other
    first_of : (p q : Receipt V) (ps qs : List (Receipt V)) → Same (p ∷ ps) (q ∷ qs) → LeadsTo r (q ∷ qs) → IsUnlogged p
        → p.step.thread ≡ q.step.thread
    first_of p q ps qs same leads none = pick (is_or q.step.thread p.step.thread)
      where
        pick : (q.step.thread ≡ p.step.thread) ⊎ (q.step.thread ≢ p.step.thread) → p.step.thread ≡ q.step.thread
        pick (inl k) = sym k
        pick (inr apart) = absurd (none_deeper q p qs leads.1 apart none
            (newest_tail p q qs (same_newest p (p ∷ ps) (q ∷ qs) same (head_newest p ps)) apart))

    kinds : (((e : Entry) × IsLogged x e) ⊎ (IsUnlogged x × (x.step.thread ≡ r.step.thread)))
        → (((e : Entry) × IsLogged y e) ⊎ (IsUnlogged y × (y.step.thread ≡ r.step.thread)))
        → x.step.thread ≡ y.step.thread
    kinds (inr a) b = first_of x y xs ys h ly a.0
    kinds (inl a) (inr b) = sym (first_of y x ys xs (same_sym (x ∷ xs) (y ∷ ys) h) lx b.0)
    kinds (inl (e, xe)) (inl (d, yd)) = one_thread x y e d xs ys h xe yd sx sy

    thread : x.step.thread ≡ y.step.thread
    thread = kinds lx.0 ly.0

    join : (x ≡ y) × Same xs ys → (x ≡ y → Same xs ys → xs ≡ ys) → x ∷ xs ≡ y ∷ ys
    join (same, rest) go = ap (λ (z : Receipt V). z ∷ xs) same ∙ ap (λ (l : List (Receipt V)). y ∷ l) (go same rest)

led_once : {V : Type 0} (xs ys : List (Receipt V)) → Same xs ys → IsLedUp xs → IsLedUp ys → IsByWeight xs
    → IsByWeight ys → xs ≡ ys
led_once [] [] h lx ly sx sy = refl
led_once [] (y ∷ ys) h lx ly sx sy = absurd (empty_same y ys h)
led_once (x ∷ xs) [] h lx ly sx sy = absurd (empty_same x xs (same_sym (x ∷ xs) [] h))
led_once {V} (x ∷ xs) (y ∷ ys) h lx ly sx sy =
    let k = same_first x y xs ys h (one_thread x y lx.0.0 ly.0.0 xs ys h lx.0.1 ly.0.1 sx sy) in
    ap (λ (z : Receipt V). z ∷ xs) k.0
    ∙ ap (λ (l : List (Receipt V)). y ∷ l)
    (leads_once x xs ys k.1 lx.1 (subst (λ (z : Receipt V). LeadsTo z ys) (sym k.0) ly.1) sx.1 sy.1)

-- an unlogged receipt that is the newest of its thread is one of those that are left
among_left : {V : Type 0} (x : Receipt V) (left led : List (Receipt V)) → IsUnlogged x → IsLedUp led
    → IsNewest x (left ++ led) → Among x left
among_left x [] led none leads newest = absurd (not_led x led leads none newest)
among_left {V} x (y ∷ left) led none leads newest = go (is_or y.step.thread x.step.thread)
    (λ apart. among_left x left led none leads (newest_tail x y (left ++ led) newest apart))
  where
    go : (y.step.thread ≡ x.step.thread) ⊎ (y.step.thread ≢ x.step.thread)
        → (y.step.thread ≢ x.step.thread → Among x left) → Among x (y ∷ left)
    go (inl same) deeper = inl (newest_head x y (left ++ led) newest same)
    go (inr apart) deeper = inr (deeper apart)

-- so the first one of the one list is of no greater thread than the first of the other
no_greater : {V : Type 0} (x y : Receipt V) (xs left led : List (Receipt V)) → Same (x ∷ xs) (y ∷ (left ++ led))
    → IsUnlogged x → IsByThread (y ∷ left) → IsLedUp led → x.step.thread ≤ y.step.thread
no_greater {V} x y xs left led same none by leads =
    go (among_left x (y ∷ left) led none leads (same_newest x (x ∷ xs) (y ∷ (left ++ led)) same (head_newest x xs)))
  where
    go : Among x (y ∷ left) → x.step.thread ≤ y.step.thread
    go (inl is) = let k : y.step.thread ≡ x.step.thread = ap (λ (z : Receipt V). z.step.thread) is in omega arith
    go (inr a) = by.1 x a

-- one woven list, of which the unlogged ones that are left come first
parts_once : {V : Type 0} (a b xs ys : List (Receipt V)) → Same (a ++ xs) (b ++ ys) → IsByThread a → IsByThread b
    → IsLedUp xs → IsLedUp ys → IsByWeight (a ++ xs) → IsByWeight (b ++ ys) → a ++ xs ≡ b ++ ys
parts_once [] [] xs ys h ta tb lx ly sx sy = led_once xs ys h lx ly sx sy
parts_once [] (y ∷ b) xs ys h ta tb lx ly sx sy = absurd (not_led y xs lx tb.0
    (same_newest y (y ∷ (b ++ ys)) xs (same_sym xs (y ∷ (b ++ ys)) h) (head_newest y (b ++ ys))))
parts_once (x ∷ a) [] xs ys h ta tb lx ly sx sy =
    absurd (not_led x ys ly ta.0 (same_newest x (x ∷ (a ++ xs)) ys h (head_newest x (a ++ xs))))
parts_once {V} (x ∷ a) (y ∷ b) xs ys h ta tb lx ly sx sy =
    join (same_first x y (a ++ xs) (b ++ ys) h thread) (λ rest. parts_once a b xs ys rest ta.2 tb.2 lx ly sx.1 sy.1)
  where
    thread : x.step.thread ≡ y.step.thread
    thread =
        let low : x.step.thread ≤ y.step.thread = no_greater x y (a ++ xs) b ys h ta.0 tb ly in
        let high : y.step.thread ≤ x.step.thread =
        no_greater y x (b ++ ys) a xs (same_sym (x ∷ (a ++ xs)) (y ∷ (b ++ ys)) h) tb.0 ta lx in
        omega arith

    join : (x ≡ y) × Same (a ++ xs) (b ++ ys) → (Same (a ++ xs) (b ++ ys) → a ++ xs ≡ b ++ ys)
        → x ∷ (a ++ xs) ≡ y ∷ (b ++ ys)
    join (same, rest) go = ap (λ (z : Receipt V). z ∷ (a ++ xs)) same ∙ ap (λ (l : List (Receipt V)). y ∷ l) (go rest)

pub woven_once : {V : Type 0} (rs : Receipts V) (a b : List (Receipt V)) → IsWoven rs a → IsWoven rs b → a ≡ b
woven_once {V} rs a b wa wb =
    wa.parts
    ∙ (parts_once wa.left wb.left wa.led wb.led same wa.rest wb.rest wa.leads wb.leads
    (subst (λ (l : List (Receipt V)). IsByWeight l) wa.parts wa.by_weight)
    (subst (λ (l : List (Receipt V)). IsByWeight l) wb.parts wb.by_weight)
    ∙ sym wb.parts)
  where
    same : Same (wa.left ++ wa.led) (wb.left ++ wb.led)
    same t =
        ap (λ (l : List (Receipt V)). own t l) (sym wa.parts)
        ∙ (wa.each t ∙ (sym (wb.each t) ∙ ap (λ (l : List (Receipt V)). own t l) wb.parts))
