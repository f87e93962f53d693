-- Each set of held entries has a closed part: what is left where entries that lack a predecessor are dropped.
use Rattle.std.proofs.Common.{◌≡◌, ℕ, zero, suc, ◌+◌, ◌<◌, ◌≢◌, List, [], ◌∷◌, refl, sym, ap, ◌∙◌, subst, inl, inr, ◌⊎◌}
use Rattle.std.proofs.Common.{arith, length, Some}
use Rattle.std.specs.Prelude.{slice_get, remove}
use Rattle.entry_order.specs.declared.what.What.{What}
use Rattle.entry_order.specs.declared.what.What.TheVariants.{Access, Read, Clock, Draw}
use Rattle.entry_order.specs.Log.{Entry, IsIn, IsNext, IsNextTouch, IsReadOf, IsTouchPast}
use Rattle.entry_order.specs.Closed.{IsClosedPart, Lacks}
use Rattle.entry_order.proofs.Order.{is_or}
use Rattle.entry_order.proofs.Dropping.{IsDropping, dropping_step}

-- a fact holds or not
abbrev pub Or : Type 0 → Type 0
Or P = P ⊎ (P → ⊥)

what_or : (a b : What) → Or (a ≡ b)
what_or (Access v s) (Access w r) = go (is_or v w) (is_or s r)
  where
    go : (v ≡ w) ⊎ (v ≢ w) → (s ≡ r) ⊎ (s ≢ r) → Or (Access v s ≡ Access w r)
    go (inl a) (inl b) = inl (cc)
    go (inr a) b = inr (λ e. let k : v ≡ w = cc in a k)
    go (inl a) (inr b) = inr (λ e. let k : s ≡ r = cc in b k)
what_or (Read v s) (Read w r) = go (is_or v w) (is_or s r)
  where
    go : (v ≡ w) ⊎ (v ≢ w) → (s ≡ r) ⊎ (s ≢ r) → Or (Read v s ≡ Read w r)
    go (inl a) (inl b) = inl (cc)
    go (inr a) b = inr (λ e. let k : v ≡ w = cc in a k)
    go (inl a) (inr b) = inr (λ e. let k : s ≡ r = cc in b k)
what_or (Clock a) (Clock b) = go (is_or a b)
  where
    go : (a ≡ b) ⊎ (a ≢ b) → Or (Clock a ≡ Clock b)
    go (inl e) = inl (cc)
    go (inr n) = inr (λ e. let k : a ≡ b = cc in n k)
what_or (Draw a) (Draw b) = go (is_or a b)
  where
    go : (a ≡ b) ⊎ (a ≢ b) → Or (Draw a ≡ Draw b)
    go (inl e) = inl (cc)
    go (inr n) = inr (λ e. let k : a ≡ b = cc in n k)
what_or (Access v s) (Read w r) = inr (λ e. cc)
what_or (Access v s) (Clock b) = inr (λ e. cc)
what_or (Access v s) (Draw b) = inr (λ e. cc)
what_or (Read v s) (Access w r) = inr (λ e. cc)
what_or (Read v s) (Clock b) = inr (λ e. cc)
what_or (Read v s) (Draw b) = inr (λ e. cc)
what_or (Clock a) (Access w r) = inr (λ e. cc)
what_or (Clock a) (Read w r) = inr (λ e. cc)
what_or (Clock a) (Draw b) = inr (λ e. cc)
what_or (Draw a) (Access w r) = inr (λ e. cc)
what_or (Draw a) (Read w r) = inr (λ e. cc)
what_or (Draw a) (Clock b) = inr (λ e. cc)

abbrev make : ℕ → ℕ → What → Entry
make t n w = record { thread = t; number = n; what = w }

pub entry_or : (e f : Entry) → Or (e ≡ f)
entry_or e f = go (is_or e.thread f.thread) (is_or e.number f.number) (what_or e.what f.what)
  where
    go : (e.thread ≡ f.thread) ⊎ (e.thread ≢ f.thread) → (e.number ≡ f.number) ⊎ (e.number ≢ f.number)
        → Or (e.what ≡ f.what) → Or (e ≡ f)
    go (inr a) b c = inr (λ same. a (ap (λ (g : Entry). g.thread) same))
    go (inl a) (inr b) c = inr (λ same. b (ap (λ (g : Entry). g.number) same))
    go (inl a) (inl b) (inr c) = inr (λ same. c (ap (λ (g : Entry). g.what) same))
    go (inl a) (inl b) (inl c) = inl (ap (λ (t : ℕ). make t e.number e.what) a
        ∙ (ap (λ (n : ℕ). make f.thread n e.what) b ∙ ap (λ (w : What). make f.thread f.number w) c))

pub in_or : (e : Entry) (xs : List Entry) → Or (IsIn e xs)
in_or e [] = inr (λ h. h)
in_or e (x ∷ xs) = go (entry_or x e) (in_or e xs)
  where
    go : Or (x ≡ e) → Or (IsIn e xs) → Or (IsIn e (x ∷ xs))
    go (inl h) b = inl (inl h)
    go (inr h) (inl k) = inl (inr k)
    go (inr h) (inr k) = inr (λ i. out i)
      where
        out : IsIn e (x ∷ xs) → ⊥
        out (inl same) = h same
        out (inr there) = k there

abbrev IsNextOn : What → What → Type 0
IsNextOn a b = IsNextTouch a b ⊎ (IsReadOf a b ⊎ IsTouchPast a b)

next_on_or : (a b : What) → Or (IsNextOn a b)
next_on_or (Access v s) (Access w r) = go (is_or v w) (is_or r (s + 1))
  where
    out : (v ≢ w) ⊎ (r ≢ s + 1) → IsNextOn (Access v s) (Access w r) → ⊥
    out bad (inl (u, p, a, b)) =
        let k : v ≡ w = cc in
        let t : s ≡ p = cc in
        let q : r ≡ p + 1 = cc in wrong bad k (q ∙ ap (λ (n : ℕ). n + 1) (sym t))
      where
        wrong : (v ≢ w) ⊎ (r ≢ s + 1) → v ≡ w → r ≡ s + 1 → ⊥
        wrong (inl h) k q = h k
        wrong (inr h) k q = h q
    out bad (inr (inl (u, p, a, b))) = cc
    out bad (inr (inr (u, p, a, b))) = cc

    go : (v ≡ w) ⊎ (v ≢ w) → (r ≡ s + 1) ⊎ (r ≢ s + 1) → Or (IsNextOn (Access v s) (Access w r))
    go (inl a) (inl b) = inl (inl (v, s, refl, cc))
    go (inr a) b = inr (out (inl a))
    go (inl a) (inr b) = inr (out (inr b))
next_on_or (Access v s) (Read w r) = go (is_or v w) (is_or r s)
  where
    out : (v ≢ w) ⊎ (r ≢ s) → IsNextOn (Access v s) (Read w r) → ⊥
    out bad (inl (u, p, a, b)) = cc
    out bad (inr (inl (u, p, a, b))) =
        let k : v ≡ w = cc in
        let q : r ≡ s = cc in wrong bad k q
      where
        wrong : (v ≢ w) ⊎ (r ≢ s) → v ≡ w → r ≡ s → ⊥
        wrong (inl h) k q = h k
        wrong (inr h) k q = h q
    out bad (inr (inr (u, p, a, b))) = cc

    go : (v ≡ w) ⊎ (v ≢ w) → (r ≡ s) ⊎ (r ≢ s) → Or (IsNextOn (Access v s) (Read w r))
    go (inl a) (inl b) = inl (inr (inl (v, s, refl, cc)))
    go (inr a) b = inr (out (inl a))
    go (inl a) (inr b) = inr (out (inr b))
next_on_or (Read v s) (Access w r) = go (is_or v w) (is_or r (s + 1))
  where
    out : (v ≢ w) ⊎ (r ≢ s + 1) → IsNextOn (Read v s) (Access w r) → ⊥
    out bad (inl (u, p, a, b)) = cc
    out bad (inr (inl (u, p, a, b))) = cc
    out bad (inr (inr (u, p, a, b))) =
        let k : v ≡ w = cc in
        let t : s ≡ p = cc in
        let q : r ≡ p + 1 = cc in wrong bad k (q ∙ ap (λ (n : ℕ). n + 1) (sym t))
      where
        wrong : (v ≢ w) ⊎ (r ≢ s + 1) → v ≡ w → r ≡ s + 1 → ⊥
        wrong (inl h) k q = h k
        wrong (inr h) k q = h q

    go : (v ≡ w) ⊎ (v ≢ w) → (r ≡ s + 1) ⊎ (r ≢ s + 1) → Or (IsNextOn (Read v s) (Access w r))
    go (inl a) (inl b) = inl (inr (inr (v, s, refl, cc)))
    go (inr a) b = inr (out (inl a))
    go (inl a) (inr b) = inr (out (inr b))
next_on_or (Read v s) (Read w r) = inr (λ h. out h)
  where
    out : IsNextOn (Read v s) (Read w r) → ⊥
    out (inl (u, p, a, b)) = cc
    out (inr (inl (u, p, a, b))) = cc
    out (inr (inr (u, p, a, b))) = cc
next_on_or (Clock c) b = inr (λ h. out h)
  where
    out : IsNextOn (Clock c) b → ⊥
    out (inl (u, p, a, q)) = cc
    out (inr (inl (u, p, a, q))) = cc
    out (inr (inr (u, p, a, q))) = cc
next_on_or (Draw c) b = inr (λ h. out h)
  where
    out : IsNextOn (Draw c) b → ⊥
    out (inl (u, p, a, q)) = cc
    out (inr (inl (u, p, a, q))) = cc
    out (inr (inr (u, p, a, q))) = cc
next_on_or (Access v s) (Clock c) = inr (λ h. out h)
  where
    out : IsNextOn (Access v s) (Clock c) → ⊥
    out (inl (u, p, a, q)) = cc
    out (inr (inl (u, p, a, q))) = cc
    out (inr (inr (u, p, a, q))) = cc
next_on_or (Access v s) (Draw c) = inr (λ h. out h)
  where
    out : IsNextOn (Access v s) (Draw c) → ⊥
    out (inl (u, p, a, q)) = cc
    out (inr (inl (u, p, a, q))) = cc
    out (inr (inr (u, p, a, q))) = cc
next_on_or (Read v s) (Clock c) = inr (λ h. out h)
  where
    out : IsNextOn (Read v s) (Clock c) → ⊥
    out (inl (u, p, a, q)) = cc
    out (inr (inl (u, p, a, q))) = cc
    out (inr (inr (u, p, a, q))) = cc
next_on_or (Read v s) (Draw c) = inr (λ h. out h)
  where
    out : IsNextOn (Read v s) (Draw c) → ⊥
    out (inl (u, p, a, q)) = cc
    out (inr (inl (u, p, a, q))) = cc
    out (inr (inr (u, p, a, q))) = cc

next_or : (e f : Entry) → Or (IsNext e f)
next_or e f = go (is_or e.thread f.thread) (is_or f.number (e.number + 1)) (next_on_or e.what f.what)
  where
    go : (e.thread ≡ f.thread) ⊎ (e.thread ≢ f.thread) → (f.number ≡ e.number + 1) ⊎ (f.number ≢ e.number + 1)
        → Or (IsNextOn e.what f.what) → Or (IsNext e f)
    go (inl a) (inl b) c = inl (inl (a, b))
    go a b (inl c) = inl (inr c)
    go (inr a) b (inr c) = inr (λ h. out h)
      where
        out : IsNext e f → ⊥
        out (inl h) = a h.0
        out (inr h) = c h
    go (inl a) (inr b) (inr c) = inr (λ h. out h)
      where
        out : IsNext e f → ⊥
        out (inl h) = b h.1
        out (inr h) = c h

-- an entry lacks a predecessor among these, or each is there
abbrev Has : List Entry → List Entry → List Entry → Entry → Type 0
Has some stored part f = (e : Entry) → IsIn e some → IsNext e f → IsIn e part ⊎ IsIn e stored

lacks_or : (some stored part : List Entry) (f : Entry) → Lacks some stored part f ⊎ Has some stored part f
lacks_or [] stored part f = inr (λ e here n. absurd here)
lacks_or (x ∷ some) stored part f = go (lacks_or some stored part f) (next_or x f) (in_or x part) (in_or x stored)
  where
    go : Lacks some stored part f ⊎ Has some stored part f → Or (IsNext x f) → Or (IsIn x part) → Or (IsIn x stored)
        → Lacks (x ∷ some) stored part f ⊎ Has (x ∷ some) stored part f
    go (inl (e, he, n, p, q)) a b c = inl (e, inr he, n, p, q)
    go (inr all) (inl n) (inr p) (inr q) = inl (x, inl refl, n, p, q)
    go (inr all) (inr out) b c = inr (λ e here n. pick e here n)
      where
        pick : (e : Entry) → IsIn e (x ∷ some) → IsNext e f → IsIn e part ⊎ IsIn e stored
        pick e (inl same) n = absurd (out (subst (λ (z : Entry). IsNext z f) (sym same) n))
        pick e (inr h) n = all e h n
    go (inr all) (inl n) (inl p) c = inr (λ e here m. pick e here m)
      where
        pick : (e : Entry) → IsIn e (x ∷ some) → IsNext e f → IsIn e part ⊎ IsIn e stored
        pick e (inl same) m = inl (subst (λ (z : Entry). IsIn z part) same p)
        pick e (inr h) m = all e h m
    go (inr all) (inl n) (inr p) (inl q) = inr (λ e here m. pick e here m)
      where
        pick : (e : Entry) → IsIn e (x ∷ some) → IsNext e f → IsIn e part ⊎ IsIn e stored
        pick e (inl same) m = inr (subst (λ (z : Entry). IsIn z stored) same q)
        pick e (inr h) m = all e h m

-- one of these lacks a predecessor, or none
abbrev IsLackingAt : List Entry → List Entry → List Entry → List Entry → Type 0
IsLackingAt log stored part some = (i : ℕ) × (f : Entry) × (slice_get some i ≡ Some f) × Lacks log stored part f

any_or : (log stored part some : List Entry)
    → IsLackingAt log stored part some ⊎ ((f : Entry) → IsIn f some → Has log stored part f)
any_or log stored part [] = inr (λ f here. absurd here)
any_or log stored part (x ∷ some) = go (lacks_or log stored part x) (any_or log stored part some)
  where
    go : Lacks log stored part x ⊎ Has log stored part x
        → IsLackingAt log stored part some ⊎ ((f : Entry) → IsIn f some → Has log stored part f)
        → IsLackingAt log stored part (x ∷ some) ⊎ ((f : Entry) → IsIn f (x ∷ some) → Has log stored part f)
    go (inl h) b = inl (0, x, refl, h)
    go (inr h) (inl (i, f, at, l)) = inl (suc i, f, at, l)
    go (inr h) (inr all) = inr (λ f here. pick f here)
      where
        pick : (f : Entry) → IsIn f (x ∷ some) → Has log stored part f
        pick f (inl same) = subst (λ (z : Entry). Has log stored part z) same h
        pick f (inr k) = all f k

removed_shorter : (xs : List Entry) (i : ℕ) (x : Entry) → slice_get xs i ≡ Some x → length (remove xs i) < length xs
removed_shorter [] i x at = absurd (cc)
removed_shorter (y ∷ xs) zero x at = omega arith
removed_shorter (y ∷ xs) (suc i) x at =
    let k : length (remove xs i) < length xs = removed_shorter xs i x at in omega arith

drop_all : (log stored held : List Entry) (fuel : ℕ) (part : List Entry) → length part < fuel
    → IsDropping log stored held part → (part : List Entry) × IsClosedPart log stored held part
drop_all log stored held zero part low d = absurd (omega arith)
drop_all log stored held (suc fuel) part low d =
    go (any_or log stored part part) (λ next. drop_all log stored held fuel next)
  where
    go : IsLackingAt log stored part part ⊎ ((f : Entry) → IsIn f part → Has log stored part f)
        → ((next : List Entry) → length next < fuel → IsDropping log stored held next
        → (part : List Entry) × IsClosedPart log stored held part)
        → (part : List Entry) × IsClosedPart log stored held part
    go (inl (i, f, at, l)) rest =
        let k : length (remove part i) < length part = removed_shorter part i f at in
        rest (remove part i) (omega arith) (dropping_step log stored held part i d (f, at, l))
    go (inr all) rest =
        (part, record { within = d.within; closed = λ e f he hf n. all f hf e he n; greatest = d.greatest })

-- The held entries have a closed part.
pub closed_part_there : (log stored held : List Entry) → (part : List Entry) × IsClosedPart log stored held part
closed_part_there log stored held =
    drop_all log stored held (length held + 1) held (omega arith)
    (record { within = λ e h. h; greatest = λ other sub closed e h. sub e h })
