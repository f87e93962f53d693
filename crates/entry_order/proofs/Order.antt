-- What follows from the numbering of a log.
use Rattle.std.proofs.Common.{◌≡◌, ℕ, zero, suc, ◌+◌, ◌≤◌, ◌<◌, ◌-◌, ◌≢◌, Bool, true, false, List, [], ◌∷◌, refl, sym}
use Rattle.std.proofs.Common.{ap, ◌∙◌, subst, inl, inr, ◌⊎◌, arith, cond, eqb}
use Rattle.std.proofs.lemmas.Bool.{cases_lt}
use Rattle.std.proofs.lemmas.Bool.Decides.{nat_tests, eqb_tells}
use Rattle.entry_order.specs.declared.what.What.{What}
use Rattle.entry_order.specs.declared.what.What.TheVariants.{Access, Read, Clock, Draw}
use Rattle.entry_order.specs.Log.{Entry, touches, entries, places, IsLog, IsIn, StandsBefore, IsNext, Precedes, AtOnce}
use Rattle.entry_order.specs.Log.{Through, IsClosed}

-- two numbers are equal or not
pub is_or : (a b : ℕ) → (a ≡ b) ⊎ (a ≢ b)
is_or a b = go (eqb_tells a b)
  where
    go : ((eqb a b ≡ true) × (a ≡ b)) ⊎ ((eqb a b ≡ false) × (a ≢ b)) → (a ≡ b) ⊎ (a ≢ b)
    go (inl h) = inl h.1
    go (inr h) = inr h.1

-- an entry adds one to the count of its thread, and a touch to that of its variable
pub entries_same : (t : ℕ) (e : Entry) (log : List Entry) → e.thread ≡ t → entries t (e ∷ log) ≡ entries t log + 1
entries_same t e log h = grind (arith, nat_tests)

-- the counts only grow
pub entries_grow : (t : ℕ) (e : Entry) (log : List Entry) → entries t log ≤ entries t (e ∷ log)
entries_grow t e log = grind (arith, nat_tests)

pub places_same : (v s : ℕ) (e : Entry) (log : List Entry) → e.what ≡ Access v s → places v (e ∷ log) ≡ places v log + 1
places_same v s e log h = simp h (grind (arith, nat_tests))

pub places_grow : (v : ℕ) (e : Entry) (log : List Entry) → places v log ≤ places v (e ∷ log)
places_grow v e log = go (touches v e.what)
  where
    go : (b : Bool) → places v log ≤ cond b (places v log + 1) (places v log)
    go true = omega arith
    go false = omega arith

-- an entry has a number from 1 to the count of its thread
pub number_within : (log : List Entry) (e : Entry) → IsLog log → IsIn e log
    → (1 ≤ e.number) × (e.number ≤ entries e.thread log)
number_within [] e good here = absurd here
number_within (x ∷ log) e good (inl h) = grind (arith, nat_tests, entries_same)
number_within (x ∷ log) e good (inr h) =
    let k : (1 ≤ e.number) × (e.number ≤ entries e.thread log) = number_within log e good.2 h in
    let g : entries e.thread log ≤ entries e.thread (x ∷ log) = entries_grow e.thread x log in
    omega arith

-- a touch has a place from 1 to the count of its variable
pub place_within : (log : List Entry) (e : Entry) (v s : ℕ) → IsLog log → IsIn e log → e.what ≡ Access v s
    → (1 ≤ s) × (s ≤ places v log)
place_within [] e v s good here w = absurd here
place_within (x ∷ log) e v s good (inl h) w =
    let k : x.what ≡ Access v s = ap (λ (y : Entry). y.what) h ∙ w in
    let p : s ≡ places v log + 1 = good.1.0 v s k in
    let q : places v (x ∷ log) ≡ places v log + 1 = places_same v s x log k in
    omega arith
place_within (x ∷ log) e v s good (inr h) w =
    let k : (1 ≤ s) × (s ≤ places v log) = place_within log e v s good.2 h w in
    let g : places v log ≤ places v (x ∷ log) = places_grow v x log in
    omega arith

-- a read stands after at most all touches of its variable
pub read_within : (log : List Entry) (e : Entry) (v s : ℕ) → IsLog log → IsIn e log → e.what ≡ Read v s
    → s ≤ places v log
read_within [] e v s good here w = absurd here
read_within (x ∷ log) e v s good (inl h) w =
    let p : s ≡ places v log = good.1.1 v s (ap (λ (y : Entry). y.what) h ∙ w) in
    let g : places v log ≤ places v (x ∷ log) = places_grow v x log in
    omega arith
read_within (x ∷ log) e v s good (inr h) w =
    let k : s ≤ places v log = read_within log e v s good.2 h w in
    let g : places v log ≤ places v (x ∷ log) = places_grow v x log in
    omega arith

-- the newest entry is new
pub newest : (log : List Entry) (e : Entry) → IsLog (e ∷ log) → IsIn e log → ⊥
newest log e good here =
    let k : (1 ≤ e.number) × (e.number ≤ entries e.thread log) = number_within log e good.2 here in
    omega arith

-- an immediate predecessor stands before
pub next_stands : (log : List Entry) (e f : Entry) → IsLog log → IsIn e log → IsIn f log → IsNext e f
    → StandsBefore log e f
next_stands [] e f good he hf n = absurd he
next_stands (x ∷ log) e f good (inr he) (inl hf) n = inl (hf, he)
next_stands (x ∷ log) e f good (inr he) (inr hf) n = inr (next_stands log e f good.2 he hf n)
next_stands (x ∷ log) e f good (inl he) (inl hf) (inl n) = absurd (grind arith)
next_stands (x ∷ log) e f good (inl he) (inl hf) (inr (inl n)) =
    let same : Access n.0 n.1 ≡ Access n.0 (n.1 + 1) = cc in
    let k : n.1 ≡ n.1 + 1 = cc in absurd (omega arith)
next_stands (x ∷ log) e f good (inl he) (inr hf) (inl n) =
    let k : (1 ≤ f.number) × (f.number ≤ entries f.thread log) = number_within log f good.2 hf in
    absurd (grind arith)
next_stands (x ∷ log) e f good (inl he) (inl hf) (inr (inr (inl n))) =
    let same : Access n.0 n.1 ≡ Read n.0 n.1 = cc in absurd (cc)
next_stands (x ∷ log) e f good (inl he) (inl hf) (inr (inr (inr n))) =
    let same : Read n.0 n.1 ≡ Access n.0 (n.1 + 1) = cc in absurd (cc)
next_stands (x ∷ log) e f good (inl he) (inr hf) (inr (inr (inl n))) =
    let a : x.what ≡ Access n.0 n.1 = ap (λ (y : Entry). y.what) he ∙ n.2 in
    let p : n.1 ≡ places n.0 log + 1 = good.1.0 n.0 n.1 a in
    let k : n.1 ≤ places n.0 log = read_within log f n.0 n.1 good.2 hf n.3 in
    absurd (omega arith)
next_stands (x ∷ log) e f good (inl he) (inr hf) (inr (inr (inr n))) =
    let a : x.what ≡ Read n.0 n.1 = ap (λ (y : Entry). y.what) he ∙ n.2 in
    let p : n.1 ≡ places n.0 log = good.1.1 n.0 n.1 a in
    let k : (1 ≤ n.1 + 1) × (n.1 + 1 ≤ places n.0 log) = place_within log f n.0 (n.1 + 1) good.2 hf n.3 in
    absurd (omega arith)
next_stands (x ∷ log) e f good (inl he) (inr hf) (inr (inl n)) =
    let a : x.what ≡ Access n.0 n.1 = ap (λ (y : Entry). y.what) he ∙ n.2 in
    let p : n.1 ≡ places n.0 log + 1 = good.1.0 n.0 n.1 a in
    let k : (1 ≤ n.1 + 1) × (n.1 + 1 ≤ places n.0 log) = place_within log f n.0 (n.1 + 1) good.2 hf n.3 in
    absurd (omega arith)

-- what stands before another is in the log, as the other is
pub before_in : (log : List Entry) (e f : Entry) → StandsBefore log e f → IsIn e log × IsIn f log
before_in [] e f b = absurd b
before_in (x ∷ log) e f (inl b) = (inr b.1, inl b.0)
before_in (x ∷ log) e f (inr b) = (inr (before_in log e f b).0, inr (before_in log e f b).1)

-- standing before is transitive
pub before_trans : (log : List Entry) (e g f : Entry) → IsLog log → StandsBefore log e g → StandsBefore log g f
    → StandsBefore log e f
before_trans [] e g f good a b = absurd a
before_trans (x ∷ log) e g f good (inl a) (inl b) =
    absurd (newest log x good (subst (λ (y : Entry). IsIn y log) (sym a.0) b.1))
before_trans (x ∷ log) e g f good (inl a) (inr b) =
    absurd (newest log x good (subst (λ (y : Entry). IsIn y log) (sym a.0) (before_in log g f b).0))
before_trans (x ∷ log) e g f good (inr a) (inl b) = inl (b.0, (before_in log e g a).0)
before_trans (x ∷ log) e g f good (inr a) (inr b) = inr (before_trans log e g f good.2 a b)

-- An entry stands after all that precedes it.
pub stands_after : (log : List Entry) (e f : Entry) → IsLog log → Precedes log e f → StandsBefore log e f
stands_after log e f good (AtOnce he hf n) = next_stands log e f good he hf n
stands_after log e f good (Through {g = g} he n p) =
    let later : StandsBefore log g f = stands_after log g f good p in
    before_trans log e g f good (next_stands log e g good he (before_in log g f later).0 n) later

-- whether the newest entry is a touch of the variable, or an entry of the thread
pub places_step : (v : ℕ) (x : Entry) (log : List Entry)
    → (places v (x ∷ log) ≡ places v log) ⊎ ((s : ℕ) × (x.what ≡ Access v s) × (places v (x ∷ log) ≡ places v log + 1))
places_step v x log = go x.what refl
  where
    at : (w : ℕ) (s : ℕ) → x.what ≡ Access w s → ((w ≡ v) ⊎ (w ≢ v))
        → (places v (x ∷ log) ≡ places v log)
        ⊎ ((s : ℕ) × (x.what ≡ Access v s) × (places v (x ∷ log) ≡ places v log + 1))
    at w s e (inl h) = inr (s, e ∙ ap (λ (u : ℕ). Access u s) h, simp e (grind (arith, nat_tests)))
    at w s e (inr h) = inl (simp e (grind (arith, nat_tests)))

    go : (w : What) → x.what ≡ w
        → (places v (x ∷ log) ≡ places v log)
        ⊎ ((s : ℕ) × (x.what ≡ Access v s) × (places v (x ∷ log) ≡ places v log + 1))
    go (Access w s) e = at w s e (is_or w v)
    go (Read w s) e = inl (simp e refl)
    go (Clock a) e = inl (simp e refl)
    go (Draw a) e = inl (simp e refl)

pub entries_step : (t : ℕ) (x : Entry) (log : List Entry)
    → ((entries t (x ∷ log) ≡ entries t log) × (x.thread ≢ t))
    ⊎ ((x.thread ≡ t) × (entries t (x ∷ log) ≡ entries t log + 1))
entries_step t x log = go (is_or x.thread t)
  where
    go : ((x.thread ≡ t) ⊎ (x.thread ≢ t))
        → ((entries t (x ∷ log) ≡ entries t log) × (x.thread ≢ t))
        ⊎ ((x.thread ≡ t) × (entries t (x ∷ log) ≡ entries t log + 1))
    go (inl h) = inr (h, grind (arith, nat_tests))
    go (inr h) = inl (grind (arith, nat_tests), h)

-- each touch up to the count stands in the log
pub touch_there : (log : List Entry) (v s : ℕ) → IsLog log → 1 ≤ s → s ≤ places v log
    → (g : Entry) × IsIn g log × (g.what ≡ Access v s)
touch_there [] v s good low high = absurd (omega arith)
touch_there (x ∷ log) v s good low high =
    go (places_step v x log) (is_or s (places v log + 1)) (λ h. touch_there log v s good.2 low h)
  where
    go : (places v (x ∷ log) ≡ places v log)
        ⊎ ((r : ℕ) × (x.what ≡ Access v r) × (places v (x ∷ log) ≡ places v log + 1))
        → ((s ≡ places v log + 1) ⊎ (s ≢ places v log + 1))
        → (s ≤ places v log → (g : Entry) × IsIn g log × (g.what ≡ Access v s))
        → (g : Entry) × IsIn g (x ∷ log) × (g.what ≡ Access v s)
    go (inl a) k older =
        let r : (g : Entry) × IsIn g log × (g.what ≡ Access v s) = older (omega arith) in (r.0, inr r.1, r.2)
    go (inr a) (inl k) older = (x, inl refl, a.1 ∙ ap (λ (r : ℕ). Access v r) (good.1.0 v a.0 a.1 ∙ sym k))
    go (inr a) (inr k) older =
        let r : (g : Entry) × IsIn g log × (g.what ≡ Access v s) = older (omega arith) in (r.0, inr r.1, r.2)

-- each entry of a thread up to its count stands in the log
pub entry_there : (log : List Entry) (t n : ℕ) → IsLog log → 1 ≤ n → n ≤ entries t log
    → (g : Entry) × IsIn g log × (g.thread ≡ t) × (g.number ≡ n)
entry_there [] t n good low high = absurd (omega arith)
entry_there (x ∷ log) t n good low high =
    go (entries_step t x log) (is_or n (entries t log + 1)) (λ h. entry_there log t n good.2 low h)
  where
    go : ((entries t (x ∷ log) ≡ entries t log) × (x.thread ≢ t))
        ⊎ ((x.thread ≡ t) × (entries t (x ∷ log) ≡ entries t log + 1))
        → ((n ≡ entries t log + 1) ⊎ (n ≢ entries t log + 1))
        → (n ≤ entries t log → (g : Entry) × IsIn g log × (g.thread ≡ t) × (g.number ≡ n))
        → (g : Entry) × IsIn g (x ∷ log) × (g.thread ≡ t) × (g.number ≡ n)
    go (inl a) k older =
        let r : (g : Entry) × IsIn g log × (g.thread ≡ t) × (g.number ≡ n) = older (omega arith) in
        (r.0, inr r.1, r.2, r.3)
    go (inr a) (inl k) older = (x, inl refl, a.0, good.0 ∙ (ap (λ (u : ℕ). entries u log + 1) a.0 ∙ sym k))
    go (inr a) (inr k) older =
        let r : (g : Entry) × IsIn g log × (g.thread ≡ t) × (g.number ≡ n) = older (omega arith) in
        (r.0, inr r.1, r.2, r.3)

-- one entry has one number, and one place
pub same_number : (log : List Entry) (e f : Entry) → IsLog log → IsIn e log → IsIn f log → e.thread ≡ f.thread
    → e.number ≡ f.number → e ≡ f
same_number [] e f good he hf t n = absurd he
same_number (x ∷ log) e f good (inl he) (inl hf) t n = sym he ∙ hf
same_number (x ∷ log) e f good (inr he) (inr hf) t n = same_number log e f good.2 he hf t n
same_number (x ∷ log) e f good (inl he) (inr hf) t n =
    let k : (1 ≤ f.number) × (f.number ≤ entries f.thread log) = number_within log f good.2 hf in absurd (grind arith)
same_number (x ∷ log) e f good (inr he) (inl hf) t n =
    let k : (1 ≤ e.number) × (e.number ≤ entries e.thread log) = number_within log e good.2 he in absurd (grind arith)

pub same_place : (log : List Entry) (e f : Entry) (v s : ℕ) → IsLog log → IsIn e log → IsIn f log → e.what ≡ Access v s
    → f.what ≡ Access v s → e ≡ f
same_place [] e f v s good he hf a b = absurd he
same_place (x ∷ log) e f v s good (inl he) (inl hf) a b = sym he ∙ hf
same_place (x ∷ log) e f v s good (inr he) (inr hf) a b = same_place log e f v s good.2 he hf a b
same_place (x ∷ log) e f v s good (inl he) (inr hf) a b =
    let p : s ≡ places v log + 1 = good.1.0 v s (ap (λ (y : Entry). y.what) he ∙ a) in
    let k : (1 ≤ s) × (s ≤ places v log) = place_within log f v s good.2 hf b in absurd (omega arith)
same_place (x ∷ log) e f v s good (inr he) (inl hf) a b =
    let p : s ≡ places v log + 1 = good.1.0 v s (ap (λ (y : Entry). y.what) hf ∙ b) in
    let k : (1 ≤ s) × (s ≤ places v log) = place_within log e v s good.2 he a in absurd (omega arith)

-- The touches of a variable are a chain.
pub touch_chain : (log : List Entry) (k : ℕ) (e f : Entry) (v s : ℕ) → IsLog log → IsIn e log → IsIn f log
    → e.what ≡ Access v s → f.what ≡ Access v (s + 1 + k) → Precedes log e f
touch_chain log zero e f v s good he hf a b =
    AtOnce he hf (inr (inl (v, s, a, b ∙ ap (λ (r : ℕ). Access v r) (let q : s + 1 + 0 ≡ s + 1 = omega arith in q))))
touch_chain log (suc k) e f v s good he hf a b =
    let top : (1 ≤ s + 1 + suc k) × (s + 1 + suc k ≤ places v log) = place_within log f v (s + 1 + suc k) good hf b in
    let g : (g : Entry) × IsIn g log × (g.what ≡ Access v (s + 1)) =
    touch_there log v (s + 1) good (omega arith) (omega arith) in
    let same : s + 1 + suc k ≡ s + 1 + 1 + k = omega arith in
    Through he (inr (inl (v, s, a, g.2)))
    (touch_chain log k g.0 f v (s + 1) good g.1 hf g.2 (b ∙ ap (λ (r : ℕ). Access v r) same))

-- The entries of a thread are a chain.
pub thread_chain : (log : List Entry) (k : ℕ) (e f : Entry) → IsLog log → IsIn e log → IsIn f log → e.thread ≡ f.thread
    → f.number ≡ e.number + 1 + k → Precedes log e f
thread_chain log zero e f good he hf a b = AtOnce he hf (inl (a, omega arith))
thread_chain log (suc k) e f good he hf a b =
    let top : (1 ≤ f.number) × (f.number ≤ entries f.thread log) = number_within log f good hf in
    let g : (g : Entry) × IsIn g log × (g.thread ≡ f.thread) × (g.number ≡ e.number + 1) =
    entry_there log f.thread (e.number + 1) good (omega arith) (omega arith) in
    Through he (inl (a ∙ sym g.2, g.3)) (thread_chain log k g.0 f good g.1 hf g.2 (omega arith))

-- Of two touches of one variable, the one at the lesser place precedes the other.
pub touch_by_place : (log : List Entry) (e f : Entry) (v s r : ℕ) → IsLog log → IsIn e log → IsIn f log
    → e.what ≡ Access v s → f.what ≡ Access v r → s < r → Precedes log e f
touch_by_place log e f v s r good he hf a b h =
    touch_chain log (r - s - 1) e f v s good he hf a
    (b ∙ ap (λ (q : ℕ). Access v q) (let z : r ≡ s + 1 + (r - s - 1) = omega arith in z))

-- Of two entries of one thread, the one with the lesser number precedes the other.
pub thread_by_number : (log : List Entry) (e f : Entry) → IsLog log → IsIn e log → IsIn f log → e.thread ≡ f.thread
    → e.number < f.number → Precedes log e f
thread_by_number log e f good he hf t n = thread_chain log (f.number - e.number - 1) e f good he hf t (omega arith)

-- Precedes is transitive.
pub precedes_trans : (log : List Entry) (e g f : Entry) → Precedes log e g → Precedes log g f → Precedes log e f
precedes_trans log e g f (AtOnce i j n) q = Through i n q
precedes_trans log e g f (Through {g = k} i n r) q = Through i n (precedes_trans log k g f r q)

-- what precedes is in the log
pub precedes_in : (log : List Entry) (e f : Entry) → Precedes log e f → IsIn e log
precedes_in log e f (AtOnce i j n) = i
precedes_in log e f (Through i n p) = i

-- A closed set has all that precedes a member.
pub closed_down : (log set : List Entry) (e f : Entry) → IsClosed log set → Precedes log e f → IsIn f set → IsIn e set
closed_down log set e f closed (AtOnce he hf n) h = closed e f he h n
closed_down log set e f closed (Through {g = g} he n p) h = closed e g he (closed_down log set g f closed p h) n

-- A closed set that has an entry has the entries of its thread with lesser numbers.
pub closed_thread : (log set : List Entry) (e f : Entry) → IsLog log → IsClosed log set → IsIn e log → IsIn f log
    → IsIn f set → e.thread ≡ f.thread → e.number < f.number → IsIn e set
closed_thread log set e f good closed he hf h t n =
    closed_down log set e f closed (thread_by_number log e f good he hf t n) h

-- A touch precedes the reads of its variable that stand after this number of touches or more.
pub touch_then_read : (log : List Entry) (e f : Entry) (v s r : ℕ) → IsLog log → IsIn e log → IsIn f log
    → e.what ≡ Access v s → f.what ≡ Read v r → s ≤ r → Precedes log e f
touch_then_read log e f v s r good he hf a b n =
    go (touch_there log v r good (omega (arith, n, w)) (read_within log f v r good hf b)) (is_or s r)
  where
    w : (1 ≤ s) × (s ≤ places v log)
    w = place_within log e v s good he a

    go : (g : Entry) × IsIn g log × (g.what ≡ Access v r) → (s ≡ r) ⊎ (s ≢ r) → Precedes log e f
    go g (inl k) = AtOnce he hf (inr (inr (inl (v, r, a ∙ ap (λ (q : ℕ). Access v q) k, b))))
    go g (inr k) =
        precedes_trans log e g.0 f
        (touch_chain log (r - s - 1) e g.0 v s good he g.1 a
        (g.2 ∙ ap (λ (q : ℕ). Access v q) (let z : r ≡ s + 1 + (r - s - 1) = omega arith in z)))
        (AtOnce g.1 hf (inr (inr (inl (v, r, g.2, b)))))

-- A read precedes the touches of its variable at the places past it.
pub read_then_touch : (log : List Entry) (e f : Entry) (v s r : ℕ) → IsLog log → IsIn e log → IsIn f log
    → e.what ≡ Access v s → f.what ≡ Read v r → r < s → Precedes log f e
read_then_touch log e f v s r good he hf a b n =
    go (touch_there log v (r + 1) good (omega arith) (omega (arith, n, w))) (is_or s (r + 1))
  where
    w : (1 ≤ s) × (s ≤ places v log)
    w = place_within log e v s good he a

    go : (g : Entry) × IsIn g log × (g.what ≡ Access v (r + 1)) → (s ≡ r + 1) ⊎ (s ≢ r + 1) → Precedes log f e
    go g (inl k) = AtOnce hf he (inr (inr (inr (v, r, b, a ∙ ap (λ (q : ℕ). Access v q) k))))
    go g (inr k) =
        Through hf (inr (inr (inr (v, r, b, g.2)))) (touch_chain log (s - (r + 1) - 1) g.0 e v (r + 1) good g.1 he g.2
        (a ∙ ap (λ (q : ℕ). Access v q) (let z : s ≡ r + 1 + 1 + (s - (r + 1) - 1) = omega arith in z)))

-- A touch and a read of one variable are in order.
pub touch_and_read : (log : List Entry) (e f : Entry) (v s r : ℕ) → IsLog log → IsIn e log → IsIn f log
    → e.what ≡ Access v s → f.what ≡ Read v r → Precedes log e f ⊎ Precedes log f e
touch_and_read log e f v s r good he hf a b = go (cases_lt r s)
  where
    go : (r < s) ⊎ (s ≤ r) → Precedes log e f ⊎ Precedes log f e
    go (inl n) = inr (read_then_touch log e f v s r good he hf a b n)
    go (inr n) = inl (touch_then_read log e f v s r good he hf a b n)

-- two touches that are one, and two reads

pub touch_only : (v s w r : ℕ) → Access v s ≡ Access w r → (v ≡ w) × (s ≡ r)
touch_only v s w r e = (cc, cc)

pub read_only : (v s w r : ℕ) → Read v s ≡ Read w r → (v ≡ w) × (s ≡ r)
read_only v s w r e = (cc, cc)
