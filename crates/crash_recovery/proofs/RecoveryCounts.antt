-- What a recovery counts: what each thread did until then, and how many entries are kept and dropped.
use Rattle.std.proofs.Common.{◌≡◌, ℕ, suc, ◌+◌, ◌<◌, ◌≤◌, List, [], ◌∷◌, ◌++◌, length, length-append, map, take, refl}
use Rattle.std.proofs.Common.{sym, ap, ◌∙◌, subst, inl, inr, ◌⊎◌, arith}
use Rattle.std.specs.Prelude.{◌↔◌, HoldsAt, Some, None}
use Rattle.std.proofs.lemmas.List.{map_more}
use Rattle.entry_order.specs.Log.{Entry, IsIn}
use Rattle.entry_order.specs.Stamps.{IsCount}
use Rattle.entry_order.proofs.ClosedParts.{in_or}
use Rattle.entry_order.proofs.KeptEntries.{in_left, in_right, in_either}
use Rattle.access_log.specs.declared.entry.StampedEntry.{StampedEntry}
use Rattle.access_log.specs.Held.{Lane, lane, entry_at}
use Rattle.access_log.specs.Members.{IsMember, IsDropped, IsListed, AreApart, IsNumberOf}
use Rattle.master_core.specs.declared.parts.Counts.{Counts}
use Rattle.master_core.specs.declared.parts.ThreadPart.{ThreadPart}
use Rattle.master_core.specs.Holding.{held_entries, HoldsOf}
use Rattle.master_core.specs.Stepping.{plain_entry}
use Rattle.master_core.proofs.HeldEntries.{held_named, at_held}
use Rattle.recovery_laws.specs.Sound.{IsEachOnce}

-- the counts of one more thread
pub counts_more : (parts : List ThreadPart) (t : ℕ) (counts : List Counts) (one : Counts) → t < length parts
    → counts ≡ map (λ (p : ThreadPart). p.counts) (take t parts) → HoldsAt (λ (p : ThreadPart). one ≡ p.counts) parts t
    → counts ++ one ∷ [] ≡ map (λ (p : ThreadPart). p.counts) (take (t + 1) parts)
counts_more parts t counts one low is at =
    ap (λ (l : List Counts). l ++ one ∷ []) is
    ∙ (ap (λ (k : Counts). map (λ (p : ThreadPart). p.counts) (take t parts) ++ k ∷ []) (at blank)
    ∙ sym (map_more (λ (p : ThreadPart). p.counts) parts t blank low))
  where
    blank : ThreadPart
    blank = record { counts = one; hand = None; stamp = [] }

-- Lists with no entry twice

-- a list with the entry, and the others of it
split : (x : Entry) (b : List Entry) → IsIn x b → (pre post : List Entry) × (b ≡ pre ++ x ∷ post)
split x [] i = absurd i
split x (y ∷ b) (inl is) = ([], b, ap (λ (z : Entry). z ∷ b) is)
split x (y ∷ b) (inr i) = let r = split x b i in (y ∷ r.0, r.1, ap (λ (l : List Entry). y ∷ l) r.2)

long_split : (x : Entry) (pre post : List Entry) → length (pre ++ x ∷ post) ≡ length (pre ++ post) + 1
long_split x pre post =
    let a : length (pre ++ x ∷ post) ≡ length pre + length (x ∷ post) = length-append pre (x ∷ post) in
    let b : length (pre ++ post) ≡ length pre + length post = length-append pre post in
    omega (arith, a, b)

in_split : (x e : Entry) (pre post : List Entry) → IsIn e (pre ++ x ∷ post) → (x ≡ e) ⊎ IsIn e (pre ++ post)
in_split x e [] post (inl is) = inl is
in_split x e [] post (inr i) = inr i
in_split x e (y ∷ pre) post (inl is) = inr (inl is)
in_split x e (y ∷ pre) post (inr i) = go (in_split x e pre post i)
  where
    go : (x ≡ e) ⊎ IsIn e (pre ++ post) → (x ≡ e) ⊎ IsIn e (y ∷ (pre ++ post))
    go (inl is) = inl is
    go (inr k) = inr (inr k)

split_in : (x e : Entry) (pre post : List Entry) → IsIn e (pre ++ post) → IsIn e (pre ++ x ∷ post)
split_in x e [] post i = inr i
split_in x e (y ∷ pre) post (inl is) = inl is
split_in x e (y ∷ pre) post (inr i) = inr (split_in x e pre post i)

split_once : (x : Entry) (pre post : List Entry) → IsEachOnce (pre ++ x ∷ post)
    → IsEachOnce (pre ++ post) × (IsIn x (pre ++ post) → ⊥)
split_once x [] post h = (h.1, h.0)
split_once x (y ∷ pre) post h =
    let r = split_once x pre post h.1 in
    ((λ i. h.0 (split_in x y pre post i), r.0), λ i. go i r.1)
  where
    mid : IsIn x (pre ++ x ∷ post)
    mid = in_right x pre (x ∷ post) (inl refl)

    go : IsIn x (y ∷ (pre ++ post)) → (IsIn x (pre ++ post) → ⊥) → ⊥
    go (inl is) none = h.0 (subst (λ (z : Entry). IsIn z (pre ++ x ∷ post)) (sym is) mid)
    go (inr i) none = none i

-- no more than a list that has them all
within_long : (a b : List Entry) → IsEachOnce a → ((e : Entry) → IsIn e a → IsIn e b) → length a ≤ length b
within_long [] b once sub = omega arith
within_long (x ∷ a) b once sub =
    let r = split x b (sub x (inl refl)) in
    let rest : length a ≤ length (r.0 ++ r.1) = within_long a (r.0 ++ r.1) once.1
    (λ e i. other e i r.0 r.1 (in_split x e r.0 r.1 (subst (λ (l : List Entry). IsIn e l) r.2 (sub e (inr i))))) in
    let one = long_split x r.0 r.1 in
    let all : length b ≡ length (r.0 ++ x ∷ r.1) = ap (λ (l : List Entry). length l) r.2 in
    omega (arith, rest, one, all)
  where
    other : (e : Entry) → IsIn e a → (pre post : List Entry) → (x ≡ e) ⊎ IsIn e (pre ++ post) → IsIn e (pre ++ post)
    other e i pre post (inl is) = absurd (once.0 (subst (λ (z : Entry). IsIn z a) (sym is) i))
    other e i pre post (inr k) = k

-- lists of the same entries are as long
same_long : (a b : List Entry) → IsEachOnce a → IsEachOnce b → ((e : Entry) → IsIn e a → IsIn e b)
    → ((e : Entry) → IsIn e b → IsIn e a) → length a ≡ length b
same_long a b once other to back =
    let p = within_long a b once to in let q = within_long b a other back in omega (arith, p, q)

both_once : (a b : List Entry) → IsEachOnce a → IsEachOnce b → ((e : Entry) → IsIn e a → IsIn e b → ⊥)
    → IsEachOnce (a ++ b)
both_once [] b once other apart = other
both_once (x ∷ a) b once other apart =
    (λ i. go (in_either x a b i), both_once a b once.1 other (λ e i k. apart e (inr i) k))
  where
    go : IsIn x a ⊎ IsIn x b → ⊥
    go (inl i) = once.0 i
    go (inr i) = apart x (inl refl) i

-- two lists that share one
pub parts_long : (all a b : List Entry) → IsEachOnce all → IsEachOnce a → IsEachOnce b
    → ((e : Entry) → IsIn e all ↔ (IsIn e a ⊎ IsIn e b)) → ((e : Entry) → IsIn e a → IsIn e b → ⊥)
    → length all ≡ length a + length b
parts_long all a b once p q same apart =
    same_long all (a ++ b) once (both_once a b p q apart) (λ e i. to e ((same e).0 i))
    (λ e i. (same e).1 (in_either e a b i))
    ∙ length-append a b
  where
    to : (e : Entry) → IsIn e a ⊎ IsIn e b → IsIn e (a ++ b)
    to e (inl i) = in_left e a b i
    to e (inr i) = in_right e a b i

-- the members with a property, counted
pub count_of_members : (P : Entry → Type 0) (all some : List Entry) → IsEachOnce all → IsEachOnce some
    → ((e : Entry) → IsIn e some ↔ (IsIn e all × P e)) → IsCount P all (length some)
count_of_members P [] [] once other same = refl
count_of_members P [] (y ∷ some) once other same = absurd ((same y).0 (inl refl)).0
count_of_members P (x ∷ all) some once other same =
    go (in_or x some) (λ rest a b. count_of_members P all rest once.1 a b)
  where
    drop_first : (e : Entry) → IsIn e (x ∷ all) → (x ≡ e → ⊥) → IsIn e all
    drop_first e (inl is) not = absurd (not is)
    drop_first e (inr i) not = i

    go : IsIn x some ⊎ (IsIn x some → ⊥)
        → ((rest : List Entry) → IsEachOnce rest → ((e : Entry) → IsIn e rest ↔ (IsIn e all × P e))
        → IsCount P all (length rest)) → IsCount P (x ∷ all) (length some)
    go (inl i) more =
        let r = split x some i in
        let o = split_once x r.0 r.1 (subst (λ (l : List Entry). IsEachOnce l) r.2 other) in
        let long : length some ≡ length (r.0 ++ r.1) + 1 =
        ap (λ (l : List Entry). length l) r.2 ∙ long_split x r.0 r.1 in
        inl (
          ((same x).0 i).1,
          length (r.0 ++ r.1),
          long,
          more (r.0 ++ r.1) o.0 (λ e. (
            λ k.
                let there = (same e).0 (subst (λ (l : List Entry). IsIn e l) (sym r.2) (split_in x e r.0 r.1 k)) in
                (drop_first e there.0 (λ is. o.1 (subst (λ (z : Entry). IsIn z (r.0 ++ r.1)) (sym is) k)), there.1),
            λ k. other_of e k.0 r.0 r.1
                (in_split x e r.0 r.1 (subst (λ (l : List Entry). IsIn e l) r.2 ((same e).1 (inr k.0, k.1)))),
          )),
        )
      where
        other_of : (e : Entry) → IsIn e all → (pre post : List Entry) → (x ≡ e) ⊎ IsIn e (pre ++ post)
            → IsIn e (pre ++ post)
        other_of e i pre post (inl is) = absurd (once.0 (subst (λ (z : Entry). IsIn z all) (sym is) i))
        other_of e i pre post (inr k) = k
    go (inr none) more =
        inr (
          λ p. none ((same x).1 (inl refl, p)),
          more some other (λ e. (
            λ k.
                let there = (same e).0 k in
                (drop_first e there.0 (λ is. none (subst (λ (z : Entry). IsIn z some) (sym is) k)), there.1),
            λ k. (same e).1 (inr k.0, k.1),
          )),
        )

-- Stamped entries that are counted, without their stamps

abbrev plain_all : List StampedEntry → List Entry
plain_all [] = []
plain_all (x ∷ rest) = plain_entry x ∷ plain_all rest

long_plain : (xs : List StampedEntry) → length (plain_all xs) ≡ length xs
long_plain [] = refl
long_plain (x ∷ xs) = ap suc (long_plain xs)

plain_in : (xs : List StampedEntry) (e : Entry) → IsIn e (plain_all xs)
    → (s : StampedEntry) × IsListed s xs × (plain_entry s ≡ e)
plain_in [] e i = absurd i
plain_in (x ∷ xs) e (inl is) = (x, inl refl, is)
plain_in (x ∷ xs) e (inr i) = let r = plain_in xs e i in (r.0, inr r.1, r.2)

in_plain : (xs : List StampedEntry) (s : StampedEntry) → IsListed s xs → IsIn (plain_entry s) (plain_all xs)
in_plain [] s i = absurd i
in_plain (x ∷ xs) s (inl is) = inl (ap plain_entry is)
in_plain (x ∷ xs) s (inr i) = inr (in_plain xs s i)

some_one : (a b : StampedEntry) → Some a ≡ Some b → a ≡ b
some_one a b is = cc

-- members of a held set with one plain entry are one
one_member : (held : List Lane) (a b : StampedEntry) → IsMember held a → IsMember held b
    → plain_entry a ≡ plain_entry b → a ≡ b
one_member held a b p q same =
    let t : a.thread ≡ b.thread = ap (λ (e : Entry). e.thread) same in
    let n : a.number ≡ b.number = ap (λ (e : Entry). e.number) same in
    some_one a b (sym p
    ∙ (ap (λ (u : ℕ). entry_at (lane held u) a.number) t ∙ (ap (λ (u : ℕ). entry_at (lane held b.thread) u) n ∙ q)))

plain_once : (held : List Lane) (xs : List StampedEntry) → ((s : StampedEntry) → IsListed s xs → IsMember held s)
    → AreApart xs → IsEachOnce (plain_all xs)
plain_once held [] of apart = tt
plain_once held (x ∷ xs) of apart = (
  λ i.
      let r = plain_in xs (plain_entry x) i in
      apart.0 (subst (λ (s : StampedEntry). IsListed s xs)
      (one_member held r.0 x (of r.0 (inr r.1)) (of x (inl refl)) r.2) r.1),
  plain_once held xs (λ s i. of s (inr i)) apart.1,
)

-- the entries of a held set, each once: those kept, and those dropped
pub kept_list : (log stored : List Entry) (held : List Lane) (n : ℕ) → HoldsOf log stored held
    → IsNumberOf (IsMember held) n
    → (list : List Entry) × IsEachOnce list × (length list ≡ n)
    × ((e : Entry) → IsIn e list ↔ IsIn e (held_entries held))
kept_list log stored held n holds k = (
  plain_all k.entries,
  plain_once held k.entries (λ s i. (k.each s).0 i) k.apart,
  long_plain k.entries ∙ k.long,
  λ e. (
    λ i. let r = plain_in k.entries e i in at_held held e r.0.thread r.0.number r.0 ((k.each r.0).0 r.1) r.2,
    λ i. there e (held_named log stored held e holds i),
  ),
)
  where
    there : (e : Entry) → ((s : StampedEntry) × (entry_at (lane held e.thread) e.number ≡ Some s) × (plain_entry s ≡ e))
        → IsIn e (plain_all k.entries)
    there e (s, at, is) =
        subst (λ (f : Entry). IsIn f (plain_all k.entries)) is (in_plain k.entries s ((k.each s).1 member))
      where
        member : IsMember held s
        member =
            ap (λ (u : ℕ). entry_at (lane held u) s.number) (ap (λ (f : Entry). f.thread) is)
            ∙ (ap (λ (u : ℕ). entry_at (lane held e.thread) u) (ap (λ (f : Entry). f.number) is) ∙ at)

pub dropped_list : (log stored : List Entry) (old new : List Lane) (n : ℕ) → HoldsOf log stored old
    → HoldsOf log stored new → ((s : StampedEntry) → IsMember new s → IsMember old s) → IsNumberOf (IsDropped old new) n
    → (list : List Entry) × IsEachOnce list × (length list ≡ n)
    × ((e : Entry) → IsIn e list ↔ (IsIn e (held_entries old) × (IsIn e (held_entries new) → ⊥)))
dropped_list log stored old new n holds later within k = (
  plain_all k.entries,
  plain_once old k.entries (λ s i. ((k.each s).0 i).0) k.apart,
  long_plain k.entries ∙ k.long,
  λ e. (
    λ i.
        let r = plain_in k.entries e i in
        let d = (k.each r.0).0 r.1 in
        (at_held old e r.0.thread r.0.number r.0 d.0 r.2, λ j. gone e r.0 r.2 d (held_named log stored new e later j)),
    λ i. there e (held_named log stored old e holds i.0) i.1,
  ),
)
  where
    named : (held : List Lane) (e : Entry) (s : StampedEntry) → entry_at (lane held e.thread) e.number ≡ Some s
        → plain_entry s ≡ e → IsMember held s
    named held e s at is =
        ap (λ (u : ℕ). entry_at (lane held u) s.number) (ap (λ (f : Entry). f.thread) is)
        ∙ (ap (λ (u : ℕ). entry_at (lane held e.thread) u) (ap (λ (f : Entry). f.number) is) ∙ at)

    gone : (e : Entry) (s : StampedEntry) → plain_entry s ≡ e → IsDropped old new s
        → ((z : StampedEntry) × (entry_at (lane new e.thread) e.number ≡ Some z) × (plain_entry z ≡ e)) → ⊥
    gone e s is d (z, at, same) =
        let member = named new e z at same in
        d.1 (subst (λ (q : StampedEntry). IsMember new q)
        (one_member old z s (within z member) d.0 (same ∙ sym is)) member)

    there : (e : Entry) → ((s : StampedEntry) × (entry_at (lane old e.thread) e.number ≡ Some s) × (plain_entry s ≡ e))
        → (IsIn e (held_entries new) → ⊥) → IsIn e (plain_all k.entries)
    there e (s, at, is) none =
        subst (λ (f : Entry). IsIn f (plain_all k.entries)) is
        (in_plain k.entries s ((k.each s).1 (named old e s at is, λ m. none (at_held new e s.thread s.number s m is))))
