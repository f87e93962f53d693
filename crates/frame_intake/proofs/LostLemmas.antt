-- Keys of lost frames in a set.
use Rattle.std.proofs.Common.{◌≡◌, ◌≢◌, ℕ, ◌↔◌, true, false, cond, List, [], ◌∷◌, reverse, take, get_or}
use Rattle.std.proofs.Common.{◌+◌, ◌<◌, length, Less, refl, sym, ap, ◌∙◌, subst, inl, inr, ⊎_elim, arith}
use Rattle.std.specs.declared.cmp.Ordering.{Ordering}
use Rattle.std.specs.declared.cmp.Ordering.TheVariants.{Equal, Greater}
use Rattle.std.specs.Ordering.{nat_cmp, ordering_then, is_eq}
use Rattle.std.specs.List.{list_any}
use Rattle.std.specs.BTreeMap.{is_at}
use Rattle.std.proofs.lemmas.Bool.{cases_eq}
use Rattle.std.proofs.lemmas.Bool.Decides.{nat_tests}
use Rattle.std.proofs.lemmas.Grind.{common_steps}
use Rattle.std.proofs.lemmas.List.{reverse-append, take_more}
use Rattle.plain_text.specs.declared.kind.Kind.{Kind}
use Rattle.plain_text.specs.declared.kind.Kind.TheVariants as kind
use Rattle.recovery_world.specs.Many.{Message}
use Rattle.plan_script.specs.Orders.{IsLost}
use Rattle.frame_intake.specs.Lost.{code, key_of, key_cmp, HaveLost}

abbrev Key : Type 0
Key = ℕ × ℕ × ℕ

nat_same : (a : ℕ) → nat_cmp a a ≡ Equal
nat_same a = grind (arith, nat_tests)

at_apart : (a b : ℕ) → b ≢ a → is_at (nat_cmp a) b ≡ false
at_apart a b h = grind (arith, common_steps, nat_tests)

at_equal : (a b : ℕ) → is_at (nat_cmp a) b ≡ true → a ≡ b
at_equal a b h = ⊎_elim (λ q. sym q) (λ (q : b ≢ a). let none = at_apart a b q in absurd cc) (cases_eq b a)

key_same : (k : Key) → is_at (key_cmp k) k ≡ true
key_same k = rw (nat_same k.0, nat_same k.1, nat_same k.2) refl

then_equal : (o p : Ordering) → is_eq (ordering_then o p) ≡ true → (is_eq o ≡ true) × (is_eq p ≡ true)
then_equal Less p h = absurd cc
then_equal Equal p h = (refl, h)
then_equal Greater p h = absurd cc

key_equal : (k q : Key) → is_at (key_cmp k) q ≡ true → (k.0 ≡ q.0) × (k.1 ≡ q.1) × (k.2 ≡ q.2)
key_equal k q h =
    let last = then_equal (ordering_then (nat_cmp k.0 q.0) (nat_cmp k.1 q.1)) (nat_cmp k.2 q.2) h in
    let first = then_equal (nat_cmp k.0 q.0) (nat_cmp k.1 q.1) last.0 in
    (at_equal k.0 q.0 first.0, at_equal k.1 q.1 first.1, at_equal k.2 q.2 last.1)

code_equal : (j k : Kind) → code j ≡ code k → j ≡ k
code_equal kind.Log kind.Log h = refl
code_equal kind.Log kind.Out h = absurd (omega arith)
code_equal kind.Out kind.Log h = absurd (omega arith)
code_equal kind.Out kind.Out h = refl

frame_equal : (x f : Message) → is_at (key_cmp (key_of x)) (key_of f) ≡ true → x ≡ f
frame_equal x f h =
    let same = key_equal (key_of x) (key_of f) h in
    let kinds = code_equal x.kind f.kind same.0 in
    λ i. record { kind = kinds i; thread = same.1 i; number = same.2 i }

pub none_lost : HaveLost [] []
none_lost f = ((λ h. absurd cc), λ h. absurd h)

-- one more is lost
pub one_lost : (old new : List Key) (lost : List Message) (x : Message)
    → ((q : Key)
    → list_any (is_at (key_cmp q)) new
    ≡ cond (is_at (key_cmp (key_of x)) q) true (list_any (is_at (key_cmp q)) old))
    → HaveLost old lost → HaveLost new (x ∷ lost)
one_lost old new lost x updates were f =
    let there = updates (key_of f) in
    let was = were f in
    let q = key_of f in
    elim (is_at (key_cmp (key_of x)) q) as
    (λ b.
    is_at (key_cmp (key_of x)) q ≡ b
    → list_any (is_at (key_cmp q)) new ≡ cond b true (list_any (is_at (key_cmp q)) old)
    → (list_any (is_at (key_cmp q)) new ≡ true) ↔ IsLost f (x ∷ lost)) [
      | true ↦ λ e is. ((λ h. inl (frame_equal x f e)), λ h. is)
      | false ↦ λ e is. (
        (λ h. inr (was.0 (sym is ∙ h))),
        λ h. ⊎_elim (λ (same : x ≡ f).
            let at : is_at (key_cmp (key_of x)) (key_of f) ≡ true =
            subst (λ (y : Message). is_at (key_cmp (key_of x)) (key_of y) ≡ true) same (key_same (key_of x)) in
            absurd cc) (λ (before : IsLost f lost). is ∙ was.1 before) h,
      )
    ] refl there

-- the lost frames so far, and one more
pub lost_turn : (old new : List Key) (all : List Message) (i : ℕ) (x : Message)
    → ((q : Key)
    → list_any (is_at (key_cmp q)) new ≡ cond (is_at (key_cmp (key_of x)) q) true (list_any (is_at (key_cmp q)) old))
    → i < length all → x ≡ get_or all i x → HaveLost old (reverse (take i all))
    → HaveLost new (reverse (take (i + 1) all))
lost_turn old new all i x updates inside at were =
    let more : reverse (take (i + 1) all) ≡ x ∷ reverse (take i all) =
    ap reverse (take_more all i x inside)
    ∙ reverse-append (take i all) (get_or all i x ∷ [])
    ∙ ap (λ (y : Message). y ∷ reverse (take i all)) (sym at) in
    subst (HaveLost new) (sym more) (one_lost old new (reverse (take i all)) x updates were)
