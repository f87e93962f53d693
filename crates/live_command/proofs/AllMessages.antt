-- The messages of a past, one more at a time.
use Rattle.std.proofs.Common.{◌≡◌, ℕ, ◌+◌, List, [], ◌∷◌, ◌++◌, refl, sym, ap, ◌∙◌, append-nil, append_assoc, subst}
use Rattle.std.proofs.Common.{zero, suc, arith, add-one}
use Rattle.plain_text.specs.declared.kind.Kind.{Kind}
use Rattle.plain_text.specs.declared.kind.Kind.TheVariants as kind
use Rattle.recovery_world.specs.Events.{count_of, ended_now}
use Rattle.recovery_world.specs.Many.{Message, all_messages, numbered, of_threads}
use Rattle.recovery_world.specs.World.{Setting, World}

numbered_suc : (k : Kind) (t n many : ℕ)
    → numbered k t n (suc many) ≡ numbered k t n many ++ (record { kind = k; thread = t; number = n + many }) ∷ []
numbered_suc k t n zero = let e : n + zero ≡ n = omega arith in rw e refl
numbered_suc k t n (suc many) =
    let e : n + 1 + many ≡ n + suc many = omega arith in
    ap (λ l. (record { kind = k; thread = t; number = n }) ∷ l) (subst (λ (i : ℕ).
    numbered k t (n + 1) (suc many) ≡ numbered k t (n + 1) many ++ (record { kind = k; thread = t; number = i }) ∷ []) e
    (numbered_suc k t (n + 1) many))

threads_suc : (k : Kind) (count : ℕ → ℕ) (t many : ℕ)
    → of_threads k count t (suc many) ≡ of_threads k count t many ++ numbered k (t + many) 1 (count (t + many))
threads_suc k count t zero =
    let e : t + zero ≡ t = omega arith in rw e (append-nil (numbered k t 1 (count t)))
threads_suc k count t (suc many) =
    let e : t + 1 + many ≡ t + suc many = omega arith in
    ap (λ l. numbered k t 1 (count t) ++ l)
    (subst (λ (u : ℕ). of_threads k count (t + 1) (suc many)
    ≡ of_threads k count (t + 1) many ++ numbered k u 1 (count u)) e (threads_suc k count (t + 1) many))
    ∙ sym (append_assoc (numbered k t 1 (count t)) (of_threads k count (t + 1) many)
    (numbered k (t + suc many) 1 (count (t + suc many))))

-- one more message of a thread is behind the others
pub numbered_more : (k : Kind) (t many number : ℕ) (old items : List Message) → number ≡ many + 1
    → items ≡ old ++ numbered k t 1 many
    → items ++ (record { kind = k; thread = t; number = number }) ∷ [] ≡ old ++ numbered k t 1 (many + 1)
numbered_more k t many number old items number_is items_are =
    let e : number ≡ 1 + many = omega (arith, number_is) in
    rw (items_are, e) (append_assoc old (numbered k t 1 many)
    ((record { kind = k; thread = t; number = 1 + many }) ∷ [])
    ∙ ap (λ l. old ++ l) (sym (numbered_suc k t 1 many) ∙ ap (numbered k t 1) (sym (add-one many))))

-- those of one more thread are
pub threads_more : (k : Kind) (count : ℕ → ℕ) (many number : ℕ) (old items more : List Message)
    → number ≡ count many → items ≡ old ++ of_threads k count 0 many → more ≡ items ++ numbered k many 1 number
    → more ≡ old ++ of_threads k count 0 (many + 1)
threads_more k count many number old items more number_is items_are more_are =
    let e : 0 + many ≡ many = omega arith in
    let next =
    subst (λ (t : ℕ). of_threads k count 0 (suc many) ≡ of_threads k count 0 many ++ numbered k t 1 (count t)) e
    (threads_suc k count 0 many) in
    more_are
    ∙ rw (items_are, number_is) (append_assoc old (of_threads k count 0 many) (numbered k many 1 (count many))
    ∙ ap (λ l. old ++ l) (sym next ∙ ap (of_threads k count 0) (sym (add-one many))))

-- all entries, and then all outputs
pub messages_all : {V : Type 0} (s : Setting V) (w : World V) (threads : ℕ) (none items all : List Message)
    → threads ≡ s.threads → none ≡ []
    → items ≡ none ++ of_threads kind.Log (count_of kind.Log (ended_now w)) 0 threads
    → all ≡ items ++ of_threads kind.Out (count_of kind.Out (ended_now w)) 0 threads → all ≡ all_messages s w
messages_all s w threads none items all threads_are none_is items_are all_are =
    all_are ∙ rw (items_are, none_is, threads_are) refl
