-- The places of released outputs, behind one output more.
use Rattle.std.proofs.Common.{◌≡◌, ◌≢◌, ◌⊎◌, inl, inr, ℕ, zero, suc, ◌+◌, ◌<◌, ◌≤◌, List, [], ◌∷◌, ◌++◌, length, refl}
use Rattle.std.proofs.Common.{sym}
use Rattle.std.proofs.Common.{ap, ◌∙◌, subst, arith, cond, Bool, true, false, get_or, set, replicate, take, ◌&&◌}
use Rattle.std.proofs.Common.{Result, Ok, Err}
use Rattle.std.proofs.Common.{length-set}
use Rattle.std.specs.Prelude.{⊤, OnOk, nat_eq, slice_set}
use Rattle.std.proofs.lemmas.Bool.Decides.{nat_tests}
use Rattle.std.proofs.lemmas.List.{get_or-set_same, get_or-set_other, take_more, take_all}
use Rattle.entry_order.proofs.Order.{is_or}
use Rattle.noted_runs.specs.Fates.{place_behind}
use Rattle.noted_runs.specs.Places.{HasPlaces, IsNoted}
use Rattle.noted_runs.proofs.Noted.{empty_here, empty_long}

-- a place that was found stays
place_stays : (b t j : ℕ) (names : List (ℕ × ℕ)) (name : ℕ × ℕ) → place_behind b t j names ≢ 0
    → place_behind b t j (names ++ name ∷ []) ≡ place_behind b t j names
place_stays b t j [] name ne = absurd (ne refl)
place_stays b t j (n ∷ names) name ne =
    go (nat_eq n.0 t && nat_eq n.1 j) ne (λ ne. place_stays (b + 1) t j names name ne)
  where
    go : (x : Bool) → cond x (b + 1) (place_behind (b + 1) t j names) ≢ 0
        → (place_behind (b + 1) t j names ≢ 0
        → place_behind (b + 1) t j (names ++ name ∷ []) ≡ place_behind (b + 1) t j names)
        → cond x (b + 1) (place_behind (b + 1) t j (names ++ name ∷ []))
        ≡ cond x (b + 1) (place_behind (b + 1) t j names)
    go true ne rest = refl
    go false ne rest = rest ne

place_hit : (b t j : ℕ) (names : List (ℕ × ℕ)) (name : ℕ × ℕ) → (nat_eq name.0 t && nat_eq name.1 j) ≡ true
    → place_behind b t j names ≡ 0 → place_behind b t j (names ++ name ∷ []) ≡ b + length names + 1
place_hit b t j [] name is none =
    ap (λ (x : Bool). cond x (b + 1) (place_behind (b + 1) t j [])) is ∙ omega arith
place_hit b t j (n ∷ names) name is none =
    go (nat_eq n.0 t && nat_eq n.1 j) none (λ none. place_hit (b + 1) t j names name is none)
  where
    go : (x : Bool) → cond x (b + 1) (place_behind (b + 1) t j names) ≡ 0
        → (place_behind (b + 1) t j names ≡ 0
        → place_behind (b + 1) t j (names ++ name ∷ []) ≡ b + 1 + length names + 1)
        → cond x (b + 1) (place_behind (b + 1) t j (names ++ name ∷ [])) ≡ b + length (n ∷ names) + 1
    go true none rest = absurd (omega arith)
    go false none rest = rest none ∙ omega arith

place_miss : (b t j : ℕ) (names : List (ℕ × ℕ)) (name : ℕ × ℕ) → (nat_eq name.0 t && nat_eq name.1 j) ≡ false
    → place_behind b t j (names ++ name ∷ []) ≡ place_behind b t j names
place_miss b t j [] name is = ap (λ (x : Bool). cond x (b + 1) (place_behind (b + 1) t j [])) is
place_miss b t j (n ∷ names) name is =
    ap (λ (k : ℕ). cond (nat_eq n.0 t && nat_eq n.1 j) (b + 1) k) (place_miss (b + 1) t j names name is)

no_and : (x y : Bool) → y ≡ false → (x && y) ≡ false
no_and true y e = e
no_and false y e = refl

pub none_placed : (threads : ℕ) (lists : List (List ℕ)) → lists ≡ replicate threads [] → HasPlaces threads [] lists
none_placed threads lists e =
    subst (HasPlaces threads []) (sym e) (record {
      count = empty_long ℕ threads;
      each = λ t j low. ap (λ (l : List ℕ). get_or l j 0) (empty_here ℕ threads t);
    })

module _ (threads : ℕ) (names : List (ℕ × ℕ)) (name : ℕ × ℕ) (lists : List (List ℕ))
    (h : HasPlaces threads names lists) where
  -- a name of another thread
  other : (t j : ℕ) → t < threads → name.0 ≢ t
      → get_or (get_or lists t []) j 0 ≡ place_behind 0 t j (names ++ name ∷ [])
  other t j low ne =
      let no : nat_eq name.0 t ≡ false = grind (arith, nat_tests, ne) in
      h.each t j low
      ∙ sym (place_miss 0 t j names name (ap (λ (x : Bool). x && nat_eq name.1 j) no))

  pub no_thread : length lists ≤ name.0 → HasPlaces threads (names ++ name ∷ []) lists
  no_thread high = record {
    count = h.count;
    each = λ t j low. other t j low (λ e. let c = h.count in absurd (omega (arith, c, e, low, high)));
  }

  module _ (place : ℕ) (list : List ℕ) (is : place ≡ length names + 1) (below : name.0 < length lists)
      (noted : IsNoted name.1 place (get_or lists name.0 []) list) where
    abbrev old : ℕ → ℕ
    old j = get_or (get_or lists name.0 []) j 0

    under : name.0 < threads
    under = let c = h.count in omega (arith, c, below)

    mine : (j : ℕ) → (name.1 ≡ j) ⊎ (name.1 ≢ j) → (old j ≡ 0) ⊎ (old j ≢ 0)
        → get_or list j 0 ≡ place_behind 0 name.0 j (names ++ name ∷ [])
    mine j (inl e) (inl z) =
        let this : nat_eq name.1 j ≡ true = grind (arith, nat_tests, e) in
        let self : nat_eq name.0 name.0 ≡ true = grind (arith, nat_tests) in
        let none : nat_eq (old j) 0 ≡ true = grind (arith, nat_tests, z) in
        noted j
        ∙ (ap (λ (x : Bool). cond (x && nat_eq (old j) 0) place (old j)) this
        ∙ (ap (λ (x : Bool). cond x place (old j)) none
        ∙ (is ∙ sym (place_hit 0 name.0 j names name
        (ap (λ (x : Bool). x && nat_eq name.1 j) self ∙ this) (sym (h.each name.0 j under) ∙ z)
        ∙ omega arith))))
    mine j (inl e) (inr ne) =
        let some : nat_eq (old j) 0 ≡ false = grind (arith, nat_tests, ne) in
        noted j
        ∙ (ap (λ (x : Bool). cond x place (old j)) (no_and (nat_eq name.1 j) (nat_eq (old j) 0) some)
        ∙ (h.each name.0 j under
        ∙ sym (place_stays 0 name.0 j names name (λ q. ne (h.each name.0 j under ∙ q)))))
    mine j (inr ne) any =
        let miss : nat_eq name.1 j ≡ false = grind (arith, nat_tests, ne) in
        noted j
        ∙ (ap (λ (x : Bool). cond (x && nat_eq (old j) 0) place (old j)) miss
        ∙ (h.each name.0 j under
        ∙ sym (place_miss 0 name.0 j names name (no_and (nat_eq name.0 name.0) (nat_eq name.1 j) miss))))

    pub placed : HasPlaces threads (names ++ name ∷ []) (slice_set lists name.0 list)
    placed = record { count = simp length-set h.count; each = λ t j low. at t j low (is_or name.0 t) }
      where
        at : (t j : ℕ) → t < threads → (name.0 ≡ t) ⊎ (name.0 ≢ t)
            → get_or (get_or (set lists name.0 list) t []) j 0 ≡ place_behind 0 t j (names ++ name ∷ [])
        at t j low (inl e) =
            subst (λ (u : ℕ).
            get_or (get_or (set lists name.0 list) u []) j 0 ≡ place_behind 0 u j (names ++ name ∷ [])) e
            (ap (λ (l : List ℕ). get_or l j 0) (get_or-set_same lists name.0 list [] below)
            ∙ mine j (is_or name.1 j) (is_or (old j) 0))
        at t j low (inr ne) =
            ap (λ (l : List ℕ). get_or l j 0) (get_or-set_other lists name.0 t list [] (λ q. ne (sym q)))
            ∙ other t j low ne

any_list : (lists : List (List ℕ)) (i : ℕ) (d e : List ℕ) → i < length lists → get_or lists i d ≡ get_or lists i e
any_list [] i d e low = absurd (omega arith)
any_list (l ∷ lists) zero d e low = refl
any_list (l ∷ lists) (suc i) d e low = any_list lists i d e (omega arith)

-- a name was noted, or memory ran out
pub noted_name : {E : Type 0} (r : Result ⊤ E) (lists : List (List ℕ)) (name : ℕ × ℕ) (place : ℕ) (old list : List ℕ)
    → name.0 < length lists → old ≡ get_or lists name.0 old → OnOk r (IsNoted name.1 place old list)
    → OnOk r ((threads : ℕ) (names : List (ℕ × ℕ)) → place ≡ length names + 1 → HasPlaces threads names lists
    → HasPlaces threads (names ++ name ∷ []) (slice_set lists name.0 list))
noted_name (Ok done) lists name place old list below was noted = λ threads names is h.
    placed threads names name lists h place list is below
    (subst (λ (l : List ℕ). IsNoted name.1 place l list) (was ∙ any_list lists name.0 old [] below) noted)
noted_name (Err error) lists name place old list below was noted = tt

-- the places of the first names, and of all
pub placed_on : (threads i : ℕ) (names : List (ℕ × ℕ)) (name d : ℕ × ℕ) (lists : List (List ℕ)) → i < length names
    → name ≡ get_or names i d → HasPlaces threads (take i names ++ name ∷ []) lists
    → HasPlaces threads (take (i + 1) names) lists
placed_on threads i names name d lists low is h =
    subst (λ (l : List (ℕ × ℕ)). HasPlaces threads l lists)
    (sym (take_more names i d low ∙ ap (λ (x : ℕ × ℕ). take i names ++ x ∷ []) (sym is))) h

pub placed_all : (threads i : ℕ) (names : List (ℕ × ℕ)) (lists : List (List ℕ)) → length names ≤ i
    → HasPlaces threads (take i names) lists → HasPlaces threads names lists
placed_all threads i names lists all h =
    subst (λ (l : List (ℕ × ℕ)). HasPlaces threads l lists) (take_all i names all) h
