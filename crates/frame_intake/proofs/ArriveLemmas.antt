-- One more frame is sent, and arrives or not.
use Rattle.std.proofs.Common.{◌≡◌, ◌≢◌, ℕ, zero, suc, ◌+◌, ◌<◌, ◌≤◌, List, [], ◌∷◌, ◌++◌, length, take, get_or, set}
use Rattle.std.proofs.Common.{◌↔◌, Bool, IsTrue, cond, eqb, true, false, Option, Some, None, refl, sym, ap, ◌∙◌, subst}
use Rattle.std.proofs.Common.{inl, inr, ⊎_elim, arith}
use Rattle.std.proofs.lemmas.Bool.{cases_eq, cases_lt}
use Rattle.std.proofs.lemmas.List.{append-nil, take_all, take-append-le, length_push, length-set, get_or_past}
use Rattle.std.proofs.lemmas.List.{take_more}
use Rattle.std.proofs.lemmas.List.{get_or-set_same, get_or-set_other}
use Rattle.std.specs.List.{list_any}
use Rattle.std.specs.BTreeMap.{is_at}
use Rattle.recovery_world.specs.Many.{Message}
use Rattle.plan_script.specs.Orders.{Orders, AreLeft, IsLost, first_ones}
use Rattle.plan_script.specs.Rounds.{of_thread}
use Rattle.frame_intake.specs.Lost.{HaveLost, key_cmp, key_of}
use Rattle.frame_intake.specs.Orders.{AreSome, Arrive, TakesOneMore}
use Rattle.frame_intake.proofs.TakenLemmas.{of_thread_append, of_own, of_other}

-- what is left of frames, and one more

left_lost : (lost frames left : List Message) (f : Message) → AreLeft lost frames left → IsLost f lost
    → AreLeft lost (frames ++ f ∷ []) left
left_lost lost [] left f are is = inl (is, are)
left_lost lost (x ∷ frames) left f (inl (gone, rest)) is = inl (gone, left_lost lost frames left f rest is)
left_lost lost (x ∷ frames) left f (inr (stays, kept, parts, rest)) is =
    inr (stays, kept, parts, left_lost lost frames kept f rest is)

left_kept : (lost frames left : List Message) (f : Message) → AreLeft lost frames left → (IsLost f lost → ⊥)
    → AreLeft lost (frames ++ f ∷ []) (left ++ f ∷ [])
left_kept lost [] left f are stays = inr (stays, [], ap (λ l. l ++ f ∷ []) are, refl)
left_kept lost (x ∷ frames) left f (inl (gone, rest)) is = inl (gone, left_kept lost frames left f rest is)
left_kept lost (x ∷ frames) left f (inr (stays, kept, parts, rest)) is =
    inr (stays, kept ++ f ∷ [], ap (λ l. l ++ f ∷ []) parts, left_kept lost frames kept f rest is)

-- the first ones of frames, and of one more

first_more : (o : Option ℕ) (frames : List Message) (f : Message) → TakesOneMore o (length frames)
    → first_ones o (frames ++ f ∷ []) ≡ first_ones o frames ++ f ∷ []
first_more None frames f takes = refl
first_more (Some n) frames f takes =
    let long = length_push frames f in
    take_all n (frames ++ f ∷ []) (omega arith) ∙ ap (λ l. l ++ f ∷ []) (sym (take_all n frames (omega arith)))

first_enough : (o : Option ℕ) (frames : List Message) (f : Message) → (TakesOneMore o (length frames) → ⊥)
    → first_ones o (frames ++ f ∷ []) ≡ first_ones o frames
first_enough None frames f enough = absurd (enough tt)
first_enough (Some n) frames f enough =
    ⊎_elim (λ (less : length frames < n). absurd (enough less))
    (λ (most : n ≤ length frames). take-append-le n frames (f ∷ []) most) (cases_lt (length frames) n)

-- a thread's frames, and one more

sent_own : (t : ℕ) (sent : List Message) (f : Message) → f.thread ≡ t
    → of_thread t (sent ++ f ∷ []) ≡ of_thread t sent ++ f ∷ []
sent_own t sent f own = of_thread_append t sent (f ∷ []) ∙ ap (λ l. of_thread t sent ++ l) (of_own t f own)

sent_other : (t : ℕ) (sent : List Message) (f : Message) → f.thread ≢ t
    → of_thread t (sent ++ f ∷ []) ≡ of_thread t sent
sent_other t sent f other =
    of_thread_append t sent (f ∷ [])
    ∙ ap (λ l. of_thread t sent ++ l) (of_other t f other)
    ∙ append-nil (of_thread t sent)

-- it is lost
pub lost_one : (o : Orders) (sent arriving : List Message) (f : Message) → Arrive o sent arriving → IsLost f o.lost
    → TakesOneMore (o.frames f.thread) (length (of_thread f.thread sent)) → Arrive o (sent ++ f ∷ []) arriving
lost_one o sent arriving f are is takes t =
    ⊎_elim (λ (own : f.thread ≡ t).
    let takes_t : TakesOneMore (o.frames t) (length (of_thread t sent)) =
    subst (λ (u : ℕ). TakesOneMore (o.frames u) (length (of_thread u sent))) own takes in
    subst (λ (l : List Message). AreLeft o.lost l (of_thread t arriving))
    (sym (ap (first_ones (o.frames t)) (sent_own t sent f own) ∙ first_more (o.frames t) (of_thread t sent) f takes_t))
    (left_lost o.lost (first_ones (o.frames t) (of_thread t sent)) (of_thread t arriving) f (are t) is))
    (λ (other : f.thread ≢ t).
    subst (λ (l : List Message). AreLeft o.lost (first_ones (o.frames t) l) (of_thread t arriving))
    (sym (sent_other t sent f other)) (are t)) (cases_eq f.thread t)

-- it is not taken
pub left_out : (o : Orders) (sent arriving : List Message) (f : Message) → Arrive o sent arriving
    → (TakesOneMore (o.frames f.thread) (length (of_thread f.thread sent)) → ⊥) → Arrive o (sent ++ f ∷ []) arriving
left_out o sent arriving f are enough t =
    ⊎_elim
    (λ (own : f.thread ≡ t).
    let enough_t : TakesOneMore (o.frames t) (length (of_thread t sent)) → ⊥ =
    subst (λ (u : ℕ). TakesOneMore (o.frames u) (length (of_thread u sent)) → ⊥) own enough in
    subst (λ (l : List Message). AreLeft o.lost l (of_thread t arriving))
    (sym (ap (first_ones (o.frames t)) (sent_own t sent f own)
    ∙ first_enough (o.frames t) (of_thread t sent) f enough_t)) (are t))
    (λ (other : f.thread ≢ t).
    subst (λ (l : List Message). AreLeft o.lost (first_ones (o.frames t) l) (of_thread t arriving))
    (sym (sent_other t sent f other)) (are t)) (cases_eq f.thread t)

-- it arrives
pub one_arrives : (o : Orders) (sent arriving : List Message) (f : Message) → Arrive o sent arriving
    → (IsLost f o.lost → ⊥) → TakesOneMore (o.frames f.thread) (length (of_thread f.thread sent))
    → Arrive o (sent ++ f ∷ []) (arriving ++ f ∷ [])
one_arrives o sent arriving f are stays takes t =
    ⊎_elim (λ (own : f.thread ≡ t).
    let takes_t : TakesOneMore (o.frames t) (length (of_thread t sent)) =
    subst (λ (u : ℕ). TakesOneMore (o.frames u) (length (of_thread u sent))) own takes in
    subst (λ (l : List Message). AreLeft o.lost l (of_thread t (arriving ++ f ∷ [])))
    (sym (ap (first_ones (o.frames t)) (sent_own t sent f own) ∙ first_more (o.frames t) (of_thread t sent) f takes_t))
    (subst (λ (l : List Message). AreLeft o.lost (first_ones (o.frames t) (of_thread t sent) ++ f ∷ []) l)
    (sym (sent_own t arriving f own))
    (left_kept o.lost (first_ones (o.frames t) (of_thread t sent)) (of_thread t arriving) f (are t) stays)))
    (λ (other : f.thread ≢ t).
    subst (λ (l : List Message). AreLeft o.lost (first_ones (o.frames t) l) (of_thread t (arriving ++ f ∷ [])))
    (sym (sent_other t sent f other))
    (subst (λ (l : List Message). AreLeft o.lost (first_ones (o.frames t) (of_thread t sent)) l)
    (sym (sent_other t arriving f other)) (are t))) (cases_eq f.thread t)

pub none_sent : (o : Orders) → Arrive o [] []
none_sent o t = elim (o.frames t) as (λ n. AreLeft o.lost (first_ones n []) []) [ None ↦ refl | Some n ↦ first_none n ]
  where
    first_none : (n : ℕ) → AreLeft o.lost (take n []) []
    first_none zero = refl
    first_none (suc n) = refl

-- how many were sent by each thread

pub record AreCounted (counts : List ℕ) (sent : List Message) : Type 0 where
  pub long : length counts ≡ 16
  pub counted : (t : ℕ) → t < 16 → get_or counts t 0 ≡ length (of_thread t sent)

fewer : (t : ℕ) (sent : List Message) → length (of_thread t sent) ≤ length sent
fewer t [] = omega arith
fewer t (f ∷ sent) =
    let rest = fewer t sent in
    elim (eqb f.thread t) as
    (λ b. length (cond b (f ∷ of_thread t sent) (of_thread t sent)) ≤ length (f ∷ sent))
    [ true ↦ omega arith | false ↦ omega arith ]

pub count_small : (counts : List ℕ) (sent : List Message) (t : ℕ) → AreCounted counts sent
    → get_or counts t 0 ≤ length sent
count_small counts sent t are =
    ⊎_elim (λ (inside : t < 16). omega (arith, are.counted t inside, fewer t sent))
    (λ (beyond : 16 ≤ t).
    let long = are.long in
    omega (arith, get_or_past counts t 0 (omega arith))) (cases_lt t 16)

pub count_more : (counts : List ℕ) (sent : List Message) (f : Message) → AreCounted counts sent
    → AreCounted (set counts f.thread (get_or counts f.thread 0 + 1)) (sent ++ f ∷ [])
count_more counts sent f are = record {
  long = length-set counts f.thread (get_or counts f.thread 0 + 1) ∙ are.long;
  counted = λ t inside.
      let long = are.long in
      ⊎_elim (λ (own : f.thread ≡ t).
      let within : f.thread < length counts = omega arith in
      let here = get_or-set_same counts f.thread (get_or counts f.thread 0 + 1) 0 within in
      let was = are.counted f.thread (omega arith) in
      let more = ap length (sent_own f.thread sent f refl) ∙ length_push (of_thread f.thread sent) f in
      subst (λ (u : ℕ).
      get_or (set counts f.thread (get_or counts f.thread 0 + 1)) u 0 ≡ length (of_thread u (sent ++ f ∷ []))) own
      (omega arith))
      (λ (other : f.thread ≢ t).
      get_or-set_other counts f.thread t (get_or counts f.thread 0 + 1) 0 (λ e. other (sym e))
      ∙ are.counted t inside
      ∙ ap length (sym (sent_other t sent f other))) (cases_eq f.thread t);
}

takes_same : (o : Option ℕ) (m n : ℕ) → m ≡ n → TakesOneMore o m → TakesOneMore o n
takes_same o m n e = subst (TakesOneMore o) e

takes_any : (o : Option ℕ) (n : ℕ) → o ≡ None → TakesOneMore o n
takes_any o n e = subst (λ (p : Option ℕ). TakesOneMore p n) (sym e) tt

pub takes_counted : (o : Option ℕ) (counts : List ℕ) (sent : List Message) (t : ℕ) → AreCounted counts sent
    → (16 ≤ t → o ≡ None) → TakesOneMore o (get_or counts t 0) ↔ TakesOneMore o (length (of_thread t sent))
takes_counted o counts sent t are beyond =
    ⊎_elim (λ (inside : t < 16). (
      takes_same o (get_or counts t 0) (length (of_thread t sent)) (are.counted t inside),
      takes_same o (length (of_thread t sent)) (get_or counts t 0) (sym (are.counted t inside)),
    ))
    (λ (past : 16 ≤ t).
    ((λ h. takes_any o (length (of_thread t sent)) (beyond past)), λ h. takes_any o (get_or counts t 0) (beyond past)))
    (cases_lt t 16)

-- One step of the course over all frames that were sent.

sent_more : (sent : List Message) (i : ℕ) (f : Message) → i < length sent → f ≡ get_or sent i f
    → take i sent ++ f ∷ [] ≡ take (i + 1) sent
sent_more sent i f inside at =
    ap (λ (m : Message). take i sent ++ m ∷ []) at ∙ sym (take_more sent i f inside)

pub counted_on : (counts new : List ℕ) (sent : List Message) (i u : ℕ) (f : Message) → u ≡ f.thread
    → new ≡ set counts u (get_or counts u 0 + 1) → i < length sent → f ≡ get_or sent i f
    → AreCounted counts (take i sent) → AreCounted new (take (i + 1) sent)
counted_on counts new sent i u f own set_to inside at are =
    let now : new ≡ set counts f.thread (get_or counts f.thread 0 + 1) =
    set_to ∙ ap (λ (v : ℕ). set counts v (get_or counts v 0 + 1)) own in
    subst (λ (l : List ℕ). AreCounted l (take (i + 1) sent)) (sym now)
    (subst (λ (l : List Message). AreCounted (set counts f.thread (get_or counts f.thread 0 + 1)) l)
    (sent_more sent i f inside at) (count_more counts (take i sent) f are))

-- whether the frame is taken, told by the counts
pub takes_on : (o : Orders) (counts : List ℕ) (sent : List Message) (u n : ℕ) (f : Message) (r : Bool) → u ≡ f.thread
    → n ≡ get_or counts u 0 → (16 ≤ u → o.frames u ≡ None) → AreCounted counts sent
    → IsTrue r ↔ TakesOneMore (o.frames u) n
    → IsTrue r ↔ TakesOneMore (o.frames f.thread) (length (of_thread f.thread sent))
takes_on o counts sent u n f r own at beyond are h =
    let same = takes_counted (o.frames u) counts sent u are beyond in
    subst (λ (v : ℕ). IsTrue r ↔ TakesOneMore (o.frames v) (length (of_thread v sent))) own (
      (λ t. same.0 (takes_same (o.frames u) n (get_or counts u 0) at (h.0 t))),
      λ t. h.1 (takes_same (o.frames u) (get_or counts u 0) n (sym at) (same.1 t)),
    )

-- whether the frame is lost, told by the set
pub lost_told : (keys : List (ℕ × ℕ × ℕ)) (lost : List Message) (f : Message) (r : Bool)
    → r ≡ list_any (is_at (key_cmp (key_of f))) keys → HaveLost keys lost → (r ≡ true) ↔ IsLost f lost
lost_told keys lost f r is have = ((λ h. (have f).0 (sym is ∙ h)), λ h. is ∙ (have f).1 h)

pub lost_on : (o : Orders) (sent arriving : List Message) (i : ℕ) (f : Message) → i < length sent
    → f ≡ get_or sent i f → Arrive o (take i sent) arriving → IsLost f o.lost
    → TakesOneMore (o.frames f.thread) (length (of_thread f.thread (take i sent)))
    → Arrive o (take (i + 1) sent) arriving
lost_on o sent arriving i f inside at are is takes =
    subst (λ (l : List Message). Arrive o l arriving) (sent_more sent i f inside at)
    (lost_one o (take i sent) arriving f are is takes)

pub out_on : (o : Orders) (sent arriving : List Message) (i : ℕ) (f : Message) → i < length sent
    → f ≡ get_or sent i f → Arrive o (take i sent) arriving
    → (TakesOneMore (o.frames f.thread) (length (of_thread f.thread (take i sent))) → ⊥)
    → Arrive o (take (i + 1) sent) arriving
out_on o sent arriving i f inside at are enough =
    subst (λ (l : List Message). Arrive o l arriving) (sent_more sent i f inside at)
    (left_out o (take i sent) arriving f are enough)

pub arrives_on : (o : Orders) (sent arriving new : List Message) (i : ℕ) (f : Message) → i < length sent
    → f ≡ get_or sent i f → new ≡ arriving ++ f ∷ [] → Arrive o (take i sent) arriving → (IsLost f o.lost → ⊥)
    → TakesOneMore (o.frames f.thread) (length (of_thread f.thread (take i sent))) → Arrive o (take (i + 1) sent) new
arrives_on o sent arriving new i f inside at put are stays takes =
    subst (λ (l : List Message). Arrive o (take (i + 1) sent) l) (sym put)
    (subst (λ (l : List Message). Arrive o l (arriving ++ f ∷ [])) (sent_more sent i f inside at)
    (one_arrives o (take i sent) arriving f are stays takes))

-- Those that arrive stand in their order.

some_less : (sent some : List Message) (f : Message) → AreSome sent some → AreSome (sent ++ f ∷ []) some
some_less [] some f are = inl are
some_less (x ∷ sent) some f (inl rest) = inl (some_less sent some f rest)
some_less (x ∷ sent) some f (inr (others, is, rest)) = inr (others, is, some_less sent others f rest)

some_more : (sent some : List Message) (f : Message) → AreSome sent some → AreSome (sent ++ f ∷ []) (some ++ f ∷ [])
some_more [] some f are = inr ([], ap (λ (l : List Message). l ++ f ∷ []) are, refl)
some_more (x ∷ sent) some f (inl rest) = inl (some_more sent some f rest)
some_more (x ∷ sent) some f (inr (others, is, rest)) =
    inr (others ++ f ∷ [], ap (λ (l : List Message). l ++ f ∷ []) is, some_more sent others f rest)

pub left_on : (sent some : List Message) (i : ℕ) (f : Message) → i < length sent → f ≡ get_or sent i f
    → AreSome (take i sent) some → AreSome (take (i + 1) sent) some
left_on sent some i f inside at are =
    subst (λ (l : List Message). AreSome l some) (sent_more sent i f inside at) (some_less (take i sent) some f are)

pub kept_on : (sent some new : List Message) (i : ℕ) (f : Message) → i < length sent → f ≡ get_or sent i f
    → new ≡ some ++ f ∷ [] → AreSome (take i sent) some → AreSome (take (i + 1) sent) new
kept_on sent some new i f inside at put are =
    subst (λ (l : List Message). AreSome (take (i + 1) sent) l) (sym put)
    (subst (λ (l : List Message). AreSome l (some ++ f ∷ [])) (sent_more sent i f inside at)
    (some_more (take i sent) some f are))
