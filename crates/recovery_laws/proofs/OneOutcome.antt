-- Each event comes to one thing: from a sound world it has one outcome, releases the same outputs, and leaves one
-- world.
use Rattle.std.proofs.Common.{◌≡◌, ℕ, zero, suc, ◌+◌, ◌≤◌, ◌<◌, Bool, true, false, List, [], ◌∷◌, ◌++◌, length, refl}
use Rattle.std.proofs.Common.{sym, ap, ◌∙◌, subst, inl, inr, ◌⊎◌, arith, Option, Some, None}
use Rattle.std.specs.Prelude.{Ok}
use Rattle.entry_order.specs.declared.what.What.{What}
use Rattle.entry_order.specs.declared.what.What.TheVariants as what
use Rattle.entry_order.specs.Log.{Entry, entries, places, IsLog, IsIn}
use Rattle.entry_order.specs.Closed.{IsNoLater, IsFirstMissing}
use Rattle.entry_order.specs.Stamps.{IsCount}
use Rattle.entry_order.proofs.Order.{same_number, same_place}
use Rattle.entry_order.proofs.Missing.{output_in, first_unique}
use Rattle.entry_order.proofs.Weights.{count_unique}
use Rattle.entry_order.proofs.Parts.{part_unique}
use Rattle.plain_machine.specs.declared.local.Move.{Move}
use Rattle.plain_machine.specs.declared.local.Move.TheVariants.{Access, Read, Clock, Draw, Emit, End}
use Rattle.plain_machine.specs.declared.emission.Emission.{Emission}
use Rattle.plain_machine.specs.Machine.{Hand}
use Rattle.plain_machine.specs.History.{Step, log_of, entry_of, thread_after, plain_move}
use Rattle.plain_machine.proofs.Histories.{history_log}
use Rattle.plain_machine.proofs.Agreement.{histories_agree}
use Rattle.random_words.specs.Words.{word_of}
use Rattle.recovery_world.specs.declared.event.Event.{Event}
use Rattle.recovery_world.specs.declared.event.Event.TheVariants as event
use Rattle.plain_text.specs.declared.kind.Kind.{Kind}
use Rattle.plain_text.specs.declared.kind.Kind.TheVariants as kind
use Rattle.recovery_world.specs.declared.event.Outcome.{Outcome}
use Rattle.recovery_world.specs.declared.event.Outcome.TheVariants as outcome
use Rattle.recovery_world.specs.World.{Setting, Sent, World, inputs_fed}
use Rattle.recovery_world.specs.Turns.{IsReadToCome, IsTouchToCome, IsAwaited, Awaits, HandHasTurn, TellsClock}
use Rattle.recovery_world.specs.Turns.{TellsDraw}
use Rattle.recovery_world.specs.Frames.{IsThreadCount, HasComponent, HasOutputComponent, IsEntryLength, IsOutputLength}
use Rattle.recovery_world.specs.Events.{move_outcome, bytes_sent, Tells, TellsHand, MakesMove, WaitsFor, WantsMore}
use Rattle.recovery_world.specs.Events.{OnStep, IsKnown, MayGo, Parts, Releases, IsEntryOf, OnLog, IsOutputOf, OnOut}
use Rattle.recovery_world.specs.Events.{Arrives, OnLate, IsFrameLength, HasNone, OnCut, OnSnap, OnStore, OnCrash}
use Rattle.recovery_world.specs.Events.{IsPartOf, Recovers, OnRecover, entries_of_line, ended_now, OnShow, OfThread, On}
use Rattle.recovery_laws.specs.Sound.{IsEachOnce, Sound}
use Rattle.recovery_laws.proofs.LedMoves.{Made, made_move, made_step}
use Rattle.recovery_laws.proofs.KeptWorlds.{part_in}
use Rattle.recovery_laws.proofs.Replays.{no_step}

pub record Same {V : Type 0} (to other : Outcome) (freed rest : List Sent) (new next : World V) : Type 0 where
  pub outcome_is : to ≡ other
  pub freed_is : freed ≡ rest
  pub new_is : new ≡ next

pub sent_eq : (o p : Sent) → o.emission ≡ p.emission → o.after ≡ p.after → o ≡ p
sent_eq o p a b =
    ap (λ (e : Emission). let r : Sent = record { emission = e; after = o.after } in r) a
    ∙ ap (λ (n : ℕ). let r : Sent = record { emission = p.emission; after = n } in r) b

parts_one : (P : Sent → Type 0) (xs go stay other rest : List Sent) → Parts P xs go stay → Parts P xs other rest
    → (go ≡ other) × (stay ≡ rest)
parts_one P [] go stay other rest a b = (a.0 ∙ sym b.0, a.1 ∙ sym b.1)
parts_one P (x ∷ xs) go stay other rest (inl (p, g, is, a)) (inl (q, k, js, b)) =
    let r = parts_one P xs g stay k rest a b in (is ∙ (ap (λ (l : List Sent). x ∷ l) r.0 ∙ sym js), r.1)
parts_one P (x ∷ xs) go stay other rest (inl (p, g, is, a)) (inr (q, k, js, b)) = absurd (q p)
parts_one P (x ∷ xs) go stay other rest (inr (p, g, is, a)) (inl (q, k, js, b)) = absurd (p q)
parts_one P (x ∷ xs) go stay other rest (inr (p, g, is, a)) (inr (q, k, js, b)) =
    let r = parts_one P xs go g other k a b in (r.0, is ∙ (ap (λ (l : List Sent). x ∷ l) r.1 ∙ sym js))

releases_one : {V : Type 0} (w : World V) (freed rest : List Sent) (new next : World V) → Releases w freed new
    → Releases w rest next → (freed ≡ rest) × (new ≡ next)
releases_one {V} w freed rest new next a b =
    let r = parts_one (MayGo w) w.waiting freed a.stay rest b.stay a.parts b.parts in (
      r.0,
      a.new_is
          ∙ (ap (λ (l : List Sent). let z : World V = record w { waiting = l; released = w.released ++ freed } in z) r.1
          ∙ (ap
          (λ (l : List Sent). let z : World V = record w { waiting = b.stay; released = w.released ++ l } in z) r.0
          ∙ sym b.new_is)),
    )

no_later : (e f : Entry) → IsNoLater e f → IsNoLater f e → (e.thread ≡ f.thread) × (e.number ≡ f.number)
no_later e f (inl a) (inl b) = absurd (omega arith)
no_later e f (inl a) (inr b) = absurd (omega (arith, a, b.0))
no_later e f (inr a) (inl b) = absurd (omega (arith, b, a.0))
no_later e f (inr a) (inr b) = (a.0, omega (arith, a.1, b.1))

threads_one : (P : ℕ → Type 0) (n k j : ℕ) → IsThreadCount P n k → IsThreadCount P n j → k ≡ j
threads_one P zero k j a b = a ∙ sym b
threads_one P (suc n) k j (inl (p, x, is, a)) (inl (q, y, js, b)) =
    let r = threads_one P n x y a b in omega (arith, r, is, js)
threads_one P (suc n) k j (inl (p, x, is, a)) (inr (q, b)) = absurd (q p)
threads_one P (suc n) k j (inr (p, a)) (inl (q, y, js, b)) = absurd (p q)
threads_one P (suc n) k j (inr (p, a)) (inr (q, b)) = threads_one P n k j a b

-- what is left of a list with none twice goes by its members
part_one : (xs p q : List Entry) → IsEachOnce xs → IsPartOf xs p → IsPartOf xs q → ((e : Entry) → IsIn e p → IsIn e q)
    → ((e : Entry) → IsIn e q → IsIn e p) → p ≡ q
part_one [] p q once a b to back = a ∙ sym b
part_one (x ∷ xs) p q once (inr a) (inr b) to back = part_one xs p q once.1 a b to back
part_one (x ∷ xs) p q once (inl (r, is, a)) (inr b) to back =
    absurd (once.0 (part_in xs q b x (to x (subst (λ (l : List Entry). IsIn x l) (sym is) (inl refl)))))
part_one (x ∷ xs) p q once (inr a) (inl (r, is, b)) to back =
    absurd (once.0 (part_in xs p a x (back x (subst (λ (l : List Entry). IsIn x l) (sym is) (inl refl)))))
part_one (x ∷ xs) p q once (inl (r, is, a)) (inl (k, js, b)) to back =
    is ∙ (ap (λ (l : List Entry). x ∷ l) (part_one xs r k once.1 a b (λ e i. there e i) (λ e i. here e i)) ∙ sym js)
  where
    there : (e : Entry) → IsIn e r → IsIn e k
    there e i =
        go (subst (λ (l : List Entry). IsIn e l) js (to e (subst (λ (l : List Entry). IsIn e l) (sym is) (inr i))))
      where
        go : (x ≡ e) ⊎ IsIn e k → IsIn e k
        go (inl same) = absurd (once.0 (subst (λ (z : Entry). IsIn z xs) (sym same) (part_in xs r a e i)))
        go (inr j) = j

    here : (e : Entry) → IsIn e k → IsIn e r
    here e i =
        go (subst (λ (l : List Entry). IsIn e l) is (back e (subst (λ (l : List Entry). IsIn e l) (sym js) (inr i))))
      where
        go : (x ≡ e) ⊎ IsIn e r → IsIn e r
        go (inl same) = absurd (once.0 (subst (λ (z : Entry). IsIn z xs) (sym same) (part_in xs k b e i)))
        go (inr j) = j

module _ {V : Type 0} (s : Setting V) (w : World V) (h : Sound s w) where
  past_log : IsLog (log_of w.past)
  past_log = history_log s.meaning (inputs_fed s w.fed) s.threads w.past h.firm.legal

  pub entry_one : (t n : ℕ) (e f : Entry) → IsEntryOf w t n e → IsEntryOf w t n f → e ≡ f
  entry_one t n e f a b = same_number (log_of w.past) e f past_log a.0 b.0 (a.1 ∙ sym b.1) (a.2 ∙ sym b.2)

  pub output_one : (t j : ℕ) (o p : Sent) → IsOutputOf w t j o → IsOutputOf w t j p → o ≡ p
  output_one t j o p a b =
      let r = (histories_agree s.meaning (inputs_fed s w.fed) s.threads w.past w.past (log_of w.past) h.firm.legal
      h.firm.legal (λ e f he hf n. he) (λ e i. i) (λ e i. i)).1 o.emission p.emission o.after p.after a.0 b.0
      (a.1.0 ∙ sym b.1.0) (a.1.1 ∙ sym b.1.1) (λ e q. output_in (log_of w.past) o.emission.thread o.after e q) in
      sent_eq o p r.0 r.1

  -- Steps

  followed_in : (e : Entry) → IsIn e w.followed → IsIn e (h.firm.more ++ log_of w.past)
  followed_in e i = h.firm.here e (h.firm.follows e i)

  awaited_one : (t v : ℕ) (reads : Bool) (e f : Entry) → IsAwaited w.followed (log_of w.past) t v reads e
      → IsAwaited w.followed (log_of w.past) t v reads f → (e.thread ≡ f.thread) × (e.number ≡ f.number)
  awaited_one t v reads e f a b = go a.which b.which
    where
      go : (((reads ≡ false)
          × IsReadToCome w.followed (log_of w.past) v e
          × ((g : Entry) → IsReadToCome w.followed (log_of w.past) v g → IsNoLater e g))
          ⊎ ((reads ≡ false → (f : Entry) → IsReadToCome w.followed (log_of w.past) v f → ⊥)
          × IsTouchToCome w.followed (log_of w.past) v e
          × ((e.thread ≡ t) × (e.number ≡ entries t (log_of w.past) + 1) → ⊥)))
          → (((reads ≡ false)
          × IsReadToCome w.followed (log_of w.past) v f
          × ((g : Entry) → IsReadToCome w.followed (log_of w.past) v g → IsNoLater f g))
          ⊎ ((reads ≡ false → (f : Entry) → IsReadToCome w.followed (log_of w.past) v f → ⊥)
          × IsTouchToCome w.followed (log_of w.past) v f
          × ((f.thread ≡ t) × (f.number ≡ entries t (log_of w.past) + 1) → ⊥)))
          → (e.thread ≡ f.thread) × (e.number ≡ f.number)
      go (inl x) (inl y) = no_later e f (x.2 f y.1) (y.2 e x.1)
      go (inl x) (inr y) = absurd (y.0 x.0 e x.1)
      go (inr x) (inl y) = absurd (x.0 y.0 f y.1)
      go (inr x) (inr y) =
          let q : e ≡ f = same_place (h.firm.more ++ log_of w.past) e f v (places v (log_of w.past) + 1) h.firm.log
          (followed_in e x.1.0) (followed_in f y.1.0) x.1.1 y.1.1 in
          (ap (λ (z : Entry). z.thread) q, ap (λ (z : Entry). z.number) q)

  awaits_one : (t : ℕ) (next : Move) (e f : Entry) → Awaits w.followed (log_of w.past) t next e
      → Awaits w.followed (log_of w.past) t next f → (e.thread ≡ f.thread) × (e.number ≡ f.number)
  awaits_one t (Access v) e f a b = awaited_one t v false e f a b
  awaits_one t (Read v) e f a b = awaited_one t v true e f a b
  awaits_one t Clock e f a b = absurd a
  awaits_one t Draw e f a b = absurd a
  awaits_one t Emit e f a b = absurd a
  awaits_one t End e f a b = absurd a

  followed_same : (t : ℕ) (a b : What) → IsIn (entry_of t (log_of w.past) a) w.followed
      → IsIn (entry_of t (log_of w.past) b) w.followed → a ≡ b
  followed_same t a b i j =
      ap (λ (z : Entry). z.what) (same_number (h.firm.more ++ log_of w.past) (entry_of t (log_of w.past) a)
      (entry_of t (log_of w.past) b) h.firm.log (followed_in (entry_of t (log_of w.past) a) i)
      (followed_in (entry_of t (log_of w.past) b) j) refl refl)

  clock_one : (t : ℕ) (given : Option ℕ) (a b : ℕ) → TellsClock w.followed (log_of w.past) t given w.clock a
      → TellsClock w.followed (log_of w.past) t given w.clock b → a ≡ b
  clock_one t given a b (inl i) (inl j) =
      let q : what.Clock a ≡ what.Clock b = followed_same t (what.Clock a) (what.Clock b) i j in cc
  clock_one t given a b (inl i) (inr y) = absurd (y.0 a i)
  clock_one t given a b (inr x) (inl j) = absurd (x.0 b j)
  clock_one t given a b (inr (n, inl x)) (inr (k, inl y)) = cc
  clock_one t given a b (inr (n, inl x)) (inr (k, inr y)) = let q : given ≡ None = y.0 in absurd (cc)
  clock_one t given a b (inr (n, inr x)) (inr (k, inl y)) = let q : given ≡ None = x.0 in absurd (cc)
  clock_one t given a b (inr (n, inr x)) (inr (k, inr y)) = x.1 ∙ sym y.1

  draw_one : (t : ℕ) (given : Option ℕ) (words : ℕ → ℕ) (a b d e : ℕ)
      → TellsDraw w.followed (log_of w.past) t given words w.drawn a d
      → TellsDraw w.followed (log_of w.past) t given words w.drawn b e → (a ≡ b) × (d ≡ e)
  draw_one t given words a b d e (inl i) (inl j) =
      let q : what.Draw a ≡ what.Draw b = followed_same t (what.Draw a) (what.Draw b) i.0 j.0 in (cc, i.1 ∙ sym j.1)
  draw_one t given words a b d e (inl i) (inr y) = absurd (y.0 a i.0)
  draw_one t given words a b d e (inr x) (inl j) = absurd (x.0 b j.0)
  draw_one t given words a b d e (inr (n, inl x)) (inr (k, inl y)) =
      let p : given ≡ Some a = x.0 in let q : given ≡ Some b = y.0 in (cc, x.1 ∙ sym y.1)
  draw_one t given words a b d e (inr (n, inl x)) (inr (k, inr y)) =
      let p : given ≡ Some a = x.0 in let q : given ≡ None = y.0 in absurd (cc)
  draw_one t given words a b d e (inr (n, inr x)) (inr (k, inl y)) =
      let p : given ≡ None = x.0 in let q : given ≡ Some b = y.0 in absurd (cc)
  draw_one t given words a b d e (inr (n, inr x)) (inr (k, inr y)) = (x.1 ∙ sym y.1, x.2 ∙ sym y.2)

  tells_one : (t : ℕ) (given a b : Option ℕ) (d e : ℕ) (next : Move) → Tells s w t given a d next
      → Tells s w t given b e next → (a ≡ b) × (d ≡ e)
  tells_one t given a b d e (Access v) x y = (x.0 ∙ sym y.0, x.1 ∙ sym y.1)
  tells_one t given a b d e (Read v) x y = (x.0 ∙ sym y.0, x.1 ∙ sym y.1)
  tells_one t given a b d e Clock (m, is, k, x) (n, js, l, y) =
      (is ∙ (ap (λ (z : ℕ). Some z) (clock_one t given m n x y) ∙ sym js), k ∙ sym l)
  tells_one t given a b d e Draw (m, is, x) (n, js, y) =
      let r = draw_one t given (word_of s.seed) m n d e x y in (is ∙ (ap (λ (z : ℕ). Some z) r.0 ∙ sym js), r.1)
  tells_one t given a b d e Emit x y = (x.0 ∙ sym y.0, x.1 ∙ sym y.1)
  tells_one t given a b d e End x y = (x.0 ∙ sym y.0, x.1 ∙ sym y.1)

  hand_tells_one : (t : ℕ) (given a b : Option ℕ) (d e : ℕ) (hand : Option Hand) → TellsHand s w t given a d hand
      → TellsHand s w t given b e hand → (a ≡ b) × (d ≡ e)
  hand_tells_one t given a b d e None x y = (x.0 ∙ sym y.0, x.1 ∙ sym y.1)
  hand_tells_one t given a b d e (Some k) x y = tells_one t given a b d e (s.meaning.next k.place) x y

  moved : Step V → ℕ → World V
  moved step drawn =
      record w { past = step ∷ w.past; drawn = drawn; moves = w.moves + 1; bytes = w.bytes + bytes_sent step.act }

  moves_one : (t : ℕ) (given : Option ℕ) (to other : Outcome) (new next : World V) → MakesMove s w t given to new
      → MakesMove s w t given other next → (to ≡ other) × (new ≡ next)
  unfolding moved
  moves_one t given to other new next a b =
      let told =
      hand_tells_one t given a.answer b.answer a.drawn b.drawn (thread_after w.past t).hand a.tells b.tells in
      let both : Ok (a.step ∷ w.past) ≡ Ok (b.step ∷ w.past) =
      sym a.moves
      ∙ (ap
      (λ (z : Option ℕ). plain_move s.meaning (inputs_fed s w.fed) s.threads w.past (record { thread = t; answer = z }))
      told.0
      ∙ b.moves) in
      let step : a.step ≡ b.step = cc in (
        a.to_is ∙ (ap (λ (z : Step V). move_outcome z.act) step ∙ sym b.to_is),
        a.new_is ∙ (ap (λ (z : Step V). moved z a.drawn) step ∙ (ap (λ (z : ℕ). moved b.step z) told.1 ∙ sym b.new_is)),
      )

  pub not_idle : (t : ℕ) (given : Option ℕ) (to : Outcome) (new : World V) → WantsMore s w t
      → MakesMove s w t given to new → ⊥
  not_idle t given to new idle k = no_step s.meaning (inputs_fed s w.fed) s.threads w.past t k.step
      (made_step s.meaning (inputs_fed s w.fed) s.threads w.past t k.answer k.step made) made.thread idle.0 idle.1
    where
      made : Made s.meaning (inputs_fed s w.fed) s.threads w.past t k.answer k.step
      made = made_move s.meaning (inputs_fed s w.fed) s.threads w.past (record { thread = t; answer = k.answer })
          k.step k.moves

  idle_waits : (t : ℕ) (to : Outcome) → WantsMore s w t → WaitsFor s w t to → ⊥
  idle_waits t to idle k =
      let a : (thread_after w.past t).hand ≡ None = idle.0 in
      let b : (thread_after w.past t).hand ≡ Some k.hand = k.hand_is in cc

  waits_moves : (t : ℕ) (given : Option ℕ) (to other : Outcome) (new : World V) → WaitsFor s w t to
      → MakesMove s w t given other new → ⊥
  waits_moves t given to other new a b = subst
      (λ (o : Option Hand). HandHasTurn s.meaning w.followed (log_of w.past) t o) a.hand_is b.turn a.entry a.awaits

  waits_one : (t : ℕ) (to other : Outcome) → WaitsFor s w t to → WaitsFor s w t other → to ≡ other
  waits_one t to other a b =
      let both : Some a.hand ≡ Some b.hand = sym a.hand_is ∙ b.hand_is in
      let hand : a.hand ≡ b.hand = cc in
      let r = awaits_one t (s.meaning.next a.hand.place) a.entry b.entry a.awaits (subst
      (λ (k : Hand). Awaits w.followed (log_of w.past) t (s.meaning.next k.place) b.entry) (sym hand) b.awaits) in
      a.to_is
      ∙ (ap (λ (n : ℕ). outcome.Waits n a.entry.number) r.0
      ∙ (ap (λ (n : ℕ). outcome.Waits b.entry.thread n) r.1 ∙ sym b.to_is))

  to_nothing : (t : ℕ) (given : Option ℕ) (to : Outcome) (new : World V) → s.threads ≤ t → OnStep s w t given to new
      → (to ≡ outcome.Nothing) × (new ≡ w)
  to_nothing t given to new high (inl a) = (a.1, a.2)
  to_nothing t given to new high (inr (inl a)) = absurd (omega (arith, high, a.0))
  to_nothing t given to new high (inr (inr (inl a))) = absurd (omega (arith, high, a.0))
  to_nothing t given to new high (inr (inr (inr (inl a)))) = absurd (omega (arith, high, a.0))
  to_nothing t given to new high (inr (inr (inr (inr a)))) = absurd (omega (arith, high, a.0))

  to_down : (t : ℕ) (given : Option ℕ) (to : Outcome) (new : World V) → t < s.threads → w.up ≡ false
      → OnStep s w t given to new → (to ≡ outcome.Down) × (new ≡ w)
  to_down t given to new low down (inl a) = absurd (omega (arith, low, a.0))
  to_down t given to new low down (inr (inl a)) = (a.2, a.3)
  to_down t given to new low down (inr (inr (inl a))) = let u : w.up ≡ true = a.1 in absurd (cc)
  to_down t given to new low down (inr (inr (inr (inl a)))) = let u : w.up ≡ true = a.1 in absurd (cc)
  to_down t given to new low down (inr (inr (inr (inr a)))) = let u : w.up ≡ true = a.1 in absurd (cc)

  to_idle : (t : ℕ) (given : Option ℕ) (to : Outcome) (new : World V) → t < s.threads → w.up ≡ true → WantsMore s w t
      → OnStep s w t given to new → (to ≡ outcome.Idle) × (new ≡ w)
  to_idle t given to new low up idle (inl a) = absurd (omega (arith, low, a.0))
  to_idle t given to new low up idle (inr (inl a)) = let u : w.up ≡ false = a.1 in absurd (cc)
  to_idle t given to new low up idle (inr (inr (inl a))) = (a.3, a.4)
  to_idle t given to new low up idle (inr (inr (inr (inl a)))) = absurd (idle_waits t to idle a.2)
  to_idle t given to new low up idle (inr (inr (inr (inr a)))) = absurd (not_idle t given to new idle a.2)

  to_waits : (t : ℕ) (given : Option ℕ) (to other : Outcome) (new : World V) → t < s.threads → w.up ≡ true
      → WaitsFor s w t other → OnStep s w t given to new → (to ≡ other) × (new ≡ w)
  to_waits t given to other new low up k (inl a) = absurd (omega (arith, low, a.0))
  to_waits t given to other new low up k (inr (inl a)) = let u : w.up ≡ false = a.1 in absurd (cc)
  to_waits t given to other new low up k (inr (inr (inl a))) = absurd (idle_waits t other a.2 k)
  to_waits t given to other new low up k (inr (inr (inr (inl a)))) = (waits_one t to other a.2 k, a.3)
  to_waits t given to other new low up k (inr (inr (inr (inr a)))) = absurd (waits_moves t given other to new k a.2)

  to_moves : (t : ℕ) (given : Option ℕ) (to other : Outcome) (new next : World V) → t < s.threads → w.up ≡ true
      → MakesMove s w t given other next → OnStep s w t given to new → (to ≡ other) × (new ≡ next)
  to_moves t given to other new next low up k (inl a) = absurd (omega (arith, low, a.0))
  to_moves t given to other new next low up k (inr (inl a)) = let u : w.up ≡ false = a.1 in absurd (cc)
  to_moves t given to other new next low up k (inr (inr (inl a))) = absurd (not_idle t given other next a.2 k)
  to_moves t given to other new next low up k (inr (inr (inr (inl a)))) =
      absurd (waits_moves t given to other next a.2 k)
  to_moves t given to other new next low up k (inr (inr (inr (inr a)))) = moves_one t given to other new next a.2 k

  step_one : (t : ℕ) (given : Option ℕ) (to other : Outcome) (new next : World V) → OnStep s w t given to new
      → OnStep s w t given other next → (to ≡ other) × (new ≡ next)
  step_one t given to other new next a (inl b) =
      let r = to_nothing t given to new b.0 a in (r.0 ∙ sym b.1, r.1 ∙ sym b.2)
  step_one t given to other new next a (inr (inl b)) =
      let r = to_down t given to new b.0 b.1 a in (r.0 ∙ sym b.2, r.1 ∙ sym b.3)
  step_one t given to other new next a (inr (inr (inl b))) =
      let r = to_idle t given to new b.0 b.1 b.2 a in (r.0 ∙ sym b.3, r.1 ∙ sym b.4)
  step_one t given to other new next a (inr (inr (inr (inl b)))) =
      let r = to_waits t given to other new b.0 b.1 b.2 a in (r.0, r.1 ∙ sym b.3)
  step_one t given to other new next a (inr (inr (inr (inr b)))) = to_moves t given to other new next b.0 b.1 b.2 a

  -- Arrivals

  log_one : (t n : ℕ) (to other : Outcome) (freed rest : List Sent) (new next : World V) → OnLog w t n to freed new
      → OnLog w t n other rest next → Same to other freed rest new next
  log_one t n to other freed rest new next (inl a) (inl b) =
      record { outcome_is = a.1 ∙ sym b.1; freed_is = a.2 ∙ sym b.2; new_is = a.3 ∙ sym b.3 }
  log_one t n to other freed rest new next (inl a) (inr (inl b)) = absurd (a.0 b.0 b.1)
  log_one t n to other freed rest new next (inl a) (inr (inr b)) = absurd (a.0 b.0 b.1)
  log_one t n to other freed rest new next (inr (inl a)) (inl b) = absurd (b.0 a.0 a.1)
  log_one t n to other freed rest new next (inr (inr a)) (inl b) = absurd (b.0 a.0 a.1)
  log_one t n to other freed rest new next (inr (inl a)) (inr (inl b)) =
      record { outcome_is = a.3 ∙ sym b.3; freed_is = a.4 ∙ sym b.4; new_is = a.5 ∙ sym b.5 }
  log_one t n to other freed rest new next (inr (inl a)) (inr (inr b)) =
      absurd (b.2 (subst (λ (z : Entry). IsKnown w z) (entry_one t n a.0 b.0 a.1 b.1) a.2))
  log_one t n to other freed rest new next (inr (inr a)) (inr (inl b)) =
      absurd (a.2 (subst (λ (z : Entry). IsKnown w z) (entry_one t n b.0 a.0 b.1 a.1) b.2))
  log_one t n to other freed rest new next (inr (inr a)) (inr (inr b)) =
      let q : b.0 ≡ a.0 = entry_one t n b.0 a.0 b.1 a.1 in
      let r = releases_one (record w { held = a.0 ∷ w.held }) freed rest new next a.4
      (subst (λ (z : Entry). Releases (record w { held = z ∷ w.held }) rest next) q b.4) in
      record { outcome_is = a.3 ∙ sym b.3; freed_is = r.0; new_is = r.1 }

  out_one : (t j : ℕ) (to other : Outcome) (new next : World V) → OnOut w t j to new → OnOut w t j other next
      → (to ≡ other) × (new ≡ next)
  out_one t j to other new next (inl a) (inl b) = (a.1 ∙ sym b.1, a.2 ∙ sym b.2)
  out_one t j to other new next (inl a) (inr (inl b)) = absurd (a.0 b.0 b.1)
  out_one t j to other new next (inl a) (inr (inr (inl b))) = absurd (a.0 b.0 b.1)
  out_one t j to other new next (inl a) (inr (inr (inr b))) = absurd (a.0 b.0 b.1)
  out_one t j to other new next (inr (inl a)) (inl b) = absurd (b.0 a.0 a.1)
  out_one t j to other new next (inr (inr (inl a))) (inl b) = absurd (b.0 a.0 a.1)
  out_one t j to other new next (inr (inr (inr a))) (inl b) = absurd (b.0 a.0 a.1)
  out_one t j to other new next (inr (inl a)) (inr (inl b)) = (a.3 ∙ sym b.3, a.4 ∙ sym b.4)
  out_one t j to other new next (inr (inl a)) (inr (inr (inl b))) = absurd (b.2 a.2)
  out_one t j to other new next (inr (inl a)) (inr (inr (inr b))) = absurd (b.2 a.2)
  out_one t j to other new next (inr (inr (inl a))) (inr (inl b)) = absurd (a.2 b.2)
  out_one t j to other new next (inr (inr (inr a))) (inr (inl b)) = absurd (a.2 b.2)
  out_one t j to other new next (inr (inr (inl a))) (inr (inr (inl b))) =
      let q : a.0 ≡ b.0 = output_one t j a.0 b.0 a.1 b.1 in (
        a.4 ∙ sym b.4,
        a.5 ∙ (ap (λ (o : Sent). let z : World V = record w { released = w.released ++ o ∷ [] } in z) q ∙ sym b.5),
      )
  out_one t j to other new next (inr (inr (inl a))) (inr (inr (inr b))) =
      let q : a.0 ≡ b.0 = output_one t j a.0 b.0 a.1 b.1 in
      absurd (subst (λ (o : Sent). MayGo w o) q a.3 b.3 b.4.missing)
  out_one t j to other new next (inr (inr (inr a))) (inr (inr (inl b))) =
      let q : b.0 ≡ a.0 = output_one t j b.0 a.0 b.1 a.1 in
      absurd (subst (λ (o : Sent). MayGo w o) q b.3 a.3 a.4.missing)
  out_one t j to other new next (inr (inr (inr a))) (inr (inr (inr b))) =
      let q : a.0 ≡ b.0 = output_one t j a.0 b.0 a.1 b.1 in
      let e : a.3 ≡ b.3 =
      first_unique (log_of w.past) (log_of w.stored) w.held b.0.emission.thread b.0.after a.3 b.3 past_log
      (subst (λ (o : Sent). IsFirstMissing (log_of w.past) (log_of w.stored) w.held o.emission.thread o.after a.3)
      q a.4) b.4 in (
        a.5 ∙ (ap (λ (z : Entry). outcome.Waits z.thread z.number) e ∙ sym b.5),
        a.6 ∙ (ap (λ (o : Sent). let z : World V = record w { waiting = w.waiting ++ o ∷ [] } in z) q ∙ sym b.6),
      )

  arrives_one : (k : Kind) (t n : ℕ) (to other : Outcome) (freed rest : List Sent) (new next : World V)
      → Arrives w k t n to freed new → Arrives w k t n other rest next → Same to other freed rest new next
  arrives_one kind.Log t n to other freed rest new next a b = log_one t n to other freed rest new next a b
  arrives_one kind.Out t n to other freed rest new next a b =
      let r = out_one t n to other new next a.0 b.0 in
      record { outcome_is = r.0; freed_is = a.1 ∙ sym b.1; new_is = r.1 }

  late_one : (epoch : ℕ) (k : Kind) (t n : ℕ) (to other : Outcome) (freed rest : List Sent) (new next : World V)
      → OnLate w epoch k t n to freed new → OnLate w epoch k t n other rest next → Same to other freed rest new next
  late_one epoch k t n to other freed rest new next (inl a) (inl b) =
      arrives_one k t n to other freed rest new next a.1 b.1
  late_one epoch k t n to other freed rest new next (inl a) (inr (inl b)) = absurd (b.0 a.0)
  late_one epoch k t n to other freed rest new next (inl a) (inr (inr b)) = absurd (b.0 a.0)
  late_one epoch k t n to other freed rest new next (inr (inl a)) (inl b) = absurd (a.0 b.0)
  late_one epoch k t n to other freed rest new next (inr (inr a)) (inl b) = absurd (a.0 b.0)
  late_one epoch k t n to other freed rest new next (inr (inl a)) (inr (inl b)) =
      record { outcome_is = a.2 ∙ sym b.2; freed_is = a.3 ∙ sym b.3; new_is = a.4 ∙ sym b.4 }
  late_one epoch k t n to other freed rest new next (inr (inl a)) (inr (inr b)) = absurd (b.1 a.1)
  late_one epoch k t n to other freed rest new next (inr (inr a)) (inr (inl b)) = absurd (a.1 b.1)
  late_one epoch k t n to other freed rest new next (inr (inr a)) (inr (inr b)) =
      record { outcome_is = a.2 ∙ sym b.2; freed_is = a.3 ∙ sym b.3; new_is = a.4 ∙ sym b.4 }

  frame_one : (k : Kind) (t n a b : ℕ) → IsFrameLength s w k t n a → IsFrameLength s w k t n b → a ≡ b
  frame_one kind.Log t n a b (e, oe, x) (f, of, y) =
      let z = subst (λ (g : Entry). IsEntryLength s.threads (log_of w.past) g b) (entry_one t n f e of oe) y in
      let r = threads_one (λ u. HasComponent (log_of w.past) e u) s.threads x.0 z.0 x.1 z.1 in
      omega (arith, r, x.2, z.2)
  frame_one kind.Out t n a b (o, oo, x) (p, op, y) =
      let z = subst (λ (g : Sent). IsOutputLength s.threads (log_of w.past) g b) (output_one t n p o op oo) y in
      let r =
      threads_one (λ u. HasOutputComponent (log_of w.past) o.emission.thread o.after u) s.threads x.0 z.0 x.1 z.1 in
      omega (arith, r, x.2, z.2)

  has_none : (k : Kind) (t n whole : ℕ) → HasNone w k t n → IsFrameLength s w k t n whole → ⊥
  has_none kind.Log t n whole none (e, of, x) = none e of
  has_none kind.Out t n whole none (o, of, x) = none o of

  cut_one : (k : Kind) (t n len : ℕ) (to other : Outcome) (freed rest : List Sent) (new next : World V)
      → OnCut s w k t n len to freed new → OnCut s w k t n len other rest next → Same to other freed rest new next
  cut_one k t n len to other freed rest new next (inl a) (inl b) =
      record { outcome_is = a.1 ∙ sym b.1; freed_is = a.2 ∙ sym b.2; new_is = a.3 ∙ sym b.3 }
  cut_one k t n len to other freed rest new next (inl a) (inr (inl b)) = absurd (has_none k t n b.0 a.0 b.1)
  cut_one k t n len to other freed rest new next (inl a) (inr (inr b)) = absurd (has_none k t n b.0 a.0 b.1)
  cut_one k t n len to other freed rest new next (inr (inl a)) (inl b) = absurd (has_none k t n a.0 b.0 a.1)
  cut_one k t n len to other freed rest new next (inr (inr a)) (inl b) = absurd (has_none k t n a.0 b.0 a.1)
  cut_one k t n len to other freed rest new next (inr (inl a)) (inr (inl b)) =
      record { outcome_is = a.3 ∙ sym b.3; freed_is = a.4 ∙ sym b.4; new_is = a.5 ∙ sym b.5 }
  cut_one k t n len to other freed rest new next (inr (inl a)) (inr (inr b)) =
      let r = frame_one k t n a.0 b.0 a.1 b.1 in absurd (omega (arith, r, a.2, b.2))
  cut_one k t n len to other freed rest new next (inr (inr a)) (inr (inl b)) =
      let r = frame_one k t n a.0 b.0 a.1 b.1 in absurd (omega (arith, r, a.2, b.2))
  cut_one k t n len to other freed rest new next (inr (inr a)) (inr (inr b)) =
      arrives_one k t n to other freed rest new next a.3 b.3

  -- Snapshots, crashes and recoveries

  snap_one : (to other : Outcome) (new next : World V) → OnSnap w to new → OnSnap w other next
      → (to ≡ other) × (new ≡ next)
  snap_one to other new next (inl a) (inl b) = (a.1 ∙ sym b.1, a.2 ∙ sym b.2)
  snap_one to other new next (inl a) (inr b) = let p : w.up ≡ false = a.0 in let q : w.up ≡ true = b.0 in absurd (cc)
  snap_one to other new next (inr a) (inl b) = let p : w.up ≡ true = a.0 in let q : w.up ≡ false = b.0 in absurd (cc)
  snap_one to other new next (inr a) (inr b) = (a.1 ∙ sym b.1, a.2 ∙ sym b.2)

  store_one : (to other : Outcome) (freed rest : List Sent) (new next : World V) → OnStore w to freed new
      → OnStore w other rest next → Same to other freed rest new next
  store_one to other freed rest new next (inl a) (inl b) =
      record { outcome_is = a.1 ∙ sym b.1; freed_is = a.2 ∙ sym b.2; new_is = a.3 ∙ sym b.3 }
  store_one to other freed rest new next (inl a) (inr b) =
      let p : w.copy ≡ None = a.0 in let q : w.copy ≡ Some b.0 = b.1 in absurd (cc)
  store_one to other freed rest new next (inr a) (inl b) =
      let p : w.copy ≡ None = b.0 in let q : w.copy ≡ Some a.0 = a.1 in absurd (cc)
  store_one to other freed rest new next (inr a) (inr b) =
      let p : Some b.0 ≡ Some a.0 = sym b.1 ∙ a.1 in
      let q : b.0 ≡ a.0 = cc in
      let r = releases_one (record w { stored = a.0; copy = None }) freed rest new next a.3
      (subst (λ (c : List (Step V)). Releases (record w { stored = c; copy = None }) rest next) q b.3) in
      record {
        outcome_is = a.2 ∙ (ap (λ (c : List (Step V)). outcome.Covers (length (log_of c))) (sym q) ∙ sym b.2);
        freed_is = r.0;
        new_is = r.1;
      }

  crash_one : (to other : Outcome) (new next : World V) → OnCrash w to new → OnCrash w other next
      → (to ≡ other) × (new ≡ next)
  crash_one to other new next (inl a) (inl b) = (a.1 ∙ sym b.1, a.2 ∙ sym b.2)
  crash_one to other new next (inl a) (inr b) = let p : w.up ≡ false = a.0 in let q : w.up ≡ true = b.0 in absurd (cc)
  crash_one to other new next (inr a) (inl b) = let p : w.up ≡ true = a.0 in let q : w.up ≡ false = b.0 in absurd (cc)
  crash_one to other new next (inr a) (inr b) = (a.1 ∙ sym b.1, a.2 ∙ sym b.2)

  recovered : List Entry → World V
  recovered part = record w {
    held = part;
    followed = part;
    waiting = [];
    epoch = w.epoch + 1;
    past = w.stored;
    up = true;
    ended = ended_now w ∷ w.ended;
  }

  pub recovers_one : (new next : World V) → Recovers w new → Recovers w next → new ≡ next
  unfolding recovered
  recovers_one new next a b = a.new_is ∙ (ap (λ (p : List Entry). recovered p) same ∙ sym b.new_is)
    where
      same : a.part ≡ b.part
      same = part_one w.held a.part b.part h.firm.held_once a.part_of b.part_of
          (λ e i. part_unique (entries_of_line w) (log_of w.stored) w.held a.part b.part a.closed b.closed e i)
          (λ e i. part_unique (entries_of_line w) (log_of w.stored) w.held b.part a.part b.closed a.closed e i)

  recover_one : (to other : Outcome) (new next : World V) → OnRecover w to new → OnRecover w other next
      → (to ≡ other) × (new ≡ next)
  recover_one to other new next (inl a) (inl b) = (a.1 ∙ sym b.1, a.2 ∙ sym b.2)
  recover_one to other new next (inl a) (inr b) = let p : w.up ≡ true = a.0 in let q : w.up ≡ false = b.0 in absurd (cc)
  recover_one to other new next (inr a) (inl b) = let p : w.up ≡ false = a.0 in let q : w.up ≡ true = b.0 in absurd (cc)
  recover_one to other new next (inr a) (inr b) = (a.4 ∙ (words ∙ sym b.4), same)
    where
      same : new ≡ next
      same = recovers_one new next a.1 b.1

      keeps : a.2 ≡ b.2
      keeps = count_unique (λ e. IsIn e (log_of w.stored) → ⊥) new.held a.2 b.2 a.5
          (subst (λ (z : World V). IsCount (λ e. IsIn e (log_of w.stored) → ⊥) z.held b.2) (sym same) b.5)

      drops : a.3 ≡ b.3
      drops =
          let q : length new.held ≡ length next.held = ap (λ (z : World V). length z.held) same in
          omega (arith, q, a.6, b.6)

      words : outcome.Recovered new.epoch a.2 a.3 ≡ outcome.Recovered next.epoch b.2 b.3
      words =
          ap (λ (z : World V). outcome.Recovered z.epoch a.2 a.3) same
          ∙ (ap (λ (n : ℕ). outcome.Recovered next.epoch n a.3) keeps
          ∙ ap (λ (n : ℕ). outcome.Recovered next.epoch b.2 n) drops)

  show_one : (v : ℕ) (to other : Outcome) → OnShow s w v to → OnShow s w v other → to ≡ other
  show_one v to other (inl a) (inl b) = a.1 ∙ sym b.1
  show_one v to other (inl a) (inr (inl b)) = absurd (omega (arith, a.0, b.0))
  show_one v to other (inl a) (inr (inr b)) = absurd (omega (arith, a.0, b.0))
  show_one v to other (inr (inl a)) (inl b) = absurd (omega (arith, a.0, b.0))
  show_one v to other (inr (inr a)) (inl b) = absurd (omega (arith, a.0, b.0))
  show_one v to other (inr (inl a)) (inr (inl b)) = a.2 ∙ sym b.2
  show_one v to other (inr (inl a)) (inr (inr b)) =
      let p : w.up ≡ false = a.1 in let q : w.up ≡ true = b.1 in absurd (cc)
  show_one v to other (inr (inr a)) (inr (inl b)) =
      let p : w.up ≡ true = a.1 in let q : w.up ≡ false = b.1 in absurd (cc)
  show_one v to other (inr (inr a)) (inr (inr b)) = a.2 ∙ sym b.2

  of_thread : (t : ℕ) (to other : Outcome) (freed rest : List Sent) (new next : World V) (A B : Type 0)
      → (A → B → Same to other freed rest new next) → OfThread s w t to freed new A → OfThread s w t other rest next B
      → Same to other freed rest new next
  of_thread t to other freed rest new next A B both (inl a) (inl b) =
      record { outcome_is = a.1 ∙ sym b.1; freed_is = a.2 ∙ sym b.2; new_is = a.3 ∙ sym b.3 }
  of_thread t to other freed rest new next A B both (inl a) (inr b) = absurd (omega (arith, a.0, b.0))
  of_thread t to other freed rest new next A B both (inr a) (inl b) = absurd (omega (arith, a.0, b.0))
  of_thread t to other freed rest new next A B both (inr a) (inr b) = both a.1 b.1

  pair_same : (to other : Outcome) (freed rest : List Sent) (new next : World V) → (to ≡ other) × (new ≡ next)
      → freed ≡ [] → rest ≡ [] → Same to other freed rest new next
  pair_same to other freed rest new next r a b = record { outcome_is = r.0; freed_is = a ∙ sym b; new_is = r.1 }

  pub on_one : (ev : Event) (to other : Outcome) (freed rest : List Sent) (new next : World V) → On s w ev to freed new
      → On s w ev other rest next → Same to other freed rest new next
  on_one (event.Feed n) to other freed rest new next a b =
      record { outcome_is = a.0 ∙ sym b.0; freed_is = a.1 ∙ sym b.1; new_is = a.2 ∙ sym b.2 }
  on_one (event.Time n) to other freed rest new next a b =
      record { outcome_is = a.0 ∙ sym b.0; freed_is = a.1 ∙ sym b.1; new_is = a.2 ∙ sym b.2 }
  on_one (event.Step t given) to other freed rest new next a b =
      pair_same to other freed rest new next (step_one t given to other new next a.0 b.0) a.1 b.1
  on_one (event.Log t n) to other freed rest new next a b =
      of_thread t to other freed rest new next _ _ (log_one t n to other freed rest new next) a b
  on_one (event.Out t j) to other freed rest new next a b = of_thread t to other freed rest new next _ _
      (λ x y. pair_same to other freed rest new next (out_one t j to other new next x.0 y.0) x.1 y.1) a b
  on_one (event.Late epoch k t n) to other freed rest new next a b =
      of_thread t to other freed rest new next _ _ (late_one epoch k t n to other freed rest new next) a b
  on_one (event.Cut k t n len) to other freed rest new next a b =
      of_thread t to other freed rest new next _ _ (cut_one k t n len to other freed rest new next) a b
  on_one event.Snap to other freed rest new next a b =
      pair_same to other freed rest new next (snap_one to other new next a.0 b.0) a.1 b.1
  on_one event.Store to other freed rest new next a b = store_one to other freed rest new next a b
  on_one event.Crash to other freed rest new next a b =
      pair_same to other freed rest new next (crash_one to other new next a.0 b.0) a.1 b.1
  on_one event.Recover to other freed rest new next a b =
      pair_same to other freed rest new next (recover_one to other new next a.0 b.0) a.1 b.1
  on_one (event.Show v) to other freed rest new next a b =
      record { outcome_is = show_one v to other a.0 b.0; freed_is = a.1 ∙ sym b.1; new_is = a.2 ∙ sym b.2 }
  on_one event.Settle to other freed rest new next a b = absurd a
  on_one (event.Flow n) to other freed rest new next a b =
      record { outcome_is = a.1 ∙ sym b.1; freed_is = a.2 ∙ sym b.2; new_is = a.3 ∙ sym b.3 }
  on_one (event.Auto seed n) to other freed rest new next a b = absurd a
