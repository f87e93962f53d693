-- No packet vanishes.
use Rattle.std.proofs.Common.{◌≡◌, ◌≢◌, ℕ, zero, suc, ◌+◌, ◌*◌, ◌%◌, ◌^◌, ◌<◌, ◌≤◌, Bool, true, false, List, [], ◌∷◌}
use Rattle.std.proofs.Common.{length, refl, sym, ap, ◌∙◌, subst, ◌⊎◌, inl, inr, arith, Option, Some, None}
use Rattle.std.specs.Prelude.{cond, nat_eq, ◌==◌, if◌then◌else◌, Result, Ok, Err}
use Rattle.plain_text.specs.declared.packet.Packet.{Packet}
use Rattle.entry_order.specs.Stamps.{sum_below}
use Rattle.entry_order.proofs.Order.{is_or}
use Rattle.packet_headers.specs.declared.flow.Flow.{Flow}
use Rattle.packet_headers.specs.declared.flow.NotFlow.{NotFlow}
use Rattle.plain_machine.specs.declared.local.Move.TheVariants.{Access}
use Rattle.plain_machine.specs.Machine.{Hand, Thread, Effect, Takes, Touches, Looks, HearsClock, HearsDraw, Sends}
use Rattle.plain_machine.specs.Machine.{Ends as EndsIt, Moves, held_move}
use Rattle.plain_machine.specs.History.{Step, act_of, sent_more, sent_of, outputs, left_by, thread_after, value_after}
use Rattle.plain_machine.specs.History.{IsHistory}
use Rattle.plain_machine.proofs.Histories.{not_eq, is_eq}
use Rattle.plain_machine.proofs.Bounds.{values_fit}
use Rattle.nat_tables.specs.declared.entries.Endpoint.{Endpoint}
use Rattle.nat_tables.specs.declared.entries.Find.{Find}
use Rattle.nat_tables.specs.declared.entries.Find.TheVariants.{Live, Absent}
use Rattle.nat_tables.specs.declared.entries.Bind.{Bind}
use Rattle.nat_tables.specs.declared.entries.Bind.TheVariants.{Bound, Other}
use Rattle.nat_tables.specs.Ports.{reserve}
use Rattle.nat_tables.specs.Forwards.{Forwards, find, find_or_bind, lives}
use Rattle.nat_tables.specs.Hosts.{is_full, find_within, bind_within}
use Rattle.nat_tables.specs.Reverses.{endpoint_of}
use Rattle.nat_box.specs.declared.place.Place.{Place}
use Rattle.nat_box.specs.declared.place.Place.TheVariants.{HearsTime, DrawsWord}
use Rattle.nat_box.specs.declared.place.Class.{Class}
use Rattle.nat_box.specs.declared.place.Class.TheVariants.{Outbound, Hairpin, Inbound, OutboundError}
use Rattle.nat_box.specs.declared.place.Noted.{Noted}
use Rattle.flow_boxes.specs.declared.drops.Drops.{Drops}
use Rattle.nat_box.specs.declared.value.NatValue.{NatValue}
use Rattle.nat_box.specs.declared.value.NatValue.TheVariants.{Dropped, Free, Mapped, Taken}
use Rattle.nat_box.specs.Places.{noted, dest_key, drawn_word, drop_reason, is_refused}
use Rattle.nat_box.specs.declared.place.Goes.{Goes}
use Rattle.nat_box.specs.declared.seeing.Seen.{Seen}
use Rattle.flow_boxes.specs.Drops.{with_drop}
use Rattle.nat_box.specs.Settings.{Settings, AreSettings}
use Rattle.nat_box.specs.Nat.{goes, seen_by, flow_in, class_in, begun_by, begun, mapped, after_find, after_reserve}
use Rattle.nat_box.specs.Nat.{after_bind, live_port, after_port, dropped, over_limit, after_find_within}
use Rattle.nat_box.specs.Nat.{after_bind_within, after_lost, touched_by, followed, after_endpoint, looked_by, looked}
use Rattle.nat_box.specs.Nat.{after_time, told, nat_meaning, Fits}
use Rattle.nat_box.specs.Noting.{place_again}
use Rattle.nat_box.specs.Ranks.{var_of, touches_it}
use Rattle.nat_box.specs.Lawful.{nat_lawful}
use Rattle.flow_boxes.proofs.Summing.{one_changes, sum_of_none, term_of_sum}
use Rattle.nat_box.proofs.Making.{comes_to, goes_on}
use Rattle.nat_runs.specs.Met.{Met, met_of}
use Rattle.nat_runs.specs.Passing.{taken_by, taken_in, drops_in, waits_at, waits, waiting, counted_by, HasPassed}
use Rattle.nat_runs.specs.Passing.{EachPasses, NoneVanishes, NoneVanishesAtRest}
use Rattle.nat_runs.proofs.DropCounts.{drop_is, one_more_long, one_more_sum}
use Rattle.nat_runs.proofs.ThreadMoves.{TouchKind, finds, unbinds_freed, gives_freed, reserves, binds, finds_or_binds}
use Rattle.nat_runs.proofs.ThreadMoves.{unbinds_lost, gives_lost, counts, LookKind, finds_endpoint, asks, finds_port}
use Rattle.nat_runs.proofs.ThreadMoves.{touch_kind, look_kind, at_clock, at_draw, at_emit, at_end, at, touched_below}
use Rattle.nat_runs.proofs.ThreadMoves.{read_below, begins_with, by_thread_move, by_move}
use Rattle.nat_runs.proofs.Known.{KnownAt, Known}
use Rattle.nat_runs.proofs.Knowing.{run_known}

-- Who waits

waits_on : (h : Hand) (g : Goes) → waits (goes_on h g) ≡ waits_at g.place
waits_on h g = ap waits_at (place_again g.place)

begun_waits : (s : Settings) (seen : Seen) → waits_at (begun s seen).place ≡ 1
begun_waits s seen = by (flow_in seen) (class_in s seen)
  where
    by : (r : Result Flow NotFlow) (o : Option Class) → waits_at (begun_by s r o).place ≡ 1
    by (Ok flow) (Some class) = refl
    by (Ok flow) None = refl
    by (Err answer) o = refl

mapped_waits : (n : Noted) (c : Class) → waits_at (mapped n c).place ≡ 1
mapped_waits n Outbound = refl
mapped_waits n Hairpin = refl
mapped_waits n Inbound = refl
mapped_waits n OutboundError = refl

found_waits : (n : Noted) (f : Find) → waits_at (after_find n f).place ≡ 1
found_waits n (Live port) = mapped_waits (record n { port = port }) n.class
found_waits n (Absent (Some freed)) = refl
found_waits n (Absent None) = refl

bound_waits : (n : Noted) (b : Bind) → waits_at (after_bind n b).place ≡ 1
bound_waits n Bound = mapped_waits n n.class
bound_waits n (Other port) = refl

reserved_waits : (n : Noted) (o : Option ℕ) → waits_at (after_reserve n o).place ≡ 1
reserved_waits n (Some port) = refl
reserved_waits n None = refl

within_waits : (most : ℕ) (n : Noted) (f : Find) (es : Forwards)
    → waits_at (after_find_within most n f es).place ≡ 1
within_waits most n (Live port) es = found_waits n (Live port)
within_waits most n (Absent (Some freed)) es = refl
within_waits most n (Absent None) es = by (is_full most n.source es)
  where
    by : (full : Bool) → waits_at (if full then dropped n over_limit else goes DrawsWord n).place ≡ 1
    by true = refl
    by false = refl

bind_waits : (n : Noted) (b : Option Bind) → waits_at (after_bind_within n b).place ≡ 1
bind_waits n (Some bind) = bound_waits n bind
bind_waits n None = refl

lost_waits : (n : Noted) (none : Bool) → waits_at (after_lost n none).place ≡ 1
lost_waits n true = refl
lost_waits n false = mapped_waits n n.class

-- before and after a touch of another variable than the counts
touch_waits : (s : Settings) (place : Place) (x : NatValue) (n : Noted) (limit : Option ℕ) → TouchKind place x
    → var_of s place n ≢ 0 → (waits_at place ≡ 1) × (waits_at (touched_by limit place x n).1.place ≡ 1)
touch_waits s _ _ n None (finds es) other = (refl, found_waits n (find n.source n.time es).0)
touch_waits s _ _ n (Some most) (finds es) other =
    let r = find_within most n.source n.time es in (refl, within_waits most n r.0 r.1)
touch_waits s _ _ n None (unbinds_freed bs) other = (refl, refl)
touch_waits s _ _ n (Some most) (unbinds_freed bs) other = (refl, refl)
touch_waits s _ _ n None (gives_freed pool) other = (refl, refl)
touch_waits s _ _ n (Some most) (gives_freed pool) other = (refl, refl)
touch_waits s _ _ n None (reserves pool) other =
    (refl, reserved_waits n (reserve n.source.protocol n.source.port (drawn_word n) pool).0)
touch_waits s _ _ n (Some most) (reserves pool) other =
    (refl, reserved_waits n (reserve n.source.protocol n.source.port (drawn_word n) pool).0)
touch_waits s _ _ n None (binds bs) other = (refl, refl)
touch_waits s _ _ n (Some most) (binds bs) other = (refl, refl)
touch_waits s _ _ n None (finds_or_binds es) other = (refl, bound_waits n (find_or_bind n.source n.port n.time es).0)
touch_waits s _ _ n (Some most) (finds_or_binds es) other =
    (refl, bind_waits n (bind_within most n.source n.port n.time es).0)
touch_waits s _ _ n None (unbinds_lost bs) other = (refl, refl)
touch_waits s _ _ n (Some most) (unbinds_lost bs) other = (refl, refl)
touch_waits s _ _ n None (gives_lost pool) other = (refl, mapped_waits n n.class)
touch_waits s _ _ n (Some most) (gives_lost pool) other = (refl, lost_waits n (is_refused n))
touch_waits s _ _ n limit (counts d) other = absurd (other refl)

look_waits : (place : Place) (x : NatValue) (n : Noted) → LookKind place x
    → (waits_at place ≡ 1) × (waits_at (looked place x n).place ≡ 1)
look_waits _ _ n (finds_endpoint bs) = (refl, by (endpoint_of (dest_key n) bs))
  where
    by : (o : Option Endpoint) → waits_at (after_endpoint n o).place ≡ 1
    by (Some key) = refl
    by None = refl
look_waits _ _ n (asks es) = (refl, by (lives n.target n.dest_port n.time es))
  where
    by : (b : Bool) → waits_at (looked_by n b).place ≡ 1
    by true = refl
    by false = refl
look_waits _ _ n (finds_port es) = (refl, by (live_port n.source n.time es))
  where
    by : (o : Option ℕ) → waits_at (after_port n o).place ≡ 1
    by (Some port) = refl
    by None = refl

time_waits : (n : Noted) (c : Class) → waits_at (after_time n c).place ≡ 1
time_waits n Outbound = refl
time_waits n Hairpin = refl
time_waits n Inbound = refl
time_waits n OutboundError = refl

told_waits : (place : Place) (a : ℕ) (n : Noted) → (place ≡ HearsTime) ⊎ (place ≡ DrawsWord)
    → (waits_at place ≡ 1) × (waits_at (told place a n).place ≡ 1)
told_waits place a n (inl q) =
    subst (λ (z : Place). (waits_at z ≡ 1) × (waits_at (told z a n).place ≡ 1)) (sym q)
    (refl, time_waits (record n { time = a }) n.class)
told_waits place a n (inr q) =
    subst (λ (z : Place). (waits_at z ≡ 1) × (waits_at (told z a n).place ≡ 1)) (sym q) (refl, refl)

-- The counts are ten

abbrev AreTen : NatValue → Type 0
AreTen (Dropped d) = length d.counts ≡ 10
AreTen (Free pool) = ⊥
AreTen (Mapped es) = ⊥
AreTen (Taken bs) = ⊥

-- Sums of one move

module _ (s : Settings) (is : AreSettings s) (packets : List Packet) (value : ℕ → NatValue) (t : ℕ)
    (earlier : List (Step NatValue)) (taken taken_then : ℕ)
    (fits : (v : ℕ) → v < 2 + 2 * s.shards → Fits s v (value v)) (m : Met) (ten : AreTen (value 0)) where
  abbrev sent_then : Effect NatValue → ℕ
  sent_then d = length (sent_more (act_of t earlier taken_then d) (sent_of earlier))

  abbrev counts_then : Effect NatValue → NatValue
  counts_then d = left_by 0 (act_of t earlier taken_then d) (value 0)

  abbrev Adds : Option Hand → Option Hand → Effect NatValue → Type 0
  Adds before after d =
      Known s m before → AreTen (counts_then d)
      × ((sent_then d + drops_in (counts_then d) + waits after) % 2 ^ 64
      ≡ (length (sent_of earlier) + drops_in (value 0) + waits before + taken_by (act_of t earlier taken_then d))
      % 2 ^ 64)

  same_sum : (before after : ℕ) → before ≡ after
      → (length (sent_of earlier) + drops_in (value 0) + after) % 2 ^ 64
      ≡ (length (sent_of earlier) + drops_in (value 0) + before + 0) % 2 ^ 64
  same_sum before after e = omega arith

  abbrev Sums : ℕ → NatValue → NatValue → ℕ → Type 0
  Sums after left x before =
      AreTen left
      × ((length (sent_of earlier) + drops_in left + after) % 2 ^ 64
      ≡ (length (sent_of earlier) + drops_in x + before + 0) % 2 ^ 64)

  counted_sum : (reason : ℕ) (d : Drops) → AreTen (Dropped d) → 1 ≤ reason
      → reason ≤ 10 → Sums 0 (Dropped (with_drop reason d)) (Dropped d) 1
  counted_sum reason d long low high =
      let sum = one_more_sum reason d low high long in
      subst (λ (e : Drops). Sums 0 (Dropped e) (Dropped d) 1) (sym (drop_is reason d low high))
      (one_more_long reason d ∙ long, omega arith)

  at_count : (h : Hand) (place : Place) (x : NatValue) (limit : Option ℕ) → TouchKind place x
      → var_of s place (noted h.place) ≡ 0 → AreTen x → KnownAt s m h.packet place (noted h.place)
      → (let r = touched_by limit place x (noted h.place) in
      Sums (waits (goes_on h r.1)) (followed s (noted h.place) r.0) x (waits_at place))
  at_count h _ _ limit (finds es) e long k = absurd long
  at_count h _ _ limit (unbinds_freed bs) e long k = absurd long
  at_count h _ _ limit (gives_freed pool) e long k = absurd long
  at_count h _ _ limit (reserves pool) e long k = absurd long
  at_count h _ _ limit (binds bs) e long k = absurd long
  at_count h _ _ limit (finds_or_binds es) e long k = absurd long
  at_count h _ _ limit (unbinds_lost bs) e long k = absurd long
  at_count h _ _ limit (gives_lost pool) e long k = absurd long
  at_count h _ _ None (counts d) e long k = counted_sum (drop_reason (noted h.place)) d long k.0 k.1
  at_count h _ _ (Some most) (counts d) e long k = counted_sum (drop_reason (noted h.place)) d long k.0 k.1

  at_touch : (h : Hand) (w : ℕ) → comes_to s h (Access w) → Known s m (Some h)
      → (let r = touched_by s.limit (at h) (value w) (noted h.place) in
      Sums (waits (goes_on h r.1)) (cond (nat_eq w 0) (followed s (noted h.place) r.0) (value 0)) (value 0)
      (waits_at (at h)))
  at_touch h w move k = by (is_or w 0)
    where
      n : Noted
      n = noted h.place

      after : ℕ
      after = waits (goes_on h (touched_by s.limit (at h) (value w) n).1)

      left : NatValue
      left = followed s n (touched_by s.limit (at h) (value w) n).0

      it : var_of s (at h) n ≡ w
      it = touches_it s (at h) n w move

      kind : TouchKind (at h) (value w)
      kind = touch_kind s is.some n w (value w) (fits w (touched_below s is h w move)) (at h) move

      by : (w ≡ 0) ⊎ (w ≢ 0) → Sums after (cond (nat_eq w 0) left (value 0)) (value 0) (waits_at (at h))
      by (inl q) =
          let long : AreTen (value w) = subst (λ (u : ℕ). AreTen (value u)) (sym q) ten in
          let sums : Sums after left (value w) (waits_at (at h)) =
          at_count h (at h) (value w) s.limit kind (it ∙ q) long k in
          subst (λ (b : Bool). Sums after (cond b left (value 0)) (value 0) (waits_at (at h))) (sym (is_eq w 0 q))
          (subst (λ (u : ℕ). Sums after left (value u) (waits_at (at h))) q sums)
      by (inr q) =
          let both = touch_waits s (at h) (value w) n s.limit kind (λ e. q (sym it ∙ e)) in
          let later : after ≡ 1 = waits_on h (touched_by s.limit (at h) (value w) n).1 ∙ both.1 in
          subst (λ (b : Bool). Sums after (cond b left (value 0)) (value 0) (waits_at (at h))) (sym (not_eq w 0 q))
          (ten, same_sum (waits_at (at h)) after (both.0 ∙ sym later))

  pub move_adds : (after : Thread) (d : Effect NatValue) (hand : Option Hand) (a : Option ℕ)
      → held_move (nat_meaning s) packets value taken a hand ≡ Moves after d → Adds hand after.hand d
  move_adds after d hand a move =
      by_move s packets value taken Adds
      (λ p input k.
      let one = ap waits_at (place_again (begun s (seen_by s p)).place) ∙ begun_waits s (seen_by s p) in
      (ten, omega (arith, one)))
      (λ h w c k. at_touch h w c k)
      (λ h w c k.
      let kind = look_kind s is.some (noted h.place) w (value w) (fits w (read_below s is h w c)) (at h) c in
      let both = look_waits (at h) (value w) (noted h.place) kind in
      let later = waits_on h (looked (at h) (value w) (noted h.place)) ∙ both.1 in
      (ten, same_sum _ _ (both.0 ∙ sym later)))
      (λ h x c k.
      let both = told_waits (at h) x (noted h.place) (inl (at_clock s (at h) (noted h.place) c)) in
      let later = waits_on h (told (at h) x (noted h.place)) ∙ both.1 in
      (ten, same_sum _ _ (both.0 ∙ sym later)))
      (λ h x c k.
      let both = told_waits (at h) x (noted h.place) (inr (at_draw s (at h) (noted h.place) c)) in
      let later = waits_on h (told (at h) x (noted h.place)) ∙ both.1 in
      (ten, same_sum _ _ (both.0 ∙ sym later)))
      (λ h c k.
      let one : waits_at (at h) ≡ 1 = ap waits_at (at_emit s (at h) (noted h.place) c) in
      (ten, omega (arith, one)))
      (λ h c k.
      let none : waits_at (at h) ≡ 0 = ap waits_at (at_end s (at h) (noted h.place) c) in
      (ten, omega (arith, none)))
      after d hand a move

-- The whole

waiting_step : (threads t : ℕ) (after : Thread) (thread : ℕ → Thread) → t < threads
    → waiting threads (λ u. cond (nat_eq t u) after (thread u)) + waits (thread t).hand
    ≡ waiting threads thread + waits after.hand
waiting_step threads t after thread low =
    let f : ℕ → ℕ = λ u. waits (cond (nat_eq t u) after (thread u)).hand in
    let g : ℕ → ℕ = λ u. waits (thread u).hand in
    let one : sum_below threads f + g t ≡ sum_below threads g + f t =
    one_changes threads t f g low (λ u h. rw (not_eq t u (λ k. h (sym k))) refl) in
    let new : f t ≡ waits after.hand = rw (is_eq t t refl) refl in
    omega arith

add_up : (sent sent_then drops drops_then before after sum sum_then taken one : ℕ) → sum_then + before ≡ sum + after
    → before ≤ sum
    → (sent_then + drops_then + after) % 2 ^ 64 ≡ (sent + drops + before + one) % 2 ^ 64
    → (sent + drops + sum) % 2 ^ 64 ≡ taken % 2 ^ 64
    → (sent_then + drops_then + sum_then) % 2 ^ 64 ≡ (one + taken) % 2 ^ 64
add_up sent sent_then drops drops_then before after sum sum_then taken one a low b c = omega arith

run_counts : (s : Settings) (threads : ℕ) (inputs : ℕ → List Packet) (steps : List (Step NatValue)) → AreSettings s
    → IsHistory (nat_meaning s) inputs threads steps
    → AreTen (value_after (nat_meaning s) steps 0)
    × ((length (sent_of steps) + drops_in (value_after (nat_meaning s) steps 0)
    + waiting threads (thread_after steps)) % 2 ^ 64 ≡ taken_in steps % 2 ^ 64)
run_counts s threads inputs [] is h =
    let none : waiting threads (thread_after {V = NatValue} []) ≡ 0 = sum_of_none threads _ (λ t. refl) in
    (refl, omega (arith, none))
run_counts s threads inputs (x ∷ earlier) is h =
    let old = run_counts s threads inputs earlier is h.1 in
    let fits = values_fit (nat_meaning s) (Fits s) (nat_lawful s is) inputs threads earlier h.1 in
    let value : ℕ → NatValue = value_after (nat_meaning s) earlier in
    let before : Thread = thread_after earlier x.thread in
    let adds = move_adds s is (inputs x.thread) value x.thread earlier before.taken x.after.taken fits
    (met_of s x.thread earlier) old.0 x.after h.0.2 before.hand h.0.1 h.0.3
    (run_known s threads inputs earlier is h.1 x.thread) in
    let low : waits before.hand ≤ waiting threads (thread_after earlier) =
    term_of_sum threads x.thread (λ u. waits (thread_after earlier u).hand) h.0.0 in
    let step = waiting_step threads x.thread x.after (thread_after earlier) h.0.0 in
    rw h.0.4 (adds.0, add_up _ _ _ _ _ _ _ _ _ _ step low adds.1 old.1)

-- Each thread

module _ (s : Settings) (is : AreSettings s) (packets : List Packet) (value : ℕ → NatValue) (t : ℕ)
    (earlier : List (Step NatValue)) (taken taken_then : ℕ)
    (fits : (v : ℕ) → v < 2 + 2 * s.shards → Fits s v (value v)) where
  abbrev Passes : Option Hand → Thread → Effect NatValue → Type 0
  Passes before after d =
      outputs t (sent_more (act_of t earlier taken_then d) (sent_of earlier))
      + counted_by (act_of t earlier taken_then d)
      + waits after.hand
      + taken
      ≡ outputs t (sent_of earlier) + waits before + after.taken

  passes_on : (sent counted after before : ℕ) → counted + after ≡ before
      → sent + counted + after + taken ≡ sent + before + taken
  passes_on sent counted after before e = omega arith

  abbrev once : ℕ → ℕ
  once w = if w == 0 then 1 else 0

  touch_passes : (h : Hand) (w : ℕ) → comes_to s h (Access w)
      → once w + waits (goes_on h (touched_by s.limit (at h) (value w) (noted h.place)).1) ≡ waits_at (at h)
  touch_passes h w move = by (is_or w 0)
    where
      n : Noted
      n = noted h.place

      g : Goes
      g = (touched_by s.limit (at h) (value w) n).1

      it : var_of s (at h) n ≡ w
      it = touches_it s (at h) n w move

      kind : TouchKind (at h) (value w)
      kind = touch_kind s is.some n w (value w) (fits w (touched_below s is h w move)) (at h) move

      counted : (place : Place) (x : NatValue) (limit : Option ℕ) → TouchKind place x → var_of s place n ≡ 0
          → (waits_at place ≡ 1) × (waits_at (touched_by limit place x n).1.place ≡ 0)
      counted _ _ limit (finds es) e = absurd (omega arith)
      counted _ _ limit (unbinds_freed bs) e = absurd (omega arith)
      counted _ _ limit (gives_freed pool) e = absurd (omega arith)
      counted _ _ limit (reserves pool) e = absurd (omega arith)
      counted _ _ limit (binds bs) e = absurd (omega arith)
      counted _ _ limit (finds_or_binds es) e = absurd (omega arith)
      counted _ _ limit (unbinds_lost bs) e = absurd (omega arith)
      counted _ _ limit (gives_lost pool) e = absurd (omega arith)
      counted _ _ None (counts d) e = (refl, refl)
      counted _ _ (Some most) (counts d) e = (refl, refl)

      by : (w ≡ 0) ⊎ (w ≢ 0) → once w + waits (goes_on h g) ≡ waits_at (at h)
      by (inl q) =
          let both = counted (at h) (value w) s.limit kind (it ∙ q) in
          let after : waits (goes_on h g) ≡ 0 = waits_on h g ∙ both.1 in
          let one : once w ≡ 1 = ap (λ (b : Bool). if b then 1 else 0) (is_eq w 0 q) in
          omega (arith, both.0, after, one)
      by (inr q) =
          let both = touch_waits s (at h) (value w) n s.limit kind (λ e. q (sym it ∙ e)) in
          let after : waits (goes_on h g) ≡ 1 = waits_on h g ∙ both.1 in
          let none : once w ≡ 0 = ap (λ (b : Bool). if b then 1 else 0) (not_eq w 0 q) in
          omega (arith, both.0, after, none)

  pub move_passes : (after : Thread) (d : Effect NatValue) (hand : Option Hand) (a : Option ℕ)
      → held_move (nat_meaning s) packets value taken a hand ≡ Moves after d → Passes hand after d
  move_passes after d hand a move =
      by_thread_move s packets value taken Passes
      (λ p input.
      let one : waits (begins_with s p) ≡ 1 =
      ap waits_at (place_again (begun s (seen_by s p)).place) ∙ begun_waits s (seen_by s p) in
      omega (arith, one))
      (λ h w c. passes_on _ _ _ _ (touch_passes h w c))
      (λ h w c.
      let kind = look_kind s is.some (noted h.place) w (value w) (fits w (read_below s is h w c)) (at h) c in
      let both = look_waits (at h) (value w) (noted h.place) kind in
      let later = waits_on h (looked (at h) (value w) (noted h.place)) ∙ both.1 in
      passes_on _ 0 _ _ (omega (arith, both.0, later)))
      (λ h x c.
      let both = told_waits (at h) x (noted h.place) (inl (at_clock s (at h) (noted h.place) c)) in
      let later = waits_on h (told (at h) x (noted h.place)) ∙ both.1 in
      passes_on _ 0 _ _ (omega (arith, both.0, later)))
      (λ h x c.
      let both = told_waits (at h) x (noted h.place) (inr (at_draw s (at h) (noted h.place) c)) in
      let later = waits_on h (told (at h) x (noted h.place)) ∙ both.1 in
      passes_on _ 0 _ _ (omega (arith, both.0, later)))
      (λ h c.
      let one : waits_at (at h) ≡ 1 = ap waits_at (at_emit s (at h) (noted h.place) c) in
      let sent : cond (nat_eq t t) (outputs t (sent_of earlier) + 1) (outputs t (sent_of earlier))
      ≡ outputs t (sent_of earlier) + 1 =
      ap (λ (b : Bool). cond b (outputs t (sent_of earlier) + 1) (outputs t (sent_of earlier))) (is_eq t t refl) in
      omega (arith, one, sent))
      (λ h c.
      let none : waits_at (at h) ≡ 0 = ap waits_at (at_end s (at h) (noted h.place) c) in
      omega (arith, none))
      after d hand a move

-- the steps of another thread
outputs_other : (t u taken : ℕ) (earlier : List (Step NatValue)) (d : Effect NatValue) → u ≢ t
    → outputs t (sent_more (act_of u earlier taken d) (sent_of earlier)) ≡ outputs t (sent_of earlier)
outputs_other t u taken earlier Takes other = refl
outputs_other t u taken earlier (Touches v left) other = refl
outputs_other t u taken earlier (Looks v) other = refl
outputs_other t u taken earlier (HearsClock a) other = refl
outputs_other t u taken earlier (HearsDraw a) other = refl
outputs_other t u taken earlier (Sends q) other =
    ap (λ (b : Bool). cond b (outputs t (sent_of earlier) + 1) (outputs t (sent_of earlier))) (not_eq u t other)
outputs_other t u taken earlier EndsIt other = refl

pass_on : (sent sent_then counted one before after taken taken_then : ℕ)
    → sent_then + one + after + taken ≡ sent + before + taken_then → sent + counted + before ≡ taken
    → sent_then + (one + counted) + after ≡ taken_then
pass_on sent sent_then counted one before after taken taken_then a b = omega arith

pub each_passes : EachPasses
each_passes s threads inputs [] is h t = refl
each_passes s threads inputs (x ∷ earlier) is h t =
    by (is_or x.thread t) (each_passes s threads inputs earlier is h.1 x.thread)
    (each_passes s threads inputs earlier is h.1 t)
  where
    own : HasPassed x.thread earlier → HasPassed x.thread (x ∷ earlier)
    own old =
        let fits = values_fit (nat_meaning s) (Fits s) (nat_lawful s is) inputs threads earlier h.1 in
        let before : Thread = thread_after earlier x.thread in
        let passes = move_passes s is (inputs x.thread) (value_after (nat_meaning s) earlier) x.thread earlier
        before.taken x.after.taken fits x.after h.0.2 before.hand h.0.1 h.0.3 in
        rw (is_eq x.thread x.thread refl, h.0.4) (pass_on _ _ _ _ _ _ _ _ passes old)

    by : (x.thread ≡ t) ⊎ (x.thread ≢ t) → HasPassed x.thread earlier → HasPassed t earlier
        → HasPassed t (x ∷ earlier)
    by (inl q) old other = subst (λ (u : ℕ). HasPassed u (x ∷ earlier)) q (own old)
    by (inr q) old other =
        let sent = outputs_other t x.thread x.after.taken earlier h.0.2 q in
        rw (not_eq x.thread t q, h.0.4, sent) other

pub none_vanishes : NoneVanishes
none_vanishes s threads inputs steps is h = (run_counts s threads inputs steps is h).1

pub none_vanishes_at_rest : NoneVanishesAtRest
none_vanishes_at_rest s threads inputs steps is h rest =
    let all = (run_counts s threads inputs steps is h).1 in
    let none : waiting threads (thread_after steps) ≡ 0 =
    sum_of_none_below threads (λ t. waits (thread_after steps t).hand) (λ t low. ap waits (rest t low)) in
    omega arith
  where
    sum_of_none_below : (n : ℕ) (f : ℕ → ℕ) → ((k : ℕ) → k < n → f k ≡ 0) → sum_below n f ≡ 0
    sum_of_none_below zero f none = refl
    sum_of_none_below (suc n) f none =
        let a : sum_below n f ≡ 0 = sum_of_none_below n f (λ k low. none k (omega arith)) in
        let b : f n ≡ 0 = none n (omega arith) in
        omega arith
