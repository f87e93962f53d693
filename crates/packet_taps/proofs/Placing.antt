-- What becomes of taps when packets are shown, and then more.
use Rattle.std.proofs.Common.{◌≡◌, ◌<◌, ◌≤◌, ◌+◌, ◌-◌, ℕ, suc, true, false, List, [], ◌∷◌, ◌++◌, length, take}
use Rattle.std.proofs.Common.{refl}
use Rattle.std.proofs.Common.{sym, ap, ◌∙◌, subst, arith, append_assoc, append-nil, length-append}
use Rattle.std.proofs.Math.Seq.{take-append-add}
use Rattle.std.proofs.lemmas.List.{take-append-le}
use Rattle.plain_text.specs.declared.packet.Packet.{Packet}
use Rattle.world_io.specs.Stream.{Rose}
use Rattle.packet_taps.specs.declared.place.Taken.{Taken}
use Rattle.packet_taps.specs.declared.place.LostPacket.{LostPacket}
use Rattle.packet_taps.specs.declared.place.Place.{Place}
use Rattle.packet_taps.specs.declared.place.Place.TheVariants.{Seated, Lost, Out}
use Rattle.packet_taps.specs.Windows.{window, skip_behind, quota_behind}
use Rattle.packet_taps.specs.Places.{Stays, IsLost, IsShown, AreShown}
use Rattle.packet_taps.proofs.Windows.{window-nil, window-append, window-passes, window-takes}

rose_from : (a b c : ℕ) → a ≤ b → Rose b c → Rose a c
rose_from a b c up rose = omega (arith, up, rose)

module _ {T : Type 0} (saw missed : T → List Packet → Type 0) (faults lacks : T → ℕ) where
  -- the packet passes a tap by, which stays as it is but for its window
  pub passes_by : (tap : T) (skip quota : ℕ) (packet : Packet) → 0 < skip
      → Stays saw missed faults lacks (packet ∷ []) (record { tap = tap; skip = skip; quota = quota })
      (record { tap = tap; skip = skip - 1; quota = quota })
  passes_by tap skip quota packet some = record {
    saw_window = λ before h. subst (λ l. saw tap l)
        (sym (append-nil before) ∙ ap (λ l. before ++ l) (sym (window-passes skip quota packet some))) h;
    faults_kept = omega arith;
    lacks_kept = omega arith;
    skip = refl;
    quota = omega (arith, some);
  }

  -- the window is over
  pub is_over : (tap : T) (skip quota : ℕ) (packet : Packet) → skip ≡ 0 → quota ≡ 0
      → Stays saw missed faults lacks (packet ∷ []) (record { tap = tap; skip = skip; quota = quota })
      (record { tap = tap; skip = skip; quota = quota })
  is_over tap skip quota packet no_skip no_quota = rw (no_skip, no_quota) (record {
    saw_window = λ before h. subst (λ l. saw tap l) (sym (append-nil before)) h;
    faults_kept = omega arith;
    lacks_kept = omega arith;
    skip = omega arith;
    quota = omega arith;
  })

  pub is_taken : (tap new : T) (skip quota : ℕ) (packet : Packet) → skip ≡ 0 → 0 < quota
      → ((before : List Packet) → saw tap before → saw new (before ++ packet ∷ [])) → faults tap ≤ faults new
      → lacks tap ≤ lacks new
      → Stays saw missed faults lacks (packet ∷ []) (record { tap = tap; skip = skip; quota = quota })
      (record { tap = new; skip = skip; quota = quota - 1 })
  is_taken tap new skip quota packet no_skip some took more_faults more_lacks = rw no_skip (record {
    saw_window = λ before h. subst (λ l. saw new l)
        (ap (λ l. before ++ l) (sym (window-takes quota packet some))) (took before h);
    faults_kept = more_faults;
    lacks_kept = more_lacks;
    skip = omega arith;
    quota = omega arith;
  })

  pub is_lost : (tap : T) (lost : LostPacket T) (skip quota : ℕ) (packet : Packet) → skip ≡ 0 → 0 < quota
      → ((before : List Packet) → saw tap before → missed lost.object (before ++ packet ∷ []))
      → (lost.memory ≡ false → Rose (faults tap) (faults lost.object))
      → (lost.memory ≡ true → Rose (lacks tap) (lacks lost.object))
      → IsLost saw missed faults lacks (packet ∷ []) (record { tap = tap; skip = skip; quota = quota }) lost
  is_lost tap lost skip quota packet no_skip some misses failed lacked = rw no_skip (record {
    count = 0;
    within = omega (arith, ap length (window-takes quota packet some));
    missed_next = λ before h. subst (λ l. missed lost.object (before ++ l))
        (sym (ap (take 1) (window-takes quota packet some))) (misses before h);
    failed = failed;
    lacked = lacked;
  })

  module _ (p q : List Packet) (a : Taken T) where
    seams : (b : Taken T) → Stays saw missed faults lacks p a b
        → window a.skip a.quota (p ++ q) ≡ window a.skip a.quota p ++ window b.skip b.quota q
    seams b s = window-append a.skip a.quota p q
        ∙ ap (λ n. window a.skip a.quota p ++ window n (quota_behind a.skip a.quota (length p)) q) (sym s.skip)
        ∙ ap (λ n. window a.skip a.quota p ++ window b.skip n q) (sym s.quota)

    pub stays_on : (b c : Taken T) → Stays saw missed faults lacks p a b → Stays saw missed faults lacks q b c
        → Stays saw missed faults lacks (p ++ q) a c
    stays_on b c s t = record {
      saw_window = λ before h. subst (λ l. saw c.tap l)
          (append_assoc before (window a.skip a.quota p) (window b.skip b.quota q)
          ∙ ap (λ l. before ++ l) (sym (seams b s)))
          (t.saw_window (before ++ window a.skip a.quota p) (s.saw_window before h));
      faults_kept = omega (arith, s.faults_kept, t.faults_kept);
      lacks_kept = omega (arith, s.lacks_kept, t.lacks_kept);
      skip = omega (arith, s.skip, t.skip, length-append p q);
      quota = omega (arith, s.quota, t.quota, s.skip, length-append p q);
    }

    pub lost_later : (b : Taken T) (lost : LostPacket T) → Stays saw missed faults lacks p a b
        → IsLost saw missed faults lacks q b lost → IsLost saw missed faults lacks (p ++ q) a lost
    lost_later b lost s t = record {
      count = length (window a.skip a.quota p) + t.count;
      within = omega (
        arith,
        t.within,
        ap length (seams b s),
        length-append (window a.skip a.quota p) (window b.skip b.quota q),
      );
      missed_next = λ before h.
          let w = window a.skip a.quota p in
          let v = window b.skip b.quota q in
          let next : length w + suc t.count ≡ suc (length w + t.count) = omega arith in
          subst (λ l. missed lost.object l)
          (append_assoc before w (take (suc t.count) v)
          ∙ ap (λ l. before ++ l)
          (sym (take-append-add w v (suc t.count))
          ∙ ap (λ n. take n (w ++ v)) next
          ∙ ap (take (suc (length w + t.count))) (sym (seams b s))))
          (t.missed_next (before ++ w) (s.saw_window before h));
      failed = λ e. rose_from (faults a.tap) (faults b.tap) (faults lost.object) s.faults_kept (t.failed e);
      lacked = λ e. rose_from (lacks a.tap) (lacks b.tap) (lacks lost.object) s.lacks_kept (t.lacked e);
    }

    lost_before : (lost : LostPacket T) → IsLost saw missed faults lacks p a lost
        → IsLost saw missed faults lacks (p ++ q) a lost
    lost_before lost s =
        let w = window a.skip a.quota p in
        let v = window (skip_behind a.skip (length p)) (quota_behind a.skip a.quota (length p)) q in
        let e : window a.skip a.quota (p ++ q) ≡ w ++ v = window-append a.skip a.quota p q in
        let below : suc s.count ≤ length w = omega (arith, s.within) in
        record {
          count = s.count;
          within = omega (arith, s.within, ap length e, length-append w v);
          missed_next = λ before h. subst (λ l. missed lost.object l)
              (ap (λ l. before ++ l)
              (sym (take-append-le (suc s.count) w v below) ∙ ap (take (suc s.count)) (sym e)))
              (s.missed_next before h);
          failed = s.failed;
          lacked = s.lacked;
        }

  is_shown_on : (p q : List Packet) (a b c : Place T) → IsShown saw missed faults lacks p a b
      → IsShown saw missed faults lacks q b c → IsShown saw missed faults lacks (p ++ q) a c
  is_shown_on p q (Seated a) (Seated b) (Seated c) s t = stays_on p q a b c s t
  is_shown_on p q (Seated a) (Seated b) (Lost lost) s t = lost_later p q a b lost s t
  is_shown_on p q (Seated a) (Seated b) Out s t = absurd t
  is_shown_on p q (Seated a) (Lost lost) c s t =
      subst (λ (d : Place T). IsShown saw missed faults lacks (p ++ q) (Seated a) d) (sym t) (lost_before p q a lost s)
  is_shown_on p q (Seated a) Out c s t = absurd s
  is_shown_on p q (Lost lost) b c s t =
      subst (λ (d : Place T). IsShown saw missed faults lacks q d c) s t
  is_shown_on p q Out b c s t =
      subst (λ (d : Place T). IsShown saw missed faults lacks q d c) s t

  shown_nothing : (place : Place T) → IsShown saw missed faults lacks [] place place
  shown_nothing (Seated a) = record {
    saw_window = λ before h. subst (λ l. saw a.tap l)
        (sym (append-nil before) ∙ ap (λ l. before ++ l) (sym (window-nil a.skip a.quota))) h;
    faults_kept = omega arith;
    lacks_kept = omega arith;
    skip = omega arith;
    quota = omega arith;
  }
  shown_nothing (Lost lost) = refl
  shown_nothing Out = refl

  pub are_shown-nothing : (places : List (Place T)) → AreShown saw missed faults lacks [] places places
  are_shown-nothing places = record { count = refl; each = λ k place there. (place, there, shown_nothing place) }

  pub are_shown-append : (p q : List Packet) (a b c : List (Place T)) → AreShown saw missed faults lacks p a b
      → AreShown saw missed faults lacks q b c → AreShown saw missed faults lacks (p ++ q) a c
  are_shown-append p q a b c s t = record {
    count = t.count ∙ s.count;
    each = λ k place there.
        let mid = t.each k place there in
        let was = s.each k mid.0 mid.1 in
        (was.0, was.1, is_shown_on p q was.0 mid.0 place was.2 mid.2);
  }
