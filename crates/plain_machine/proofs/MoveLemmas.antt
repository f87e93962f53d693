-- One move of a thread, made twice: from one place, with one answer and one value, it does the same.
use Rattle.std.proofs.Common.{◌≡◌, ℕ, Bool, true, false, List, Option, Some, None, refl, subst}
use Rattle.std.specs.Prelude.{slice_get}
use Rattle.plain_text.specs.declared.packet.Packet.{Packet}
use Rattle.plain_machine.specs.declared.local.Move.{Move}
use Rattle.plain_machine.specs.declared.local.Move.TheVariants.{Access, Read, Clock, Draw, Emit, End}
use Rattle.plain_machine.specs.Program.{Meaning}
use Rattle.plain_machine.specs.Machine.{Hand, Thread, Effect, Takes, Touches, Looks, HearsClock, HearsDraw, Sends, Ends}
use Rattle.plain_machine.specs.Machine.{Moves, sent_packet, take_move, hand_move, held_move}

-- What two moves from one place of a thread must have in common to be one: the answer, and the value touched or read.
pub record Alike {V : Type 0} (value other : ℕ → V) (dx dy : Effect V) : Type 0 where
  pub clock : (p q : ℕ) → dx ≡ HearsClock p → dy ≡ HearsClock q → p ≡ q
  pub draw : (p q : ℕ) → dx ≡ HearsDraw p → dy ≡ HearsDraw q → p ≡ q
  pub touch : (v : ℕ) (x z : V) → dx ≡ Touches v x → dy ≡ Touches v z → value v ≡ other v
  pub look : (v : ℕ) → dx ≡ Looks v → dy ≡ Looks v → value v ≡ other v

-- with a packet in hand
hand_same : {V : Type 0} (m : Meaning V) (value other : ℕ → V) (taken : ℕ) (h : Hand) (w : Move) (a b : Option ℕ)
    (tx ty : Thread) (dx dy : Effect V) → hand_move m value taken h a w ≡ Moves tx dx
    → hand_move m other taken h b w ≡ Moves ty dy → Alike value other dx dy → (tx ≡ ty) × (dx ≡ dy)
hand_same m value other taken h (Access v) None None tx ty dx dy p q s =
    let k : value v ≡ other v = s.touch v (m.touch v (value v) h.place).0 (m.touch v (other v) h.place).0 (cc) (cc) in
    (cc, cc)
hand_same m value other taken h (Read v) None None tx ty dx dy p q s =
    let k : value v ≡ other v = s.look v (cc) (cc) in (cc, cc)
hand_same m value other taken h Emit None None tx ty dx dy p q s = (cc, cc)
hand_same m value other taken h End None None tx ty dx dy p q s = (cc, cc)
hand_same m value other taken h Clock None None tx ty dx dy p q s = (cc, cc)
hand_same m value other taken h Draw None None tx ty dx dy p q s = (cc, cc)
hand_same m value other taken h w None (Some b) tx ty dx dy p q s = odd w b p q
  where
    odd : (w : Move) (b : ℕ) → hand_move m value taken h None w ≡ Moves tx dx
        → hand_move m other taken h (Some b) w ≡ Moves ty dy → (tx ≡ ty) × (dx ≡ dy)
    odd (Access v) b p q = (cc, cc)
    odd (Read v) b p q = (cc, cc)
    odd Clock b p q = (cc, cc)
    odd Draw b p q = (cc, cc)
    odd Emit b p q = (cc, cc)
    odd End b p q = (cc, cc)
hand_same m value other taken h w (Some a) b tx ty dx dy p q s = odd w a b p q
  where
    odd : (w : Move) (a : ℕ) (b : Option ℕ) → hand_move m value taken h (Some a) w ≡ Moves tx dx
        → hand_move m other taken h b w ≡ Moves ty dy → (tx ≡ ty) × (dx ≡ dy)
    odd (Access v) a b p q = (cc, cc)
    odd (Read v) a b p q = (cc, cc)
    odd Clock a None p q = (cc, cc)
    odd Clock a (Some b) p q = let k : a ≡ b = s.clock a b (cc) (cc) in (cc, cc)
    odd Draw a None p q = (cc, cc)
    odd Draw a (Some b) p q = let k : a ≡ b = s.draw a b (cc) (cc) in (cc, cc)
    odd Emit a b p q = (cc, cc)
    odd End a b p q = (cc, cc)

-- Two moves from one place of a thread, with one answer and one value, are one.
pub held_same : {V : Type 0} (m : Meaning V) (packets : List Packet) (value other : ℕ → V) (taken : ℕ)
    (hand : Option Hand) (a b : Option ℕ) (tx ty : Thread) (dx dy : Effect V)
    → held_move m packets value taken a hand ≡ Moves tx dx → held_move m packets other taken b hand ≡ Moves ty dy
    → Alike value other dx dy → (tx ≡ ty) × (dx ≡ dy)
held_same m packets value other taken (Some h) a b tx ty dx dy p q s =
    hand_same m value other taken h (m.next h.place) a b tx ty dx dy p q s
held_same m packets value other taken None a b tx ty dx dy p q s = take_same (slice_get packets taken) a b p q
  where
    take_same : (input : Option Packet) (a b : Option ℕ) → take_move m taken a input ≡ Moves tx dx
        → take_move m taken b input ≡ Moves ty dy → (tx ≡ ty) × (dx ≡ dy)
    take_same (Some p) None None e f = (cc, cc)
    take_same None None b e f = (cc, cc)
    take_same None (Some a) b e f = (cc, cc)
    take_same (Some p) a b e f = (cc, cc)

-- the effect is logged
abbrev pub is_logged : {V : Type 0} → Effect V → Bool
is_logged Takes = false
is_logged (Touches v left) = true
is_logged (Looks v) = true
is_logged (HearsClock a) = true
is_logged (HearsDraw a) = true
is_logged (Sends p) = false
is_logged Ends = false

-- the program asks for a logged move
abbrev asks_logged : Move → Bool
asks_logged (Access v) = true
asks_logged (Read v) = true
asks_logged Clock = true
asks_logged Draw = true
asks_logged Emit = false
asks_logged End = false

-- the next move of a thread with this in hand is logged
abbrev pub hand_logs : {V : Type 0} → Meaning V → Option Hand → Bool
hand_logs m None = false
hand_logs m (Some h) = asks_logged (m.next h.place)

hand_kind : {V : Type 0} (m : Meaning V) (value : ℕ → V) (taken : ℕ) (h : Hand) (a : Option ℕ) (w : Move)
    (after : Thread) (d : Effect V) → hand_move m value taken h a w ≡ Moves after d → is_logged d ≡ asks_logged w
hand_kind {V} m value taken h None (Access v) after d e =
    let q : Touches v (m.touch v (value v) h.place).0 ≡ d = cc in subst (λ (u : Effect V). is_logged u ≡ true) q refl
hand_kind m value taken h (Some a) (Access v) after d e = absurd (cc)
hand_kind {V} m value taken h None (Read v) after d e =
    let q : Looks v ≡ d = cc in subst (λ (u : Effect V). is_logged u ≡ true) q refl
hand_kind m value taken h (Some a) (Read v) after d e = absurd (cc)
hand_kind m value taken h None Clock after d e = absurd (cc)
hand_kind {V} m value taken h (Some a) Clock after d e =
    let q : HearsClock a ≡ d = cc in subst (λ (u : Effect V). is_logged u ≡ true) q refl
hand_kind m value taken h None Draw after d e = absurd (cc)
hand_kind {V} m value taken h (Some a) Draw after d e =
    let q : HearsDraw a ≡ d = cc in subst (λ (u : Effect V). is_logged u ≡ true) q refl
hand_kind {V} m value taken h None Emit after d e =
    let q : Sends (sent_packet m h) ≡ d = cc in subst (λ (u : Effect V). is_logged u ≡ false) q refl
hand_kind m value taken h (Some a) Emit after d e = absurd (cc)
hand_kind {V} m value taken h None End after d e =
    let q : Ends ≡ d = cc in subst (λ (u : Effect V). is_logged u ≡ false) q refl
hand_kind m value taken h (Some a) End after d e = absurd (cc)

-- Whether a move is logged hangs on where its thread is alone.
pub held_kind : {V : Type 0} (m : Meaning V) (packets : List Packet) (value : ℕ → V) (taken : ℕ) (a : Option ℕ)
    (hand : Option Hand) (after : Thread) (d : Effect V) → held_move m packets value taken a hand ≡ Moves after d
    → is_logged d ≡ hand_logs m hand
held_kind m packets value taken a (Some h) after d e = hand_kind m value taken h a (m.next h.place) after d e
held_kind {V} m packets value taken a None after d e = go a (slice_get packets taken) e
  where
    go : (a : Option ℕ) (i : Option Packet) → take_move m taken a i ≡ Moves after d → is_logged d ≡ false
    go None None e = absurd (cc)
    go None (Some p) e = let q : Takes ≡ d = cc in subst (λ (u : Effect V). is_logged u ≡ false) q refl
    go (Some a) i e = absurd (cc)

-- the effect is a touch or a read of the variable
abbrev pub IsOn : {V : Type 0} → ℕ → Effect V → Type 0
IsOn v Takes = ⊥
IsOn v (Touches u left) = u ≡ v
IsOn v (Looks u) = u ≡ v
IsOn v (HearsClock a) = ⊥
IsOn v (HearsDraw a) = ⊥
IsOn v (Sends p) = ⊥
IsOn v Ends = ⊥

hand_again : {V : Type 0} (m : Meaning V) (value other : ℕ → V) (taken : ℕ) (h : Hand) (a : Option ℕ) (w : Move)
    (after : Thread) (d : Effect V) → hand_move m value taken h a w ≡ Moves after d
    → ((v : ℕ) → IsOn v d → value v ≡ other v) → hand_move m other taken h a w ≡ Moves after d
hand_again {V} m value other taken h None (Access v) after d e s =
    let q : Touches v (m.touch v (value v) h.place).0 ≡ d = cc in
    subst (λ (x : V). hand_move m (λ _. x) taken h None (Access v) ≡ Moves after d)
    (s v (subst (λ (u : Effect V). IsOn v u) q refl)) e
hand_again m value other taken h (Some a) (Access v) after d e s = e
hand_again {V} m value other taken h None (Read v) after d e s =
    let q : Looks v ≡ d = cc in
    subst (λ (x : V). hand_move m (λ _. x) taken h None (Read v) ≡ Moves after d)
    (s v (subst (λ (u : Effect V). IsOn v u) q refl)) e
hand_again m value other taken h (Some a) (Read v) after d e s = e
hand_again m value other taken h None Clock after d e s = e
hand_again m value other taken h (Some a) Clock after d e s = e
hand_again m value other taken h None Draw after d e s = e
hand_again m value other taken h (Some a) Draw after d e s = e
hand_again m value other taken h None Emit after d e s = e
hand_again m value other taken h (Some a) Emit after d e s = e
hand_again m value other taken h None End after d e s = e
hand_again m value other taken h (Some a) End after d e s = e

-- A move can be made again where the variable that it touches or reads has the same value.
pub held_again : {V : Type 0} (m : Meaning V) (packets : List Packet) (value other : ℕ → V) (taken : ℕ) (a : Option ℕ)
    (hand : Option Hand) (after : Thread) (d : Effect V) → held_move m packets value taken a hand ≡ Moves after d
    → ((v : ℕ) → IsOn v d → value v ≡ other v) → held_move m packets other taken a hand ≡ Moves after d
held_again m packets value other taken a None after d e s = e
held_again m packets value other taken a (Some h) after d e s =
    hand_again m value other taken h a (m.next h.place) after d e s
