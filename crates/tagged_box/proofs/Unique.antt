-- Two runs that look through tags and are one behind them are one: each packet in hand is its thread's input, and each
-- that goes out has the tag of its input.
use Rattle.std.proofs.Common.{◌≡◌, ℕ, Bool, List, [], ◌∷◌, refl, sym, ap, ◌∙◌, subst, Option, Some, None, arith, drop}
use Rattle.std.specs.Prelude.{slice_get}
use Rattle.plain_text.specs.declared.packet.Packet.{Packet}
use Rattle.plain_machine.specs.declared.local.Local.{Local}
use Rattle.plain_machine.specs.declared.emission.Emission.{Emission}
use Rattle.plain_machine.specs.Program.{Meaning}
use Rattle.plain_machine.specs.Machine.{Hand}
use Rattle.plain_machine.specs.History.{Act, Took, Did, Emitted, Ended, Step, sent_more, sent_of, IsHistory}
use Rattle.tagged_frames.specs.Tags.{without_first, behind_tag, with_behind}
use Rattle.tagged_box.specs.Tagged.{tagged_meaning}
use Rattle.tagged_box.specs.Tags.{hand_tag, hand_behind, act_behind, step_behind, steps_behind}
use Rattle.tagged_box.specs.Tags.{KeepsTag, KeepTags}
use Rattle.tagged_box.proofs.Emissions.{IsGiven, newest_given, sent_keep}

-- what is in hand is its parts
hand_is : (a b : Hand) → a.packet ≡ b.packet → a.place ≡ b.place → a ≡ b
hand_is a b packet place =
    ap (λ (p : Packet). record { packet = p; place = a.place }) packet
    ∙ ap (λ (l : Local). record { packet = b.packet; place = l }) place

-- two packets in hand that are one input, and are one behind the tag
hands_same : (tags : Bool) (packets : List Packet) (taken : ℕ) (a b : Option Hand) → IsGiven packets taken a
    → IsGiven packets taken b → hand_behind tags a ≡ hand_behind tags b → a ≡ b
hands_same tags packets taken None None g k e = refl
hands_same tags packets taken None (Some b) g k e = absurd (cc)
hands_same tags packets taken (Some a) None g k e = absurd (cc)
hands_same tags packets taken (Some a) (Some b) g k e =
    let seen : ◌≡◌ {A = Hand} (record { packet = behind_tag tags a.packet; place = a.place })
    (record { packet = behind_tag tags b.packet; place = b.place }) = cc in
    let place : a.place ≡ b.place = ap (λ (h : Hand). h.place) seen in
    let at : g.0 ≡ k.0 = omega (arith, g.1, k.1) in
    let one : Some a.packet ≡ Some b.packet = sym g.2 ∙ (ap (λ (n : ℕ). slice_get packets n) at ∙ k.2) in
    let packet : a.packet ≡ b.packet = cc in
    ap (λ (h : Hand). Some h) (hand_is a b packet place)

-- an emission is its parts, and so is a step
emission_is : (o q : Emission) → o.thread ≡ q.thread → o.number ≡ q.number → o.input ≡ q.input → o.packet ≡ q.packet
    → o ≡ q
emission_is o q thread number input packet =
    ap (λ (t : ℕ). record { thread = t; number = o.number; input = o.input; packet = o.packet }) thread
    ∙ (ap (λ (n : ℕ). record { thread = q.thread; number = n; input = o.input; packet = o.packet }) number
    ∙ (ap (λ (n : ℕ). record { thread = q.thread; number = q.number; input = n; packet = o.packet }) input
    ∙ ap (λ (p : Packet). record { thread = q.thread; number = q.number; input = q.input; packet = p }) packet))

step_is : {V : Type 0} (x y : Step V) → x.thread ≡ y.thread → x.act ≡ y.act → x.after.taken ≡ y.after.taken
    → x.after.hand ≡ y.after.hand → x ≡ y
step_is {V} x y thread act taken hand =
    ap (λ (t : ℕ). record { thread = t; act = x.act; after = x.after }) thread
    ∙ (ap (λ (a : Act V). record { thread = y.thread; act = a; after = x.after }) act
    ∙ (ap (λ (n : ℕ). record { thread = y.thread; act = y.act; after = record { taken = n; hand = x.after.hand } })
    taken
    ∙ ap (λ (h : Option Hand).
    record { thread = y.thread; act = y.act; after = record { taken = y.after.taken; hand = h } }) hand))

module _ (tags : Bool) (inputs : ℕ → List Packet) where
  -- two packets that went out with the tags of their inputs, and are one behind them
  emissions_same : (k : ℕ) (o q : Emission)
      → KeepsTag tags inputs o (record o { packet = without_first k o.packet })
      → KeepsTag tags inputs q (record q { packet = without_first k q.packet })
      → record o { packet = without_first k o.packet } ≡ record q { packet = without_first k q.packet } → o ≡ q
  emissions_same k o q a b e =
      let thread : o.thread ≡ q.thread = ap (λ (u : Emission). u.thread) e in
      let number : o.number ≡ q.number = ap (λ (u : Emission). u.number) e in
      let input : o.input ≡ q.input = ap (λ (u : Emission). u.input) e in
      let bytes : drop k o.packet.bytes ≡ drop k q.packet.bytes = ap (λ (u : Emission). u.packet.bytes) e in
      let at : a.earlier ≡ b.earlier = omega (arith, a.number, b.number, input) in
      let one : Some a.input ≡ Some b.input = sym a.given
      ∙ (ap (λ (t : ℕ). slice_get (inputs t) a.earlier) thread
      ∙ (ap (λ (n : ℕ). slice_get (inputs q.thread) n) at ∙ b.given)) in
      let taken : a.input ≡ b.input = cc in
      let packet : o.packet ≡ q.packet = a.packet
      ∙ (ap (λ (p : Packet). with_behind tags p (drop k o.packet.bytes)) taken
      ∙ (ap (λ (l : List ℕ). with_behind tags b.input l) bytes ∙ sym b.packet)) in
      emission_is o q thread number input packet

  -- what went out has the tag of its input, where the move sent something out
  abbrev HasTag : {V : Type 0} → ℕ → Act V → Type 0
  HasTag k (Took i) = Unit {0}
  HasTag k (Did e left) = Unit {0}
  HasTag k (Emitted o) = KeepsTag tags inputs o (record o { packet = without_first k o.packet })
  HasTag k (Ended i) = Unit {0}

  acts_same : {V : Type 0} (k : ℕ) (a b : Act V) → HasTag k a → HasTag k b → act_behind k a ≡ act_behind k b → a ≡ b
  acts_same k (Took i) (Took j) s r e = e
  acts_same k (Took i) (Did f left) s r e = absurd (cc)
  acts_same k (Took i) (Emitted q) s r e = absurd (cc)
  acts_same k (Took i) (Ended j) s r e = absurd (cc)
  acts_same k (Did f left) (Took j) s r e = absurd (cc)
  acts_same k (Did f left) (Did g other) s r e = e
  acts_same k (Did f left) (Emitted q) s r e = absurd (cc)
  acts_same k (Did f left) (Ended j) s r e = absurd (cc)
  acts_same k (Emitted o) (Took j) s r e = absurd (cc)
  acts_same k (Emitted o) (Did g other) s r e = absurd (cc)
  acts_same {V} k (Emitted o) (Emitted q) s r e =
      let one : record o { packet = without_first k o.packet } ≡ record q { packet = without_first k q.packet } = cc in
      ap (λ (u : Emission). Emitted u) (emissions_same k o q s r one)
  acts_same k (Emitted o) (Ended j) s r e = absurd (cc)
  acts_same k (Ended i) (Took j) s r e = absurd (cc)
  acts_same k (Ended i) (Did g other) s r e = absurd (cc)
  acts_same k (Ended i) (Emitted q) s r e = absurd (cc)
  acts_same k (Ended i) (Ended j) s r e = e

  has_tag : {V : Type 0} (k : ℕ) (a : Act V) (sent others : List Emission)
      → KeepTags tags inputs (sent_more a sent) (sent_more (act_behind k a) others) → HasTag k a
  has_tag k (Took i) sent others h = tt
  has_tag k (Did e left) sent others h = tt
  has_tag k (Emitted o) sent others h = h.0
  has_tag k (Ended i) sent others h = tt

  -- two steps that are one behind their tags
  step_same : {V : Type 0} (x y : Step V) → IsGiven (inputs x.thread) x.after.taken x.after.hand
      → IsGiven (inputs y.thread) y.after.taken y.after.hand → HasTag (hand_tag tags x.after.hand) x.act
      → HasTag (hand_tag tags y.after.hand) y.act → step_behind tags x ≡ step_behind tags y → x ≡ y
  step_same {V} x y g k s r e =
      let thread : x.thread ≡ y.thread = ap (λ (z : Step V). z.thread) e in
      let taken : x.after.taken ≡ y.after.taken = ap (λ (z : Step V). z.after.taken) e in
      let there : IsGiven (inputs y.thread) y.after.taken x.after.hand =
      subst (λ (n : ℕ). IsGiven (inputs y.thread) n x.after.hand) taken
      (subst (λ (t : ℕ). IsGiven (inputs t) x.after.taken x.after.hand) thread g) in
      let hand : x.after.hand ≡ y.after.hand = hands_same tags (inputs y.thread) y.after.taken x.after.hand y.after.hand
      there k (ap (λ (z : Step V). z.after.hand) e) in
      let moved : act_behind (hand_tag tags x.after.hand) x.act ≡ act_behind (hand_tag tags x.after.hand) y.act =
      ap (λ (z : Step V). z.act) e
      ∙ ap (λ (h : Option Hand). act_behind (hand_tag tags h) y.act) (sym hand) in
      let act : x.act ≡ y.act = acts_same (hand_tag tags x.after.hand) x.act y.act s
      (subst (λ (h : Option Hand). HasTag (hand_tag tags h) y.act) (sym hand) r) moved in
      step_is x y thread act taken hand

  -- Two runs that are one behind their tags are one.
  pub runs_same : {V : Type 0} (m : Meaning V) (threads : ℕ) (steps others : List (Step V))
      → IsHistory (tagged_meaning tags m) inputs threads steps → IsHistory (tagged_meaning tags m) inputs threads others
      → steps_behind tags steps ≡ steps_behind tags others → steps ≡ others
  runs_same m threads [] [] h g e = refl
  runs_same m threads [] (y ∷ others) h g e = absurd (cc)
  runs_same m threads (x ∷ steps) [] h g e = absurd (cc)
  runs_same {V} m threads (x ∷ steps) (y ∷ others) h g e =
      let rest : steps_behind tags steps ≡ steps_behind tags others = cc in
      let newest : step_behind tags x ≡ step_behind tags y = cc in
      ap (λ (z : Step V). z ∷ steps) (step_same x y
      (newest_given (tagged_meaning tags m) inputs threads x steps h)
      (newest_given (tagged_meaning tags m) inputs threads y others g)
      (has_tag (hand_tag tags x.after.hand) x.act (sent_of steps) (sent_of (steps_behind tags steps))
      (sent_keep tags m inputs threads (x ∷ steps) h))
      (has_tag (hand_tag tags y.after.hand) y.act (sent_of others) (sent_of (steps_behind tags others))
      (sent_keep tags m inputs threads (y ∷ others) g))
      newest)
      ∙ ap (λ (l : List (Step V)). y ∷ l) (runs_same m threads steps others h.1 g.1 rest)
