-- A touch or a read of what a seat has in hand may come home.
use Rattle.std.proofs.Common.{◌≡◌, ℕ, ◌+◌, ◌<◌, ◌^◌, inl, inr, Bool, true, false, List, [], ◌∷◌, refl, sym, ap, subst}
use Rattle.std.proofs.Common.{Some, arith}
use Rattle.entry_order.specs.declared.what.What.{What}
use Rattle.access_log.specs.declared.entry.StampedEntry.{StampedEntry}
use Rattle.access_log.specs.Held.{Lane}
use Rattle.plain_machine.specs.declared.local.Local.{Local}
use Rattle.plain_machine.specs.Program.{Meaning, IsLawful}
use Rattle.master_core.specs.declared.parts.VarPart.{VarPart}
use Rattle.master_core.specs.declared.parts.ThreadPart.{ThreadPart}
use Rattle.master_core.specs.declared.step.Trace.TheVariants as trace
use Rattle.master_core.specs.Mastered.{moves_made}
use Rattle.var_locks.specs.declared.view.Note.{Note}
use Rattle.var_locks.specs.declared.view.View.{View}
use Rattle.var_locks.specs.Notes.{IsOnVariable, LetsPass, IsGuided, IsGuidedEntry}
use Rattle.var_locks.specs.Views.{with_hand, note_on}
use Rattle.var_locks.specs.Rounds.{MayBring}
use Rattle.var_locks.specs.Seats.{share_of}
use Rattle.var_locks.specs.TouchedParts.{wanted_move, next_word, WorksBy, MayGo}

module _ {V : Type 0} (m : Meaning V) (fits : ℕ → V → Type 0) (lawful : IsLawful m fits) (guide : List Lane)
    (t v word : ℕ) (before after : ThreadPart) (place : Local) (x y : VarPart V) (e : StampedEntry) (w : View V)
    (hand : before.hand ≡ Some place) (fit : fits v x.value) (word_is : x.places + x.places ≡ word) where
  abbrev n : Note V
  n = note_on before after (trace.Did e) (with_hand w v x)

  on : (read : Bool) → m.next place ≡ wanted_move v read → WorksBy m t v read place before after e x y
      → IsOnVariable m t v (note_on before after (trace.Did e) (with_hand w v x)) x y place e
  on true next works = record { hand = hand; found = refl; trace = refl; does = inr (next, works) }
  on false next works = record { hand = hand; found = refl; trace = refl; does = inl (next, works) }

  in_turn : (read : Bool) (number : ℕ) → number ≡ before.counts.entries + 1
      → MayGo guide t (before.counts.entries + 1) v read x → (z : VarPart V) → Some x ≡ Some z
      → LetsPass guide t number v read z.places z.readers
  in_turn read number is go z same =
      let one : x ≡ z = cc in
      subst (λ (i : ℕ). LetsPass guide t i v read z.places z.readers) (sym is)
      (subst (λ (q : VarPart V). LetsPass guide t (before.counts.entries + 1) v read q.places q.readers) one go)

  guided : (read : Bool) → WorksBy m t v read place before after e x y
      → MayGo guide t (before.counts.entries + 1) v read x
      → IsGuided guide t (note_on before after (trace.Did e) (with_hand w v x))
  guided true works go =
      subst (λ (z : What). IsGuidedEntry guide t (note_on before after (trace.Did e) (with_hand w v x)) e.number z)
      (sym (ap (λ (f : StampedEntry). f.what) works.logs.entry))
      (in_turn true e.number (ap (λ (f : StampedEntry). f.number) works.logs.entry) go)
  guided false works go =
      subst (λ (z : What). IsGuidedEntry guide t (note_on before after (trace.Did e) (with_hand w v x)) e.number z)
      (sym (ap (λ (f : StampedEntry). f.what) works.logs.entry))
      (in_turn false e.number (ap (λ (f : StampedEntry). f.number) works.logs.entry) go)

  left_fits : (read : Bool) → m.next place ≡ wanted_move v read → WorksBy m t v read place before after e x y
      → fits v y.value
  left_fits true next works = subst (λ (z : VarPart V). fits v z.value) (sym works.variable) fit
  left_fits false next works =
      subst (λ (z : VarPart V). fits v z.value) (sym works.variable) (lawful.touch_fits v x.value place next fit)

  word_next : (read : Bool) → WorksBy m t v read place before after e x y → next_word word read ≡ y.places + y.places
  word_next true works =
      let k : y.places ≡ x.places = ap (λ (z : VarPart V). z.places) works.variable in omega (arith, k, word_is)
  word_next false works =
      let k : y.places ≡ x.places + 1 = ap (λ (z : VarPart V). z.places) works.variable in omega (arith, k, word_is)

  pub may_bring : (read : Bool) → m.next place ≡ wanted_move v read → WorksBy m t v read place before after e x y
      → MayGo guide t (before.counts.entries + 1) v read x → w.shares ≡ share_of w t before false ∷ []
      → moves_made before < 2 ^ 56 → (me : View V) → me ≡ with_hand w v x
      → MayBring m fits guide me v (next_word word read) y (share_of w t before false)
      (note_on before after (trace.Did e) me) x place e
  may_bring read next works go alone room me is = subst (λ (q : View V). MayBring m fits guide q v (next_word word read)
      y (share_of w t before false) (note_on before after (trace.Did e) q) x place e) (sym is) (record {
        next = record { alone = alone; going = refl; before = refl; guided = guided read works go; room = room };
        hand = refl;
        on = on read next works;
        fit = left_fits read next works;
        word_is = word_next read works;
      })

  pub made_on : (read : Bool) → m.next place ≡ wanted_move v read → WorksBy m t v read place before after e x y
      → MayGo guide t (before.counts.entries + 1) v read x → (me : View V) → me ≡ with_hand w v x
      → IsOnVariable m t v (note_on before after (trace.Did e) me) x y place e
      × IsGuided guide t (note_on before after (trace.Did e) me)
  made_on read next works go me is = subst (λ (q : View V).
      IsOnVariable m t v (note_on before after (trace.Did e) q) x y place e
      × IsGuided guide t (note_on before after (trace.Did e) q)) (sym is) (on read next works, guided read works go)
