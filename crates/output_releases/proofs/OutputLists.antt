-- Outputs of an output logger as those of a world: their names, their packets, and what is noted of them.
use Rattle.std.proofs.Common.{◌≡◌, ℕ, List, [], ◌∷◌, ◌++◌, length, refl, sym, ap, ◌∙◌, subst, inl, inr, ◌⊎◌, arith}
use Rattle.std.specs.Prelude.{slice_index, ◌↔◌, map, drop, take, ◌-◌}
use Rattle.std.proofs.lemmas.List.{length-drop, take_all}
use Rattle.plain_text.specs.declared.packet.Packet.{Packet}
use Rattle.entry_order.specs.Log.{Entry}
use Rattle.entry_order.specs.Stamps.{IsOutputStamp}
use Rattle.access_log.specs.declared.entry.Output.{Output}
use Rattle.dup_filter.specs.Numbers.{Numbers, WasMarked}
use Rattle.plain_machine.specs.declared.emission.Emission.{Emission}
use Rattle.system_parts.specs.FromMasterCore.{emission_of_output}
use Rattle.output_logger.specs.Logger.{IsNamed, ReleasesOnce, appended, Parts as LoggerParts}
use Rattle.recovery_world.specs.World.{Sent, World}
use Rattle.recovery_world.specs.Events.{HasNumber, IsAmong, Parts as WorldParts}
use Rattle.recovery_world.specs.Files.{sent_names, packets_of}
use Rattle.system_parts.proofs.FromRecoveryLaws.{among_either}
use Rattle.system_parts.proofs.FromRecoveryLaws.{among_left, among_right}
use Rattle.output_releases.specs.Released.{names_of, NotesReleased}
use Rattle.system_parts.specs.Parts.{Parts}
use Rattle.system_parts.specs.SystemStanding.{AreOutputs, NotesNames}
use Rattle.system_parts.specs.Performing.{ReleasesInto}
use Rattle.output_releases.proofs.ReleasedLists.{releases_go}

-- Parting the outputs parts those that they stand for.
pub parts_world : (log : List Entry) (Go : Output → Type 0) (P : Sent → Type 0)
    → ((o : Output) (x : Sent) → emission_of_output o ≡ x.emission
    → IsOutputStamp log x.emission.thread x.after (λ u. slice_index o.stamp u) → Go o ↔ P x) → (os : List Output)
    (xs : List Sent) (go stay : List Output) → AreOutputs log os xs → LoggerParts Go os go stay
    → (freed : List Sent) × (still : List Sent) × WorldParts P xs freed still × AreOutputs log go freed
    × AreOutputs log stay still
parts_world log Go P both [] [] go stay w p = (
  [],
  [],
  (refl, refl),
  subst (λ (l : List Output). AreOutputs log l []) (sym p.0) tt,
  subst (λ (l : List Output). AreOutputs log l []) (sym p.1) tt,
)
parts_world log Go P both [] (x ∷ xs) go stay w p = absurd w
parts_world log Go P both (o ∷ os) [] go stay w p = absurd w
parts_world log Go P both (o ∷ os) (x ∷ xs) go stay w (inl (g, rest, is, p)) =
    let r = parts_world log Go P both os xs rest stay w.2 p in (
      x ∷ r.0,
      r.1,
      inl ((both o x w.0 w.1).0 g, r.0, refl, r.2),
      subst (λ (l : List Output). AreOutputs log l (x ∷ r.0)) (sym is) (w.0, w.1, r.3),
      r.4,
    )
parts_world log Go P both (o ∷ os) (x ∷ xs) go stay w (inr (g, rest, is, p)) =
    let r = parts_world log Go P both os xs go rest w.2 p in (
      r.0,
      x ∷ r.1,
      inr ((λ k. g ((both o x w.0 w.1).1 k)), r.1, refl, r.2),
      r.3,
      subst (λ (l : List Output). AreOutputs log l (x ∷ r.1)) (sym is) (w.0, w.1, r.4),
    )

-- one more output behind

pub outputs_more : (log : List Entry) (os : List Output) (xs : List Sent) (o : Output) (x : Sent) → AreOutputs log os xs
    → emission_of_output o ≡ x.emission → IsOutputStamp log x.emission.thread x.after (λ u. slice_index o.stamp u)
    → AreOutputs log (os ++ o ∷ []) (xs ++ x ∷ [])
outputs_more log [] [] o x w is stamp = (is, stamp, tt)
outputs_more log [] (y ∷ xs) o x w is stamp = absurd w
outputs_more log (z ∷ os) [] o x w is stamp = absurd w
outputs_more log (z ∷ os) (y ∷ xs) o x w is stamp = (w.0, w.1, outputs_more log os xs o x w.2 is stamp)

-- the outputs and those that they stand for have the same names
pub named_as : (log : List Entry) (os : List Output) (xs : List Sent) → AreOutputs log os xs → (t n : ℕ)
    → IsNamed t n os ↔ ((o : Sent) × HasNumber t n o × IsAmong o xs)
named_as log os xs w t n = (to os xs w, λ h. from os xs w h.0 h.1 h.2)
  where
    to : (os : List Output) (xs : List Sent) → AreOutputs log os xs → IsNamed t n os
        → (o : Sent) × HasNumber t n o × IsAmong o xs
    to [] xs w h = absurd h
    to (o ∷ os) [] w h = absurd w
    to (o ∷ os) (x ∷ xs) w (inl h) = (
      x,
      (sym (ap (λ (q : Emission). q.thread) w.0) ∙ h.0, sym (ap (λ (q : Emission). q.number) w.0) ∙ h.1),
      inl refl,
    )
    to (o ∷ os) (x ∷ xs) w (inr h) = let r = to os xs w.2 h in (r.0, r.1, inr r.2)

    from : (os : List Output) (xs : List Sent) → AreOutputs log os xs → (z : Sent) → HasNumber t n z → IsAmong z xs
        → IsNamed t n os
    from [] [] w z is i = absurd i
    from [] (x ∷ xs) w z is i = absurd w
    from (o ∷ os) [] w z is i = absurd w
    from (o ∷ os) (x ∷ xs) w z is (inl same) =
        let here = subst (λ (q : Sent). HasNumber t n q) (sym same) is in
        inl (ap (λ (q : Emission). q.thread) w.0 ∙ here.0, ap (λ (q : Emission). q.number) w.0 ∙ here.1)
    from (o ∷ os) (x ∷ xs) w z is (inr i) = inr (from os xs w.2 z is i)

pub names_as : (log : List Entry) (os : List Output) (xs : List Sent) → AreOutputs log os xs
    → names_of os ≡ sent_names xs
names_as log [] [] w = refl
names_as log [] (x ∷ xs) w = absurd w
names_as log (o ∷ os) [] w = absurd w
names_as log (o ∷ os) (x ∷ xs) w =
    ap (λ (q : Emission). (q.thread, q.number) ∷ names_of os) w.0
    ∙ ap (λ (l : List (ℕ × ℕ)). (x.emission.thread, x.emission.number) ∷ l) (names_as log os xs w.2)

pub packets_as : (log : List Entry) (os : List Output) (xs : List Sent) → AreOutputs log os xs
    → map (λ (o : Output). o.packet) os ≡ packets_of xs
packets_as log [] [] w = refl
packets_as log [] (x ∷ xs) w = absurd w
packets_as log (o ∷ os) [] w = absurd w
packets_as log (o ∷ os) (x ∷ xs) w =
    ap (λ (q : Emission). q.packet ∷ map (λ (o : Output). o.packet) os) w.0
    ∙ ap (λ (l : List Packet). x.emission.packet ∷ l) (packets_as log os xs w.2)

pub sent_names_both : (xs ys : List Sent) → sent_names (xs ++ ys) ≡ sent_names xs ++ sent_names ys
sent_names_both [] ys = refl
sent_names_both (x ∷ xs) ys =
    ap (λ (l : List (ℕ × ℕ)). (x.emission.thread, x.emission.number) ∷ l) (sent_names_both xs ys)

-- what was noted before, and what is released now
pub noted_more : (log : List Entry) (old new : List Numbers) (go : List Output) (before freed : List Sent)
    → ReleasesOnce old new go → AreOutputs log go freed
    → ((t n : ℕ) → WasMarked old t n ↔ ((o : Sent) × HasNumber t n o × IsAmong o before)) → (t n : ℕ)
    → WasMarked new t n ↔ ((o : Sent) × HasNumber t n o × IsAmong o (before ++ freed))
noted_more log old new go before freed once are noted t n =
    (λ k. to ((once.marked t n).0 k), λ h. (once.marked t n).1 (from h.0 h.1 (among_either h.0 before freed h.2)))
  where
    to : IsNamed t n go ⊎ WasMarked old t n → (o : Sent) × HasNumber t n o × IsAmong o (before ++ freed)
    to (inl k) = let h = (named_as log go freed are t n).0 k in (h.0, h.1, among_right h.0 before freed h.2)
    to (inr k) = let h = (noted t n).0 k in (h.0, h.1, among_left h.0 before freed h.2)

    from : (o : Sent) → HasNumber t n o → IsAmong o before ⊎ IsAmong o freed → IsNamed t n go ⊎ WasMarked old t n
    from o is (inl i) = inr ((noted t n).1 (o, is, i))
    from o is (inr i) = inl ((named_as log go freed are t n).1 (o, is, i))

-- the outputs behind those before a call, as a slice has them, are those that the call put there
pub behind : (xs all old : List Output) (before : ℕ) → xs ≡ all → before ≡ length old
    → take (length xs - before) (drop before xs) ≡ appended old all
behind xs all old before is count =
    take_all (length xs - before) (drop before xs) (omega (arith, length-drop before xs))
    ∙ ap (λ (l : List Output). drop before l) is
    ∙ ap (λ (n : ℕ). drop n all) count

-- they are noted and listed
pub notes_them : {P V : Type 0} (view now : Parts P V) (outputs : List Output) (start list released : List (ℕ × ℕ))
    → view ≡ now → start ≡ [] → list ≡ start ++ names_of outputs → released ≡ view.released ++ names_of outputs
    → NotesReleased outputs list now (record view { released = released })
notes_them {P} {V} view now outputs start list released same none listed noted =
    subst (λ (q : Parts P V). NotesReleased outputs list q (record view { released = released })) same (record {
      list_is = names;
      new_is = ap (λ (l : List (ℕ × ℕ)). record view { released = l })
          (noted ∙ ap (λ (l : List (ℕ × ℕ)). view.released ++ l) (sym names));
    })
  where
    names : list ≡ names_of outputs
    names = listed ∙ ap (λ (l : List (ℕ × ℕ)). l ++ names_of outputs) none

-- what was released was put behind a list
pub releases_as : {V : Type 0} (log : List Entry) (before out go : List Output) (w next : World V) (freed : List Sent)
    → AreOutputs log go freed → out ≡ before ++ go → next.released ≡ w.released ++ freed
    → ReleasesInto before out w next
releases_as log before out go w next freed are appends released =
    releases_go before out go w next freed appends (packets_as log go freed are) released

-- with their names noted, the names of all that was released are
pub names_more : {P V : Type 0} (w : World V) (y : Parts P V) (log : List Entry) (go : List Output) (freed : List Sent)
    → NotesNames w y → AreOutputs log go freed → y.released ++ names_of go ≡ sent_names (w.released ++ freed)
names_more w y log go freed names are =
    ap (λ (l : List (ℕ × ℕ)). l ++ names_of go) names
    ∙ ap (λ (l : List (ℕ × ℕ)). sent_names w.released ++ l) (names_as log go freed are)
    ∙ sym (sent_names_both w.released freed)
