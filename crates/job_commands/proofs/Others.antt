-- A command leaves the names as they were that it does not write.
use Rattle.std.proofs.Common.{◌≡◌, ℕ, List, [], ◌∷◌, ◌++◌, refl, sym, ap, ◌∙◌, subst, inl, inr, Option}
use Rattle.plain_text.specs.declared.packet.Unit.{Unit as FractionUnit}
use Rattle.world_io.specs.World.{Shown}
use Rattle.recovery_world.specs.declared.event.Event.{Event}
use Rattle.recovery_world.specs.World.{Setting}
use Rattle.output_files.specs.Writes.{Write, Creates, Appends, Reports, after_writes, IsPartOf, IsCut, HasBegun}
use Rattle.run_writes.specs.Replies.{Reply}
use Rattle.run_writes.specs.Run.{OutputNames, KeepsOthers, IsWritten, writes_of, replies_writes}
use Rattle.run_writes.proofs.RunWrites.{other_name}
use Rattle.job_commands.specs.Making.{made_writes}
use Rattle.job_commands.specs.Run.{RunsInOrder, outputs_of, setting_for}
use Rattle.job_commands.specs.Schedules.{PlaysInOrder, FindsInOrder}
use Rattle.job_commands.specs.Words.{RunNames, MakeNames, PlayNames, CheckNames}

module _ (name : List ℕ) where
  -- no write is to this name
  abbrev SparesOne : Write → Type 0
  SparesOne (Creates other) = ¬ (name ≡ other)
  SparesOne (Appends other bytes) = ¬ (name ≡ other)
  SparesOne (Reports bytes) = Unit {0}

  abbrev Spares : List Write → Type 0
  Spares [] = Unit {0}
  Spares (write ∷ writes) = SparesOne write × Spares writes

  spares_both : (first more : List Write) → Spares first → Spares more → Spares (first ++ more)
  spares_both [] more a b = b
  spares_both (write ∷ first) more a b = (a.0, spares_both first more a.1 b)

  spared : (writes : List Write) (had : Option (List ℕ)) → Spares writes → after_writes name writes had ≡ had
  spared [] had s = refl
  spared (Creates other ∷ writes) had s = rw (other_name other name (λ e. s.0 (sym e))) (spared writes had s.1)
  spared (Appends other bytes ∷ writes) had s = rw (other_name other name (λ e. s.0 (sym e))) (spared writes had s.1)
  spared (Reports bytes ∷ writes) had s = spared writes had s.1

  part_spares : (first write : Write) → IsPartOf first write → SparesOne write → SparesOne first
  part_spares (Creates own) write part s = absurd part
  part_spares (Appends own bytes) (Creates other) part s = absurd part
  part_spares (Appends own bytes) (Appends other more) part s = λ e. s (e ∙ part.0)
  part_spares (Appends own bytes) (Reports more) part s = absurd part
  part_spares (Reports bytes) write part s = tt

  cut_spares : (done writes : List Write) → IsCut done writes → Spares writes → Spares done
  cut_spares [] writes cut s = tt
  cut_spares (first ∷ done) [] cut s = absurd cut
  cut_spares (first ∷ done) (write ∷ writes) (inl (same, cut)) s =
      (subst SparesOne (sym same) s.0, cut_spares done writes cut s.1)
  cut_spares (first ∷ done) (write ∷ writes) (inr (part, none)) s =
      (part_spares first write part s.0, subst Spares (sym none) tt)

  begun_spares : (writes : List Write) (a b : Shown) → HasBegun writes a b → Spares writes → b.names name ≡ a.names name
  begun_spares writes a b begun s =
      begun.written.names name ∙ spared begun.done (a.names name) (cut_spares begun.done writes begun.cut s)

  module _ (names : OutputNames) (one : ¬ (name ≡ names.released)) (two : ¬ (name ≡ names.schedule)) where
    replies_spare : (replies : List Reply) → Spares (replies_writes names.released replies)
    replies_spare [] = tt
    replies_spare (r ∷ replies) = (one, (tt, replies_spare replies))

    some_spare : (u : FractionUnit) (replies : List Reply) → Spares (writes_of names u replies)
    some_spare u replies = (one, (one, (two, replies_spare replies)))

    run_spares : {V : Type 0} (s : Setting V) (events : List Event) (writes : List Write)
        → IsWritten s names events writes → Spares writes
    run_spares s events writes (inl some) = subst Spares (sym some.writes_are) (some_spare s.fractions some.replies)
    run_spares s events writes (inr (inl (limit, until))) =
        subst Spares (sym until.writes_are)
        (spares_both (writes_of names s.fractions until.replies) _ (some_spare s.fractions until.replies) (one, tt))
    run_spares s events writes (inr (inr all)) =
        subst Spares (sym all.writes_are)
        (spares_both (writes_of names s.fractions all.replies) _ (some_spare s.fractions all.replies) (two, (tt, tt)))

pub run_others : (names : RunNames) (a b : Shown) → RunsInOrder names a b → KeepsOthers (outputs_of names) a b
run_others names a b (inl kept) name one two = ap (λ f. f name) kept.names
run_others names a b (inr (inputs, asked, (writes, is, begun))) name one two =
    begun_spares name writes a b begun
    (run_spares name (outputs_of names) one two (setting_for inputs) inputs.events writes is)

pub made_others : (names : MakeNames) (a b : Shown) → HasBegun (made_writes names) a b → (name : List ℕ)
    → ¬ (name ≡ names.capture) → b.names name ≡ a.names name
made_others names a b begun name one =
    begun_spares name (made_writes names) a b begun (one, (one, (one, (tt, tt))))

pub play_others : (names : PlayNames) (a b : Shown) → PlaysInOrder names a b → (name : List ℕ) → ¬ (name ≡ names.out)
    → b.names name ≡ a.names name
play_others names a b (inl kept) name one = ap (λ f. f name) kept.names
play_others names a b (inr (inputs, accepts, begun)) name one =
    begun_spares name _ a b begun.begun (one, (one, (one, (tt, tt))))

pub check_others : (names : CheckNames) (a b : Shown) → FindsInOrder names a b → (name : List ℕ)
    → b.names name ≡ a.names name
check_others names a b (inl kept) name = ap (λ f. f name) kept.names
check_others names a b (inr (inputs, accepts, found, begun)) name = begun_spares name _ a b begun (tt, tt)
