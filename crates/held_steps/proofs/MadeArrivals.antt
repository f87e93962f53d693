-- A system that held an entry as soon as it was made stands for the world after its arrival.
use Rattle.std.proofs.Common.{◌≡◌, ℕ, ◌<◌, List, [], ◌∷◌, ◌++◌, length, refl, sym, ap, ◌∙◌, subst, inl, inr, arith}
use Rattle.std.specs.Prelude.{slice_index}
use Rattle.std.proofs.lemmas.List.{append-nil}
use Rattle.entry_order.specs.Log.{Entry, IsIn}
use Rattle.entry_order.specs.Stamps.{IsStamp}
use Rattle.access_log.specs.declared.entry.StampedEntry.{StampedEntry}
use Rattle.access_log.specs.declared.entry.Output.{Output}
use Rattle.plain_machine.specs.Program.{Meaning}
use Rattle.plain_machine.specs.History.{log_of}
use Rattle.plain_machine.proofs.LoggedEffects.{entry_thread}
use Rattle.master_core.specs.Stepping.{plain_entry}
use Rattle.recovery_world.specs.declared.event.Event.TheVariants as event
use Rattle.recovery_world.specs.declared.event.Outcome.TheVariants as outcome
use Rattle.recovery_world.specs.World.{Setting, Sent, World, inputs_fed}
use Rattle.recovery_world.specs.Limits.{OnWithin}
use Rattle.recovery_world.specs.Files.{sent_names}
use Rattle.recovery_laws.specs.Sound.{Sound}
use Rattle.event_replies.specs.declared.reply.Reply.{Reply}
use Rattle.early_arrivals.proofs.EarlyWorlds.{log_early}
use Rattle.early_arrivals.proofs.EarlyRuns.{new_unwanted}
use Rattle.system_parts.specs.Parts.{Parts}
use Rattle.system_parts.specs.SystemStanding.{StandsFor}
use Rattle.system_parts.specs.Performing.{ReleasesInto}
use Rattle.system_parts.proofs.EventChains.{threads_of_setting}
use Rattle.message_arrivals.specs.FromOutputReleases.{names_of}
use Rattle.message_arrivals.proofs.FromOutputReleases.{AnswersTo}
use Rattle.message_arrivals.proofs.EntryArrivals.{IsOfPast, log_new}
use Rattle.held_steps.specs.Holding.{HoldsMade}
use Rattle.held_steps.proofs.MadeEntries.{spelled, forgets, next_fresh}

-- no names, no outputs
none_named : (go : List Output) → names_of go ≡ [] → go ≡ []
none_named [] is = refl
none_named (o ∷ go) is = absurd (cc)

-- the world after the arrival, which releases nothing
pub record Arrived {P V : Type 0} (m : Meaning V) (s : Setting V) (here : World V) (e : StampedEntry)
    (before out : List Output) (new : Parts P V) : Type 0 where
  pub next : World V
  pub on : OnWithin s here (event.Log e.thread e.number) outcome.New [] next
  pub into : ReleasesInto before out here next
  pub stands : StandsFor m s next new

-- The entry arrives in the world after the move that made it, and releases nothing.
pub made_arrives : {P V : Type 0} (m : Meaning V) (s : Setting V) (w here : World V) (e : StampedEntry)
    (before out : List Output) (old new : Parts P V) (h : HoldsMade e before out old new) → Sound s w
    → StandsFor m s here (record old { sent = spelled e before out old new h })
    → log_of here.past ≡ plain_entry e ∷ log_of w.past → here.waiting ≡ w.waiting
    → IsStamp (log_of here.past) (plain_entry e) (λ u. slice_index e.stamp u) → Arrived m s here e before out new
made_arrives {P} {V} m s w here e before out old new h sound st log waiting stamp = go arrival
  where
    there : IsIn (plain_entry e) (log_of here.past)
    there = subst (λ (l : List Entry). IsIn (plain_entry e) l) (sym log) (inl refl)

    low : e.thread < old.inputs.threads
    low =
        let a = entry_thread s.meaning (inputs_fed s here.fed) s.threads here.past (plain_entry e) st.sound.firm.legal
        there in
        let b = threads_of_setting m s here (record old { sent = spelled e before out old new h }) st in
        omega (arith, a, b)

    of : IsOfPast here e.thread e.number e
    of = record { here = there; stamp = stamp; thread = refl; number = refl }

    named : Reply
    named = record { outcome = outcome.New; released = names_of h.go }

    after : Parts P V
    after = record old { sent = new.sent; logger = new.logger; released = old.released ++ names_of h.go }

    arrival : AnswersTo m s here (event.Log e.thread e.number)
        (record { outcome = outcome.New; released = names_of h.go }) before out
        (record old { sent = new.sent; logger = new.logger; released = old.released ++ names_of h.go })
    arrival = log_new m s here (record old { sent = spelled e before out old new h }) st e.thread e.number low e of
        new.logger (next_fresh old.logger.held e h.next) h.puts h.others new.sent h.known before out h.go
        (record { outcome = outcome.New; released = names_of h.go }) h.appends h.epoch h.parts h.once
        h.frontier.reached (forgets e before out old new h) refl

    go : AnswersTo m s here (event.Log e.thread e.number)
        (record { outcome = outcome.New; released = names_of h.go }) before out
        (record old { sent = new.sent; logger = new.logger; released = old.released ++ names_of h.go })
        → Arrived m s here e before out new
    go (next, ((freed, on, names), into), stands) = record {
      next = next;
      on = subst (λ (l : List Sent). OnWithin s here (event.Log e.thread e.number) outcome.New l next) none on;
      into = into;
      stands = subst (λ (z : Parts P V). StandsFor m s next z) (sym same) stands;
    }
      where
        none : freed ≡ []
        none = (log_early s here next here.held (plain_entry e) outcome.New freed st.sound (record {
          keeps = λ x i. i;
          more = λ x i. inl i;
          unwanted = λ o x i p k. k;
        }) there (λ o i p. absurd (new_unwanted s w here (plain_entry e) sound st.sound waiting log o i p)) on.0).0

        none_go : h.go ≡ []
        none_go = none_named h.go (names ∙ ap (λ (l : List Sent). sent_names l) none)

        same : new
            ≡ record old { sent = new.sent; logger = new.logger; released = old.released ++ names_of h.go }
        same =
            h.new_is
            ∙ ap (λ (l : List (ℕ × ℕ)).
            let z : Parts P V = record old { sent = new.sent; logger = new.logger; released = l } in z)
            (sym (ap (λ (l : List Output). old.released ++ names_of l) none_go ∙ append-nil old.released))
