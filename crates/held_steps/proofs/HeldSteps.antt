-- A system whose master made a move, and held its entry at once, stands for the world after both.
use Rattle.std.proofs.Common.{◌≡◌, ℕ, List, [], length, ◌<◌, refl, sym, ap, ◌∙◌, subst, inl, inr, ◌⊎◌, Option, None}
use Rattle.std.proofs.Common.{Result}
use Rattle.std.proofs.Common.{Ok, Err}
use Rattle.std.specs.Prelude.{IfOk}
use Rattle.plain_text.specs.declared.limit.Limit.{Limit}
use Rattle.access_log.specs.declared.entry.StampedEntry.{StampedEntry}
use Rattle.access_log.specs.declared.entry.Output.{Output}
use Rattle.plain_machine.specs.Program.{Meaning}
use Rattle.master_core.specs.Stepping.{plain_entry}
use Rattle.master_core.specs.declared.step.Stepped.{Stepped}
use Rattle.master_core.specs.declared.step.Stepped.TheVariants as stepped
use Rattle.recovery_world.specs.declared.event.Event.TheVariants as event
use Rattle.recovery_world.specs.declared.event.Outcome.{Outcome}
use Rattle.recovery_world.specs.declared.event.Outcome.TheVariants as outcome
use Rattle.recovery_world.specs.World.{Setting, World}
use Rattle.recovery_world.specs.Events.{entry_outcome}
use Rattle.event_replies.specs.declared.reply.Stop.{Stop}
use Rattle.event_replies.specs.declared.reply.Stop.TheVariants as stop
use Rattle.link_store.specs.Sending.{Sending, SendsEntry}
use Rattle.system_parts.specs.Parts.{Parts}
use Rattle.system_parts.specs.SystemStanding.{StandsFor}
use Rattle.system_parts.specs.Performing.{MovesOn, StopsAt, ComesTo, Releasing, WouldPass}
use Rattle.system_parts.proofs.EventChains.{moves_as, stops_as}
use Rattle.message_arrivals.proofs.FromOutputReleases.{quiet_on}
use Rattle.message_arrivals.proofs.FromOutputReleases.{releases_none, releases_after}
use Rattle.thread_steps.specs.Stepping.{Notes, NotesMove, AddsEntry, MakesNext}
use Rattle.held_steps.specs.Holding.{HoldsMade, NotesMade, NotesHeld, StepsHeld}
use Rattle.held_steps.proofs.MadeEntries.{spelled, sends}
use Rattle.held_steps.proofs.MadeArrivals.{Arrived, made_arrives}

abbrev Answer : Type 0
Answer = Result Outcome Stop

module _ {P V : Type 0} (m : Meaning V) (t : ℕ) (answer : Option ℕ) (r : Stepped) (old mid : Parts P V)
    (makes : MakesNext m t None answer r old mid) (before out : List Output) where
  -- Nothing was held at once.
  noted_goes : (to : Outcome) (after : Parts P V) → Notes t answer r mid (Ok to) after → out ≡ before
      → MovesOn m (Releasing before out (StepsHeld t to)) old after
  noted_goes to after n same =
      subst (λ (l : List Output). MovesOn m (Releasing before l (StepsHeld t to)) old after) (sym same)
      (moves_as m (ComesTo (event.Step t None) to) (Releasing before before (StepsHeld t to)) old after
      (λ s w next st sn on. (
        (next, on, inl refl),
        releases_none before w next (quiet_on s w (event.Step t None) to [] next tt on.0),
      )) (makes.goes (Ok to) after n))

  -- The entry was held at once.
  made_goes : (after : Parts P V) (e : StampedEntry) (noted : Parts P V) → r ≡ stepped.Did e
      → NotesMove t answer 0 mid noted → HoldsMade e before out noted after
      → MovesOn m (Releasing before out (StepsHeld t (entry_outcome e.number e.what))) old after
  made_goes after e noted did notes h = (
    ap (λ (z : Parts P V). z.program) h.new_is ∙ moved.0,
    λ s w st. goes s w st (moved.1 s w st),
  )
    where
      to : Outcome
      to = entry_outcome e.number e.what

      as_noted : Notes t answer (stepped.Did e) mid (Ok (entry_outcome e.number e.what))
          (record noted { sent = spelled e before out noted after h })
      as_noted = (
        refl,
        record {
          within = notes.within;
          sends = (
            subst (λ (z : Parts P V). e.thread < length z.sent.entries) notes.new_is h.there,
            subst (λ (z : Sending). SendsEntry z (spelled e before out noted after h) e)
                (ap (λ (z : Parts P V). z.sent) notes.new_is) (sends e before out noted after h),
          );
          new_is = ap (λ (z : Parts P V). record z { sent = spelled e before out noted after h }) notes.new_is;
        },
      )

      moved : MovesOn m (ComesTo (event.Step t None) (entry_outcome e.number e.what)) old
          (record noted { sent = spelled e before out noted after h })
      moved = makes.goes (Ok (entry_outcome e.number e.what))
          (record noted { sent = spelled e before out noted after h })
          (subst (λ (x : Stepped). Notes t answer x mid (Ok (entry_outcome e.number e.what))
          (record noted { sent = spelled e before out noted after h })) (sym did) as_noted)

      goes : (s : Setting V) (w : World V) → StandsFor m s w old
          → (here : World V) × ComesTo (event.Step t None) (entry_outcome e.number e.what) s w here
          × StandsFor m s here (record noted { sent = spelled e before out noted after h })
          → (next : World V) × Releasing before out (StepsHeld t (entry_outcome e.number e.what)) s w next
          × StandsFor m s next after
      goes s w st (here, on, stands) =
          let log = makes.logs e did s w st (entry_outcome e.number e.what) here on in
          let a = made_arrives m s w here e before out noted after h st.sound stands log.0 log.1 log.2 in (
            a.next,
            (
              (here, on, inr (plain_entry e, log.0, outcome.New, [], a.on)),
              releases_after before out w here a.next
                  (quiet_on s w (event.Step t None) (entry_outcome e.number e.what) [] here tt on.0) a.into,
            ),
            a.stands,
          )

  pub held_goes : (res : Answer) (after : Parts P V) → NotesHeld t answer r before out mid res after
      → IfOk res (λ (to : Outcome). MovesOn m (Releasing before out (StepsHeld t to)) old after)
  held_goes (Err x) after n = tt
  held_goes (Ok to) after (inl n) = noted_goes to after n.0 n.1
  held_goes (Ok to) after (inr (inl n)) =
      subst (λ (o : Outcome). MovesOn m (Releasing before out (StepsHeld t o)) old after) (sym (one to n.e n.result_is))
      (made_goes after n.e n.noted n.did n.notes n.holds)
    where
      one : (to : Outcome) (e : StampedEntry)
          → let x : Answer = Ok to in let y : Answer = Ok (entry_outcome e.number e.what) in x ≡ y
          → to ≡ entry_outcome e.number e.what
      one to e is = cc
  held_goes (Ok to) after (inr (inr n)) =
      let e : Answer = Ok to in let none : e ≡ Err stop.NoMemory = n in absurd (cc)

  pub held_stops : (res : Answer) (after : Parts P V) → NotesHeld t answer r before out mid res after → (limit : Limit)
      → res ≡ Err (stop.Limit limit)
      → StopsAt m (Releasing before out (WouldPass (event.Step t None) limit)) old after
  held_stops res after (inl n) limit is =
      subst (λ (l : List Output). StopsAt m (Releasing before l (WouldPass (event.Step t None) limit)) old after)
      (sym n.1)
      (stops_as m (WouldPass (event.Step t None) limit)
      (Releasing before before (WouldPass (event.Step t None) limit)) old after
      (λ s w next st b. (b, releases_none before w next (ap (λ (z : World V). z.released) b.1)))
      (makes.stops res after n.0 limit is))
  held_stops res after (inr (inl n)) limit is = let e : res ≡ Ok (entry_outcome n.e.number n.e.what) = n.result_is in
      absurd (cc)
  held_stops res after (inr (inr n)) limit is = let e : res ≡ Err stop.NoMemory = n in absurd (cc)

-- A step that holds nothing.
pub steps_held : {P V : Type 0} (m : Meaning V) (t : ℕ) (out : List Output) (old new : Parts P V) (res : Answer)
    → IfOk res (λ (to : Outcome). MovesOn m (ComesTo (event.Step t None) to) old new)
    → IfOk res (λ (to : Outcome). MovesOn m (Releasing out out (StepsHeld t to)) old new)
steps_held m t out old new (Err x) on = tt
steps_held m t out old new (Ok to) on =
    moves_as m (ComesTo (event.Step t None) to) (Releasing out out (StepsHeld t to)) old new
    (λ s w next st sn a. (
      (next, a, inl refl),
      releases_none out w next (quiet_on s w (event.Step t None) to [] next tt a.0),
    )) on

pub steps_stop : {P V : Type 0} (m : Meaning V) (t : ℕ) (out : List Output) (old new : Parts P V) (limit : Limit)
    → StopsAt m (WouldPass (event.Step t None) limit) old new
    → StopsAt m (Releasing out out (WouldPass (event.Step t None) limit)) old new
steps_stop {P} {V} m t out old new limit stops =
    stops_as m (WouldPass (event.Step t None) limit) (Releasing out out (WouldPass (event.Step t None) limit)) old new
    (λ s w next st b. (b, releases_none out w next (ap (λ (z : World V). z.released) b.1))) stops
