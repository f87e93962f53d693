-- What is noted of an output that the master sent out.
use Rattle.std.proofs.Common.{◌≡◌, ℕ, length, refl, sym, ap, subst, Option, Ok}
use Rattle.access_log.specs.declared.entry.Output.{Output}
use Rattle.master_core.specs.declared.step.Stepped.{Stepped}
use Rattle.master_core.specs.declared.step.Stepped.TheVariants as stepped
use Rattle.recovery_world.specs.declared.event.Outcome.TheVariants as outcome
use Rattle.link_store.specs.Sending.{Sending}
use Rattle.system_parts.specs.Parts.{Parts}
use Rattle.thread_steps.specs.Stepping.{AddsOutput, NotesMove, Notes}

pub notes_output : {P V : Type 0} (t : ℕ) (answer : Option ℕ) (r : Stepped) (o : Output) (bytes : ℕ)
    (old mid : Parts P V) (sent : Sending) → r ≡ stepped.Emitted o → bytes ≡ length o.packet.bytes
    → NotesMove t answer bytes old mid → AddsOutput o mid.sent sent
    → Notes t answer r old (Ok (outcome.Emitted o.number)) (record mid { sent = sent })
notes_output {P} {V} t answer r o bytes old mid sent is size moved sends =
    let M : NotesMove t answer (length o.packet.bytes) old mid =
    subst (λ (n : ℕ). NotesMove t answer n old mid) size moved in
    subst (λ (q : Stepped). Notes t answer q old (Ok (outcome.Emitted o.number)) (record mid { sent = sent }))
    (sym is) (
      refl,
      record {
        within = M.within;
        sends = subst (λ (q : Sending). AddsOutput o q sent) (ap (λ (q : Parts P V). q.sent) M.new_is) sends;
        new_is = ap (λ (q : Parts P V). record q { sent = sent }) M.new_is;
      },
    )
