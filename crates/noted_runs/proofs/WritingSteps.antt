-- The steps of writing a drill.
use Rattle.std.proofs.Common.{◌≡◌, ℕ, List, [], ◌∷◌, ◌++◌, sym, subst, Result, Ok, Err}
use Rattle.std.specs.Prelude.{⊤, All, OnOk}
use Rattle.std.specs.Result.{IsErr}
use Rattle.plain_text.specs.declared.limit.Limit.{Limit}
use Rattle.plain_text.specs.declared.packet.Packet.{Packet}
use Rattle.plain_text.specs.declared.packet.Unit.{Unit as FractionUnit}
use Rattle.access_log.specs.declared.entry.Output.{Output}
use Rattle.world_io.specs.World.{Shown}
use Rattle.output_files.specs.declared.error.OutputError.{OutputError}
use Rattle.output_files.specs.Writes.{Appends, Reports, HasBegun, HasGathered, HasWritten}
use Rattle.output_files.specs.Written.{Writes}
use Rattle.output_files.proofs.Effects.{begun_before, none_gathered}
use Rattle.run_writes.specs.declared.error.RunError.{RunError}
use Rattle.run_writes.specs.Errors.{run_result_of, stopped_result}
use Rattle.run_writes.specs.Replies.{packets_in}
use Rattle.run_writes.specs.Run.{OutputNames, FitsRecord, opening_writes, release_writes, reply_writes}
use Rattle.noted_runs.specs.declared.drill.Texts.{Texts}
use Rattle.noted_runs.specs.Drill.{drill_writes, stopped_writes}
use Rattle.noted_runs.specs.Drilled.{WritesDrilled}

module _ (names : OutputNames) (u : FractionUnit) (released : List Packet) (a b : Shown) where
  pub gathers : (lines : List ℕ) → lines ≡ [] → HasWritten (opening_writes names u) a b
      → HasGathered (opening_writes names u) lines a b
  gathers lines none w =
      subst (λ (l : List ℕ). HasGathered (opening_writes names u) l a b) (sym none)
      (none_gathered (opening_writes names u) a b w)

  -- the outputs could not be opened
  pub opening_failed : (r : Result ⊤ OutputError) (schedule report : List ℕ) → IsErr r
      → HasBegun (opening_writes names u) a b → Writes r (drill_writes names u released schedule report) a b
  opening_failed (Ok done) schedule report err h = absurd (cc)
  opening_failed (Err error) schedule report err h =
      begun_before (opening_writes names u)
      (reply_writes names.released (record { released = released; line = [] })
      ++ (Appends names.schedule schedule ∷ Reports report ∷ [])) a b h

  -- the records could not be written
  pub records_failed : (r : Result ⊤ OutputError) (schedule report : List ℕ) → IsErr r
      → HasBegun (opening_writes names u ++ reply_writes names.released (record { released = released; line = [] })) a b
      → Writes r (drill_writes names u released schedule report) a b
  records_failed (Ok done) schedule report err h = absurd (cc)
  records_failed (Err error) schedule report err h =
      begun_before (opening_writes names u ++ reply_writes names.released (record { released = released; line = [] }))
      (Appends names.schedule schedule ∷ Reports report ∷ []) a b h

  pub whole_written : (r : Result ⊤ OutputError) (text schedule line report : List ℕ) → text ≡ schedule
      → line ≡ report
      → Writes r
      ((opening_writes names u ++ reply_writes names.released (record { released = released; line = [] }))
      ++ (Appends names.schedule text ∷ Reports line ∷ [])) a b
      → Writes r (drill_writes names u released schedule report) a b
  whole_written r text schedule line report one two h =
      subst (λ (l : List ℕ). Writes r (drill_writes names u released l report) a b) one
      (subst (λ (l : List ℕ). Writes r (drill_writes names u released text l) a b) two h)

  -- the outputs of a drill that a limit stopped could not be opened
  pub halt_failed : (r : Result ⊤ OutputError) → IsErr r → HasBegun (opening_writes names u) a b
      → Writes r (stopped_writes names u released) a b
  halt_failed (Ok done) err h = absurd (cc)
  halt_failed (Err error) err h =
      begun_before (opening_writes names u) (release_writes names.released released) a b h

pub whole_drilled : (r : Result ⊤ RunError) (came : Result Texts Limit) (texts : Texts) (w : Result ⊤ OutputError)
    (outputs own : List Output) (names : OutputNames) (u : FractionUnit) (a b : Shown) → came ≡ Ok texts
    → outputs ≡ own → r ≡ run_result_of w → OnOk w (All FitsRecord (packets_in outputs))
    → Writes w (drill_writes names u (packets_in outputs) texts.schedule texts.report) a b
    → WritesDrilled r came (packets_in own) names u a b
whole_drilled r came texts w outputs own names u a b is same made fit h =
    subst (λ (l : List Output). WritesDrilled r came (packets_in l) names u a b) same
    (subst (λ (x : Result Texts Limit). WritesDrilled r x (packets_in outputs) names u a b) (sym is)
    (w, made, fit, h))

pub stopped_drilled : (r : Result ⊤ RunError) (came : Result Texts Limit) (limit : Limit) (w : Result ⊤ OutputError)
    (outputs own : List Output) (names : OutputNames) (u : FractionUnit) (a b : Shown) → came ≡ Err limit
    → outputs ≡ own → r ≡ stopped_result w limit
    → Writes w (stopped_writes names u (packets_in outputs)) a b
    → WritesDrilled r came (packets_in own) names u a b
stopped_drilled r came limit w outputs own names u a b is same made h =
    subst (λ (l : List Output). WritesDrilled r came (packets_in l) names u a b) same
    (subst (λ (x : Result Texts Limit). WritesDrilled r x (packets_in outputs) names u a b) (sym is)
    (w, made, h))
