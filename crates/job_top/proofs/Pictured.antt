-- What the status of `picture` says, and what it leaves: from before its inputs were read.
use Rattle.std.proofs.Common.{◌≡◌, ℕ, List, ◌++◌, refl, sym, ap, ◌∙◌, inl, inr, Result, Ok, Err, rules}
use Rattle.std.specs.Prelude.{⊤, IsErrOf, OnOk}
use Rattle.plain_text.specs.declared.limit.Limit.{Limit}
use Rattle.plain_text.specs.declared.packet.Packet.{Packet}
use Rattle.plain_machine.specs.declared.plain_move.PlainMove.{PlainMove}
use Rattle.world_io.specs.World.{Shown}
use Rattle.recovery_world.specs.declared.event.Event.{Event}
use Rattle.recovery_world.specs.World.{Setting, opening}
use Rattle.recovery_world.specs.Files.{Leaves, done_line, moves_made, packets_of}
use Rattle.recovery_laws.proofs.Finishes.{finish_there}
use Rattle.recovery_laws.proofs.KeptWorlds.{opening_sound, performs_sound}
use Rattle.output_files.specs.Writes.{report_file}
use Rattle.run_writes.specs.declared.error.RunError.{RunError}
use Rattle.run_writes.specs.declared.error.RunError.TheVariants as run_error
use Rattle.run_writes.specs.Run.{KeepsShown}
use Rattle.input_files.specs.Files.{KeepsOutputs}
use Rattle.live_writes.specs.Script.{SpareName}
use Rattle.live_writes.proofs.ScriptSteps.{spare_cut, spared}
use Rattle.noted_runs.specs.Picture.{HasBegunPicture, HasPictured, HasStopped, picture_writes}
use Rattle.noted_runs.proofs.PicturePerformed.{noted_performs}
use Rattle.job_commands.specs.declared.inputs.Inputs.{Inputs}
use Rattle.job_commands.specs.Judging.{Judges}
use Rattle.job_commands.specs.Run.{setting_for}
use Rattle.job_commands.specs.Status.{run_outcome}
use Rattle.job_commands.specs.Words.{PictureNames, pictured_run}
use Rattle.job_commands.proofs.Outcomes.{begun_writes_since}
use Rattle.job_commands.proofs.RunLimits.{stops_are}
use Rattle.job_top.specs.Picture.{AcceptsPictureInputs, DrawsInOrder, DrawsWhole, KeepsPictureNames}
use Rattle.job_commands.specs.Meanings.{PromisesNothing}
use Rattle.job_commands.proofs.OneVerdict.{run_completes}
use Rattle.job_commands.proofs.Usual.{Ends, IsUsual, run_says, stops_late}
use Rattle.job_top.specs.Picture.{picture_meaning}

-- The files are as they were when the inputs had been read.
module _ (a b c : Shown) (keeps : KeepsOutputs a b) where
  kept_since : KeepsShown b c → KeepsShown a c
  kept_since kept = record { names = kept.names ∙ keeps.names; sent = kept.sent ∙ keeps.sent }

  pub pictured_since : {V : Type 0} (title : List ℕ) (s : Setting V) (events : List Event) (name : List ℕ)
      (r : Result ⊤ RunError) → OnOk r (HasPictured title s events name b c)
      → OnOk r (HasPictured title s events name a c)
  pictured_since title s events name (Ok done) r = record {
    world = r.world;
    text = r.text;
    pictures = r.pictures;
    picture_is = r.picture_is;
    report_is =
        r.report_is ∙ ap (λ (f : ℕ → List ℕ). f report_file ++ done_line r.world) keeps.sent;
    others = λ other apart. r.others other apart ∙ ap (λ f. f other) keeps.names;
  }
  pictured_since title s events name (Err e) r = tt

  pub stop_since : {V : Type 0} (s : Setting V) (events : List Event) (limit : Limit) → HasStopped s events limit b c
      → HasStopped s events limit a c
  stop_since s events limit r =
      record { lines = r.lines; released = r.released; stops = r.stops; kept = kept_since r.kept }

  pub order_pictured : {V : Type 0} (title : List ℕ) (s : Setting V) (events : List Event) (name : List ℕ)
      → HasBegunPicture title s events name b c → HasBegunPicture title s events name a c
  order_pictured title s events name (inl kept) = inl (kept_since kept)
  order_pictured title s events name (inr (w, text, pictures, begun)) =
      inr (w, text, pictures, begun_writes_since a b c keeps (picture_writes name text (done_line w)) begun)

-- A run of which there is a picture leaves what `run` writes.
record LeavesSome {V : Type 0} (s : Setting V) (events : List Event) : Type 0 where
  pub report : List ℕ
  pub released : List Packet
  pub schedule : List PlainMove
  pub leaves : Leaves s events report released schedule

leaves_some : {V : Type 0} (title : List ℕ) (s : Setting V) (events : List Event) (name : List ℕ) (a c : Shown)
    → HasPictured title s events name a c → LeavesSome s events
leaves_some {V} title s events name a c h =
    let run = noted_performs s events h.pictures.notes h.world h.pictures.noted in
    let sound = performs_sound s (opening V) h.world events run.0 (opening_sound s) run.1 in
    let f = finish_there s h.world sound in
    record {
      report = run.0 ++ done_line h.world;
      released = packets_of h.world.released;
      schedule = moves_made f.0;
      leaves = record {
        world = h.world;
        lines = run.0;
        performs = run.1;
        report_is = refl;
        released_is = refl;
        steps = f.0;
        finish = f.1;
        schedule_is = refl;
      };
    }

-- The status of the command, where its inputs are accepted.

module _ (healthy : Type 0) (names : PictureNames) (inputs : Inputs) (a c : Shown)
    (accepted : AcceptsPictureInputs names inputs a) where
  abbrev Drawn : Result ⊤ RunError → Type 0
  Drawn r = OnOk r (HasPictured names.box_file (setting_for inputs) inputs.events names.picture a c)

  abbrev Stops : Result ⊤ RunError → Type 0
  Stops r =
      (limit : Limit) → r ≡ Err (run_error.Limit limit) → HasStopped (setting_for inputs) inputs.events limit a c

  picture_judged : (r : Result ⊤ RunError) → (healthy → ¬ IsErrOf r run_error.WriteFault) → Drawn r → Stops r
      → Judges healthy (pictured_run names) (run_outcome r) a
  picture_judged (Ok done) never whole limit =
      let l = leaves_some names.box_file (setting_for inputs) inputs.events names.picture a c whole in
      (inputs, accepted, (l.report, l.released, l.schedule, l.leaves))
  picture_judged (Err (run_error.Limit l)) never whole limit =
      let h = limit l refl in inr (inputs, accepted, (h.lines, h.released, h.stops))
  picture_judged (Err run_error.WriteFault) never whole limit = (λ ok. never ok refl, inputs, accepted)
  picture_judged (Err run_error.NoMemory) never whole limit = tt

  whole : (r : Result ⊤ RunError) → Drawn r → OnOk r (DrawsWhole names a c × PromisesNothing a c)
  whole (Ok done) run = let all : DrawsWhole names a c = (inputs, accepted, run) in (all, tt)
  whole (Err error) run = tt

  pub picture_ends : (r : Result ⊤ RunError) → (healthy → ¬ IsErrOf r run_error.WriteFault) → Drawn r → Stops r
      → HasBegunPicture names.box_file (setting_for inputs) inputs.events names.picture a c
      → Ends (picture_meaning names) healthy (run_outcome r) a c
  picture_ends r never run limit begun = record {
    says = run_says (picture_meaning names) a c r (whole r run) (λ l is.
        let h = limit l is in stops_late l a c _
        (stops_are (setting_for inputs) h.stops.there h.stops.event l h.stops.world h.stops.stops) (inputs, accepted, h));
    in_order = inr (inputs, accepted, begun);
    judged = picture_judged r never run limit;
  }

-- Other names

pub picture_others : (names : PictureNames) (a b : Shown) → DrawsInOrder names a b → KeepsPictureNames names a b
picture_others names a b (inl kept) name one = ap (λ f. f name) kept.names
picture_others names a b (inr (inputs, accepted, inl kept)) name one = ap (λ f. f name) kept.names
picture_others names a b (inr (inputs, accepted, inr (w, text, pictures, begun))) name one =
    let other : ¬ (names.picture ≡ name) = (λ e. one (sym e)) in
    let spare : SpareName name (picture_writes names.picture text (done_line w)) = (other, (other, tt)) in
    begun.written.names name
    ∙ spared name begun.done (a.names name) (spare_cut name begun.done
    (picture_writes names.picture text (done_line w)) spare begun.cut)

pub picture_usual : (names : PictureNames) → IsUsual (picture_meaning names)
picture_usual names = record {
  few = search rules;
  begins = λ old new same. inl same;
  others = picture_others names;
  completes = λ healthy shown. run_completes healthy (pictured_run names) shown;
}
