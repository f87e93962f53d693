-- A picture is drawn, and written.
use Rattle.std.proofs.Common.{◌≡◌, inl, inr, ℕ, List, [], ◌∷◌, ◌++◌, refl, sym, ap, ◌∙◌, subst, length}
use Rattle.std.proofs.Common.{Result, Ok, Err}
use Rattle.std.specs.Prelude.{⊤, IfOk, IsErrOf, OnOk}
use Rattle.plain_text.specs.declared.limit.Limit.{Limit}
use Rattle.plain_text.specs.declared.packet.Packet.{Packet}
use Rattle.input_logger.specs.Inputs.{Fed}
use Rattle.plain_machine.specs.Program.{Meaning}
use Rattle.world_io.specs.World.{Shown}
use Rattle.recovery_world.specs.declared.event.Event.{Event}
use Rattle.recovery_world.specs.World.{Setting, opening}
use Rattle.recovery_world.specs.Files.{done_line, packets_of}
use Rattle.event_replies.specs.declared.reply.Stop.{Stop}
use Rattle.event_replies.specs.declared.reply.Stop.TheVariants as stop
use Rattle.recovery_core.specs.Systems.{SystemStands, Systemed}
use Rattle.output_files.specs.declared.error.OutputError.{OutputError}
use Rattle.output_files.specs.declared.error.OutputError.TheVariants as output
use Rattle.output_files.specs.Writes.{Appends, HasBegun, HasWritten, Reports}
use Rattle.output_files.specs.Written.{Writes}
use Rattle.output_files.proofs.Effects.{begun_all}
use Rattle.run_writes.specs.declared.error.RunError.{RunError}
use Rattle.run_writes.specs.declared.error.RunError.TheVariants as run
use Rattle.run_writes.specs.Errors.{run_result_of}
use Rattle.run_writes.specs.Run.{KeepsShown, counts_line}
use Rattle.run_writes.proofs.RunWrites.{other_name, same_name}
use Rattle.svg_text.specs.Drawing.{drawing_text}
use Rattle.svg_text.specs.WellFormed.{IsWellFormed}
use Rattle.svg_text.proofs.Elements.{picture_well_formed}
use Rattle.run_drawing.specs.declared.note.Note.{Note}
use Rattle.run_drawing.specs.Picture.{at_first, picture}
use Rattle.run_drawing.proofs.MovesShown.{moves_shown}
use Rattle.run_drawing.proofs.ReleasesShown.{releases_shown}
use Rattle.run_drawing.proofs.SlicesWhole.{whole_slices}
use Rattle.run_drawing.proofs.TimeCurves.{curves_right}
use Rattle.noted_runs.specs.declared.picture.running.Gone.{Gone}
use Rattle.noted_runs.specs.declared.picture.picturing.Texts.{Texts}
use Rattle.noted_runs.specs.PictureGoing.{HasGone}
use Rattle.noted_runs.specs.Noting.{AreInputs, IsHalted}
use Rattle.noted_runs.specs.Picture.{HasBegunPicture, HasPictured, HasStopped, picture_text, picture_times}
use Rattle.noted_runs.specs.Picture.{picture_writes}
use Rattle.noted_runs.specs.Picturing.{ComesTo, IsDrawn, IsHalt, WritesPicture}
use Rattle.noted_runs.proofs.AllNoted.{movers_all, moves_all}
use Rattle.noted_runs.proofs.CurvesEnd.{counts_end}
use Rattle.noted_runs.proofs.PicturePerformed.{stands_same}

-- The texts

line_is : {V : Type 0} (s : Setting V) (events : List Event) (gone : Gone) (h : HasGone s events gone)
    → counts_line gone.fed gone.epoch gone.released ≡ done_line h.world
line_is s events gone h =
    ap (λ (n : ℕ). counts_line n gone.epoch gone.released) h.fed
    ∙ (ap (λ (n : ℕ). counts_line h.world.fed n gone.released) h.epoch
    ∙ ap (λ (n : ℕ). counts_line h.world.fed h.world.epoch n) h.released)

pub text_is : (title words last slice : List ℕ) (threads : ℕ) (times : List ℕ) (notes all : List Note) (text : List ℕ)
    → text ≡ drawing_text (picture words slice threads times all) → words ≡ title → slice ≡ last → all ≡ notes
    → text ≡ picture_text title last threads times notes
unfolding picture_text
text_is title words last slice threads times notes all text is named same every =
    is
    ∙ (ap (λ (l : List ℕ). drawing_text (picture l slice threads times all)) named
    ∙ (ap (λ (l : List ℕ). drawing_text (picture title l threads times all)) same
    ∙ ap (λ (n : List Note). drawing_text (picture title last threads times n)) every))

pub drawn : {V : Type 0} (title : List ℕ) (s : Setting V) (events : List Event) (gone : Gone)
    (h : HasGone s events gone) (times : List ℕ) (texts : Texts) → times ≡ picture_times s
    → texts.picture ≡ picture_text title (counts_line gone.fed gone.epoch gone.released) s.threads times gone.notes
    → texts.report ≡ counts_line gone.fed gone.epoch gone.released → IsDrawn title s events texts
unfolding picture_text
drawn title s events gone h times texts are text report =
    let last = line_is s events gone h in
    let all = picture_times s in
    let counts = counts_line gone.fed gone.epoch gone.released in
    let same : texts.picture ≡ picture_text title (done_line h.world) s.threads all gone.notes =
    text
    ∙ (ap (λ (l : List ℕ). picture_text title counts s.threads l gone.notes) are
    ∙ ap (λ (l : List ℕ). picture_text title l s.threads all gone.notes) last) in
    record {
      world = h.world;
      pictures = record {
        notes = gone.notes;
        noted = h.noted;
        text_is = same;
        well_formed = subst IsWellFormed (sym same)
            (picture_well_formed (picture title (done_line h.world) s.threads all gone.notes));
        movers_are_all = movers_all s events gone.notes h.world h.noted;
        moves_are_all = moves_all s events gone.notes h.world h.noted;
        slices_are_all = λ thread. whole_slices thread gone.notes;
        curves_go_right = curves_right all gone.notes;
        counts_are_all = counts_end s events gone.notes h.world h.noted;
        moves_marked = moves_shown s.threads gone.notes at_first;
        releases_marked = releases_shown s.threads gone.notes at_first;
      };
      report = report ∙ last;
    }

-- One write, of the same bytes

pub begun_same : (name bytes other : List ℕ) (a b : Shown) → bytes ≡ other → HasBegun (Appends name bytes ∷ []) a b
    → HasBegun (Appends name other ∷ []) a b
begun_same name bytes other a b same h = subst (λ (l : List ℕ). HasBegun (Appends name l ∷ []) a b) same h

pub written_same : (name bytes other : List ℕ) (a b : Shown) → bytes ≡ other
    → HasWritten (Appends name bytes ∷ []) a b → HasWritten (Appends name other ∷ []) a b
written_same name bytes other a b same h = subst (λ (l : List ℕ). HasWritten (Appends name l ∷ []) a b) same h

pub reports_same : (r : Result ⊤ OutputError) (bytes other : List ℕ) (a b : Shown) → bytes ≡ other
    → Writes r (Reports bytes ∷ []) a b → Writes r (Reports other ∷ []) a b
reports_same r bytes other a b same h = subst (λ (l : List ℕ). Writes r (Reports l ∷ []) a b) same h

-- What was written

-- an error of a picture is a write fault only where that of its outputs is
pub fault_written : (r : Result ⊤ OutputError) → IsErrOf (run_result_of r) run.WriteFault → IsErrOf r output.WriteFault
fault_written (Ok done) h = absurd (cc)
fault_written (Err output.WriteFault) h = refl
fault_written (Err output.NoMemory) h = absurd (cc)

abbrev pub failed_at : Limit → Result ⊤ RunError
failed_at limit = Err (run.Limit limit)

no_limit : (w : Result ⊤ OutputError) (limit : Limit) → run_result_of w ≡ Err (run.Limit limit) → ⊥
no_limit (Ok done) limit e = cc
no_limit (Err output.WriteFault) limit e = cc
no_limit (Err output.NoMemory) limit e = cc

pub kept_shown : (a b : Shown) → b ≡ a → KeepsShown a b
kept_shown a b same =
    record { names = ap (λ (x : Shown). x.names) same; sent = ap (λ (x : Shown). x.sent) same }

module _ {V : Type 0} (title : List ℕ) (s : Setting V) (events : List Event) (name : List ℕ) (a b : Shown) where
  module _ (texts : Texts) (h : IsDrawn title s events texts) where
    texts_same : picture_writes name texts.picture texts.report
        ≡ picture_writes name texts.picture (done_line h.world)
    texts_same = ap (picture_writes name texts.picture) h.report

    pictured : HasWritten (picture_writes name texts.picture (done_line h.world)) a b
        → HasPictured title s events name a b
    pictured w = record {
      world = h.world;
      text = texts.picture;
      pictures = h.pictures;
      picture_is = w.names name ∙ rw (same_name name) refl;
      report_is = w.report ∙ ap (λ (l : List ℕ). a.sent 0 ++ l) (nothing_behind (done_line h.world));
      others = λ other ne. w.names other ∙ rw (other_name name other (λ e. ne (sym e))) refl;
    }
      where
        nothing_behind : (l : List ℕ) → l ++ [] ≡ l
        nothing_behind [] = refl
        nothing_behind (x ∷ l) = ap (λ m. x ∷ m) (nothing_behind l)

    pub whole : (r : Result ⊤ RunError) (w : Result ⊤ OutputError) → r ≡ run_result_of w
        → Writes w (picture_writes name texts.picture texts.report) a b
        → OnOk r (HasPictured title s events name a b)
    whole r w is written =
        subst (λ (x : Result ⊤ RunError). OnOk x (HasPictured title s events name a b)) (sym is) (go w written)
      where
        go : (w : Result ⊤ OutputError) → Writes w (picture_writes name texts.picture texts.report) a b
            → OnOk (run_result_of w) (HasPictured title s events name a b)
        go (Ok done) written = pictured (subst (λ l. HasWritten l a b) texts_same written)
        go (Err error) written = tt

    pub no_stop : (r : Result ⊤ RunError) (w : Result ⊤ OutputError) → r ≡ run_result_of w → (limit : Limit)
        → r ≡ Err (run.Limit limit) → HasStopped s events limit a b
    no_stop r w is limit e = absurd (no_limit w limit (sym is ∙ e))

    pub in_order : (w : Result ⊤ OutputError) → Writes w (picture_writes name texts.picture texts.report) a b
        → HasBegunPicture title s events name a b
    in_order w written =
        inr (h.world, texts.picture, h.pictures, subst (λ l. HasBegun l a b) texts_same (go w written))
      where
        go : (w : Result ⊤ OutputError) → Writes w (picture_writes name texts.picture texts.report) a b
            → HasBegun (picture_writes name texts.picture texts.report) a b
        go (Ok done) written = begun_all (picture_writes name texts.picture texts.report) a b written
        go (Err error) written = written

  -- an event stopped
  pub stopped : (limit : Limit) → IsHalted s events limit → KeepsShown a b → HasStopped s events limit a b
  stopped limit h kept = record {
    lines = h.lines;
    released = packets_of h.world.released;
    stops = record {
      before = h.before;
      event = h.event;
      after = h.after;
      events_are = h.events_are;
      there = h.there;
      performs = h.performs;
      world = h.world;
      stops = h.stops;
      released_is = refl;
    };
    kept = kept;
  }

  -- what a picture came to was written

  pub drawn_whole : (r : Result ⊤ RunError) (came : Result Texts Limit) → ComesTo title s events came
      → WritesPicture r came name a b → OnOk r (HasPictured title s events name a b)
  drawn_whole r (Ok texts) comes (w, is, wrote) = whole texts comes r w is wrote
  drawn_whole r (Err l) comes (is, kept) =
      subst (λ (x : Result ⊤ RunError). OnOk x (HasPictured title s events name a b)) (sym is) tt

  pub drawn_limit : (r : Result ⊤ RunError) (came : Result Texts Limit) (limit : Limit)
      → ComesTo title s events came → WritesPicture r came name a b → r ≡ Err (run.Limit limit)
      → HasStopped s events limit a b
  drawn_limit r (Ok texts) limit comes (w, is, wrote) e = no_stop texts comes r w is limit e
  drawn_limit r (Err l) limit comes (is, kept) e =
      let both : failed_at l ≡ failed_at limit = sym is ∙ e in
      let one : l ≡ limit = cc in
      stopped limit (subst (IsHalted s events) one comes) kept

  pub drawn_order : (r : Result ⊤ RunError) (came : Result Texts Limit) → ComesTo title s events came
      → WritesPicture r came name a b → HasBegunPicture title s events name a b
  drawn_order r (Ok texts) comes (w, is, wrote) = in_order texts comes w wrote
  drawn_order r (Err l) comes (is, kept) = inl kept

pub whole_drawn : (r : Result ⊤ RunError) (came : Result Texts Limit) (texts : Texts) (w : Result ⊤ OutputError)
    (name : List ℕ) (a b : Shown) → came ≡ Ok texts → r ≡ run_result_of w
    → Writes w (picture_writes name texts.picture texts.report) a b → WritesPicture r came name a b
whole_drawn r came texts w name a b is made wrote =
    subst (λ (x : Result Texts Limit). WritesPicture r x name a b) (sym is) (w, made, wrote)

pub stopped_drawn : (r : Result ⊤ RunError) (came : Result Texts Limit) (limit : Limit) (name : List ℕ) (a b : Shown)
    → came ≡ Err limit → r ≡ Err (run.Limit limit) → KeepsShown a b → WritesPicture r came name a b
stopped_drawn r came limit name a b is made kept =
    subst (λ (x : Result Texts Limit). WritesPicture r x name a b) (sym is) (made, kept)

-- the events stopped
pub halted_comes : {V E : Type 0} (title : List ℕ) (s : Setting V) (events : List Event)
    (r : Result (Result Texts Limit) E) (why : Stop) → IfOk r (IsHalt why)
    → ((limit : Limit) → why ≡ stop.Limit limit → IsHalted s events limit) → IfOk r (ComesTo title s events)
halted_comes title s events (Ok came) (stop.Limit l) is h = subst (ComesTo title s events) (sym is) (h l refl)
halted_comes title s events (Ok came) stop.NoMemory is h = absurd is
halted_comes title s events (Err error) why is h = tt

-- A new system

pub new_stands : {P V : Type 0} (meaning : P → Meaning V) (program : P) (s : Setting V) (y : Systemed P V)
    → y.parts.program ≡ program → SystemStands (meaning program) s (opening V) y
    → SystemStands (meaning y.parts.program) s (opening V) y
new_stands {P} {V} meaning program s y same stands =
    stands_same (meaning program) (meaning y.parts.program) s (opening V) y (ap meaning (sym same)) stands

-- all packets of the run were fed
pub all_fed : {V : Type 0} (s : Setting V) (packets : List Packet) (inputs : Fed) → packets ≡ s.packets
    → inputs ≡ record { threads = s.threads; tags = s.tags; packets = packets } → AreInputs s.meaning inputs s
all_fed s packets inputs same is = record {
  meaning = refl;
  inputs_are = is
      ∙ ap
      (λ (l : List Packet). let log : Fed = record { threads = s.threads; tags = s.tags; packets = l } in log) same;
}
