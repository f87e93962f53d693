-- The words of the commands.
use Rattle.std.specs.Prelude.{ℕ, Bool, ◌&&◌, not, nat_le, List, [], ◌∷◌, ◌++◌, codes, if◌then◌else◌, Option, Some, None}
use Rattle.std.specs.Prelude.{IfSome}
use Rattle.std.specs.Str.{bytes_eq}
use Rattle.plain_text.specs.Lines.{number_of}
use Rattle.plain_text.specs.declared.limit.TheConstants.{MOST_PACKETS}
use Rattle.job_commands.specs.declared.run_words.RunWords.{RunWords}
use Rattle.job_commands.specs.declared.live_words.LiveWords.{LiveWords}
use Rattle.job_commands.specs.declared.make_words.MakeWords.{MakeWords}
use Rattle.job_commands.specs.declared.schedule_words.ScheduleFiles.{ScheduleFiles}
use Rattle.job_commands.specs.declared.schedule_words.PlayWords.{PlayWords}
use Rattle.job_commands.specs.declared.schedule_words.CheckWords.{CheckWords}
use Rattle.job_commands.specs.declared.drill_words.DrillWords.{DrillWords}
use Rattle.job_commands.specs.declared.trace_words.TraceWords.{TraceWords}
use Rattle.job_commands.specs.declared.picture_words.PictureWords.{PictureWords}
use Rattle.job_commands.specs.ChainWords.{ChainNames, chain_inputs, chain_names, chain_names_of}
use Rattle.job_commands.specs.HandWords.{HandNames, ResumeNames, hand_names, hand_names_of, resume_inputs}
use Rattle.job_commands.specs.HandWords.{resume_names, resume_names_of}
use Rattle.job_commands.specs.declared.command.Command as command_words
use Rattle.job_commands.specs.declared.command.Command.TheVariants as words

-- the names of a run's files
pub record RunNames : Type 0 where
  pub box_file : List ℕ
  pub capture : List ℕ
  pub script : List ℕ
  pub released : List ℕ
  pub schedule : List ℕ

abbrev pub names_of : RunWords → RunNames
names_of w = record {
  box_file = w.box_file.now;
  capture = w.capture.now;
  script = w.script.now;
  released = w.released.now;
  schedule = w.schedule.now;
}

-- `run` with five names, of which the two outputs differ
abbrev pub run_names : List (List ℕ) → Option RunNames
run_names [] = None
run_names (a ∷ []) = None
run_names (a ∷ b ∷ []) = None
run_names (a ∷ b ∷ c ∷ []) = None
run_names (a ∷ b ∷ c ∷ d ∷ []) = None
run_names (a ∷ b ∷ c ∷ d ∷ e ∷ []) = None
run_names (command ∷ box_file ∷ capture ∷ script ∷ released ∷ schedule ∷ []) =
    if bytes_eq command (codes "run") && not (bytes_eq released schedule)
    then Some
    (record { box_file = box_file; capture = capture; script = script; released = released; schedule = schedule })
    else None
run_names (a ∷ b ∷ c ∷ d ∷ e ∷ f ∷ g ∷ more) = None

-- the names of the files of a live run
pub record LiveNames : Type 0 where
  pub box_file : List ℕ
  pub capture : List ℕ
  pub plan : List ℕ
  pub released : List ℕ
  pub schedule : List ℕ
  pub script : List ℕ

abbrev pub live_names_of : LiveWords → LiveNames
live_names_of w = record {
  box_file = w.box_file.now;
  capture = w.capture.now;
  plan = w.plan.now;
  released = w.released.now;
  schedule = w.schedule.now;
  script = w.script.now;
}

-- no two of the outputs are one
abbrev pub are_apart : LiveNames → Bool
are_apart names =
    not (bytes_eq names.released names.schedule) && not (bytes_eq names.released names.script)
    && not (bytes_eq names.schedule names.script)

-- `live` with six names, of which the three outputs differ
abbrev pub live_with : List ℕ → LiveNames → Option LiveNames
live_with command names = if bytes_eq command (codes "live") && are_apart names then Some names else None

abbrev pub live_names : List (List ℕ) → Option LiveNames
live_names [] = None
live_names (a ∷ []) = None
live_names (a ∷ b ∷ []) = None
live_names (a ∷ b ∷ c ∷ []) = None
live_names (a ∷ b ∷ c ∷ d ∷ []) = None
live_names (a ∷ b ∷ c ∷ d ∷ e ∷ []) = None
live_names (a ∷ b ∷ c ∷ d ∷ e ∷ f ∷ []) = None
live_names (command ∷ box_file ∷ capture ∷ plan ∷ released ∷ schedule ∷ script ∷ []) =
    live_with command (record {
      box_file = box_file;
      capture = capture;
      plan = plan;
      released = released;
      schedule = schedule;
      script = script;
    })
live_names (a ∷ b ∷ c ∷ d ∷ e ∷ f ∷ g ∷ h ∷ more) = None

-- what a made capture is made of, and the name that it gets
pub record MakeNames : Type 0 where
  pub seed : ℕ
  pub count : ℕ
  pub capture : List ℕ

abbrev pub made_of : MakeWords → MakeNames
made_of w = record { seed = w.seed; count = w.count; capture = w.capture.now }

-- two numbers, of which the second is at most what a capture may have
abbrev pub of_numbers : Option ℕ → Option ℕ → List ℕ → Option MakeNames
of_numbers None count capture = None
of_numbers (Some seed) None capture = None
of_numbers (Some seed) (Some count) capture =
    if nat_le count MOST_PACKETS then Some (record { seed = seed; count = count; capture = capture }) else None

-- `make` with two numbers and a name
abbrev pub make_names : List (List ℕ) → Option MakeNames
make_names [] = None
make_names (a ∷ []) = None
make_names (a ∷ b ∷ []) = None
make_names (a ∷ b ∷ c ∷ []) = None
make_names (command ∷ seed ∷ count ∷ capture ∷ []) =
    if bytes_eq command (codes "make") then of_numbers (number_of seed) (number_of count) capture else None
make_names (a ∷ b ∷ c ∷ d ∷ e ∷ more) = None

-- the names of the inputs of a command that plays a schedule
pub record ScheduleNames : Type 0 where
  pub box_file : List ℕ
  pub capture : List ℕ
  pub schedule : List ℕ

abbrev pub files_of : ScheduleFiles → ScheduleNames
files_of f = record { box_file = f.box_file.now; capture = f.capture.now; schedule = f.schedule.now }

-- those, and the name of the capture that is written
pub record PlayNames : Type 0 where
  pub files : ScheduleNames
  pub out : List ℕ

abbrev pub play_names_of : PlayWords → PlayNames
play_names_of w = record { files = files_of w.files; out = w.out.now }

-- those, and the name of the released capture
pub record CheckNames : Type 0 where
  pub files : ScheduleNames
  pub released : List ℕ

abbrev pub check_names_of : CheckWords → CheckNames
check_names_of w = record { files = files_of w.files; released = w.released.now }

-- `play` with four names
abbrev pub play_names : List (List ℕ) → Option PlayNames
play_names [] = None
play_names (a ∷ []) = None
play_names (a ∷ b ∷ []) = None
play_names (a ∷ b ∷ c ∷ []) = None
play_names (a ∷ b ∷ c ∷ d ∷ []) = None
play_names (command ∷ box_file ∷ capture ∷ schedule ∷ out ∷ []) =
    if bytes_eq command (codes "play")
    then Some (record { files = record { box_file = box_file; capture = capture; schedule = schedule }; out = out })
    else None
play_names (a ∷ b ∷ c ∷ d ∷ e ∷ f ∷ more) = None

-- `check` with four names
abbrev pub check_names : List (List ℕ) → Option CheckNames
check_names [] = None
check_names (a ∷ []) = None
check_names (a ∷ b ∷ []) = None
check_names (a ∷ b ∷ c ∷ []) = None
check_names (a ∷ b ∷ c ∷ d ∷ []) = None
check_names (command ∷ box_file ∷ capture ∷ schedule ∷ released ∷ []) =
    if bytes_eq command (codes "check")
    then Some
    (record { files = record { box_file = box_file; capture = capture; schedule = schedule }; released = released })
    else None
check_names (a ∷ b ∷ c ∷ d ∷ e ∷ f ∷ more) = None

-- the names of the files of a drill, and how many packets come in before each crash
pub record DrillNames : Type 0 where
  pub box_file : List ℕ
  pub capture : List ℕ
  pub every : ℕ
  pub released : List ℕ
  pub schedule : List ℕ

abbrev pub drill_names_of : DrillWords → DrillNames
drill_names_of w = record {
  box_file = w.box_file.now;
  capture = w.capture.now;
  every = w.every;
  released = w.released.now;
  schedule = w.schedule.now;
}

-- these names, with a number from 1
abbrev pub of_every : Option ℕ → (ℕ → DrillNames) → Option DrillNames
of_every None names = None
of_every (Some every) names = if nat_le 1 every then Some (names every) else None

-- `drill` with two names, a number from 1, and the names of two outputs, which differ
abbrev pub drill_names : List (List ℕ) → Option DrillNames
drill_names [] = None
drill_names (a ∷ []) = None
drill_names (a ∷ b ∷ []) = None
drill_names (a ∷ b ∷ c ∷ []) = None
drill_names (a ∷ b ∷ c ∷ d ∷ []) = None
drill_names (a ∷ b ∷ c ∷ d ∷ e ∷ []) = None
drill_names (command ∷ box_file ∷ capture ∷ every ∷ released ∷ schedule ∷ []) =
    if bytes_eq command (codes "drill") && not (bytes_eq released schedule)
    then of_every (number_of every) (λ n. record {
      box_file = box_file;
      capture = capture;
      every = n;
      released = released;
      schedule = schedule;
    })
    else None
drill_names (a ∷ b ∷ c ∷ d ∷ e ∷ f ∷ g ∷ more) = None

-- the names of the files of a trace
pub record TraceNames : Type 0 where
  pub box_file : List ℕ
  pub capture : List ℕ
  pub script : List ℕ
  pub table : List ℕ

abbrev pub trace_names_of : TraceWords → TraceNames
trace_names_of w =
    record { box_file = w.box_file.now; capture = w.capture.now; script = w.script.now; table = w.table.now }

-- the names of the run that is traced; it writes no outputs, and the table stands for both
abbrev pub traced_run : TraceNames → RunNames
traced_run names = record {
  box_file = names.box_file;
  capture = names.capture;
  script = names.script;
  released = names.table;
  schedule = names.table;
}

-- `trace` with four names
abbrev pub trace_names : List (List ℕ) → Option TraceNames
trace_names [] = None
trace_names (a ∷ []) = None
trace_names (a ∷ b ∷ []) = None
trace_names (a ∷ b ∷ c ∷ []) = None
trace_names (a ∷ b ∷ c ∷ d ∷ []) = None
trace_names (command ∷ box_file ∷ capture ∷ script ∷ table ∷ []) =
    if bytes_eq command (codes "trace")
    then Some (record { box_file = box_file; capture = capture; script = script; table = table })
    else None
trace_names (a ∷ b ∷ c ∷ d ∷ e ∷ f ∷ more) = None

-- the names of the files of a picture
pub record PictureNames : Type 0 where
  pub box_file : List ℕ
  pub capture : List ℕ
  pub script : List ℕ
  pub picture : List ℕ

abbrev pub picture_names_of : PictureWords → PictureNames
picture_names_of w =
    record { box_file = w.box_file.now; capture = w.capture.now; script = w.script.now; picture = w.picture.now }

-- the names of the run of which the picture is; it writes no outputs, and the picture stands for both
abbrev pub pictured_run : PictureNames → RunNames
pictured_run names = record {
  box_file = names.box_file;
  capture = names.capture;
  script = names.script;
  released = names.picture;
  schedule = names.picture;
}

-- `picture` with four names
abbrev pub picture_names : List (List ℕ) → Option PictureNames
picture_names [] = None
picture_names (a ∷ []) = None
picture_names (a ∷ b ∷ []) = None
picture_names (a ∷ b ∷ c ∷ []) = None
picture_names (a ∷ b ∷ c ∷ d ∷ []) = None
picture_names (command ∷ box_file ∷ capture ∷ script ∷ picture ∷ []) =
    if bytes_eq command (codes "picture")
    then Some (record { box_file = box_file; capture = capture; script = script; picture = picture })
    else None
picture_names (a ∷ b ∷ c ∷ d ∷ e ∷ f ∷ more) = None

-- the names of a run that hands its system over, as those of a run: the handover stands where that has its schedule
abbrev pub run_of_hand : HandNames → RunNames
run_of_hand names = record {
  box_file = names.box_file;
  capture = names.capture;
  script = names.script;
  released = names.released;
  schedule = names.handover;
}

-- a command, with what its words name
pub data Asked : Type 0 where
  Runs : RunNames → Asked
  Lives : LiveNames → Asked
  Makes : MakeNames → Asked
  Plays : PlayNames → Asked
  Checks : CheckNames → Asked
  Drills : DrillNames → Asked
  Traces : TraceNames → Asked
  Draws : PictureNames → Asked
  Chains : ChainNames → Asked
  Hands : HandNames → Asked
  Resumes : ResumeNames → Asked

-- the one command whose names are there; no words are those of two
abbrev pub one_of : Option RunNames → Option LiveNames → Option MakeNames → Option PlayNames → Option CheckNames
    → Option DrillNames → Option TraceNames → Option PictureNames → Option ChainNames → Option HandNames
    → Option ResumeNames → Option Asked
one_of (Some names) live make play check drill trace picture chain hand resume = Some (Runs names)
one_of None (Some names) make play check drill trace picture chain hand resume = Some (Lives names)
one_of None None (Some names) play check drill trace picture chain hand resume = Some (Makes names)
one_of None None None (Some names) check drill trace picture chain hand resume = Some (Plays names)
one_of None None None None (Some names) drill trace picture chain hand resume = Some (Checks names)
one_of None None None None None (Some names) trace picture chain hand resume = Some (Drills names)
one_of None None None None None None (Some names) picture chain hand resume = Some (Traces names)
one_of None None None None None None None (Some names) chain hand resume = Some (Draws names)
one_of None None None None None None None None (Some names) hand resume = Some (Chains names)
one_of None None None None None None None None None (Some names) resume = Some (Hands names)
one_of None None None None None None None None None None (Some names) = Some (Resumes names)
one_of None None None None None None None None None None None = None

-- the command that words ask for: `run`, `live`, `make`, `play`, `check`, `drill`, `trace`, `picture`, `chain`, `hand`
-- or `resume`
abbrev pub asked : List (List ℕ) → Option Asked
asked words =
    one_of (run_names words) (live_names words) (make_names words) (play_names words) (check_names words)
    (drill_names words) (trace_names words) (picture_names words) (chain_names words) (hand_names words)
    (resume_names words)

-- where the words ask for a command, this is so of it
abbrev pub IfAsks : List (List ℕ) → (Asked → Type 0) → Type 0
IfAsks words Holds = IfSome (asked words) Holds

abbrev pub asked_of : command_words.Command → Asked
asked_of (words.Run w) = Runs (names_of w)
asked_of (words.Live w) = Lives (live_names_of w)
asked_of (words.Make w) = Makes (made_of w)
asked_of (words.Play w) = Plays (play_names_of w)
asked_of (words.Check w) = Checks (check_names_of w)
asked_of (words.Drill w) = Drills (drill_names_of w)
asked_of (words.Trace w) = Traces (trace_names_of w)
asked_of (words.Picture w) = Draws (picture_names_of w)
asked_of (words.Chain w) = Chains (chain_names_of w)
asked_of (words.Hand w) = Hands (hand_names_of w)
asked_of (words.Resume w) = Resumes (resume_names_of w)

-- The names of the input files of a command, in the order of its words, which is the order in which they are read

abbrev pub run_inputs : RunNames → List (List ℕ)
run_inputs names = names.box_file ∷ names.capture ∷ names.script ∷ []

abbrev pub live_inputs : LiveNames → List (List ℕ)
live_inputs names = names.box_file ∷ names.capture ∷ names.plan ∷ []

abbrev pub schedule_inputs : ScheduleNames → List (List ℕ)
schedule_inputs names = names.box_file ∷ names.capture ∷ names.schedule ∷ []

abbrev pub check_inputs : CheckNames → List (List ℕ)
check_inputs names = schedule_inputs names.files ++ names.released ∷ []

abbrev pub drill_inputs : DrillNames → List (List ℕ)
drill_inputs names = names.box_file ∷ names.capture ∷ []

abbrev pub hand_inputs : HandNames → List (List ℕ)
hand_inputs names = run_inputs (run_of_hand names)

-- `make` has none
abbrev pub inputs_of : Asked → List (List ℕ)
inputs_of (Runs names) = run_inputs names
inputs_of (Lives names) = live_inputs names
inputs_of (Makes names) = []
inputs_of (Plays names) = schedule_inputs names.files
inputs_of (Checks names) = check_inputs names
inputs_of (Drills names) = drill_inputs names
inputs_of (Traces names) = run_inputs (traced_run names)
inputs_of (Draws names) = run_inputs (pictured_run names)
inputs_of (Chains names) = chain_inputs names
inputs_of (Hands names) = hand_inputs names
inputs_of (Resumes names) = resume_inputs names
