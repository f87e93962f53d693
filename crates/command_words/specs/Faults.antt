-- In which file a fault stands.
use Rattle.std.specs.Prelude.{ℕ, List, Option, Some, None}
use Rattle.job_commands.specs.Words.{Asked, Runs, Lives, Makes, Plays, Checks, Drills, Traces, Draws, Chains, Hands}
use Rattle.job_commands.specs.Words.{Resumes}
use Rattle.job_commands.specs.declared.status.InputFault.{InputFault}
use Rattle.job_commands.specs.declared.status.InputFault.TheVariants as of_fault
use Rattle.packet_taps.specs.Words.{WatchNames}

-- The name of the file of each kind that a command reads, if it reads one

-- the box file, of a chain that of the first box
abbrev pub box_file_of : Asked → Option (List ℕ)
box_file_of (Runs names) = Some names.box_file
box_file_of (Lives names) = Some names.box_file
box_file_of (Makes names) = None
box_file_of (Plays names) = Some names.files.box_file
box_file_of (Checks names) = Some names.files.box_file
box_file_of (Drills names) = Some names.box_file
box_file_of (Traces names) = Some names.box_file
box_file_of (Draws names) = Some names.box_file
box_file_of (Chains names) = Some names.first_box
box_file_of (Hands names) = Some names.box_file
box_file_of (Resumes names) = Some names.box_file

abbrev pub second_box_of : Asked → Option (List ℕ)
second_box_of (Chains names) = Some names.second_box
second_box_of command = None

abbrev pub capture_of : Asked → Option (List ℕ)
capture_of (Runs names) = Some names.capture
capture_of (Lives names) = Some names.capture
capture_of (Makes names) = None
capture_of (Plays names) = Some names.files.capture
capture_of (Checks names) = Some names.files.capture
capture_of (Drills names) = Some names.capture
capture_of (Traces names) = Some names.capture
capture_of (Draws names) = Some names.capture
capture_of (Chains names) = Some names.capture
capture_of (Hands names) = Some names.capture
capture_of (Resumes names) = Some names.capture

abbrev pub script_of : Asked → Option (List ℕ)
script_of (Runs names) = Some names.script
script_of (Traces names) = Some names.script
script_of (Draws names) = Some names.script
script_of (Chains names) = Some names.script
script_of (Hands names) = Some names.script
script_of (Resumes names) = Some names.script
script_of command = None

abbrev pub plan_of : Asked → Option (List ℕ)
plan_of (Lives names) = Some names.plan
plan_of command = None

-- the schedule that is read
abbrev pub schedule_of : Asked → Option (List ℕ)
schedule_of (Plays names) = Some names.files.schedule
schedule_of (Checks names) = Some names.files.schedule
schedule_of command = None

-- the released capture that is read
abbrev pub released_of : Asked → Option (List ℕ)
released_of (Checks names) = Some names.released
released_of command = None

-- the handover that is read
abbrev pub handover_of : Asked → Option (List ℕ)
handover_of (Resumes names) = Some names.handover
handover_of command = None

-- the name of the file in which a fault stands
abbrev pub faulty_file : Asked → InputFault → Option (List ℕ)
faulty_file command (of_fault.BoxFile why) = box_file_of command
faulty_file command (of_fault.SecondBox why) = second_box_of command
faulty_file command (of_fault.Capture why) = capture_of command
faulty_file command (of_fault.NgCapture why) = capture_of command
faulty_file command (of_fault.Script why) = script_of command
faulty_file command (of_fault.Plan why) = plan_of command
faulty_file command (of_fault.Schedule why) = schedule_of command
faulty_file command (of_fault.Moves why) = schedule_of command
faulty_file command (of_fault.Released why) = released_of command
faulty_file command (of_fault.NgReleased why) = released_of command
faulty_file command (of_fault.Handover why) = handover_of command

-- the same of words: they ask for a command, or for a capture to be watched, which is then the one file that is read
abbrev pub name_of_faulty : Option Asked → Option WatchNames → InputFault → Option (List ℕ)
name_of_faulty (Some command) watched fault = faulty_file command fault
name_of_faulty None (Some names) fault = Some names.capture
name_of_faulty None None fault = None
