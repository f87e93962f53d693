-- The words of the commands `hand` and `resume`: the first names the files of a run that hands its system over, the
-- second those of a run that goes on from there.
use Rattle.std.specs.Prelude.{ℕ, ◌&&◌, not, List, [], ◌∷◌, codes, if◌then◌else◌, Option, Some, None}
use Rattle.std.specs.Str.{bytes_eq}
use Rattle.job_commands.specs.declared.hand_words.HandWords.{HandWords}
use Rattle.job_commands.specs.declared.resume_words.ResumeWords.{ResumeWords}

-- the names of the files of a run that hands its system over
pub record HandNames : Type 0 where
  pub box_file : List ℕ
  pub capture : List ℕ
  pub script : List ℕ
  pub released : List ℕ
  pub handover : List ℕ

abbrev pub hand_names_of : HandWords → HandNames
hand_names_of w = record {
  box_file = w.box_file.now;
  capture = w.capture.now;
  script = w.script.now;
  released = w.released.now;
  handover = w.handover.now;
}

-- `hand` with five names, of which the two outputs differ
abbrev pub hand_names : List (List ℕ) → Option HandNames
hand_names [] = None
hand_names (a ∷ []) = None
hand_names (a ∷ b ∷ []) = None
hand_names (a ∷ b ∷ c ∷ []) = None
hand_names (a ∷ b ∷ c ∷ d ∷ []) = None
hand_names (a ∷ b ∷ c ∷ d ∷ e ∷ []) = None
hand_names (command ∷ box_file ∷ capture ∷ script ∷ released ∷ handover ∷ []) =
    if bytes_eq command (codes "hand") && not (bytes_eq released handover)
    then Some
    (record { box_file = box_file; capture = capture; script = script; released = released; handover = handover })
    else None
hand_names (a ∷ b ∷ c ∷ d ∷ e ∷ f ∷ g ∷ more) = None

-- the names of the files of a run that goes on from a handover
pub record ResumeNames : Type 0 where
  pub box_file : List ℕ
  pub capture : List ℕ
  pub handover : List ℕ
  pub script : List ℕ
  pub released : List ℕ
  pub schedule : List ℕ

abbrev pub resume_names_of : ResumeWords → ResumeNames
resume_names_of w = record {
  box_file = w.box_file.now;
  capture = w.capture.now;
  handover = w.handover.now;
  script = w.script.now;
  released = w.released.now;
  schedule = w.schedule.now;
}

-- `resume` with six names, of which the two outputs differ
abbrev pub resume_with : List ℕ → ResumeNames → Option ResumeNames
resume_with command names =
    if bytes_eq command (codes "resume") && not (bytes_eq names.released names.schedule) then Some names else None

abbrev pub resume_names : List (List ℕ) → Option ResumeNames
resume_names [] = None
resume_names (a ∷ []) = None
resume_names (a ∷ b ∷ []) = None
resume_names (a ∷ b ∷ c ∷ []) = None
resume_names (a ∷ b ∷ c ∷ d ∷ []) = None
resume_names (a ∷ b ∷ c ∷ d ∷ e ∷ []) = None
resume_names (a ∷ b ∷ c ∷ d ∷ e ∷ f ∷ []) = None
resume_names (command ∷ box_file ∷ capture ∷ handover ∷ script ∷ released ∷ schedule ∷ []) =
    resume_with command (record {
      box_file = box_file;
      capture = capture;
      handover = handover;
      script = script;
      released = released;
      schedule = schedule;
    })
resume_names (a ∷ b ∷ c ∷ d ∷ e ∷ f ∷ g ∷ h ∷ more) = None

-- the names of its inputs that are read before the image is judged, in the order of its words
abbrev pub resume_source : ResumeNames → List (List ℕ)
resume_source names = names.box_file ∷ names.capture ∷ names.handover ∷ []

-- the names of its inputs, in the order of its words
abbrev pub resume_inputs : ResumeNames → List (List ℕ)
resume_inputs names = names.box_file ∷ names.capture ∷ names.handover ∷ names.script ∷ []
