-- What the program prints without running a command.
use Rattle.std.specs.Prelude.{◌≡◌, ℕ, List, [], ◌∷◌, ◌++◌, Option, Some, None, codes}
use Rattle.std.specs.List.{join_by}
use Rattle.world_io.specs.World.{Shown}
use Rattle.job_commands.specs.declared.status.Status.{Status}
use Rattle.job_commands.specs.declared.status.Status.TheVariants.{Done}
use Rattle.command_words.specs.Request.{request_of}
use Rattle.command_words.specs.declared.topic.Topic.{Topic}
use Rattle.command_words.specs.declared.topic.Topic.TheVariants as topic
use Rattle.command_words.specs.declared.request.Request.{Request}
use Rattle.command_words.specs.declared.request.Request.TheVariants.{Help, HelpOf, Version, Command}
use Rattle.command_words.specs.declared.usage.TheConstants.{VERSION, RUN, LIVE, DRILL, TRACE, PICTURE, CHAIN, HAND}
use Rattle.command_words.specs.declared.usage.TheConstants.{RESUME, TAP, PLAY, CHECK, MAKE, WATCH, GENERAL}

-- the part of the help that is about a command
abbrev pub part_of : Topic → List ℕ
part_of topic.Run = RUN.now
part_of topic.Live = LIVE.now
part_of topic.Drill = DRILL.now
part_of topic.Trace = TRACE.now
part_of topic.Picture = PICTURE.now
part_of topic.Chain = CHAIN.now
part_of topic.Hand = HAND.now
part_of topic.Resume = RESUME.now
part_of topic.Tap = TAP.now
part_of topic.Play = PLAY.now
part_of topic.Check = CHECK.now
part_of topic.Make = MAKE.now
part_of topic.Watch = WATCH.now

-- all parts of the help, the last of which is about all commands
abbrev pub help_parts : List (List ℕ)
help_parts =
    RUN.now ∷ LIVE.now ∷ DRILL.now ∷ TRACE.now ∷ PICTURE.now ∷ CHAIN.now ∷ HAND.now ∷ RESUME.now ∷ TAP.now ∷ PLAY.now
    ∷ CHECK.now ∷ MAKE.now ∷ WATCH.now ∷ GENERAL.now ∷ []

-- the whole help: all parts, with an empty line between two
abbrev pub whole_help : List ℕ
whole_help = join_by (λ (part : List ℕ). part) (codes "\n") help_parts

abbrev pub text_for : Request → Option (List ℕ)
text_for Help = Some whole_help
text_for (HelpOf about) = Some (part_of about)
text_for Version = Some VERSION.now
text_for Command = None

-- the text that the words ask for: the help, a part of it, or the version
abbrev pub asked_text : List (List ℕ) → Option (List ℕ)
asked_text words = text_for (request_of words)

-- a prefix of the text was printed on standard output, all of it where the status is Done; no file was touched
pub record Prints (text : List ℕ) (status : Status) (old new : Shown) : Type 0 where
  pub part : List ℕ
  pub more : List ℕ
  pub prefix : text ≡ part ++ more
  pub whole : status ≡ Done → part ≡ text
  pub printed : new.sent 0 ≡ old.sent 0 ++ part
  pub names : (name : List ℕ) → new.names name ≡ old.names name
