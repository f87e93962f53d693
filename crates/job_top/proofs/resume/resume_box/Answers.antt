use Rattle.std.proofs.Common.{◌∷◌, [], ap, refl, sym}
use Rattle.input_files.proofs.OnlyReading.{OpensFirst-none}
use Rattle.hand_command.proofs.FromRunCommand.{at_same, somewhere_same}
use Rattle.hand_command.specs.Hand.{IsHandedOver}
use Rattle.hand_command.proofs.Resuming.{resumed_at}
use Rattle.job_commands.specs.HandWords.{resume_names_of}
use Rattle.job_commands.proofs.Stages.{quiet_done, quiet_words, quiet_writing}
use Rattle.job_top.specs.Resume.{GoesOn, setting_from}
use Rattle.job_top.proofs.Resumed.{refused_quiet, refused_reads, refused_so}
use Rattle.job_top.proofs.resume.resume_box.Goals as goal

-- a system goes on

pub resume_script-requires-clause-somewhere : goal.resume_script-requires-clause-somewhere
resume_script-requires-clause-somewhere g c κs within =
    let is = c.in-Ok.ensures in
    let s = setting_from (g.P.Program.meaning c.args.program) c.args.from in
    let some = c.images_stand_for_worlds.ensures.world s c.args.from.image.image is.no_fault in
    let handed : IsHandedOver s some.0 c.args.from.image.image =
    record { sound = some.1; rest = some.2; image_is = some.3 } in
    somewhere_same _ _ c.in-Ok.system (ap g.P.Program.meaning (sym is.program)) (
      s,
      some.0,
      resumed_at _ s some.0 c.in-Ok.system c.args.from.image.image handed (is.stands some.0 some.1 some.2 some.3)
          is.fresh is.handed,
      c.requires.inputs.short,
    )

pub returns-in-Ok-clause-shows : goal.returns-in-Ok-clause-shows
returns-in-Ok-clause-shows g c p q =
    let is = c.in-Ok.ensures in
    let s = setting_from (g.P.Program.meaning c.args.program) c.args.from in
    let some = c.images_stand_for_worlds.ensures.world s c.args.from.image.image is.no_fault in
    let handed : IsHandedOver s some.0 c.args.from.image.image =
    record { sound = some.1; rest = some.2; image_is = some.3 } in
    GoesOn is.no_fault some.0 handed
    (c.resume_script.ensures.shows p q s c.args.from.image.image refl
    (λ w h. at_same _ _ s w c.in-Ok.system (ap g.P.Program.meaning (sym is.program))
    (resumed_at _ s w c.in-Ok.system c.args.from.image.image h (is.stands w h.sound h.rest h.image_is) is.fresh
    is.handed)))

-- the image is refused

pub refuse_image-requires-clause-fault : goal.refuse_image-requires-clause-fault
refuse_image-requires-clause-fault g c =
    (setting_from (g.P.Program.meaning c.args.program) c.args.from, c.in-Err.ensures.faults c.in-Err.error refl)

pub returns-clause-shows : goal.returns-clause-shows
returns-clause-shows g c p q =
    refused_so (g.W.World.healthy c.args.world.now) (setting_from (g.P.Program.meaning c.args.program) c.args.from)
    c.args.from.image c.in-Err.error (resume_names_of c.args.names) c.refuse_image.result
    (g.W.World.shows p c.args.world.now) (c.in-Err.ensures.faults c.in-Err.error refl) c.refuse_image.ensures

pub returns-clause-words : goal.returns-clause-words
returns-clause-words g c e =
    quiet_words c.refuse_image.result e
    (refused_quiet c.args.from.image c.in-Err.error c.refuse_image.result c.refuse_image.ensures)

pub returns-clause-write_fault : goal.returns-clause-write_fault
returns-clause-write_fault g c e =
    absurd (quiet_writing c.refuse_image.result e
    (refused_quiet c.args.from.image c.in-Err.error c.refuse_image.result c.refuse_image.ensures))

pub returns-clause-read_fault : goal.returns-clause-read_fault
returns-clause-read_fault g c e =
    absurd (refused_reads c.args.from.image c.in-Err.error c.refuse_image.result c.refuse_image.ensures e)

pub returns-clause-opens_in_order : goal.returns-clause-opens_in_order
returns-clause-opens_in_order g c = OpensFirst-none (c.args.names.script.now ∷ []) _ _ refl

pub returns-clause-opens_all : goal.returns-clause-opens_all
returns-clause-opens_all g c e =
    absurd (quiet_done c.refuse_image.result e
    (refused_quiet c.args.from.image c.in-Err.error c.refuse_image.result c.refuse_image.ensures))
