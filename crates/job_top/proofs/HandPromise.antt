-- A hand-over that is done keeps the promise of the top call.
use Rattle.std.proofs.Common.{◌<◌, ◌^◌, ℕ, List, ◌∷◌, ◌++◌, refl, sym, ap, ◌∙◌, subst, Option, Some}
use Rattle.std.proofs.lemmas.List.Elements.{All-head, All-tail}
use Rattle.plain_text.specs.declared.packet.Packet.{Packet}
use Rattle.pcap_io.specs.Capture.{written}
use Rattle.world_io.specs.World.{Shown}
use Rattle.recovery_world.specs.declared.event.Event.{Event}
use Rattle.recovery_world.specs.World.{Setting, opening}
use Rattle.recovery_world.specs.Files.{Performs}
use Rattle.recovery_laws.proofs.KeptWorlds.{opening_sound, performs_sound}
use Rattle.handover.specs.declared.line.ImageLine.TheVariants.{Heading}
use Rattle.handover.specs.Images.{FitsLine, counts_of, lists_of}
use Rattle.handover_world.specs.Faults.{HasNoFault}
use Rattle.handover_world.proofs.Counting.{performed_counted}
use Rattle.handover_world.proofs.HandedImages.{handed_fine}
use Rattle.handover_world.proofs.Resting.{rest_of_script}
use Rattle.run_writes.specs.Replies.{Answers, lines_in}
use Rattle.run_writes.specs.Run.{OutputNames}
use Rattle.run_writes.proofs.ScriptAnswers.{answers_perform, answers_release, answers_then}
use Rattle.hand_command.specs.Hand.{HandsOver, HasHanded, handed_text, resting}
use Rattle.input_files.proofs.ImageVerdicts.{image_accepted}
use Rattle.job_commands.specs.HandWords.{HandNames}
use Rattle.job_commands.specs.Run.{setting_for}
use Rattle.job_top.specs.Hand.{HandsWhole, hand_outputs}
use Rattle.job_top.specs.Hand.{KeepsHandPromise}
use Rattle.job_top.specs.Headline.{KeepsHanded}
use Rattle.job_top.proofs.SealedImages.{is_of_seal, is_read}

module _ {V : Type 0} (s : Setting V) (events : List Event) (h : HandsOver s events) where
  first : Performs s (opening V) events (lines_in h.replies) h.ready
  first = answers_perform s events h.replies h.ready h.answers

  last : Performs s h.ready resting (lines_in h.last) h.world
  last = answers_perform s resting h.last h.world h.rests

  all : Answers s (events ++ resting) (h.replies ++ h.last) h.world
  all = answers_then s (opening V) h.ready events resting h.replies h.last h.world h.answers h.rests

  counts : FitsLine (counts_of h.image)
  counts =
      All-head FitsLine (counts_of h.image) (lists_of h.image.ended h.image.released h.image.past)
      (All-tail FitsLine Heading (counts_of h.image ∷ lists_of h.image.ended h.image.released h.image.past)
      h.fits_image)

  -- the image has no fault
  fine : HasNoFault s h.image
  fine =
      handed_fine s h.ready h.world h.image
      (performs_sound s (opening V) h.ready events (lines_in h.replies) (opening_sound s) first)
      (performed_counted s h.ready events (lines_in h.replies) first) h.readiness
      (rest_of_script s h.ready h.world (lines_in h.last) last) h.handed.image_is
      (subst (λ (n : ℕ). n < 2 ^ 32) h.handed.image_is.epoch counts.3)

pub hand_keeps : {V : Type 0} (seal : Option (List ℕ)) (s : Setting V) (names : OutputNames) (events : List Event)
    (old new : Shown) → HasHanded seal s names events old new → KeepsHanded seal s names events new
hand_keeps seal s names events old new r =
    let h = r.hand in
    let text = handed_text seal s h.image in
    record {
      world = h.world;
      lines = lines_in (h.replies ++ h.last);
      performs = answers_perform s (events ++ resting) (h.replies ++ h.last) h.world (all s events h);
      image = h.image;
      handed = h.handed;
      is_accepted =
          image_accepted text text h.image (is_read s h.image seal h.fits_image) r.fits_file.lines
          (refl, r.fits_file.bytes);
      is_sealed = is_of_seal s h.image seal;
      no_fault = fine s events h;
      handover_written = r.files.schedule_is;
      released_written =
          r.files.released_is
          ∙ ap (λ (l : List Packet). Some (written s.fractions l))
          (sym (answers_release s (events ++ resting) (h.replies ++ h.last) h.world (all s events h)));
    }

pub hand_promise : (names : HandNames) (a c : Shown) → HandsWhole names a c → KeepsHandPromise names a c
hand_promise names a c (inputs, accepted, r) = record {
  inputs = inputs;
  accepted = accepted;
  keeps = hand_keeps inputs.conf.seal (setting_for inputs) (hand_outputs names) inputs.events a c r;
}
