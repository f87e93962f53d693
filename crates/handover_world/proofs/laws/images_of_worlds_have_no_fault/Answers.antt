use Rattle.recovery_laws.proofs.KeptWorlds.{opening_sound, performs_sound, reached_sound}
use Rattle.handover_world.proofs.Counting.{performed_counted, reached_counted}
use Rattle.handover_world.proofs.GoingOn.{performed_within}
use Rattle.handover_world.proofs.HandedImages.{handed_fine}
use Rattle.handover_world.proofs.WorldImages.{no_fault, past_plays, image_plays, counted_again, within_again}
use Rattle.handover_world.proofs.laws.images_of_worlds_have_no_fault.Goals as goal

pub returns-clause-counted : goal.returns-clause-counted
returns-clause-counted g c = λ s w image h counted low rest. no_fault s w h counted low rest image

pub returns-clause-reached : goal.returns-clause-reached
returns-clause-reached g c = λ s w image r low rest.
    no_fault s w (reached_sound s w r) (reached_counted s w r) low rest image

pub returns-clause-performed : goal.returns-clause-performed
returns-clause-performed g c = λ s events lines w image p rest.
    no_fault s w (performs_sound s _ w events lines (opening_sound s) p) (performed_counted s w events lines p)
    (performed_within s w events lines p) rest image

pub returns-clause-handed : goal.returns-clause-handed
returns-clause-handed g c = handed_fine

pub returns-clause-past : goal.returns-clause-past
returns-clause-past g c = past_plays

pub returns-clause-moves : goal.returns-clause-moves
returns-clause-moves g c = λ s w image h. image_plays s w h image

pub returns-clause-counted_again : goal.returns-clause-counted_again
returns-clause-counted_again g c = λ s w image h. counted_again s w h image

pub returns-clause-within_again : goal.returns-clause-within_again
returns-clause-within_again g c = within_again
