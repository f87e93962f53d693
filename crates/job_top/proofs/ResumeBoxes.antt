-- What going on from an image comes to, told of the kind of the box.
use Rattle.std.proofs.Common.{◌≡◌, subst, sym}
use Rattle.box_conf.specs.declared.kind.BoxKind.{BoxKind}
use Rattle.box_conf.specs.Kinds.{meaning_of}
use Rattle.world_io.specs.World.{Shown}
use Rattle.job_commands.specs.declared.status.Status.{Status}
use Rattle.job_commands.specs.HandWords.{ResumeNames}
use Rattle.job_top.specs.declared.resume.Resumption.{Resumption}
use Rattle.job_top.specs.Resume.{GoesOnFrom, setting_from}

pub resumed_as : (k kind : BoxKind) (healthy : Type 0) (from : Resumption) (names : ResumeNames) (status : Status)
    (old new : Shown) → kind ≡ k
    → GoesOnFrom healthy (setting_from (meaning_of k).meaning from) from.image names status old new
    → GoesOnFrom healthy (setting_from (meaning_of kind).meaning from) from.image names status old new
resumed_as k kind healthy from names status old new is h =
    subst
    (λ (x : BoxKind). GoesOnFrom healthy (setting_from (meaning_of x).meaning from) from.image names status old new)
    (sym is) h
