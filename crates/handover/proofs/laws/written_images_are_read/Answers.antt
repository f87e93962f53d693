use Rattle.handover.specs.Images.{image_text}
use Rattle.handover.proofs.ReadBack.{read_back}
use Rattle.handover.proofs.WholeImages.{one_image}
use Rattle.handover.proofs.laws.written_images_are_read.Goals as goal

pub returns-clause-read : goal.returns-clause-read
returns-clause-read c = read_back

pub returns-clause-alone : goal.returns-clause-alone
returns-clause-alone c = λ image other fit is. one_image (image_text image) other image is (read_back image fit)
