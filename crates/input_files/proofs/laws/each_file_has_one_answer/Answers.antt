use Rattle.std.specs.Prelude.{IsTrue}
use Rattle.input_files.specs.Answers.{SaysBox, SaysCapture, SaysChain, SaysImage, SaysPlan, SaysSchedule, SaysScript}
use Rattle.input_files.proofs.OneAnswer.{one_answer, one_box, one_capture, one_chain, one_plan, one_schedule}
use Rattle.input_files.proofs.OneAnswer.{one_script}
use Rattle.input_files.proofs.ImageVerdicts.{one_image}
use Rattle.input_files.proofs.laws.each_file_has_one_answer.Goals as goal

pub returns-clause-box_file : goal.returns-clause-box_file
returns-clause-box_file c = λ healthy name shown a b. one_answer SaysBox one_box (IsTrue healthy) name shown a b

pub returns-clause-capture : goal.returns-clause-capture
returns-clause-capture c = λ healthy name shown a b. one_answer SaysCapture one_capture (IsTrue healthy) name shown a b

pub returns-clause-script : goal.returns-clause-script
returns-clause-script c = λ healthy name shown a b. one_answer SaysScript one_script (IsTrue healthy) name shown a b

pub returns-clause-chain : goal.returns-clause-chain
returns-clause-chain c = λ healthy name shown a b. one_answer SaysChain one_chain (IsTrue healthy) name shown a b

pub returns-clause-schedule : goal.returns-clause-schedule
returns-clause-schedule c =
    λ healthy name shown a b. one_answer SaysSchedule one_schedule (IsTrue healthy) name shown a b

pub returns-clause-plan : goal.returns-clause-plan
returns-clause-plan c = λ healthy name shown a b. one_answer SaysPlan one_plan (IsTrue healthy) name shown a b

pub returns-clause-image : goal.returns-clause-image
returns-clause-image c = λ healthy name shown a b. one_answer SaysImage one_image (IsTrue healthy) name shown a b
