use Rattle.box_conf.proofs.OneFile.{one_box, one_fault, box_or_fault, box_is_read, read_is_box, fault_is_read}
use Rattle.box_conf.proofs.OneFile.{read_is_fault}
use Rattle.box_conf.proofs.laws.a_text_is_one_box_file_or_has_a_fault.Goals as goal

pub returns-clause-one_box : goal.returns-clause-one_box
returns-clause-one_box c = one_box

pub returns-clause-one_fault : goal.returns-clause-one_fault
returns-clause-one_fault c = one_fault

pub returns-clause-not_both : goal.returns-clause-not_both
returns-clause-not_both c = box_or_fault

pub returns-clause-read : goal.returns-clause-read
returns-clause-read c = λ text conf. (box_is_read text conf, read_is_box text conf)

pub returns-clause-faulty : goal.returns-clause-faulty
returns-clause-faulty c = λ text fault. (fault_is_read text fault, read_is_fault text fault)
