use Rattle.box_conf.proofs.OneFile.{says_box, says_fault, says_seal}
use Rattle.box_conf.proofs.conf.read_box.Goals as goal

pub returns-clause-value : goal.returns-clause-value
returns-clause-value c = says_box c.args.text.now c.read_both.result c.read_both.ensures.value

pub returns-clause-fault : goal.returns-clause-fault
returns-clause-fault c = says_fault c.args.text.now c.read_both.result c.read_both.ensures.value

pub returns-clause-seal : goal.returns-clause-seal
returns-clause-seal c = says_seal c.args.text.now c.read_both.result c.read_both.ensures.value
