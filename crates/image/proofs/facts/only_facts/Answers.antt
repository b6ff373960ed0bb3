-- `image::facts::only_facts` meets its contract.
use Rattle.image.proofs.Beside.{facts-keep}
use Rattle.image.proofs.facts.only_facts.Goals as goal

pub returns : goal.returns
returns c = facts-keep c.args.image.now c.read.ensures c.only.ensures
