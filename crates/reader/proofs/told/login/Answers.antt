-- `reader::told::login` meets its contract.
use Rattle.reader.proofs.Answers.{login-heard}
use Rattle.reader.proofs.told.login.Goals as goal

pub returns : goal.returns
returns c = search login-heard
