-- `nelqubat::saved_number` meets its contract.
use native.Mathlib.Omega.{arith}
use Rattle.nelqubat.proofs.Ways.{saved-fits, saved-whole, saved-not}
use Rattle.nelqubat.proofs.saved_number.Goals as goal

pub overflow_cast-result : goal.overflow_cast-result
overflow_cast-result c =
    omega (arith, saved-fits c.in-Ok.is c.requires)

pub overflow_mul-result : goal.overflow_mul-result
overflow_mul-result c =
    omega (arith, saved-fits c.in-Ok.is c.requires)

pub returns-in-Ok : goal.returns-in-Ok
returns-in-Ok c = search saved-whole

pub returns-in-Err : goal.returns-in-Err
returns-in-Err c = search saved-not
