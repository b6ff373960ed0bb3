-- `nelqubat::found_number` meets its contract.
use native.Mathlib.Omega.{arith}
use Rattle.nelqubat.proofs.Ways.{found_here, place-fits}
use Rattle.nelqubat.proofs.found_number.Goals as goal

pub overflow_cast-result : goal.overflow_cast-result
overflow_cast-result c =
    omega (arith, place-fits c.in-Here.is c.requires)

pub overflow_add-result : goal.overflow_add-result
overflow_add-result c =
    omega (arith, place-fits c.in-Here.is c.requires)

pub overflow_mul-result : goal.overflow_mul-result
overflow_mul-result c =
    omega (arith, place-fits c.in-Here.is c.requires)

pub returns-in-Here : goal.returns-in-Here
returns-in-Here c = search found_here
