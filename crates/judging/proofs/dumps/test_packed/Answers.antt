-- `test_packed` leaves packed bytes to the test that their description names.
use Rattle.patch.specs.Patch.{half_from}
use Rattle.judging.proofs.dumps.test_packed.Goals as goal

pub returns-in-Patch : goal.returns-in-Patch
unfolding half_from
returns-in-Patch c = rw c.in-Patch.is c.test.ensures

pub returns-in-Split : goal.returns-in-Split
unfolding half_from
returns-in-Split c = rw c.in-Split.is c.test-in-Split.ensures

pub returns-in-AnyBytes : goal.returns-in-AnyBytes
unfolding half_from
returns-in-AnyBytes c = rw c.in-AnyBytes.is c.test-in-AnyBytes.ensures
