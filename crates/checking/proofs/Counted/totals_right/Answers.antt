-- `checking::Counted::totals_right` meets its contract.
use lib.Seq.{get_or-drop}
use Rattle.totals.specs.Totals.{totals_of}
use Rattle.checking.specs.Checks.{totals_right}
use Rattle.checking.proofs.Counted.totals_right.Goals as goal

pub returns : goal.returns
unfolding totals_of totals_right
returns c = rw (c.totals_add_up.ensures, c.read_totals.ensures) (simp get_or-drop)
