-- `poxilme::known_totals` meets its contract.
use mathlib.Core.Path.{sym}
use Rattle.poxilme.proofs.Totals.{totals_long, one_installed}
use Rattle.poxilme.proofs.known_totals.Goals as goal

pub read_totals-requires : goal.read_totals-requires
read_totals-requires c = totals_long _ c.args.store.is_store

pub returns : goal.returns
returns c = sym (one_installed _ c.args.store.is_store c.is_installed.ensures c.if-not-is_installed.false c.read_totals.ensures)
