-- The unchecked advance meets its contract. Assumes nothing.
use Rattle.image.proofs.Lent.{decoded_some}
use Rattle.poxilme.proofs.store_calls.UncheckedStoreCalls.advance.Goals as goal

pub advance-requires : goal.advance-requires
advance-requires c = decoded_some _ c.requires
