-- `entries::read_u256` meets its contract. Assumes nothing.
use Rattle.entries.proofs.read_u256.Goals as goal

pub returns : goal.returns
returns c = λ i. record { w0 = c.read_u64.ensures i; w1 = c.read_u64-2.ensures i; w2 = c.read_u64-3.ensures i; w3 = c.read_u64-4.ensures i }
