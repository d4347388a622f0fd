-- `unchecked_reads::has_space` meets its contract.
use Rattle.unchecked_reads.proofs.Counts.{space_is, space_fits}
use Rattle.unchecked_reads.proofs.has_space.Goals as goal

pub overflow_sub-free : goal.overflow_sub-free
overflow_sub-free c = space_fits _ c.args.generation.installed c.args.list.now _ _ c.read_u64-2.ensures c.read_u64.ensures

pub returns : goal.returns
returns c = space_is _ c.args.generation.installed c.args.list.now _ _ _ c.requires c.added.ensures c.read_u64-2.ensures c.read_u64.ensures
