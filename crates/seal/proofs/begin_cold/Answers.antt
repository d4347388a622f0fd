-- `seal::begin_cold` meets its contract. Assumes nothing.
use mathlib.Core.Path.{◌∙◌}
use native.Mathlib.Omega.{arith}
use Rattle.image.specs.Lent.{store_of}
use Rattle.image.proofs.Lent.{store_in}
use Rattle.seal.proofs.Headers.{void_bytes}
use Rattle.seal.proofs.Rooms.{work_room}
use Rattle.seal.proofs.begin_cold.Goals as goal

pub overflow_mul-capacity : goal.overflow_mul-capacity
overflow_mul-capacity c = omega (arith, work_room _ _ _ c.args.store.is_store c.read_u64-capacity.ensures c.requires)

pub clear-requires : goal.clear-requires
clear-requires c = omega (arith, work_room _ _ _ c.args.store.is_store c.read_u64-capacity.ensures c.requires)

pub returns : goal.returns
returns c =
    let a = c.args in
    void_bytes (store_of a.store.bytes.now).config a.child c.read_u64-capacity.result a.work.now _ _ (c.read_u64-capacity.ensures ∙ (store_in _ a.store.is_store).capacity_word) c.write_header.ensures c.clear.ensures
