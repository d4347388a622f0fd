-- `bal_entries::seed_slot` meets its contract. Assumes nothing.
use mathlib.Core.Path.{◌≡◌, sym, ap, ◌∙◌}
use mathlib.Core.List.{List}
use mathlib.Core.Bool.{Bool, cond}
use Prim.Native.Nat.{ℕ, ◌*◌}
use native.Mathlib.Omega.{arith}
use lib.Dec.{ltb}
use borrow.Author.Tests.{lt-ltb, le-ltb}
use Rattle.model.specs.declared.storage_memo.U256.{U256}
use Rattle.model.specs.Entries.{u256_at}
use Rattle.words.specs.Parts.{placed}
use Rattle.entries.specs.Bytes.{write_bytes}
use Rattle.bal_entries.proofs.SlotWalk.{changes_fit, unchanged, changed}
use Rattle.bal_entries.proofs.seed_slot.Goals as goal
use Rattle.bal_entries.proofs.seed_slot.Goals.{then-found-most, else-found-most}

pub final_change-requires : goal.final_change-requires
final_change-requires c =
    let a = c.args in changes_fit a.address a.slots.now a.changes.now a.most a.from (omega arith) c.requires.changes_left _ c.read_u64-count.ensures

pub overflow_add-result-in_default : goal.overflow_add-result-in_default
overflow_add-result-in_default c =
    let a = c.args in omega (arith, changes_fit a.address a.slots.now a.changes.now a.most a.from (omega arith) c.requires.changes_left _ c.read_u64-count.ensures)

pub returns-in_default : goal.returns-in_default
returns-in_default c =
    let a = c.args in unchanged a.address a.slots.now a.changes.now a.most a.from (omega arith) c.requires.changes_left _ c.read_u64-count.ensures a.out.now (sym c.in_default.is ∙ c.final_change.ensures)

pub overflow_add-result-3 : goal.overflow_add-result-3
overflow_add-result-3 c =
    let a = c.args in omega (arith, changes_fit a.address a.slots.now a.changes.now a.most a.from (omega arith) c.requires.changes_left _ c.read_u64-count.ensures)

pub returns : goal.returns
returns c =
    let a = c.args in
    let written : U256 → List ℕ = λ x. placed (a.from.found * 84) (write_bytes (record { slot = record { address = a.address; index = x }; value = c.in-Some.value })) a.out.now in
    let put : Bool → List ℕ = λ t. cond t (written (u256_at (a.from.slot * 40) a.slots.now)) a.out.now in
    let out_is : c.if-found-most.out ≡ put (ltb a.from.found a.most) = elim c.if-found-most.branch [
      | then-found-most w ↦ w.out-is ∙ w.write_write.ensures ∙ ap written w.read_u256-index.ensures ∙ sym (ap put (lt-ltb a.from.found a.most w.if-found-most.true))
      | else-found-most w ↦ w.out-is ∙ sym (ap put (le-ltb a.from.found a.most w.if-found-most.false))
    ] in
    changed a.address a.slots.now a.changes.now a.most a.from (omega arith) c.requires.changes_left _ c.read_u64-count.ensures c.in-Some.value a.out.now c.if-found-most.out c.in-Some.ensures out_is
