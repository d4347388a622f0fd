-- `call_steps::advance` meets its contract. Assumes nothing.
use Prim.Native.Nat.{ℕ}
use mathlib.Core.Path.{sym, ap₂}
use mathlib.Core.List.{List}
use lib.ListN.{length}
use Rattle.model.specs.declared.storage_memo.Address.{Address}
use Rattle.model.specs.Advance.{Write}
use Rattle.model.specs.Store as store
use Rattle.model.specs.Store.{Call, on_store}
use Rattle.call_steps.proofs.Lent.{addresses_lent, writes_lent}
use Rattle.call_steps.proofs.Said.{named_as, reply_refused, advanced_as}
use Rattle.call_steps.proofs.advance.Goals as goal

pub returns-in_err-report : goal.returns-in_err-report
returns-in_err-report c =
    let a = c.args in
    let l : List ℕ = a.list.now in
    named_as a.s.now (length a.work.now) a.entries.now
    (ap₂ (λ (rs : List Address) (ws : List Write). on_store (store.advance a.child a.parent_hash (record { skip = a.prepared.skip; relevance = rs; writes = ws }))) (sym (addresses_lent l a.prepared.relevance c.requires.1.0)) (sym (writes_lent l a.prepared.writes c.requires.1.1)))
    (advanced_as a.s.now (length a.work.now) a.entries.now a.child a.parent_hash _ (reply_refused _ _ _ c.from_residual.ensures.1) c.in_err-report.ensures)

pub returns : goal.returns
returns c =
    let a = c.args in
    let l : List ℕ = a.list.now in
    named_as a.s.now (length a.work.now) a.entries.now
    (ap₂ (λ (rs : List Address) (ws : List Write). on_store (store.advance a.child a.parent_hash (record { skip = a.prepared.skip; relevance = rs; writes = ws }))) (sym (addresses_lent l a.prepared.relevance c.requires.1.0)) (sym (writes_lent l a.prepared.writes c.requires.1.1)))
    (advanced_as a.s.now (length a.work.now) a.entries.now a.child a.parent_hash _ (c.from.ensures _) c.in_ok-report.ensures)
