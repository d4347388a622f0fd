-- `call_steps::anchored` meets its contract: a take. Assumes nothing.
use mathlib.Core.Path.{refl, ap}
use Rattle.model.specs.declared.storage_memo.ReadAnchor.{ReadAnchor}
use mathlib.Core.List.{List}
use Prim.Native.Nat.{ℕ}
use Rattle.model.specs.Store.{Call, on_store, at_anchor}
use Rattle.call_reader.specs.declared.AnchoredCall.{AnchoredCall}
use Rattle.call_reader.specs.Calls.{anchored_of}
use Rattle.call_steps.proofs.Said.{named_as, reply_refused, took_as}
use Rattle.call_steps.proofs.anchored.Goals as goal

-- The model's call.
abbrev called : ReadAnchor → List ℕ → AnchoredCall → Call
called a l k = on_store (at_anchor a (anchored_of l k))

pub returns-in_err-listed-in-Take : goal.returns-in_err-listed-in-Take
returns-in_err-listed-in-Take c w =
    let a = c.args in
    named_as a.s.now w a.entries.now (ap (called a.anchor a.list.now) c.in-Take.is)
    (took_as a.s.now w a.entries.now a.anchor (reply_refused _ _ _ c.from_residual.ensures.1) c.in_err-listed-in-Take.ensures)

pub returns-in_ok-listed-in-Take : goal.returns-in_ok-listed-in-Take
returns-in_ok-listed-in-Take c w =
    let a = c.args in
    named_as a.s.now w a.entries.now (ap (called a.anchor a.list.now) c.in-Take.is) (took_as a.s.now w a.entries.now a.anchor refl c.in_ok-listed-in-Take.ensures)
