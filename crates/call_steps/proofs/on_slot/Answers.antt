-- `call_steps::on_slot` meets its contract. Assumes nothing.
use mathlib.Core.Path.{◌≡◌, refl, ap}
use Rattle.model.specs.declared.storage_memo.ReadAnchor.{ReadAnchor}
use Rattle.model.specs.Store.{on_slot, Call, on_store, at_anchor}
use Rattle.call_reader.specs.declared.SlotCall.{SlotCall}
use Rattle.call_reader.specs.declared.SlotCall.TheVariants.{Look, Get, Put, Read}
use Rattle.call_reader.specs.Calls.{slot_call_of}
use Rattle.call_steps.proofs.Said.{plain_look, plain_get, plain_put, plain_read, silent_looked, silent_stored, silent_read, refused_as, stepped_as}
use borrow.Author.Rules.{rules}
use Rattle.call_steps.proofs.on_slot.Goals as goal

-- The model's call.
abbrev called : ReadAnchor → SlotCall → Call
called a k = on_store (at_anchor a (on_slot (slot_call_of k)))

pub returns-in_err-look-in-Look : goal.returns-in_err-look-in-Look
returns-in_err-look-in-Look c w e =
    let a = c.args in
    let q : a.call ≡ Look c.in-Look.slot = search rules in
    refused_as _ a.s.now w e (ap (called a.anchor) q) (plain_look _ _) c.from_residual.ensures.1 c.in_err-look-in-Look.ensures

pub returns-in_ok-look-in-Look : goal.returns-in_ok-look-in-Look
returns-in_ok-look-in-Look c w e =
    let a = c.args in
    let q : a.call ≡ Look c.in-Look.slot = search rules in
    stepped_as a.s.now w e (ap (called a.anchor) q) (plain_look _ _) (silent_looked c.in_ok-look-in-Look.field-0) (c.from.ensures e) c.in_ok-look-in-Look.ensures

pub returns-in_err-get-in-Get : goal.returns-in_err-get-in-Get
returns-in_err-get-in-Get c w e =
    let a = c.args in
    let q : a.call ≡ Get c.in-Get.slot = search rules in
    refused_as _ a.s.now w e (ap (called a.anchor) q) (plain_get _ _) c.from_residual-in_err-get-in-Get.ensures.1 c.in_err-get-in-Get.ensures

pub returns-in_ok-get-in-Get : goal.returns-in_ok-get-in-Get
returns-in_ok-get-in-Get c w e =
    let a = c.args in
    let q : a.call ≡ Get c.in-Get.slot = search rules in
    stepped_as a.s.now w e (ap (called a.anchor) q) (plain_get _ _) (silent_looked c.in_ok-get-in-Get.field-0) (c.from-in-Get.ensures e) c.in_ok-get-in-Get.ensures

pub returns-in_err-put-in-Put : goal.returns-in_err-put-in-Put
returns-in_err-put-in-Put c w e =
    let a = c.args in
    let q : a.call ≡ Put c.in-Put.slot c.in-Put.value = search rules in
    refused_as _ a.s.now w e (ap (called a.anchor) q) (plain_put _ _ _) c.from_residual-in_err-put-in-Put.ensures.1 c.in_err-put-in-Put.ensures

pub returns-in_ok-put-in-Put : goal.returns-in_ok-put-in-Put
returns-in_ok-put-in-Put c w e =
    let a = c.args in
    let q : a.call ≡ Put c.in-Put.slot c.in-Put.value = search rules in
    stepped_as a.s.now w e (ap (called a.anchor) q) (plain_put _ _ _) silent_stored refl c.in_ok-put-in-Put.ensures

pub returns-in_err-read-in-Read : goal.returns-in_err-read-in-Read
returns-in_err-read-in-Read c w e =
    let a = c.args in
    let q : a.call ≡ Read c.in-Read.slot = search rules in
    refused_as _ a.s.now w e (ap (called a.anchor) q) (plain_read _ _) c.from_residual-in_err-read-in-Read.ensures.1 c.in_err-read-in-Read.ensures

pub returns-in_ok-read-in-Read : goal.returns-in_ok-read-in-Read
returns-in_ok-read-in-Read c w e =
    let a = c.args in
    let q : a.call ≡ Read c.in-Read.slot = search rules in
    stepped_as a.s.now w e (ap (called a.anchor) q) (plain_read _ _) (silent_read c.in_ok-read-in-Read.field-0) (c.from-in-Read.ensures e) c.in_ok-read-in-Read.ensures
