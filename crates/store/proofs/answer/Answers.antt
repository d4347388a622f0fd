-- `store::answer` meets its contract: 3, 20, or what `unchecked_reads::answer` does. Assumes nothing.
use mathlib.Core.Path.{◌≡◌, ◌∙◌}
use Rattle.model.specs.Entries.{members_of}
use Rattle.model.specs.Store.{on_store, at_anchor, answer}
use Rattle.image.specs.Image.{bytes_step}
use Rattle.replies.specs.Replies.{alone, answer_step}
use Rattle.unchecked_reads.proofs.Said.{stepped}
use Rattle.store.proofs.Checked.{a_store, refused_20, unknown_flag, known_flags}
use Rattle.store.proofs.answer.Goals as goal

pub returns-then-not-flags_known : goal.returns-then-not-flags_known
returns-then-not-flags_known c =
    let a = c.args in
    stepped (unknown_flag a.s.now a.anchor a.members.now c.flags_known.result c.flags_known.ensures c.if-not-flags_known.true)

pub returns-then-not-is_store : goal.returns-then-not-is_store
returns-then-not-is_store c =
    let flags_hold : let a = c.args in
    answer_step a.s.now a.anchor a.members.now ≡ bytes_step a.s.now (alone (on_store (at_anchor a.anchor (answer (members_of a.members.now))))) = let a = c.args in
    known_flags a.s.now a.anchor a.members.now c.flags_known.result c.flags_known.ensures c.if-not-flags_known.false in
    let a = c.args in
    stepped (flags_hold
    ∙ refused_20 a.s.now _ c.is_store.ensures (at_anchor a.anchor (answer (members_of a.members.now))) 0 0 c.if-not-is_store.true)

pub answer-requires : goal.answer-requires
answer-requires c =
    let a = c.args in
    a_store a.s.now _ c.is_store.ensures c.if-not-is_store.false

pub returns : goal.returns
returns c =
    let flags_hold : let a = c.args in
    answer_step a.s.now a.anchor a.members.now ≡ bytes_step a.s.now (alone (on_store (at_anchor a.anchor (answer (members_of a.members.now))))) = let a = c.args in
    known_flags a.s.now a.anchor a.members.now c.flags_known.result c.flags_known.ensures c.if-not-flags_known.false in
    rw flags_hold c.answer.ensures
