-- The result of each exported call on a store's bytes: of these, of the call's numbers and lent arguments, and of its reply.
use Rattle.std.specs.Prelude.{ℕ, List}
use Rattle.model.specs.declared.delta_snapshot.Slot.{Slot}
use Rattle.model.specs.Entries.{slot_of, u256_at, slots_of}
use Rattle.model.specs.Store.{SlotCall, put, on_slot, take, answer_failed, install, at_anchor, open_store, on_store}
use Rattle.image.specs.Image.{BytesResult, decode, bytes_step}
use Rattle.replies.specs.Replies.{alone, with_output, advance_call, answer_step}
use Rattle.header.specs.Header.{lent_anchor}
use Rattle.lent_calls.specs.Arguments.{reply_enough, anchored_enough, slot_enough, put_enough, advance_enough, lent_retention}
use Rattle.lent_calls.specs.ReplyWords.{Given, totals_given}
use Rattle.lent_calls.specs.Exported.{lent_step, lent_given, known_form}

-- An open, by its capacity, depth limit, form of retention and idle number.
abbrev pub lent_open : List ℕ → ℕ → ℕ → ℕ → ℕ → List ℕ → BytesResult
lent_open b capacity depth form idle reply =
    lent_step (reply_enough reply) b (known_form form b (bytes_step b (alone (open_store capacity depth (lent_retention form idle)))))

-- An install, by the anchor's number and hash, as in all that follow.
abbrev pub lent_install : List ℕ → ℕ → List ℕ → List ℕ → BytesResult
lent_install b n hash reply = lent_step (anchored_enough hash reply) b (bytes_step b (alone (on_store (install (lent_anchor n hash)))))

-- A look, a get or a read of a slot.
abbrev pub lent_slot : (Slot → SlotCall) → List ℕ → ℕ → List ℕ → List ℕ → List ℕ → BytesResult
lent_slot call b n hash slot reply =
    lent_step (slot_enough hash slot reply) b (bytes_step b (alone (on_store (at_anchor (lent_anchor n hash) (on_slot (call (slot_of slot)))))))

-- A put of a value.
abbrev pub lent_put : List ℕ → ℕ → List ℕ → List ℕ → List ℕ → List ℕ → BytesResult
lent_put b n hash slot value reply =
    lent_step (put_enough hash slot value reply) b
    (bytes_step b (alone (on_store (at_anchor (lent_anchor n hash) (on_slot (put (slot_of slot) (u256_at 0 value)))))))

-- An advance, by the parent's hash, the skip, addresses, writes, work area and output.
abbrev pub lent_advance : List ℕ → ℕ → List ℕ → List ℕ → ℕ → List ℕ → List ℕ → List ℕ → List ℕ → List ℕ → BytesResult
lent_advance b n hash parent skip addresses writes work out reply =
    lent_step (advance_enough hash parent reply) b (bytes_step b (advance_call (lent_anchor n hash) (u256_at 0 parent) skip addresses writes work out))

-- A take to an output.
abbrev pub lent_take : List ℕ → ℕ → List ℕ → List ℕ → List ℕ → BytesResult
lent_take b n hash out reply = lent_step (anchored_enough hash reply) b (bytes_step b (with_output (on_store (at_anchor (lent_anchor n hash) take)) out))

-- An answer with members, and one of a round that failed, with slots.
abbrev pub lent_answer : List ℕ → ℕ → List ℕ → List ℕ → List ℕ → BytesResult
lent_answer b n hash members reply = lent_step (anchored_enough hash reply) b (answer_step b (lent_anchor n hash) members)

abbrev pub lent_failed : List ℕ → ℕ → List ℕ → List ℕ → List ℕ → BytesResult
lent_failed b n hash slots reply =
    lent_step (anchored_enough hash reply) b (bytes_step b (alone (on_store (at_anchor (lent_anchor n hash) (answer_failed (slots_of slots))))))

-- The read totals.
abbrev pub lent_totals : List ℕ → List ℕ → Given
lent_totals b reply = lent_given (reply_enough reply) (totals_given (decode b))
