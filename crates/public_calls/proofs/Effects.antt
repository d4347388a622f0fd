-- What a made call is: a call on bytes whose arguments fit, or one that was turned down before it. Assumes nothing.
use Prim.Native.Nat.{ℕ}
use mathlib.Core.Path.{◌≡◌, refl}
use mathlib.Core.Bool.{Bool, true, false, cond}
use mathlib.Core.List.{List}
use Rattle.model.specs.declared.storage_memo.ReadAnchor.{ReadAnchor}
use Rattle.model.specs.Numbers.{Bytes}
use Rattle.model.specs.Entries.{flags_known}
use Rattle.model.specs.Refusals.{Answer, refuse}
use Rattle.model.proofs.SlotLaws.{and_intro}
use Rattle.image.specs.Claims.{call_fits}
use Rattle.image.specs.Image.{bytes_step}
use Rattle.image.proofs.EntriesFit.{writes_of_fit, members_of_fit}
use Rattle.replies.specs.Replies.{answer_step, Stepped}
use Rattle.public_calls.specs.PublicCalls.{PublicCall, open_store, install, look, get, put, advance, read, take, answer, answer_failed, bytes_call, SteppedBy, Made}

pub data Effect (c : PublicCall) (before after : List ℕ) (x : Answer) : Type 0 where
  performed : call_fits (bytes_call c).call ≡ true → SteppedBy c before after x → Effect c before after x
  turned_down : (n : ℕ) → x ≡ refuse n → after ≡ before → Effect c before after x

-- An answer whose members' flag bytes are known, or not.
of_answer : (t : Bool) (a : ReadAnchor) (members : List ℕ) {before after : List ℕ} {x : Answer} → Bytes members
    → Stepped x after (cond t (bytes_step before (bytes_call (answer a members))) (record { bytes = before; answer = refuse 3 })) → Effect (answer a members) before after x
of_answer true a members f s = performed (members_of_fit members f) s
of_answer false a members f s = turned_down 3 s.answer_is s.bytes_is

pub effect : (c : PublicCall) {before after : List ℕ} {x : Answer} → Made c before after x → Effect c before after x
unfolding answer_step
effect (open_store capacity depth R) m = performed m.0 m.1
effect (install a) m = performed m.0 m.1
effect (look a s) m = performed m.0 m.1
effect (get a s) m = performed m.0 m.1
effect (put a s v) m = performed (and_intro _ _ m.0 m.1) m.2
effect (advance child h k addresses writes work out) m = performed (and_intro _ _ m.0 (writes_of_fit writes m.1)) m.2
effect (read a s) m = performed m.0 m.1
effect (take a out) m = performed refl m
effect (answer a members) m = of_answer (flags_known members) a members m.0 m.1
effect (answer_failed a slots) m = performed refl m
