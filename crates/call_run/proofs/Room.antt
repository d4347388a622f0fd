-- The room for a call's lines, and areas that are long enough. Assumes nothing.
use Prim.Native.Nat.{ℕ, ◌+◌, ◌-◌, ◌*◌, ◌/◌, ◌≤◌, ◌<◌}
use mathlib.Core.Path.{◌≡◌, refl, ap, subst, ◌∙◌}
use mathlib.Core.Bool.{Bool, true, false, not, ◌&&◌, ◌||◌}
use mathlib.Core.List.{List}
use native.Mathlib.Nat.{mul-div_cancel}
use native.Mathlib.Omega.{arith}
use borrow.Author.Tests.{leb-true, leb-false, ltb-false, not-true}
use lib.Dec.{leb, ltb, lit<}
use lib.ListN.{length, replicate, length-replicate}
use Rattle.model.specs.Store.{Call}
use Rattle.model.proofs.SlotLaws.{and_left, and_right}
use Rattle.image.specs.Image.{bytes_step}
use Rattle.call_list.specs.Listing.{answer_lines}
use Rattle.call_answers.specs.Answers.{CallReply, slots_listed}
use Rattle.call_answers.proofs.Lines.{slots_told, slots_are, answer_lines_length}
use Rattle.call_steps.specs.Steps.{with_lent, SteppedAs}
use Rattle.call_steps.proofs.After.{answer_room}
use Rattle.call_progress.specs.Progress.{call_lines}
use Rattle.call_run.specs.Run.{LinesFit, too_short}

-- The lines of a call fit.
pub lines_fit_lent : (b : List ℕ) (c : Call) (w : ℕ) (entries : List ℕ) → length (answer_lines (bytes_step b (with_lent c w entries)).answer) ≤ call_lines
lines_fit_lent b c w entries =
    let m = answer_room b c w entries in
    omega (arith, m.few, answer_lines_length (bytes_step b (with_lent c w entries)).answer)

pub lines_fit : LinesFit
lines_fit b c =
    let k : ℕ = c.output_entries in
    let entries : List ℕ = replicate (k * 52) 0 in
    let e : length entries / 52 ≡ k = ap (λ (x : ℕ). x / 52) (length-replicate {A = ℕ} (k * 52) 0) ∙ mul-div_cancel k (lit< tt) in
    subst (λ (x : ℕ). length (answer_lines (bytes_step b (record { call = c.call; work_bytes = c.work_bytes; output_entries = x })).answer) ≤ call_lines) e
    (lines_fit_lent b c.call c.work_bytes entries)

-- The slots that a call lists: few, and the entries hold them.
pub slots_held : (w : ℕ) (entries b : List ℕ) (c : Call) (r : CallReply) (after entries_after : List ℕ) → SteppedAs r after entries_after (bytes_step b (with_lent c w entries)) entries
    → (slots_listed r ≤ 64) × (slots_listed r * 52 ≤ length entries)
slots_held w entries b c r after entries_after s =
    let m = answer_room b c w entries in
    let n : slots_listed r ≡ slots_told (bytes_step b (with_lent c w entries)).answer = slots_are r entries_after ∙ ap slots_told s.answer_is in
    (omega (arith, m.few), omega (arith, m.held))

-- Whether the loop goes on, by a room of k bytes.
pub goes_on_true : (k : ℕ) (ended : Bool) (n at : ℕ) → (not ended && leb k (n - at)) ≡ true → 0 < k → (ended ≡ false) × (at + k ≤ n)
goes_on_true k ended n at h z =
    (not-true ended (and_left (not ended) (leb k (n - at)) h), omega (arith, leb-true k (n - at) (and_right (not ended) (leb k (n - at)) h)))

pub goes_on_false : (k : ℕ) (ended : Bool) (n at : ℕ) → (not ended && leb k (n - at)) ≡ false → ended ≡ false → n < at + k
goes_on_false k false n at h e = omega (arith, leb-false k (n - at) h)
goes_on_false k true n at h e = let z : ◌≡◌ {A = ℕ} 0 1 = cc in absurd (omega arith)

-- Areas that are long enough.
either : (a b : Bool) → (a || b) ≡ false → (a ≡ false) × (b ≡ false)
either false false h = (refl, refl)
either false true h = (refl, h)
either true b h = let z : ◌≡◌ {A = ℕ} 0 1 = cc in absurd (omega arith)

pub long_enough : (list members out : List ℕ) → too_short list members out ≡ false → (call_lines ≤ length out) × (length list / 53 * 85 ≤ length members)
long_enough list members out h =
    let k = either (ltb (length out) call_lines) (ltb (length members) (length list / 53 * 85)) h in
    (ltb-false (length out) call_lines k.0, ltb-false (length members) (length list / 53 * 85) k.1)
