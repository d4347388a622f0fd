-- Texts written one after the other. Assumes nothing.
use mathlib.Core.Path.{◌≡◌, refl, sym, ap, ap₂, ◌∙◌}
use mathlib.Core.List.{List, [], ◌∷◌, ◌++◌, append_assoc}
use Prim.Native.Nat.{ℕ, suc, ◌+◌, ◌≤◌, ◌<◌}
use native.Mathlib.Omega.{arith}
use lib.ListN.{length, take, drop, set, length-append}
use lib.Seq.{append_snoc, take-set-le, drop-cons, drop-set-lt, get_or-set_same}
use Rattle.words.specs.Parts.{placed}
use Rattle.words.proofs.Places.{placed_length}
use Rattle.entries.proofs.Placing.{placed_next, placed_nil}
use Rattle.digits.specs.declared.Output.{Output}
use Rattle.digits.specs.Output.{Room, Writes}

-- the rest of a list from a byte just stored
pub drop_stored : (s : List ℕ) (i b : ℕ) → i < length s → drop i (set s i b) ≡ b ∷ drop (suc i) s
drop_stored s i b h =
    drop-cons (set s i b) i 0 (simp lib.ListN.length-set h) ∙ ap₂ (λ (x : ℕ) (y : List ℕ). x ∷ y) (get_or-set_same s i b 0 h) (drop-set-lt (suc i) s i b (omega arith))

-- a text, and a byte that was stored where it ends
pub placed_stored : (at b i : ℕ) (a s : List ℕ) → i ≡ at + length a → i < length s → placed at a (set s i b) ≡ placed at (a ++ (b ∷ [])) s
placed_stored at b i a s e h =
    let t : take at (set s i b) ≡ take at s = take-set-le at s i b (omega arith) in
    let u : drop (at + length a) (set s i b) ≡ b ∷ drop (suc i) s = ap (λ (k : ℕ). drop k (set s i b)) (sym e) ∙ drop_stored s i b h in
    let n : suc i ≡ at + length (a ++ (b ∷ [])) = omega (arith, length-append a (b ∷ [])) in
    ap₂ (λ (x y : List ℕ). x ++ a ++ y) t u
    ∙ sym (append_snoc (take at s ++ a) b (drop (suc i) s))
    ∙ ap₂ (λ (x : List ℕ) (k : ℕ). x ++ drop k s) (append_assoc (take at s) a (b ∷ [])) n

-- a text that is still to be written after one that was
pub written_left : {a : List ℕ} {o p : Output} → o.at ≤ length o.bytes.now → Writes a o p → (b : List ℕ) → placed p.at b p.bytes.now ≡ placed o.at (a ++ b) o.bytes.now
written_left {a} {o} h v b = ap₂ (λ (k : ℕ) (x : List ℕ). placed k b x) v.next_place v.bytes ∙ placed_next o.at _ a b o.bytes.now refl h

pub written_then : {a b : List ℕ} {o p q : Output} → o.at ≤ length o.bytes.now → Writes a o p → Writes b p q → Writes (a ++ b) o q
written_then {a = a} {b = b} h v w =
    record {
      bytes = w.bytes ∙ written_left h v b;
      next_place = omega (arith, length-append a b, v.next_place, w.next_place);
      same_output = w.same_output ∙ v.same_output;
    }

-- the room that a text leaves
pub room_left : (n : ℕ) {a : List ℕ} {o p : Output} → Writes a o p → Room (length a + n) o → Room n p
room_left n {a} {o} v h = omega (arith, v.next_place, ap length v.bytes, placed_length o.at a o.bytes.now (omega arith))

-- the same text, given in another way
pub written_as : {a b : List ℕ} {o p : Output} → Writes a o p → a ≡ b → Writes b o p
written_as w e = rw e at w

-- What is left of a text, written from an output's place on, makes what the whole text makes of the first output.
pub record Left (rest whole : List ℕ) (first now : Output) : Type 0 where
  pub bytes : placed now.at rest now.bytes.now ≡ placed first.at whole first.bytes.now
  pub end : now.at + length rest ≡ first.at + length whole
  pub same_output : now.bytes.ghost_name ≡ first.bytes.ghost_name
  pub room : Room (length rest) now

pub left_whole : {a : List ℕ} {o : Output} → Room (length a) o → Left a a o o
left_whole h = record { bytes = refl; end = refl; same_output = refl; room = h }

pub left_as : {a b w : List ℕ} {f o : Output} → Left a w f o → a ≡ b → Left b w f o
left_as l e = rw e at l

pub left_after : {a b w : List ℕ} {f o p : Output} → Left (a ++ b) w f o → Writes a o p → Left b w f p
left_after {a} {b} {o = o} l v =
    let h : o.at ≤ length o.bytes.now = omega (arith, l.room) in
    record {
      bytes = written_left h v b ∙ l.bytes;
      end = omega (arith, length-append a b, v.next_place, l.end);
      same_output = v.same_output ∙ l.same_output;
      room = room_left (length b) v (omega (arith, length-append a b, l.room));
    }

pub left_none : {w : List ℕ} {f o : Output} → Left [] w f o → Writes w f o
left_none {o = o} l =
    record {
      bytes = sym (placed_nil o.at o.bytes.now) ∙ l.bytes;
      next_place = omega (arith, l.end);
      same_output = l.same_output;
    }
