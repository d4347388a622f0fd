-- `digits::Output::write_hex` meets its contract. Assumes nothing.
use Prim.Native.Nat.{ℕ, ◌+◌, ◌-◌, ◌≤◌}
use mathlib.Core.Path.{◌≡◌, sym, ap, ap₂, ◌∙◌}
use mathlib.Core.List.{List}
use native.Mathlib.Omega.{arith}
use lib.ListN.{length, set, length-set}
use Rattle.words.specs.Parts.{placed}
use Rattle.call_list.specs.Listing.{hex}
use Rattle.entries.proofs.Placing.{placed_nil}
use Rattle.digits.proofs.Digits.{hex_length, hex_step}
use Rattle.digits.proofs.Output.write_hex.Goals as goal

pub loop-k-preserved : goal.loop-k-preserved
loop-k-preserved c =
    let l = c.loop-k in
    let at : ℕ = c.args.self.now.at in
    let s : List ℕ = l.self.bytes.now in
    let room : at + c.args.n ≤ length (set s (at + (l.k - 1)) c.digit.result) = simp length-set l.invariant.2 in (
      l.invariant.0,
      l.invariant.1,
      room,
      hex_step at l.k (l.k - 1) c.digit.result l.rest s (omega arith) (omega arith) c.digit.ensures ∙ l.invariant.3,
    )

pub returns : goal.returns
unfolding hex
returns c =
    let l = c.loop-k in
    let a = c.args in
    let at : ℕ = a.self.now.at in
    let s : List ℕ = l.self.bytes.now in
    let e : l.k ≡ 0 = omega arith in
    record {
      bytes = sym (placed_nil at s) ∙ ap (λ (k : ℕ). placed at (hex k l.rest) s) (sym e) ∙ l.invariant.3;
      next_place = ap₂ (λ (p k : ℕ). p + k) l.invariant.0 (sym (hex_length a.n a.x));
      same_output = l.invariant.1;
    }
