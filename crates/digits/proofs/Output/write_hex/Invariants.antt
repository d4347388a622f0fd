-- The loop of `digits::Output::write_hex`: what it keeps.
use Prim.Native.Nat.{◌+◌, ◌≤◌}
use mathlib.Core.Path.{◌≡◌}
use lib.ListN.{length}
use Rattle.words.specs.Parts.{placed}
use Rattle.call_list.specs.Listing.{hex}
use Rattle.digits.proofs.Output.write_hex.Given as goal

abbrev pub invariant-loop-k : goal.invariant-loop-k
invariant-loop-k l = (l.self.at ≡ l.initial.self.at)
    × (l.self.bytes.ghost_name ≡ l.initial.self.bytes.ghost_name)
    × (l.at + l.n ≤ length l.self.bytes.now)
    × (placed l.at (hex l.k l.rest) l.self.bytes.now ≡ placed l.at (hex l.n l.x) l.initial.self.bytes.now)
