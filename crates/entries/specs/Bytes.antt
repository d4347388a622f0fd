-- The bytes of an address, of a 32-byte number and of a write.
use Rattle.std.specs.Prelude.{ℕ, List, ◌++◌}
use Rattle.model.specs.declared.storage_memo.Address.{Address}
use Rattle.model.specs.declared.storage_memo.U256.{U256}
use Rattle.model.specs.Numbers.{be}
use Rattle.model.specs.Advance.{Write}
use Rattle.model.specs.Entries.{slot_bytes}

-- An address's 20 bytes.
abbrev pub address_bytes : Address → List ℕ
address_bytes a = be 4 a.w0 ++ (be 8 a.w1 ++ be 8 a.w2)

-- The bytes of a 32-byte number, and of a write: 84, a slot and its value, the form in which an advance takes writes.
abbrev pub u256_bytes : U256 → List ℕ
u256_bytes x = be 8 x.w0 ++ (be 8 x.w1 ++ (be 8 x.w2 ++ be 8 x.w3))

unfoldable pub write_bytes : Write → List ℕ
write_bytes w = slot_bytes w.slot ++ u256_bytes w.value
