-- `entries::is_address` meets its contract. Assumes nothing.
use mathlib.Core.Path.{◌∙◌}
use lib.ListN.{drop}
use Rattle.model.specs.Entries.{address_of}
use Rattle.entries.proofs.Numbers.{number_in, last_differs, second_differs, first_decides}
use Rattle.entries.proofs.is_address.Goals as goal

pub returns-then-read_u64-address : goal.returns-then-read_u64-address
returns-then-read_u64-address c =
    let a = c.args in
    last_differs (address_of (drop a.at a.s.now)) a.address c.read_u64.result (c.read_u64.ensures ∙ number_in 12 a.at 8 a.s.now) c.if-read_u64-address.true

pub returns-then-read_u64-address-2 : goal.returns-then-read_u64-address-2
returns-then-read_u64-address-2 c =
    let a = c.args in
    second_differs (address_of (drop a.at a.s.now)) a.address c.read_u64-2.result (c.read_u64-2.ensures ∙ number_in 4 a.at 8 a.s.now) c.if-read_u64-address-2.true

pub returns : goal.returns
returns c =
    let a = c.args in
    first_decides (address_of (drop a.at a.s.now)) a.address c.read_u64.result c.read_u64-2.result c.read_u32.result
    (c.read_u64.ensures ∙ number_in 12 a.at 8 a.s.now) c.if-read_u64-address.false
    (c.read_u64-2.ensures ∙ number_in 4 a.at 8 a.s.now) c.if-read_u64-address-2.false c.read_u32.ensures
