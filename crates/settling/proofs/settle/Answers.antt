-- `settling::settle` meets its contract.
use Rattle.model.specs.Entries.{slot_of, u256_at, member_of}
use Rattle.image.proofs.EntriesFit.{u256_at_fits, slot_of_fits}
use Rattle.header.proofs.Segments.{known_bytes}
use Rattle.settling.proofs.Members.{refused_is, valued_is}
use Rattle.settling.proofs.Tops.{refused_settled, valued_settled, valued_placed}
use Rattle.settling.proofs.settle.Goals as goal

pub returns-then-member-eq0 : goal.returns-then-member-eq0
returns-then-member-eq0 c =
    let m = c.args.member.now in
    refused_settled c.args.s.now c.requires.0 (slot_of m) (known_bytes c.args.s.now c.type_inv.s) (member_of m).outcome (refused_is m c.if-member-eq0.true)

pub settle_top-requires : goal.settle_top-requires
settle_top-requires c =
    let m = c.args.member.now in
    valued_placed c.args.s.now c.requires.0 (slot_of m) (u256_at 53 m) c.read_u256-value.result (member_of m).outcome (valued_is m c.if-member-eq0.false) c.read_slot-slot.result c.read_slot-slot.ensures c.requires.2 c.top_place-place.result c.top_place-place.ensures

pub returns : goal.returns
returns c =
    let m = c.args.member.now in
    let f = known_bytes m c.type_inv.member in
    valued_settled c.args.s.now c.requires.0 (slot_of m) (u256_at 53 m) (member_of m).outcome (valued_is m c.if-member-eq0.false)
    (slot_of_fits m f) (u256_at_fits 53 m f) c.requires.2 _ c.read_slot-slot.result c.read_u256-value.result c.read_slot-slot.ensures c.read_u256-value.ensures c.settle_top.ensures
