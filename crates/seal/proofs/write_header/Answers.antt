-- `seal::write_header` meets its contract. Assumes nothing.
use Rattle.image.specs.Lent.{store_of}
use Rattle.header.proofs.Segments.{known_bytes}
use Rattle.seal.proofs.Headers.{header_written}
use Rattle.seal.proofs.Kept.{config_part}
use Rattle.seal.proofs.write_header.Goals as goal

pub returns : goal.returns
returns c =
    let a = c.args in
    let b = a.s.now in
    header_written (store_of b).config a.child _ a.work.now _ _ _ (config_part b (known_bytes b c.type_inv.s) c.requires.0) c.clear.ensures c.place.ensures c.write_anchor.ensures
