-- `fold::write_record` meets its contract.
use Rattle.std.specs.Prelude.{Some}
use mathlib.Core.Path.{◌≡◌, ap, ◌∙◌}
use Prim.Native.Nat.{◌+◌, ◌-◌, ◌*◌}
use native.Mathlib.Omega.{arith}
use Rattle.layout.specs.Layout.{record_size, slot_size}
use Rattle.model.specs.declared.delta_snapshot.Content.{Content}
use Rattle.model.specs.Contents.{touch}
use Rattle.words.specs.Parts.{placed}
use Rattle.image.specs.Image.{bytes_of, record_words, read_slot, read_record}
use Rattle.records.specs.Records.{words_at}
use Rattle.fold.proofs.StoredLaws.{record_placed}
use Rattle.fold.proofs.write_record.Goals as goal

pub returns : goal.returns
returns c =
    let a = c.args in
    let s = a.s.now in
    let o = a.out.now in
    let q : c.touch.result ≡ touch a.used (Some (read_record (words_at a.i s)).content) = c.touch.ensures ∙ ap (λ (x : Content). touch a.used (Some x)) c.content-content.ensures in
    record_placed (a.c * record_size) (a.i * record_size) (a.i * record_size + slot_size - a.i * record_size) c.touch.result s o (omega arith) (λ j. omega (arith, c.type_inv.s j)) (omega arith) (omega arith) c.place.ensures c.write_content.ensures
    ∙ ap (λ (x : Content). placed (a.c * record_size) (bytes_of (record_words (record { slot = read_slot (words_at a.i s); content = x }))) o) q
