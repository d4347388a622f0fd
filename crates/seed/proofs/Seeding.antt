-- The writes of a list applied one after the other. Assumes nothing.
use Rattle.std.specs.Prelude.{Option, None, Some, Err, Ok}
use mathlib.Core.Path.{◌≡◌, refl, sym, ap, ap₂, subst, ◌∙◌}
use mathlib.Core.Bool.{true, false}
use mathlib.Core.List.{List, [], ◌∷◌, ◌++◌}
use Prim.Native.Nat.{ℕ, suc, ◌+◌, ◌*◌, ◌/◌, ◌≤◌, ◌<◌}
use native.Mathlib.Numerals.{add-one}
use native.Mathlib.Omega.{arith}
use lib.Dec.{leb}
use lib.ListN.{length, drop}
use borrow.Author.Tests.{le-leb, leb-false, lt-leb}
use Rattle.model.specs.declared.storage_memo.Address.{Address}
use Rattle.model.specs.declared.delta_snapshot.Slot.{Slot}
use Rattle.model.specs.declared.delta_snapshot.Retention.{Retention}
use Rattle.model.specs.Numbers.{Bytes}
use Rattle.model.specs.Slots.{Value}
use Rattle.model.specs.declared.delta_snapshot.Content.{Content}
use Rattle.model.specs.Contents.{valued_use, valued}
use Rattle.model.specs.Layers.{Layer, find, freshest_use, insert, record_count}
use Rattle.model.specs.Advance.{WriteKind, overwrite, new, skip, relevant, final_write_kind, apply_write, Write, AppliedWrites, count_write, SeededTop, seed_final_writes}
use Rattle.model.specs.Entries.{write_of, addresses_of, writes_of}
use Rattle.model.specs.Store.{Config, Generation, Store, chain, with_top}
use Rattle.model.specs.Refusals.{store_size}
use Rattle.model.proofs.EntryLaws.{bytes_drop}
use Rattle.image.specs.Image.{image}
use Rattle.image.specs.Lent.{store_of, generation_of, Installed}
use Rattle.image.proofs.ReadBack.{decode_some, length_image}
use Rattle.image.proofs.EntriesFit.{u256_at_fits, slot_of_fits}
use Rattle.image.proofs.Lent.{generation_in}
use Rattle.records.specs.Records.{Found}
use Rattle.records.specs.Records.{place_in, count_after}
use Rattle.records.proofs.Places.{length_insert}
use Rattle.header.proofs.Images.{store_split}
use Rattle.seed.specs.declared.WriteKind.{WriteKind as Kind}
use Rattle.replies.specs.declared.WriteCounts.{WriteCounts}
use Rattle.seed.specs.Writes.{kind_of, has_room_for, kind_in, top_after, Wrote, count_one, seeded_over, seeded_in, SeededTo}
use Rattle.seed.proofs.Entries.{write_at, writes_end}
use Rattle.seed.proofs.Applying.{Again, wrote_full, wrote_done, wrote_again}

-- A top grows -----------------------------------------------------------------------------------------

least : (f : Found) (n : ℕ) → n ≤ count_after f n
least (Ok i) n = omega arith
least (Err i) n = omega arith

insert_grows : (s : Slot) (c : Content) (l : Layer) → length l ≤ length (insert s c l)
insert_grows s c l = omega (arith, length_insert l s c, least (place_in s l) (length l))

write_grows : (n : ℕ) (k : WriteKind) (s : Slot) (v : Value) (l : Layer) → length l ≤ length (apply_write n k s v l)
write_grows n (overwrite u) s v l = insert_grows s (valued u v) l
write_grows n new s v l = insert_grows s (valued n v) l
write_grows n skip s v l = omega arith

seed_grows : (R : Retention) (n : ℕ) (relevance : List Address) (b : List Layer) (ws : List Write) (l : Layer) → length l ≤ length (seed_final_writes R n relevance b ws l).top
unfolding seed_final_writes
seed_grows R n relevance b [] l = omega arith
seed_grows R n relevance b (w ∷ ws) l =
    let s : Slot = w.slot in
    let k : WriteKind = final_write_kind R n (relevant relevance s.address) (valued_use (find s l)) (freshest_use s b) in
    omega (arith, write_grows n k s w.value l, seed_grows R n relevance b ws (apply_write n k s w.value l))

-- The counts ------------------------------------------------------------------------------------------

-- One write more, counted by the code and by the model.
record Step (k : WriteKind) (s : Slot) (c : WriteCounts) (t : AppliedWrites) : Type 0 where
  applied_step : (count_one k c).applied + length t.applied ≡ c.applied + length (count_write k s t).applied
  overwritten_step : (count_one k c).overwritten + t.overwritten ≡ c.overwritten + (count_write k s t).overwritten
  skipped_step : (count_one k c).skipped + t.skipped ≡ c.skipped + (count_write k s t).skipped
  all_step : (count_one k c).applied + (count_one k c).skipped ≡ c.applied + c.skipped + 1
  over_step : c.overwritten ≤ c.applied → (count_one k c).overwritten ≤ (count_one k c).applied

step : (k : WriteKind) (s : Slot) (c : WriteCounts) (t : AppliedWrites) → Step k s c t
step (overwrite u) s c t = record { applied_step = omega arith; overwritten_step = omega arith; skipped_step = omega arith; all_step = omega arith; over_step = λ h. omega arith }
step new s c t = record { applied_step = omega arith; overwritten_step = omega arith; skipped_step = omega arith; all_step = omega arith; over_step = λ h. omega arith }
step skip s c t = record { applied_step = omega arith; overwritten_step = omega arith; skipped_step = omega arith; all_step = omega arith; over_step = λ h. omega arith }

-- Along the list --------------------------------------------------------------------------------------

-- The first i writes were applied to b, which left s, with the counts c.
pub record Along (b addresses writes s : List ℕ) (c : WriteCounts) (i : ℕ) : Type 0 where
  pub bytes_known : Bytes s
  pub installed : Installed s
  pub config_is : (store_of s).config ≡ (store_of b).config
  pub generation_is : generation_of s ≡ with_top (generation_of b) (generation_of s).top
  pub past_it : drop (store_size (store_of b).config.capacity) s ≡ drop (store_size (store_of b).config.capacity) b
  pub top_is : (seeded_in s (addresses_of addresses) (drop i (writes_of writes))).top ≡ (seeded_in b (addresses_of addresses) (writes_of writes)).top
  pub applied_is : c.applied + length (seeded_in s (addresses_of addresses) (drop i (writes_of writes))).applied_writes.applied ≡ length (seeded_in b (addresses_of addresses) (writes_of writes)).applied_writes.applied
  pub overwritten_is : c.overwritten + (seeded_in s (addresses_of addresses) (drop i (writes_of writes))).applied_writes.overwritten ≡ (seeded_in b (addresses_of addresses) (writes_of writes)).applied_writes.overwritten
  pub skipped_is : c.skipped + (seeded_in s (addresses_of addresses) (drop i (writes_of writes))).applied_writes.skipped ≡ (seeded_in b (addresses_of addresses) (writes_of writes)).applied_writes.skipped
  pub all_counted : c.applied + c.skipped ≡ i
  pub few_over : c.overwritten ≤ c.applied

pub along_start : (b addresses writes : List ℕ) → Bytes b → Installed b → Along b addresses writes b (record { applied = 0; overwritten = 0; skipped = 0 }) 0
along_start b addresses writes f h =
    record {
      bytes_known = f;
      installed = h;
      config_is = refl;
      generation_is = refl;
      past_it = refl;
      top_is = refl;
      applied_is = omega arith;
      overwritten_is = omega arith;
      skipped_is = omega arith;
      all_counted = refl;
      few_over = omega arith;
    }

-- What a write does to what is left to do.
seeded_cons : (cfg : Config) (g : Generation) (relevance : List Address) (w : Write) (ws : List Write) →
    let k : WriteKind = final_write_kind cfg.retention g.anchor.number (relevant relevance w.slot.address) (valued_use (find w.slot g.top)) (freshest_use w.slot g.base) in
    let z : SeededTop = seeded_over cfg (with_top g (apply_write g.anchor.number k w.slot w.value g.top)) relevance ws in
    seeded_over cfg g relevance (w ∷ ws) ≡ record { top = z.top; applied_writes = count_write k w.slot z.applied_writes }
unfolding seed_final_writes
seeded_cons cfg g relevance w ws = refl

seeded_nil : (cfg : Config) (g : Generation) (relevance : List Address) → seeded_over cfg g relevance [] ≡ record { top = g.top; applied_writes = record { applied = []; overwritten = 0; skipped = 0 } }
unfolding seed_final_writes
seeded_nil cfg g relevance = refl

-- The write of an entry, by the slot and the value that were read of it.
pub wrote_at : (r : Option Kind) (after s addresses : List ℕ) (t : Slot) (v : Value) (w : Write) → t ≡ w.slot → v ≡ w.value → Wrote r after s addresses t v → Wrote r after s addresses w.slot w.value
wrote_at r after s addresses t v w p q h = subst (λ (y : Value). Wrote r after s addresses w.slot y) q (subst (λ (x : Slot). Wrote r after s addresses x v) p h)

module _ (b addresses writes s : List ℕ) (c : WriteCounts) (i : ℕ) (along : Along b addresses writes s c i) where
  abbrev relevance : List Address
  relevance = addresses_of addresses

  abbrev total : SeededTop
  total = seeded_in b relevance (writes_of writes)

  abbrev write : Write
  write = write_of (drop (i * 84) writes)

  abbrev top_then : Layer
  top_then = top_after s addresses write.slot write.value

  abbrev kind_then : WriteKind
  kind_then = kind_in s addresses write.slot

  -- What the later writes leave.
  abbrev later : SeededTop
  later = seeded_over (store_of s).config (with_top (generation_of s) top_then) relevance (drop (suc i) (writes_of writes))

  now_is : i < length writes / 84 → seeded_in s relevance (drop i (writes_of writes)) ≡ record { top = later.top; applied_writes = count_write kind_then write.slot later.applied_writes }
  now_is h = ap (seeded_in s relevance) (write_at i writes h) ∙ seeded_cons (store_of s).config (generation_of s) relevance write (drop (suc i) (writes_of writes))

  -- Without room for a write there is none for what all writes leave.
  pub along_full : (r : Option Kind) (after : List ℕ) → i < length writes / 84 → Wrote r after s addresses write.slot write.value → r ≡ None → has_room_for total.top b ≡ false
  unfolding record_count
  along_full r after h wr e =
      let no : leb (record_count (top_then ∷ (generation_of s).base)) (store_of s).config.capacity ≡ false = wrote_full r after s addresses write.slot write.value wr e in
      let more : (store_of s).config.capacity < record_count (top_then ∷ (generation_of s).base) = leb-false _ _ no in
      let grown : length top_then ≤ length later.top = seed_grows _ _ relevance _ (drop (suc i) (writes_of writes)) top_then in
      let top : later.top ≡ total.top = ap (λ (z : SeededTop). z.top) (sym (now_is h)) ∙ along.top_is in
      let size : length later.top ≡ length total.top = ap length top in
      let base : record_count (generation_of s).base ≡ record_count (generation_of b).base = ap (λ (g : Generation). record_count g.base) along.generation_is in
      let cap : (store_of s).config.capacity ≡ (store_of b).config.capacity = ap (λ (x : Config). x.capacity) along.config_is in
      lt-leb (record_count (total.top ∷ (generation_of b).base)) (store_of b).config.capacity (omega arith)

  -- A write applied.
  module _ (after : List ℕ) (r : Option Kind) (what : Kind) (known : Bytes writes) (known_after : Bytes after) (h : i < length writes / 84)
      (wr : Wrote r after s addresses write.slot write.value) (e : r ≡ Some what) where
    said : (has_room_for top_then s ≡ true) × (kind_of what ≡ kind_then)
    said = wrote_done r after s addresses write.slot write.value what wr e

    again : Again after s (store_of s).config (with_top (generation_of s) top_then)
    again =
        wrote_again r after s addresses write.slot write.value what along.installed (slot_of_fits (drop (i * 84) writes) (bytes_drop (i * 84) writes known)) (u256_at_fits 52 (drop (i * 84) writes) (bytes_drop (i * 84) writes known)) wr e

    later_is : seeded_in after relevance (drop (i + 1) (writes_of writes)) ≡ later
    later_is =
        ap (λ (k : ℕ). seeded_in after relevance (drop k (writes_of writes))) (add-one i)
        ∙ ap₂ (λ (x : Config) (g : Generation). seeded_over x g relevance (drop (suc i) (writes_of writes))) again.config_is again.generation_is

    one : Step kind_then write.slot c later.applied_writes
    one = step kind_then write.slot c later.applied_writes

    counted_is : count_one (kind_of what) c ≡ count_one kind_then c
    counted_is = ap (λ (k : WriteKind). count_one k c) said.1

    stepped : Along b addresses writes after (count_one kind_then c) (i + 1)
    stepped =
        let n : seeded_in s relevance (drop i (writes_of writes)) ≡ record { top = later.top; applied_writes = count_write kind_then write.slot later.applied_writes } = now_is h in
        let size : store_size (store_of s).config.capacity ≡ store_size (store_of b).config.capacity = ap (λ (x : Config). store_size x.capacity) along.config_is in
        let past : drop (store_size (store_of b).config.capacity) after ≡ drop (store_size (store_of b).config.capacity) s = subst (λ (k : ℕ). drop k after ≡ drop k s) size again.past_it in
        record {
          bytes_known = known_after;
          installed = again.installed_still;
          config_is = again.config_is ∙ along.config_is;
          generation_is =
              again.generation_is ∙ ap (λ (x : Generation). with_top x top_then) along.generation_is
              ∙ ap (with_top (generation_of b)) (sym (ap (λ (x : Generation). x.top) again.generation_is));
          past_it = past ∙ along.past_it;
          top_is = ap (λ (z : SeededTop). z.top) later_is ∙ sym (ap (λ (z : SeededTop). z.top) n) ∙ along.top_is;
          applied_is =
              ap (λ (z : SeededTop). (count_one kind_then c).applied + length z.applied_writes.applied) later_is ∙ one.applied_step
              ∙ sym (ap (λ (z : SeededTop). c.applied + length z.applied_writes.applied) n) ∙ along.applied_is;
          overwritten_is =
              ap (λ (z : SeededTop). (count_one kind_then c).overwritten + z.applied_writes.overwritten) later_is ∙ one.overwritten_step
              ∙ sym (ap (λ (z : SeededTop). c.overwritten + z.applied_writes.overwritten) n) ∙ along.overwritten_is;
          skipped_is =
              ap (λ (z : SeededTop). (count_one kind_then c).skipped + z.applied_writes.skipped) later_is ∙ one.skipped_step
              ∙ sym (ap (λ (z : SeededTop). c.skipped + z.applied_writes.skipped) n) ∙ along.skipped_is;
          all_counted = omega (arith, one.all_step, along.all_counted);
          few_over = one.over_step along.few_over;
        }

    pub along_next : (d : WriteCounts) → d ≡ count_one (kind_of what) c → Along b addresses writes after d (i + 1)
    along_next d q = subst (λ (x : WriteCounts). Along b addresses writes after x (i + 1)) (sym (q ∙ counted_is)) stepped

  -- Past the last write.
  pub along_end : length writes / 84 ≤ i → SeededTo c s b total
  along_end h =
      let st : Store = store_of s in
      let z : seeded_in s relevance (drop i (writes_of writes)) ≡ record { top = (generation_of s).top; applied_writes = record { applied = []; overwritten = 0; skipped = 0 } } =
      ap (seeded_in s relevance) (writes_end i writes h) ∙ seeded_nil st.config (generation_of s) relevance in
      let top : (generation_of s).top ≡ total.top = ap (λ (x : SeededTop). x.top) (sym z) ∙ along.top_is in
      let gen : generation_of s ≡ with_top (generation_of b) total.top = along.generation_is ∙ ap (with_top (generation_of b)) top in
      let inst : st.installed ≡ Some (with_top (generation_of b) total.top) = along.installed.installs ∙ ap Some gen in
      let size : length (image st) ≡ store_size (store_of b).config.capacity = length_image st (decode_some s st along.installed.is_store).right ∙ ap (λ (x : Config). store_size x.capacity) along.config_is in
      let a : length (seeded_in s relevance (drop i (writes_of writes))).applied_writes.applied ≡ 0 = ap (λ (x : SeededTop). length x.applied_writes.applied) z in
      let o : (seeded_in s relevance (drop i (writes_of writes))).applied_writes.overwritten ≡ 0 = ap (λ (x : SeededTop). x.applied_writes.overwritten) z in
      let k : (seeded_in s relevance (drop i (writes_of writes))).applied_writes.skipped ≡ 0 = ap (λ (x : SeededTop). x.applied_writes.skipped) z in
      record {
        counts_are = record { applied_is = omega (arith, along.applied_is); overwritten_is = omega (arith, along.overwritten_is); skipped_is = omega (arith, along.skipped_is) };
        bytes_are =
            store_split s st along.bytes_known along.installed.is_store
            ∙ ap (λ (n : ℕ). image st ++ drop n s) size
            ∙ ap (λ (l : List ℕ). image st ++ l) along.past_it
            ∙ ap (λ (n : ℕ). image st ++ drop n b) (sym size)
            ∙ ap₂ (λ (x : Config) (o : Option Generation). image (record { config = x; installed = o }) ++ drop (length (image (record { config = x; installed = o }))) b) along.config_is inst;
        room =
            sym (ap₂ (λ (g : Generation) (x : Config). leb (record_count (chain g)) x.capacity) gen along.config_is)
            ∙ le-leb (record_count (chain (generation_of s))) st.config.capacity (generation_in s along.installed).facts.few_records;
        installed = along.installed;
        config_is = along.config_is;
        generation_is = gen;
      }
