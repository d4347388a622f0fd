-- The fold's loop: what its walk has yet to give and to count, and a turn of it.
use mathlib.Core.Path.{◌≡◌, refl, sym, ap, ap₂, ◌∙◌}
use mathlib.Core.Bool.{Bool, true, false, cond}
use mathlib.Core.List.{List, ◌++◌}
use Prim.Native.Nat.{ℕ, ◌+◌, ◌*◌, ◌≤◌, ◌<◌}
use native.Mathlib.Omega.{arith}
use lib.ListN.{length, drop, get_or, length-append}
use Rattle.layout.specs.Layout.{record_size}
use Rattle.model.specs.declared.delta_snapshot.Retention.{Retention}
use Rattle.model.specs.Layers.{Layer}
use Rattle.model.specs.Advance.{lapsed}
use Rattle.image.specs.Area.{records_of}
use Rattle.order.specs.Index.{numbers, no_record, up_from, Ordered}
use Rattle.order.proofs.RecordLaws.{Bytes}
use Rattle.rules.specs.Rules.{group, freshest, oldest_use}
use Rattle.order.specs.Walk.{last_of}
use Rattle.order.proofs.WalkLaws.{walk}
use Rattle.counts.proofs.SlotCounts.{walk_slots}
use Rattle.counts.proofs.CountLaws.{served}
use Rattle.fold.specs.Fold.{folded, dropped_in}
use Rattle.fold.specs.Stored.{stored, Stored}
use Rattle.fold.proofs.EmitLaws.{emit, emit_last, emit_more, fold_says}
use Rattle.fold.proofs.BestLaws.{Best, begin, better, betters, gives, drops, gives_is, drops_is}
use Rattle.fold.proofs.StoredLaws.{settled_then}

-- What is gathered, by the place of the newest record with a value.
abbrev pub gathered : Layer → Bool → ℕ → ℕ → Best
gathered rs any low at = record { any = any; low = low; best = get_or rs at no_record }

-- The records that the walk has yet to give, and the number of slots that it has yet to drop.
abbrev pub to_give : ℕ → ℕ → List ℕ → Best → List ℕ → Layer
to_give least n s a xs = emit (betters (records_of n s)) (begin (records_of n s)) (gives least) (numbers n s) a xs

abbrev pub to_drop : ℕ → ℕ → List ℕ → Best → List ℕ → ℕ
to_drop least n s a xs = walk (betters (records_of n s)) (begin (records_of n s)) (drops least) (numbers n s) a xs

-- Over the whole index they are the fold's layer, and the number of slots that it drops.
module _ (R : Retention) (now n : ℕ) (s ix : List ℕ) (b : Bytes s) (h : n * record_size ≤ length s) (o : Ordered (numbers n s) (up_from 0 n) ix) where
  pub gives_all : to_give (oldest_use R now) n s (begin (records_of n s)) ix ≡ folded R now (records_of n s)
  gives_all = fold_says R now better (begin (records_of n s)) (gives (oldest_use R now)) n s ix b h o (λ u. gives_is R now (records_of n s) u)

  pub drops_all : to_drop (oldest_use R now) n s (begin (records_of n s)) ix ≡ dropped_in R now (records_of n s)
  unfolding dropped_in
  drops_all =
      walk_slots better (begin (records_of n s)) (drops (oldest_use R now)) (λ u. lapsed R now (freshest (group u (records_of n s)))) n s ix b h o
      (λ u m. drops_is R now (records_of n s) u m)

-- The record chosen.
pub choose_le : (b : Bool) (x y m : ℕ) → x ≤ m → y ≤ m → cond b x y ≤ m
choose_le true x y m h k = h
choose_le false x y m h k = k

pub choose_best : (rs : Layer) (b : Bool) (x y : ℕ) → get_or rs (cond b x y) no_record ≡ cond b (get_or rs x no_record) (get_or rs y no_record)
choose_best rs true x y = refl
choose_best rs false x y = refl

-- A turn, of the layer: at the last number of a slot what is left of it is stored, at another nothing.
module _ (least n : ℕ) (s ix : List ℕ) (a : Best) (j : ℕ) (h : j < length ix) (c d m : ℕ) (out₀ out whole : List ℕ) (b b' : Best)
    (ea : b ≡ betters (records_of n s) a (get_or ix j 0)) (few : c + length (to_give least n s a (drop j ix)) ≡ m) (inv : stored c (to_give least n s a (drop j ix)) out₀ ≡ whole) where
  pub fold_last : b' ≡ begin (records_of n s) → last_of (numbers n s) (drop j ix) ≡ true → Stored c d (gives least b) out₀ out → (c + 1) * record_size ≤ length out₀
      → (d + length (to_give least n s b' (drop (j + 1) ix)) ≡ m) × (stored d (to_give least n s b' (drop (j + 1) ix)) out ≡ whole)
  fold_last eb q p k =
      let rs : Layer = records_of n s in
      let rest : Layer = to_give least n s (begin rs) (drop (j + 1) ix) in
      let r : to_give least n s b' (drop (j + 1) ix) ≡ rest = ap (λ (x : Best). to_give least n s x (drop (j + 1) ix)) eb in
      let e : to_give least n s a (drop j ix) ≡ gives least b ++ rest = emit_last (betters rs) (begin rs) (gives least) (numbers n s) ix a j h q ∙ ap (λ (x : Best). gives least x ++ rest) (sym ea) in
      let l : length (to_give least n s a (drop j ix)) ≡ length (gives least b) + length rest = ap length e ∙ length-append (gives least b) rest in (
        ap (λ (x : Layer). d + length x) r ∙ omega (arith, p.next_is),
        ap (λ (x : Layer). stored d x out) r ∙ settled_then (served least b.any b.low) b.low c d b.best rest out₀ out p k ∙ ap (λ (x : Layer). stored c x out₀) (sym e) ∙ inv,
      )

  pub fold_more : b' ≡ b → last_of (numbers n s) (drop j ix) ≡ false → d ≡ c → out ≡ out₀
      → (d + length (to_give least n s b' (drop (j + 1) ix)) ≡ m) × (stored d (to_give least n s b' (drop (j + 1) ix)) out ≡ whole)
  fold_more eb q ed eo =
      let rs : Layer = records_of n s in
      let e : to_give least n s b' (drop (j + 1) ix) ≡ to_give least n s a (drop j ix) =
      ap (λ (x : Best). to_give least n s x (drop (j + 1) ix)) (eb ∙ ea) ∙ sym (emit_more (betters rs) (begin rs) (gives least) (numbers n s) ix a j h q) in (
        ap₂ (λ (x : ℕ) (l : Layer). x + length l) ed e ∙ few,
        ap₂ (λ (x : ℕ) (l : Layer). stored x l out) ed e ∙ ap (stored c (to_give least n s a (drop j ix))) eo ∙ inv,
      )
