-- What the tests of a well-formed store say, as facts by name.
use Prim.Native.Nat.{suc, ◌+◌, ◌≤◌, ◌<◌}
use mathlib.Core.Path.{◌≡◌}
use mathlib.Core.Bool.{Bool, true, ◌&&◌}
use mathlib.Core.List.{List}
use lib.Dec.{eqb, leb, ltb}
use lib.ListN.{length}
use borrow.Author.Tests.{eqb-true, leb-true, ltb-true}
use Rattle.model.specs.declared.read_hub.ReadTotals.{ReadTotals}
use Rattle.model.specs.Layers.{record_count}
use Rattle.model.specs.Reads.{Pending}
use Rattle.model.specs.Store.{Config, Generation, Store, chain}
use Rattle.model.proofs.SlotLaws.{and_left, and_right}
use Rattle.image.specs.WellFormed.{anchor_fits, retention_fits, chain_ok, records_ok, pending_ok, all_waiters, totals_ok, config_ok, sizes_ok, generation_ok, installed_ok, well_formed}

-- Capacity and depth are within their limits, and the retention fits.
pub record ConfigFacts (cfg : Config) : Type 0 where
  pub capacity_limit : cfg.capacity ≤ 4096
  pub depth_limit : cfg.max_depth ≤ 255
  pub retention_fit : retention_fits cfg.retention ≡ true

config_facts : (cfg : Config) → config_ok cfg ≡ true → ConfigFacts cfg
unfolding config_ok
config_facts cfg e =
    let c : Bool = leb cfg.capacity 4096 in
    let d : Bool = leb cfg.max_depth 255 in
    let z : Bool = ltb 0 cfg.max_depth in
    let r : Bool = retention_fits cfg.retention in
    let e₁ : (c && (z && (d && r))) ≡ true = and_right (ltb 0 cfg.capacity) _ e in
    let e₂ : (d && r) ≡ true = and_right z _ (and_right c _ e₁) in
    record { capacity_limit = leb-true _ _ (and_left c _ e₁); depth_limit = leb-true _ _ (and_left d _ e₂); retention_fit = and_right d _ e₂ }

-- The totals add up, so that none exceeds the accepted reads, and neither do the waiters.
pub record TotalsFacts (q : List Pending) (t : ReadTotals) : Type 0 where
  pub accepted_limit : t.accepted ≤ 4294967295
  pub adds_up : t.accepted ≡ t.served + t.waiting + t.valued + t.refused
  pub waiting_is : t.waiting ≡ all_waiters q
  pub members_are : t.coalesced + t.members + length q ≡ t.waiting + t.valued + t.refused
  pub rounds_limit : t.rounds ≤ t.members
  pub errors_limit : t.errors ≤ t.members

totals_facts : (q : List Pending) (t : ReadTotals) → totals_ok q t ≡ true → TotalsFacts q t
unfolding totals_ok
totals_facts q t e =
    let a : Bool = leb t.accepted 4294967295 in
    let b : Bool = eqb t.accepted (t.served + t.waiting + t.valued + t.refused) in
    let c : Bool = eqb t.waiting (all_waiters q) in
    let d : Bool = eqb (t.coalesced + t.members + length q) (t.waiting + t.valued + t.refused) in
    let x : Bool = leb t.rounds t.members in
    let y : Bool = leb t.errors t.members in
    let e₁ : (b && (c && (d && (x && y)))) ≡ true = and_right a _ e in
    let e₂ : (c && (d && (x && y))) ≡ true = and_right b _ e₁ in
    let e₃ : (d && (x && y)) ≡ true = and_right c _ e₂ in
    let e₄ : (x && y) ≡ true = and_right d _ e₃ in
    record {
      accepted_limit = leb-true _ _ (and_left a _ e);
      adds_up = eqb-true _ _ (and_left b _ e₁);
      waiting_is = eqb-true _ _ (and_left c _ e₂);
      members_are = eqb-true _ _ (and_left d _ e₃);
      rounds_limit = leb-true _ _ (and_left x _ e₄);
      errors_limit = leb-true _ _ (and_right x _ e₄);
    }

-- The anchor, the records and the awaiting slots are right, and there is room for them.
pub record GenerationFacts (cfg : Config) (g : Generation) : Type 0 where
  pub anchor_fit : anchor_fits g.anchor ≡ true
  pub chain_right : chain_ok g.anchor.number (chain g) ≡ true
  pub some_layer : 0 < length g.base
  pub few_layers : length g.base ≤ suc cfg.max_depth
  pub few_records : record_count (chain g) ≤ cfg.capacity
  pub pending_right : pending_ok g.pending ≡ true
  pub few_pending : length g.pending ≤ 64
  pub totals_add_up : TotalsFacts g.pending g.totals

pub generation_facts : (cfg : Config) (g : Generation) → generation_ok cfg g ≡ true → GenerationFacts cfg g
unfolding generation_ok records_ok sizes_ok
generation_facts cfg g e =
    let a : Bool = anchor_fits g.anchor in
    let r : Bool = records_ok cfg.retention g in
    let s : Bool = sizes_ok cfg g in
    let p : Bool = pending_ok g.pending in
    let f : Bool = leb (length g.pending) 64 in
    let t : Bool = totals_ok g.pending g.totals in
    let e₁ : (r && (s && (p && (f && t)))) ≡ true = and_right a _ e in
    let e₂ : (s && (p && (f && t))) ≡ true = and_right r _ e₁ in
    let e₃ : (p && (f && t)) ≡ true = and_right s _ e₂ in
    let e₄ : (f && t) ≡ true = and_right p _ e₃ in
    let u : Bool = ltb 0 (length g.base) in
    let v : Bool = leb (length g.base) (suc cfg.max_depth) in
    let w : Bool = leb (record_count (chain g)) cfg.capacity in
    let k : (u && (v && w)) ≡ true = and_left s _ e₂ in
    let m : (v && w) ≡ true = and_right u _ k in
    record {
      anchor_fit = and_left a _ e;
      chain_right = and_left (chain_ok g.anchor.number (chain g)) _ (and_left r _ e₁);
      some_layer = ltb-true _ _ (and_left u _ k);
      few_layers = leb-true _ _ (and_left v _ m);
      few_records = leb-true _ _ (and_right v _ m);
      pending_right = and_left p _ e₃;
      few_pending = leb-true _ _ (and_left f _ e₄);
      totals_add_up = totals_facts g.pending g.totals (and_right f _ e₄);
    }

-- What the open set is right, and so is what is installed.
pub record StoreFacts (st : Store) : Type 0 where
  pub config_right : ConfigFacts st.config
  pub installed_right : installed_ok st.config st.installed ≡ true

pub store_facts : (st : Store) → well_formed st ≡ true → StoreFacts st
unfolding well_formed
store_facts st e =
    let c : Bool = config_ok st.config in
    record { config_right = config_facts st.config (and_left c _ e); installed_right = and_right c _ e }
