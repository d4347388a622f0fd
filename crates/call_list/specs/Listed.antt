-- What a call list says: each call as its bytes give it. What it asks of a store is its meaning (Meaning.antt).
use Rattle.std.specs.Prelude.{ℕ}
use Rattle.model.specs.declared.delta_snapshot.Retention.{Retention}
use Rattle.model.specs.Store.{StoreCall}

-- What an open may name beside its capacity: depth limit and retention.
pub record OpenLimits : Type 0 where
  pub max_depth : ℕ
  pub retention : Retention

-- Every call: an open of byte 0, with its capacity; an open of byte 1, which names its limits too; or a call of demand 3.
pub data ListedCall : Type 0 where
  open_default : ℕ → ListedCall
  open_with : ℕ → OpenLimits → ListedCall
  on_store : StoreCall → ListedCall
