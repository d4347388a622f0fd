-- What a listed call asks of a store.
use Rattle.model.specs.declared.delta_snapshot.Retention.TheVariants.{Unbounded}
use Rattle.model.specs.Store as store
use Rattle.call_list.specs.Listed.{OpenLimits, ListedCall, open_default, open_with, on_store}

-- The limits of an open of byte 0: depth 8 and unbounded.
abbrev pub default_limits : OpenLimits
default_limits = record { max_depth = 8; retention = Unbounded }

-- The store's call that each stands for, where d are the limits of an open of byte 0.
abbrev pub meaning : OpenLimits → ListedCall → store.Call
meaning d (open_default c) = store.open_store c d.max_depth d.retention
meaning d (open_with c l) = store.open_store c l.max_depth l.retention
meaning d (on_store c) = store.on_store c
