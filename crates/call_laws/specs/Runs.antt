-- The calls of a call list on lent bytes: each call finds the bytes as the last one left them.
use Rattle.std.specs.Prelude.{ℕ, List, map}
use Rattle.image.specs.Image.{BytesCall}
use Rattle.call_list.specs.Listed.{OpenLimits, ListedCall}
use Rattle.call_list.specs.Meaning.{meaning}

-- The meaning of calls, where d are the limits of an open of byte 0, each lent a work area of w bytes and an output of e entries.
abbrev pub lent_each : OpenLimits → ℕ → ℕ → List ListedCall → List BytesCall
lent_each d w e cs = map (λ c. record { call = meaning d c; work_bytes = w; output_entries = e }) cs
