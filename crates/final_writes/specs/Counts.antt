-- The counts of a seed, of the walk over the accounts.
use Rattle.std.specs.Prelude.{ℕ, ◌+◌, ◌-◌, min}
use Rattle.bal_accounts.specs.declared.Walk.{Walk}
use Rattle.final_writes.specs.declared.SeedCounts.{SeedCounts}

-- The counts of the seed, of the entries found and the limits.
abbrev pub counts_of : Walk → ℕ → ℕ → SeedCounts
counts_of w max_writes max_reads =
    let writes : ℕ = min w.writes max_writes in
    let reads : ℕ = min w.reads max_reads in
    record { writes = writes; reads = reads; filtered = w.filtered; capped = (w.writes - writes) + (w.reads - reads) }
