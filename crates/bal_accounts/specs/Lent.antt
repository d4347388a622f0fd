-- The walk over the accounts of lent lists: the room that it asks for, and what it has done.
use Rattle.std.specs.Prelude.{List, ℕ, ◌*◌, ◌/◌, ◌≤◌, length}
use Rattle.bal_plan.specs.declared.Plan.{Plan}
use Rattle.bal_plan.specs.Plan.{limit_of}
use Rattle.bal_plan.specs.Lent.{lent_plan}
use Rattle.bal_accounts.specs.declared.BalLists.{BalLists}
use Rattle.bal_accounts.specs.declared.Walk.{Walk}
use Rattle.bal_accounts.specs.Walking.{AccountsSeeded}

-- An output has room for a write of each listed slot, of 84 bytes; another for each listed read, of 52.
abbrev pub RoomForWrites : BalLists → List ℕ → Type 0
RoomForWrites l wo = length l.slots.now / 40 * 84 ≤ length wo

abbrev pub RoomForReads : BalLists → List ℕ → Type 0
RoomForReads l ro = length l.reads.now / 32 * 52 ≤ length ro

-- From walk v at account i to walk w the next n accounts of the lists were walked under a lent plan.
abbrev pub Walked : BalLists → Plan → ℕ → ℕ → Walk → List ℕ → List ℕ → Walk → List ℕ → List ℕ → Type 0
Walked l p i n v wo ro w wo' ro' =
    AccountsSeeded (lent_plan p) l.accounts.now l.slots.now l.changes.now l.reads.now (limit_of p.max_writes) (limit_of p.max_reads) i n v wo ro w wo' ro'
