-- Where everything in a store stands: every offset and width, in words of eight bytes and in bytes (docs/LAYOUT.md). Names in `-width`, `-table` and `-index` count words, names in `-size` and `-offset` bytes.
use Rattle.std.specs.Prelude.{ℕ, ◌+◌, ◌-◌, ◌*◌}

-- Widths ------------------------------------------------------------------------------------------------

-- The words of a slot: the address in three, the index in four.
abbrev pub slot_width : ℕ
slot_width = 7

-- The words of a record, and of an awaiting slot.
abbrev pub record_width : ℕ
record_width = 14

abbrev pub awaiting_width : ℕ
awaiting_width = 10

-- Their bytes.
abbrev pub slot_size : ℕ
slot_size = 8 * slot_width

abbrev pub record_size : ℕ
record_size = 8 * record_width

abbrev pub awaiting_size : ℕ
awaiting_size = 8 * awaiting_width

-- The bytes of a record after its slot.
abbrev pub content_size : ℕ
content_size = record_size - slot_size

-- The words of the header; of them those that the open sets come first.
abbrev pub header_width : ℕ
header_width = 24

abbrev pub config_width : ℕ
config_width = 5

-- The rest of the header; and of it what comes after the anchor: depth, numbers of records and awaiting slots, totals.
abbrev pub generation_width : ℕ
generation_width = 19

abbrev pub counts_width : ℕ
counts_width = 12

-- The read totals.
abbrev pub totals_width : ℕ
totals_width = 9

-- There is room for so many layer ends, a word each, and for so many awaiting slots.
abbrev pub ends_limit : ℕ
ends_limit = 256

abbrev pub awaiting_limit : ℕ
awaiting_limit = 64

-- The words of all awaiting slots, and of both tables.
abbrev pub awaiting_table : ℕ
awaiting_table = awaiting_limit * awaiting_width

abbrev pub table_width : ℕ
table_width = ends_limit + awaiting_table

-- The bytes of the layer ends, and of the awaiting slots.
abbrev pub ends_size : ℕ
ends_size = 8 * ends_limit

abbrev pub awaiting_table_size : ℕ
awaiting_table_size = 8 * awaiting_table

-- The first word of every store: the letters `poxilme` and the layout's number.
abbrev pub magic : ℕ
magic = 0x706f78696c6d6502

-- The header's words ------------------------------------------------------------------------------------

abbrev pub capacity_index : ℕ
capacity_index = 1

abbrev pub max_depth_index : ℕ
max_depth_index = 2

-- The retention has two words: unbounded or idle, and the idle number.
abbrev pub retention_index : ℕ
retention_index = 3

abbrev pub idle_index : ℕ
idle_index = 4

-- Whether a generation is installed.
abbrev pub installed_index : ℕ
installed_index = 5

-- The anchor: its number, and five words for the hash or none.
abbrev pub number_index : ℕ
number_index = 6

abbrev pub hash_index : ℕ
hash_index = 7

-- The depth of the base, the number of records, and of awaiting slots.
abbrev pub depth_index : ℕ
depth_index = 12

abbrev pub records_count_index : ℕ
records_count_index = 13

abbrev pub awaiting_count_index : ℕ
awaiting_count_index = 14

-- Nine read totals, from this one on.
abbrev pub totals_index : ℕ
totals_index = 15

abbrev pub accepted_index : ℕ
accepted_index = totals_index

abbrev pub served_index : ℕ
served_index = totals_index + 1

abbrev pub waiting_index : ℕ
waiting_index = totals_index + 2

abbrev pub valued_index : ℕ
valued_index = totals_index + 3

abbrev pub refused_index : ℕ
refused_index = totals_index + 4

abbrev pub rounds_index : ℕ
rounds_index = totals_index + 5

abbrev pub members_index : ℕ
members_index = totals_index + 6

abbrev pub errors_index : ℕ
errors_index = totals_index + 7

abbrev pub coalesced_index : ℕ
coalesced_index = totals_index + 8

-- The tables --------------------------------------------------------------------------------------------

-- Where layer ends, awaiting slots and records begin.
abbrev pub ends_index : ℕ
ends_index = header_width

abbrev pub awaiting_index : ℕ
awaiting_index = ends_index + ends_limit

abbrev pub records_index : ℕ
records_index = awaiting_index + awaiting_table

-- The same places in bytes ------------------------------------------------------------------------------

abbrev pub capacity_offset : ℕ
capacity_offset = 8 * capacity_index

abbrev pub max_depth_offset : ℕ
max_depth_offset = 8 * max_depth_index

abbrev pub retention_offset : ℕ
retention_offset = 8 * retention_index

abbrev pub idle_offset : ℕ
idle_offset = 8 * idle_index

abbrev pub installed_offset : ℕ
installed_offset = 8 * installed_index

abbrev pub number_offset : ℕ
number_offset = 8 * number_index

abbrev pub hash_offset : ℕ
hash_offset = 8 * hash_index

abbrev pub depth_offset : ℕ
depth_offset = 8 * depth_index

abbrev pub records_count_offset : ℕ
records_count_offset = 8 * records_count_index

abbrev pub awaiting_count_offset : ℕ
awaiting_count_offset = 8 * awaiting_count_index

abbrev pub totals_offset : ℕ
totals_offset = 8 * totals_index

abbrev pub accepted_offset : ℕ
accepted_offset = 8 * accepted_index

abbrev pub served_offset : ℕ
served_offset = 8 * served_index

abbrev pub waiting_offset : ℕ
waiting_offset = 8 * waiting_index

abbrev pub valued_offset : ℕ
valued_offset = 8 * valued_index

abbrev pub refused_offset : ℕ
refused_offset = 8 * refused_index

abbrev pub rounds_offset : ℕ
rounds_offset = 8 * rounds_index

abbrev pub members_offset : ℕ
members_offset = 8 * members_index

abbrev pub errors_offset : ℕ
errors_offset = 8 * errors_index

abbrev pub coalesced_offset : ℕ
coalesced_offset = 8 * coalesced_index

abbrev pub ends_offset : ℕ
ends_offset = 8 * ends_index

abbrev pub awaiting_offset : ℕ
awaiting_offset = 8 * awaiting_index

abbrev pub records_offset : ℕ
records_offset = 8 * records_index

-- A record's and an awaiting slot's words ---------------------------------------------------------------

-- After the slot a record has its last use, whether it has a value, the value, and room for a second last use.
abbrev pub last_use_index : ℕ
last_use_index = 7

abbrev pub has_index : ℕ
has_index = 8

abbrev pub value_index : ℕ
value_index = 9

abbrev pub second_use_index : ℕ
second_use_index = 13

-- After the slot an awaiting slot has its waiters, whether it is taken, and room for a second number of waiters.
abbrev pub waiters_index : ℕ
waiters_index = 7

abbrev pub taken_index : ℕ
taken_index = 8

abbrev pub second_waiters_index : ℕ
second_waiters_index = 9

-- The same in bytes.
abbrev pub last_use_offset : ℕ
last_use_offset = 8 * last_use_index

abbrev pub has_offset : ℕ
has_offset = 8 * has_index

abbrev pub value_offset : ℕ
value_offset = 8 * value_index

abbrev pub waiters_offset : ℕ
waiters_offset = 8 * waiters_index

abbrev pub taken_offset : ℕ
taken_offset = 8 * taken_index

abbrev pub second_waiters_offset : ℕ
second_waiters_offset = 8 * second_waiters_index
