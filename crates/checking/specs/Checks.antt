-- The checks of a store's words, each over a part of them: header, layer ends, awaiting slots, records.
use Rattle.std.specs.Prelude.{ℕ, zero, suc, ◌+◌, ◌-◌, ◌*◌, ◌^◌, ◌≤◌, Bool, true, ◌&&◌, cond, List, [], ◌∷◌, ◌++◌, map, eqb, leb, ltb, length, take, drop, get_or}
use Rattle.layout.specs.Layout.{accepted_index, awaiting_count_index, awaiting_limit, awaiting_offset, awaiting_table, awaiting_width, capacity_index, coalesced_index, depth_index, ends_limit, ends_offset, errors_index, hash_index, header_width, idle_index, installed_index, magic, max_depth_index, members_index, number_index, record_size, record_width, records_count_index, records_offset, refused_index, retention_index, rounds_index, second_waiters_index, served_index, slot_width, taken_index, valued_index, waiters_index, waiting_index}
use Rattle.model.specs.declared.delta_snapshot.Slot.{Slot}
use Rattle.model.specs.declared.delta_snapshot.Retention.{Retention}
use Rattle.model.specs.Slots.{slot_ltb}
use Rattle.model.specs.Layers.{freshest_use}
use Rattle.model.specs.Contents.{use_of, top_content_ok, read_content, content_right}
use Rattle.image.specs.WellFormed.{every}
use Rattle.image.specs.Image.{words_of, read_slot, read_record, read_retention, entries, Cut, cut}
use Rattle.rules.specs.Rules.{all_content_ok}

-- Every number of a list is 0.
unfoldable pub all_zero : List ℕ → Bool
all_zero [] = true
all_zero (x ∷ l) = eqb x 0 && all_zero l

-- Every entry passes a test.
unfoldable pub all_of : (List ℕ → Bool) → List (List ℕ) → Bool
all_of p [] = true
all_of p (e ∷ es) = p e && all_of p es

-- A flag and the words that count only with it: 0 and zeros, or 1 and any words.
unfoldable pub normal : ℕ → List ℕ → Bool
normal f l = cond (eqb f 0) (all_zero l) (eqb f 1)

-- The header -------------------------------------------------------------------------------------------

-- Words 0 to 4: the first word, capacity and depth limit within their limits, the retention.
unfoldable pub config_right : List ℕ → Bool
config_right h =
    eqb (get_or h 0 0) magic
    && (ltb 0 (get_or h capacity_index 0) && (leb (get_or h capacity_index 0) 4096 && (ltb 0 (get_or h max_depth_index 0) && (leb (get_or h max_depth_index 0) 255 && normal (get_or h retention_index 0) (get_or h idle_index 0 ∷ [])))))

-- Words 5 to 11: a generation is installed, and its anchor has a hash or zeros.
unfoldable pub anchor_right : List ℕ → Bool
anchor_right h = eqb (get_or h installed_index 0) 1 && normal (get_or h hash_index 0) (get_or h (hash_index + 1) 0 ∷ get_or h (hash_index + 2) 0 ∷ get_or h (hash_index + 3) 0 ∷ get_or h (hash_index + 4) 0 ∷ [])

-- Words 12 to 14: depth, records and awaiting slots are within their limits.
unfoldable pub counts_right : List ℕ → Bool
counts_right h = leb (get_or h depth_index 0) (get_or h max_depth_index 0) && (leb (get_or h records_count_index 0) (get_or h capacity_index 0) && leb (get_or h awaiting_count_index 0) awaiting_limit)

-- The read totals add up, with w waiters of n awaiting slots: those accepted, served, waiting, woken with a value and refused, rounds, members, member errors, coalesced.
unfoldable pub totals_add_up : ℕ → ℕ → ℕ → ℕ → ℕ → ℕ → ℕ → ℕ → ℕ → ℕ → ℕ → Bool
totals_add_up w n accepted served waiting valued refused rounds members errors coalesced =
    leb accepted 4294967295
    && (eqb accepted (served + waiting + valued + refused)
    && (eqb waiting w && (eqb (coalesced + members + n) (waiting + valued + refused) && (leb rounds members && leb errors members))))

-- Words 15 to 23.
unfoldable pub totals_right : ℕ → ℕ → List ℕ → Bool
totals_right w n h = totals_add_up w n (get_or h accepted_index 0) (get_or h served_index 0) (get_or h waiting_index 0) (get_or h valued_index 0) (get_or h refused_index 0) (get_or h rounds_index 0) (get_or h members_index 0) (get_or h errors_index 0) (get_or h coalesced_index 0)

-- The layer ends ---------------------------------------------------------------------------------------

-- Ends that never fall from a number on, and are at most n.
unfoldable pub ends_rise : ℕ → ℕ → List ℕ → Bool
ends_rise n from [] = leb from n
ends_rise n from (e ∷ es) = leb from e && ends_rise n e es

-- The ends of layers 0 to d rise to at most n, and the other words are 0.
unfoldable pub ends_right : ℕ → ℕ → List ℕ → Bool
ends_right d n l = ends_rise n 0 (take (suc d) l) && all_zero (drop (suc d) l)

-- Entries ----------------------------------------------------------------------------------------------

-- The slots of entries rise strictly, and come after the given entry's.
unfoldable pub entries_rise_from : List ℕ → List (List ℕ) → Bool
entries_rise_from e [] = true
entries_rise_from e (f ∷ es) = slot_ltb (read_slot e) (read_slot f) && entries_rise_from f es

-- The slots of entries rise strictly.
abbrev pub entries_rise : List (List ℕ) → Bool
entries_rise [] = true
entries_rise (e ∷ es) = entries_rise_from e es

-- An awaiting slot: its first word fits, it has a waiter and no more than a generation's reads, it is taken or not, and has no second number.
unfoldable pub awaiting_right : List ℕ → Bool
awaiting_right e = ltb (get_or e 0 0) (2 ^ 32) && (ltb 0 (get_or e waiters_index 0) && (leb (get_or e waiters_index 0) 4294967295 && (leb (get_or e taken_index 0) 1 && eqb (get_or e second_waiters_index 0) 0)))

-- The waiters of awaiting slots.
unfoldable pub waiters_sum : List (List ℕ) → ℕ
waiters_sum [] = 0
waiters_sum (e ∷ es) = get_or e waiters_index 0 + waiters_sum es

-- The k awaiting slots are right and rise, and the other words are 0.
unfoldable pub queue_right : ℕ → List ℕ → Bool
queue_right k l = all_of awaiting_right (entries awaiting_width k l) && (entries_rise (entries awaiting_width k l) && all_zero (drop (awaiting_width * k) l))

-- The same, and the read totals of header h add up with them.
unfoldable pub reads_right : ℕ → List ℕ → List ℕ → Bool
reads_right k h l = queue_right k l && totals_right (waiters_sum (entries awaiting_width k l)) k h

-- A record by itself: its slot's first word fits, its other words are those of a content, and its last use is not after the installed number.
unfoldable pub record_right : ℕ → List ℕ → Bool
record_right number e = ltb (get_or e 0 0) (2 ^ 32) && (content_right (drop slot_width e) && leb (use_of (read_content (drop slot_width e))) number)

-- The n records are right by themselves, and the other words are 0.
unfoldable pub area_right : ℕ → ℕ → List ℕ → Bool
area_right number n l = all_of (record_right number) (entries record_width n l) && all_zero (drop (record_width * n) l)

-- The records of each layer, and of the top, rise; the records before `from` are passed already.
unfoldable pub layers_rise : ℕ → List ℕ → List (List ℕ) → Bool
layers_rise from [] es = entries_rise es
layers_rise from (e ∷ ends) es = entries_rise (take (e - from) es) && layers_rise e ends (drop (e - from) es)

-- The n records are right by themselves and rise in their layers, of which `ends` has the ends.
unfoldable pub records_right : ℕ → ℕ → ℕ → List ℕ → List ℕ → Bool
records_right number d n ends l = area_right number n l && layers_rise 0 (take (suc d) ends) (entries record_width n l)

-- Rules across layers -----------------------------------------------------------------------------------

-- Every record of a base and its top is right over the layers below; and each record of the top without a value has a use in the base that serves.
unfoldable pub cross_right : Retention → ℕ → Cut → Bool
cross_right R number c = all_content_ok number (c.top ∷ c.base) && every (λ s k. top_content_ok R number (freshest_use s c.base) k) c.top

-- The store ---------------------------------------------------------------------------------------------

-- The layers and the top of a store's header, layer ends and records.
abbrev pub layers_of : List ℕ → List ℕ → List ℕ → Cut
layers_of h ends records = cut 0 (take (suc (get_or h depth_index 0)) ends) (map read_record (entries record_width (get_or h records_count_index 0) records)) []

-- All checks of an installed generation but the rules across layers.
unfoldable pub parts_right : List ℕ → List ℕ → List ℕ → List ℕ → Bool
parts_right h ends awaiting records =
    anchor_right h
    && (counts_right h
    && (ends_right (get_or h depth_index 0) (get_or h records_count_index 0) ends
    && (reads_right (get_or h awaiting_count_index 0) h awaiting && records_right (get_or h number_index 0) (get_or h depth_index 0) (get_or h records_count_index 0) ends records)))

-- The rules across layers.
unfoldable pub rules_right : List ℕ → List ℕ → List ℕ → Bool
rules_right h ends records = cross_right (read_retention (drop retention_index h)) (get_or h number_index 0) (layers_of h ends records)

-- All checks of a store's four parts. With nothing installed all words from word 5 on are 0.
unfoldable pub store_right : List ℕ → List ℕ → List ℕ → List ℕ → Bool
store_right h ends awaiting records =
    config_right h
    && cond (eqb (get_or h installed_index 0) 0) (all_zero (drop installed_index (h ++ (ends ++ (awaiting ++ records))))) (parts_right h ends awaiting records && rules_right h ends records)

-- In bytes ----------------------------------------------------------------------------------------------

-- The n entries of w words each that bytes begin with.
unfoldable pub rows : ℕ → ℕ → List ℕ → List (List ℕ)
rows w zero s = []
rows w (suc n) s = words_of w s ∷ rows w n (drop (8 * w) s)

-- The slots of n entries of so many bytes each.
unfoldable pub slots_of : ℕ → ℕ → List ℕ → List Slot
slots_of wide zero s = []
slots_of wide (suc n) s = read_slot (words_of slot_width s) ∷ slots_of wide n (drop wide s)

-- Slots rise strictly.
unfoldable pub slots_rise : List Slot → Bool
slots_rise [] = true
slots_rise (a ∷ []) = true
slots_rise (a ∷ b ∷ l) = slot_ltb a b && slots_rise (b ∷ l)

-- The capacity that bytes name.
abbrev pub capacity_of : List ℕ → ℕ
capacity_of s = get_or (words_of header_width s) capacity_index 0

-- Bytes whose capacity and depth limit are within their limits, and that are as long as a store of that capacity.
pub record Sized (s : List ℕ) : Type 0 where
  pub few : capacity_of s ≤ 4096
  pub shallow : get_or (words_of header_width s) max_depth_index 0 ≤ 255
  pub long : records_offset + record_size * capacity_of s ≤ length s

-- All checks of an installed generation's bytes but the rules across layers.
abbrev pub parts_in : List ℕ → Bool
parts_in s = parts_right (words_of header_width s) (words_of ends_limit (drop ends_offset s)) (words_of awaiting_table (drop awaiting_offset s)) (words_of (record_width * capacity_of s) (drop records_offset s))

-- The rules across layers, of bytes.
abbrev pub rules_in : List ℕ → Bool
rules_in s = rules_right (words_of header_width s) (words_of ends_limit (drop ends_offset s)) (words_of (record_width * capacity_of s) (drop records_offset s))

-- All checks of a store's bytes.
unfoldable pub bytes_right : List ℕ → Bool
bytes_right s = store_right (words_of header_width s) (words_of ends_limit (drop ends_offset s)) (words_of awaiting_table (drop awaiting_offset s)) (words_of (record_width * capacity_of s) (drop records_offset s))
