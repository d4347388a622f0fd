-- What a record holds. Only here is it looked into: its last use, its value, what a use and a write make of it, its rules, its words.
use Rattle.std.specs.Prelude.{ℕ, max, Bool, true, false, ◌&&◌, ◌||◌, cond, List, [], ◌∷◌, ◌++◌, eqb, leb, drop, get_or, None, Option, Some, is_some}
use Rattle.model.specs.Slots.{Value, LastUse, words_eqb, u256_words, read_u256, fits_64, u256_fits, Retention, serves}
pub use Rattle.model.specs.declared.delta_snapshot.Content.{Content}

-- What may be missing ---------------------------------------------------------------------------------

-- The first of two if it is there, else the second.
abbrev pub or_else : {A : Type 0} → Option A → Option A → Option A
or_else None b = b
or_else (Some a) b = Some a

-- The larger of two numbers, each of which may be missing.
abbrev pub max_option : Option ℕ → Option ℕ → Option ℕ
max_option None b = b
max_option (Some a) None = Some a
max_option (Some a) (Some b) = Some (max a b)

-- A content -------------------------------------------------------------------------------------------

-- The last use alone.
abbrev pub use_only : LastUse → Content
use_only u = record { used = u; held = None }

-- The last use, and the value.
abbrev pub valued : LastUse → Value → Content
valued u v = record { used = u; held = Some v }

-- A record's last use, its value or none, and whether it has one.
abbrev pub use_of : Content → LastUse
use_of c = c.used

abbrev pub own_value : Content → Option Value
own_value c = c.held

abbrev pub has_value : Content → Bool
has_value c = is_some (own_value c)

-- The last use that a slot's record has, if there is a record.
abbrev pub last_use_of : Option Content → Option LastUse
last_use_of None = None
last_use_of (Some c) = Some (use_of c)

-- The value that it has, or none.
abbrev pub value_of : Option Content → Option Value
value_of None = None
value_of (Some c) = own_value c

-- The last use of a record that has a value, or none.
abbrev pub valued_use : Option Content → Option LastUse
valued_use None = None
valued_use (Some c) = cond (has_value c) (Some (use_of c)) None

-- What a record holds after a use at `now` (`touch`): the value stays.
abbrev pub touch : ℕ → Option Content → Content
touch now None = use_only now
touch now (Some c) = record { used = now; held = c.held }

-- Its rules -------------------------------------------------------------------------------------------

-- A value, if there is one, fits the code's type.
abbrev pub value_fits : Option Value → Bool
value_fits None = true
value_fits (Some v) = u256_fits v

abbrev pub content_fits : Content → Bool
content_fits c = fits_64 (use_of c) && value_fits (own_value c)

-- A use, if there is one, is at most a number.
abbrev pub at_most : Option LastUse → ℕ → Bool
at_most None n = true
at_most (Some u) n = leb u n

-- A record over the layers below, of their held value h and freshest use f: a record without a value has a valued one of its slot in a lower layer; its last use is not below theirs and does not exceed the installed number.
abbrev pub content_ok : ℕ → Option Value → Option LastUse → Content → Bool
content_ok now h f c = (has_value c || is_some h) && (at_most f (use_of c) && leb (use_of c) now)

-- A record of the top without a value: its freshest use in the base serves at the installed number.
abbrev pub use_serves : Retention → ℕ → Option LastUse → Bool
use_serves R now None = false
use_serves R now (Some u) = serves R u now

abbrev pub top_content_ok : Retention → ℕ → Option LastUse → Content → Bool
top_content_ok R now f c = has_value c || use_serves R now f

-- Its words -------------------------------------------------------------------------------------------

-- The flag of a value, and the value's words.
abbrev pub value_words : Option Value → List ℕ
value_words None = 0 ∷ 0 ∷ 0 ∷ 0 ∷ 0 ∷ []
value_words (Some v) = 1 ∷ u256_words v

-- The last word has room for a second last use.
abbrev pub content_words : Content → List ℕ
content_words c = use_of c ∷ (value_words (own_value c) ++ (0 ∷ []))

abbrev pub read_content : List ℕ → Content
read_content l = record { used = get_or l 0 0; held = cond (eqb (get_or l 1 0) 0) None (Some (read_u256 (drop 2 l))) }

-- Whether words are those of the content that they are read as.
abbrev pub content_right : List ℕ → Bool
content_right l = words_eqb l (content_words (read_content l))
