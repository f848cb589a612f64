-- The fields of a line. Assumes nothing.
--   fields         the fields of a line, which single spaces part; a space within quotes parts nothing
--   later          the fields behind a field, from what stands there: nothing, or a space and the other fields
--   at             the field at a place, counted from 0; an empty one where there are fewer
--   field_length   how long the first field is
use Rattle.std.specs.Prelude.{ℕ, suc, Bool, false, cond, not, ◌&&◌, List, [], ◌∷◌, ◌==◌, slice_index_or}

-- A quote opens a quotation, and the next one closes it.
abbrev pub quoting : Bool → ℕ → Bool
quoting quoted b = cond (b == 39) (not quoted) quoted

-- A space outside of quotes ends a field.
abbrev pub ends_field : Bool → ℕ → Bool
ends_field quoted b = b == 32 && not quoted

abbrev pub field_length : Bool → List ℕ → ℕ
field_length quoted [] = 0
field_length quoted (b ∷ rest) = cond (ends_field quoted b) 0 (suc (field_length (quoting quoted b) rest))

-- Fields of which the first has one more byte in front.
abbrev pub lengthened : ℕ → List (List ℕ) → List (List ℕ)
lengthened b [] = (b ∷ []) ∷ []
lengthened b (field ∷ more) = (b ∷ field) ∷ more

abbrev pub fields_from : Bool → List ℕ → List (List ℕ)
fields_from quoted [] = [] ∷ []
fields_from quoted (b ∷ rest) =
    cond (ends_field quoted b) ([] ∷ fields_from false rest) (lengthened b (fields_from (quoting quoted b) rest))

abbrev pub fields : List ℕ → List (List ℕ)
fields line = fields_from false line

abbrev pub later : List ℕ → List (List ℕ)
later [] = []
later (space ∷ line) = fields line

abbrev pub at : ℕ → List (List ℕ) → List ℕ
at k given = slice_index_or given k []
