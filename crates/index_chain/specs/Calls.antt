-- What the calls on chains write, and what they leave of the words.
use Rattle.std.specs.Prelude.{ℕ, List, [], ◌∷◌, Option}
use Rattle.index_chain.specs.Walks.{Words, with_next}

-- the last item of a list has another next item; without an item all stays
unfoldable pub with_end : Words → List ℕ → Option ℕ → Words
with_end words [] to = words
with_end words (i ∷ []) to = with_next words i to
with_end words (i ∷ j ∷ is) to = with_end words (j ∷ is) to

-- The words after one chain was joined to another: where both have items, the last one of the first is followed by the first one of the second.
abbrev pub joined : Words → List ℕ → List ℕ → Option ℕ → Words
joined words front [] to = words
joined words front (j ∷ js) to = with_end words front to

-- the writes of these changes: one, to the last item, or none without it
unfoldable pub end_write : List ℕ → Option ℕ → List (ℕ × Option ℕ)
end_write [] to = []
end_write (i ∷ []) to = (i, to) ∷ []
end_write (i ∷ j ∷ is) to = end_write (j ∷ is) to

abbrev pub join_write : List ℕ → List ℕ → Option ℕ → List (ℕ × Option ℕ)
join_write front [] to = []
join_write front (j ∷ js) to = end_write front to
