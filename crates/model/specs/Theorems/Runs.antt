-- Runs of entries: what is read from a part of the attribute table as a list, and the table with such a list stored. The laws are in
-- proofs/Theorems/Runs.antt.
use Prim.Native.Nat.{ℕ, zero, suc, ◌+◌, ◌*◌}
use Rattle.std.specs.Prelude.{List, [], ◌∷◌}
use Rattle.std.proofs.lemmas.List.Edits.{sets}
use Rattle.model.specs.Tables.{Tree, Entry, entries_words, entry_at}

-- The tree of an attribute table alone.
abbrev pub table_of : List ℕ → Tree
table_of ats = record { nodes = []; attributes = ats; text = []; node_count = 0; attribute_count = 0; text_count = 0 }

-- The k entries from entry n on.
unfoldable pub entries_from : List ℕ → ℕ → ℕ → List Entry
entries_from ats n zero = []
entries_from ats n (suc k) = entry_at (table_of ats) n ∷ entries_from ats (n + 1) k

-- The table with these entries from entry n on.
unfoldable pub with_run : List ℕ → ℕ → List Entry → List ℕ
with_run ats n es = sets ats (5 * n) (entries_words es)
