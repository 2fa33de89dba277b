-- Cell 0: "Cell 0 holds the number k of used cells", and "Word 1 of cell 0 holds 0 for the start rule, or a rule number plus one" (document
-- 02, Note 10).
use Rattle.forest.specs.Place.{Cell}
use Rattle.place_store.specs.declared.Head.{Head}

-- cell 0 by its words
abbrev pub head_of : Cell → Head
head_of c = record { used = c.0; word = c.1; two = c.2; three = c.3 }
