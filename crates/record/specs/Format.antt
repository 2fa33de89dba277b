-- The formats of a plan (document 01, "A plan's bytes"; document 02, Note 2).
use Rattle.std.specs.Prelude.{ℕ, ◌+◌}
use Rattle.record.specs.declared.Format.{Format}

-- the bytes of a word
abbrev pub word_length : ℕ
word_length = 2

-- Note 2: "rules of ten bytes .. the fifth word is the label's high part": the bytes of the fifth word, which narrow rules lack
unfoldable pub high_length : Format → ℕ
high_length Format.Narrow = 0
high_length Format.Wide = 2

-- "n rules of 8 bytes"; Note 2: "rules of ten bytes"
abbrev pub length_of_record : Format → ℕ
length_of_record f = 8 + high_length f

-- "A rule is four 16-bit words"; Note 2: "the fifth word"
unfoldable pub record_words : Format → ℕ
record_words Format.Narrow = 4
record_words Format.Wide = 5

-- Note 2: "Labels go to 16,777,215"
abbrev pub largest_label : ℕ
largest_label = 16777215

-- "A label is 0 to 255", and in a wide plan to the largest
unfoldable pub most_label : Format → ℕ
most_label Format.Narrow = 255
most_label Format.Wide = largest_label

-- the bytes of a label; Note 2: "a wide label as three bytes"
abbrev pub label_length : Format → ℕ
label_length f = 1 + high_length f
