-- The flags of an entry as the bits of a word (docs/LOG-FORMAT.md, Flags).
use Rattle.std.specs.Prelude.{ℕ, ◌+◌, ◌/◌, ◌%◌, ◌==◌, Bool, if◌then◌else◌}
use Rattle.logfmt.specs.declared.flags.Flags.{Flags}

-- the value of a flag that has this bit, where it is set
abbrev pub worth : Bool → ℕ → ℕ
worth flag bit = if flag then bit else 0

-- the word whose bits these flags are
unfoldable pub flag_word : Flags → ℕ
flag_word f = worth f.flush 1 + worth f.fua 2 + worth f.discard 4 + worth f.mark 8 + worth f.metadata 16

-- whether a word has this bit, a power of two
unfoldable pub has_bit : ℕ → ℕ → Bool
has_bit word bit = word / bit % 2 == 1
