-- The bits of the word of flags are the flags.
use Rattle.std.proofs.Common.{◌≡◌, ◌<◌, sym, ◌∙◌, ap, arith}
use Rattle.std.proofs.lemmas.Bool.Decides.{nat_tests}
use Rattle.logfmt.specs.declared.flags.Flags.{Flags}
use Rattle.logfmt.specs.Flags.{flag_word, has_bit}

-- each flag is its bit of the word of flags
pub flag_flush : (f : Flags) → f.flush ≡ has_bit (flag_word f) 1
unfolding flag_word has_bit
flag_flush f = grind (arith, nat_tests)

pub flag_fua : (f : Flags) → f.fua ≡ has_bit (flag_word f) 2
unfolding flag_word has_bit
flag_fua f = grind (arith, nat_tests)

pub flag_discard : (f : Flags) → f.discard ≡ has_bit (flag_word f) 4
unfolding flag_word has_bit
flag_discard f = grind (arith, nat_tests)

pub flag_mark : (f : Flags) → f.mark ≡ has_bit (flag_word f) 8
unfolding flag_word has_bit
flag_mark f = grind (arith, nat_tests)

pub flag_metadata : (f : Flags) → f.metadata ≡ has_bit (flag_word f) 16
unfolding flag_word has_bit
flag_metadata f = grind (arith, nat_tests)

-- a word of flags has no bit above 16
pub flag_word-lt : (f : Flags) → flag_word f < 32
unfolding flag_word
flag_word-lt f = grind arith

-- flags with one word are the same
pub same_flags : (f g : Flags) → flag_word f ≡ flag_word g → f ≡ g
same_flags f g h =
    let flush : f.flush ≡ g.flush = flag_flush f ∙ ap (λ w. has_bit w 1) h ∙ sym (flag_flush g) in
    let fua : f.fua ≡ g.fua = flag_fua f ∙ ap (λ w. has_bit w 2) h ∙ sym (flag_fua g) in
    let discard : f.discard ≡ g.discard = flag_discard f ∙ ap (λ w. has_bit w 4) h ∙ sym (flag_discard g) in
    let mark : f.mark ≡ g.mark = flag_mark f ∙ ap (λ w. has_bit w 8) h ∙ sym (flag_mark g) in
    let metadata : f.metadata ≡ g.metadata = flag_metadata f ∙ ap (λ w. has_bit w 16) h ∙ sym (flag_metadata g) in
    λ i. record { flush = flush i; fua = fua i; discard = discard i; mark = mark i; metadata = metadata i }
