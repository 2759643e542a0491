-- Lists of entries, cut at their first comma.
use Rattle.std.proofs.Common.{◌≡◌, ℕ, ◌-◌, List, [], ◌∷◌, ◌++◌, Option, Some, None, Bor, MatchOption, sym, ap, ◌∙◌, arith, append_assoc, subst}
use Rattle.std.proofs.lemmas.Str.Pattern.{IsSplitOnceResult, split_once_first}
use Rattle.epochs.specs.declared.flushes.Flushes.{Flushes}
use Rattle.epochs.specs.Flushes.{places_of}
use Rattle.command_line.specs.FlushList.{HasComma, IsCut, IsFlushList, NoFlushList}
use Rattle.command_line.specs.Number.{IsNumber, NoNumber}

pub cut_is : (text : List ℕ) (r : Option (Bor (List ℕ) × Bor (List ℕ))) → IsSplitOnceResult 44 text r
    → MatchOption r (HasComma text → ⊥) (λ parts. IsCut text parts.0.now parts.1.now)
cut_is text None split =
    let none = split_once_first 44 text None split (omega arith) in
    λ h. omega (arith, none, h)
cut_is text (Some x) split =
    let (inside, front, back) = split_once_first 44 text (Some x) split (omega arith) in
    record { comma = inside; before = front; beyond = back }

-- a text without a comma that is no entry
pub bad_word : (left : ℕ) (text : List ℕ) → (HasComma text → ⊥) → NoNumber 32 text → NoFlushList left text
bad_word left text whole none [] l h = h
bad_word left text whole none (e ∷ []) l h = none e h.1
bad_word left text whole none (e ∷ f ∷ es) l h = whole h.0

-- what stands before the comma is no entry
pub bad_first : (left : ℕ) (text word rest : List ℕ) → IsCut text word rest → NoNumber 32 word → NoFlushList left text
bad_first left text word rest cut none [] l h = h
bad_first left text word rest cut none (e ∷ []) l h = h.0 cut.comma
bad_first left text word rest cut none (e ∷ f ∷ es) l h = none e (subst (λ w. IsNumber 32 w e) (sym cut.before) h.1)

-- what stands after the comma is no list
pub bad_rest : (left : ℕ) (text word rest : List ℕ) → IsCut text word rest → NoFlushList (left - 1) rest → NoFlushList left text
bad_rest left text word rest cut none [] l h = h
bad_rest left text word rest cut none (e ∷ []) l h = h.0 cut.comma
bad_rest left text word rest cut none (e ∷ f ∷ es) l h = none (f ∷ es) (omega arith) (subst (λ w. IsFlushList w (f ∷ es)) (sym cut.beyond) h.2)

-- one before the comma, and others after it
more : (text word rest : List ℕ) (e : ℕ) (es : List ℕ) → IsCut text word rest → IsNumber 32 word e → IsFlushList rest es → IsFlushList text (e ∷ es)
more text word rest e [] cut first others = absurd others
more text word rest e (f ∷ es) cut first others =
    (cut.comma, subst (λ w. IsNumber 32 w e) cut.before first, subst (λ w. IsFlushList w (f ∷ es)) cut.beyond others)

-- the flushes that are read after the comma, after one before it and those of before
pub go_on : (left : ℕ) (text word rest before with_one : List ℕ) (e : ℕ) (r : Option Flushes)
    → IsCut text word rest → IsNumber 32 word e → with_one ≡ before ++ e ∷ []
    → MatchOption r (NoFlushList (left - 1) rest) (λ all. (es : List ℕ) × IsFlushList rest es × (places_of all ≡ with_one ++ es))
    → MatchOption r (NoFlushList left text) (λ all. (es : List ℕ) × IsFlushList text es × (places_of all ≡ before ++ es))
go_on left text word rest before with_one e None cut first one none = bad_rest left text word rest cut none
go_on left text word rest before with_one e (Some all) cut first one (es, others, added) =
    (e ∷ es, more text word rest e es cut first others, added ∙ ap (λ (x : List ℕ). x ++ es) one ∙ append_assoc before (e ∷ []) es)
