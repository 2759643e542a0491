-- Texts, part after part.
use Rattle.std.proofs.Common.{ℕ, ◌≡◌, ◌+◌, List, [], ◌∷◌, ◌++◌, codes, length, Result, Ok, Err, OnOk, append_assoc, append-nil, sym, ◌∙◌, ap, arith}
use Rattle.std.specs.List.{flat_map, range_with_len}
use Rattle.std.proofs.lemmas.List.Concat.{flat_map-append}
use Rattle.base.proofs.Lists.{range_with_len-more}
use Rattle.report.specs.Report.{HeadValue, options_text}
use Rattle.losses.specs.declared.cure.failure.Failure.{Failure}
use Rattle.losses.specs.CureText.{program_line, programs_text, begin_text}

-- what follows from a fact of an Ok
pub on_ok : {T E : Type 0} (r : Result T E) (A B : Type 0) → OnOk r A → (A → B) → OnOk r B
on_ok (Ok x) A B a f = f a
on_ok (Err e) A B a f = tt

-- the text of one program more
pub programs-more : (fs : List Failure) (n : ℕ) → programs_text (n + 1) fs ≡ programs_text n fs ++ program_line fs n
programs-more fs n =
    let last : 0 + n ≡ n = omega arith in
    ap (flat_map (program_line fs)) (range_with_len-more 0 n)
    ∙ flat_map-append (program_line fs) (range_with_len 0 n) ((0 + n) ∷ [])
    ∙ ap (λ (bs : List ℕ). programs_text n fs ++ bs) (append-nil (program_line fs (0 + n)) ∙ ap (program_line fs) last)

pub programs_next : (fs : List Failure) (n : ℕ) (old now new : List ℕ) → now ≡ old ++ programs_text n fs → new ≡ now ++ program_line fs n → new ≡ old ++ programs_text (n + 1) fs
programs_next fs n old now new was is =
    is ∙ ap (λ (bs : List ℕ). bs ++ program_line fs n) was ∙ append_assoc old (programs_text n fs) (program_line fs n) ∙ ap (λ (bs : List ℕ). old ++ bs) (sym (programs-more fs n))

-- how the text begins
pub begun : (h : HeadValue) (fs : List Failure) (n : ℕ) (old title options all : List ℕ) → title ≡ old ++ codes "crash cure 1\n" → options ≡ title ++ options_text h
    → n ≡ length h.programs → all ≡ options ++ programs_text n fs → all ≡ old ++ begin_text h fs
unfolding begin_text
begun h fs n old title options all begins goes many ends =
    ends ∙ ap (λ (bs : List ℕ). bs ++ programs_text n fs) (goes ∙ ap (λ (bs : List ℕ). bs ++ options_text h) begins)
    ∙ ap (λ k. ((old ++ codes "crash cure 1\n") ++ options_text h) ++ programs_text k fs) many
    ∙ append_assoc (old ++ codes "crash cure 1\n") (options_text h) (programs_text (length h.programs) fs)
    ∙ append_assoc old (codes "crash cure 1\n") (options_text h ++ programs_text (length h.programs) fs)
