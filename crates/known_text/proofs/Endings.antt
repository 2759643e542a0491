-- How a program ended, read from its words.
use Rattle.std.proofs.Common.{ℕ, ◌≡◌, ◌<◌, ◌^◌, List, ◌∷◌, ◌++◌, append_assoc, codes, refl, sym, ap, ◌∙◌, arith}
use Rattle.std.specs.Fmt.{decimal}
use Rattle.report.specs.MarkReading.{IsCutAt}
use Rattle.known.specs.declared.run.RunEnd.{RunEnd}
use Rattle.known.specs.declared.run.RunEnd.TheVariants.{Answer, Signal, OutOfTime}
use Rattle.known_text.specs.Records.{IsEnd, end_text}
use Rattle.known_text.specs.Reading.{ReadsNumbered, ReadsEnd}
use Rattle.known_text.proofs.Texts.{other_first}
use Rattle.known_text.proofs.RangesRead.{number_lacks, blank_digits}

-- the number of a byte that a word says, if it says one
abbrev SaysByte : List ℕ → ℕ → Type 0
SaysByte word found = (n : ℕ) → n < 2 ^ 8 → word ≡ decimal n → found ≡ n

own_number : (text word rest more : List ℕ) (a n : ℕ) → IsCutAt 32 text word rest → SaysByte word a → n < 2 ^ 8 → text ≡ decimal n ++ 32 ∷ more → (a ≡ n) × (rest ≡ more)
own_number text word rest more a n cut says small e =
    let parts = cut.parts (decimal n) more (number_lacks 32 n blank_digits (omega (arith, small))) e in
    (says n small parts.0, parts.1)

pub answer_read : (kind text word rest : List ℕ) (a : ℕ) → kind ≡ codes "answer" → IsCutAt 32 text word rest → SaysByte word a → ReadsNumbered kind text (Answer a) rest
answer_read kind text word rest a named cut says = record {
  answer = λ n more small own e.
      let it = own_number text word rest more a n cut says small e in
      (ap Answer it.0, it.1);
  signal = λ n more small own e. absurd (other_first (codes "answer") (codes "signal") (omega arith) (sym named ∙ own));
}

pub signal_read : (kind text word rest : List ℕ) (a : ℕ) → (kind ≡ codes "answer" → ⊥) → IsCutAt 32 text word rest → SaysByte word a → ReadsNumbered kind text (Signal a) rest
signal_read kind text word rest a other cut says = record {
  answer = λ n more small own e. absurd (other own);
  signal = λ n more small own e.
      let it = own_number text word rest more a n cut says small e in
      (ap Signal it.0, it.1);
}

pub late_read : (text kind r1 word r2 time rest : List ℕ) → IsCutAt 32 text kind r1 → kind ≡ codes "out" → IsCutAt 32 r1 word r2 → IsCutAt 32 r2 time rest → ReadsEnd text OutOfTime rest
late_read text kind r1 word r2 time rest c1 named c2 c3 = record { read = reads }
  where
    reads : (e : RunEnd) (more : List ℕ) → IsEnd e → text ≡ end_text e ++ 32 ∷ more → (OutOfTime ≡ e) × (rest ≡ more)
    reads (Answer n) more is e =
        let p = c1.parts (codes "answer") (decimal n ++ 32 ∷ more) refl (e ∙ append_assoc (codes "answer ") (decimal n) (32 ∷ more)) in
        absurd (other_first (codes "answer") (codes "out") (omega arith) (sym p.0 ∙ named))
    reads (Signal n) more is e =
        let p = c1.parts (codes "signal") (decimal n ++ 32 ∷ more) refl (e ∙ append_assoc (codes "signal ") (decimal n) (32 ∷ more)) in
        absurd (other_first (codes "out") (codes "signal") (omega arith) (sym named ∙ p.0))
    reads OutOfTime more is e =
        let p1 = c1.parts (codes "out") (codes "of time" ++ 32 ∷ more) refl e in
        let p2 = c2.parts (codes "of") (codes "time" ++ 32 ∷ more) refl p1.1 in
        let p3 = c3.parts (codes "time") more refl p2.1 in
        (refl, p3.1)

pub number_read : (text kind r1 rest : List ℕ) (end : RunEnd) → IsCutAt 32 text kind r1 → (kind ≡ codes "out" → ⊥) → ReadsNumbered kind r1 end rest → ReadsEnd text end rest
number_read text kind r1 rest end c1 other own = record { read = reads }
  where
    reads : (e : RunEnd) (more : List ℕ) → IsEnd e → text ≡ end_text e ++ 32 ∷ more → (end ≡ e) × (rest ≡ more)
    reads (Answer n) more is e =
        let p = c1.parts (codes "answer") (decimal n ++ 32 ∷ more) refl (e ∙ append_assoc (codes "answer ") (decimal n) (32 ∷ more)) in
        own.answer n more is p.0 p.1
    reads (Signal n) more is e =
        let p = c1.parts (codes "signal") (decimal n ++ 32 ∷ more) refl (e ∙ append_assoc (codes "signal ") (decimal n) (32 ∷ more)) in
        let high = is.1 in
        own.signal n more (omega (arith, high)) p.0 p.1
    reads OutOfTime more is e = absurd (other (c1.parts (codes "out") (codes "of time" ++ 32 ∷ more) refl e).0)
