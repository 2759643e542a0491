-- Heads and records, one after the other.
use Rattle.std.proofs.Common.{ℕ, ◌≡◌, ◌≢◌, ◌+◌, ◌<◌, ◌≤◌, true, List, [], ◌∷◌, ◌++◌, length, length-append, append_assoc, append-nil, Option, Some, None, MatchOption, refl, sym, subst, ap, ◌∙◌, arith}
use Rattle.std.specs.Fmt.{decimal}
use Rattle.std.specs.Str.{IsUtf8}
use Rattle.logfmt.specs.Bounds.{LogValue}
use Rattle.epochs.specs.declared.part.By.{By}
use Rattle.report.specs.MarkReading.{lacks}
use Rattle.known_text.specs.declared.head.HeadLine.TheVariants.{Inputs, Program, Sum}
use Rattle.known_text.specs.declared.fault.KnownFault.{KnownFault}
use Rattle.known_text.specs.Reading.{IsCut, NoCut}
use Rattle.known_text.specs.Records.{RanValue, IsRan, IsRanOnly, NoRan}
use Rattle.known_text.specs.Texts.{Source, HeadValue, Head, Ran, line_of, lines_in, bytes_of, ended, title, most_records}
use Rattle.known_text.specs.Pieces.{RanAt, RanFault, ran_unread, PushesRan, PushFault, push_many, push_ran, HasHead, HeadFault, Steps, PieceFault, piece_run, piece_head, unread_at}
use Rattle.known_text.proofs.Texts.{one_cut, has_it}
use Rattle.known_text.proofs.Plain.{no_newline, text}
use Rattle.known_text.proofs.Recorded.{line_printed}

-- A RECORD AT A LINE

pub ran_cut_off : (log : LogValue) (way : By) (bytes : List ℕ) (line : ℕ) (f : KnownFault) → NoCut 10 bytes → f ≡ unread_at line → RanFault log way bytes line f
ran_cut_off log way bytes line f lack is =
    ran_unread is (record { none = λ own more run e ran. has_it 10 own more (subst (λ (bs : List ℕ). lacks 10 bs ≡ true) e lack.none) })

-- the record of the first line of some bytes is one of this line
own_line : (log : LogValue) (way : By) (bytes said rest own more : List ℕ) (run : RanValue) → IsCut 10 bytes said rest → bytes ≡ own ++ 10 ∷ more → IsRan log way own run → IsRan log way said run
own_line log way bytes said rest own more run cut e ran =
    let parts = one_cut 10 said own rest more cut.first (no_newline own (line_printed log way own run ran)) (sym cut.is ∙ e) in
    subst (λ (bs : List ℕ). IsRan log way bs run) (sym parts.0) ran

pub ran_no_text : (log : LogValue) (way : By) (bytes said rest : List ℕ) (line : ℕ) (f : KnownFault) → IsCut 10 bytes said rest → (IsUtf8 said → ⊥) → f ≡ unread_at line → RanFault log way bytes line f
ran_no_text log way bytes said rest line f cut other is = ran_unread is (record {
  none = λ own more run e ran. other (text said (line_printed log way said run (own_line log way bytes said rest own more run cut e ran)));
})

pub ran_other : (log : LogValue) (way : By) (bytes said rest words : List ℕ) (line : ℕ) (f : KnownFault) → IsCut 10 bytes said rest → words ≡ said → NoRan log way words → f ≡ unread_at line
    → RanFault log way bytes line f
ran_other log way bytes said rest words line f cut same none is = ran_unread is (record {
  none = λ own more run e ran. none.none run (subst (λ (bs : List ℕ). IsRan log way bs run) (sym same) (own_line log way bytes said rest own more run cut e ran));
})

pub ran_there : (log : LogValue) (way : By) (bytes said rest words : List ℕ) (run : RanValue) → IsCut 10 bytes said rest → words ≡ said → IsRanOnly log way words run → RanAt log way bytes run rest
ran_there log way bytes said rest words run cut same only = record {
  line = said;
  lack = cut.first;
  is = cut.is;
  only = subst (λ (bs : List ℕ). IsRanOnly log way bs run) same only;
}

-- ONE MORE RECORD

pub too_many : (log : LogValue) (way : By) (bytes : List ℕ) (line count : ℕ) (f : KnownFault) → most_records ≤ count → f ≡ unread_at line → PushFault log way bytes line count f
too_many log way bytes line count f many is = push_many is many

pub no_run : (log : LogValue) (way : By) (bytes : List ℕ) (line count : ℕ) (f : KnownFault) → RanFault log way bytes line f → PushFault log way bytes line count f
no_run log way bytes line count f fault = push_ran fault

pub run_pushed : (log : LogValue) (way : By) (bytes rest : List ℕ) (run : RanValue) (old new : List RanValue) → RanAt log way bytes run rest → new ≡ old ++ run ∷ [] → length old < most_records
    → PushesRan log way bytes old new rest
run_pushed log way bytes rest run old new ran pushed few =
    let long : length new ≡ length old + 1 = ap length pushed ∙ length-append old (run ∷ []) in
    record { run = run; ran = ran; said = pushed; few = omega (arith, long, few) }

-- ONE MORE PIECE

-- the bytes of one line, and of those of a head
pub ended_is : (line more : List ℕ) → ended line ++ more ≡ line ++ 10 ∷ more
ended_is line more = append_assoc line (10 ∷ []) more

pub head_bytes : (inputs : ℕ) (h : HeadValue) (more : List ℕ)
    → bytes_of (lines_in inputs h Head) ++ more ≡ ended title ++ (line_of Inputs (decimal inputs) ++ 10 ∷ (line_of Program h.words ++ 10 ∷ (line_of Sum h.sum ++ 10 ∷ more)))
head_bytes inputs h more =
    let a = ended title in
    let b = ended (line_of Inputs (decimal inputs)) in
    let c = ended (line_of Program h.words) in
    let d = ended (line_of Sum h.sum) in
    let grouped : (a ++ (b ++ (c ++ (d ++ [])))) ++ more ≡ a ++ (b ++ (c ++ (d ++ more))) =
    append_assoc a (b ++ (c ++ (d ++ []))) more
    ∙ ap (λ (bs : List ℕ). a ++ bs) (append_assoc b (c ++ (d ++ [])) more ∙ ap (λ (bs : List ℕ). b ++ bs) (append_assoc c (d ++ []) more ∙ ap (λ (bs : List ℕ). c ++ bs) (ap (λ (bs : List ℕ). bs ++ more) (append-nil d)))) in
    grouped
    ∙ ap (λ (bs : List ℕ). a ++ bs)
    (ended_is (line_of Inputs (decimal inputs)) (c ++ (d ++ more))
    ∙ ap (λ (bs : List ℕ). line_of Inputs (decimal inputs) ++ 10 ∷ bs)
    (ended_is (line_of Program h.words) (d ++ more) ∙ ap (λ (bs : List ℕ). line_of Program h.words ++ 10 ∷ bs) (ended_is (line_of Sum h.sum) more)))

pub head_is : (inputs : ℕ) (h : HeadValue) (after rest : List ℕ) → HasHead inputs h after rest
    → after ≡ line_of Inputs (decimal inputs) ++ 10 ∷ (line_of Program h.words ++ 10 ∷ (line_of Sum h.sum ++ 10 ∷ rest))
head_is inputs h after rest has = has.is ∙ ap (λ (bs : List ℕ). line_of Inputs (decimal inputs) ++ 10 ∷ bs) has.has.is

pub head_taken : (s : Source) (h : HeadValue) (bytes after rest : List ℕ) (line : ℕ) (runs : List RanValue) → bytes ≡ ended title ++ after → HasHead s.inputs h after rest → length runs ≤ most_records
    → Steps s h bytes line runs runs rest (line + 4)
head_taken s h bytes after rest line runs titled has few = record {
  piece = Head;
  only = tt;
  is = titled ∙ ap (λ (bs : List ℕ). ended title ++ bs) (head_is s.inputs h after rest has) ∙ sym (head_bytes s.inputs h rest);
  at = refl;
  said = sym (append-nil runs);
  few = few;
}

pub head_fault : (s : Source) (h : HeadValue) (bytes after : List ℕ) (line count : ℕ) (f : KnownFault) → bytes ≡ ended title ++ after → HeadFault s.inputs h after (line + 1) f → PieceFault s h bytes line count f
head_fault s h bytes after line count f titled fault = piece_head after titled fault

pub run_taken : (s : Source) (h : HeadValue) (bytes rest : List ℕ) (line : ℕ) (old new : List RanValue) → PushesRan s.log s.way bytes old new rest → Steps s h bytes line old new rest (line + 1)
run_taken s h bytes rest line old new pushed = record {
  piece = Ran pushed.ran.line pushed.run;
  only = pushed.ran.only;
  is = pushed.ran.is ∙ sym (ended_is pushed.ran.line rest) ∙ ap (λ (bs : List ℕ). bs ++ rest) (sym (append-nil (ended pushed.ran.line)));
  at = refl;
  said = pushed.said;
  few = pushed.few;
}

pub run_fault : (s : Source) (h : HeadValue) (bytes : List ℕ) (line count : ℕ) (f : KnownFault) → ((rest : List ℕ) → bytes ≢ ended title ++ rest) → PushFault s.log s.way bytes line count f → PieceFault s h bytes line count f
run_fault s h bytes line count f other fault = piece_run other fault

-- in the arm where nothing was found
pub at_none : {X : Type 0} (found : Option X) (A : Type 0) (B : X → Type 0) → found ≡ None → MatchOption found A B → A
at_none None A B e h = h
at_none (Some x) A B e h = absurd (let bad : Some x ≡ None = e in cc)
