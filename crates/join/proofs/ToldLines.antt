-- The lines of a report that is given in place of programs, read to the byte and in one way alone.
use Rattle.std.proofs.Common.{ℕ, ◌≡◌, ◌≢◌, ◌+◌, ◌<◌, ◌≤◌, ◌^◌, Bool, true, false, if◌then◌else◌, List, [], ◌∷◌, ◌++◌, length, append_assoc, append-nil, codes, Option, Some, slice_get, refl, sym, subst, ◌∙◌, ap, get_or, arith}
use Rattle.std.specs.Fmt.{decimal}
use Rattle.std.specs.List.{flat_map}
use Rattle.std.specs.Option.{option_map_or}
use Rattle.std.proofs.lemmas.Option.{slice_get_within}
use Rattle.std.proofs.lemmas.Fmt.{decimal_injective}
use Rattle.std.proofs.lemmas.List.{map-append}
use Rattle.epochs.specs.declared.part.By.{By}
use Rattle.choices.specs.Choices.{ChoiceValue, ranked_choices}
use Rattle.choices.specs.Sums.{StartsValue}
use Rattle.report.specs.declared.lines.marks.LineMark.{LineMark}
use Rattle.report.specs.declared.span.Span.{Span}
use Rattle.report.specs.ChoiceText.{departures_text}
use Rattle.report.specs.MarkReading.{lacks}
use Rattle.report.proofs.Back.{lacks_both}
use Rattle.join.specs.declared.line.LineWords.{LineWords}
use Rattle.join.specs.declared.tally.Tally.{Tally}
use Rattle.join.specs.Endings.{IsAtChoice, NoChoice}
use Rattle.join.specs.Reading.{words_text, ReadsWords, IsCut, NoCut, none_read, one_more, is_new}
use Rattle.join.specs.Given.{ToldLine, IsOutcome, IsTold, AreToldOf, chosen_told, told_body, told_line, marks_told}
use Rattle.join.specs.GivenReading.{IsChoiceOf, IsToldBody, NoToldBody, IsToldLine, NoToldLine, AreToldRead}
use Rattle.join.proofs.Texts.{one_cut, cancel, has_it}
use Rattle.join.proofs.Spans.{line_lacks, blank_lacks}
use Rattle.join.proofs.Bodies.{by_words}
use Rattle.join.proofs.Counts.{tallied_push, tallied_none}
use Rattle.join.proofs.Outsides.{cancel_back, choice_lacks, outcome_lacks, outcome_lacks_h}

-- the words of a line of an image with that choice
abbrev pub words_told : ToldLine → ChoiceValue → LineWords
words_told t c = record { image = t.mark.image; cut = c.cut; program = t.mark.program }

abbrev pub end_told : By → ToldLine → ChoiceValue → List ℕ
end_told way t c = t.outcome ++ codes " choice " ++ departures_text way c.departures

pub body_is : (s : StartsValue) (t : ToldLine) (c : ChoiceValue) → slice_get (ranked_choices s.plan s.bound s.tears) t.mark.image ≡ Some c → told_body s t ≡ chosen_told s.plan.by t c
body_is s t c there = ap (λ (o : Option ChoiceValue). option_map_or (chosen_told s.plan.by t) o []) there

-- the numbers of a line are those of its words
of_told : (outside : Bool) (programs : ℕ) (s : StartsValue) (line : List ℕ) (words : LineWords) → programs ≤ 8 → ReadsWords line words
    → (t : ToldLine) (told : IsTold outside programs s t) → line ≡ told_body s t → words ≡ words_told t told.choice
of_told outside programs s line words few reads t told e =
    let small = told.small in
    let own = told.program in
    reads.read (words_told t told.choice) (end_told s.plan.by t told.choice) told.image (omega (arith, small)) (omega (arith, own, few)) (e ∙ body_is s t told.choice told.there)

pub image_past : (outside : Bool) (programs images : ℕ) (s : StartsValue) (line : List ℕ) (words : LineWords) → programs ≤ 8 → images ≡ length (ranked_choices s.plan s.bound s.tears)
    → ReadsWords line words → images ≤ words.image → NoToldBody outside programs s line
image_past outside programs images s line words few all reads past = record {
  none = λ t told e.
      let same = ap (λ (w : LineWords). w.image) (of_told outside programs s line words few reads t told e) in
      let within = slice_get_within (ranked_choices s.plan s.bound s.tears) t.mark.image told.choice told.there in
      omega (arith, same, within, past, all);
}

pub program_past : (outside : Bool) (programs : ℕ) (s : StartsValue) (line : List ℕ) (words : LineWords) → programs ≤ 8 → ReadsWords line words → programs ≤ words.program → NoToldBody outside programs s line
program_past outside programs s line words few reads past = record {
  none = λ t told e.
      let same = ap (λ (w : LineWords). w.program) (of_told outside programs s line words few reads t told e) in
      let own = told.program in
      omega (arith, same, own, past);
}

pub words_differ : (outside : Bool) (programs : ℕ) (s : StartsValue) (line printed : List ℕ) (words : LineWords) → programs ≤ 8 → ReadsWords line words → printed ≡ words_text words
    → ((rest : List ℕ) → line ≢ printed ++ rest) → NoToldBody outside programs s line
words_differ outside programs s line printed words few reads is none = record {
  none = λ t told e.
      let same = of_told outside programs s line words few reads t told e in
      none (end_told s.plan.by t told.choice)
      (e ∙ body_is s t told.choice told.there ∙ ap (λ (w : LineWords). words_text w ++ end_told s.plan.by t told.choice) (sym same) ∙ ap (λ (bs : List ℕ). bs ++ end_told s.plan.by t told.choice) (sym is));
}

-- what stands after the words
end_is : (outside : Bool) (programs : ℕ) (s : StartsValue) (line printed end : List ℕ) (words : LineWords) → programs ≤ 8 → ReadsWords line words → printed ≡ words_text words → line ≡ printed ++ end
    → (t : ToldLine) (told : IsTold outside programs s t) → line ≡ told_body s t → end ≡ end_told s.plan.by t told.choice
end_is outside programs s line printed end words few reads is parts t told e =
    let same = of_told outside programs s line words few reads t told e in
    cancel (words_text words) end (end_told s.plan.by t told.choice)
    (ap (λ (bs : List ℕ). bs ++ end) (sym is) ∙ sym parts ∙ e ∙ body_is s t told.choice told.there ∙ ap (λ (w : LineWords). words_text w ++ end_told s.plan.by t told.choice) (sym same))

pub choice_lacking : (outside : Bool) (programs : ℕ) (s : StartsValue) (line printed end : List ℕ) (words : LineWords) → programs ≤ 8 → ReadsWords line words → printed ≡ words_text words → line ≡ printed ++ end
    → NoChoice end → NoToldBody outside programs s line
choice_lacking outside programs s line printed end words few reads is parts lack = record {
  none = λ t told e.
      lack.none t.outcome (departures_text s.plan.by told.choice.departures) (outcome_lacks_h outside t.outcome told.outcome)
      (end_is outside programs s line printed end words few reads is parts t told e);
}

-- the two halves of what stands there
halves : (outside : Bool) (programs : ℕ) (s : StartsValue) (line printed end outcome choice : List ℕ) (words : LineWords) → programs ≤ 8 → ReadsWords line words → printed ≡ words_text words → line ≡ printed ++ end
    → IsAtChoice end outcome choice → (t : ToldLine) (told : IsTold outside programs s t) → line ≡ told_body s t → (outcome ≡ t.outcome) × (choice ≡ departures_text s.plan.by told.choice.departures)
halves outside programs s line printed end outcome choice words few reads is parts at t told e =
    at.only t.outcome (departures_text s.plan.by told.choice.departures) (outcome_lacks_h outside t.outcome told.outcome)
    (end_is outside programs s line printed end words few reads is parts t told e)

pub outcome_differs : (outside : Bool) (programs : ℕ) (s : StartsValue) (line printed end outcome choice : List ℕ) (words : LineWords) → programs ≤ 8 → ReadsWords line words → printed ≡ words_text words → line ≡ printed ++ end
    → IsAtChoice end outcome choice → (IsOutcome outside outcome → ⊥) → NoToldBody outside programs s line
outcome_differs outside programs s line printed end outcome choice words few reads is parts at none = record {
  none = λ t told e.
      let both = halves outside programs s line printed end outcome choice words few reads is parts at t told e in
      none (subst (λ (bs : List ℕ). IsOutcome outside bs) (sym both.0) told.outcome);
}

pub choice_differs : (outside : Bool) (programs : ℕ) (s : StartsValue) (line printed end outcome choice : List ℕ) (words : LineWords) → programs ≤ 8 → ReadsWords line words → printed ≡ words_text words → line ≡ printed ++ end
    → IsAtChoice end outcome choice → (IsChoiceOf s words.image words.cut choice → ⊥) → NoToldBody outside programs s line
choice_differs outside programs s line printed end outcome choice words few reads is parts at none = record {
  none = λ t told e.
      let both = halves outside programs s line printed end outcome choice words few reads is parts at t told e in
      let same = of_told outside programs s line words few reads t told e in
      none (subst (λ (w : LineWords). IsChoiceOf s w.image w.cut choice) (sym same) (record { choice = told.choice; there = told.there; small = told.small; at = refl; is = both.1 }));
}

pub body_found : (outside : Bool) (programs : ℕ) (s : StartsValue) (line printed end outcome choice : List ℕ) (words : LineWords) (mark : LineMark) → words.image < 2 ^ 64 → words.program < programs
    → printed ≡ words_text words → line ≡ printed ++ end → IsAtChoice end outcome choice → IsOutcome outside outcome → IsChoiceOf s words.image words.cut choice
    → mark ≡ record { image = words.image; program = words.program } → IsToldBody outside programs s line (record { mark = mark; outcome = outcome })
body_found outside programs s line printed end outcome choice words mark fits own is parts at said c marked = subst (λ (m : LineMark). IsToldBody outside programs s line (record { mark = m; outcome = outcome })) (sym marked) found
  where
    told : IsTold outside programs s (record { mark = record { image = words.image; program = words.program }; outcome = outcome })
    told = record { choice = c.choice; there = c.there; small = c.small; image = fits; program = own; outcome = said }

    same : words ≡ record { image = words.image; cut = c.choice.cut; program = words.program }
    same = let at = c.at in rw at refl

    found : IsToldBody outside programs s line (record { mark = record { image = words.image; program = words.program }; outcome = outcome })
    found = record {
      told = told;
      is =
          parts ∙ ap (λ (bs : List ℕ). bs ++ end) is ∙ ap (λ (w : LineWords). words_text w ++ end) same
          ∙ ap (λ (bs : List ℕ). words_text (record { image = words.image; cut = c.choice.cut; program = words.program }) ++ bs) (at.is ∙ ap (λ (bs : List ℕ). outcome ++ codes " choice " ++ bs) c.is)
          ∙ sym (body_is s (record { mark = record { image = words.image; program = words.program }; outcome = outcome }) c.choice c.there);
    }

-- a choice is that of an image
pub other_cut : (s : StartsValue) (image at : ℕ) (text : List ℕ) (c : ChoiceValue) → slice_get (ranked_choices s.plan s.bound s.tears) image ≡ Some c → c.cut ≢ at → IsChoiceOf s image at text → ⊥
other_cut s image at text c there other ic =
    let both : Some c ≡ Some ic.choice = sym there ∙ ic.there in
    let same : c ≡ ic.choice = cc in
    other (ap (λ (x : ChoiceValue). x.cut) same ∙ ic.at)

-- a line without its newline has none
pub told_lacks : (outside : Bool) (programs : ℕ) (s : StartsValue) (t : ToldLine) → programs ≤ 8 → IsTold outside programs s t → lacks 10 (told_body s t) ≡ true
unfolding words_text
told_lacks outside programs s t few told =
    let c = told.choice in
    let small = told.small in
    let own = told.program in
    subst (λ (bs : List ℕ). lacks 10 bs ≡ true) (sym (body_is s t c told.there))
    (lacks_both 10 (words_text (words_told t c)) (end_told s.plan.by t c)
    (lacks_both 10 (codes "image " ++ decimal t.mark.image ++ codes " cut " ++ decimal c.cut ++ codes " program " ++ decimal t.mark.program) (codes " ")
    (lacks_both 10 (codes "image " ++ decimal t.mark.image ++ codes " cut " ++ decimal c.cut ++ codes " program ") (decimal t.mark.program)
    (lacks_both 10 (codes "image " ++ decimal t.mark.image ++ codes " cut " ++ decimal c.cut) (codes " program ")
    (lacks_both 10 (codes "image " ++ decimal t.mark.image ++ codes " cut ") (decimal c.cut)
    (lacks_both 10 (codes "image " ++ decimal t.mark.image) (codes " cut ") (lacks_both 10 (codes "image ") (decimal t.mark.image) refl (line_lacks t.mark.image told.image)) refl)
    (line_lacks c.cut (omega (arith, small)))) refl)
    (line_lacks t.mark.program (omega (arith, own, few)))) refl)
    (lacks_both 10 (t.outcome ++ codes " choice ") (departures_text s.plan.by c.departures) (lacks_both 10 t.outcome (codes " choice ") (outcome_lacks outside t.outcome told.outcome) refl) (choice_lacks s.plan.by c.departures)))

pub told_is : (s : StartsValue) (t : ToldLine) (more : List ℕ) → told_line s t ++ more ≡ told_body s t ++ 10 ∷ more
unfolding told_line
told_is s t more = append_assoc (told_body s t) (codes "\n") more

pub no_newline_no_told : (outside : Bool) (programs : ℕ) (s : StartsValue) (text : List ℕ) → NoCut 10 text → NoToldLine outside programs s text
no_newline_no_told outside programs s text lack = record {
  none = λ t more told e. has_it 10 (told_body s t) more (subst (λ (bs : List ℕ). lacks 10 bs ≡ true) (e ∙ told_is s t more) lack.none);
}

pub no_body_no_told : (outside : Bool) (programs : ℕ) (s : StartsValue) (text line more : List ℕ) → programs ≤ 8 → IsCut 10 text line more → NoToldBody outside programs s line → NoToldLine outside programs s text
no_body_no_told outside programs s text line more few cut lack = record {
  none = λ t rest told e.
      let same : line ++ 10 ∷ more ≡ told_body s t ++ 10 ∷ rest = sym cut.is ∙ e ∙ told_is s t rest in
      lack.none t told (one_cut 10 line (told_body s t) more rest cut.first (told_lacks outside programs s t few told) same).0;
}

pub body_is_told : (outside : Bool) (programs : ℕ) (s : StartsValue) (text line more : List ℕ) (t : ToldLine) → IsCut 10 text line more → IsToldBody outside programs s line t → IsToldLine outside programs s text t more
body_is_told outside programs s text line more t cut body = record {
  told = body.told;
  is = cut.is ∙ ap (λ (bs : List ℕ). bs ++ 10 ∷ more) body.is ∙ sym (told_is s t more);
}

-- lines, one after the other
none_are_told : (outside : Bool) (programs : ℕ) (s : StartsValue) (span : Span) (text : List ℕ) → AreToldRead outside programs s span text [] none_read text
none_are_told outside programs s span text = record {
  each = tt;
  is = refl;
  told = sym (tallied_none span none_read);
  few = omega arith;
  fewer = omega arith;
}

pub none_told : (outside : Bool) (programs : ℕ) (s : StartsValue) (span : Span) (text : List ℕ) (ts : List ToldLine) (tally : Tally) → ts ≡ [] → tally ≡ none_read → AreToldRead outside programs s span text ts tally text
none_told outside programs s span text ts tally none counted =
    subst (λ (xs : List ToldLine). AreToldRead outside programs s span text xs tally text) (sym none)
    (subst (λ (u : Tally). AreToldRead outside programs s span text [] u text) (sym counted) (none_are_told outside programs s span text))

each_push : (outside : Bool) (programs : ℕ) (s : StartsValue) (ts : List ToldLine) (t : ToldLine) → AreToldOf outside programs s ts → IsTold outside programs s t → AreToldOf outside programs s (ts ++ t ∷ [])
each_push outside programs s [] t all own = (own, tt)
each_push outside programs s (x ∷ ts) t all own = (all.0, each_push outside programs s ts t all.1 own)

text_push : (s : StartsValue) (ts : List ToldLine) (t : ToldLine) (more : List ℕ) → flat_map (told_line s) (ts ++ t ∷ []) ++ more ≡ flat_map (told_line s) ts ++ (told_line s t ++ more)
text_push s [] t more = ap (λ (bs : List ℕ). bs ++ more) (append-nil (told_line s t))
text_push s (x ∷ ts) t more =
    append_assoc (told_line s x) (flat_map (told_line s) (ts ++ t ∷ [])) more
    ∙ ap (λ (bs : List ℕ). told_line s x ++ bs) (text_push s ts t more)
    ∙ sym (append_assoc (told_line s x) (flat_map (told_line s) ts) (told_line s t ++ more))

one_or_none : (b : Bool) → (if b then 1 else 0) ≤ 1
one_or_none true = omega arith
one_or_none false = omega arith

one_is_pushed : (outside : Bool) (programs : ℕ) (s : StartsValue) (span : Span) (text rest more : List ℕ) (ts : List ToldLine) (tally : Tally) (t : ToldLine) → AreToldRead outside programs s span text ts tally rest
    → IsToldLine outside programs s rest t more → length more < length rest → AreToldRead outside programs s span text (ts ++ t ∷ []) (one_more span tally t.mark) more
one_is_pushed outside programs s span text rest more ts tally t h line less = record {
  each = each_push outside programs s ts t h.each line.told;
  is = h.is ∙ ap (λ (bs : List ℕ). flat_map (told_line s) ts ++ bs) line.is ∙ sym (text_push s ts t more);
  told =
      let pushed : marks_told (ts ++ t ∷ []) ≡ marks_told ts ++ t.mark ∷ [] = map-append (λ (x : ToldLine). x.mark) ts (t ∷ []) in
      rw (pushed, tallied_push span none_read (marks_told ts) t.mark, h.told) refl;
  few = let before = h.few in omega (arith, before, less);
  fewer =
      let before = h.fewer in
      let one = one_or_none (is_new tally.last t.mark.image) in
      omega (arith, before, one);
}

pub one_is_told : (outside : Bool) (programs : ℕ) (s : StartsValue) (span : Span) (text rest more : List ℕ) (ts now : List ToldLine) (tally next : Tally) (t : ToldLine) → AreToldRead outside programs s span text ts tally rest
    → IsToldLine outside programs s rest t more → length more < length rest → now ≡ ts ++ t ∷ [] → next ≡ one_more span tally t.mark → AreToldRead outside programs s span text now next more
one_is_told outside programs s span text rest more ts now tally next t h line less pushed counted =
    subst (λ (xs : List ToldLine). AreToldRead outside programs s span text xs next more) (sym pushed)
    (subst (λ (u : Tally). AreToldRead outside programs s span text (ts ++ t ∷ []) u more) (sym counted) (one_is_pushed outside programs s span text rest more ts tally t h line less))

-- a line says one thing
choice_parts : (xs ys : List ℕ) → xs ++ codes " choice " ++ ys ≡ (xs ++ codes " c") ++ 104 ∷ (codes "oice " ++ ys)
choice_parts xs ys = append_assoc xs (codes " choice ") ys ∙ sym (append_assoc xs (codes " c") (104 ∷ (codes "oice " ++ ys)))

one_outcome : (xs ys us vs : List ℕ) → lacks 104 xs ≡ true → lacks 104 ys ≡ true → xs ++ codes " choice " ++ us ≡ ys ++ codes " choice " ++ vs → xs ≡ ys
one_outcome xs ys us vs a b e =
    let parts = one_cut 104 (xs ++ codes " c") (ys ++ codes " c") (codes "oice " ++ us) (codes "oice " ++ vs) (lacks_both 104 xs (codes " c") a refl) (lacks_both 104 ys (codes " c") b refl)
    (sym (choice_parts xs us) ∙ e ∙ choice_parts ys vs) in
    cancel_back (codes " c") xs ys parts.0

pub one_told : (outside : Bool) (programs : ℕ) (s : StartsValue) (t q : ToldLine) → programs ≤ 8 → IsTold outside programs s t → IsTold outside programs s q → told_body s t ≡ told_body s q → t ≡ q
one_told outside programs s t q few own also e =
    let c = own.choice in
    let d = also.choice in
    let a = own.small in
    let b = also.small in
    let f = own.program in
    let g = also.program in
    let bodies : words_text (words_told t c) ++ end_told s.plan.by t c ≡ words_text (words_told q d) ++ end_told s.plan.by q d = sym (body_is s t c own.there) ∙ e ∙ body_is s q d also.there in
    let same = sym (by_words (words_told t c) (end_told s.plan.by t c)) ∙ bodies ∙ by_words (words_told q d) (end_told s.plan.by q d) in
    let first = one_cut 32 (codes "image") (codes "image") _ _ refl refl same in
    let image = one_cut 32 (decimal t.mark.image) (decimal q.mark.image) _ _ (blank_lacks t.mark.image own.image) (blank_lacks q.mark.image also.image) first.1 in
    let second = one_cut 32 (codes "cut") (codes "cut") _ _ refl refl image.1 in
    let at = one_cut 32 (decimal c.cut) (decimal d.cut) _ _ (blank_lacks c.cut (omega (arith, a))) (blank_lacks d.cut (omega (arith, b))) second.1 in
    let third = one_cut 32 (codes "program") (codes "program") _ _ refl refl at.1 in
    let program = one_cut 32 (decimal t.mark.program) (decimal q.mark.program) _ _ (blank_lacks t.mark.program (omega (arith, f, few))) (blank_lacks q.mark.program (omega (arith, g, few))) third.1 in
    let same_image : t.mark.image ≡ q.mark.image = decimal_injective t.mark.image q.mark.image own.image also.image image.0 in
    let same_program : t.mark.program ≡ q.mark.program = decimal_injective t.mark.program q.mark.program (omega (arith, f, few)) (omega (arith, g, few)) program.0 in
    let outcome = one_outcome t.outcome q.outcome (departures_text s.plan.by c.departures) (departures_text s.plan.by d.departures) (outcome_lacks_h outside t.outcome own.outcome) (outcome_lacks_h outside q.outcome also.outcome) program.1 in
    by_fields same_image same_program outcome
  where
    by_fields : t.mark.image ≡ q.mark.image → t.mark.program ≡ q.mark.program → t.outcome ≡ q.outcome → t ≡ q
    by_fields a b c = λ i. record { mark = record { image = a i; program = b i }; outcome = c i }

-- lines are read in one way
pub one_reading_told : (outside : Bool) (programs : ℕ) (s : StartsValue) (ts qs : List ToldLine) (rest tail : List ℕ) → programs ≤ 8 → AreToldOf outside programs s ts → AreToldOf outside programs s qs
    → NoToldLine outside programs s rest → NoToldLine outside programs s tail → flat_map (told_line s) ts ++ rest ≡ flat_map (told_line s) qs ++ tail → (ts ≡ qs) × (rest ≡ tail)
one_reading_told outside programs s [] [] rest tail few own also lack none e = (refl, e)
one_reading_told outside programs s [] (q ∷ qs) rest tail few own also lack none e =
    absurd (lack.none q (flat_map (told_line s) qs ++ tail) also.0 (e ∙ append_assoc (told_line s q) (flat_map (told_line s) qs) tail))
one_reading_told outside programs s (t ∷ ts) [] rest tail few own also lack none e =
    absurd (none.none t (flat_map (told_line s) ts ++ rest) own.0 (sym e ∙ append_assoc (told_line s t) (flat_map (told_line s) ts) rest))
one_reading_told outside programs s (t ∷ ts) (q ∷ qs) rest tail few own also lack none e =
    let same : told_body s t ++ 10 ∷ (flat_map (told_line s) ts ++ rest) ≡ told_body s q ++ 10 ∷ (flat_map (told_line s) qs ++ tail) =
    sym (told_is s t (flat_map (told_line s) ts ++ rest)) ∙ sym (append_assoc (told_line s t) (flat_map (told_line s) ts) rest) ∙ e
    ∙ append_assoc (told_line s q) (flat_map (told_line s) qs) tail ∙ told_is s q (flat_map (told_line s) qs ++ tail) in
    let parts = one_cut 10 (told_body s t) (told_body s q) _ _ (told_lacks outside programs s t few own.0) (told_lacks outside programs s q few also.0) same in
    let more = one_reading_told outside programs s ts qs rest tail few own.1 also.1 lack none parts.1 in
    let line = one_told outside programs s t q few own.0 also.0 parts.0 in
    let lines = more.0 in
    (rw (line, lines) refl, more.1)

-- the last line of a report is no such line
pub totals_no_told : (outside : Bool) (programs : ℕ) (s : StartsValue) (rest : List ℕ) → NoToldLine outside programs s (codes "images " ++ rest)
unfolding told_line words_text
totals_no_told outside programs s rest = record { none = none }
  where
    none : (t : ToldLine) (more : List ℕ) → IsTold outside programs s t → codes "images " ++ rest ≡ told_line s t ++ more → ⊥
    none t more told e =
        let is : told_line s t ++ more ≡ chosen_told s.plan.by t told.choice ++ 10 ∷ more = told_is s t more ∙ ap (λ (bs : List ℕ). bs ++ 10 ∷ more) (body_is s t told.choice told.there) in
        let bad : 115 ≡ 32 = ap (λ (bs : List ℕ). get_or bs 5 0) (e ∙ is) in
        omega (arith, bad)
