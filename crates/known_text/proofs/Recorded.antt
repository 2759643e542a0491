-- A line as a record of a log.
use Rattle.std.proofs.Common.{ℕ, zero, suc, ◌≡◌, ◌≤◌, true, List, [], ◌∷◌, length, take, sym, subst, ap, ◌∙◌, arith}
use Rattle.std.specs.List.{list_all}
use Rattle.std.proofs.lemmas.List.Sums.{count_by-le-length}
use Rattle.logfmt.specs.declared.entry.Entry.{Entry}
use Rattle.logfmt.specs.Bounds.{LogValue, IsLog}
use Rattle.epochs.specs.declared.part.By.{By}
use Rattle.epochs.specs.Units.{marks_at}
use Rattle.choices.specs.declared.choice.Departure.{Departure}
use Rattle.cases.specs.AtCut.{CutValue}
use Rattle.lost_text.specs.Said.{IsSaid, NoneIsSaid, IsLostSo}
use Rattle.known_text.specs.Ranges.{IsLookedOnly, NoLooked}
use Rattle.known_text.specs.Records.{RanValue, RanWords, IsRan, IsRanOnly, NoRan, cut_at}
use Rattle.known_text.specs.Texts.{is_graphic, is_printed}
use Rattle.known_text.specs.Reading.{AreOfLog, AreSets, AreWords, IsSaidSo, NoSets, NoneIsSaidSo}
use Rattle.known_text.proofs.Plain.{choice_graphic, ranges_graphic, no_blank, ran_printed}

-- THE TEXT OF A CHOICE IS ONE WORD

choice_word : (at : CutValue) (said : List ℕ) (lost : List Departure) → IsSaid at true said lost → list_all is_graphic said ≡ true
choice_word at said lost is = ap (list_all is_graphic) is.printed ∙ choice_graphic at.way lost

-- THE WORDS OF A RECORD

abbrev words_in : (log : LogValue) (way : By) (line : List ℕ) (r : RanValue) → IsRan log way line r → RanWords
words_in log way line r is = record { cut = r.cut; choice = is.choice; marks = r.marks; end = r.end; looked = is.looked }

marks_low : (entries : List Entry) (cut : ℕ) → cut ≤ length entries → marks_at entries cut ≤ length entries
marks_low entries cut within =
    let few = count_by-le-length (λ (x : Entry). x.flags.mark) (take cut entries) in
    let short = take_short entries cut in
    omega (arith, few, short)
  where
    take_short : (es : List Entry) (n : ℕ) → length (take n es) ≤ length es
    take_short [] zero = omega arith
    take_short [] (suc n) = omega arith
    take_short (e ∷ es) zero = omega arith
    take_short (e ∷ es) (suc n) = let rest = take_short es n in omega (arith, rest)

words_fit : (log : LogValue) (way : By) (line : List ℕ) (r : RanValue) → IsLog log → (is : IsRan log way line r) → AreWords (words_in log way line r is)
words_fit log way line r bounds is =
    let count = bounds.count in
    let within = is.within in
    let few = marks_low log.entries r.cut is.within in
    let own = is.marks in
    record {
      cut = omega (arith, count, within);
      marks = omega (arith, count, few, own);
      choice = no_blank is.choice (choice_word (cut_at log way r.cut) is.choice is.lost is.said);
      ending = is.ending;
    }

own_words : (log : LogValue) (way : By) (line : List ℕ) (w : RanWords) (r : RanValue) → IsLog log → IsSaidSo line w → (is : IsRan log way line r) → w ≡ words_in log way line r is
own_words log way line w r bounds said is = said.only (words_in log way line r is) (words_fit log way line r bounds is) is.is

-- the line of a record is printable ASCII
pub line_printed : (log : LogValue) (way : By) (line : List ℕ) (r : RanValue) → IsRan log way line r → list_all is_printed line ≡ true
line_printed log way line r is =
    ap (list_all is_printed) is.is
    ∙ ran_printed (words_in log way line r is) (choice_word (cut_at log way r.cut) is.choice is.lost is.said) (ap (list_all is_graphic) is.sectors.is ∙ ranges_graphic is.sectors.ranges)

-- WHY A LINE IS NO RECORD

pub no_form : (log : LogValue) (way : By) (line : List ℕ) → IsLog log → NoneIsSaidSo line → NoRan log way line
no_form log way line bounds none = record { none = λ r is. none.none (words_in log way line r is) (words_fit log way line r bounds is) is.is }

pub other_log : (log : LogValue) (way : By) (line : List ℕ) (w : RanWords) → IsLog log → IsSaidSo line w → (AreOfLog log.entries w → ⊥) → NoRan log way line
other_log log way line w bounds said other = record {
  none = λ r is.
      let own = own_words log way line w r bounds said is in
      other (subst (AreOfLog log.entries) (sym own) (record { within = is.within; marks = is.marks; ending = is.ending }));
}

pub no_choice : (log : LogValue) (way : By) (line : List ℕ) (w : RanWords) → IsLog log → IsSaidSo line w → NoSets log way w.cut w.choice → NoRan log way line
no_choice log way line w bounds said none = record {
  none = λ r is.
      let own = own_words log way line w r bounds said is in
      let no = subst (λ (v : RanWords). NoSets log way v.cut v.choice) own none in
      no.none is.lost is.said;
}

pub no_looks : (log : LogValue) (way : By) (line : List ℕ) (w : RanWords) → IsLog log → IsSaidSo line w → NoLooked log.sectors w.looked → NoRan log way line
no_looks log way line w bounds said none = record {
  none = λ r is.
      let own = own_words log way line w r bounds said is in
      let no = subst (λ (v : RanWords). NoLooked log.sectors v.looked) own none in
      no.none r.looked is.sectors;
}

-- it is this one
abbrev pub made : RanWords → List ℕ → List ℕ → RanValue
made w sets looked = record { cut = w.cut; sets = sets; marks = w.marks; end = w.end; looked = looked }

pub is_record : (log : LogValue) (way : By) (line : List ℕ) (w : RanWords) (sets looked : List ℕ) → IsLog log → IsSaidSo line w → AreOfLog log.entries w → AreSets log way w.cut w.choice sets
    → IsLookedOnly log.sectors w.looked looked → IsRanOnly log way line (made w sets looked)
is_record log way line w sets looked bounds said of_log are looks = record {
  is = record {
    choice = w.choice;
    looked = w.looked;
    is = said.is;
    within = of_log.within;
    lost = are.lost;
    said = are.said;
    sets = are.each are.lost are.said;
    marks = of_log.marks;
    ending = of_log.ending;
    sectors = looks.is;
  };
  only = only;
}
  where
    only : (r : RanValue) → IsRan log way line r → r ≡ made w sets looked
    only r is =
        let own = own_words log way line w r bounds said is in
        let same = subst (λ (v : RanWords). AreSets log way v.cut v.choice sets) own are in
        let sets_are : r.sets ≡ sets = is.sets ∙ sym (same.each is.lost is.said) in
        let again = subst (λ (v : RanWords). IsLookedOnly log.sectors v.looked looked) own looks in
        let looked_are : r.looked ≡ looked = again.only r.looked is.sectors in
        let back = sym own in
        λ i. record { cut = (back i).cut; sets = sets_are i; marks = (back i).marks; end = (back i).end; looked = looked_are i }

-- THE SETS OF A CHOICE

pub no_sets : (at : CutValue) (log : LogValue) (way : By) (cut : ℕ) (choice : List ℕ) → at ≡ cut_at log way cut → NoneIsSaid at true choice → NoSets log way cut choice
no_sets at log way cut choice same none =
    let own = subst (λ (a : CutValue). NoneIsSaid a true choice) same none in
    record { none = own.none }

pub are_sets : (at : CutValue) (log : LogValue) (way : By) (cut : ℕ) (choice sets : List ℕ) (lost : List Departure) → at ≡ cut_at log way cut → IsLostSo at true choice sets lost
    → AreSets log way cut choice sets
are_sets at log way cut choice sets lost same so =
    let own = subst (λ (a : CutValue). IsLostSo a true choice sets lost) same so in
    record { lost = lost; said = own.is; each = own.fates }
