-- A text of cases as a whole, read, and read in one way alone.
use Rattle.std.proofs.Common.{ℕ, zero, suc, ◌≡◌, ◌≢◌, ◌+◌, ◌-◌, ◌<◌, ◌≤◌, ◌^◌, ◌==◌, ◌&&◌, nat_le, nat_lt, Bool, true, false, if◌then◌else◌, List, [], ◌∷◌, ◌++◌, length, length-append, get_or, map, append_assoc, append-nil, codes, Option, None, Some, unwrap_or, refl, sym, subst, ap, ◌∙◌, arith}
use Rattle.std.specs.Fmt.{decimal}
use Rattle.std.specs.List.{flat_map}
use Rattle.std.specs.Str.{IsUtf8}
use Rattle.std.proofs.lemmas.Bool.Decides.{nat_tests}
use Rattle.epochs.specs.declared.part.By.{By}
use Rattle.report.specs.Report.{HeadValue, device_text}
use Rattle.losses.specs.declared.found.Losses.{Losses}
use Rattle.case_text.specs.Text.{are_all_cuts, opening_text, options_text, place_text, counts_text}
use Rattle.join.specs.declared.case_parts.front.CaseFront.{CaseFront}
use Rattle.join.specs.declared.case_parts.line.CaseTally.{CaseTally}
use Rattle.join.specs.declared.case_parts.totals.CaseTotals.{CaseTotals}
use Rattle.join.specs.Heads.{IsPrintedHead, NoProgram}
use Rattle.join.specs.Reading.{HasFront}
use Rattle.join.specs.CaseTexts.{ToldCase, CasesValue, IsToldCase, AreToldCases, AreLosses, AreTotals, IsCasesText, NoCasesText, are_inputs_of_run, are_totals_of_run, count_cuts, first_of, last_of, front_text, fronts_of, fronts_rise, goes_on, is_case_of_run, is_new_cut, told_body, told_line, told_text, totals_line}
use Rattle.join.specs.CaseReading.{AreAlike, AreCasesRead, AreFirstLines, CasesRead, IsCaseHead, IsCasesPart, IsOpening, IsSmallTotals, NoCaseHead, NoCaseLine, NoInputs, NoOpening, ReadsTotals, SaysCases, all_counted, none_told, one_told, unbounded}
use Rattle.join.specs.CaseRows.{IsSmallPart}
use Rattle.join.proofs.Texts.{cancel}
use Rattle.join.proofs.CaseLasts.{and_both, within_log}

-- whether it tells of each cut of its log
abbrev all_of : CasesValue → Bool
all_of c = are_all_cuts c.head.cuts

-- what stands after the head
abbrev findings_of : CasesValue → List ℕ
findings_of c = flat_map (told_line c.head.by) c.told ++ totals_line (all_of c) c.totals

text_is : (c : CasesValue) → told_text c ≡ opening_text c.inputs ++ (options_text c.head c.asked ++ findings_of c)
unfolding told_text
text_is c = append_assoc (opening_text c.inputs) (options_text c.head c.asked) (findings_of c)

-- the options are no line of the number of the inputs
option_byte : (h : HeadValue) (asked : Losses) (rest : List ℕ) → get_or (options_text h asked ++ rest) 0 0 ≡ 115
unfolding options_text device_text
option_byte h asked rest = refl

no_inputs : (c : CasesValue) → NoInputs (options_text c.head c.asked ++ findings_of c)
no_inputs c rest e = let bad : 115 ≡ 105 = sym (option_byte c.head c.asked (findings_of c)) ∙ ap (λ (bs : List ℕ). get_or bs 0 0) e in omega (arith, bad)

-- after the first lines
opened : (whole text : List ℕ) (inputs : Option ℕ) (c : CasesValue) → IsOpening whole inputs text → IsCasesText whole c → (inputs ≡ c.inputs) × (text ≡ options_text c.head c.asked ++ findings_of c)
opened whole text inputs c opening is = opening.only c.inputs (options_text c.head c.asked ++ findings_of c) is.inputs.small (no_inputs c) (is.is ∙ text_is c)

-- no line of a program
first_byte : (way : By) (ts : List ToldCase) (all : Bool) (t : CaseTotals) → get_or (flat_map (told_line way) ts ++ totals_line all t) 0 0 ≡ 99
unfolding told_body front_text place_text totals_line counts_text
first_byte way [] all t = refl
first_byte way (x ∷ ts) all t = refl

no_program : (c : CasesValue) → NoProgram (findings_of c)
no_program c rest e = let bad : 99 ≡ 112 = sym (first_byte c.head.by c.told (all_of c) c.totals) ∙ ap (λ (bs : List ℕ). get_or bs 0 0) e in omega (arith, bad)

pub no_opening_no_cases : (whole : List ℕ) → NoOpening whole → NoCasesText whole
no_opening_no_cases whole lack = record { none = λ c is. lack.none c.inputs (options_text c.head c.asked ++ findings_of c) is.inputs.small (no_inputs c) (is.is ∙ text_is c) }

pub no_text_no_cases : (whole : List ℕ) → (IsUtf8 whole → ⊥) → NoCasesText whole
no_text_no_cases whole lack = record { none = λ c is. lack is.utf8 }

pub rest_short : (whole text : List ℕ) (inputs : Option ℕ) → length whole ≤ 2 ^ 30 → IsOpening whole inputs text → length text ≤ 2 ^ 30
rest_short whole text inputs short opening =
    let long = ap (λ (bs : List ℕ). length bs) opening.is ∙ length-append (opening_text inputs) text in
    omega (arith, short, long)

pub no_head_no_cases : (whole text : List ℕ) (inputs : Option ℕ) → IsOpening whole inputs text → NoCaseHead text → NoCasesText whole
no_head_no_cases whole text inputs opening lack = record { none = λ c is. lack.none c.head c.asked (findings_of c) is.head is.asked (no_program c) (opened whole text inputs c opening is).1 }

-- the number of the inputs stands where it isn't told, or is lacking
inputs_alike : (h v : HeadValue) (i j : Option ℕ) → AreAlike h v → i ≡ j → are_inputs_of_run h i ≡ are_inputs_of_run v j
inputs_alike h v i j alike same =
    let o = alike.options in
    let e1 : h.cuts.from ≡ v.cuts.from = o.from in
    let e2 : h.cuts.to ≡ v.cuts.to = o.to in
    ap (λ (x : Option ℕ). are_inputs_of_run h x) same ∙ by_number j e1 e2
  where
    by_number : (x : Option ℕ) → h.cuts.from ≡ v.cuts.from → h.cuts.to ≡ v.cuts.to → are_inputs_of_run h x ≡ are_inputs_of_run v x
    by_number None from to = rw (from, to) refl
    by_number (Some n) from to = rw (from, to) refl

pub other_inputs : (whole text found : List ℕ) (inputs : Option ℕ) (h : HeadValue) (asked : Losses) → IsOpening whole inputs text → IsCaseHead text h asked found → are_inputs_of_run h inputs ≡ false → NoCasesText whole
other_inputs whole text found inputs h asked opening head lack = record { none = none }
  where
    none : (c : CasesValue) → IsCasesText whole c → ⊥
    none c is =
        let o = opened whole text inputs c opening is in
        let p = head.only c.head c.asked (findings_of c) is.head is.asked (no_program c) o.1 in
        let yes : are_inputs_of_run h inputs ≡ true = inputs_alike h c.head inputs c.inputs p.0 o.0 ∙ is.inputs.told in
        let bad : true ≡ false = sym yes ∙ lack in
        cc

-- a line of a run is one of a run whose head says the same
told_moved : (h v : HeadValue) (t : ToldCase) → AreAlike h v → IsToldCase v t → IsToldCase h t
told_moved h v t alike told =
    let o = alike.options in
    let e1 : h.entries ≡ v.entries = o.entries in
    let e2 : h.cuts.from ≡ v.cuts.from = o.from in
    let e3 : h.cuts.to ≡ v.cuts.to = o.to in
    let e4 : h.tears ≡ v.tears = o.tears in
    let e5 : h.by ≡ v.by = o.way in
    let e6 : h.programs ≡ v.programs = alike.programs in
    let same : is_case_of_run h t ≡ is_case_of_run v t = rw (e1, e2, e3, e4, e5, e6) refl in
    record { outcome = told.outcome; free = told.free; of_run = same ∙ told.of_run }

all_moved : (h v : HeadValue) (ts : List ToldCase) → AreAlike h v → AreToldCases v ts → AreToldCases h ts
all_moved h v [] alike each = tt
all_moved h v (t ∷ ts) alike each = (told_moved h v t alike each.0, all_moved h v ts alike each.1)

-- the last line is none of a case
fourth_byte : (way : By) (t : ToldCase) (rest : List ℕ) → get_or (told_line way t ++ rest) 3 0 ≡ 32
unfolding told_body front_text place_text
fourth_byte way t rest = refl

last_byte : (all : Bool) (t : CaseTotals) → get_or (totals_line all t) 3 0 ≡ 115
unfolding totals_line counts_text
last_byte all t = refl

no_case : (h : HeadValue) (all : Bool) (t : CaseTotals) → NoCaseLine h (totals_line all t)
no_case h all t = record {
  none = λ told rest own e. let bad : 115 ≡ 32 = sym (last_byte all t) ∙ ap (λ (bs : List ℕ). get_or bs 3 0) e ∙ fourth_byte h.by told rest in omega (arith, bad);
}

-- what was counted
lines_from : (t : CaseTally) (fs : List CaseFront) → (all_counted t fs).lines ≡ t.lines + length fs
unfolding all_counted
lines_from t [] = omega arith
lines_from t (f ∷ fs) = let rest = lines_from (one_told t f) fs in omega (arith, rest)

cuts_from : (t : CaseTally) (fs : List CaseFront) → (all_counted t fs).cuts ≡ t.cuts + count_cuts t.last fs
unfolding all_counted
cuts_from t [] = omega arith
cuts_from t (f ∷ fs) = let rest = cuts_from (one_told t f) fs in omega (arith, rest)

and_assoc : (a b c : Bool) → ((a && b) && c) ≡ (a && (b && c))
and_assoc true b c = refl
and_assoc false b c = refl

and_true : (a : Bool) → a ≡ (a && true)
and_true true = refl
and_true false = refl

rising_from : (t : CaseTally) (fs : List CaseFront) → (all_counted t fs).rising ≡ (t.rising && fronts_rise t.last fs)
unfolding all_counted
rising_from t [] = and_true t.rising
rising_from t (f ∷ fs) = rising_from (one_told t f) fs ∙ and_assoc t.rising (goes_on t.last f) (fronts_rise (Some f) fs)

length-fronts : (ts : List ToldCase) → length (fronts_of ts) ≡ length ts
length-fronts [] = refl
length-fronts (t ∷ ts) = ap suc (length-fronts ts)

pub record IsCounted (ts : List ToldCase) (tally : CaseTally) : Type 0 where
  pub lines : tally.lines ≡ length ts
  pub cuts : tally.cuts ≡ count_cuts None (fronts_of ts)
  pub rising : tally.rising ≡ fronts_rise None (fronts_of ts)

counted : (ts : List ToldCase) (tally : CaseTally) → tally ≡ all_counted none_told (fronts_of ts) → IsCounted ts tally
counted ts tally is = record {
  lines = let own = ap (λ (t : CaseTally). t.lines) is in let rest = lines_from none_told (fronts_of ts) in let long = length-fronts ts in omega (arith, own, rest, long);
  cuts = let own = ap (λ (t : CaseTally). t.cuts) is in let rest = cuts_from none_told (fronts_of ts) in omega (arith, own, rest);
  rising = ap (λ (t : CaseTally). t.rising) is ∙ rising_from none_told (fronts_of ts);
}

-- the totals of a run are within their ranges
record FitTotals (c : CasesValue) : Type 0 where
  cuts : c.totals.cuts ≤ 65537
  cases : c.totals.cases ≤ 16777216
  failing : c.totals.failing ≤ c.totals.cases

totals_fit : (c : CasesValue) → IsPrintedHead c.head → AreTotals c → FitTotals c
totals_fit c printed t =
    let w = within_log c.head printed in
    let a = w.entries in
    let b = w.last in
    let n : ℕ = length c.told in
    let k : ℕ = count_cuts None (fronts_of c.told) in
    let all = and_both ((c.totals.failing == n) && nat_le n c.totals.cases && nat_le c.totals.cases 16777216) (nat_le k c.totals.cuts && nat_le c.totals.cuts (last_of c.head + 1 - first_of c.head)) t.of_run in
    let most = and_both ((c.totals.failing == n) && nat_le n c.totals.cases) (nat_le c.totals.cases 16777216) all.0 in
    let own = and_both (c.totals.failing == n) (nat_le n c.totals.cases) most.0 in
    let cuts = and_both (nat_le k c.totals.cuts) (nat_le c.totals.cuts (last_of c.head + 1 - first_of c.head)) all.1 in
    let t1 = most.1 in
    let t2 = own.0 in
    let t3 = own.1 in
    let t4 = cuts.1 in
    let few : c.totals.cases ≤ 16777216 = grind (arith, nat_tests, t1) in
    let same : c.totals.failing ≡ n = grind (arith, nat_tests, t2) in
    let within : n ≤ c.totals.cases = grind (arith, nat_tests, t3) in
    let end : c.totals.cuts ≤ last_of c.head + 1 - first_of c.head = grind (arith, nat_tests, t4) in
    record { cuts = omega (arith, a, b, end); cases = few; failing = omega (arith, same, within) }

small_totals : (c : CasesValue) → IsPrintedHead c.head → AreTotals c → IsSmallTotals c.totals
small_totals c printed t =
    let f = totals_fit c printed t in
    let a = f.cuts in
    let b = f.cases in
    let d = f.failing in
    record { cuts = omega (arith, a); cases = omega (arith, b); failing = omega (arith, b, d); torn = t.torn; lost = t.lost }

-- WHAT IS READ OF A TEXT IS WHAT IT SAYS

pub record IsRead (whole text found tail : List ℕ) (inputs : Option ℕ) (h : HeadValue) (asked : Losses) (tally : CaseTally) (said : CaseTotals) : Type 0 where
  pub utf8 : IsUtf8 whole
  pub opening : IsOpening whole inputs text
  pub head : IsCaseHead text h asked found
  pub lines : AreCasesRead h found tally tail
  pub end : NoCaseLine h tail
  pub totals : ReadsTotals tail said

pub record SaysSame (c : CasesValue) (number : Option ℕ) (h : HeadValue) (w : Losses) (ts : List ToldCase) (tail : List ℕ) (said : CaseTotals) : Type 0 where
  pub inputs : number ≡ c.inputs
  pub head : AreAlike h c.head
  pub asked : w ≡ c.asked
  pub told : c.told ≡ ts
  pub last : tail ≡ totals_line (all_of c) c.totals
  pub totals : said ≡ c.totals

says_same : (whole text found last : List ℕ) (inputs : Option ℕ) (h : HeadValue) (asked : Losses) (tally : CaseTally) (totals : CaseTotals) (c : CasesValue) → (r : IsRead whole text found last inputs h asked tally totals) → IsCasesText whole c
    → SaysSame c inputs h asked r.lines.told last totals
says_same whole text found last inputs h asked tally totals c r is =
    let o = opened whole text inputs c r.opening is in
    let p = r.head.only c.head c.asked (findings_of c) is.head is.asked (no_program c) o.1 in
    let alike = p.0 in
    let way : h.by ≡ c.head.by = alike.options.way in
    let found_is : found ≡ flat_map (told_line h.by) c.told ++ totals_line (all_of c) c.totals = p.2 ∙ ap (λ (w : By). flat_map (told_line w) c.told ++ totals_line (all_of c) c.totals) (sym way) in
    let (more, are, each, last_is) = r.lines.first.left c.told (totals_line (all_of c) c.totals) (all_moved h c.head c.told alike is.told) (no_case h (all_of c) c.totals) found_is in
    let none : more ≡ [] = no_more more each last_is in
    let last_line : last ≡ totals_line (all_of c) c.totals = last_is ∙ ap (λ (xs : List ToldCase). flat_map (told_line h.by) xs ++ totals_line (all_of c) c.totals) none in
    record {
      inputs = o.0;
      head = alike;
      asked = p.1;
      told = are ∙ ap (λ (xs : List ToldCase). r.lines.told ++ xs) none ∙ append-nil r.lines.told;
      last = last_line;
      totals = r.totals.read (all_of c) c.totals (small_totals c is.head is.totals) last_line;
    }
  where
    no_more : (xs : List ToldCase) → AreToldCases h xs → last ≡ flat_map (told_line h.by) xs ++ totals_line (all_of c) c.totals → xs ≡ []
    no_more [] each e = refl
    no_more (x ∷ xs) each e = absurd (r.end.none x (flat_map (told_line h.by) xs ++ totals_line (all_of c) c.totals) each.0 (e ∙ append_assoc (told_line h.by x) (flat_map (told_line h.by) xs) (totals_line (all_of c) c.totals)))

pub not_rising : (whole text found last : List ℕ) (inputs : Option ℕ) (h : HeadValue) (asked : Losses) (tally : CaseTally) (totals : CaseTotals) → IsRead whole text found last inputs h asked tally totals → tally.rising ≡ false → NoCasesText whole
not_rising whole text found last inputs h asked tally totals r lack = record { none = none }
  where
    none : (c : CasesValue) → IsCasesText whole c → ⊥
    none c is =
        let s = says_same whole text found last inputs h asked tally totals c r is in
        let k = counted r.lines.told tally r.lines.counted in
        let yes : tally.rising ≡ true = k.rising ∙ ap (λ (ts : List ToldCase). fronts_rise None (fronts_of ts)) (sym s.told) ∙ is.rising in
        let bad : true ≡ false = sym yes ∙ lack in
        cc

totals_alike : (inputs : Option ℕ) (h : HeadValue) (asked : Losses) (c : CasesValue) (told : List ToldCase) (last : List ℕ) (tally : CaseTally) (totals : CaseTotals) → SaysSame c inputs h asked told last totals → IsCounted told tally
    → are_totals_of_run h tally.lines tally.cuts totals ≡ are_totals_of_run c.head (length c.told) (count_cuts None (fronts_of c.told)) c.totals
totals_alike inputs h asked c told last tally totals s k =
    let o = s.head.options in
    let e1 : h.entries ≡ c.head.entries = o.entries in
    let e2 : h.cuts.from ≡ c.head.cuts.from = o.from in
    let e3 : h.cuts.to ≡ c.head.cuts.to = o.to in
    let e4 : totals ≡ c.totals = s.totals in
    let e5 : tally.lines ≡ length c.told = k.lines ∙ ap (λ (ts : List ToldCase). length ts) (sym s.told) in
    let e6 : tally.cuts ≡ count_cuts None (fronts_of c.told) = k.cuts ∙ ap (λ (ts : List ToldCase). count_cuts None (fronts_of ts)) (sym s.told) in
    rw (e1, e2, e3, e4, e5, e6) refl

pub no_totals : (whole text found last : List ℕ) (inputs : Option ℕ) (h : HeadValue) (asked : Losses) (tally : CaseTally) (totals : CaseTotals) → IsRead whole text found last inputs h asked tally totals
    → are_totals_of_run h tally.lines tally.cuts totals ≡ false → NoCasesText whole
no_totals whole text found last inputs h asked tally totals r lack = record { none = none }
  where
    none : (c : CasesValue) → IsCasesText whole c → ⊥
    none c is =
        let s = says_same whole text found last inputs h asked tally totals c r is in
        let k = counted r.lines.told tally r.lines.counted in
        let yes : are_totals_of_run h tally.lines tally.cuts totals ≡ true = totals_alike inputs h asked c r.lines.told last tally totals s k ∙ is.totals.of_run in
        let bad : true ≡ false = sym yes ∙ lack in
        cc

-- heads that say the same are both of each cut of a log, or both are not
all_alike : (h v : HeadValue) → AreAlike h v → are_all_cuts h.cuts ≡ are_all_cuts v.cuts
all_alike h v alike =
    let o = alike.options in
    let e1 : h.cuts.kind ≡ v.cuts.kind = o.kind in
    let e2 : h.cuts.from ≡ v.cuts.from = o.from in
    let e3 : h.cuts.to ≡ v.cuts.to = o.to in
    rw (e1, e2, e3) refl

pub other_last : (whole text found last : List ℕ) (inputs : Option ℕ) (h : HeadValue) (asked : Losses) (tally : CaseTally) (totals : CaseTotals) → IsRead whole text found last inputs h asked tally totals
    → (last ≡ totals_line (are_all_cuts h.cuts) totals → ⊥) → NoCasesText whole
other_last whole text found last inputs h asked tally totals r lack = record { none = none }
  where
    none : (c : CasesValue) → IsCasesText whole c → ⊥
    none c is =
        let s = says_same whole text found last inputs h asked tally totals c r is in
        lack (s.last ∙ (λ i. totals_line (sym (all_alike h c.head s.head) i) (sym s.totals i)))

pub lines_in_front : (h : HeadValue) (found last : List ℕ) (tally : CaseTally) → AreCasesRead h found tally last → HasFront found last
lines_in_front h found last tally r = record { front = flat_map (told_line h.by) r.told; is = r.is }

pub is_part : (whole text found last lines : List ℕ) (inputs : Option ℕ) (h : HeadValue) (asked : Losses) (tally : CaseTally) (totals : CaseTotals) (file : ℕ) → IsRead whole text found last inputs h asked tally totals → are_inputs_of_run h inputs ≡ true → tally.rising ≡ true
    → are_totals_of_run h tally.lines tally.cuts totals ≡ true → totals.torn < 2 ^ 64 → totals.lost < 2 ^ 64 → last ≡ totals_line (are_all_cuts h.cuts) totals → ((front : List ℕ) → found ≡ front ++ last → lines ≡ front)
    → IsCasesPart whole (record { inputs = inputs; head = h; asked = asked; lines = lines; totals = totals; file = file })
is_part whole text found last lines inputs h asked tally totals file r told rises of_run torn lost last_is front = record { cases = own; is = is_own; head = refl; only = only }
  where
    k : IsCounted r.lines.told tally
    k = counted r.lines.told tally r.lines.counted

    own : CasesValue
    own = record { inputs = inputs; head = h; asked = asked; told = r.lines.told; totals = totals }

    lines_are : lines ≡ flat_map (told_line h.by) r.lines.told
    lines_are = front (flat_map (told_line h.by) r.lines.told) r.lines.is

    is_own : IsCasesText whole own
    is_own = record {
      utf8 = r.utf8;
      inputs = record { told = told; small = r.opening.small };
      head = r.head.printed;
      asked = r.head.losses;
      told = r.lines.of_run;
      rising = sym k.rising ∙ rises;
      totals = record {
        of_run = (let e1 : length r.lines.told ≡ tally.lines = sym k.lines in let e2 : count_cuts None (fronts_of r.lines.told) ≡ tally.cuts = sym k.cuts in rw (e1, e2) of_run);
        torn = torn;
        lost = lost;
      };
      is =
          r.opening.is ∙ ap (λ (bs : List ℕ). opening_text inputs ++ bs) (r.head.is ∙ ap (λ (bs : List ℕ). options_text h asked ++ bs) (r.lines.is ∙ ap (λ (bs : List ℕ). flat_map (told_line h.by) r.lines.told ++ bs) last_is))
          ∙ sym (text_is own);
    }

    only : (c : CasesValue) → IsCasesText whole c → SaysCases c (record { inputs = inputs; head = h; asked = asked; lines = lines; totals = totals; file = file })
    only c is =
        let s = says_same whole text found last inputs h asked tally totals c r is in
        let way : h.by ≡ c.head.by = s.head.options.way in
        record {
          inputs = s.inputs;
          head = s.head;
          asked = s.asked;
          lines = lines_are ∙ ap (λ (w : By). flat_map (told_line w) r.lines.told) way ∙ ap (λ (ts : List ToldCase). flat_map (told_line c.head.by) ts) (sym s.told);
          totals = s.totals;
        }

-- the numbers of a text that was read are within their ranges
pub part_small : (bytes : List ℕ) (r : CasesRead) → IsCasesPart bytes r → IsSmallPart r
part_small bytes r p =
    let own = p.is in
    let w = within_log p.cases.head own.head in
    let a = w.entries in
    let b = w.last in
    let f = totals_fit p.cases own.head own.totals in
    let same : r.totals ≡ p.cases.totals = (p.only p.cases own).totals in
    let head : r.head ≡ p.cases.head = p.head in
    record {
      last = subst (λ (h : HeadValue). last_of h ≤ 65536) (sym head) (omega (arith, a, b));
      cuts = subst (λ (t : CaseTotals). t.cuts ≤ 65537) (sym same) f.cuts;
      cases = subst (λ (t : CaseTotals). t.cases ≤ 16777216) (sym same) f.cases;
      failing = subst (λ (t : CaseTotals). t.failing ≤ t.cases) (sym same) f.failing;
      torn = subst (λ (t : CaseTotals). t.torn < 2 ^ 64) (sym same) own.totals.torn;
      lost = subst (λ (t : CaseTotals). t.lost < 2 ^ 64) (sym same) own.totals.lost;
    }

-- two readings of a text have the same totals
pub same_totals : (bytes : List ℕ) (r s : CasesRead) → IsCasesPart bytes r → IsCasesPart bytes s → r.totals ≡ s.totals
same_totals bytes r s p q = (p.only q.cases q.is).totals ∙ sym (q.only q.cases q.is).totals
