-- What is found with each checker, and at each cut.
use Rattle.std.proofs.Common.{ℕ, ◌≡◌, ◌+◌, ◌≤◌, List, [], ◌∷◌, ◌++◌, length, slice_get, None, Some, refl, sym, subst, ◌∙◌, ap, arith, inl, inr}
use Rattle.std.proofs.Math.ListN.{length-append}
use Rattle.std.proofs.lemmas.List.Sums.{sum_by_push}
use Rattle.std.proofs.lemmas.Option.{same_Some}
use Rattle.base.proofs.Lists.{slice_get_of_push}
use Rattle.logfmt.specs.Bounds.{LogValue}
use Rattle.epochs.specs.declared.part.By.{By}
use Rattle.helpers.specs.declared.device.Context.{Context}
use Rattle.images.specs.Views.{context_at}
use Rattle.checker.specs.Checker.{CheckerValue, AreFor, IsFor}
use Rattle.checker.proofs.Suiting.{for_each}
use Rattle.cases.specs.Cases.{Case}
use Rattle.cases.specs.Trees.{Subject, AreLeaves, no_case, is_beyond, is_leaf, is_split}
use Rattle.cases.specs.AtCut.{CutValue}
use Rattle.cases.specs.Search.{LeadTo, are_there, past_beyond, past_leaf, past_split}
use Rattle.losses.specs.declared.found.Losses.{Losses}
use Rattle.losses.specs.declared.found.CaseFindings.{CaseFindings}
use Rattle.losses.specs.declared.found.CutFound.{CutFound}
use Rattle.case_runs.specs.Leaves.{IsFit}
use Rattle.case_runs.specs.declared.found.SearchFault.{SearchFault}
use Rattle.case_runs.specs.declared.found.SearchFault.TheVariants as fault
use Rattle.losses.specs.FoundCases.{cases_at, cases_in, most_cases}
use Rattle.case_runs.specs.Found.{IsFoundAt, AreFoundAt, AreFoundIn, AreFirstAt, AreFirstIn, AreTooMany, StopsAtOne, StopsAt, StopsIn}

pub found_none : (asked : Losses) (at : CutValue) (checkers : List CheckerValue) → AreFirstAt asked at checkers 0 []
found_none asked at checkers = record { count = refl; each = λ i c f one two. absurd (let bad : None ≡ Some f = two in cc) }

pub found_more : (asked : Losses) (at : CutValue) (checkers : List CheckerValue) (n : ℕ) (found now : List CaseFindings) (c : CheckerValue) (f : CaseFindings) → AreFirstAt asked at checkers n found
    → now ≡ found ++ f ∷ [] → slice_get checkers n ≡ Some c → IsFoundAt asked at c f → AreFirstAt asked at checkers (n + 1) now
found_more asked at checkers n found now c f so is there own = record {
  count = let many = so.count in ap (λ (fs : List CaseFindings). length fs) is ∙ (omega (arith, many, length-append found (f ∷ [])));
  each = λ i d g one two. elim (slice_get_of_push found f i g (subst (λ (fs : List CaseFindings). slice_get fs i ≡ Some g) is two)) [
    | inl was ↦ so.each i d g one was
    | inr last ↦
        let at_end : i ≡ n = last.0 ∙ so.count in
        let same : Some c ≡ Some d = sym there ∙ ap (λ j. slice_get checkers j) (sym at_end) ∙ one in
        subst (λ (x : CheckerValue). IsFoundAt asked at x g) (same_Some c d same) (subst (λ (h : CaseFindings). IsFoundAt asked at c h) (sym last.1) own)
  ];
}

pub found_all : (asked : Losses) (at : CutValue) (checkers : List CheckerValue) (n : ℕ) (found : List CaseFindings) → AreFirstAt asked at checkers n found → n ≤ length checkers → length checkers ≤ n
    → AreFoundAt asked at checkers found
found_all asked at checkers n found so low high = record { count = (let many = so.count in omega (arith, many, low, high)); each = so.each }

pub fits : (log : LogValue) (cut n : ℕ) (context : Context) (checkers : List CheckerValue) (c : CheckerValue) → context ≡ context_at log cut → context.epoch ≤ 65536 → context.marks ≤ 65536
    → AreFor log.sectors checkers → slice_get checkers n ≡ Some c → IsFit c context
fits log cut n context checkers c is epoch marks for there = record {
  device = subst (λ m. IsFor m c.verified) (sym (ap (λ (x : Context). x.sectors) is)) (for_each log.sectors checkers n c for there);
  epoch = epoch;
  marks = marks;
}

pub in_none : (asked : Losses) (log : LogValue) (way : By) (cuts : List ℕ) (checkers : List CheckerValue) → AreFirstIn asked log way cuts checkers 0 []
in_none asked log way cuts checkers = record {
  count = refl;
  cut = λ i k f one two. absurd (let bad : None ≡ Some f = two in cc);
  each = λ i k f one two. absurd (let bad : None ≡ Some f = two in cc);
}

pub in_more : (asked : Losses) (log : LogValue) (way : By) (cuts : List ℕ) (checkers : List CheckerValue) (n : ℕ) (found now : List CutFound) (k : ℕ) (f : CutFound)
    → AreFirstIn asked log way cuts checkers n found → now ≡ found ++ f ∷ [] → slice_get cuts n ≡ Some k → f.cut ≡ k
    → AreFoundAt asked (record { log = log; way = way; cut = k }) checkers f.programs.items → AreFirstIn asked log way cuts checkers (n + 1) now
in_more asked log way cuts checkers n found now k f so is there at_cut own = record {
  count = let many = so.count in ap (λ (fs : List CutFound). length fs) is ∙ (omega (arith, many, length-append found (f ∷ [])));
  cut = λ i j g one two. elim (slice_get_of_push found f i g (subst (λ (fs : List CutFound). slice_get fs i ≡ Some g) is two)) [
    | inl was ↦ so.cut i j g one was
    | inr last ↦ ap (λ (h : CutFound). h.cut) last.1 ∙ at_cut ∙ same i j one (last.0 ∙ so.count)
  ];
  each = λ i j g one two. elim (slice_get_of_push found f i g (subst (λ (fs : List CutFound). slice_get fs i ≡ Some g) is two)) [
    | inl was ↦ so.each i j g one was
    | inr last ↦
        subst (λ m. AreFoundAt asked (record { log = log; way = way; cut = m }) checkers g.programs.items) (same i j one (last.0 ∙ so.count))
        (subst (λ (h : CutFound). AreFoundAt asked (record { log = log; way = way; cut = k }) checkers h.programs.items) (sym last.1) own)
  ];
}
  where
    same : (i j : ℕ) → slice_get cuts i ≡ Some j → i ≡ n → k ≡ j
    same i j one at_end = let e : Some k ≡ Some j = sym there ∙ ap (λ m. slice_get cuts m) (sym at_end) ∙ one in same_Some k j e

pub in_all : (asked : Losses) (log : LogValue) (way : By) (cuts : List ℕ) (checkers : List CheckerValue) (n : ℕ) (found : List CutFound) → AreFirstIn asked log way cuts checkers n found
    → n ≤ length cuts → length cuts ≤ n → AreFoundIn asked log way cuts checkers found
in_all asked log way cuts checkers n found so low high = record { count = (let many = so.count in omega (arith, many, low, high)); cut = so.cut; each = so.each }

-- how many cases may still be met

pub counted_one : (first was now : ℕ) (found next : List CaseFindings) (f : CaseFindings) → first ≡ was + cases_at found → was ≡ now + f.cases → next ≡ found ++ f ∷ [] → first ≡ now + cases_at next
counted_one first was now found next f so took put =
    let all = ap (λ (fs : List CaseFindings). cases_at fs) put ∙ sum_by_push (λ (g : CaseFindings). g.cases) found f in
    omega (arith, so, took, all)

pub counted_cut : (first was now : ℕ) (found next : List CutFound) (f : CutFound) → first ≡ was + cases_in found → was ≡ now + cases_at f.programs.items → next ≡ found ++ f ∷ []
    → first ≡ now + cases_in next
counted_cut first was now found next f so took put =
    let all = ap (λ (fs : List CutFound). cases_in fs) put ∙ sum_by_push (λ (c : CutFound). cases_at c.programs.items) found f in
    omega (arith, so, took, all)

-- of a search that has ended all leaves are told

pub led : (s : Subject) (cs leaves left : List Case) → AreLeaves s cs leaves left → LeadTo s [] cs leaves left
led s cs leaves left no_case = are_there
led s cs leaves left (is_beyond c xs ls more out rest) = past_beyond c xs ls more out (led s xs ls more rest)
led s cs leaves left (is_leaf c xs ls more within none rest) = past_leaf c xs ls more within none (led s xs ls more rest)
led s cs leaves left (is_split c it xs ls more within some rest) = past_split c it xs ls more within some (led s _ ls more rest)

-- where it stops

pub stops_here : (asked : Losses) (at : CutValue) (checkers : List CheckerValue) (n first left : ℕ) (found : List CaseFindings) (c : CheckerValue) (why : SearchFault) → AreFirstAt asked at checkers n found
    → slice_get checkers n ≡ Some c → first ≡ left + cases_at found → StopsAtOne asked at c left why → StopsAt asked at checkers first why
stops_here asked at checkers n first left found c fault.Memory so there counted stop = tt
stops_here asked at checkers n first left found c (fault.TooMany cut) so there counted stop =
    (stop.0, record { number = n; before = found; are = so; checker = c; own = there; rest = left; counted = counted; past = stop.1 })

pub stops_there : (asked : Losses) (log : LogValue) (way : By) (cuts : List ℕ) (checkers : List CheckerValue) (n k left : ℕ) (found : List CutFound) (why : SearchFault)
    → AreFirstIn asked log way cuts checkers n found → slice_get cuts n ≡ Some k → most_cases ≡ left + cases_in found
    → StopsAt asked (record { log = log; way = way; cut = k }) checkers left why → StopsIn asked log way cuts checkers why
stops_there asked log way cuts checkers n k left found fault.Memory so there counted stop = tt
stops_there asked log way cuts checkers n k left found (fault.TooMany cut) so there counted stop =
    subst (λ m. AreTooMany asked log way cuts checkers m) (sym stop.0)
    (record { place = n; own = there; before = found; are = so; rest = left; counted = counted; past = stop.1 })
