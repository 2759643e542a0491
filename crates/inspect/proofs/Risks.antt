-- What the cuts leave open at which cases are looked for.
use Rattle.std.proofs.Common.{ℕ, suc, ◌≡◌, ◌≤◌, ◌+◌, ◌-◌, Bool, true, false, if◌then◌else◌, All, List, [], ◌∷◌, length, map, filter, take, Option, None, Some, MatchOption, refl, sym, ap, ◌∙◌, arith, length-append}
use Rattle.std.specs.List.{range_with_len}
use Rattle.std.proofs.lemmas.List.Elements.{All-map, All-same}
use Rattle.std.proofs.lemmas.List.Sums.{length-filter, count_by-le-length, sum_by-cons, sum_by-take-le}
use Rattle.std.proofs.lemmas.List.FromFn.{length-map-range_with_len, length-range_with_len}
use Rattle.base.specs.Sizes.{most_units}
use Rattle.logfmt.specs.declared.entry.Entry.{Entry}
use Rattle.logfmt.specs.Bounds.{LogValue, IsLog, units_of}
use Rattle.epochs.specs.declared.part.Part.{Part}
use Rattle.epochs.specs.declared.part.By.{By}
use Rattle.epochs.specs.declared.cuts.Cuts.{Cuts}
use Rattle.epochs.specs.Cuts.{cuts_of, is_wanted}
use Rattle.epochs.specs.Units.{of_entries}
use Rattle.epochs.specs.Parts.{part_count, part_of, parts_of_entry, parts_before}
use Rattle.epochs.proofs.Parts.{parts_few}
use Rattle.cases.specs.Risk.{is_at_risk, parts_at_risk}
use Rattle.cases.specs.AtCut.{CutValue, parts_of}
use Rattle.case_runs.specs.Cuts.{explored_cuts, is_explored}
use Rattle.request.specs.declared.any_losses.AnyLosses.{AnyLosses}
use Rattle.request.specs.declared.settings.OptionPlace.TheVariants as place
use Rattle.request.specs.declared.settings.Settings.{Settings}
use Rattle.request.specs.Settings.{option_refusal}
use Rattle.request.specs.Source.{Recording, IsLogOf}
use Rattle.inspect.specs.declared.looks.risks.CutRisk.{CutRisk}
use Rattle.case_runs.specs.Cuts.{are_last_enough, first_wanted, last_wanted, case_cuts}
use Rattle.inspect.specs.CutLayout.{is_cut_layout}
use Rattle.inspect.specs.CutSurvey.{risk_at, RefusesCutSurvey, for_cut_parts}

-- the parts of entries, counted
parts_counted : (way : By) (e : ℕ) (xs : List Entry) → length (of_entries (parts_of_entry way) e xs) ≤ units_of xs
parts_counted way e [] = omega arith
parts_counted way e (x ∷ xs) =
    let own : length (parts_of_entry way e x) ≡ part_count way x = length-map-range_with_len (part_of way e x) 0 (part_count way x) in
    let rest = parts_counted way (suc e) xs in
    let both = length-append (parts_of_entry way e x) (of_entries (parts_of_entry way) (suc e) xs) in
    omega (arith, own, rest, both, parts_few way x, sum_by-cons (λ (entry : Entry). entry.count) x xs)

kept : {X : Type 0} (p : X → Bool) (xs : List X) → length (filter p xs) ≤ length xs
kept p xs = let long = length-filter p xs in let fewer = count_by-le-length p xs in omega (arith, long, fewer)

-- no cut has more parts at risk than a log has units
pub few_at_risk : (at : CutValue) → IsLog at.log → length (parts_of at) ≤ most_units
unfolding parts_at_risk
few_at_risk at log =
    let some = kept (λ (p : Part). is_at_risk at.log.entries at.cut p.entry) (parts_before at.way at.log.entries at.cut) in
    let all = parts_counted at.way 0 (take at.cut at.log.entries) in
    let before = sum_by-take-le (λ (entry : Entry). entry.count) at.log.entries at.cut in
    omega (arith, some, all, before, log.units)

few_explored : (es : List Entry) (from to : ℕ) → length (explored_cuts es from to) ≤ to + 1 - from
few_explored es from to =
    let some = kept (is_explored es to) (range_with_len from (to + 1 - from)) in
    let long = length-range_with_len from (to + 1 - from) in
    omega (arith, some, long)

few_wanted : (cuts : Cuts) (es : List Entry) → length (cuts_of cuts es) ≤ length es + 1
few_wanted cuts es =
    let some = kept (is_wanted cuts es) (range_with_len 0 (length es + 1)) in
    let long = length-range_with_len 0 (length es + 1) in
    omega (arith, some, long)

-- there are no more of these cuts than a log has
pub few_cuts : (l : AnyLosses) (cuts : Cuts) (es : List Entry) → length (case_cuts l.at_most cuts es) ≤ length es + 1
unfolding case_cuts
few_cuts l cuts es =
    elim (are_last_enough l.at_most cuts) as (λ b. length (if b then explored_cuts es (first_wanted cuts (length es)) (last_wanted cuts (length es)) else cuts_of cuts es) ≤ length es + 1) [
      | true ↦
          let some = few_explored es (first_wanted cuts (length es)) (last_wanted cuts (length es)) in
          omega (arith, some)
      | false ↦ few_wanted cuts es
    ]

long : (f : ℕ → CutRisk) (cuts : List ℕ) → length (map f cuts) ≡ length cuts
long f [] = refl
long f (cut ∷ cuts) = ap suc (long f cuts)

-- what they leave open, each once
pub few_risks : (f : ℕ → CutRisk) (l : AnyLosses) (wanted : Cuts) (es : List Entry) (cuts given : List ℕ) (risks : List CutRisk) → risks ≡ map f given → given ≡ cuts
    → cuts ≡ case_cuts l.at_most wanted es → length es ≤ 65536 → length risks ≤ 65537
few_risks f l wanted es cuts given risks are same is few =
    let all = few_cuts l wanted es in
    let count = ap length are in
    let own = long f given in
    let copied = ap length same in
    let found = ap length is in
    omega (arith, all, count, own, copied, found, few)

-- and it stands at cuts of the log
pub within_log : (way : By) (value : LogValue) (cuts given : List ℕ) (risks : List CutRisk)
    → risks ≡ map (λ (cut : ℕ). risk_at (record { log = value; way = way; cut = cut })) given → given ≡ cuts → All (λ cut. cut ≤ length value.entries) cuts
    → All (λ (r : CutRisk). r.cut ≤ length value.entries) risks
within_log way value cuts given risks are same within =
    let own = All-map (λ (r : CutRisk). r.cut ≤ length value.entries) (λ (cut : ℕ). risk_at (record { log = value; way = way; cut = cut })) cuts within in
    let all = All-same (λ (r : CutRisk). r.cut ≤ length value.entries) (map (λ (cut : ℕ). risk_at (record { log = value; way = way; cut = cut })) given)
    (map (λ (cut : ℕ). risk_at (record { log = value; way = way; cut = cut })) cuts) (ap (map (λ (cut : ℕ). risk_at (record { log = value; way = way; cut = cut }))) same) own in
    All-same (λ (r : CutRisk). r.cut ≤ length value.entries) risks (map (λ (cut : ℕ). risk_at (record { log = value; way = way; cut = cut })) given) are all

-- a run can't be laid out in that many parts
pub cut_parts_refused : (parts : Option ℕ) (text : Recording) (s : Settings) (value : LogValue) (can : Bool) → IsLogOf text s value
    → MatchOption parts (can ≡ true) (λ count. can ≡ is_cut_layout count) → can ≡ false → RefusesCutSurvey parts text s (option_refusal place.Parts)
cut_parts_refused None text s value can reads says cannot = absurd (let bad : true ≡ false = sym says ∙ cannot in cc)
cut_parts_refused (Some count) text s value can reads says cannot = for_cut_parts value count reads refl (sym says ∙ cannot)
