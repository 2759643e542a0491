-- What is found at cuts of one context.
use Rattle.std.proofs.Common.{ℕ, zero, suc, ◌≡◌, ◌+◌, ◌-◌, ◌==◌, ◌≤◌, ◌<◌, nat_le, nat_lt, Bool, true, false, not, ◌&&◌, List, [], ◌∷◌, length, map, filter, take, get_or, slice_get, Option, Some, None, refl, sym, ap, ◌∙◌, subst, inl, inr, arith}
use Rattle.std.specs.List.{list_all, last_or, slice_index, range_with_len}
use Rattle.std.specs.Option.{option_map_or}
use Rattle.std.proofs.lemmas.Bool.{cases_lt}
use Rattle.std.proofs.lemmas.Bool.Decides.{nat_tests}
use Rattle.std.proofs.lemmas.Option.{slice_get-get_or, slice_get_past, same_Some}
use Rattle.logfmt.specs.declared.entry.Entry.{Entry}
use Rattle.logfmt.specs.Bounds.{LogValue, IsLog}
use Rattle.logfmt.specs.Initial.{initial_byte}
use Rattle.epochs.specs.declared.unit.Unit.{Unit as LogUnit}
use Rattle.epochs.specs.Units.{unit_of, units_before, unit_content, epoch_at, marks_at}
use Rattle.epochs.specs.Cuts.{cuts_of}
use Rattle.epochs.specs.Plan.{PlanValue}
use Rattle.helpers.specs.declared.device.Context.{Context}
use Rattle.helpers.specs.Footprint.{unread, footprint_after}
use Rattle.interp.proofs.Opened.{get_take}
use Rattle.images.specs.Images.{survives, writes, byte_after, sector_after}
use Rattle.images.specs.Views.{sectors_of, context_at}
use Rattle.images.specs.Whole.{length_view}
use Rattle.images.proofs.Departing.{filter_within}
use Rattle.images.proofs.Devices.{images_are_devices}
use Rattle.images.proofs.Rows.{all_units}
use Rattle.images.proofs.Sectors.{view_there}
use Rattle.machine.specs.Outcome.{Ending, fails}
use Rattle.machine.proofs.Footprints.{footprint_tells}
use Rattle.machine.proofs.Guarded as guarded
use Rattle.checker.specs.Checker.{CheckerValue, judgement}
use Rattle.checker.specs.Footprints.{AgreeAt, kept_footprint, footprint_of}
use Rattle.checker.proofs.Alike.{judged_alike}
use Rattle.runs.specs.Blind.{covers, is_bare, whole_at, ending_on, looks_on, is_blind_at, same_context, IsLastContext}
use Rattle.runs.proofs.Unseeing.{and_first, and_second, all_at, passes_bare}

-- At cuts of one context a bare sector is the same, and so is what is found.

none_kept : (us : List LogUnit) → filter (λ (u : LogUnit). false) us ≡ []
none_kept [] = refl
none_kept (u ∷ us) = none_kept us

bare_unit : (es : List Entry) (n e j i : ℕ) (x : Entry) → is_bare es n ≡ true → slice_get es e ≡ Some x → j < x.count → writes [] n i (unit_of e x j) ≡ false
unfolding writes
bare_unit es n e j i x bare there lt = by (x.sector + j == n) refl
  where
    survived : Bool
    survived = survives [] i (unit_of e x j)

    by : (b : Bool) → (x.sector + j == n) ≡ b → (b && survived) ≡ false
    by false same = refl
    by true same =
        let is : x.sector + j ≡ n = grind (arith, nat_tests, same) in
        let first : x.sector ≤ n = omega (arith, is) in
        let last : n < x.sector + x.count = omega (arith, is, lt) in
        let there_too : covers n x ≡ true = grind (arith, nat_tests, first, last) in
        let not_it : not (covers n x) ≡ true = all_at (λ (e : Entry). not (covers n e)) es e x bare there in
        absurd (let bad : false ≡ true = ap not (sym there_too) ∙ not_it in cc)

bare_sector : (log : LogValue) (cut n : ℕ) → cut ≤ length log.entries → is_bare log.entries n ≡ true → sector_after log (units_before log.entries cut) [] n ≡ sector_after log [] [] n
unfolding sector_after byte_after
bare_sector log cut n le bare =
    ap (λ (f : ℕ → ℕ). map f (range_with_len 0 512))
    (λ j i. ap (λ (vs : List LogUnit). option_map_or (λ (u : LogUnit). slice_index (unit_content log.entries u) i) (last_or None vs) (initial_byte log.initial n i))
    (filter_within (writes [] n i) (λ u. false) (units_before log.entries cut)
    (all_units (λ u. writes [] n i u ≡ false) log.entries cut le (λ e x p lt there within. bare_unit log.entries n e p i x bare there within))
    ∙ none_kept (units_before log.entries cut)) j)

bare_there : (log : LogValue) (cut n : ℕ) → cut ≤ length log.entries → is_bare log.entries n ≡ true → n < log.sectors
    → slice_get (sectors_of (whole_at log cut)) n ≡ Some (sector_after log [] [] n)
bare_there log cut n le bare inside = view_there (whole_at log cut) n inside ∙ ap (λ (s : List ℕ). Some s) (bare_sector log cut n le bare)

bare_alike : (log : LogValue) (k j n : ℕ) → k ≤ length log.entries → j ≤ length log.entries → is_bare log.entries n ≡ true
    → slice_get (sectors_of (whole_at log k)) n ≡ slice_get (sectors_of (whole_at log j)) n
bare_alike log k j n le other bare = elim (cases_lt n log.sectors) [
  | inl inside ↦ bare_there log k n le bare inside ∙ sym (bare_there log j n other bare inside)
  | inr past ↦
      let long : length (sectors_of (whole_at log k)) ≡ log.sectors = length_view (whole_at log k) in
      let other_long : length (sectors_of (whole_at log j)) ≡ log.sectors = length_view (whole_at log j) in
      slice_get_past (sectors_of (whole_at log k)) n (omega (arith, past, long)) ∙ sym (slice_get_past (sectors_of (whole_at log j)) n (omega (arith, past, other_long)))
]

agree_cuts : (log : LogValue) (k j : ℕ) (sectors : List ℕ) → IsLog log → k ≤ length log.entries → j ≤ length log.entries → list_all (is_bare log.entries) sectors ≡ true
    → AgreeAt sectors (sectors_of (whole_at log k)) (sectors_of (whole_at log j))
agree_cuts log k j sectors bounds le other bare =
    let shows = images_are_devices (whole_at log k) bounds in
    let others = images_are_devices (whole_at log j) bounds in
    record {
      count = shows.count ∙ sym others.count;
      whole = shows.long;
      others = others.long;
      same =
          λ i d lt.
          let here = all_at (is_bare log.entries) sectors i (get_or sectors i d) bare (slice_get-get_or sectors i d lt) in
          bare_alike log k j (get_or sectors i d) le other here;
    }

moved : (checker : CheckerValue) (log : LogValue) (k j : ℕ) → ending_on checker (whole_at log j) ≡ ending_on checker (whole_at log k)
    → looks_on checker (whole_at log j) ≡ looks_on checker (whole_at log k) → is_blind_at checker log k ≡ true → is_blind_at checker log j ≡ true
unfolding is_blind_at
moved checker log k j ends looks blind =
    ap (λ (e : Ending). not (fails e) && option_map_or (list_all (is_bare log.entries)) (looks_on checker (whole_at log j)) false) ends
    ∙ ap (λ (o : Option (List ℕ)). not (fails (ending_on checker (whole_at log k))) && option_map_or (list_all (is_bare log.entries)) o false) looks
    ∙ blind

-- it ends in the same there, and looks at the same
pub blind_on : (checker : CheckerValue) (log : LogValue) (k j : ℕ) → IsLog log → k ≤ length log.entries → j ≤ length log.entries
    → context_at log k ≡ context_at log j → is_blind_at checker log k ≡ true → is_blind_at checker log j ≡ true
unfolding ending_on looks_on
blind_on checker log k j bounds le other context blind =
    let passed = passes_bare checker log k blind in
    let device = sectors_of (whole_at log k) in
    let next = sectors_of (whole_at log j) in
    let alike = judged_alike footprint_tells guarded.footprint_tells checker device next (context_at log k) 32 passed.sectors passed.looks (agree_cuts log k j passed.sectors bounds le other passed.bare) in
    let ends : ending_on checker (whole_at log j) ≡ ending_on checker (whole_at log k) =
    ap (judgement checker next) (sym context) ∙ alike.ends in
    let looks : looks_on checker (whole_at log j) ≡ looks_on checker (whole_at log k) =
    ap (λ (c : Context). (kept_footprint 32 checker next c).sectors) (sym context)
    ∙ ap (λ (numbers : List ℕ). (footprint_after (unread 32) numbers).sectors) alike.looks in
    moved checker log k j ends looks blind

pub same_found : (checker : CheckerValue) (log : LogValue) (plan : PlanValue) (place : ℕ) → plan.log ≡ log → IsLog log → 0 < place → place < length (cuts_of plan.kind log.entries)
    → ((last : ℕ) × (cut : ℕ) × IsLastContext plan place last cut) → list_all (is_blind_at checker log) (take place (cuts_of plan.kind log.entries)) ≡ true
    → (cut : ℕ) → slice_get (cuts_of plan.kind log.entries) place ≡ Some cut → true ≡ is_blind_at checker log cut
same_found checker log plan place of_log bounds some inside found before cut there =
    let last : ℕ = found.0 in
    let own : ℕ = found.1 in
    let is = found.2 in
    let cuts = cuts_of plan.kind log.entries in
    let entries = ap (λ (l : LogValue). l.entries) of_log in
    let here : slice_get cuts place ≡ Some own = subst (λ (es : List Entry). slice_get (cuts_of plan.kind es) place ≡ Some own) entries is.here in
    let one : own ≡ cut = same_Some own cut (sym here ∙ there) in
    let earlier : slice_get cuts (place - 1) ≡ Some last = subst (λ (es : List Entry). slice_get (cuts_of plan.kind es) (place - 1) ≡ Some last) entries is.before in
    let low : place - 1 < place = omega (arith, some) in
    let taken : slice_get (take place cuts) (place - 1) ≡ Some last = get_take place (place - 1) cuts low ∙ earlier in
    let known : is_blind_at checker log last ≡ true = all_at (is_blind_at checker log) (take place cuts) (place - 1) last before taken in
    let le : last ≤ length log.entries = subst (λ (es : List Entry). last ≤ length es) entries is.low in
    let within : own ≤ length log.entries = subst (λ (es : List Entry). own ≤ length es) entries is.within in
    let test : same_context log.entries last own ≡ true = subst (λ (es : List Entry). same_context es last own ≡ true) entries is.same in
    let a : ℕ = epoch_at log.entries last in
    let b : ℕ = epoch_at log.entries own in
    let x : ℕ = marks_at log.entries last in
    let y : ℕ = marks_at log.entries own in
    let epochs : (a == b) ≡ true = and_first (a == b) (x == y) test in
    let marks : (x == y) ≡ true = and_second (a == b) (x == y) test in
    let epoch : a ≡ b = grind (arith, nat_tests, epochs) in
    let mark : x ≡ y = grind (arith, nat_tests, marks) in
    let context : context_at log last ≡ context_at log own = λ i. record { sectors = log.sectors; epoch = epoch i; marks = mark i } in
    sym (ap (is_blind_at checker log) (sym one) ∙ blind_on checker log last own bounds le within context known)
