-- A flush in the window of a case takes its images away.
use Rattle.std.proofs.Common.{ℕ, zero, suc, ◌≡◌, ◌+◌, ◌<◌, ◌≤◌, ◌==◌, nat_lt, nat_le, max, Bool, true, false, not, ◌&&◌, ◌||◌, ◌⊎◌, if◌then◌else◌, List, [], ◌∷◌, ◌++◌, length, filter, find, reverse, slice_get, Option, None, Some, refl, sym, subst, ◌∙◌, ap, arith, inl, inr}
use Rattle.std.specs.List.{list_all}
use Rattle.std.specs.Option.{option_map}
use Rattle.std.proofs.lemmas.Bool.Decides.{eqb_tells, nat_tests}
use Rattle.std.proofs.lemmas.Int.{clamps}
use Rattle.std.proofs.lemmas.Option.{slice_get_cases, same_Some}
use Rattle.logfmt.specs.declared.entry.Entry.{Entry}
use Rattle.logfmt.specs.Flushed.{with_flush, flushed_at, is_place}
use Rattle.logfmt.proofs.Flushed.{entry-flushed, length-flushed}
use Rattle.epochs.specs.declared.part.Part.{Part}
use Rattle.epochs.specs.declared.part.By.{By}
use Rattle.epochs.specs.Parts.{parts_before}
use Rattle.epochs.specs.Units.{is_forced, is_flush_between}
use Rattle.choices.specs.declared.fate.Fate.{Fate}
use Rattle.choices.specs.declared.choice.Departure.{Departure}
use Rattle.cases.specs.Risk.{is_at_risk, parts_at_risk}
use Rattle.cases.specs.Choices.{Choice, departs, departures}
use Rattle.cases.specs.Trees.{is_lost}
use Rattle.cases.specs.Laws.{IsAmong}
use Rattle.cases.specs.AtCut.{parts_of}
use Rattle.cases.proofs.Cases.{kept_among, among_kept}
use Rattle.cases.proofs.Cuts.{flush_between-next}
use Rattle.cases.proofs.Rows.{among_append_left, among_append_right, part_before}
use Rattle.losses.specs.declared.flushes.window.Window.{Window}
use Rattle.case_text.specs.Known.{is_never_whole, is_never_gone, entry_where, first_lost, last_arrived}
use Rattle.case_text.specs.Window.{stays, last_below, last_staying, later, between}
use Rattle.case_text.specs.Laws.{NoneDeparts, FlushTakesCaseAway}

-- the entries between which a window lies
record IsBetween (first last : Option ℕ) (w : Window) : Type 0 where
  from : ℕ
  from_is : first ≡ Some from
  to : ℕ
  to_is : last ≡ Some to
  order : from < to
  start : w.start ≡ from + 1
  end : w.end ≡ to

between_told : (first last : Option ℕ) (w : Window) → between first last ≡ Some w → IsBetween first last w
between_told None last w is = absurd (let bad : None ≡ Some w = is in cc)
between_told (Some from) None w is = absurd (let bad : None ≡ Some w = is in cc)
between_told (Some from) (Some to) w is = by_test (nat_lt from to) refl is
  where
    held : Window
    held = record { start = from + 1; end = to }

    by_test : (b : Bool) → nat_lt from to ≡ b → (if b then Some held else None) ≡ Some w → IsBetween (Some from) (Some to) w
    by_test true less some =
        let same : held ≡ w = same_Some held w some in
        record {
          from = from;
          from_is = refl;
          to = to;
          to_is = refl;
          order = grind (arith, nat_tests, less);
          start = sym (ap (λ (v : Window). v.start) same);
          end = sym (ap (λ (v : Window). v.end) same);
        }
    by_test false less some = absurd (let bad : None ≡ Some w = some in cc)

below_told : (test : ℕ → Bool) (n e : ℕ) → last_below test n ≡ Some e → e < n
below_told test zero e is = absurd (let bad : None ≡ Some e = is in cc)
below_told test (suc n) e is = by_test (below_told test n e) (test n) is
  where
    by_test : (last_below test n ≡ Some e → e < n) → (b : Bool) → (if b then Some n else last_below test n) ≡ Some e → e < suc n
    by_test told true some = let same : n ≡ e = same_Some n e some in omega (arith, same)
    by_test told false rest = let less = told rest in omega (arith, less)

later_told : (one other : Option ℕ) (n e : ℕ) → ((x : ℕ) → one ≡ Some x → x < n) → ((x : ℕ) → other ≡ Some x → x < n) → later one other ≡ Some e → e < n
later_told None other n e first second is = second e is
later_told (Some x) None n e first second is = first e is
later_told (Some x) (Some y) n e first second is =
    let low = first x refl in
    let high = second y refl in
    let same : max x y ≡ e = same_Some (max x y) e is in
    omega (arith, clamps, low, high, same)

-- a part by its entry, for which a test holds
record IsFoundIn (test : Part → Bool) (parts : List Part) (e : ℕ) : Type 0 where
  part : Part
  among : IsAmong parts part
  passes : test part ≡ true
  entry : part.entry ≡ e

found_told : (test : Part → Bool) (parts : List Part) (e : ℕ) → entry_where test parts ≡ Some e → IsFoundIn test parts e
found_told test [] e is = absurd (let bad : None ≡ Some e = is in cc)
found_told test (q ∷ parts) e is = by_test (found_told test parts e) (test q) refl is
  where
    by_test : (entry_where test parts ≡ Some e → IsFoundIn test parts e) → (b : Bool) → test q ≡ b
        → option_map (λ (p : Part). p.entry) (if b then Some q else find test parts) ≡ Some e → IsFoundIn test (q ∷ parts) e
    by_test told true passes some = record { part = q; among = inl refl; passes = passes; entry = same_Some q.entry e some }
    by_test told false fails rest =
        let it = told rest in
        record { part = it.part; among = inr it.among; passes = it.passes; entry = it.entry }

pub among_both : {A : Type 0} (xs ys : List A) (x : A) → IsAmong (xs ++ ys) x → IsAmong xs x ⊎ IsAmong ys x
among_both [] ys x among = inr among
among_both (y ∷ xs) ys x (inl same) = inl (inl same)
among_both (y ∷ xs) ys x (inr rest) = by_rest (among_both xs ys x rest)
  where
    by_rest : IsAmong xs x ⊎ IsAmong ys x → IsAmong (y ∷ xs) x ⊎ IsAmong ys x
    by_rest (inl among) = inl (inr among)
    by_rest (inr among) = inr among

pub turned_among : {A : Type 0} (xs : List A) (x : A) → IsAmong (reverse xs) x → IsAmong xs x
turned_among [] x among = among
turned_among (y ∷ xs) x among =
    elim (among_both (reverse xs) (y ∷ []) x (subst (λ zs. IsAmong zs x) (Rattle.std.proofs.lemmas.List.reverse-append (y ∷ []) xs) among)) [
      | inl early ↦ inr (turned_among xs x early)
      | inr late ↦ of_last late
    ]
  where
    of_last : (y ≡ x) ⊎ ⊥ → IsAmong (y ∷ xs) x
    of_last (inl same) = inl same
    of_last (inr none) = absurd none

-- a part at risk is one before the cut, of an entry at risk
pub risky_told : (way : By) (es : List Entry) (k : ℕ) (p : Part) → IsAmong (parts_at_risk way es k) p → IsAmong (parts_before way es k) p × (is_at_risk es k p.entry ≡ true)
unfolding parts_at_risk
risky_told way es k p among = among_kept (λ (q : Part). is_at_risk es k q.entry) (parts_before way es k) p among

-- what becomes of a part that isn't whole
lost_some : (o : Option Fate) → is_lost o ≡ true → (f : Fate) × (o ≡ Some f)
lost_some None is = absurd (let bad : false ≡ true = is in cc)
lost_some (Some f) is = (f, refl)

all_among : {A : Type 0} (test : A → Bool) (xs : List A) (x : A) → list_all test xs ≡ true → IsAmong xs x → test x ≡ true
all_among test [] x all among = absurd among
all_among test (y ∷ xs) x all (inl same) = ap test (sym same) ∙ Rattle.std.specs.Cmp.first_so (test y) (list_all test xs) all
all_among test (y ∷ xs) x all (inr rest) = all_among test xs x (Rattle.std.specs.Cmp.second_so (test y) (list_all test xs) all) rest

-- a part that isn't whole departs, and what departs is one of the parts
departs_so : (choice : Choice) (parts : List Part) (p : Part) (f : Fate) → IsAmong parts p → choice p ≡ Some f → IsAmong (departures choice parts) (record { part = p; fate = f })
departs_so choice [] p f among is = absurd among
departs_so choice (q ∷ parts) p f (inl same) is =
    among_append_left (departs q (choice q)) (departures choice parts) (record { part = p; fate = f })
    (subst (λ (r : Part). IsAmong (departs r (choice r)) (record { part = p; fate = f })) (sym same) (subst (λ o. IsAmong (departs p o) (record { part = p; fate = f })) (sym is) (inl refl)))
departs_so choice (q ∷ parts) p f (inr rest) is =
    among_append_right (departs q (choice q)) (departures choice parts) (record { part = p; fate = f }) (departs_so choice parts p f rest is)

part_of_one : (choice : Choice) (parts : List Part) (d : Departure) → IsAmong (departures choice parts) d → IsAmong parts d.part
part_of_one choice [] d among = absurd among
part_of_one choice (q ∷ parts) d among = by_fate (part_of_one choice parts d) (choice q) among
  where
    of_first : (IsAmong (departures choice parts) d → IsAmong parts d.part) → (f : Fate)
        → (record { part = q; fate = f } ≡ d) ⊎ IsAmong (departures choice parts) d → IsAmong (q ∷ parts) d.part
    of_first told f (inl same) = inl (ap (λ (e : Departure). e.part) same)
    of_first told f (inr rest) = inr (told rest)

    by_fate : (IsAmong (departures choice parts) d → IsAmong parts d.part) → (o : Option Fate) → IsAmong (departs q o ++ departures choice parts) d → IsAmong (q ∷ parts) d.part
    by_fate told None rest = inr (told rest)
    by_fate told (Some f) rest = of_first told f rest

-- a flush entry stands between two places
pub flush_there : (es : List Entry) (f p k : ℕ) (x : Entry) → slice_get es p ≡ Some x → x.flags.flush ≡ true → f < p → p < k → k ≤ length es → is_flush_between es f k ≡ true
flush_there es f p zero x there is low high within = absurd (omega (arith, high))
flush_there es f p (suc k) x there is low high within = elim (eqb_tells p k) [
  | inl same ↦
      flush_between-next es f k x (ap (slice_get es) (sym same.1) ∙ there) (let e = same.1 in omega (arith, e, low)) ∙ ap (λ b. is_flush_between es f k || b) is ∙ or_yes (is_flush_between es f k)
  | inr other ↦ elim (slice_get_cases es k).1 [
    | inr past ↦ let end = past.0 in absurd (omega (arith, end, within))
    | inl a ↦
        let apart = other.1 in
        let less : p < k = omega (arith, apart, high) in
        flush_between-next es f k a.0 a.2 (omega (arith, low, less)) ∙ ap (λ b. b || a.0.flags.flush) (flush_there es f p k x there is low less (omega (arith, within)))
  ]
]
  where
    or_yes : (b : Bool) → (b || true) ≡ true
    or_yes true = refl
    or_yes false = refl

-- where a flush stands after the entry of a part and before the cut, no choice departs there
none_departs : (way : By) (es : List Entry) (chosen : ℕ → Bool) (k p : ℕ) (e : Entry) (d : Departure) (ds : List Departure) → slice_get es p ≡ Some e → chosen p ≡ true
    → d.part.entry < p → p < k → k ≤ length es → IsAmong ds d → NoneDeparts way (flushed_at chosen es) k ds
none_departs way es chosen k p e d ds there is low high within among other same =
    let now : slice_get (flushed_at chosen es) p ≡ Some (with_flush e) = entry-flushed chosen es p e there ∙ ap (λ b. Some (if b then with_flush e else e)) is in
    let long : length (flushed_at chosen es) ≡ length es = length-flushed chosen es in
    let own : IsAmong (departures other (parts_at_risk way (flushed_at chosen es) k)) d = subst (λ xs. IsAmong xs d) (sym same) among in
    let risk : is_at_risk (flushed_at chosen es) k d.part.entry ≡ true = (risky_told way (flushed_at chosen es) k d.part (part_of_one other (parts_at_risk way (flushed_at chosen es) k) d own)).1 in
    let between : is_flush_between (flushed_at chosen es) d.part.entry k ≡ true = flush_there (flushed_at chosen es) d.part.entry p k (with_flush e) now refl low high (omega (arith, long, within)) in
    let calm : is_at_risk (flushed_at chosen es) k d.part.entry ≡ false =
    ap (λ b. (not (is_forced (flushed_at chosen es) d.part.entry) || (d.part.entry + 1 == k)) && not b) between
    ∙ and_no (not (is_forced (flushed_at chosen es) d.part.entry) || (d.part.entry + 1 == k)) in
    let bad : true ≡ false = sym risk ∙ calm in
    cc
  where
    and_no : (b : Bool) → (b && false) ≡ false
    and_no true = refl
    and_no false = refl

pub flush_takes_case_away : FlushTakesCaseAway
flush_takes_case_away at c choice w places p within is includes holds chosen =
    let es : List Entry = at.log.entries in
    let k : ℕ = at.cut in
    let parts : List Part = parts_of at in
    let it = between_told (first_lost c parts) (later (last_staying at) (last_arrived c parts)) w is in
    let first = found_told (λ (q : Part). is_never_whole (c q)) parts it.from it.from_is in
    let early : (q : Part) → IsAmong parts q → q.entry < k = λ q among.
    let told = part_before at.way es k q within (risky_told at.way es k q among).0 in
    let own : told.entry ≡ q.entry = ap (λ (r : Part). r.entry) told.is in
    let less = told.before in
    omega (arith, less, own) in
    let end : it.to < k =
    later_told (last_staying at) (last_arrived c parts) k it.to (below_told (stays at.way es k) k)
    (λ x some.
    let last = found_told (λ (q : Part). is_never_gone (c q)) (reverse parts) x some in
    let less = early last.part (turned_among parts last.part last.among) in
    let own = last.entry in
    omega (arith, less, own))
    it.to_is in
    let lost = lost_some (choice first.part) (all_among is_lost (c first.part) (choice first.part) first.passes (includes first.part)) in
    let d : Departure = record { part = first.part; fate = lost.0 } in
    let among : IsAmong (departures choice parts) d = departs_so choice parts first.part lost.0 first.among lost.1 in
    let own = first.entry in
    let start = it.start in
    let stop = it.end in
    let from = holds.from in
    let to = holds.to in
    let order = it.order in
    let low : first.part.entry < p = omega (arith, own, start, from) in
    let high : p < k = omega (arith, to, stop, end) in
    let there = held es p (omega (arith, high, within)) in
    let up : nat_le first.part.entry w.end ≡ true = grind (arith, nat_tests, own, stop, order) in (
      none_departs at.way es (is_place places) k p there.0 d (departures choice parts) there.1 chosen low high within among,
      none_departs at.way es (is_place places) (w.end + 1) p there.0 d (filter (λ (x : Departure). nat_le x.part.entry w.end) (departures choice parts)) there.1 chosen low (omega (arith, to))
          (omega (arith, stop, end, within)) (kept_among (λ (x : Departure). nat_le x.part.entry w.end) (departures choice parts) d among up),
    )
  where
    held : (es : List Entry) (p : ℕ) → p < length es → (e : Entry) × (slice_get es p ≡ Some e)
    held es p less = elim (slice_get_cases es p).1 [
      | inl a ↦ (a.0, a.2)
      | inr past ↦ let end = past.0 in absurd (omega (arith, end, less))
    ]
