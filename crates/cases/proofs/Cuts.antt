-- Each image of a cut is one of a last cut.
use Rattle.std.proofs.Common.{ℕ, zero, suc, ◌≡◌, ◌+◌, ◌-◌, ◌<◌, ◌≤◌, ◌==◌, Bool, true, false, not, ◌&&◌, ◌||◌, if◌then◌else◌, List, [], ◌∷◌, ◌++◌, length, map, filter, take, drop, get_or, length-drop, count_by, slice_get, slice_index, None, Some, refl, sym, subst, ◌∙◌, ap, arith, inl, inr}
use Rattle.std.specs.List.{range_with_len, last_or, list_any}
use Rattle.std.specs.Option.{option_map_or}
use Rattle.std.proofs.lemmas.Bool.Decides.{eqb_tells, nat_tests}
use Rattle.std.proofs.lemmas.List.{append-nil, get_or-drop}
use Rattle.std.proofs.lemmas.List.Folds.{list_any_more}
use Rattle.std.proofs.lemmas.List.Elements.{filter-append}
use Rattle.std.proofs.lemmas.List.Sums.{sum_by-cons}
use Rattle.std.proofs.lemmas.Option.{slice_get_cases, slice_get_within, get_or_from_slice_get}
use Rattle.base.proofs.Lists.{take-suc_place, count_by-push}
use Rattle.logfmt.specs.declared.entry.Entry.{Entry}
use Rattle.logfmt.specs.Bounds.{LogValue}
use Rattle.logfmt.specs.Initial.{initial_byte}
use Rattle.epochs.specs.declared.part.Part.{Part}
use Rattle.epochs.specs.declared.part.By.{By}
use Rattle.epochs.specs.declared.part.By.TheVariants as by
use Rattle.epochs.specs.declared.unit.Unit.{Unit as LogUnit}
use Rattle.epochs.specs.Parts.{part_of, parts_of_entry, part_count, parts_before}
use Rattle.epochs.specs.Units.{unit_of, units_of_entry, units_before, unit_content, is_forced, is_flush_between, epoch_at, marks_at}
use Rattle.epochs.proofs.Growth.{parts_before-next, units_before-next}
use Rattle.choices.specs.declared.fate.Fate.TheVariants as fate
use Rattle.images.specs.Images.{writes, byte_after, sector_after, device_after}
use Rattle.cases.specs.Risk.{is_at_risk, parts_at_risk, ends_here, is_after_forced, is_last_cut}
use Rattle.cases.specs.Choices.{Choice, all_fates, departures, image_at}
use Rattle.cases.specs.Rows.{part_with}
use Rattle.cases.specs.Trees.{is_torn}
use Rattle.cases.specs.Laws.{IsAmong, IsChoice, IsOfCut, LastCutsHaveAll}
use Rattle.cases.proofs.Cases.{among_kept}
use Rattle.cases.proofs.Rows.{kept_at, survives_by, among_append_left, among_append_right, among_range, part_before, unit_before}

filter_alike_among : {A : Type 0} (p q : A → Bool) (xs : List A) → ((x : A) → IsAmong xs x → p x ≡ q x) → filter p xs ≡ filter q xs
filter_alike_among p q [] each = refl
filter_alike_among p q (x ∷ xs) each =
    let here : p x ≡ q x = each x (inl refl) in
    let rest : filter p xs ≡ filter q xs = filter_alike_among p q xs (λ y is. each y (inr is)) in
    ap (λ b. if b then x ∷ filter p xs else filter p xs) here ∙ ap (λ ys. if q x then x ∷ ys else ys) rest

filter_none_among : {A : Type 0} (p : A → Bool) (xs : List A) → ((x : A) → IsAmong xs x → p x ≡ false) → filter p xs ≡ []
filter_none_among p [] each = refl
filter_none_among p (x ∷ xs) each = ap (λ b. if b then x ∷ filter p xs else filter p xs) (each x (inl refl)) ∙ filter_none_among p xs (λ y is. each y (inr is))

filter_all_among : {A : Type 0} (p : A → Bool) (xs : List A) → ((x : A) → IsAmong xs x → p x ≡ true) → filter p xs ≡ xs
filter_all_among p [] each = refl
filter_all_among p (x ∷ xs) each =
    ap (λ b. if b then x ∷ filter p xs else filter p xs) (each x (inl refl)) ∙ ap (λ ys. x ∷ ys) (filter_all_among p xs (λ y is. each y (inr is)))

abbrev as_number : Bool → ℕ
as_number b = if b then 1 else 0

count_of_both : {A : Type 0} (p q : A → Bool) (xs ys : List A) → ((x : A) → IsAmong xs x → p x ≡ q x) → ((y : A) → IsAmong ys y → p y ≡ false)
    → count_by p (xs ++ ys) ≡ count_by q xs
count_of_both p q [] [] each none = refl
count_of_both p q [] (y ∷ ys) each none =
    let one = sum_by-cons (λ z. as_number (p z)) y ys in
    let here : as_number (p y) ≡ as_number false = ap as_number (none y (inl refl)) in
    let rest = count_of_both p q [] ys each (λ z is. none z (inr is)) in
    omega (arith, one, here, rest)
count_of_both p q (x ∷ xs) ys each none =
    let one = sum_by-cons (λ z. as_number (p z)) x (xs ++ ys) in
    let two = sum_by-cons (λ z. as_number (q z)) x xs in
    let here : as_number (p x) ≡ as_number (q x) = ap as_number (each x (inl refl)) in
    let rest = count_of_both p q xs ys (λ z is. each z (inr is)) none in
    omega (arith, one, two, here, rest)

-- the entry at a cut that isn't a last one
pub record IsCalm (es : List Entry) (k : ℕ) : Type 0 where
  pub entry : Entry
  pub there : slice_get es k ≡ Some entry
  pub flush : entry.flags.flush ≡ false
  pub mark : entry.flags.mark ≡ false
  pub before : is_after_forced es k ≡ false

or_parts : (a b : Bool) → (a || b) ≡ false → (a ≡ false) × (b ≡ false)
or_parts true b is = let bad : true ≡ false = is in cc
or_parts false b is = (refl, is)

calm : (es : List Entry) (k : ℕ) → k ≤ length es → is_last_cut es k ≡ false → IsCalm es k
calm es k le is =
    let both = or_parts (k == length es) (ends_here es k || is_after_forced es k) is in
    let rest = or_parts (ends_here es k) (is_after_forced es k) both.1 in
    let not_end = both.0 in
    elim (slice_get_cases es k).1 [
      | inr past ↦
          let end = past.0 in
          let same : (k == length es) ≡ true = grind (arith, nat_tests, end, le) in
          let bad : true ≡ false = sym same ∙ not_end in
          cc
      | inl a ↦
          let flags : (a.0.flags.flush || a.0.flags.mark) ≡ false =
          sym (ap (λ o. option_map_or (λ (entry : Entry). entry.flags.flush || entry.flags.mark) o false) a.2) ∙ rest.0 in
          let each = or_parts a.0.flags.flush a.0.flags.mark flags in
          record { entry = a.0; there = a.2; flush = each.0; mark = each.1; before = rest.1 }
    ]

-- a flush entry after e and before the next cut
pub flush_between-next : (es : List Entry) (e k : ℕ) (x : Entry) → slice_get es k ≡ Some x → e < k
    → is_flush_between es e (suc k) ≡ (is_flush_between es e k || x.flags.flush)
flush_between-next es e k x here lt =
    let p : Entry → Bool = λ entry. entry.flags.flush in
    let rest : List Entry = drop (e + 1) es in
    let i : ℕ = k - (e + 1) in
    let within = slice_get_within es k x here in
    let next : suc k - (e + 1) ≡ i + 1 = omega (arith, lt) in
    let back : e + 1 + i ≡ k = omega (arith, lt) in
    let inside : i < length rest = omega (arith, length-drop (e + 1) es, within, lt) in
    let one : get_or rest i x ≡ x = get_or-drop (e + 1) es i x ∙ ap (λ n. get_or es n x) back ∙ get_or_from_slice_get es k x x here in
    ap (λ n. list_any p (take n rest)) next ∙ list_any_more p rest i x inside ∙ ap (λ entry. list_any p (take i rest) || p entry) one

pub no_flush_between : (es : List Entry) (k : ℕ) → is_flush_between es k (suc k) ≡ false
no_flush_between es k =
    let none : suc k - (k + 1) ≡ 0 = omega arith in
    ap (λ n. list_any (λ (entry : Entry). entry.flags.flush) (take n (drop (k + 1) es))) none

-- what is at risk at the next cut too
or_true : (b : Bool) → (b || true) ≡ true
or_true true = refl
or_true false = refl

or_false : (b : Bool) → (b || false) ≡ b
or_false true = refl
or_false false = refl

risk_before : (es : List Entry) (k e : ℕ) → (is : IsCalm es k) → e < k → is_at_risk es (suc k) e ≡ is_at_risk es k e
risk_before es k e is lt =
    let later : (e + 1 == suc k) ≡ false = grind (arith, nat_tests, lt) in
    let flushed : is_flush_between es e (suc k) ≡ is_flush_between es e k =
    flush_between-next es e k is.entry is.there lt ∙ ap (λ b. is_flush_between es e k || b) is.flush ∙ or_false (is_flush_between es e k) in
    ap (λ b. (not (is_forced es e) || b) && not (is_flush_between es e (suc k))) later
    ∙ ap (λ b. (not (is_forced es e) || false) && not b) flushed
    ∙ ap (λ b. b && not (is_flush_between es e k)) (by_next k lt is.before)
  where
    by_next : (n : ℕ) → e < n → is_after_forced es n ≡ false → (not (is_forced es e) || false) ≡ (not (is_forced es e) || (e + 1 == n))
    by_next zero less before = absurd (omega (arith, less))
    by_next (suc n) less before = elim (eqb_tells e n) [
      | inl same ↦
          let free : is_forced es e ≡ false = ap (is_forced es) same.1 ∙ before in
          ap (λ b. not b || false) free ∙ sym (ap (λ b. not b || (e + 1 == suc n)) free)
      | inr other ↦
          let apart = other.1 in
          let no_next : (e + 1 == suc n) ≡ false = grind (arith, nat_tests, apart) in
          sym (ap (λ b. not (is_forced es e) || b) no_next)
    ]

risk_here : (es : List Entry) (k : ℕ) → is_at_risk es (suc k) k ≡ true
risk_here es k =
    let next : (k + 1 == suc k) ≡ true = grind (arith, nat_tests) in
    ap (λ b. (not (is_forced es k) || b) && not (is_flush_between es k (suc k))) next
    ∙ ap (λ b. b && not (is_flush_between es k (suc k))) (or_true (not (is_forced es k)))
    ∙ ap not (no_flush_between es k)

parts_next : (way : By) (es : List Entry) (k : ℕ) → k ≤ length es → (is : IsCalm es k) → parts_at_risk way es (suc k) ≡ parts_at_risk way es k ++ parts_of_entry way k is.entry
unfolding parts_at_risk
parts_next way es k le is =
    let now : Part → Bool = λ p. is_at_risk es (suc k) p.entry in
    let was : Part → Bool = λ p. is_at_risk es k p.entry in
    ap (filter now) (parts_before-next way es k is.entry is.there)
    ∙ filter-append now (parts_before way es k) (parts_of_entry way k is.entry)
    ∙ ap (λ ps. ps ++ filter now (parts_of_entry way k is.entry))
    (filter_alike_among now was (parts_before way es k)
    (λ p among.
    let at = part_before way es k p le among in
    let entry : at.entry ≡ p.entry = ap (λ (q : Part). q.entry) at.is in
    let before = at.before in
    risk_before es k p.entry is (omega (arith, entry, before))))
    ∙ ap (λ ps. filter was (parts_before way es k) ++ ps)
    (filter_all_among now (parts_of_entry way k is.entry)
    (λ p among.
    let at = among_range (part_of way k is.entry) 0 (part_count way is.entry) p among in
    let entry : k ≡ p.entry = ap (λ (q : Part). q.entry) at.3 in
    ap (is_at_risk es (suc k)) (sym entry) ∙ risk_here es k))

-- the same choice at the next cut: of the entry there all is lost
abbrev next_choice : ℕ → Choice → Choice
next_choice k choice p = if p.entry == k then Some fate.Drop else choice p

possible_next : (tears : Bool) (k : ℕ) (choice : Choice) → IsChoice tears choice → IsChoice tears (next_choice k choice)
possible_next tears k choice possible p = by_test (p.entry == k)
  where
    drop_among : (t : Bool) → IsAmong (all_fates t) (Some fate.Drop)
    drop_among true = inr (inl refl)
    drop_among false = inr (inl refl)

    by_test : (b : Bool) → IsAmong (all_fates tears) (if b then Some fate.Drop else choice p)
    by_test true = drop_among tears
    by_test false = possible p

other_entry : (k e : ℕ) → e < k → (e == k) ≡ false
other_entry k e lt = grind (arith, nat_tests, lt)

entry_of_part : (way : By) (es : List Entry) (u : LogUnit) → (part_with way es u).entry ≡ u.entry
entry_of_part by.Sector es u = refl
entry_of_part by.Write es u = refl

next_before : (way : By) (es : List Entry) (k : ℕ) (choice : Choice) (u : LogUnit) → u.entry < k → next_choice k choice (part_with way es u) ≡ choice (part_with way es u)
next_before way es k choice u lt =
    let own = entry_of_part way es u in
    ap (λ b. if b then Some fate.Drop else choice (part_with way es u)) (ap (λ e. e == k) own ∙ other_entry k u.entry lt)

next_here : (way : By) (es : List Entry) (k : ℕ) (choice : Choice) (u : LogUnit) → u.entry ≡ k → next_choice k choice (part_with way es u) ≡ Some fate.Drop
next_here way es k choice u is =
    let own = entry_of_part way es u in
    let same : ((part_with way es u).entry == k) ≡ true = grind (arith, nat_tests, own, is) in
    ap (λ b. if b then Some fate.Drop else choice (part_with way es u)) same

-- the units that write a byte are the same
writers_next : (log : LogValue) (way : By) (k : ℕ) (choice : Choice) (s i : ℕ) → suc k ≤ length log.entries → (is : IsCalm log.entries k)
    → filter (writes (departures (next_choice k choice) (parts_at_risk way log.entries (suc k))) s i) (units_before log.entries (suc k))
    ≡ filter (writes (departures choice (parts_at_risk way log.entries k)) s i) (units_before log.entries k)
unfolding writes
writers_next log way k choice s i le is =
    let es = log.entries in
    let within : k ≤ length es = omega (arith, le) in
    let now : LogUnit → Bool = writes (departures (next_choice k choice) (parts_at_risk way es (suc k))) s i in
    let was : LogUnit → Bool = writes (departures choice (parts_at_risk way es k)) s i in
    let both = units_before-next es k is.entry is.there in
    let P : LogUnit → List LogUnit → Type 0 = λ u us. IsAmong us u in
    ap (filter now) both
    ∙ filter-append now (units_before es k) (units_of_entry k is.entry)
    ∙ ap (λ us. us ++ filter now (units_of_entry k is.entry))
    (filter_alike_among now was (units_before es k)
    (λ u among.
    let at = unit_before es k u within among in
    let entry : at.entry ≡ u.entry = ap (λ (v : LogUnit). v.entry) at.is in
    let before = at.before in
    let lt : u.entry < k = omega (arith, entry, before) in
    let later : IsAmong (units_before es (suc k)) u = subst (P u) (sym both) (among_append_left (units_before es k) (units_of_entry k is.entry) u among) in
    ap (λ b. (u.sector == s) && b)
    (survives_by log way (suc k) (next_choice k choice) u i le later
    ∙ ap (λ b. if b then kept_at (next_choice k choice (part_with way es u)) (part_with way es u) u i else true) (risk_before es k u.entry is lt)
    ∙ ap (λ o. if is_at_risk es k u.entry then kept_at o (part_with way es u) u i else true) (next_before way es k choice u lt)
    ∙ sym (survives_by log way k choice u i within among))))
    ∙ ap (λ us. filter was (units_before es k) ++ us)
    (filter_none_among now (units_of_entry k is.entry)
    (λ u among.
    let at = among_range (unit_of k is.entry) 0 is.entry.count u among in
    let entry : k ≡ u.entry = ap (λ (v : LogUnit). v.entry) at.3 in
    let later : IsAmong (units_before es (suc k)) u = subst (P u) (sym both) (among_append_right (units_before es k) (units_of_entry k is.entry) u among) in
    ap (λ b. (u.sector == s) && b)
    (survives_by log way (suc k) (next_choice k choice) u i le later
    ∙ ap (λ e. if is_at_risk es (suc k) e then kept_at (next_choice k choice (part_with way es u)) (part_with way es u) u i else true) (sym entry)
    ∙ ap (λ b. if b then kept_at (next_choice k choice (part_with way es u)) (part_with way es u) u i else true) (risk_here es k)
    ∙ ap (λ o. kept_at o (part_with way es u) u i) (next_here way es k choice u (sym entry)))
    ∙ and_none (u.sector == s)))
    ∙ append-nil (filter was (units_before es k))
  where
    and_none : (b : Bool) → (b && false) ≡ false
    and_none true = refl
    and_none false = refl

image_next : (log : LogValue) (way : By) (k : ℕ) (choice : Choice) → suc k ≤ length log.entries → (is : IsCalm log.entries k)
    → image_at log way (suc k) (next_choice k choice) ≡ image_at log way k choice
unfolding device_after sector_after byte_after
image_next log way k choice le is =
    ap (λ (f : ℕ → List ℕ). map f (range_with_len 0 log.sectors))
    (λ j s. map (λ i. option_map_or (λ (u : LogUnit). slice_index (unit_content log.entries u) i) (last_or None (writers_next log way k choice s i le is j)) (initial_byte log.initial s i)) (range_with_len 0 512))

torn_next : (way : By) (es : List Entry) (k : ℕ) (choice : Choice) → k ≤ length es → (is : IsCalm es k)
    → count_by (λ (p : Part). is_torn (next_choice k choice p)) (parts_at_risk way es (suc k)) ≡ count_by (λ (p : Part). is_torn (choice p)) (parts_at_risk way es k)
unfolding parts_at_risk
torn_next way es k choice le is =
    ap (count_by (λ (p : Part). is_torn (next_choice k choice p))) (parts_next way es k le is)
    ∙ count_of_both (λ (p : Part). is_torn (next_choice k choice p)) (λ (p : Part). is_torn (choice p)) (parts_at_risk way es k) (parts_of_entry way k is.entry)
    (λ p among.
    let at = part_before way es k p le (among_of (parts_before way es k) p among) in
    let entry : at.entry ≡ p.entry = ap (λ (q : Part). q.entry) at.is in
    let before = at.before in
    ap (λ b. is_torn (if b then Some fate.Drop else choice p)) (other_entry k p.entry (omega (arith, entry, before))))
    (λ p among.
    let at = among_range (part_of way k is.entry) 0 (part_count way is.entry) p among in
    let entry : k ≡ p.entry = ap (λ (q : Part). q.entry) at.3 in
    let same : (p.entry == k) ≡ true = grind (arith, nat_tests, entry) in
    ap (λ b. is_torn (if b then Some fate.Drop else choice p)) same)
  where
    among_of : (xs : List Part) (p : Part) → IsAmong (filter (λ (q : Part). is_at_risk es k q.entry) xs) p → IsAmong xs p
    among_of xs p among = (among_kept (λ (q : Part). is_at_risk es k q.entry) xs p among).0

marks_next : (es : List Entry) (k : ℕ) → (is : IsCalm es k) → (marks_at es (suc k) ≡ marks_at es k) × (epoch_at es (suc k) ≡ epoch_at es k)
marks_next es k is =
    let own : Bool → ℕ = λ b. if b then 1 else 0 in
    let place = take-suc_place es k is.entry is.there in
    let mark : own is.entry.flags.mark ≡ own false = ap own is.mark in
    let flush : own is.entry.flags.flush ≡ own false = ap own is.flush in
    let marks : marks_at es (suc k) ≡ marks_at es k + own is.entry.flags.mark =
    ap (count_by (λ (entry : Entry). entry.flags.mark)) place ∙ count_by-push (λ (entry : Entry). entry.flags.mark) (take k es) is.entry in
    let epochs : epoch_at es (suc k) ≡ epoch_at es k + own is.entry.flags.flush =
    ap (count_by (λ (entry : Entry). entry.flags.flush)) place ∙ count_by-push (λ (entry : Entry). entry.flags.flush) (take k es) is.entry in
    (omega (arith, marks, mark), omega (arith, epochs, flush))

itself : (log : LogValue) (way : By) (tears : Bool) (cut to : ℕ) (choice : Choice) → cut ≤ to → IsChoice tears choice
    → (is_last_cut log.entries cut || (cut == to)) ≡ true → (last : ℕ) × IsOfCut log way tears cut to last choice
itself log way tears cut to choice le possible is = (
  cut,
  record {
    from = omega arith;
    within = le;
    is_last = is;
    other = choice;
    possible = possible;
    image = refl;
    epoch = refl;
    marks = refl;
    torn = refl;
  },
)

of_next : (log : LogValue) (way : By) (tears : Bool) (cut to : ℕ) (choice : Choice) → suc cut ≤ length log.entries → (is : IsCalm log.entries cut)
    → (last : ℕ) × IsOfCut log way tears (suc cut) to last (next_choice cut choice) → (last : ℕ) × IsOfCut log way tears cut to last choice
of_next log way tears cut to choice le is found =
    let own = found.1 in
    let later = own.from in
    let counts = marks_next log.entries cut is in (
      found.0,
      record {
        from = omega (arith, later);
        within = own.within;
        is_last = own.is_last;
        other = own.other;
        possible = own.possible;
        image = own.image ∙ image_next log way cut choice le is;
        epoch = own.epoch ∙ counts.1;
        marks = own.marks ∙ counts.0;
        torn = own.torn ∙ torn_next way log.entries cut choice (omega (arith, le)) is;
      },
    )

end_of_range : (es : List Entry) (cut to : ℕ) → cut ≡ to → (is_last_cut es cut || (cut == to)) ≡ true
end_of_range es cut to is = let end : (cut == to) ≡ true = grind (arith, nat_tests, is) in ap (λ b. is_last_cut es cut || b) end ∙ or_true (is_last_cut es cut)

from_here : (log : LogValue) (way : By) (tears : Bool) (left cut to : ℕ) (choice : Choice) → cut + left ≡ to → to ≤ length log.entries → IsChoice tears choice
    → (last : ℕ) × IsOfCut log way tears cut to last choice
from_here log way tears zero cut to choice room within possible =
    itself log way tears cut to choice (omega (arith, room)) possible (end_of_range log.entries cut to (omega (arith, room)))
from_here log way tears (suc left) cut to choice room within possible =
    by_last (from_here log way tears left (suc cut) to (next_choice cut choice) (omega (arith, room)) within (possible_next tears cut choice possible)) (is_last_cut log.entries cut) refl
  where
    by_last : (last : ℕ) × IsOfCut log way tears (suc cut) to last (next_choice cut choice) → (b : Bool) → is_last_cut log.entries cut ≡ b
        → (last : ℕ) × IsOfCut log way tears cut to last choice
    by_last later true is = itself log way tears cut to choice (omega (arith, room)) possible (ap (λ b. b || (cut == to)) is)
    by_last later false is = of_next log way tears cut to choice (omega (arith, room, within)) (calm log.entries cut (omega (arith, room, within)) is) later

pub last_cuts_have_all : LastCutsHaveAll
last_cuts_have_all log way tears cut to choice is within inside possible =
    from_here log way tears (to - cut) cut to choice (omega (arith, within)) inside possible

-- where the range ends with the log it is a last cut
pub last_of_log : (es : List Entry) (k : ℕ) → (is_last_cut es k || (k == length es)) ≡ true → is_last_cut es k ≡ true
last_of_log es k is = from_end (k == length es) refl is
  where
    from_end : (b : Bool) → (k == length es) ≡ b → (is_last_cut es k || b) ≡ true → is_last_cut es k ≡ true
    from_end true end either = ap (λ b. b || (ends_here es k || is_after_forced es k)) end
    from_end false other either = sym (or_false (is_last_cut es k)) ∙ either
