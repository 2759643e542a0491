-- What is said of failing cases, and their groups.
use Rattle.std.proofs.Common.{ℕ, zero, suc, ◌≡◌, ◌+◌, ◌-◌, ◌<◌, ◌≤◌, ◌==◌, ◌||◌, Bool, true, false, if◌then◌else◌, List, [], ◌∷◌, ◌++◌, length, map, take, drop, slice_get, get_or, Option, None, Some, refl, sym, subst, ◌∙◌, ap, arith, append_assoc, append-nil, inl, inr}
use Rattle.std.specs.List.{flat_map, list_any, range_with_len}
use Rattle.std.specs.Option.{option_map_or}
use Rattle.std.proofs.lemmas.Bool.Decides.{eqb_tells}
use Rattle.std.proofs.lemmas.List.{length-map, take_more, take_rest, drop_more, drop_all, map-append}
use Rattle.std.proofs.lemmas.List.Folds.{list_any_at}
use Rattle.std.proofs.lemmas.List.Concat.{flat_map-append}
use Rattle.base.proofs.Lists.{range_with_len-more}
use Rattle.logfmt.specs.Bounds.{LogValue}
use Rattle.epochs.specs.declared.part.Part.{Part}
use Rattle.epochs.specs.declared.part.By.{By}
use Rattle.report.specs.LineText.{ending_text}
use Rattle.report.specs.Report.{HeadValue}
use Rattle.losses.specs.declared.flushes.window.Window.{Window}
use Rattle.losses.specs.declared.flushes.counted.MissingFlush.{MissingFlush}
use Rattle.losses.specs.Counted.{AreMissing}
use Rattle.losses.specs.FailureWindows.{windows_in}
use Rattle.losses.specs.declared.cure.failure.Failure.{Failure}
use Rattle.cases.specs.AtCut.{CutValue, parts_of, case_of}
use Rattle.losses.specs.declared.found.FailingCase.{FailingCase}
use Rattle.losses.specs.declared.found.Losses.{Losses}
use Rattle.losses.specs.declared.found.CutFound.{CutFound}
use Rattle.losses.specs.FoundCases.{FailingValue, failing_value}
use Rattle.case_text.specs.Known.{KnownValue, known_of}
use Rattle.case_text.specs.Window.{last_staying, later, between, case_window}
use Rattle.case_text.specs.declared.told.ToldFailing.{ToldFailing}
use Rattle.case_text.specs.Collected.{told_value, alike_told}
use Rattle.case_text.specs.Causes.{cause_text}
use Rattle.case_text.specs.Why.{ToldValue, tail_text, told_of, all_told, is_alike, first_line, also_if, group_with, group_at, groups_text, cut_line, told_text, cut_causes, all_failures, parts_bytes, why_bytes, TellsWhy}

pub told_is : (at : CutValue) (tears torn : Bool) (f : FailingValue) (cut : ℕ) (way : By) (parts : List Part) (sets : List ℕ) (known : KnownValue) (window : Option Window)
    (cause tail : List ℕ) → cut ≡ at.cut → way ≡ at.way → torn ≡ tears → parts ≡ parts_of at → sets ≡ f.sets → known ≡ known_of torn (case_of torn parts sets) parts
    → window ≡ between known.first_lost (later (last_staying at) known.last_arrived) → cause ≡ cause_text way cut known window → tail ≡ tail_text (ending_text f.ending) window
    → record { number = f.number; window = window; cause = cause; tail = tail } ≡ told_of at tears f
told_is at tears torn f cut way parts sets known window cause tail cut_is way_is torn_is parts_are sets_are known_is window_is cause_is tail_is =
    let all : KnownValue = known_of tears (case_of tears (parts_of at) f.sets) (parts_of at) in
    let read : known ≡ all = known_is ∙ (λ i. known_of (torn_is i) (case_of (torn_is i) (parts_are i) (sets_are i)) (parts_are i)) in
    let held : window ≡ case_window at (case_of tears (parts_of at) f.sets) =
    window_is ∙ ap (λ (k : KnownValue). between k.first_lost (later (last_staying at) k.last_arrived)) read in
    let because : cause ≡ cause_text at.way at.cut all (case_window at (case_of tears (parts_of at) f.sets)) = cause_is ∙ (λ i. cause_text (way_is i) (cut_is i) (read i) (held i)) in
    let ended : tail ≡ tail_text (ending_text f.ending) (case_window at (case_of tears (parts_of at) f.sets)) = tail_is ∙ ap (tail_text (ending_text f.ending)) held in
    λ i. record { number = f.number; window = held i; cause = because i; tail = ended i }

map_take : (n : ℕ) (xs : List ToldFailing) → take n (map told_value xs) ≡ map told_value (take n xs)
map_take zero xs = refl
map_take (suc n) [] = refl
map_take (suc n) (x ∷ xs) = ap (λ ys. told_value x ∷ ys) (map_take n xs)

map_drop : (n : ℕ) (xs : List ToldFailing) → drop n (map told_value xs) ≡ map told_value (drop n xs)
map_drop zero xs = refl
map_drop (suc n) [] = refl
map_drop (suc n) (x ∷ xs) = map_drop n xs

map_there : (n : ℕ) (xs : List ToldFailing) (x : ToldFailing) → slice_get xs n ≡ Some x → slice_get (map told_value xs) n ≡ Some (told_value x)
map_there n [] x at = absurd (let bad : None ≡ Some x = at in cc)
map_there zero (y ∷ xs) x at = let same : y ≡ x = (let e : Some y ≡ Some x = at in cc) in ap (λ z. Some (told_value z)) same
map_there (suc n) (y ∷ xs) x at = map_there n xs x at

-- the group of the case at a place
pub group_is : (told : List ToldFailing) (n : ℕ) (x : ToldFailing) → slice_get told n ≡ Some x
    → group_at (map told_value told) n ≡ group_with (map told_value (take n told)) (told_value x) (map told_value (drop (n + 1) told))
group_is told n x at =
    ap (λ o. option_map_or (λ (t : ToldValue). group_with (take n (map told_value told)) t (drop (n + 1) (map told_value told))) o []) (map_there n told x at)
    ∙ (λ i. group_with (map_take n told i) (told_value x) (map_drop (n + 1) told i))

any_told : (x : ToldFailing) (xs : List ToldFailing) → list_any (alike_told x) xs ≡ list_any (is_alike (told_value x)) (map told_value xs)
any_told x [] = refl
any_told x (y ∷ xs) = ap (λ b. is_alike (told_value x) (told_value y) || b) (any_told x xs)

-- none is alike from the end on, and from one place before those of which none is
pub none_past : (x : ToldFailing) (told : List ToldFailing) → list_any (alike_told x) (drop (length told) told) ≡ false
none_past x told = ap (list_any (alike_told x)) (drop_all (length told) told (omega arith))

pub none_before : (x : ToldFailing) (told : List ToldFailing) (n m : ℕ) (y : ToldFailing) → m + 1 ≡ n → n ≤ length told → y ≡ get_or told m y → false ≡ alike_told x y
    → list_any (alike_told x) (drop n told) ≡ false → list_any (alike_told x) (drop m told) ≡ false
none_before x told n m y next within there apart none =
    let less : m < length told = omega (arith, next, within) in
    ap (list_any (alike_told x)) (drop_more told m y less ∙ ap (λ (z : ToldFailing). z ∷ drop (m + 1) told) (sym there))
    ∙ ap (λ k. alike_told x y || list_any (alike_told x) (drop k told)) next ∙ ap (λ v. v || list_any (alike_told x) (drop n told)) (sym apart) ∙ none

-- the case at that place is, or none of all is
pub some_before : (x : ToldFailing) (told : List ToldFailing) (n m : ℕ) (y : ToldFailing) → m + 1 ≡ n → n ≤ length told → y ≡ get_or told m y → true ≡ alike_told x y
    → true ≡ list_any (alike_told x) told
some_before x told n m y next within there alike =
    let less : m < length told = omega (arith, next, within) in
    sym (list_any_at (alike_told x) told m y less (ap (alike_told x) (sym there) ∙ sym alike))

pub none_at_all : (x : ToldFailing) (told : List ToldFailing) (n : ℕ) → n ≤ 0 → list_any (alike_told x) (drop n told) ≡ false → false ≡ list_any (alike_told x) told
none_at_all x told n end none =
    let first : n ≡ 0 = omega (arith, end) in
    sym none ∙ ap (λ k. list_any (alike_told x) (drop k told)) first

-- nothing, where one before it is alike
pub no_group : (told : List ToldFailing) (n : ℕ) (x : ToldFailing) (old : List ℕ) → slice_get told n ≡ Some x → true ≡ list_any (alike_told x) (take n told)
    → old ≡ old ++ group_at (map told_value told) n
no_group told n x old at found =
    sym (append-nil old)
    ∙ ap (λ ys. old ++ ys)
    (sym (group_is told n x at
    ∙ ap (λ v. if v then [] else first_line (told_value x) ++ flat_map (also_if (told_value x)) (map told_value (drop (n + 1) told))) (sym (any_told x (take n told)) ∙ sym found)))

-- and else the case and those after it that are alike
pub own_group : (told : List ToldFailing) (n : ℕ) (x : ToldFailing) (old first new : List ℕ) → slice_get told n ≡ Some x → false ≡ list_any (alike_told x) (take n told)
    → first ≡ old ++ first_line (told_value x) → new ≡ first ++ flat_map (also_if (told_value x)) (map told_value (take (length told - (n + 1)) (drop (n + 1) told)))
    → new ≡ old ++ group_at (map told_value told) n
own_group told n x old first new at found begins ends =
    ends ∙ ap (λ (ts : List ToldFailing). first ++ flat_map (also_if (told_value x)) (map told_value ts)) (take_rest told (n + 1))
    ∙ ap (λ ys. ys ++ flat_map (also_if (told_value x)) (map told_value (drop (n + 1) told))) begins
    ∙ append_assoc old (first_line (told_value x)) (flat_map (also_if (told_value x)) (map told_value (drop (n + 1) told)))
    ∙ ap (λ ys. old ++ ys)
    (sym (group_is told n x at
    ∙ ap (λ v. if v then [] else first_line (told_value x) ++ flat_map (also_if (told_value x)) (map told_value (drop (n + 1) told))) (sym (any_told x (take n told)) ∙ sym found)))

-- the groups of one place more
pub groups_next : (told : List ToldValue) (n : ℕ) (first before new : List ℕ) → before ≡ first ++ flat_map (group_at told) (range_with_len 0 n) → new ≡ before ++ group_at told n
    → new ≡ first ++ flat_map (group_at told) (range_with_len 0 (n + 1))
groups_next told n first before new was is =
    let last : 0 + n ≡ n = omega arith in
    let more : flat_map (group_at told) (range_with_len 0 (n + 1)) ≡ flat_map (group_at told) (range_with_len 0 n) ++ group_at told n =
    ap (flat_map (group_at told)) (range_with_len-more 0 n) ∙ flat_map-append (group_at told) (range_with_len 0 n) ((0 + n) ∷ [])
    ∙ ap (λ ys. flat_map (group_at told) (range_with_len 0 n) ++ ys) (append-nil (group_at told (0 + n)) ∙ ap (group_at told) last) in
    is ∙ ap (λ ys. ys ++ group_at told n) was ∙ append_assoc first (flat_map (group_at told) (range_with_len 0 n)) (group_at told n) ∙ ap (λ ys. first ++ ys) (sym more)

-- those of all places
pub groups_all : (told : List ToldFailing) (n : ℕ) (first new : List ℕ) → n ≡ length told → new ≡ first ++ flat_map (group_at (map told_value told)) (range_with_len 0 n)
    → new ≡ first ++ groups_text (map told_value told)
groups_all told n first new all is =
    is ∙ ap (λ m. first ++ flat_map (group_at (map told_value told)) (range_with_len 0 m)) (all ∙ sym (length-map told told_value))

-- a program without failing cases
pub no_told : (cut program : ℕ) (told : List ToldFailing) (old : List ℕ) → length told ≡ 0 → old ≡ old ++ told_text cut program (map told_value told)
unfolding told_text
no_told cut program [] old none = sym (append-nil old)
no_told cut program (t ∷ told) old none = absurd (omega (arith, none))

-- one with some
pub some_told : (cut program : ℕ) (told : List ToldFailing) (old line new : List ℕ) → 0 < length told → line ≡ old ++ cut_line cut program (length told)
    → new ≡ line ++ groups_text (map told_value told) → new ≡ old ++ told_text cut program (map told_value told)
unfolding told_text
some_told cut program [] old line new some begins ends = absurd (omega (arith, some))
some_told cut program (t ∷ told) old line new some begins ends =
    let all : List ToldValue = map told_value (t ∷ told) in
    let apart : (length all == 0) ≡ false = elim (eqb_tells (length all) 0) [
      | inl same ↦ let none = same.1 in absurd (omega (arith, none))
      | inr other ↦ other.0
    ] in
    ends ∙ ap (λ ys. ys ++ groups_text all) (begins ∙ ap (λ n. old ++ cut_line cut program n) (sym (length-map (t ∷ told) told_value)))
    ∙ append_assoc old (cut_line cut program (length all)) (groups_text all)
    ∙ ap (λ (v : Bool). old ++ (if v then [] else cut_line cut program (length all) ++ groups_text all)) (sym apart)

-- what is said of one case more
pub told_next : (at : CutValue) (tears : Bool) (failing : List FailingCase) (n : ℕ) (f : FailingCase) (told more : List ToldFailing) (one : ToldFailing)
    → map told_value told ≡ all_told at tears (take n failing) → more ≡ told ++ one ∷ [] → told_value one ≡ told_of at tears (failing_value f)
    → f ≡ get_or failing n f → n < length failing → map told_value more ≡ all_told at tears (take (n + 1) failing)
told_next at tears failing n f told more one was is said there less =
    let own : FailingCase → ToldValue = λ g. told_of at tears (failing_value g) in
    let last : take (n + 1) failing ≡ take n failing ++ f ∷ [] = take_more failing n f less ∙ ap (λ g. take n failing ++ g ∷ []) (sym there) in
    ap (map told_value) is ∙ map-append told_value told (one ∷ [])
    ∙ ap (λ ts. ts ++ told_value one ∷ []) was ∙ ap (λ t. all_told at tears (take n failing) ++ t ∷ []) said
    ∙ sym (ap (map own) last ∙ map-append own (take n failing) (f ∷ []))

-- the whole text
pub why_told : (h : HeadValue) (asked : Losses) (log : LogValue) (found : List CutFound) (failures : List Failure) (missing : List MissingFlush) (causes bytes : List ℕ)
    → failures ≡ all_failures log h.by asked.tears found → causes ≡ flat_map (cut_causes log h.by asked.tears) found → AreMissing (windows_in failures) missing
    → bytes ≡ parts_bytes h asked found failures missing causes → TellsWhy h asked log found bytes
unfolding why_bytes
why_told h asked log found failures missing causes bytes failures_are causes_are are is = record {
  missing = missing;
  are = subst (λ (fs : List Failure). AreMissing (windows_in fs) missing) failures_are are;
  text = is ∙ ap (λ (fs : List Failure). parts_bytes h asked found fs missing causes) failures_are
      ∙ ap (λ (ys : List ℕ). parts_bytes h asked found (all_failures log h.by asked.tears found) missing ys) causes_are;
}
