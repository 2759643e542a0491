-- The windows of the failures of a run.
use Rattle.std.proofs.Common.{ℕ, zero, suc, ◌≡◌, ◌+◌, ◌-◌, ◌<◌, ◌≤◌, Bool, List, [], ◌∷◌, ◌++◌, length, length-append, take, slice_get, get_or, All, Option, None, Some, IfSome, IfNone, append-nil, refl, sym, ◌∙◌, ap, subst, add-one, inl, inr, arith}
use Rattle.std.proofs.lemmas.List.Concat.{flat_map-append}
use Rattle.std.proofs.lemmas.Option.{slice_get_within, slice_get-get_or}
use Rattle.base.proofs.Lists.{slice_get_of_push, slice_get_of_append, take-suc_place}
use Rattle.logfmt.specs.declared.entry.Entry.{Entry}
use Rattle.epochs.specs.declared.cuts.Cuts.{Cuts}
use Rattle.epochs.specs.declared.cuts.CutKind.{CutKind}
use Rattle.epochs.specs.declared.cuts.CutKind.TheVariants as kind
use Rattle.epochs.specs.declared.part.By.{By}
use Rattle.epochs.specs.Laws.{IsOfKind, IsWanted}
use Rattle.choices.specs.declared.choice.Departure.{Departure}
use Rattle.choices.specs.Choices.{ChoiceValue, ranked_choices}
use Rattle.choices.specs.CrashModel.{IsAdmissible}
use Rattle.choices.specs.Laws.{RankedIsModel}
use Rattle.choices.specs.Sums.{StartsValue}
use Rattle.losses.specs.declared.flushes.window.Window.{Window}
use Rattle.losses.specs.Windows.{IsWindow, HasNoWindow}
use Rattle.losses.specs.Places.{AreWindows}
use Rattle.report.specs.declared.lines.marks.LineMark.{LineMark}
use Rattle.losses.specs.declared.cure.failure.Failure.{Failure}
use Rattle.losses.specs.FailureWindows.{IsWindowIf, if_window, own_window, windows_in, HoldNoFlush, IsFailureAt, AreFailuresAt}

-- a cut of a kind is one of the log, and so is a wanted one
kind_within : (kind : CutKind) (es : List Entry) (k : ℕ) → IsOfKind kind es k → k ≤ length es
kind_within kind.All es k is = is
kind_within kind.BeforeFlush es k (inl same) = omega (arith, same)
kind_within kind.BeforeFlush es k (inr at) = let lt = slice_get_within es k at.0 at.1 in omega (arith, lt)
kind_within kind.AfterMark es k at = let lt = slice_get_within es at.0 at.1 at.3 in let same = at.2 in omega (arith, lt, same)

cut_within : (wanted : Cuts) (es : List Entry) (k : ℕ) → IsWanted wanted es k → k ≤ length es
cut_within wanted es k is = kind_within wanted.kind es k is.of_kind

pub cut_inside : RankedIsModel → (s : StartsValue) (image : ℕ) (c : ChoiceValue) (cut : ℕ) (es : List Entry) → slice_get (ranked_choices s.plan s.bound s.tears) image ≡ Some c
    → cut ≡ c.cut → s.plan.log.entries ≡ es → cut ≤ length es
cut_inside law s image c cut es there same own =
    let within = cut_within s.plan.kind s.plan.log.entries c.cut ((law s.plan s.bound s.tears).wanted image c there) in
    let long : length s.plan.log.entries ≡ length es = ap (length {A = Entry}) own in
    omega (arith, within, same, long)

-- what departs stands before the cut
pub departs_before : RankedIsModel → (s : StartsValue) (image : ℕ) (c : ChoiceValue) (cut : ℕ) (ds : List Departure) → slice_get (ranked_choices s.plan s.bound s.tears) image ≡ Some c
    → cut ≡ c.cut → ds ≡ c.departures → All (λ (d : Departure). d.part.entry < cut) ds
departs_before law s image c cut ds there same own k d small =
    let here : slice_get c.departures k ≡ Some (get_or ds k d) = ap (λ (xs : List Departure). slice_get xs k) (sym own) ∙ slice_get-get_or ds k d small in
    let before = (((law s.plan s.bound s.tears).sound image c there).volatile k (get_or ds k d) here).before in
    omega (arith, before, same)

-- a window lies inside of the log
one_inside : (way : By) (es : List Entry) (cut : ℕ) (ds : List Departure) (w : Option Window) → cut ≤ length es → IsWindowIf way es cut ds w → AreWindows (length es) (if_window w)
one_inside way es cut ds None low is i v here = absurd (let bad : None ≡ Some v = here in cc)
one_inside way es cut ds (Some w) low is zero v here =
    let same : w ≡ v = (let e : Some w ≡ Some v = here in cc) in
    let start = is.start in
    let before = is.before in
    rw (← same) (omega (arith, start), is.order, omega (arith, before, low))
one_inside way es cut ds (Some w) low is (suc i) v here = absurd (let bad : None ≡ Some v = here in cc)

-- and holds no flush entry
one_calm : (way : By) (es : List Entry) (cut bound : ℕ) (tears : Bool) (ds : List Departure) (w : Option Window) → IsAdmissible way es cut bound tears ds → IsWindowIf way es cut ds w
    → HoldNoFlush es (if_window w)
one_calm way es cut bound tears ds None are is i v p e here holds there = absurd (let bad : None ≡ Some v = here in cc)
one_calm way es cut bound tears ds (Some w) are is zero v p e here holds there =
    let same : w ≡ v = (let e : Some w ≡ Some v = here in cc) in
    let start = is.start in
    let before = is.before in
    let from = holds.from in
    let to = holds.to in
    let from_own : v.start ≡ w.start = ap (λ (x : Window). x.start) (sym same) in
    let to_own : v.end ≡ w.end = ap (λ (x : Window). x.end) (sym same) in
    (are.volatile 0 is.first is.departs).flushed p e (omega (arith, start, from, from_own)) (omega (arith, before, to, to_own)) there
one_calm way es cut bound tears ds (Some w) are is (suc i) v p e here holds there = absurd (let bad : None ≡ Some v = here in cc)

either : (way : By) (es : List Entry) (cut : ℕ) (ds : List Departure) (w : Option Window) → IfSome w (IsWindow way es cut ds) → IfNone w (HasNoWindow way es cut ds)
    → IsWindowIf way es cut ds w
either way es cut ds None some none = none
either way es cut ds (Some w) some none = some

-- the failure of a mark
pub failure_is : RankedIsModel → (s : StartsValue) (m : LineMark) (c : ChoiceValue) (way : By) (es : List Entry) (cut : ℕ) (ds : List Departure) (w : Option Window)
    → slice_get (ranked_choices s.plan s.bound s.tears) m.image ≡ Some c → way ≡ s.plan.by → s.plan.log.entries ≡ es → cut ≡ c.cut → ds ≡ c.departures
    → IfSome w (IsWindow way es cut ds) → IfNone w (HasNoWindow way es cut ds) → IsFailureAt s m (record { program = m.program; window = w })
failure_is law s m c way es cut ds w there ways own cuts departs some none =
    let window : IsWindowIf s.plan.by s.plan.log.entries c.cut c.departures w =
    subst (λ (xs : List Departure). IsWindowIf s.plan.by s.plan.log.entries c.cut xs w) departs
    (subst (λ (k : ℕ). IsWindowIf s.plan.by s.plan.log.entries k ds w) cuts
    (subst (λ (xs : List Entry). IsWindowIf s.plan.by xs cut ds w) (sym own)
    (subst (λ (v : By). IsWindowIf v es cut ds w) ways (either way es cut ds w some none)))) in
    record {
      program = refl;
      choice = c;
      there = there;
      window = window;
      inside = one_inside s.plan.by s.plan.log.entries c.cut c.departures w (cut_within s.plan.kind s.plan.log.entries c.cut ((law s.plan s.bound s.tears).wanted m.image c there)) window;
      calm = one_calm s.plan.by s.plan.log.entries c.cut s.bound s.tears c.departures w ((law s.plan s.bound s.tears).sound m.image c there) window;
    }

-- the windows of one failure more
windows_more : (fs : List Failure) (f : Failure) → windows_in (fs ++ f ∷ []) ≡ windows_in fs ++ own_window f
windows_more fs f = flat_map-append own_window fs (f ∷ []) ∙ ap (λ (ws : List Window). windows_in fs ++ ws) (append-nil (own_window f))

pub one_more : (s : StartsValue) (ms : List LineMark) (k : ℕ) (m : LineMark) (fs : List Failure) (f : Failure) → slice_get ms k ≡ Some m → AreFailuresAt s (take k ms) fs → IsFailureAt s m f
    → AreFailuresAt s (take (k + 1) ms) (fs ++ f ∷ [])
one_more s ms k m fs f here was is =
    let more : take (k + 1) ms ≡ take k ms ++ m ∷ [] = ap (λ n. take n ms) (add-one k) ∙ take-suc_place ms k m here in
    let long = was.all in
    rw more (record {
      all = omega (arith, long, length-append fs (f ∷ []), length-append (take k ms) (m ∷ []));
      each = λ i n g at own. elim (slice_get_of_push (take k ms) m i n at) [
        | inl before ↦ elim (slice_get_of_push fs f i g own) [
          | inl there ↦ was.each i n g before there
          | inr last ↦ absurd (let lt = slice_get_within (take k ms) i n before in let e = last.0 in omega (arith, lt, e, long))
        ]
        | inr end ↦ elim (slice_get_of_push fs f i g own) [
          | inl there ↦ absurd (let lt = slice_get_within fs i g there in let e = end.0 in omega (arith, lt, e, long))
          | inr last ↦ subst (λ (x : LineMark). IsFailureAt s x g) (sym end.1) (subst (λ (x : Failure). IsFailureAt s m x) (sym last.1) is)
        ]
      ];
      inside = λ i w at. elim (slice_get_of_append (windows_in fs) (own_window f) i w (ap (λ (ws : List Window). slice_get ws i) (sym (windows_more fs f)) ∙ at)) [
        | inl before ↦ was.inside i w before.1
        | inr beyond ↦ is.inside (i - length (windows_in fs)) w beyond.1
      ];
      calm = λ i w p e at holds there. elim (slice_get_of_append (windows_in fs) (own_window f) i w (ap (λ (ws : List Window). slice_get ws i) (sym (windows_more fs f)) ∙ at)) [
        | inl before ↦ was.calm i w p e before.1 holds there
        | inr beyond ↦ is.calm (i - length (windows_in fs)) w p e beyond.1 holds there
      ];
    })
