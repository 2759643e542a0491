-- The runs of the parts look for cases at the cuts of the whole run.
use Rattle.std.proofs.Common.{ℕ, ◌≡◌, ◌≤◌, ◌<◌, ◌+◌, Bool, true, false, if◌then◌else◌, nat_le, List, length, take, drop, slice_get, Option, None, Some, IfSome, unwrap_or, min, refl, sym, subst, ◌∙◌, ap, arith}
use Rattle.std.proofs.lemmas.Bool.Decides.{nat_tests}
use Rattle.logfmt.specs.declared.entry.Entry.{Entry}
use Rattle.epochs.specs.declared.cuts.Cuts.{Cuts}
use Rattle.epochs.specs.Cuts.{is_of_kind, is_after_first, is_before_last, is_wanted, cuts_of}
use Rattle.cases.specs.Risk.{is_last_cut}
use Rattle.case_runs.specs.Cuts.{explored_cuts}
use Rattle.request.specs.declared.any_losses.AnyLosses.{AnyLosses}
use Rattle.case_runs.specs.Cuts.{are_last_enough, first_wanted, last_wanted, case_cuts}
use Rattle.inspect.specs.CutLayout.{cut_part_count}
use Rattle.inspect.specs.CutParts.{in_range, cuts_in, IsRange, CutPartsAreRun}
use Rattle.inspect.proofs.CutPieces.{Splits, ends_in, kind_in, same_on, filter_inside, splits_last, splits_kind, parts_have_all, count_ranges}

-- the cuts of a range where cases are looked for: the last ones and its end, or those of the kind
abbrev plain_in : Bool → List Entry → Cuts → ℕ → ℕ → List ℕ
plain_in last es cuts from to = if last then ends_in (is_last_cut es) from to else kind_in (is_of_kind cuts.kind es) from to

within : (from n : ℕ) → from ≤ n → min from n ≡ from
within from n le = omega (arith, le)

is_plain : (l : AnyLosses) (cuts : Cuts) (es : List Entry) (from to : ℕ) → from ≤ to → to ≤ length es → cuts_in l cuts es from to ≡ plain_in (are_last_enough l.at_most cuts) es cuts from to
unfolding case_cuts
is_plain l cuts es from to le few =
    let first = within from (length es) (omega (arith, le, few)) in
    let last = within to (length es) few in
    elim (are_last_enough l.at_most cuts) as
    (λ b. (if b then explored_cuts es (min from (length es)) (min to (length es)) else cuts_of (in_range cuts from to) es) ≡ plain_in b es cuts from to) [
      | true ↦ ap (λ k. explored_cuts es k (min to (length es))) first ∙ ap (explored_cuts es from) last
      | false ↦ filter_inside (is_of_kind cuts.kind es) from to (length es + 1) le (omega (arith, few))
    ]

splits_plain : (b : Bool) (es : List Entry) (cuts : Cuts) (last : ℕ) → Splits (plain_in b es cuts) last
splits_plain true es cuts last = splits_last (is_last_cut es) last
splits_plain false es cuts last = splits_kind (is_of_kind cuts.kind es) last

splits : (l : AnyLosses) (cuts : Cuts) (es : List Entry) (last : ℕ) → last ≤ length es → Splits (cuts_in l cuts es) last
splits l cuts es last few first n b le there less =
    let at = plain_in (are_last_enough l.at_most cuts) es cuts in
    let whole = is_plain l cuts es first last le few in
    let p = splits_plain (are_last_enough l.at_most cuts) es cuts last first n b le (ap (λ xs. slice_get xs n) (sym whole) ∙ there) (subst (λ (xs : List ℕ). n + 1 < length xs) whole less) in
    let front = is_plain l cuts es first b p.0 (omega (arith, p.1, few)) in
    let back = is_plain l cuts es (b + 1) last (omega (arith, p.1)) few in
    (p.0, p.1, front ∙ p.2 ∙ ap (take (n + 1)) (sym whole), back ∙ p.3 ∙ ap (drop (n + 1)) (sym whole))

-- where a bound isn't given it is that of the log
from_first : (o : Option ℕ) (n k : ℕ) → IfSome o (λ first. first ≤ n) → nat_le (min (unwrap_or o 0) n) k ≡ is_after_first o k
from_first None n k le = grind (arith, nat_tests)
from_first (Some first) n k le = ap (λ (m : ℕ). nat_le m k) (within first n le)

to_last : (o : Option ℕ) (n k : ℕ) → k ≤ n → IfSome o (λ last. last ≤ n) → nat_le k (min (unwrap_or o n) n) ≡ is_before_last o k
to_last None n k few le = let end : min n n ≡ n = omega arith in rw end (grind (arith, nat_tests, few))
to_last (Some last) n k few le = ap (λ (m : ℕ). nat_le k m) (within last n le)

same_kind : (cuts : Cuts) (es : List Entry) → IsRange cuts (length es)
    → cuts_of (in_range cuts (first_wanted cuts (length es)) (last_wanted cuts (length es))) es ≡ cuts_of cuts es
same_kind cuts es range =
    same_on (is_wanted (in_range cuts (first_wanted cuts (length es)) (last_wanted cuts (length es))) es) (is_wanted cuts es) 0 (length es + 1)
    (λ k low high.
    let first = from_first cuts.from (length es) k range.from in
    let last = to_last cuts.to (length es) k (omega (arith, high)) range.to in
    rw (first, last) refl)

same_ends : (cuts : Cuts) (es : List Entry) → IsRange cuts (length es)
    → explored_cuts es (min (first_wanted cuts (length es)) (length es)) (min (last_wanted cuts (length es)) (length es))
    ≡ explored_cuts es (first_wanted cuts (length es)) (last_wanted cuts (length es))
same_ends cuts es range =
    let first : min (first_wanted cuts (length es)) (length es) ≡ first_wanted cuts (length es) = omega arith in
    let last : min (last_wanted cuts (length es)) (length es) ≡ last_wanted cuts (length es) = omega arith in
    ap (λ k. explored_cuts es k (min (last_wanted cuts (length es)) (length es))) first ∙ ap (explored_cuts es (first_wanted cuts (length es))) last

whole_is : (l : AnyLosses) (cuts : Cuts) (es : List Entry) → IsRange cuts (length es)
    → cuts_in l cuts es (first_wanted cuts (length es)) (last_wanted cuts (length es)) ≡ case_cuts l.at_most cuts es
unfolding case_cuts
whole_is l cuts es range =
    let first = first_wanted cuts (length es) in
    let last = last_wanted cuts (length es) in
    elim (are_last_enough l.at_most cuts) as
    (λ b. (if b then explored_cuts es (min first (length es)) (min last (length es)) else cuts_of (in_range cuts first last) es) ≡ (if b then explored_cuts es first last else cuts_of cuts es)) [
      | true ↦ same_ends cuts es range
      | false ↦ same_kind cuts es range
    ]

pub are_run : CutPartsAreRun
are_run l cuts es risks parts range are =
    let first = first_wanted cuts (length es) in
    let last = last_wanted cuts (length es) in
    let whole = whole_is l cuts es range in
    let count = cut_part_count risks parts in
    record {
      all =
          parts_have_all (cuts_in l cuts es) last (splits l cuts es last (omega arith)) count first risks range.rising (are ∙ sym whole) (omega arith)
          (λ some. omega (arith, some));
      whole = whole;
      count = count_ranges count first last risks;
    }
