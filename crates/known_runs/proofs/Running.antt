-- The records of a text are records of the log.
use Rattle.std.proofs.Common.{ℕ, zero, suc, ◌≡◌, ◌+◌, ◌-◌, ◌<◌, ◌≤◌, ◌&&◌, nat_lt, nat_le, Bool, true, false, List, [], ◌∷◌, ◌++◌, length, map, Option, None, Some, All, refl, sym, subst, ap, ◌∙◌, arith}
use Rattle.std.specs.List.{flat_map, list_all, range_with_len}
use Rattle.std.proofs.lemmas.Bool.Decides.{nat_tests}
use Rattle.std.proofs.lemmas.List.{length-map}
use Rattle.std.proofs.lemmas.List.Elements.{All-nil, All-cons, All-head, All-tail}
use Rattle.logfmt.specs.Bounds.{LogValue}
use Rattle.epochs.specs.declared.part.By.{By}
use Rattle.epochs.specs.declared.part.Part.{Part}
use Rattle.cases.specs.AtCut.{parts_of}
use Rattle.lost_text.specs.Lost.{set_of}
use Rattle.known.specs.declared.run.KnownRun.{KnownRun}
use Rattle.known.specs.Records.{IsRun}
use Rattle.known_text.specs.declared.looked.SectorRange.{SectorRange}
use Rattle.known_text.specs.Ranges.{is_range, count_in, sectors_in}
use Rattle.known_text.specs.Records.{RanValue, IsRan, cut_at, ran_of}
use Rattle.known_text.specs.Texts.{Source, HeadValue, Piece, Head, Ran, AreGood, runs_of, IsKnown, IsKnownOnly}

all_append : (P : ℕ → Type 0) (xs ys : List ℕ) → All P xs → All P ys → All P (xs ++ ys)
all_append P [] ys here rest = rest
all_append P (x ∷ xs) ys here rest = All-cons P x (xs ++ ys) (All-head P x xs here) (all_append P xs ys (All-tail P x xs here) rest)

all_row : (m a n : ℕ) → a + n ≤ m → All (λ s. s < m) (range_with_len a n)
all_row m a zero within = All-nil (λ s. s < m)
all_row m a (suc n) within = All-cons (λ s. s < m) a (range_with_len (a + 1) n) (omega (arith, within)) (all_row m (a + 1) n (omega (arith, within)))

both_so : (a b : Bool) → (a && b) ≡ true → (a ≡ true) × (b ≡ true)
both_so true b is = (refl, is)
both_so false b is = absurd (let bad : false ≡ true = is in cc)

all_looked : (m : ℕ) (ranges : List SectorRange) → list_all (is_range m) ranges ≡ true → All (λ s. s < m) (flat_map sectors_in ranges)
all_looked m [] are = All-nil (λ s. s < m)
all_looked m (r ∷ ranges) are =
    let two = both_so (is_range m r) (list_all (is_range m) ranges) are in
    let own = both_so (nat_le r.first r.last) (nat_lt r.last m) two.0 in
    let order_test = own.0 in
    let device_test = own.1 in
    let order : r.first ≤ r.last = grind (arith, nat_tests, order_test) in
    let device : r.last < m = grind (arith, nat_tests, device_test) in
    all_append (λ s. s < m) (sectors_in r) (flat_map sectors_in ranges) (all_row m r.first (count_in r) (omega (arith, order, device))) (all_looked m ranges two.1)

pub is_run : (log : LogValue) (way : By) (line : List ℕ) (r : KnownRun) → IsRan log way line (ran_of r) → IsRun log way r
is_run log way line r is = record {
  within = is.within;
  each = ap (λ (xs : List ℕ). length xs) is.sets ∙ length-map (parts_of (cut_at log way r.cut)) (λ (p : Part). set_of (is.said.choice p));
  device = subst (λ (xs : List ℕ). All (λ s. s < log.sectors) xs) (sym is.sectors.all) (all_looked log.sectors is.sectors.ranges is.sectors.are);
}

heads_same : (a b : RanValue) (rest others : List RanValue) → ◌≡◌ {A = List RanValue} (a ∷ rest) (b ∷ others) → (a ≡ b) × (rest ≡ others)
heads_same a b rest others same = (cc, cc)

are_good : (s : Source) (pieces : List Piece) (runs : List KnownRun) → AreGood s pieces → map ran_of runs ≡ runs_of pieces → All (IsRun s.log s.way) runs
are_good s [] [] good same = All-nil (IsRun s.log s.way)
are_good s [] (r ∷ runs) good same = absurd (let bad : ◌≡◌ {A = List RanValue} (ran_of r ∷ map ran_of runs) [] = same in cc)
are_good s (Head ∷ pieces) runs good same = are_good s pieces runs good same
are_good s (Ran line run ∷ pieces) [] good same = All-nil (IsRun s.log s.way)
are_good s (Ran line run ∷ pieces) (r ∷ runs) good same =
    let two = heads_same (ran_of r) run (map ran_of runs) (runs_of pieces) same in
    All-cons (IsRun s.log s.way) r runs (is_run s.log s.way line r (subst (λ (x : RanValue). IsRan s.log s.way line x) (sym two.0) good.0)) (are_good s pieces runs good.1 two.1)

no_runs : (runs : List KnownRun) (P : KnownRun → Type 0) → map ran_of runs ≡ [] → All P runs
no_runs [] P same = All-nil P
no_runs (r ∷ runs) P same = absurd (let bad : ◌≡◌ {A = List RanValue} (ran_of r ∷ map ran_of runs) [] = same in cc)

pub are_runs : (s : Source) (bytes : List ℕ) (head : Option HeadValue) (runs : List KnownRun) → IsKnownOnly s bytes head (map ran_of runs) → All (IsRun s.log s.way) runs
are_runs s bytes head runs only = by_head head only.is
  where
    by_head : (h : Option HeadValue) → IsKnown s bytes h (map ran_of runs) → All (IsRun s.log s.way) runs
    by_head None is = no_runs runs (IsRun s.log s.way) is.1
    by_head (Some h) is = are_good s is.are.pieces runs is.are.good is.are.said
