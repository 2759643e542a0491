-- The order of values, of groups and of states: each is under itself, it leads on in a row of three, and two that
-- are under each other are the same.
use Rattle.std.proofs.Common.{◌≡◌, ℕ, zero, suc, Bool, true, false, IsTrue, inl, inr, List, [], ◌∷◌, replicate, refl, sym, ◌∙◌, ap, arith}
use Rattle.std.proofs.lemmas.Int.{ints}
use Rattle.intervals.specs.Spans.{Span, Within}
use Rattle.intervals.specs.Reducing.{Limits, LimitsWithin}
use Rattle.intervals.proofs.CallerLemmas.{within_self, within_chain}
use Rattle.ranges.specs.Kinds.{Kind, Unset, Word, Num, Ctx, Stack, Sector, SectorOrNull, is_number}
use Rattle.ranges.specs.Groups.{GroupKind, Marked, Spilled, unset_marks}
use Rattle.ranges.specs.States.{Abstract}
use Rattle.ranges.specs.Order.{Under, IsWord, MarksUnder, GroupUnder, EachUnder, StateUnder}

span_chain : (x y z : Span) → Within x y → Within y z → Within x z
span_chain x y z p q = record { from = omega (arith, p.from, q.from); upto = omega (arith, p.upto, q.upto) }

word_chain : (k l : Kind) → Under k l → IsWord l → IsWord k
word_chain Unset Unset p q = absurd q
word_chain Unset l p q = absurd p
word_chain k l p q = tt

pub under_chain : (k l m : Kind) → Under k l → Under l m → Under k m
under_chain k l Unset p q = tt
under_chain k l Word p q = word_chain k l p q
under_chain (Num x) (Num y) (Num z) p q = within_chain x y z p q
under_chain k (Num y) (Num z) p q = absurd p
under_chain k l (Num z) p q = absurd q
under_chain (Ctx a) (Ctx b) (Ctx c) p q = p ∙ q
under_chain k (Ctx b) (Ctx c) p q = absurd p
under_chain k l (Ctx c) p q = absurd q
under_chain (Stack a) (Stack b) (Stack c) p q = p ∙ q
under_chain k (Stack b) (Stack c) p q = absurd p
under_chain k l (Stack c) p q = absurd q
under_chain (Sector x) (Sector y) (Sector z) p q = span_chain x y z p q
under_chain k (Sector y) (Sector z) p q = absurd p
under_chain k l (Sector z) p q = absurd q
under_chain SectorOrNull SectorOrNull SectorOrNull p q = tt
under_chain k SectorOrNull SectorOrNull p q = absurd p
under_chain k l SectorOrNull p q = absurd q

each_chain : {X : Type 0} (R : X → X → Type 0) → ((x y z : X) → R x y → R y z → R x z)
    → (xs ys zs : List X) → EachUnder R xs ys → EachUnder R ys zs → EachUnder R xs zs
each_chain R f [] [] [] p q = tt
each_chain R f [] [] (z ∷ zs) p q = absurd q
each_chain R f [] (y ∷ ys) zs p q = absurd p
each_chain R f (x ∷ xs) [] zs p q = absurd p
each_chain R f (x ∷ xs) (y ∷ ys) [] p q = absurd q
each_chain R f (x ∷ xs) (y ∷ ys) (z ∷ zs) p q = (f x y z p.0 q.0, each_chain R f xs ys zs p.1 q.1)

marks_chain : (xs ys zs : List Bool) → MarksUnder xs ys → MarksUnder ys zs → MarksUnder xs zs
marks_chain [] [] [] p q = tt
marks_chain [] [] (z ∷ zs) p q = absurd q
marks_chain [] (y ∷ ys) zs p q = absurd p
marks_chain (x ∷ xs) [] zs p q = absurd p
marks_chain (x ∷ xs) (y ∷ ys) [] p q = absurd q
marks_chain (x ∷ xs) (y ∷ ys) (z ∷ zs) p q = (λ t. p.0 (q.0 t), marks_chain xs ys zs p.1 q.1)

-- marks that are above unset ones are unset
above_unset : (n : ℕ) (zs : List Bool) → MarksUnder (replicate n false) zs → zs ≡ replicate n false
above_unset zero [] p = refl
above_unset zero (z ∷ zs) p = absurd p
above_unset (suc n) [] p = absurd p
above_unset (suc n) (false ∷ zs) p = rw (above_unset n zs p.1) refl
above_unset (suc n) (true ∷ zs) p = absurd (let bad : false ≡ true = p.0 refl in cc)

-- what is under a number is one
pub number_under : (k l : Kind) → Under k l → IsTrue (is_number l) → IsTrue (is_number k)
number_under (Num x) (Num y) p n = refl
number_under k (Num y) p n = absurd p
number_under k Unset p n = absurd (let bad : false ≡ true = n in cc)
number_under k Word p n = absurd (let bad : false ≡ true = n in cc)
number_under k (Ctx a) p n = absurd (let bad : false ≡ true = n in cc)
number_under k (Stack a) p n = absurd (let bad : false ≡ true = n in cc)
number_under k (Sector x) p n = absurd (let bad : false ≡ true = n in cc)
number_under k SectorOrNull p n = absurd (let bad : false ≡ true = n in cc)

group_chain : (g h i : GroupKind) → GroupUnder g h → GroupUnder h i → GroupUnder g i
group_chain (Marked xs) (Marked ys) (Marked zs) p q = marks_chain xs ys zs p q
group_chain (Marked xs) (Marked ys) (Spilled m) p q = absurd q
group_chain (Marked xs) (Spilled l) i p q = absurd p
group_chain (Spilled k) (Marked ys) (Marked zs) p q =
    elim p [ inl n ↦ inl n | inr unset ↦ inr (let above : MarksUnder unset_marks zs = rw unset at q in above_unset 8 zs above) ]
group_chain (Spilled k) (Marked ys) (Spilled m) p q = absurd q
group_chain (Spilled k) (Spilled l) (Marked zs) p q = elim q [ inl n ↦ inl (number_under k l p n) | inr unset ↦ inr unset ]
group_chain (Spilled k) (Spilled l) (Spilled m) p q = under_chain k l m p q

pub state_chain : (s t u : Abstract) → StateUnder s t → StateUnder t u → StateUnder s u
state_chain s t u p q = record {
  values = each_chain Under under_chain s.values t.values u.values p.values q.values;
  groups = each_chain GroupUnder group_chain s.groups t.groups u.groups p.groups q.groups;
}

-- each is under itself
pub under_self : (k : Kind) → Under k k
under_self Unset = tt
under_self Word = tt
under_self (Num x) = within_self x
under_self (Ctx a) = refl
under_self (Stack a) = refl
under_self (Sector x) = record { from = omega arith; upto = omega arith }
under_self SectorOrNull = tt

marks_self : (xs : List Bool) → MarksUnder xs xs
marks_self [] = tt
marks_self (x ∷ xs) = (λ t. t, marks_self xs)

pub group_self : (g : GroupKind) → GroupUnder g g
group_self (Marked xs) = marks_self xs
group_self (Spilled k) = under_self k

pub each_self : {X : Type 0} (R : X → X → Type 0) → ((x : X) → R x x) → (xs : List X) → EachUnder R xs xs
each_self R f [] = tt
each_self R f (x ∷ xs) = (f x, each_self R f xs)

pub state_self : (s : Abstract) → StateUnder s s
state_self s = record { values = each_self Under under_self s.values; groups = each_self GroupUnder group_self s.groups }

-- two that are under each other are the same

span_both : (x y : Span) → Within x y → Within y x → x ≡ y
span_both x y p q =
    let low : x.low ≡ y.low = omega (arith, p.from, q.from) in
    let high : x.high ≡ y.high = omega (arith, p.upto, q.upto) in
    λ i. record { low = low i; high = high i }

limits_both : (x y : Limits) → LimitsWithin x y → LimitsWithin y x → x ≡ y
limits_both x y p q =
    let words : x.unsigned ≡ y.unsigned = span_both x.unsigned y.unsigned p.unsigned q.unsigned in
    let low : x.signed.low ≡ y.signed.low = omega (arith, ints, p.signed.from, q.signed.from) in
    let high : x.signed.high ≡ y.signed.high = omega (arith, ints, p.signed.upto, q.signed.upto) in
    λ i. record { unsigned = words i; signed = record { low = low i; high = high i } }

under_both : (k l : Kind) → Under k l → Under l k → k ≡ l
under_both Unset Unset p q = refl
under_both Word Word p q = refl
under_both (Num x) (Num y) p q = ap (λ z. Num z) (limits_both x y p q)
under_both (Ctx a) (Ctx b) p q = ap (λ z. Ctx z) p
under_both (Stack a) (Stack b) p q = ap (λ z. Stack z) p
under_both (Sector x) (Sector y) p q = ap (λ z. Sector z) (span_both x y p q)
under_both SectorOrNull SectorOrNull p q = refl
under_both k Unset p q = absurd q
under_both Unset l p q = absurd p
under_both k Word p q = absurd q
under_both k l p q = absurd p

bool_both : (x y : Bool) → (IsTrue y → IsTrue x) → (IsTrue x → IsTrue y) → x ≡ y
bool_both true y p q = sym (q refl)
bool_both false true p q = p refl
bool_both false false p q = refl

marks_both : (xs ys : List Bool) → MarksUnder xs ys → MarksUnder ys xs → xs ≡ ys
marks_both [] [] p q = refl
marks_both [] (y ∷ ys) p q = absurd p
marks_both (x ∷ xs) [] p q = absurd p
marks_both (x ∷ xs) (y ∷ ys) p q = rw (bool_both x y p.0 q.0, marks_both xs ys p.1 q.1) refl

group_both : (g h : GroupKind) → GroupUnder g h → GroupUnder h g → g ≡ h
group_both (Marked xs) (Marked ys) p q = ap (λ z. Marked z) (marks_both xs ys p q)
group_both (Marked xs) (Spilled l) p q = absurd p
group_both (Spilled k) (Marked ys) p q = absurd q
group_both (Spilled k) (Spilled l) p q = ap (λ z. Spilled z) (under_both k l p q)

each_both : {X : Type 0} (R : X → X → Type 0) → ((x y : X) → R x y → R y x → x ≡ y) → (xs ys : List X) → EachUnder R xs ys → EachUnder R ys xs → xs ≡ ys
each_both R f [] [] p q = refl
each_both R f [] (y ∷ ys) p q = absurd p
each_both R f (x ∷ xs) [] p q = absurd p
each_both R f (x ∷ xs) (y ∷ ys) p q = rw (f x y p.0 q.0, each_both R f xs ys p.1 q.1) refl

pub state_both : (s t : Abstract) → StateUnder s t → StateUnder t s → s ≡ t
state_both s t p q =
    let values : s.values ≡ t.values = each_both Under under_both s.values t.values p.values q.values in
    let groups : s.groups ≡ t.groups = each_both GroupUnder group_both s.groups t.groups p.groups q.groups in
    λ i. record { values = values i; groups = groups i }
